-- The steps of a look, as an op does them.
use Rattle.std.proofs.Common.{◌≡◌, ℕ, Bool, List, [], ◌∷◌, ◌++◌, Option, Result, ap, subst, sym}
use Rattle.call_types.specs.declared.feed.Cut.{Cut}
use Rattle.call_types.specs.declared.reply.Reply.{Reply}
use Rattle.desk_base.specs.Answering.{Task}
use Rattle.desk_base.specs.Telling.{Effect}
use Rattle.desk_base.specs.Telling.Telling.{Head as TheHead}
use Rattle.drive_base.specs.View.{views}
use Rattle.drive_base.specs.declared.drive.Drive.{Ghosts}
use Rattle.drive_base.specs.declared.plan.SetPlan.{SetPlan}
use Rattle.slot_core.specs.Sections.{SaysKept}
use Rattle.slot_core.specs.Stubs.{Says}
use Rattle.slot_core.specs.declared.slot.SlotFault.{SlotFault}
use Rattle.slot_core.specs.declared.stub.Stub.{Stub}
use Rattle.receipts.specs.Events.{Log}
use Rattle.receipts.specs.Events.Event.{BarredFrom, Turned}
use Rattle.receipts.specs.Registers.{bucket_register, bucket_slot}
use Rattle.receipts.specs.declared.barred.Barred.{Barred}
use Rattle.receipts.specs.declared.barred.Barred.TheVariants as barred
use Rattle.op_steps.specs.Looking.{LookIsTurn, LookSays, shown_by}
use Rattle.op_steps.specs.Moves.{TellMoves}
use Rattle.op_steps.specs.Store.{TellerSeen}
use Rattle.op_steps.specs.Notes.{noted}
use Rattle.op_steps.specs.Store.{SlotSeen}
use Rattle.op_steps.specs.Words.{BarredSo, IsSection, TellsSo, TurnsSo}
use Rattle.op_steps.specs.declared.next.OpNext.{OpNext}
use Rattle.op_steps.specs.declared.next.OpNext.TheVariants.{Data, Done, Feed, Section, Tell}
use Rattle.bucket_ops.specs.Looks.{AfterLook, HasDone, StandsSo, barred_state, look_call, step_of}
use Rattle.bucket_ops.specs.declared.state.State.{State}
use Rattle.bucket_ops.specs.declared.state.State.TheVariants.{Looking, Over, Telling}
use Rattle.bucket_ops.proofs.LookLemmas.{done_after, no_room_done, spent_done}
use Rattle.op_steps.proofs.TellLemmas.{told_pays}
use Rattle.bucket_ops.proofs.TellLemmas.{no_bytes, none_after}

-- the slot of a section
abbrev slot_in : OpNext → ℕ
slot_in (Section k) = k
slot_in Data = 0
slot_in Feed = 0
slot_in Tell = 0
slot_in Done = 0

-- where a section comes next nothing was done yet, and it is of the bucket's slot
pub record IsAtStart (slot k : ℕ) (log : Log) : Type 0 where
  pub slot_is : slot ≡ k
  pub nothing : log ≡ []

at_start : (set : SetPlan) (task : Task) (slot k : ℕ) (state : State) (log : Log) → step_of state slot ≡ Section k → HasDone set task state log → IsAtStart slot k log
at_start set task slot k Looking log next done = record { slot_is = ap slot_in next; nothing = done }
at_start set task slot k (Telling reply) log next done = absurd (subst IsSection (sym next) tt)
at_start set task slot k (Over cut) log next done = absurd (subst IsSection (sym next) tt)

barred_done : (set : SetPlan) (asks : Bool) (bucket : List ℕ) (now k : ℕ) (why : Barred) → bucket_slot bucket ≡ k
    → HasDone set (record { call = look_call asks bucket; now = now }) (barred_state why) (BarredFrom k why ∷ [])
barred_done set asks bucket now k barred.Spent is =
    subst (λ i. HasDone set (record { call = look_call asks bucket; now = now }) (barred_state barred.Spent) (BarredFrom i barred.Spent ∷ [])) is
    (spent_done set asks bucket now)
barred_done set asks bucket now k barred.NoMemory is = no_room_done set (record { call = look_call asks bucket; now = now }) k

-- a look that can't be done
pub barred_so : (set : SetPlan) (asks : Bool) (bucket : List ℕ) (now : ℕ) (state : State) (why : Barred)
    → BarredSo (StandsSo set (record { call = look_call asks bucket; now = now }) (bucket_slot bucket) state)
    (StandsSo set (record { call = look_call asks bucket; now = now }) (bucket_slot bucket) (barred_state why)) (step_of state (bucket_slot bucket)) why
barred_so set asks bucket now state why claim log k next x =
    let start = at_start set (record { call = look_call asks bucket; now = now }) (bucket_slot bucket) k state log next x.done in
    record {
      none = x.none;
      done = subst (λ l. HasDone set (record { call = look_call asks bucket; now = now }) (barred_state why) (l ++ BarredFrom k why ∷ [])) (sym start.nothing)
          (barred_done set asks bucket now k why start.slot_is);
    }

-- the look
pub section_so : {D : Type 0} (ghosts : Ghosts D) (set : SetPlan) (asks : Bool) (bucket name : List ℕ) (now : ℕ) (state later : State) (was after : SlotSeen D)
    (answer : Result (List ℕ) SlotFault) (stub : Option Stub) (old new : List D) → LookIsTurn ghosts → step_of state (bucket_slot bucket) ≡ Section was.numbers.index
    → name ≡ bucket_register bucket → LookSays ghosts was after name answer stub old new → AfterLook asks answer later
    → TurnsSo ghosts (StandsSo set (record { call = look_call asks bucket; now = now }) (bucket_slot bucket) state)
    (StandsSo set (record { call = look_call asks bucket; now = now }) (bucket_slot bucket) later) stub was after (views ghosts old) (views ghosts new)
section_so ghosts set asks bucket name now state later was after answer stub old new law next named says told claim log x =
    let start = at_start set (record { call = look_call asks bucket; now = now }) (bucket_slot bucket) was.numbers.index state log next x.done in
    let kept : Says stub (SaysKept (bucket_register bucket)) = subst (λ n. Says stub (SaysKept n)) named says.says in (
      claim,
      shown_by answer,
      record {
        none = x.none;
        done = subst (λ l. HasDone set (record { call = look_call asks bucket; now = now }) later (l ++ Turned was.numbers.index (noted stub) (shown_by answer) ∷ []))
            (sym start.nothing)
            (done_after set asks bucket now was.numbers answer stub later (sym start.slot_is) says.turns.stub_is kept told);
      },
      law was after name answer stub old new claim says,
    )

-- the telling
pub tell_so : {T : Type 0} (takes breaks : Effect T) (set : SetPlan) (asks : Bool) (bucket : List ℕ) (now : ℕ) (reply : Reply) (cut : Option Cut) (old new : TellerSeen T) → TellMoves takes breaks (TheHead reply) cut old new
    → TellsSo takes breaks (StandsSo set (record { call = look_call asks bucket; now = now }) (bucket_slot bucket) (Telling reply))
    (StandsSo set (record { call = look_call asks bucket; now = now }) (bucket_slot bucket) (Over cut)) old new
tell_so takes breaks set asks bucket now reply cut old new moves claim log x = (
  TheHead reply,
  cut,
  record {
    none = x.none;
    done = told_pays takes breaks set (record { call = look_call asks bucket; now = now }) reply log cut old new (none_after asks bucket reply)
        (no_bytes set asks bucket reply) x.done moves;
  },
  moves,
)
