-- The steps of the op of a change.
use Rattle.std.proofs.Common.{◌≡◌, ◌∙◌, ℕ, true, false, Bool, List, [], ◌∷◌, ◌++◌, Option, None, Result, vec_len, refl, sym, ap, subst}
use Rattle.bucket_book.specs.Laws.{ContentIsInjective}
use Rattle.call_types.specs.declared.feed.Cut.{Cut}
use Rattle.call_types.specs.declared.reply.Reply.{Reply}
use Rattle.call_types.specs.declared.reply.Reply.TheVariants.{Found}
use Rattle.desk_base.specs.Answering.{bytes_after}
use Rattle.desk_base.specs.Telling.{Effect}
use Rattle.desk_base.specs.Telling.Telling.{Head as TheHead}
use Rattle.drive_base.specs.View.{views}
use Rattle.drive_base.specs.declared.drive.Drive.{Ghosts}
use Rattle.drive_base.specs.declared.plan.SetPlan.{SetPlan}
use Rattle.slot_rules.specs.declared.commit.Commit.{Commit}
use Rattle.slot_rules.specs.declared.commit.Committed.{Committed}
use Rattle.slot_core.specs.CommitCauses.{CommitCause, deed_in}
use Rattle.slot_core.specs.Commits.{FitsFlight}
use Rattle.slot_core.specs.Stubs.{entry_of}
use Rattle.slot_core.specs.declared.slot.SlotFault.{SlotFault}
use Rattle.slot_core.specs.declared.stub.Stub.{Stub}
use Rattle.receipts.specs.Events.{Log}
use Rattle.receipts.specs.Events.Event.{BarredFrom}
use Rattle.receipts.specs.Events.Shown.{NoneShown}
use Rattle.receipts.specs.Registers.{bucket_slot}
use Rattle.receipts.specs.Spans.{GivesBytes}
use Rattle.receipts.specs.declared.barred.Barred.{Barred}
use Rattle.receipts.specs.declared.barred.Barred.TheVariants as barred
use Rattle.op_steps.specs.Committing.{CommitIsTurn, CommitSays}
use Rattle.op_steps.specs.Moves.{TellMoves}
use Rattle.op_steps.specs.Store.{SlotSeen, TellerSeen}
use Rattle.op_steps.specs.Words.{BarredSo, IsSection, TellsSo, TurnsSo}
use Rattle.op_steps.specs.declared.next.OpNext.{OpNext}
use Rattle.op_steps.specs.declared.next.OpNext.TheVariants.{Data, Done, Feed, Section, Tell}
use Rattle.op_steps.proofs.TellLemmas.{none_pays, none_told, told_pays}
use Rattle.bucket_ops.specs.Changes.{AfterCommit, ChangeStands, HasChanged, IsDeedOf, MayCommit, barred_state, change_call, change_task, step_of}
use Rattle.bucket_ops.specs.Taking.{taken_of}
use Rattle.bucket_ops.specs.declared.change_state.BucketDeed.{BucketDeed}
use Rattle.bucket_ops.specs.declared.change_state.ChangeState.{ChangeState}
use Rattle.bucket_ops.specs.declared.change_state.ChangeState.TheVariants.{Committing, Over, Reading, Telling}
use Rattle.bucket_ops.specs.declared.document.Document.{Document}
use Rattle.bucket_ops.proofs.ChangeLemmas.{Commits}
use Rattle.bucket_ops.proofs.ChangeOpLemmas.{change_done, cuts_with, deed_named, owes_barred, sections_with, still_nothing, untold_with}

-- the slot of a section
abbrev slot_in : OpNext → ℕ
slot_in (Section k) = k
slot_in Data = 0
slot_in Feed = 0
slot_in Tell = 0
slot_in Done = 0

-- the deed of a state
abbrev deed_of : BucketDeed → ChangeState → BucketDeed
deed_of other Reading = other
deed_of other (Committing deed) = deed
deed_of other (Telling reply) = other
deed_of other (Over cut) = other

-- a deed on a bucket brings no data
fits_none : (sets : Bool) (bucket body : List ℕ) (deed : Commit) → IsDeedOf sets bucket body deed → FitsFlight deed None
fits_none false bucket body deed is = subst (λ d. FitsFlight d None) (sym is) refl
fits_none true bucket body deed is = subst (λ d. FitsFlight d None) (sym is.2) refl

-- where a section comes next it is the commit of a deed, at the bucket's slot
pub record IsAtCommit (set : SetPlan) (sets : Bool) (document : Document) (bucket : List ℕ) (slot k : ℕ) (state : ChangeState) (log : Log) : Type 0 where
  pub slot_is : slot ≡ k
  pub deed : BucketDeed
  pub is : state ≡ Committing deed
  pub may : MayCommit sets document bucket deed.commit log

pub at_commit : (set : SetPlan) (sets : Bool) (document : Document) (bucket : List ℕ) (now slot k : ℕ) (state : ChangeState) (log : Log) → step_of state slot ≡ Section k
    → HasChanged set sets document bucket now state log → IsAtCommit set sets document bucket slot k state log
at_commit set sets document bucket now slot k Reading log next done = absurd (subst IsSection (sym next) tt)
at_commit set sets document bucket now slot k (Committing deed) log next done =
    record { slot_is = ap slot_in next; deed = deed; is = refl; may = done }
at_commit set sets document bucket now slot k (Telling reply) log next done = absurd (subst IsSection (sym next) tt)
at_commit set sets document bucket now slot k (Over cut) log next done = absurd (subst IsSection (sym next) tt)

-- a commit that can't be done
barred_done : (set : SetPlan) (sets : Bool) (document : Document) (bucket : List ℕ) (now : ℕ) (deed : Commit) (log : Log) (why : Barred)
    → MayCommit sets document bucket deed log
    → HasChanged set sets document bucket now (barred_state why) (log ++ BarredFrom (bucket_slot bucket) why ∷ [])
barred_done set sets document bucket now deed log barred.Spent may = record {
  untold = untold_with log (BarredFrom (bucket_slot bucket) barred.Spent) may.taken.untold tt;
  uncut = cuts_with log (BarredFrom (bucket_slot bucket) barred.Spent) may.taken.uncut;
  owed = owes_barred set sets document bucket now deed log may;
}
barred_done set sets document bucket now deed log barred.NoMemory may =
    none_pays set (change_task sets document bucket now) (log ++ BarredFrom (bucket_slot bucket) barred.NoMemory ∷ [])
    (cuts_with log (BarredFrom (bucket_slot bucket) barred.NoMemory) may.taken.uncut)
    (none_told (log ++ BarredFrom (bucket_slot bucket) barred.NoMemory ∷ []) (untold_with log (BarredFrom (bucket_slot bucket) barred.NoMemory) may.taken.untold tt))
    (still_nothing set sets document bucket now (log ++ BarredFrom (bucket_slot bucket) barred.NoMemory ∷ [])
    (sections_with log (BarredFrom (bucket_slot bucket) barred.NoMemory) may.taken.sections))

pub barred_so : (set : SetPlan) (sets : Bool) (document : Document) (bucket : List ℕ) (now : ℕ) (state : ChangeState) (why : Barred)
    → BarredSo (ChangeStands set sets document bucket now (bucket_slot bucket) state)
    (ChangeStands set sets document bucket now (bucket_slot bucket) (barred_state why)) (step_of state (bucket_slot bucket)) why
barred_so set sets document bucket now state why claim log k next x =
    let at = at_commit set sets document bucket now (bucket_slot bucket) k state log next x.done in
    record {
      none = x.none;
      done = subst (λ i. HasChanged set sets document bucket now (barred_state why) (log ++ BarredFrom i why ∷ [])) at.slot_is
          (barred_done set sets document bucket now at.deed.commit log why at.may);
    }

-- the commit
pub section_so : {D : Type 0} (ghosts : Ghosts D) (one : ContentIsInjective) (set : SetPlan) (sets : Bool) (document : Document) (bucket : List ℕ) (now : ℕ)
    (state later : ChangeState) (deed : BucketDeed) (was after : SlotSeen D) (answer : Result Committed SlotFault) (stub : Option Stub) (old new : List D)
    → CommitIsTurn ghosts → step_of state (bucket_slot bucket) ≡ Section was.numbers.index → state ≡ Committing deed
    → (FitsFlight deed.commit None → CommitSays ghosts was after deed.commit now answer stub old new)
    → CommitCause ghosts was.numbers after.numbers deed.commit None now answer (deed_in (entry_of stub)) was.lanes after.lanes old new
    → AfterCommit answer later
    → TurnsSo ghosts (ChangeStands set sets document bucket now (bucket_slot bucket) state)
    (ChangeStands set sets document bucket now (bucket_slot bucket) later) stub was after (views ghosts old) (views ghosts new)
section_so {D} ghosts one set sets document bucket now state later deed was after answer stub old new law next is says cause told claim log x =
    let at = at_commit set sets document bucket now (bucket_slot bucket) was.numbers.index state log next x.done in
    let same : at.deed ≡ deed = ap (deed_of deed) (sym at.is ∙ is) in
    let may : MayCommit sets document bucket deed.commit log = subst (λ (d : BucketDeed). MayCommit sets document bucket d.commit log) same at.may in
    let said = says (fits_none sets bucket (taken_of document) deed.commit may.deed_is) in
    let commits : Commits was.numbers bucket deed.commit now answer stub = record {
      index = sym at.slot_is;
      named = deed_named sets document bucket deed.commit (taken_of document) may.deed_is;
      stub_is = said.turns.stub_is;
      says = said.says;
    } in (
      claim,
      NoneShown,
      record {
        none = x.none;
        done = change_done {D = D} ghosts one was.numbers after.numbers deed.commit stub was.lanes after.lanes old new set sets document
            bucket now log may answer later commits cause told;
      },
      law was after deed.commit now answer stub old new claim said,
    )

-- a reply has no body
pub no_bytes : (set : SetPlan) (sets : Bool) (long : ℕ) (bucket : List ℕ) (reply : Reply) (log : Log) → GivesBytes set (change_call sets long bucket) reply [] log
no_bytes set true long bucket (Found version span id) log = refl
no_bytes set false long bucket (Found version span id) log = refl
no_bytes set sets long bucket other log = refl

pub none_after : (sets : Bool) (long : ℕ) (bucket : List ℕ) (reply : Reply) → 0 ≡ bytes_after reply (change_call sets long bucket)
none_after true long bucket (Found version span id) = refl
none_after false long bucket (Found version span id) = refl
none_after sets long bucket other = refl

-- the telling
pub tell_so : {T : Type 0} (takes breaks : Effect T) (set : SetPlan) (sets : Bool) (document : Document) (bucket : List ℕ) (now : ℕ) (reply : Reply) (cut : Option Cut)
    (old new : TellerSeen T) → TellMoves takes breaks (TheHead reply) cut old new
    → TellsSo takes breaks (ChangeStands set sets document bucket now (bucket_slot bucket) (Telling reply))
    (ChangeStands set sets document bucket now (bucket_slot bucket) (Over cut)) old new
tell_so takes breaks set sets document bucket now reply cut old new moves claim log x = (
  TheHead reply,
  cut,
  record {
    none = x.none;
    done = told_pays takes breaks set (change_task sets document bucket now) reply log cut old new (none_after sets (vec_len document.bytes) bucket reply)
        (no_bytes set sets (vec_len document.bytes) bucket reply) x.done moves;
  },
  moves,
)
