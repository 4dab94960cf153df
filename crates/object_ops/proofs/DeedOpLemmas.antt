-- The steps of a deed, as an op does them.
use Rattle.std.proofs.Common.{◌≡◌, ◌<◌, ◌∙◌, ◌==◌, ℕ, Bool, true, false, List, [], ◌∷◌, ◌++◌, Option, None, Result, Ok, Err, IfOk, length, inl, refl, sym, ap, subst}
use Rattle.std.specs.Prelude.{if◌then◌else◌}
use Rattle.call_types.specs.declared.act.Act.{Act}
use Rattle.call_types.specs.declared.feed.Cut.{Cut}
use Rattle.call_types.specs.declared.names.Key.{Key}
use Rattle.call_types.specs.declared.names.Mode.{Mode}
use Rattle.call_types.specs.declared.reply.Reply.{Reply}
use Rattle.desk_base.specs.Answering.{Task}
use Rattle.desk_base.specs.Telling.{Effect}
use Rattle.desk_base.specs.Telling.Telling.{Head as TheHead}
use Rattle.drive_base.specs.View.{DriveView, views}
use Rattle.drive_base.specs.declared.drive.Drive.{Ghosts}
use Rattle.drive_base.specs.declared.plan.SetPlan.{SetPlan}
use Rattle.fault_base.specs.declared.memory.NoMemory.{NoMemory}
use Rattle.slot_rules.specs.declared.commit.Commit.{Commit}
use Rattle.slot_rules.specs.declared.commit.Committed.{Committed}
use Rattle.slot_core.specs.CommitCauses.{CommitCause, deed_in}
use Rattle.slot_core.specs.Stubs.{entry_of}
use Rattle.slot_core.specs.declared.slot.SlotFault.{SlotFault}
use Rattle.slot_core.specs.declared.stub.Stub.{Stub}
use Rattle.receipts.specs.Events.{Log}
use Rattle.receipts.specs.Events.Event.{BarredFrom, Called, Turned}
use Rattle.receipts.specs.Events.Shown.{NoneShown}
use Rattle.receipts.specs.Registers.{bucket_register, bucket_slot, key_slot}
use Rattle.receipts.specs.declared.barred.Barred.{Barred}
use Rattle.receipts.proofs.RegisterLemmas.{key_slot_below}
use Rattle.op_steps.specs.BucketLooks.{LooksSo}
use Rattle.op_steps.specs.Claims.{Claim, no_claim}
use Rattle.op_steps.specs.Committing.{CommitSays}
use Rattle.op_steps.specs.Moves.{TellMoves}
use Rattle.op_steps.specs.Notes.{noted}
use Rattle.op_steps.specs.Store.{SlotSeen, TellerSeen}
use Rattle.op_steps.specs.Words.{BarredSo, CallsSo, IsSection, TellsSo, TurnsSo}
use Rattle.op_steps.specs.declared.next.OpNext.TheVariants as next
use Rattle.op_steps.specs.declared.looking.Look.{Look}
use Rattle.op_steps.proofs.CommitLemmas.{commit_is_turn}
use Rattle.object_ops.specs.Clearing.{RemovesOne, TakesTrash, files_left, next_of, with_taken, AreDue, files_of, ids_of}
use Rattle.object_ops.specs.Deeds.{AfterCommit, AfterLook, DeedStands, HasDone, IsNewDeed, StandsAt, barred_state, deed_task, key_deed, step_at}
use Rattle.object_ops.specs.KeyDeeds.{act_of}
use Rattle.object_ops.specs.declared.clearing.Clearing.{Clearing}
use Rattle.object_ops.specs.declared.deed_op.DeedOp.{DeedOp}
use Rattle.object_ops.specs.declared.deed_op.DeedState.{DeedState}
use Rattle.object_ops.specs.declared.deed_op.DeedState.TheVariants.{Committing, Looking, Telling, Told}
use Rattle.object_ops.specs.declared.deed_op.KeyDeed.{KeyDeed}
use Rattle.object_ops.specs.declared.data_files.Removal.{Removal}
use Rattle.object_ops.specs.declared.key_act.KeyAct.{KeyAct}
use Rattle.object_ops.proofs.DeedLemmas.{CommitDue, commit_barred, commit_done, look_barred, look_done, tell_done}
use Rattle.object_ops.proofs.DueLemmas.{done_so, refused_so}
use Rattle.object_ops.proofs.LeftLemmas.{is_data}
use Rattle.object_ops.proofs.ReadingBars.{slot_in}
use Rattle.object_ops.proofs.RemovalLemmas.{removal_is_call}
use Rattle.object_ops.proofs.TellingLemmas.{pays_on}

module _ (set : SetPlan) (at : Key) (ask : KeyAct) (now : ℕ) where
  abbrev task : Task
  task = deed_task at ask now

  -- what is done
  abbrev act : Act
  act = act_of ask

  -- an op in this state
  abbrev Stands : Clearing → DeedState → Claim → Log → Type 0
  Stands clearing state claim log = StandsAt set at ask now clearing state claim log

  done_at : (state is : DeedState) (log : Log) → state ≡ is → HasDone set at act task state log → HasDone set at act task is log
  done_at state is log same x = subst (λ (s : DeedState). HasDone set at act task s log) same x

  -- the look at the bucket
  pub look_so : {D : Type 0} (ghosts : Ghosts D) (clearing : Clearing) (state later : DeedState) (name : List ℕ) (was after : SlotSeen D) (look : Look)
      (old new : List DriveView) → state ≡ Looking → name ≡ bucket_register at.bucket → was.numbers.index ≡ bucket_slot at.bucket
      → LooksSo ghosts name was after look old new → AfterLook at act look.looked later
      → TurnsSo ghosts (Stands clearing state) (Stands clearing later) look.stub was after old new
  look_so ghosts clearing state later name was after look old new is named index looks next claim log x =
      let nothing : log ≡ [] = done_at state Looking log is x.done in (
        claim,
        looks.shown,
        record {
          holds = x.holds;
          done = subst (λ (l : Log). HasDone set at act task later (l ++ Turned was.numbers.index (noted look.stub) looks.shown ∷ [])) (sym nothing)
              (look_done set at ask now was.numbers.index look.stub looks.shown look.looked later next (looks.says at.bucket named index));
        },
        looks.turns claim,
      )

  -- the commit
  due_so : {D : Type 0} (ghosts : Ghosts D) (mode : Mode) (was after : SlotSeen D) (answer : Result Committed SlotFault) (stub : Option Stub) (old new disks disks_after : List D)
      → CommitCause ghosts was.numbers after.numbers (key_deed at act mode) None now answer (deed_in (entry_of stub)) old new disks disks_after
      → CommitDue set at ask now mode was.numbers answer stub
  due_so ghosts mode was after (Ok made) stub old new disks disks_after cause =
      done_so ghosts was.numbers after.numbers at mode act None now made (deed_in (entry_of stub)) old new disks disks_after cause
  due_so ghosts mode was after (Err fault) stub old new disks disks_after cause = λ why is.
      refused_so ghosts was.numbers after.numbers at mode act None now why (deed_in (entry_of stub)) old new disks disks_after
      (subst (λ (f : SlotFault). CommitCause ghosts was.numbers after.numbers (key_deed at act mode) None now (Err f) (deed_in (entry_of stub))
      old new disks disks_after) is cause)

  pub commit_so : {D : Type 0} (ghosts : Ghosts D) (clearing begun : Clearing) (state later : DeedState) (deed : KeyDeed) (was after : SlotSeen D)
      (answer : Result Committed SlotFault) (stub : Option Stub) (old new : List D) → state ≡ Committing deed → begun.queue.items ≡ clearing.queue.items
      → was.numbers.index ≡ key_slot at → CommitSays ghosts was after deed.commit now answer stub old new
      → AfterCommit answer later → TurnsSo ghosts (Stands clearing state) (Stands begun later) stub was after (views ghosts old) (views ghosts new)
  commit_so ghosts clearing begun state later deed was after answer stub old new is same index says told claim log x =
      let done = done_at state (Committing deed) log is x.done in
      let mine = subst (λ (d : Commit). CommitSays ghosts was after d now answer stub old new) done.1 says in
      let due = due_so ghosts done.0 was after answer stub was.lanes after.lanes old new mine.cause in (
        claim,
        NoneShown,
        record {
          holds = x.holds ∙ ap (λ (q : List Removal). with_taken (no_claim (key_slot at)) (ids_of (files_of q))) (sym same);
          done = commit_done set at ask now done.0 was.numbers answer stub later log index done.2 mine.turns.stub_is mine.says due told;
        },
        commit_is_turn ghosts was after deed.commit now answer stub old new claim says,
      )

  -- the trash
  pub clear_so : {D : Type 0} (ghosts : Ghosts D) (clearing cleared : Clearing) (state : DeedState) (cut : Option Cut) (was after : SlotSeen D) (disks : List DriveView)
      → state ≡ Told cut → was.numbers.index ≡ key_slot at → TakesTrash ghosts was after (files_left cleared)
      → TurnsSo ghosts (Stands clearing state) (Stands cleared state) None was after disks disks
  clear_so ghosts clearing cleared state cut was after disks is index takes claim log x =
      let own : claim.slot ≡ was.numbers.index = ap (λ (c : Claim). c.slot) x.holds ∙ sym index in (
        with_taken claim (ids_of (files_left cleared)),
        NoneShown,
        record {
          holds = ap (λ (c : Claim). with_taken c (ids_of (files_left cleared))) x.holds;
          done = subst (λ (s : DeedState). HasDone set at act task s (log ++ Turned was.numbers.index None NoneShown ∷ [])) (sym is)
              (pays_on set task cut log (Turned was.numbers.index None NoneShown) tt (done_at state (Told cut) log is x.done));
        },
        takes claim disks own,
      )

  -- a removal comes next only once the reply was told
  told_by_data : (clearing : Clearing) (state : DeedState) → step_at at clearing state ≡ next.Data → (cut : Option Cut) × (state ≡ Told cut)
  told_by_data clearing Looking is = absurd (subst is_data (sym is) tt)
  told_by_data clearing (Committing deed) is = absurd (subst is_data (sym is) tt)
  told_by_data clearing (Telling reply) is = absurd (subst is_data (sym is) tt)
  told_by_data clearing (Told cut) is = (cut, refl)

  pub data_so : (clearing cleared : Clearing) (state : DeedState) (old new : List DriveView) → step_at at clearing state ≡ next.Data
      → AreDue set (key_slot at) (files_left clearing) → RemovesOne (files_left clearing) (files_left cleared) old new
      → CallsSo (Stands clearing state) (Stands cleared state) set old new
  data_so clearing cleared state old new step due one claim log x =
      let told = told_by_data clearing state step in
      let own : claim.slot ≡ key_slot at = ap (λ (c : Claim). c.slot) x.holds in
      let taken : claim.taken ≡ ids_of (files_left clearing) = ap (λ (c : Claim). c.taken) x.holds in inl (
        with_taken claim (ids_of (files_left cleared)),
        one.file.drive,
        one.made,
        record {
          holds = ap (λ (c : Claim). with_taken c (ids_of (files_left cleared))) x.holds;
          done = subst (λ (s : DeedState). HasDone set at act task s (log ++ Called one.file.drive one.made ∷ [])) (sym told.1)
              (pays_on set task told.0 log (Called one.file.drive one.made) tt (done_at state (Told told.0) log told.1 x.done));
        },
        removal_is_call set (key_slot at) (files_left clearing) (files_left cleared) old new claim due own taken one,
      )

  -- a section that can't be done
  pub barred_so : (clearing : Clearing) (state : DeedState) (why : Barred) → ((cut : Option Cut) → state ≡ Told cut → ⊥)
      → BarredSo (Stands clearing state) (Stands clearing (barred_state why)) (step_at at clearing state) why
  barred_so clearing Looking why untold claim log k step x = record {
    holds = x.holds;
    done = subst (λ (l : Log). HasDone set at act task (barred_state why) (l ++ BarredFrom k why ∷ [])) (sym x.done)
        (subst (λ i. HasDone set at act task (barred_state why) (BarredFrom i why ∷ [])) (ap slot_in step) (look_barred set at ask now why));
  }
  barred_so clearing (Committing deed) why untold claim log k step x = record {
    holds = x.holds;
    done = subst (λ i. HasDone set at act task (barred_state why) (log ++ BarredFrom i why ∷ [])) (ap slot_in step)
        (commit_barred set at ask now x.done.0 log why x.done.2);
  }
  barred_so clearing (Telling reply) why untold claim log k step x = absurd (subst IsSection (sym step) tt)
  barred_so clearing (Told cut) why untold claim log k step x = absurd (untold cut refl)

  pub pass_so : (clearing passed : Clearing) (state : DeedState) (cut : Option Cut) (why : Barred) → state ≡ Told cut → passed.queue.items ≡ clearing.queue.items
      → BarredSo (Stands clearing state) (Stands passed state) (step_at at clearing state) why
  pass_so clearing passed state cut why is same claim log k step x = record {
    holds = x.holds ∙ ap (λ (q : List Removal). with_taken (no_claim (key_slot at)) (ids_of (files_of q))) (sym same);
    done = subst (λ (s : DeedState). HasDone set at act task s (log ++ BarredFrom k why ∷ [])) (sym is)
        (pays_on set task cut log (BarredFrom k why) tt (done_at state (Told cut) log is x.done));
  }

  -- the telling
  pub tell_so : {T : Type 0} (takes breaks : Effect T) (clearing : Clearing) (state : DeedState) (reply : Reply) (cut : Option Cut) (old new : TellerSeen T) → state ≡ Telling reply
      → TellMoves takes breaks (TheHead reply) cut old new → TellsSo takes breaks (Stands clearing state) (Stands clearing (Told cut)) old new
  tell_so takes breaks clearing state reply cut old new is moves claim log x = (
    TheHead reply,
    cut,
    record {
      holds = x.holds;
      done = tell_done set at ask now takes breaks reply log cut old new (done_at state (Telling reply) log is x.done) moves;
    },
    moves,
  )

-- the slot of the section that comes next
pub at_bucket : (at : Key) (clearing : Clearing) (state : DeedState) (k : ℕ) → state ≡ Looking → step_at at clearing state ≡ next.Section k → k ≡ bucket_slot at.bucket
at_bucket at clearing state k is step = sym (ap slot_in (subst (λ s. step_at at clearing s ≡ next.Section k) is step))

pub at_key : (at : Key) (clearing : Clearing) (state : DeedState) (deed : KeyDeed) (k : ℕ) → state ≡ Committing deed → step_at at clearing state ≡ next.Section k
    → k ≡ key_slot at
at_key at clearing state deed k is step = sym (ap slot_in (subst (λ s. step_at at clearing s ≡ next.Section k) is step))

-- trash is taken where a section comes next once the reply was told
pub at_trash : (slot k : ℕ) (clearing : Clearing) → next_of slot clearing ≡ next.Section k → (clearing.takes ≡ true) × (k ≡ slot)
at_trash slot k clearing step = by clearing.takes step
  where
    by_length : (b : Bool) → (if b then next.Done else next.Data) ≡ next.Section k → ⊥
    by_length true wrong = subst IsSection (sym wrong) tt
    by_length false wrong = subst IsSection (sym wrong) tt

    by : (b : Bool) → (if b then next.Section slot else (if length (files_left clearing) == 0 then next.Done else next.Data)) ≡ next.Section k
        → (b ≡ true) × (k ≡ slot)
    by true is = (refl, sym (ap slot_in is))
    by false is = absurd (by_length (length (files_left clearing) == 0) is)

pub told_trash : (at : Key) (clearing : Clearing) (state : DeedState) (cut : Option Cut) (k : ℕ) → state ≡ Told cut → step_at at clearing state ≡ next.Section k
    → (clearing.takes ≡ true) × (k ≡ key_slot at)
told_trash at clearing state cut k is step = at_trash (key_slot at) k clearing (subst (λ s. step_at at clearing s ≡ next.Section k) is step)

-- an op that has done nothing yet stands for the empty log
pub begins : (set : SetPlan) (at : Key) (ask : KeyAct) (now : ℕ) (result : Result DeedOp NoMemory) → IfOk result (IsNewDeed set at ask now)
    → IfOk result (λ op. (slot : ℕ) × (slot < 64) × DeedStands op (no_claim slot) [])
begins set at ask now (Ok op) is = (
  key_slot op.at,
  key_slot_below op.at,
  record {
    holds = ap (λ (q : List Removal). with_taken (no_claim (key_slot op.at)) (ids_of (files_of q))) (sym is.none.queue);
    done = subst (λ (s : DeedState). HasDone op.set op.at (act_of op.ask) (deed_task op.at op.ask op.now) s []) (sym is.state_is) refl;
  },
)
begins set at ask now (Err fault) is = tt
