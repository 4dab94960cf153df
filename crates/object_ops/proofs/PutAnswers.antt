-- The end of a put, as its section has it.
use Rattle.std.proofs.Common.{◌≡◌, ◌∙◌, ◌≤◌, ℕ, List, Option, Some, None, Result, IsUtf8, length, ap, sym, subst}
use Rattle.call_types.specs.declared.feed.Cut.TheVariants as cut
use Rattle.call_types.specs.declared.refusal.Refusal.{Refusal}
use Rattle.call_types.specs.declared.reply.Reply.TheVariants.{Refused}
use Rattle.drive_base.specs.View.{DriveView, views}
use Rattle.drive_base.specs.declared.drive.Drive.{Ghosts}
use Rattle.put_stage.specs.Steps.{MayFinish}
use Rattle.put_stage.specs.declared.stage.StageNext.TheVariants.{Finish}
use Rattle.stamp_id.specs.declared.version.VersionId.{VersionId}
use Rattle.slot_rules.specs.Deeds.{IsLawfulDeed, IsNamedDeed, IsOfNoPart, name_of}
use Rattle.slot_rules.specs.declared.commit.Commit.{Commit}
use Rattle.slot_rules.specs.declared.commit.Committed.{Committed}
use Rattle.slot_core.specs.CommitCauses.{CommitCause, deed_in}
use Rattle.slot_core.specs.Commits.{ChecksFlight, CommitHolds, FitsFlight, MayCommitData, SaysCommit, ShowsTrash}
use Rattle.slot_core.specs.Stubs.{Says, entry_of}
use Rattle.slot_core.specs.Turns.{Leaves, Turns}
use Rattle.slot_core.specs.declared.slot.SlotFault.{SlotFault}
use Rattle.slot_core.specs.declared.holding.Flight.{Flight}
use Rattle.slot_core.specs.declared.stub.Stub.{Stub}
use Rattle.receipts.specs.Registers.{key_slot}
use Rattle.op_steps.specs.Looking.{AreOnlyRead}
use Rattle.op_steps.specs.Store.{SlotSeen}
use Rattle.op_steps.specs.Words.{TurnsSo}
use Rattle.object_ops.specs.PutStands.{IsSamePut, PutStands, PutStandsAt, ask_of}
use Rattle.object_ops.specs.PutOutcome.{AfterCommit, Ends}
use Rattle.object_ops.specs.PutTarget.{deed_of, key_of, kind_of, register_of}
use Rattle.object_ops.specs.declared.put_target.PutTarget.{PutTarget}
use Rattle.object_ops.specs.declared.clearing.Clearing.{Clearing}
use Rattle.object_ops.specs.declared.put_op.PutOp.{PutOp}
use Rattle.object_ops.specs.declared.put_state.PutState.{PutState}
use Rattle.object_ops.specs.declared.put_state.PutState.TheVariants.{Staging, Telling, Told}
use Rattle.object_ops.specs.declared.put_state.Work.{Work}
use Rattle.object_ops.specs.declared.put_outcome.PutEnd.TheVariants.{Commits, GivesUp}
use Rattle.object_ops.proofs.PutTargets.{deed_fits, deed_lawful, deed_name, deed_named, deed_no_part}
use Rattle.object_ops.proofs.PutEnds.{DropSays}
use Rattle.object_ops.proofs.PutNext.{may_finish}
use Rattle.object_ops.proofs.PutOpLemmas.{stands_on}
use Rattle.object_ops.proofs.PutOver.{commit_so, lacks_so, refuse_so}

staged_is : (a b : Work) → Staging a ≡ Staging b → a ≡ b
staged_is a b e = cc

-- its stage is over
pub finishing : (one : PutState) (work : Work) → (w : Work) × (one ≡ Staging w) × (w.next ≡ Finish) → one ≡ Staging work → MayFinish work.stage
finishing one work (w, is, ends) mine =
    may_finish work.stage work.next work.is_next (subst (λ (v : Work). v.next ≡ Finish) (staged_is w work (sym is ∙ mine)) ends)

-- what it commits can be committed
pub lawful_end : (target : PutTarget) (work : Work) (id : VersionId) (deed : Commit) → Ends target work.mode id work.stage (Commits deed)
    → length (kind_of target) ≤ 255 → IsLawfulDeed deed
lawful_end target work id deed (staged, is, answers) short = subst IsLawfulDeed (sym is) (deed_lawful target work.mode id staged short)

pub named_end : (target : PutTarget) (work : Work) (id : VersionId) (deed : Commit) → Ends target work.mode id work.stage (Commits deed)
    → IsUtf8 (key_of target).bucket → IsUtf8 (key_of target).key → IsNamedDeed deed
named_end target work id deed (staged, is, answers) bucket key = subst IsNamedDeed (sym is) (deed_named target work.mode id staged bucket key)

pub no_part_end : (target : PutTarget) (work : Work) (id : VersionId) (deed : Commit) → Ends target work.mode id work.stage (Commits deed)
    → IsOfNoPart deed
no_part_end target work id deed (staged, is, answers) = subst IsOfNoPart (sym is) (deed_no_part target work.mode id staged)

pub short_end : (target : PutTarget) (work : Work) (id : VersionId) (deed : Commit) → Ends target work.mode id work.stage (Commits deed)
    → length (register_of target) ≤ 1129 → length (name_of deed) ≤ 1129
short_end target work id deed (staged, is, answers) short =
    subst (λ (name : List ℕ). length name ≤ 1129) (sym (ap name_of is ∙ deed_name target work.mode id staged)) short

-- what a commit says of itself, by which its deed is a step
pub record CommitSaid {D : Type 0} (ghosts : Ghosts D) (was now : SlotSeen D) (deed : Commit) (at : ℕ) (flight : Flight) (answer : Result Committed SlotFault)
    (stub : Option Stub) (old new : List D) : Type 0 where
  pub turns : Turns was.numbers now.numbers was.entries now.entries was.faults now.faults answer stub
  pub says : Says stub (SaysCommit deed at answer)
  pub holds : CommitHolds (Some flight) answer was.holding now.holding
  pub checks : ChecksFlight (Some flight) was.holding answer
  pub leaves : FitsFlight deed (Some flight) → Leaves ghosts.tells ghosts.files was.numbers now.numbers was.holding now.holding was.lanes now.lanes stub
      (ShowsTrash deed answer was.holding.trash now.holding.trash) (MayCommitData deed now.holding)
  pub read : AreOnlyRead ghosts old new
  pub cause : CommitCause ghosts was.numbers now.numbers deed (Some flight.id) at answer (deed_in (entry_of stub)) was.lanes now.lanes old new

module _ (op out : PutOp) (begun : Clearing) (work : Work) (is : op.state ≡ Staging work) (may : MayFinish work.stage)
    (same : begun.queue.items ≡ op.clearing.queue.items) (same_put : IsSamePut op out) (same_read : out.read ≡ op.read) where
  pub end_commits : {D : Type 0} (ghosts : Ghosts D) (id : VersionId) (deed : Commit) (answer : Result Committed SlotFault) (stub : Option Stub) (later : PutState)
      (was after : SlotSeen D) (old new : List D) → id ≡ work.flight.id → was.numbers.set ≡ op.set → was.numbers.index ≡ key_slot (key_of op.target)
      → Ends out.target work.mode id work.stage (Commits deed) → CommitSaid ghosts was after deed out.now work.flight answer stub old new → AfterCommit answer later
      → TurnsSo ghosts (PutStands op) (PutStandsAt (ask_of out) out.read begun later) stub was after (views ghosts old) (views ghosts new)
  end_commits ghosts id deed answer stub later was after old new id_is set_is own (staged, deed_is, answers) said told =
      let wanted : deed ≡ deed_of op.target work.mode work.flight.id staged = deed_is ∙ (λ i. deed_of (same_put.target i) work.mode (id_is i) staged) in
      let mine = subst (λ n. CommitSaid ghosts was after (deed_of op.target work.mode work.flight.id staged) n work.flight answer stub old new) same_put.now
      (subst (λ (d : Commit). CommitSaid ghosts was after d out.now work.flight answer stub old new) wanted said) in
      subst (λ P. TurnsSo ghosts (PutStands op) P stub was after (views ghosts old) (views ghosts new)) (stands_on op out begun later same_put same_read)
      (commit_so (ask_of op) op.read ghosts op.clearing begun op.state later work staged was after answer stub old new is set_is may.whole same own answers
      (record {
        turns = mine.turns;
        says = mine.says;
        holds = mine.holds;
        checks = mine.checks;
        cause = mine.cause;
        leaves = mine.leaves (deed_fits op.target work.mode work.flight staged);
        read = mine.read;
      }) told)

  pub end_gives_up : {D T : Type 0} (ghosts : Ghosts D) (id : VersionId) (why : Refusal) (answer : Result T SlotFault)
      (was after : SlotSeen D) (disks : List DriveView) → op.read ≡ op.long → was.numbers.index ≡ key_slot (key_of op.target)
      → Ends out.target work.mode id work.stage (GivesUp why) → DropSays ghosts was after work.flight.id answer None
      → TurnsSo ghosts (PutStands op) (PutStandsAt (ask_of out) out.read begun (Telling (Refused why))) None was after disks disks
  end_gives_up ghosts id why answer was after disks all own (refused, refuses, answers) says =
      subst (λ P. TurnsSo ghosts (PutStands op) P None was after disks disks) (stands_on op out begun (Telling (Refused why)) same_put same_read)
      (refuse_so (ask_of op) op.read ghosts op.clearing begun op.state work why refused was after answer disks is all may.whole same own refuses answers says)

  pub end_lacks : {D T : Type 0} (ghosts : Ghosts D) (answer : Result T SlotFault) (was after : SlotSeen D) (disks : List DriveView)
      → was.numbers.index ≡ key_slot (key_of op.target) → DropSays ghosts was after work.flight.id answer None
      → TurnsSo ghosts (PutStands op) (PutStandsAt (ask_of out) out.read begun (Told (Some cut.NoMemory))) None was after disks disks
  end_lacks ghosts answer was after disks own says =
      subst (λ P. TurnsSo ghosts (PutStands op) P None was after disks disks) (stands_on op out begun (Told (Some cut.NoMemory)) same_put same_read)
      (lacks_so (ask_of op) op.read ghosts op.clearing begun op.state work was after answer disks is same own says)

-- what is said of a put that is given up, which has no stub
pub drop_says : {D T : Type 0} (ghosts : Ghosts D) (was now : SlotSeen D) (id : VersionId) (answer : Result T SlotFault) (stub : Option Stub) → stub ≡ None
    → DropSays ghosts was now id answer stub → DropSays ghosts was now id answer None
drop_says ghosts was now id answer stub none says = subst (λ (s : Option Stub). DropSays ghosts was now id answer s) none says
