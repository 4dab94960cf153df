-- What the work of an op comes to that nobody waits for.
use Rattle.std.specs.Prelude.{◌≡◌, ◌<◌, ℕ, List, Option}
use Rattle.audit_trail.specs.declared.entry.Entry.{Entry}
use Rattle.drive_base.specs.View.{views}
use Rattle.drive_base.specs.declared.drive.Drive.{Ghosts}
use Rattle.receipts.specs.Events.{Log, notes_of}
use Rattle.slot_core.specs.declared.stub.Stub.{Stub}
use Rattle.op_steps.specs.Going.{CallRan}
use Rattle.op_steps.specs.Claims.{Claim, no_claim}
use Rattle.op_steps.specs.Notes.{notes_by}
use Rattle.op_steps.specs.Store.{FeedSeen, any_effect, slots_seen}
use Rattle.op_steps.specs.Words.{LetsGo}
use Rattle.store_shared.specs.AmongSteps.{RanAmong}
use Rattle.store_shared.specs.Answers.{any_teller}
use Rattle.store_shared.specs.Passes.{disks_of, set_of, slots_of}
use Rattle.store_shared.specs.SharedPasses.{reach_at, set_held, shared_holds}
use Rattle.store_shared.specs.declared.pass.PlainPass.{PlainPass}
use Rattle.store_shared.specs.declared.shared.SharedPass.{SharedPass}

-- a log that is as it is owed leads, as that of a call, from the pass before to the pass after, and its notes are those of the stubs
pub record AloneFinished {D A : Type 0} (ghosts : Ghosts D) (entries : A → Option (List Entry)) (count : A → ℕ) (Owed : Log → Type 0) (stubs : List Stub)
    (before after : PlainPass D A) : Type 0 where
  pub log : Log
  pub owed : Owed log
  pub ran : CallRan ghosts (set_of before) log (slots_seen entries count (slots_of before)) (views ghosts (disks_of before))
      (slots_seen entries count (slots_of after)) (views ghosts (disks_of after))
  pub notes : notes_by stubs ≡ notes_of log

-- the same among others
pub record AmongFinished {D A : Type 0} (ghosts : Ghosts D) (entries : A → Option (List Entry)) (count : A → ℕ) (Owed : Log → Type 0) (stubs : List Stub)
    (before after : SharedPass D A) : Type 0 where
  pub slot : ℕ
  pub in_store : slot < 64
  pub left : Claim
  pub log : Log
  pub feed : FeedSeen
  pub feed_after : FeedSeen
  pub owed : Owed log
  pub ran : RanAmong ghosts entries count any_effect any_effect (set_held (shared_holds before)) log
      (reach_at ghosts before feed (any_teller 0) (no_claim slot)) (reach_at ghosts after feed_after (any_teller 0) left)
  pub lets_go : LetsGo left log
  pub notes : notes_by stubs ≡ notes_of log
