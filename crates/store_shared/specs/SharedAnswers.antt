-- What the desk of several callers answers.
use Rattle.std.specs.Prelude.{◌≡◌, ◌<◌, ℕ, List, Option, Result}
use Rattle.audit_trail.specs.declared.entry.Entry.{Entry}
use Rattle.call_types.specs.declared.feed.Cut.{Cut}
use Rattle.desk_base.specs.Answering.{Task}
use Rattle.desk_base.specs.Telling.{Telling}
use Rattle.drive_base.specs.declared.drive.Drive.{Ghosts}
use Rattle.receipts.specs.Events.{Log, body_of, tried_of}
use Rattle.receipts.specs.Paying.{Pays}
use Rattle.op_steps.specs.Claims.{Claim, no_claim}
use Rattle.op_steps.specs.Store.{FeedSeen, any_effect}
use Rattle.op_steps.specs.Words.{LetsGo}
use Rattle.store_shared.specs.AmongSteps.{RanAmong}
use Rattle.store_shared.specs.Answers.{NotesAre, any_teller, cut_by}
use Rattle.store_shared.specs.SharedPasses.{reach_at, set_held, shared_holds}
use Rattle.store_shared.specs.declared.op_desk.Receipt.{Receipt}
use Rattle.store_shared.specs.declared.shared.SharedPass.{SharedPass}

-- a log of a call's steps among those of others leads from the pass before, of which the call held nothing, to the pass after. Something of it is still held
-- only where a section could not be done. The log has the bytes that were taken of the body and what was told, it pays what the call owes, and its notes are
-- the receipt's
pub record SharedAnswers {D A : Type 0} (ghosts : Ghosts D) (entries : A → Option (List Entry)) (count : A → ℕ) (task : Task) (before after : SharedPass D A)
    (body : List ℕ) (tale : List Telling) (result : Result Receipt Cut) : Type 0 where
  pub slot : ℕ
  pub in_store : slot < 64
  pub left : Claim
  pub log : Log
  pub feed : FeedSeen
  pub feed_after : FeedSeen
  pub faults : ℕ
  pub faults_after : ℕ
  pub ran : RanAmong ghosts entries count any_effect any_effect (set_held (shared_holds before)) log
      (reach_at ghosts before feed (any_teller faults) (no_claim slot)) (reach_at ghosts after feed_after (any_teller faults_after) left)
  pub lets_go : LetsGo left log
  pub body_is : body_of log ≡ body
  pub tale_is : tried_of log ≡ tale
  pub pays : Pays (set_held (shared_holds before)) task (cut_by result) log
  pub notes : NotesAre result log
