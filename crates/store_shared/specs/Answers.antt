-- What the desk of one caller answers.
use Rattle.std.specs.Prelude.{◌≡◌, ◌<◌, ℕ, List, Option, Some, None, Result, Ok, Err}
use Rattle.audit_trail.specs.declared.entry.Entry.{Entry}
use Rattle.call_types.specs.declared.feed.Cut.{Cut}
use Rattle.desk_base.specs.Answering.{Task}
use Rattle.desk_base.specs.Telling.{Telling}
use Rattle.drive_base.specs.declared.drive.Drive.{Ghosts}
use Rattle.receipts.specs.Events.{Log, body_of, notes_of, tried_of}
use Rattle.receipts.specs.Paying.{Pays}
use Rattle.slot_core.specs.declared.stub.Stub.{Stub}
use Rattle.op_steps.specs.Claims.{Claim, no_claim}
use Rattle.op_steps.specs.Notes.{notes_by}
use Rattle.op_steps.specs.Steps.{Ran}
use Rattle.op_steps.specs.Store.{FeedSeen, TellerSeen, any_effect, teller_of}
use Rattle.op_steps.specs.Words.{LetsGo}
use Rattle.store_shared.specs.Passes.{set_of, store_at}
use Rattle.store_shared.specs.declared.pass.PlainPass.{PlainPass}
use Rattle.store_shared.specs.declared.op_desk.Receipt.{Receipt}

-- a teller of which only the count of faults is seen
abbrev pub any_teller : ℕ → TellerSeen (Unit {0})
any_teller faults = teller_of tt faults

-- why a call was cut, by its answer
abbrev pub cut_by : Result Receipt Cut → Option Cut
cut_by (Ok receipt) = None
cut_by (Err why) = Some why

-- the notes of a log are those of the stubs of the receipt; the stubs of a call that was cut are lost
abbrev pub NotesAre : Result Receipt Cut → Log → Type 0
NotesAre (Ok receipt) log = notes_by receipt.stubs.items ≡ notes_of log
NotesAre (Err why) log = (stubs : List Stub) × (notes_by stubs ≡ notes_of log)

-- a log of a call's steps leads from the pass before, of which the call held nothing, to the pass after. Something of it is still held only where a section
-- could not be done. The log has the bytes that were taken of the body and what was told, it pays what the call owes, and its notes are the receipt's
pub record PlainAnswers {D A : Type 0} (ghosts : Ghosts D) (entries : A → Option (List Entry)) (count : A → ℕ) (task : Task) (before after : PlainPass D A)
    (body : List ℕ) (tale : List Telling) (result : Result Receipt Cut) : Type 0 where
  pub slot : ℕ
  pub in_store : slot < 64
  pub left : Claim
  pub log : Log
  pub feed : FeedSeen
  pub feed_after : FeedSeen
  pub faults : ℕ
  pub faults_after : ℕ
  pub ran : Ran ghosts any_effect any_effect (set_of before) log (store_at ghosts entries count before feed (any_teller faults) (no_claim slot))
      (store_at ghosts entries count after feed_after (any_teller faults_after) left)
  pub lets_go : LetsGo left log
  pub body_is : body_of log ≡ body
  pub tale_is : tried_of log ≡ tale
  pub pays : Pays (set_of before) task (cut_by result) log
  pub notes : NotesAre result log
