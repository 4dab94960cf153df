-- The calls of a reader, as events of a log.
-- What was read and told of a version's body, by the log.
use Rattle.std.specs.Prelude.{◌≡◌, [], ◌++◌, Contains, ◌+◌, ◌<◌, ◌≤◌, Bool, true, false, List, ℕ, Option, length}
use Rattle.get_read.specs.Account.{Account, Call}
use Rattle.get_read.specs.Readers.{Told, IsAccountOf, all_calls}
use Rattle.receipts.specs.Events.{Log, cuts_of, tale_of}
use Rattle.receipts.specs.Events.Event.{Called}
use Rattle.receipts.specs.Letters.{told_bytes}
use Rattle.call_types.specs.declared.names.Key.{Key}
use Rattle.call_types.specs.declared.names.Pick.{Pick}
use Rattle.call_types.specs.declared.names.RangeAsk.{RangeAsk}
use Rattle.call_types.specs.declared.names.Span.{Span}
use Rattle.call_types.specs.declared.names.VersionName.{VersionName}
use Rattle.call_types.specs.declared.reply.Reply.TheVariants.{Found}
use Rattle.call_types.specs.declared.version.Version.{Version}
use Rattle.desk_base.specs.Answering.{Task}
use Rattle.drive_base.specs.declared.plan.SetPlan.{SetPlan}
use Rattle.receipts.specs.Paying.{IsTaleOf, WasOwed}
use Rattle.receipts.specs.Reading.{ReadsKey, is_met}
use Rattle.receipts.specs.Spans.{whole_of}
use Rattle.object_ops.specs.Reading.{IsFresh, matches_of}
use Rattle.object_ops.specs.ReadingPlan.{IsOfSpan}
use Rattle.object_ops.specs.declared.reading.Reading.{Reading}

-- each call of an account is in the log
abbrev pub AreLogged : Account → Log → Type 0
AreLogged account log = (call : Call) → Contains account call → Contains log (Called call.drive call.made)

-- the calls up to a reader's last turn are in one part of the log, those since in the part behind it, in which no bytes are told
pub record IsLogged (told : Told) (log : Log) : Type 0 where
  pub before : Log
  pub since : Log
  pub parts : log ≡ before ++ since
  pub logged : AreLogged told.before before
  pub logged_since : AreLogged told.since since
  pub silent : told_bytes since ≡ []

-- the key was read, the condition of the call holds, and nothing was told yet
pub record TellsNone (task : Task) (at : Key) (pick : Pick) (version : Version) (id : Option VersionName) (bytes : List ℕ) (log : Log) : Type 0 where
  pub fresh : IsFresh log
  pub reads : ReadsKey at pick (Found version (whole_of version) id) log
  pub met : is_met (matches_of task.call) version.what ≡ true
  pub none : bytes ≡ []

-- the head was told when it was owed, and behind it these bytes
pub record TellsBytes (set : SetPlan) (task : Task) (version : Version) (span : Span) (id : Option VersionName) (bytes : List ℕ) (log : Log) : Type 0 where
  pub tale : IsTaleOf (Found version span id) bytes (tale_of log)
  pub was_owed : WasOwed set task (Found version span id) log
  pub uncut : cuts_of log ≡ []

-- by whether the head was told
abbrev pub HasTold : SetPlan → Task → Key → Pick → Version → Span → Option VersionName → Bool → List ℕ → Log → Type 0
HasTold set task at pick version span id false bytes log = TellsNone task at pick version id bytes log
HasTold set task at pick version span id true bytes log = TellsBytes set task version span id bytes log

-- a call of a data drive is due: all that its reader gave was told, the calls of the reader are in the log, and a head that was told has bytes behind it
pub record IsFetching (set : SetPlan) (task : Task) (at : Key) (pick : Pick) (ask : RangeAsk) (reading : Reading) (log : Log) : Type 0 where
  pub version : Version
  pub id : Option VersionName
  pub of_span : IsOfSpan set ask version id reading
  pub told : Told
  pub given : List ℕ
  pub account : IsAccountOf reading.reader told given
  pub all_logged : AreLogged (all_calls told) log
  pub logged : IsLogged told log
  pub counted : length given + reading.left ≡ reading.span.length
  pub more : 0 < reading.left
  pub some : reading.told ≡ true → 0 < length given
  pub has_told : HasTold set task at pick version reading.span id reading.told given log

-- a piece is at hand: all that its reader gave before was told
pub record IsGiving (set : SetPlan) (task : Task) (at : Key) (pick : Pick) (ask : RangeAsk) (reading : Reading) (log : Log) : Type 0 where
  pub version : Version
  pub id : Option VersionName
  pub of_span : IsOfSpan set ask version id reading
  pub told : Told
  pub bytes : List ℕ
  pub account : IsAccountOf reading.reader told (bytes ++ reading.reader.piece.items)
  pub all_logged : AreLogged (all_calls told) log
  pub turned : told.since ≡ []
  pub counted : length bytes + reading.left ≡ reading.span.length
  pub some : 0 < length reading.reader.piece.items
  pub fits : length reading.reader.piece.items ≤ reading.left
  pub has_told : HasTold set task at pick version reading.span id reading.told bytes log
