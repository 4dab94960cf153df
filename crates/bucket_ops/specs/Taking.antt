-- How the document of a call is taken.
use Rattle.std.specs.Prelude.{◌≡◌, ◌<◌, ℕ, List, [], ◌++◌, length, take, vec_len, Option, Some, None}
use Rattle.call_types.specs.Feeds.{FeedView}
use Rattle.call_types.specs.declared.feed.Cut.{Cut}
use Rattle.op_steps.specs.Moves.{FeedMoves}
use Rattle.op_steps.specs.Store.{FeedSeen}
use Rattle.bucket_ops.specs.declared.document.Document.{Document}

-- a feed is that of a document: it has its length, and has given what was taken
pub record IsFedFrom (document : Document) (feed : FeedView) : Type 0 where
  pub stated : feed.stated ≡ vec_len document.bytes
  pub given : feed.given ≡ document.taken

-- the bytes that were taken of it
abbrev pub taken_of : Document → List ℕ
taken_of document = take document.taken document.bytes.items

-- what a take leaves of it, by whether it failed: some bytes more, or the document as it was
abbrev pub Grows : Document → Document → List ℕ → Option Cut → Type 0
Grows old new bytes None = 0 < length bytes
Grows old new bytes (Some cut) = bytes ≡ []

-- the next bytes of its feed are taken, or it tells why none came
pub record TakesSome (old new : Document) (cut : Option Cut) (was now : FeedSeen) : Type 0 where
  pub long : vec_len new.bytes ≡ vec_len old.bytes
  pub bytes : List ℕ
  pub adds : taken_of new ≡ taken_of old ++ bytes
  pub grows : Grows old new bytes cut
  pub moves : FeedMoves bytes cut was now
