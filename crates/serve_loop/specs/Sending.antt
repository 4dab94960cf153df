-- What is seen of a sink, and which bytes its gives sent.
use Rattle.std.specs.Prelude.{◌≡◌, ◌≤◌, ℕ, List, [], ◌∷◌, ◌++◌, length, take, Option, Result, Ok, Err}
use Rattle.std.specs.Io.KnownBytes.{append_known}
use Rattle.io_base.specs.Trail.{GiveCall}
use Rattle.io_base.specs.declared.fault.IoFault.{IoFault}
use Rattle.io_base.specs.declared.sink.Sink.{Ghosts}

-- what is seen of a sink: the bytes given, told or not, and the gives that were asked of it, the newest first
pub record SinkView : Type 0 where
  pub given : Option (List ℕ)
  pub gives : List GiveCall

-- that of a sink
abbrev pub sink_view : {T : Type 0} → Ghosts T → T → SinkView
sink_view ghosts sink = record { given = ghosts.given sink; gives = ghosts.gives sink }

-- what one give sent of its bytes: all of them where it answered Ok, and some from the front where it failed
abbrev pub SentOf : Result (Unit {0}) IoFault → List ℕ → List ℕ → Type 0
SentOf (Ok _) bytes sent = sent ≡ bytes
SentOf (Err _) bytes sent = (count : ℕ) × (sent ≡ take count bytes)

-- gives, the newest first, sent these bytes: what the earlier ones sent, and then what the newest sent of its own
abbrev pub SentBy : List GiveCall → List ℕ → Type 0
SentBy [] sent = sent ≡ []
SentBy (call ∷ calls) sent = (earlier : List ℕ) × (last : List ℕ) × SentBy calls earlier × SentOf call.answer call.bytes last × (sent ≡ earlier ++ last)

-- gives came to those before, and sent these bytes
pub record SentSince (bytes : List ℕ) (old new : List GiveCall) : Type 0 where
  pub more : List GiveCall
  pub grew : new ≡ more ++ old
  pub sent : SentBy more bytes

-- these bytes were sent to a sink
pub record Sent (bytes : List ℕ) (old new : SinkView) : Type 0 where
  pub given : new.given ≡ append_known old.given bytes
  pub gives : SentSince bytes old.gives new.gives

-- some bytes of a text, from the front, were
pub record SentFront (text : List ℕ) (old new : SinkView) : Type 0 where
  pub count : ℕ
  pub within : count ≤ length text
  pub front : Sent (take count text) old new
