-- A connection: the requests that were read, the replies that were given, and how it ended.
use Rattle.std.specs.Prelude.{◌≡◌, ◌⊎◌, ◌+◌, ◌<◌, ℕ, List, [], ◌∷◌, ◌++◌, length, Option, Result}
use Rattle.fault_base.specs.Counts.{Rose}
use Rattle.http_wire.specs.Heads.{IsOpen}
use Rattle.call_types.specs.declared.feed.Cut.{Cut}
use Rattle.call_types.specs.declared.feed.Cut.TheVariants as cut
use Rattle.desk_base.specs.Answering.{Task}
use Rattle.desk_base.specs.Telling.{Telling}
use Rattle.serve_loop.specs.Deeds.{Wires, CountsStay, MetEnd, Moved, Answered, Short}
use Rattle.serve_loop.specs.Exchanges.{Exchange, all_bytes, all_texts, bytes_of, text_of}
use Rattle.serve_loop.specs.declared.ends.ConnectionEnd.{ConnectionEnd}
use Rattle.serve_loop.specs.declared.ends.ConnectionEnd.TheVariants.{Over, Closed, InputCut, ReadFault, WriteFault, ReplyCut, NoMemory}
use Rattle.serve_loop.specs.declared.manner.Manner.{Manner}
use Rattle.serve_loop.specs.declared.manner.Manner.TheVariants.{Stays, ClientCloses, ServerCloses}

-- some bytes of a head came, perhaps none, and nothing was given
pub record IsInHead (taken out : List ℕ) : Type 0 where
  pub begun : IsOpen taken
  pub nothing : out ≡ []

-- which counts of faults stay over a connection that ended so: both, but for that of the end that tells of a fault
abbrev pub CountsSo : ConnectionEnd → Wires → Wires → Type 0
CountsSo ReadFault before after = after.write_faults ≡ before.write_faults
CountsSo WriteFault before after = after.read_faults ≡ before.read_faults
CountsSo other before after = CountsStay before after

module _ {M R : Type 0} (answers : Task → M → M → List ℕ → List Telling → Result R Cut → Type 0) (clock : Option ℕ) where
  -- exchanges one after another, numbered from `number`, behind each of which the next request may be read
  abbrev pub Run : ℕ → M → List Exchange → M → Type 0
  Run number old [] new = old ≡ new
  Run number old (x ∷ xs) new = (mid : M) × Answered answers clock number old x mid × (x.manner ≡ Stays) × Run (number + 1) mid xs new

  -- the last exchange, behind which the connection closes in this manner; `ahead` are bytes that were taken behind it
  pub record Parts (manner : Manner) (number : ℕ) (old new : M) (taken out : List ℕ) : Type 0 where
    pub x : Exchange
    pub answered : Answered answers clock number old x new
    pub manner_is : x.manner ≡ manner
    pub ahead : List ℕ
    pub took : taken ≡ bytes_of x ++ ahead
    pub gave : out ≡ text_of x

  -- the last exchange, which was cut
  pub record Cuts (why : Cut) (number : ℕ) (old new : M) (taken out : List ℕ) (before after : Wires) : Type 0 where
    pub x : Exchange
    pub ahead : List ℕ
    pub short : Short answers clock why number old x new ahead out before after
    pub took : taken ≡ bytes_of x ++ ahead

  -- How a connection ends, behind exchanges of this number: `taken` are the bytes that were taken behind them, `out` what was given. Want of memory
  -- alone is free; where it comes in a head, nothing was given or moved.
  abbrev pub EndsSo : ConnectionEnd → ℕ → (old new : M) → (taken out : List ℕ) → (before after : Wires) → Type 0
  EndsSo Over number old new taken out before after =
      ((taken ≡ []) × (out ≡ []) × (new ≡ old) × MetEnd after) ⊎ Parts ClientCloses number old new taken out
  EndsSo Closed number old new taken out before after = Parts ServerCloses number old new taken out
  EndsSo InputCut number old new taken out before after =
      (IsInHead taken out × (0 < length taken) × (new ≡ old) × MetEnd after)
      ⊎ ((read stated : ℕ) × Cuts (cut.BodyCut read stated) number old new taken out before after)
  EndsSo ReadFault number old new taken out before after =
      (IsInHead taken out × (new ≡ old) × Rose before.read_faults after.read_faults) ⊎ Cuts cut.ReadFault number old new taken out before after
  EndsSo WriteFault number old new taken out before after = Cuts cut.WriteFault number old new taken out before after
  EndsSo (ReplyCut whys) number old new taken out before after = Cuts (cut.ShardCut whys) number old new taken out before after
  EndsSo NoMemory number old new taken out before after = ((out ≡ []) × (new ≡ old)) ⊎ Cuts cut.NoMemory number old new taken out before after

  -- a whole connection, whose wires show this before and after
  pub record Session (old new : M) (end : ConnectionEnd) (before after : Wires) : Type 0 where
    pub exchanges : List Exchange
    pub stop : M
    pub run : Run 0 old exchanges stop
    pub taken : List ℕ
    pub out : List ℕ
    pub moved : Moved (all_bytes exchanges ++ taken) (all_texts exchanges ++ out) before after
    pub ends : EndsSo end (length exchanges) stop new taken out before after
    pub counts : CountsSo end before after
