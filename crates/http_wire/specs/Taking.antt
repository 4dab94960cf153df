-- What is seen of a source, and what a take adds to the bytes that wait.
use Rattle.std.specs.Prelude.{◌≡◌, ◌+◌, ◌≤◌, ◌||◌, nat_lt, ℕ, Bool, true, false, List, [], ◌∷◌, ◌++◌, length, slice_range, Option, Result, Ok, Err}
use Rattle.std.specs.Io.KnownBytes.{prepend_known, IsAtEnd}
use Rattle.io_base.specs.Trail.{TakeCall, obtained}
use Rattle.io_base.specs.declared.fault.IoFault.{IoFault}
use Rattle.io_base.specs.declared.source.Source.{Ghosts}
use Rattle.http_wire.specs.Heads.{most_bytes}

-- what is seen of a source: the bytes not yet taken, told or not, and the takes that were asked of it, the newest first
pub record SourceView : Type 0 where
  pub left : Option (List ℕ)
  pub takes : List TakeCall

-- that of a source
abbrev pub source_view : {S : Type 0} → Ghosts S → S → SourceView
source_view ghosts source = record { left = ghosts.left source; takes = ghosts.takes source }

-- these bytes were taken: they are no longer left, and they are all that the takes since answered
pub record Taken (bytes : List ℕ) (old new : SourceView) : Type 0 where
  pub left : old.left ≡ prepend_known bytes new.left
  pub takes : obtained new.takes ≡ obtained old.takes ++ bytes

-- whether a take met the end of its source: one that gave no byte into a buffer with room did, one that gave bytes did not, and of any other it holds
-- what held before
abbrev pub meets_end : (room : ℕ) → Result (List ℕ) IoFault → (before : Bool) → Bool
meets_end room (Ok []) before = nat_lt 0 room || before
meets_end room (Ok (byte ∷ bytes)) before = false
meets_end room (Err fault) before = before

-- whether the takes of a source met its end: of those into a buffer with room the newest that did not fail answered that no byte comes
abbrev pub took_none : List TakeCall → Bool
took_none [] = false
took_none (call ∷ calls) = meets_end call.room call.answer (took_none calls)

-- no byte was taken, and a source that met its end is still at its end
pub record TakenNone (old new : SourceView) : Type 0 where
  pub left : new.left ≡ old.left
  pub takes : obtained new.takes ≡ obtained old.takes
  pub ended : took_none old.takes ≡ true → took_none new.takes ≡ true

-- a source met its end: no byte is left, as far as it tells, and its takes answered so
pub record HasEnded (view : SourceView) : Type 0 where
  pub left : IsAtEnd view.left
  pub takes : took_none view.takes ≡ true

-- bytes were handed on: those that waited, and behind them a piece that was taken, are these bytes and then those that wait now
pub record HandsOn (bytes before waits : List ℕ) (old new : SourceView) : Type 0 where
  pub piece : List ℕ
  pub took : Taken piece old new
  pub are : before ++ piece ≡ bytes ++ waits

-- n bytes came behind those that waited, none only where the source has ended
pub record CameBehind (n : ℕ) (old new : List ℕ) (source after : SourceView) : Type 0 where
  pub piece : List ℕ
  pub new_is : new ≡ old ++ piece
  pub took : Taken piece source after
  pub size : length piece ≡ n
  pub most : n ≤ most_bytes
  pub ends : n ≡ 0 → HasEnded after

-- what waits, and what is seen of the source, before and after one take
abbrev pub Fills : {E : Type 0} → Result ℕ E → List ℕ → List ℕ → SourceView → SourceView → Type 0
Fills (Ok n) old new source after = CameBehind n old new source after
Fills (Err _) old new source after = (new ≡ old) × TakenNone source after

-- one take into the room from `at` on
abbrev pub TakesAt : {E : Type 0} → Result ℕ E → ℕ → List ℕ → SourceView → SourceView → Type 0
TakesAt (Ok n) at room source after =
    (n ≤ most_bytes) × Taken (slice_range room at (at + n)) source after × (n ≡ 0 → HasEnded after)
TakesAt (Err _) at room source after = TakenNone source after
