-- The parts of a fill.
use Rattle.std.specs.Prelude.{◌≡◌, ◌+◌, ◌<◌, ◌≤◌, ℕ, true, false, ◌*◌, List, [], ◌++◌, length, take, drop, Result, Ok, Err, slice_index_or}
use Rattle.std.specs.List.{concat}
use Rattle.call_types.specs.Feeds.{FeedView, Gave}
use Rattle.call_types.specs.Good.{is_good}
use Rattle.call_types.specs.declared.why.Why.{Why}
use Rattle.call_types.specs.declared.why.Why.TheVariants.{Good}
use Rattle.put_stage.specs.TakenBodies.{GaveUpTo, TookWindow}
use Rattle.put_stage.specs.Windows.{window_size}
use Rattle.put_stage.specs.declared.dues.Due.{Due}
use Rattle.put_stage.specs.declared.dues.Due.TheVariants.{Block, Nothing}
use Rattle.put_stage.specs.declared.stage.Load.{Load}
use Rattle.put_stage.specs.declared.answers.StageFault.{StageFault}

-- these bytes, of this number, are all that a feed gave, and no longer left
pub record GaveAll (count before after : ℕ) (bytes : List ℕ) (old new : FeedView) : Type 0 where
  pub long : length bytes ≡ count
  pub left : length bytes + after ≡ before
  pub gave : Gave bytes old new

-- a feed gave some bytes, at most so many, and they were added and are no longer left
pub record TakesMore (most before after : ℕ) (front all : List ℕ) (old new : FeedView) : Type 0 where
  pub bytes : List ℕ
  pub added : all ≡ front ++ bytes
  pub left : length bytes + after ≡ before
  pub some : 0 < length bytes
  pub few : length bytes ≤ most
  pub gave : Gave bytes old new

-- what a take of a piece adds; one that is refused took at most so many bytes
abbrev pub PieceTakes : Result (Unit {0}) StageFault → ℕ → ℕ → ℕ → List ℕ → List ℕ → FeedView → FeedView → Type 0
PieceTakes (Ok _) most before after front all old new = TakesMore most before after front all old new
PieceTakes (Err _) most before after front all old new = GaveUpTo most before after old new

-- what a read of so many bytes gives; one that is refused took at most so many
abbrev pub ReadTakes : Result (Unit {0}) StageFault → ℕ → ℕ → ℕ → List ℕ → FeedView → FeedView → Type 0
ReadTakes (Ok _) count before after bytes old new = GaveAll count before after bytes old new
ReadTakes (Err _) count before after bytes old new = GaveUpTo count before after old new

-- a load took a window of what a feed gave
abbrev pub LoadTakes : Result (Unit {0}) StageFault → Load → Load → FeedView → FeedView → Type 0
LoadTakes (Ok _) old new before after = (bytes : List ℕ) × TookWindow old new bytes × Gave bytes before after
LoadTakes (Err _) old new before after = GaveUpTo (window_size old.set.drives) old.left new.left before after

-- a block is due on each drive that serves, and on the others the same call as before
pub record AreDueAfter (whys : List Why) (old new : List Due) : Type 0 where
  pub serving : (k : ℕ) → k < length whys → is_good (slice_index_or whys k Good) ≡ true → slice_index_or new k Nothing ≡ Block
  pub others : (k : ℕ) → k < length whys → is_good (slice_index_or whys k Good) ≡ false → slice_index_or new k Nothing ≡ slice_index_or old k Nothing

-- of n digest tables each has got its next digests, so many to one
abbrev pub AddsDigests : ℕ → ℕ → List (List ℕ) → List (List ℕ) → List (List ℕ) → Type 0
AddsDigests n count digests old new = (k : ℕ) → k < n → slice_index_or new k [] ≡ slice_index_or old k [] ++ concat (take count (drop (count * k) digests))
