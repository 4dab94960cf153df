-- How many fills and steps a stage has left at most.
use Rattle.std.specs.Prelude.{ℕ, ◌+◌, ◌*◌, Bool, true, false}
use Rattle.std.proofs.Common.{zero, suc}
use Rattle.call_types.specs.Good.{is_good}
use Rattle.put_stage.specs.Work.{due_at, why_at}
use Rattle.put_stage.specs.declared.dues.Due.{Due}
use Rattle.put_stage.specs.declared.dues.Due.TheVariants.{Block, Table, SyncShard, Manifest, SyncManifest, PlaceManifest, PlaceShard, Nothing}
use Rattle.put_stage.specs.declared.stage.Stage.{Stage}

-- the sum of the first n values
unfoldable pub sum_below : (ℕ → ℕ) → ℕ → ℕ
sum_below f zero = 0
sum_below f (suc k) = sum_below f k + f k

-- the calls of a drive from this one on, if no byte is taken any more
abbrev pub calls_from : Due → ℕ
calls_from Block = 7
calls_from Table = 6
calls_from SyncShard = 5
calls_from Manifest = 4
calls_from SyncManifest = 3
calls_from PlaceManifest = 2
calls_from PlaceShard = 1
calls_from Nothing = 0

-- those of a drive that serves
abbrev pub calls_if : Bool → ℕ → ℕ
calls_if true calls = calls
calls_if false calls = 0

abbrev pub calls_on : Stage → ℕ → ℕ
calls_on stage k = calls_if (is_good (why_at stage k)) (calls_from (due_at stage k))

-- where each fill takes one byte, and after it each drive has all its calls to make
unfoldable pub calls_left : Stage → ℕ
calls_left stage = stage.load.left * (7 * stage.load.set.drives + 1) + sum_below (calls_on stage) stage.load.set.drives
