-- Lanes that serve, and what they make sure of.
use Rattle.std.specs.Prelude.{◌≡◌, ◌↔◌, ℕ, ◌<◌, ◌≤◌, Bool, IsTrue, List, Option, None, Result, length, slice_index_or}
use Rattle.std.specs.Int.{IsBitSet}
use Rattle.std.specs.Result.{IsOk}
use Rattle.fault_base.specs.Counts.{Rose}
use Rattle.call_types.specs.Good.{good_count}
use Rattle.call_types.specs.declared.why.Why.{Why}
use Rattle.call_types.specs.declared.why.Why.TheVariants.{Good}
use Rattle.drive_base.specs.DriveSet.{count_in}
use Rattle.drive_base.specs.Files.{Files}
use Rattle.drive_base.specs.Plan.{write_drives}
use Rattle.drive_base.specs.declared.drive.Drive.{Ghosts}
use Rattle.drive_base.specs.declared.plan.SetPlan.{SetPlan}
use Rattle.register_file.specs.Lengths.{longest_file}
use Rattle.register_file.specs.declared.record.RegFile.{RegFile}
use Rattle.vote_core.specs.Lane.{Lane, HasNext, blank_lane, Next as LaneNext}
use Rattle.register_core.specs.Looks.{LaneIsRead}
use Rattle.register_core.specs.LaneWrites.{letter_at}
use Rattle.register_core.specs.Records.{HasLane}

-- each content of a lane's record has at most so many bytes
pub record IsWithin (longest : ℕ) (lane : Lane) : Type 0 where
  pub base : length lane.base.content ≤ longest
  pub next : (next : LaneNext) → HasNext lane next → length next.content ≤ longest

-- a lane that is in use, tells what it holds, had no fault, and shows what it keeps, a record whose contents are not too long, has a good letter
abbrev pub ServingLaneIsRead : Type 0
ServingLaneIsRead = (longest out k : ℕ) (name : List ℕ) (read : Option RegFile) (why : Why) (tells : Bool) (files : Files) (old new : ℕ) (lane : Lane)
    → LaneIsRead (longest_file longest) name read why (IsBitSet out k) tells files old new
    → ¬ IsBitSet out k → IsTrue tells → ¬ Rose old new → files.shown name ≡ files.kept name → HasLane (files.kept name) lane → IsWithin longest lane
    → why ≡ Good

-- lanes of a set that all have a good letter are no more than the good letters
abbrev pub GoodLettersCount : Type 0
GoodLettersCount = (set : ℕ) (whys : List Why) → ((k : ℕ) → k < length whys → IsBitSet set k → letter_at whys k ≡ Good)
    → count_in set (length whys) ≤ good_count whys

-- a lane that keeps no file of the register has the blank record
abbrev pub NoFileIsBlank : Type 0
NoFileIsBlank = (lane : Lane) → HasLane None lane ↔ (lane ≡ blank_lane)

module _ {D : Type 0} (ghosts : Ghosts D) where
  -- a lane serves a call where it is in use, tells what it holds, and its count of faults didn't rise
  pub record Serves (out k : ℕ) (old new : D) : Type 0 where
    pub in_use : ¬ IsBitSet out k
    pub told : IsTrue (ghosts.tells old)
    pub calm : ¬ Rose (ghosts.count old) (ghosts.count new)

  -- each lane of a set serves, and its letter was good before
  abbrev pub AllServe : ℕ → ℕ → List Why → List D → List D → Type 0
  AllServe out serving letters old new = (k : ℕ) (default : D) → k < length old → IsBitSet serving k
      → Serves out k (slice_index_or old k default) (slice_index_or new k default) × (letter_at letters k ≡ Good)

  -- a call on the lanes of a set succeeds where as many of them as a write needs serve it
  abbrev pub OkWhereServed : {T E : Type 0} → SetPlan → ℕ → List Why → Result T E → List D → List D → Type 0
  OkWhereServed set out letters result old new = (serving : ℕ) → AllServe out serving letters old new
      → write_drives set.drives set.parity ≤ count_in serving set.drives → IsOk result
