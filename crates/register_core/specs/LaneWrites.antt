-- What a loop of writes leaves of each lane.
use Rattle.std.specs.Prelude.{◌≡◌, ◌≢◌, ◌⊎◌, ℕ, ◌+◌, ◌<◌, ◌≤◌, false, IsTrue, List, None, bytes_eq, length, slice_index_or}
use Rattle.std.specs.Int.{IsBitSet}
use Rattle.call_types.specs.declared.why.FileKind.TheVariants.{Format, Register}
use Rattle.call_types.specs.declared.why.Why.{Why}
use Rattle.call_types.specs.declared.why.Why.TheVariants.{Good, Lacks}
use Rattle.drive_base.specs.declared.drive.Drive.{Ghosts}
use Rattle.file_access.specs.Writing.{WriteLeaves, WriteCause}
use Rattle.register_core.specs.Loose.{loose_name}
use Rattle.register_core.specs.OnLanes.{AllTell, AreHonest, AreUnused}

-- the letter of a lane
abbrev pub letter_at : List Why → ℕ → Why
letter_at whys k = slice_index_or whys k (Lacks Format)

-- a lane is written where it isn't out, isn't passed over, and its letter is good
pub record IsTarget (out passed : ℕ) (letters : List Why) (k : ℕ) : Type 0 where
  pub in_use : IsBitSet out k → ⊥
  pub not_passed : IsBitSet passed k → ⊥
  pub good : letter_at letters k ≡ Good

module _ {D : Type 0} (ghosts : Ghosts D) where
  -- a file is written to a lane under a loose name of its own: three calls, of which each may fail
  pub record Writes (name bytes : List ℕ) (term from to : ℕ) (why : Why) (old new : D) : Type 0 where
    pub number : ℕ
    pub low : from ≤ number
    pub high : number < to
    pub leaves : IsTrue (ghosts.tells old) → (ghosts.files old).loose (loose_name term number) ≡ None
        → WriteLeaves why (loose_name term number) name bytes (ghosts.files old) (ghosts.files new)
    pub cause : WriteCause Register (IsTrue (ghosts.tells old)) why (ghosts.count old) (ghosts.count new)

  -- a lane that is out isn't called, and has the letter of that
  pub record IsOut (out k : ℕ) (why : Why) (old new : D) : Type 0 where
    pub out_is : IsBitSet out k
    pub letter : why ≡ Lacks Format
    pub stays : new ≡ old

  -- a lane that is passed over, or whose letter isn't good, isn't called and keeps its letter
  pub record IsPassed (out passed k : ℕ) (letter why : Why) (old new : D) : Type 0 where
    pub in_use : IsBitSet out k → ⊥
    pub passed_is : IsBitSet passed k ⊎ (letter ≢ Good)
    pub letter_is : why ≡ letter
    pub stays : new ≡ old

  -- what a loop over lanes leaves of one of them: it is out, or it isn't called, or a file of the register is written to it
  abbrev pub OnLane : ℕ → ℕ → List ℕ → List ℕ → ℕ → ℕ → ℕ → List Why → ℕ → Why → D → D → Type 0
  OnLane out passed name bytes term from to letters k why old new = IsOut out k why old new
      ⊎ IsPassed out passed k (letter_at letters k) why old new
      ⊎ (IsTarget out passed letters k × Writes name bytes term from to why old new)

  -- a loop writes a file of the register on each target
  pub record WritesEach (out passed : ℕ) (name bytes : List ℕ) (term from to : ℕ) (letters whys : List Why) (old new : List D) : Type 0 where
    pub long : length new ≡ length old
    pub counted : length whys ≡ length letters
    pub later : from ≤ to
    pub few : to ≤ from + length old
    pub each : (k : ℕ) (default : D) → k < length old
        → OnLane out passed name bytes term from to letters k (letter_at whys k) (slice_index_or old k default) (slice_index_or new k default)

  -- what a loop keeps of the drives besides the register's records: the loose names of later writes are not in use, what is under a loose name that the
  -- loop didn't use stays, the files of other names stay, and damage is as honest as it was
  pub record KeepsDrives (out : ℕ) (name : List ℕ) (term from to : ℕ) (old new : List D) : Type 0 where
    pub unused : AreUnused ghosts.files out term to new
    pub loose : (k : ℕ) (default : D) (other : List ℕ) → k < length old → (IsBitSet out k → ⊥)
        → ((number : ℕ) → from ≤ number → number < to → bytes_eq (loose_name term number) other ≡ false)
        → (ghosts.files (slice_index_or new k default)).loose other ≡ (ghosts.files (slice_index_or old k default)).loose other
    pub others : (k : ℕ) (default : D) (other : List ℕ) → k < length old → (IsBitSet out k → ⊥) → bytes_eq name other ≡ false
        → ((ghosts.files (slice_index_or new k default)).kept other ≡ (ghosts.files (slice_index_or old k default)).kept other)
        × ((ghosts.files (slice_index_or new k default)).shown other ≡ (ghosts.files (slice_index_or old k default)).shown other)
    pub honest : AreHonest ghosts.files out name old → AreHonest ghosts.files out name new

  -- the same, of drives that tell what they hold and have no loose file of a later name
  abbrev pub KeepsOthers : ℕ → List ℕ → ℕ → ℕ → ℕ → List D → List D → Type 0
  KeepsOthers out name term from to old new = AllTell ghosts.tells out old → AreUnused ghosts.files out term from old → KeepsDrives out name term from to old new
