-- The names that lanes gave, as a listing gathers them.
use Rattle.std.specs.Prelude.{◌≡◌, ◌⊎◌, ℕ, ◌<◌, Bool, IsTrue, IsSome, List, All, String, slice_index_or}
use Rattle.std.specs.BTreeMap.{BTreeMap, get_by_text}
use Rattle.call_types.specs.declared.why.Why.{Why}
use Rattle.call_types.specs.declared.why.Why.TheVariants.{Good}
use Rattle.drive_base.specs.Files.{Files}
use Rattle.drive_base.specs.declared.drive.Drive.{Ghosts}
use Rattle.drive_base.specs.Names.{IsPage, ListsShown}
use Rattle.drive_base.specs.declared.drive.TheConstants.{LONGEST_NAME}
use Rattle.register_core.specs.LaneWrites.{letter_at}
use Rattle.slot_core.specs.NameList.{IsShown, NamesLetter}

-- a name is among those that were gathered
abbrev pub IsGathered : {X Y : Type 0} → BTreeMap (String Y) X → List ℕ → Type 0
IsGathered gathered name = IsSome (get_by_text gathered name)

module _ {D : Type 0} (tells : D → Bool) (files : D → Files) where
  -- the page that a lane gave is gathered
  pub record HasPage (from : List ℕ) (most : ℕ) (Has : List ℕ → Type 0) (lane : D) : Type 0 where
    pub given : List (List ℕ)
    pub page : IsPage from most LONGEST_NAME given
    pub there : All Has given
    pub shown : IsTrue (tells lane) → ListsShown (files lane).shown from most LONGEST_NAME given

  -- so is that of each lane before this place that answered, and each name that is gathered is shown by one of them
  pub record AreGathered (upto : ℕ) (from : List ℕ) (most : ℕ) (whys : List Why) (Has : List ℕ → Type 0) (lanes : List D) : Type 0 where
    pub shows : (name : List ℕ) → Has name → (by : IsShown tells files whys lanes name) × (by.place < upto)
    pub pages : (k : ℕ) (d : D) → k < upto → letter_at whys k ≡ Good → HasPage from most Has (slice_index_or lanes k d)

module _ {D : Type 0} (ghosts : Ghosts D) where
  -- one lane was asked: its letter, what was gathered stays, what is new is what it shows, and its page is gathered
  pub record AsksLane (out : Type 0) (from : List ℕ) (most : ℕ) (why : Why) (Had Has : List ℕ → Type 0) (old new : D) : Type 0 where
    pub letter : NamesLetter out why (ghosts.count old) (ghosts.count new)
    pub stay : out → new ≡ old
    pub keeps : (name : List ℕ) → Had name → Has name
    pub from_lane : (name : List ℕ) → Has name → Had name ⊎ ((why ≡ Good) × (IsTrue (ghosts.tells old) → IsSome ((ghosts.files old).shown name)))
    pub page : why ≡ Good → HasPage ghosts.tells ghosts.files from most Has old
