-- What a listing of the names of a slot's registers answers, and what it shows of the state.
use Rattle.std.specs.Prelude.{◌≡◌, ◌≢◌, ◌⊎◌, ℕ, ◌<◌, ◌≤◌, Bool, IsTrue, IsSome, List, [], All, Contains, length, map, slice_index_or, Result, Ok, Err, String, string_bytes}
use Rattle.std.specs.Int.{IsBitSet}
use Rattle.std.specs.declared.cmp.Ordering.TheVariants.{Less}
use Rattle.fault_base.specs.Counts.{Rose}
use Rattle.call_types.specs.Good.{good_count}
use Rattle.call_types.specs.declared.why.FileKind.TheVariants.{Format, Manifest, Register, Shard}
use Rattle.call_types.specs.declared.why.Why.{Why}
use Rattle.call_types.specs.declared.why.Why.TheVariants.{Behind, Damaged, Failed, Good, Lacks}
use Rattle.drive_base.specs.declared.drive.Drive.{Ghosts}
use Rattle.drive_base.specs.Files.{Files}
use Rattle.drive_base.specs.Names.{IsBefore, IsPage, byte_order}
use Rattle.drive_base.specs.Plan.{data_drives}
use Rattle.drive_base.specs.declared.drive.TheConstants.{LONGEST_NAME}
use Rattle.drive_base.specs.declared.plan.SetPlan.{SetPlan}
use Rattle.register_core.specs.LaneWrites.{letter_at}
use Rattle.register_core.specs.declared.faults.QuorumFault.TheVariants.{NoMemory as NoMemoryQuorum, ReadQuorum, Undecided, WriteQuorum}
use Rattle.audit_trail.specs.declared.entry.Entry.{Entry}
use Rattle.slot_history.specs.State.{IsHeld, State}
use Rattle.slot_core.specs.Sections.{SaysKept}
use Rattle.slot_core.specs.declared.slot.SlotFault.{SlotFault}
use Rattle.slot_core.specs.declared.slot.SlotFault.TheVariants.{AuditFailed, Key, NoMemory, NotInFlight, Quorum, SeqSpent}

-- a name is in the stretch of a listing: it isn't before `from`, and not longer than a drive's names
pub record IsListable (from name : List ℕ) : Type 0 where
  pub begins : byte_order name from ≢ Less
  pub short : length name ≤ LONGEST_NAME

-- a listing has a name, or it has as many as it may and all of them stand before that one
abbrev pub IsGiven : ℕ → List (List ℕ) → List ℕ → Type 0
IsGiven most names name = Contains names name ⊎ ((length names ≡ most) × All (λ given. IsBefore given name) names)

-- why a lane gave its names, or didn't: it answered, its call failed, or it is out and wasn't called
abbrev pub NamesLetter : Type 0 → Why → ℕ → ℕ → Type 0
NamesLetter out Good old new = (out → ⊥) × (new ≡ old)
NamesLetter out (Failed before after) old new = (out → ⊥) × (before ≡ old) × (after ≡ new) × Rose old new
NamesLetter out (Damaged _) old new = ⊥
NamesLetter out (Behind _) old new = ⊥
NamesLetter out (Lacks Format) old new = out × (new ≡ old)
NamesLetter out (Lacks Register) old new = ⊥
NamesLetter out (Lacks Manifest) old new = ⊥
NamesLetter out (Lacks Shard) old new = ⊥

module _ {D : Type 0} (count : D → ℕ) where
  -- each lane that isn't out was asked for its names, by one call
  pub record LanesAreAsked (out : ℕ) (whys : List Why) (old new : List D) : Type 0 where
    pub lettered : length whys ≡ length old
    pub each : (k : ℕ) (d : D) → k < length old → NamesLetter (IsBitSet out k) (letter_at whys k) (count (slice_index_or old k d)) (count (slice_index_or new k d))
    pub stay : (k : ℕ) (d : D) → IsBitSet out k → slice_index_or new k d ≡ slice_index_or old k d

  -- too few lanes answered, with these letters
  pub record TooFewAnswered (set : SetPlan) (whys : List Why) (old new : List D) : Type 0 where
    pub asked : LanesAreAsked set.out whys old new
    pub few : good_count whys < data_drives set.drives set.parity

module _ {D : Type 0} (tells : D → Bool) (files : D → Files) where
  -- a lane that answered shows a name, if it tells what it shows
  pub record IsShown (whys : List Why) (lanes : List D) (name : List ℕ) : Type 0 where
    pub place : ℕ
    pub within : place < length lanes
    pub answered : letter_at whys place ≡ Good
    pub shown : (d : D) → IsTrue (tells (slice_index_or lanes place d)) → IsSome ((files (slice_index_or lanes place d)).shown name)

  -- names are the first that lanes show which answered: each is shown by one, and whatever one shows in the stretch is given
  pub record AreShownNames (from : List ℕ) (most : ℕ) (whys : List Why) (lanes : List D) (names : List (List ℕ)) : Type 0 where
    pub page : IsPage from most LONGEST_NAME names
    pub shows : All (IsShown whys lanes) names
    pub complete : (k : ℕ) (d : D) (name : List ℕ) → k < length lanes → letter_at whys k ≡ Good → IsTrue (tells (slice_index_or lanes k d))
        → IsSome ((files (slice_index_or lanes k d)).shown name) → IsListable from name → IsGiven most names name

module _ {D : Type 0} (ghosts : Ghosts D) where
  -- as many lanes answered as a read needs, and the names are theirs
  pub record NamesAreListed (set : SetPlan) (from : List ℕ) (most : ℕ) (names : List (List ℕ)) (old new : List D) : Type 0 where
    pub whys : List Why
    pub asked : LanesAreAsked ghosts.count set.out whys old new
    pub enough : data_drives set.drives set.parity ≤ good_count whys
    pub are : AreShownNames ghosts.tells ghosts.files from most whys old names

  -- what a listing answers, with its cause
  abbrev pub ListsNames : {Y : Type 0} → SetPlan → List ℕ → ℕ → Result (List (String Y)) SlotFault → List D → List D → Type 0
  ListsNames set from most (Ok names) old new = NamesAreListed set from most (map string_bytes names) old new
  ListsNames set from most (Err (Quorum (ReadQuorum whys))) old new = TooFewAnswered ghosts.count set whys old new
  ListsNames set from most (Err (Quorum (WriteQuorum _))) old new = ⊥
  ListsNames set from most (Err (Quorum (Undecided _ _ _))) old new = ⊥
  ListsNames set from most (Err (Quorum NoMemoryQuorum)) old new = ⊥
  ListsNames set from most (Err (Key _)) old new = ⊥
  ListsNames set from most (Err SeqSpent) old new = ⊥
  ListsNames set from most (Err (AuditFailed _ _)) old new = new ≡ old
  ListsNames set from most (Err NoMemory) old new = Unit {0}
  ListsNames set from most (Err (NotInFlight _)) old new = ⊥

-- the entry of a listing has no name, and says that its section did nothing of its own
abbrev pub SaysNothing : Entry → Type 0
SaysNothing entry = SaysKept [] entry

-- a listing shows of the state: each register that is held and that some change made is given, if its name is in the stretch
abbrev pub ShowsNames : {Y : Type 0} → List ℕ → ℕ → Result (List (String Y)) SlotFault → State → State → Type 0
ShowsNames from most (Ok names) before after = (name : List ℕ) → IsHeld before.registers name → (before.registers name).change ≢ 0
    → IsListable from name → IsGiven most (map string_bytes names) name
ShowsNames from most (Err _) before after = Unit {0}
