-- Listings of names, in the order of their bytes.
use Rattle.std.specs.Prelude.{◌≡◌, ◌≢◌, ◌⊎◌, ℕ, ◌≤◌, List, length, map, All, Contains, IsSome, Result, Ok, Err, Vec, String}
use Rattle.std.specs.String.{string_bytes}
use Rattle.std.specs.declared.cmp.Ordering.{Ordering}
use Rattle.std.specs.declared.cmp.Ordering.TheVariants.{Less}
use Rattle.std.specs.Ordering.{nat_cmp}
use Rattle.std.specs.Cmp.Lexicographic.{slice_cmp}
use Rattle.std.specs.List.Sorted.{IsStrictlySortedBy}
use Rattle.drive_base.specs.declared.fault.DriveFault.{DriveFault}
use Rattle.drive_base.specs.declared.fault.DriveFault.TheVariants.{Absent, Failed, NoMemory}
use Rattle.drive_base.specs.Files.{Files, Named}

-- the order of names: byte by byte
abbrev pub byte_order : List ℕ → List ℕ → Ordering
byte_order = slice_cmp nat_cmp

-- one name stands before another
abbrev pub IsBefore : List ℕ → List ℕ → Type 0
IsBefore a b = byte_order a b ≡ Less

-- a page of a listing: at most `most` names, rising, none before `from`, none longer than `longest`
pub record IsPage (from : List ℕ) (most longest : ℕ) (names : List (List ℕ)) : Type 0 where
  pub few : length names ≤ most
  pub rising : IsStrictlySortedBy byte_order names
  pub begins : All (λ name. byte_order name from ≢ Less) names
  pub short : All (λ name. length name ≤ longest) names

-- the page shows files that are shown, and leaves out a shown name only where it is full and ends before that name
pub record ListsShown {T : Type 0} (shown : Named T) (from : List ℕ) (most longest : ℕ) (names : List (List ℕ)) : Type 0 where
  pub shows : All (λ name. IsSome (shown name)) names
  pub complete : (name : List ℕ) → IsSome (shown name) → byte_order name from ≢ Less → length name ≤ longest
      → Contains names name ⊎ ((length names ≡ most) × All (λ given. IsBefore given name) names)

-- `names` answers the first shown names, and changes nothing
abbrev pub NamesAnswers : {Y Z : Type 0} → Files → List ℕ → ℕ → ℕ → Result (Vec (String Y) Z) DriveFault → Files → Type 0
NamesAnswers old from most longest (Ok names) new = ListsShown old.shown from most longest (map string_bytes names.items) × (new ≡ old)
NamesAnswers old from most longest (Err Absent) new = ⊥
NamesAnswers old from most longest (Err Failed) new = new ≡ old
NamesAnswers old from most longest (Err NoMemory) new = new ≡ old
