-- What the rules of a page mean for whoever goes over the keys of a bucket in their order.
use Rattle.std.specs.Prelude.{◌≡◌, ◌≢◌, ◌<◌, true, List, ℕ, [], ◌∷◌, ◌++◌, All, Contains, length, Some}
use Rattle.std.specs.declared.cmp.Ordering.TheVariants.{Less}
use Rattle.call_types.specs.declared.reply.VersionRow.{VersionRow}
use Rattle.drive_base.specs.Names.{byte_order}
use Rattle.receipts.specs.Listing.{IsDue}
use Rattle.receipts.specs.Pages.{Candidate, PageRule, begins_with, candidate_rows, group_of, name_of, row_name, rows_of, wants, with_candidate}
use Rattle.list_page.specs.Starting.{first_key}

-- no wanted key stands before the first one
abbrev pub FirstIsFirst : Type 0
FirstIsFirst = (rule : PageRule) (key : List ℕ) → wants rule key ≡ true → byte_order key (first_key rule) ≢ Less

-- the first one begins with the prefix
abbrev pub FirstIsInRange : Type 0
FirstIsInRange = (rule : PageRule) → begins_with rule.prefix (first_key rule) ≡ true

-- a text begins with another one exactly where it is that one and a rest
abbrev pub BeginsWithFront : Type 0
BeginsWithFront = (front text : List ℕ) → begins_with front text ≡ true → (rest : List ℕ) × (text ≡ front ++ rest)

abbrev pub FrontIsBegin : Type 0
FrontIsBegin = (front rest : List ℕ) → begins_with front (front ++ rest) ≡ true

-- each wanted key begins with the prefix
abbrev pub WantedIsInRange : Type 0
WantedIsInRange = (rule : PageRule) (key : List ℕ) → wants rule key ≡ true → begins_with rule.prefix key ≡ true

-- a row is one of a wanted key that was looked at, and has the name of the row that this key is in
pub record IsRowOf (rule : PageRule) (looked : List Candidate) (row : VersionRow) : Type 0 where
  pub candidate : Candidate
  pub looked_at : Contains looked candidate
  pub wanted : wants rule candidate.key ≡ true
  pub is_row : Contains (candidate_rows rule candidate) row
  pub name_is : name_of row ≡ row_name rule candidate.key

abbrev pub RowsAreOfCandidates : Type 0
RowsAreOfCandidates = (rule : PageRule) (looked : List Candidate) → All (IsRowOf rule looked) (rows_of rule looked)

-- Where a page has more rows than it gives, no key is due that stands behind all keys that were looked at.
abbrev pub PageOnTime : Type 0
PageOnTime = (rule : PageRule) (looked : List Candidate) (key : List ℕ) → 0 < rule.most → rule.most < length (rows_of rule looked)
    → All (λ candidate. byte_order candidate.key key ≡ Less) looked → IsDue rule (rows_of rule looked) key → ⊥

-- a text that begins with the group of a key has the same group
abbrev pub GroupStays : Type 0
GroupStays = (rule : PageRule) (key group text : List ℕ) → group_of rule key ≡ Some group → begins_with group text ≡ true
    → group_of rule text ≡ Some group

-- the name of the row that a key is in is a front of the key
abbrev pub RowNameIsFront : Type 0
RowNameIsFront = (rule : PageRule) (key : List ℕ) → begins_with rule.prefix key ≡ true → begins_with (row_name rule key) key ≡ true

-- one key more adds its rows
abbrev pub RowsOfMore : Type 0
RowsOfMore = (rule : PageRule) (looked : List Candidate) (candidate : Candidate)
    → rows_of rule (looked ++ candidate ∷ []) ≡ with_candidate rule (rows_of rule looked) candidate

-- rows only grow
abbrev pub RowsGrow : Type 0
RowsGrow = (rule : PageRule) (rows : List VersionRow) (candidate : Candidate) → (more : List VersionRow) × (with_candidate rule rows candidate ≡ rows ++ more)
