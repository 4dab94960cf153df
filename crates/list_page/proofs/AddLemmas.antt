-- The rows that a key adds.
use Rattle.std.proofs.Common.{◌≡◌, ◌∙◌, ℕ, ◌+◌, ◌<◌, Bool, true, false, List, [], ◌∷◌, ◌++◌, length, drop, Some, append_assoc, drop-cons, refl, sym, ap, arith}
use Rattle.std.proofs.Math.ListN.{get_or-map}
use Rattle.std.proofs.lemmas.List.{length-map}
use Rattle.std.specs.Prelude.{◌==◌, ◌&&◌, if◌then◌else◌, map, nat_lt, not, slice_index_or, zero, suc}
use Rattle.call_types.specs.declared.reply.VersionRow.{VersionRow}
use Rattle.call_types.specs.declared.reply.VersionRow.TheVariants as row
use Rattle.call_types.specs.declared.version.Version.{Version}
use Rattle.version_list.specs.Naming.{is_marker}
use Rattle.receipts.specs.Pages.{Candidate, PageRule, all_rows, candidate_rows, current_row, group_of, grouped_rows, is_in_last, left_out, row_of, version_rows, wants, with_candidate}
use Rattle.list_page.specs.Rows.{has_object, has_rows}

-- the row of the version at a place
older_at : (key : List ℕ) (versions : List Version) (place : ℕ) (d : Version) → place < length versions
    → drop place (map (row_of key false) versions) ≡ row_of key false (slice_index_or versions place d) ∷ drop (suc place) (map (row_of key false) versions)
older_at key versions place d inside =
    let few : place < length (map (row_of key false) versions) = omega (arith, length-map versions (row_of key false)) in
    rw (drop-cons (map (row_of key false) versions) place (row_of key false d), get_or-map (row_of key false) versions place d) refl

pub row_at : (key : List ℕ) (versions : List Version) (place : ℕ) (d : Version) → place < length versions
    → drop place (all_rows key versions) ≡ row_of key (place == 0) (slice_index_or versions place d) ∷ drop (place + 1) (all_rows key versions)
row_at key [] place d inside = absurd (omega arith)
row_at key (version ∷ older) zero d inside = refl
row_at key (version ∷ older) (suc place) d inside =
    let later : (suc place == 0) ≡ false = grind arith in
    let next : suc place + 1 ≡ suc (suc place) = omega arith in
    rw (later, next) (older_at key older place d (omega arith))

-- one row more
pub row_added : (rows : List VersionRow) (given : VersionRow) (left more all : List VersionRow) → rows ++ left ≡ all → left ≡ given ∷ more
    → (rows ++ given ∷ []) ++ more ≡ all
row_added rows given left more all is next = append_assoc rows (given ∷ []) more ∙ (ap (λ l. rows ++ l) (sym next) ∙ is)

-- a key that has rows
pub record IsSome (rows : List VersionRow) : Type 0 where
  pub first : VersionRow
  pub more : List VersionRow
  pub parts : rows ≡ first ∷ more

all_some : (key : List ℕ) (versions : List Version) (n : ℕ) → n < length versions → IsSome (drop n (all_rows key versions))
all_some key [] n inside = absurd (omega arith)
all_some key (version ∷ older) n inside = record {
  first = row_of key (n == 0) (slice_index_or (version ∷ older) n version);
  more = drop (n + 1) (all_rows key (version ∷ older));
  parts = row_at key (version ∷ older) n version inside;
}

current_by : (key : List ℕ) (version : Version) (marker : Bool) → not marker ≡ true → IsSome (if marker then [] else row_of key true version ∷ [])
current_by key version true is = absurd (let no : false ≡ true = is in cc)
current_by key version false is = record { first = row_of key true version; more = []; parts = refl }

current_some : (key : List ℕ) (versions : List Version) → has_object versions ≡ true → IsSome (current_row key versions)
current_some key [] is = absurd (let no : false ≡ true = is in cc)
current_some key (version ∷ older) is = current_by key version (is_marker version.what) is

below : (a b : ℕ) → nat_lt a b ≡ true → a < b
below a b is = grind (arith, is)

some_by : (key : List ℕ) (versions : List Version) (n : ℕ) (test : Bool)
    → (if test then nat_lt n (length versions) else has_object versions) ≡ true
    → IsSome (if test then drop n (all_rows key versions) else current_row key versions)
some_by key versions n true is = all_some key versions n (below n (length versions) is)
some_by key versions n false is = current_some key versions is

pub rows_some : (rule : PageRule) (candidate : Candidate) → has_rows rule candidate ≡ true → IsSome (version_rows rule candidate)
rows_some rule candidate is = some_by candidate.key candidate.state.versions (left_out rule candidate) rule.versions is

-- the row of its group
pub group_added : (rule : PageRule) (rows : List VersionRow) (candidate : Candidate) (group : List ℕ) → wants rule candidate.key ≡ true
    → is_in_last rule rows candidate.key ≡ false → group_of rule candidate.key ≡ Some group → has_rows rule candidate ≡ true
    → with_candidate rule rows candidate ≡ rows ++ row.Group group ∷ []
group_added rule rows candidate group wanted fresh grouped some =
    let its : IsSome (version_rows rule candidate) = rows_some rule candidate some in
    let own : candidate_rows rule candidate ≡ row.Group group ∷ [] =
    ap (λ g. grouped_rows g (version_rows rule candidate)) grouped ∙ ap (grouped_rows (Some group)) its.parts in
    let adds : (wants rule candidate.key && not (is_in_last rule rows candidate.key)) ≡ true = rw (wanted, fresh) refl in
    ap (λ test. if test then rows ++ candidate_rows rule candidate else rows) adds ∙ ap (λ l. rows ++ l) own
