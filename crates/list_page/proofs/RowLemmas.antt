-- The rows of keys.
use Rattle.std.proofs.Common.{◌≡◌, ℕ, Bool, true, false, List, [], ◌∷◌, ◌++◌, Option, Some, None, append_assoc, refl, sym, subst}
use Rattle.std.proofs.lemmas.List.{append-nil}
use Rattle.std.proofs.lemmas.List.Elements.{All-append, All-cons, All-contains_itself, All-drop, All-map, All-nil, All-weaker, Contains-append_left, Contains-push}
use Rattle.std.proofs.lemmas.List.Sums.{fold-append}
use Rattle.std.specs.Prelude.{◌&&◌, if◌then◌else◌, All, Contains, drop, fold, map, not, slice_index_or, unwrap_or}
use Rattle.call_types.specs.declared.names.VersionName.{VersionName}
use Rattle.call_types.specs.declared.reply.VersionRow.{VersionRow}
use Rattle.call_types.specs.declared.reply.VersionRow.TheVariants as row
use Rattle.call_types.specs.declared.version.Version.{Version}
use Rattle.call_types.specs.declared.version.What.{What}
use Rattle.call_types.specs.declared.version.What.TheVariants.{Marker, Object}
use Rattle.version_list.specs.Naming.{is_marker}
use Rattle.receipts.specs.Pages.{Candidate, PageRule, all_rows, candidate_rows, current_row, group_of, grouped_rows, is_in_last, left_out, name_of, row_name, row_of, rows_of, version_rows, wants, what_row, with_candidate}
use Rattle.list_page.specs.Laws.{IsRowOf}
use Rattle.list_page.proofs.StartLemmas.{both}

-- rows of a key have its name
what_name : (key : List ℕ) (id : VersionName) (latest : Bool) (modified : ℕ) (what : What) → name_of (what_row key id latest modified what) ≡ key
what_name key id latest modified Marker = refl
what_name key id latest modified (Object data_id print size md5 parts upload kind) = refl

row_of_name : (key : List ℕ) (latest : Bool) (version : Version) → name_of (row_of key latest version) ≡ key
row_of_name key latest version = what_name key version.id latest version.modified version.what

all_names : (key : List ℕ) (versions : List Version) → All (λ given. name_of given ≡ key) (all_rows key versions)
all_names key [] = All-nil (λ given. name_of given ≡ key)
all_names key (version ∷ older) = All-cons (λ given. name_of given ≡ key) (row_of key true version) (map (row_of key false) older) (row_of_name key true version)
    (All-map (λ given. name_of given ≡ key) (row_of key false) older (λ k d inside. row_of_name key false (slice_index_or older k d)))

current_by : (key : List ℕ) (version : Version) (marker : Bool)
    → All (λ given. name_of given ≡ key) (if marker then [] else row_of key true version ∷ [])
current_by key version true = All-nil (λ given. name_of given ≡ key)
current_by key version false =
    All-cons (λ given. name_of given ≡ key) (row_of key true version) [] (row_of_name key true version) (All-nil (λ given. name_of given ≡ key))

current_names : (key : List ℕ) (versions : List Version) → All (λ given. name_of given ≡ key) (current_row key versions)
current_names key [] = All-nil (λ given. name_of given ≡ key)
current_names key (version ∷ older) = current_by key version (is_marker version.what)

version_by : (key : List ℕ) (n : ℕ) (versions : List Version) (test : Bool)
    → All (λ given. name_of given ≡ key) (if test then drop n (all_rows key versions) else current_row key versions)
version_by key n versions true = All-drop (λ given. name_of given ≡ key) n (all_rows key versions) (all_names key versions)
version_by key n versions false = current_names key versions

grouped_names : (key : List ℕ) (group : Option (List ℕ)) (rows : List VersionRow) → All (λ given. name_of given ≡ key) rows
    → All (λ given. name_of given ≡ unwrap_or group key) (grouped_rows group rows)
grouped_names key None rows names = names
grouped_names key (Some group) [] names = All-nil (λ given. name_of given ≡ group)
grouped_names key (Some group) (first ∷ more) names =
    All-cons (λ given. name_of given ≡ group) (row.Group group) [] refl (All-nil (λ given. name_of given ≡ group))

pub candidate_names : (rule : PageRule) (candidate : Candidate)
    → All (λ given. name_of given ≡ row_name rule candidate.key) (candidate_rows rule candidate)
candidate_names rule candidate = grouped_names candidate.key (group_of rule candidate.key) (version_rows rule candidate)
    (version_by candidate.key (left_out rule candidate) candidate.state.versions rule.versions)

-- rows are those of wanted keys that were looked at
more_looked : (rule : PageRule) (looked more : List Candidate) (given : VersionRow) → IsRowOf rule looked given → IsRowOf rule (looked ++ more) given
more_looked rule looked more given is = record {
  candidate = is.candidate;
  looked_at = Contains-append_left looked more is.candidate is.looked_at;
  wanted = is.wanted;
  is_row = is.is_row;
  name_is = is.name_is;
}

own_rows : (rule : PageRule) (looked : List Candidate) (candidate : Candidate) → Contains looked candidate → wants rule candidate.key ≡ true
    → All (IsRowOf rule looked) (candidate_rows rule candidate)
own_rows rule looked candidate there wanted k d inside =
    let given : VersionRow = slice_index_or (candidate_rows rule candidate) k d in
    record {
      candidate = candidate;
      looked_at = there;
      wanted = wanted;
      is_row = All-contains_itself (candidate_rows rule candidate) k d inside;
      name_is = candidate_names rule candidate k d inside;
    }

step_by : (rule : PageRule) (looked : List Candidate) (rows : List VersionRow) (candidate : Candidate) (test : Bool)
    → (wants rule candidate.key && not (is_in_last rule rows candidate.key)) ≡ test → All (IsRowOf rule looked) rows
    → All (IsRowOf rule (looked ++ candidate ∷ [])) (if test then rows ++ candidate_rows rule candidate else rows)
step_by rule looked rows candidate true is all = All-append (IsRowOf rule (looked ++ candidate ∷ [])) rows (candidate_rows rule candidate)
    (All-weaker (IsRowOf rule looked) (IsRowOf rule (looked ++ candidate ∷ [])) (more_looked rule looked (candidate ∷ [])) rows all)
    (own_rows rule (looked ++ candidate ∷ []) candidate (Contains-push looked candidate)
    (both (wants rule candidate.key) (not (is_in_last rule rows candidate.key)) is).0)
step_by rule looked rows candidate false is all =
    All-weaker (IsRowOf rule looked) (IsRowOf rule (looked ++ candidate ∷ [])) (more_looked rule looked (candidate ∷ [])) rows all

rows_by : (rule : PageRule) (before after : List Candidate) (rows : List VersionRow) → All (IsRowOf rule before) rows
    → All (IsRowOf rule (before ++ after)) (fold (with_candidate rule) rows after)
rows_by rule before [] rows all = subst (λ looked. All (IsRowOf rule looked) rows) (sym (append-nil before)) all
rows_by rule before (candidate ∷ after) rows all =
    subst (λ looked. All (IsRowOf rule looked) (fold (with_candidate rule) (with_candidate rule rows candidate) after))
    (append_assoc before (candidate ∷ []) after)
    (rows_by rule (before ++ candidate ∷ []) after (with_candidate rule rows candidate)
    (step_by rule before rows candidate (wants rule candidate.key && not (is_in_last rule rows candidate.key)) refl all))

pub rows_are_of : (rule : PageRule) (looked : List Candidate) → All (IsRowOf rule looked) (rows_of rule looked)
rows_are_of rule looked = rows_by rule [] looked [] (All-nil (IsRowOf rule []))

-- one key more adds its rows
pub rows_of_more : (rule : PageRule) (looked : List Candidate) (candidate : Candidate)
    → rows_of rule (looked ++ candidate ∷ []) ≡ with_candidate rule (rows_of rule looked) candidate
rows_of_more rule looked candidate = fold-append (with_candidate rule) [] looked (candidate ∷ [])

grow_by : (rule : PageRule) (rows : List VersionRow) (candidate : Candidate) (test : Bool)
    → (more : List VersionRow) × ((if test then rows ++ candidate_rows rule candidate else rows) ≡ rows ++ more)
grow_by rule rows candidate true = (candidate_rows rule candidate, refl)
grow_by rule rows candidate false = ([], sym (append-nil rows))

pub rows_grow : (rule : PageRule) (rows : List VersionRow) (candidate : Candidate) → (more : List VersionRow) × (with_candidate rule rows candidate ≡ rows ++ more)
rows_grow rule rows candidate = grow_by rule rows candidate (wants rule candidate.key && not (is_in_last rule rows candidate.key))
