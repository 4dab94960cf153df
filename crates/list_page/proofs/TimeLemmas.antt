-- A page that has more rows than it gives is cut on time.
use Rattle.std.proofs.Common.{◌≡◌, ◌∙◌, ℕ, ◌<◌, ◌≤◌, true, false, List, [], ◌∷◌, ◌++◌, length, take, Option, Some, None, refl, sym, ap, subst, arith}
use Rattle.std.proofs.Math.ListN.{get_or-map}
use Rattle.std.proofs.lemmas.List.{length-map}
use Rattle.std.proofs.lemmas.List.Elements.{All-contains}
use Rattle.std.specs.List.{last_or}
use Rattle.std.specs.Prelude.{All, Contains, MatchOption, map, slice_index_or, zero, suc, unwrap_or}
use Rattle.std.specs.declared.cmp.Ordering.TheVariants.{Less}
use Rattle.call_types.specs.declared.reply.VersionRow.{VersionRow}
use Rattle.call_types.specs.declared.reply.VersionRow.TheVariants as row
use Rattle.drive_base.specs.Names.{IsBefore, byte_order}
use Rattle.receipts.proofs.OrderLemmas.{upto_trans}
use Rattle.receipts.specs.Listing.{IsDue}
use Rattle.receipts.specs.Pages.{Candidate, PageRule, group_in, group_of, grouped_rows, is_before, is_truncated, name_of, row_name, rows_of, version_rows}
use Rattle.receipts.specs.Paging.{IsUpTo}
use Rattle.list_page.specs.Laws.{IsRowOf}
use Rattle.list_page.proofs.FrontLemmas.{between, not_before, row_upto}
use Rattle.list_page.proofs.GroupLemmas.{group_front, group_stays}
use Rattle.list_page.proofs.RowLemmas.{rows_are_of}
use Rattle.list_page.proofs.StartLemmas.{IsWanted, wanted_is}
use Rattle.list_page.proofs.TextLemmas.{begins_by}

-- the last of so many rows
pub record IsLastOf (n : ℕ) (start : Option VersionRow) (rows : List VersionRow) : Type 0 where
  pub last : VersionRow
  pub is : last_or start (take n rows) ≡ Some last
  pub given : Contains (take n rows) last
  pub there : Contains rows last

pub last_of : (n : ℕ) (start : Option VersionRow) (rows : List VersionRow) → 0 < n → n ≤ length rows → IsLastOf n start rows
last_of zero start rows some few = absurd (omega arith)
last_of (suc n) start [] some few = absurd (omega arith)
last_of (suc zero) start (first ∷ rows) some few =
    record { last = first; is = refl; given = (0, omega arith, refl); there = (0, omega arith, refl) }
last_of (suc (suc n)) start (first ∷ rows) some few =
    let later : IsLastOf (suc n) (Some first) rows = last_of (suc n) (Some first) rows (omega arith) (omega arith) in
    record {
      last = later.last;
      is = later.is;
      given = (suc later.given.0, (let inside : later.given.0 < length (take (suc n) rows) = later.given.1 in omega arith), later.given.2);
      there = (suc later.there.0, (let inside : later.there.0 < length rows = later.there.1 in omega arith), later.there.2);
    }

-- the row of a key that is in a group is that of its group
grouped_row : (group : List ℕ) (rows : List VersionRow) (given : VersionRow) → Contains (grouped_rows (Some group) rows) given → group_in given ≡ Some group
grouped_row group [] given there = absurd (let inside : there.0 < 0 = there.1 in omega arith)
grouped_row group (first ∷ more) given there = only (row.Group group) given there.0 there.1 there.2 refl
  where
    only : (alone given : VersionRow) (k : ℕ) → k < 1 → slice_index_or (alone ∷ []) k given ≡ given → group_in alone ≡ Some group
        → group_in given ≡ Some group
    only alone given zero inside is found = sym (ap group_in is) ∙ found
    only alone given (suc k) inside is found = absurd (omega arith)

-- the group of a given row is among those of the given rows
map_contains : (rows : List VersionRow) (given : VersionRow) → Contains rows given → Contains (map group_in rows) (group_in given)
map_contains rows given there = (
  there.0,
  (let inside : there.0 < length rows = there.1 in omega (arith, length-map rows group_in)),
  get_or-map group_in rows there.0 given ∙ ap group_in there.2,
)

module _ (rule : PageRule) (looked : List Candidate) (key : List ℕ) (due : IsDue rule (rows_of rule looked) key)
    (last : IsLastOf rule.most None (rows_of rule looked)) (given : IsRowOf rule looked last.last) (behind : IsBefore given.candidate.key key)
    (within : IsUpTo (row_name rule key) (name_of last.last)) where
  wanted : IsWanted rule given.candidate.key
  wanted = wanted_is rule given.candidate.key given.wanted

  -- the key's row doesn't stand behind the last key
  row_before : IsUpTo (row_name rule key) given.candidate.key
  row_before = upto_trans (row_name rule key) (row_name rule given.candidate.key) given.candidate.key
      (subst (IsUpTo (row_name rule key)) given.name_is within) (row_upto rule given.candidate.key wanted.begins)

  late_by : (group : Option (List ℕ)) → group_of rule key ≡ group → IsUpTo (unwrap_or group key) given.candidate.key → ⊥
  late_by None is upto = upto behind
  late_by (Some group) is upto =
      let front : (rest : List ℕ) × (key ≡ group ++ rest) = group_front rule key group (wanted_is rule key due.wanted).begins is in
      let begun : (rest : List ℕ) × (given.candidate.key ≡ group ++ rest) =
      between group given.candidate.key front.0 upto (subst (IsBefore given.candidate.key) front.1 behind) in
      let same : group_of rule given.candidate.key ≡ Some group =
      group_stays rule key group given.candidate.key is (begins_by group given.candidate.key begun.0 begun.1) in
      let its_row : Contains (grouped_rows (Some group) (version_rows rule given.candidate)) last.last =
      subst (λ g. Contains (grouped_rows g (version_rows rule given.candidate)) last.last) same given.is_row in
      let its_group : group_in last.last ≡ Some group = grouped_row group (version_rows rule given.candidate) last.last its_row in
      due.ungrouped group is (subst (Contains (map group_in (take rule.most (rows_of rule looked)))) its_group
      (map_contains (take rule.most (rows_of rule looked)) last.last last.given))

  pub late : ⊥
  late = late_by (group_of rule key) refl row_before

pub page_on_time : (rule : PageRule) (looked : List Candidate) (key : List ℕ) → 0 < rule.most → rule.most < length (rows_of rule looked)
    → All (λ candidate. byte_order candidate.key key ≡ Less) looked → IsDue rule (rows_of rule looked) key → ⊥
page_on_time rule looked key some many behind due =
    let last : IsLastOf rule.most None (rows_of rule looked) = last_of rule.most None (rows_of rule looked) some (omega arith) in
    let given : IsRowOf rule looked last.last =
    All-contains (IsRowOf rule looked) (rows_of rule looked) last.last (rows_are_of rule looked) last.there in
    let cut : is_truncated rule (rows_of rule looked) ≡ true = grind (arith, some, many) in
    let within : is_before (name_of last.last) (row_name rule key) ≡ false =
    subst (λ o. MatchOption o ⊥ (λ given. is_before (name_of given) (row_name rule key) ≡ false)) last.is (due.within cut) in
    late rule looked key due last given
    (All-contains (λ candidate. byte_order candidate.key key ≡ Less) looked given.candidate behind given.looked_at)
    (not_before (name_of last.last) (row_name rule key) within)
