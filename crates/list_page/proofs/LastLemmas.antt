-- The last of some rows, and the end of a page.
use Rattle.std.proofs.Common.{◌≡◌, ◌∙◌, ℕ, ◌-◌, ◌<◌, true, List, [], ◌∷◌, length, take, Option, Some, None, refl, sym, ap, arith}
use Rattle.std.specs.List.{last_or}
use Rattle.std.specs.Prelude.{slice_get, slice_index_or, zero, suc}
use Rattle.call_types.specs.declared.names.VersionName.{VersionName}
use Rattle.call_types.specs.declared.reply.PageCut.{PageCut}
use Rattle.call_types.specs.declared.reply.VersionRow.{VersionRow}
use Rattle.receipts.specs.Pages.{PageRule, are_same, cut_of, group_of, group_of_last, is_in_last, is_truncated, last_given, name_of, next_id_of}

last_from : (first : VersionRow) (rows : List VersionRow) → last_or (Some first) rows ≡ slice_get (first ∷ rows) (length rows)
last_from first [] = refl
last_from first (next ∷ rows) = last_from next rows

pub last_is : (rows : List VersionRow) → last_or None rows ≡ slice_get rows (length rows - 1)
last_is [] = refl
last_is (first ∷ rows) = let place : length (first ∷ rows) - 1 ≡ length rows = omega arith in last_from first rows ∙ ap (slice_get (first ∷ rows)) (sym place)

-- a key is in the group of the last row, if that has one
pub in_last_by : (rule : PageRule) (rows : List VersionRow) (key : List ℕ) (last : Option VersionRow) → last ≡ slice_get rows (length rows - 1)
    → is_in_last rule rows key ≡ are_same (group_of_last last) (group_of rule key)
in_last_by rule rows key last is = ap (λ row. are_same (group_of_last row) (group_of rule key)) (last_is rows ∙ sym is)

-- the last of so many rows
pub taken_last : (n : ℕ) (start : Option VersionRow) (rows : List VersionRow) (d : VersionRow) → n < length rows
    → last_or start (take (suc n) rows) ≡ Some (slice_index_or rows n d)
taken_last n start [] d inside = absurd (omega arith)
taken_last zero start (first ∷ rows) d inside = refl
taken_last (suc n) start (first ∷ rows) d inside = taken_last n (Some first) rows d (omega arith)

last_given_is : (rule : PageRule) (rows : List VersionRow) (last : VersionRow) → 0 < rule.most → rule.most < length rows
    → last ≡ slice_index_or rows (rule.most - 1) last → last_given rule rows ≡ Some last
last_given_is rule rows last some many is =
    let place : rule.most ≡ suc (rule.most - 1) = omega (arith, some) in
    ap (λ n. last_or None (take n rows)) place ∙ (taken_last (rule.most - 1) None rows last (omega (arith, some, many)) ∙ ap Some (sym is))

-- where a page with more rows than it gives ends
pub cut_is : (rule : PageRule) (rows : List VersionRow) (last : VersionRow) (next : List ℕ) (next_id : Option VersionName) → 0 < rule.most
    → rule.most < length rows → last ≡ slice_index_or rows (rule.most - 1) last → next ≡ name_of last → next_id ≡ next_id_of rule.versions (Some last)
    → (let cut : PageCut = record { truncated = true; next = Some next; next_id = next_id } in cut ≡ cut_of rule rows)
cut_is rule rows last next next_id some many is name_is id_is =
    let cut : is_truncated rule rows ≡ true = grind (arith, some, many) in
    let given : last_given rule rows ≡ Some last = last_given_is rule rows last some many is in
    rw (name_is, id_is, cut, given) refl
