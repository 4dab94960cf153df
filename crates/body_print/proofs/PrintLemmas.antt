-- A body that is cut in one way has one text under its print.
use Rattle.std.proofs.Common.{◌≡◌, ℕ, ◌-◌, ◌<◌, ◌≤◌, ◌∙◌, List, [], length, slice_index_or, map, ap, sym, arith}
use Rattle.std.proofs.lemmas.List.{get_or_default, same_lists}
use Rattle.shard_file.specs.Shards.{root_of}
use Rattle.manifest_file.specs.Print.{Cut, print_text}
use Rattle.body_print.specs.Laws.{PrintTextsAreOne}
use Rattle.body_print.specs.Prints.{IsCutOf}
use Rattle.body_print.proofs.ShardLemmas.{shards_are_one}

-- two pairs with equal parts are equal
same_cut : (a b : Cut) → a.0 ≡ b.0 → a.1 ≡ b.1 → a ≡ b
same_cut a b first second =
    let left : (a.0, a.1) ≡ (b.0, a.1) = ap (λ (size : ℕ). (size, a.1)) first in
    let right : (b.0, a.1) ≡ (b.0, b.1) = ap (λ (roots : List (List ℕ)). (b.0, roots)) second in
    left ∙ right

-- a part has one cut
cuts_are_one : (n p : ℕ) (part : List ℕ) (a b : Cut) → n ≤ 256 → IsCutOf n p part a → IsCutOf n p part b → a ≡ b
cuts_are_one n p part a b most left right =
    let one : left.1.0 ≡ right.1.0 = shards_are_one n (n - p) part left.1.0 right.1.0 most (omega arith) left.1.1 right.1.1 in
    same_cut a b (left.0 ∙ sym right.0) (left.1.2 ∙ ap (map root_of) one ∙ sym right.1.2)

pub print_texts_are_one : PrintTextsAreOne
print_texts_are_one n p parts a b most left right =
    let cuts : left.cuts ≡ right.cuts =
    same_lists left.cuts right.cuts (left.count ∙ sym right.count)
    (λ i x below.
    let inside : i < length parts = omega (arith, left.count) in
    get_or_default left.cuts i x (0, []) below
    ∙ cuts_are_one n p (slice_index_or parts i []) (slice_index_or left.cuts i (0, [])) (slice_index_or right.cuts i (0, [])) most (left.each i inside) (right.each i inside)
    ∙ sym (get_or_default right.cuts i x (0, []) (omega (arith, right.count)))) in
    left.spells ∙ ap (print_text n p) cuts ∙ sym right.spells
