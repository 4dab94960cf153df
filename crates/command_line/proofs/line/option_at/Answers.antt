use Rattle.std.proofs.Common.{◌≡◌, ◌≢◌, ◌∙◌, ◌∷◌, List, ap, arith, refl, false, slice_index_or, subst, sym, true, ℕ}
use Rattle.std.proofs.lemmas.Str.Pattern.{starts_char}
use Rattle.command_line.specs.Values.{BeginsWithNone, IsFound}
use Rattle.command_line.proofs.LineLemmas.{first_word, found_joined, found_parted, long_text, none_named}
use Rattle.command_line.proofs.line.option_at.Goals as goal

pub returns-in_default-name_of-clause-found : goal.returns-in_default-name_of-clause-found
returns-in_default-name_of-clause-found c =
    let first = first_word _ _ _ _ c.in-Some.ensures.cases.0 c.as_str.ensures.value in
    subst (λ (ws : List (List ℕ)). BeginsWithNone ws) (sym first) (none_named _ _ _ _ c.in-Some-split_word.ensures c.in_default-name_of.ensures)

pub returns-else-is_empty-clause-found : goal.returns-else-is_empty-clause-found
returns-else-is_empty-clause-found c =
    let first = first_word _ _ _ _ c.in-Some.ensures.cases.0 c.as_str.ensures.value in
    let split = rw c.in-Some-joined.is at c.in-Some-split_word.ensures in
    subst (λ (ws : List (List ℕ)). IsFound ws (record { name = c.in-Some-name_of.name; value = c.in-Some-joined.value; rest = c.in-Some.rest })) (sym first)
    (found_joined _ _ _ _ _ _ split c.in-Some-name_of.ensures (long_text _ _ c.is_empty.ensures c.if-is_empty.false) refl refl refl)

pub returns-else-starts_with-clause-found : goal.returns-else-starts_with-clause-found
returns-else-starts_with-clause-found c =
    let first = first_word _ _ _ _ c.in-Some.ensures.cases.0 c.as_str.ensures.value in
    let second = first_word _ _ _ _ c.in-Some-split_first.ensures.cases.0 c.as_str-value.ensures.value in
    let split = rw c.in-None.is at c.in-Some-split_word.ensures in
    let all = first ∙ ap (λ (ws : List (List ℕ)). c.as_str.result.now ∷ ws) second in
    let plain : slice_index_or c.as_str-value.result.now 0 0 ≢ 45 = λ e.
    let so : c.starts_with.result ≡ true = (starts_char 45 c.as_str-value.result.now c.starts_with.result c.starts_with.ensures.cases (omega arith) (omega arith)).1 e in
    let not_so : c.starts_with.result ≡ false = c.if-starts_with.false in
    let bad : true ≡ false = sym so ∙ not_so in
    absurd cc in
    subst (λ (ws : List (List ℕ)). IsFound ws (record { name = c.in-Some-name_of.name; value = c.as_str-value.result; rest = c.in-Some-split_first.rest })) (sym all)
    (found_parted _ _ _ _ _ _ split c.in-Some-name_of.ensures (long_text _ _ c.is_empty-in-None.ensures c.if-is_empty-2.false) plain refl refl refl)
