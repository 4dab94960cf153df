-- The first argument that passes a test.
use Rattle.std.proofs.Common.{◌≡◌, ℕ, zero, suc, ◌<◌, List, [], ◌∷◌, ◌++◌, length, refl, arith, ◌∙◌, ap, sym, map, append_assoc}
use Rattle.std.proofs.lemmas.List.{map-append}
use Rattle.std.specs.String.{string_bytes}
use Rattle.s3_request.specs.declared.query.Argument.{Argument}
use Rattle.std.specs.Prelude.{Bool, true, false, Some, None, cond, slice_index_or, ◌||◌}
use Rattle.std.specs.Map.{lookup}
use Rattle.std.specs.List.{list_any}
use Rattle.std.proofs.lemmas.Map.Entries.{lookup_head, lookup_tail}
use Rattle.std.proofs.lemmas.List.Folds.{list_any_at}
use Rattle.s3_request.specs.Query.{Pairs, is_unserved, asks_unserved, seen, pair_of, text_of}
use Rattle.s3_request.specs.Pages.{first_name}

-- argument i
abbrev pub pair : Pairs → ℕ → List ℕ × List ℕ
pair pairs i = slice_index_or pairs i ([], [])

-- no argument below i passes
abbrev pub NoneBelow : (List ℕ → Bool) → Pairs → ℕ → Type 0
NoneBelow test pairs i = (k : ℕ) → k < i → test (pair pairs k).0 ≡ false

pub value_found : (test : List ℕ → Bool) (pairs : Pairs) (i : ℕ) → i < length pairs → NoneBelow test pairs i → test (pair pairs i).0 ≡ true
    → lookup test pairs ≡ Some (pair pairs i).1
value_found test [] i inside below at = absurd (omega (arith, inside))
value_found test (p ∷ pairs) zero inside below at = lookup_head test p pairs at
value_found test (p ∷ pairs) (suc i) inside below at =
    lookup_tail test p pairs (below 0 (omega arith)) ∙ value_found test pairs i (omega (arith, inside)) (λ k less. below (suc k) (omega (arith, less))) at

pub value_missing : (test : List ℕ → Bool) (pairs : Pairs) → NoneBelow test pairs (length pairs) → lookup test pairs ≡ None
value_missing test [] none = refl
value_missing test (p ∷ pairs) none =
    lookup_tail test p pairs (none 0 (omega arith)) ∙ value_missing test pairs (λ k less. none (suc k) (omega (arith, less)))

pub name_found : (test : List ℕ → Bool) (pairs : Pairs) (i : ℕ) → i < length pairs → NoneBelow test pairs i → test (pair pairs i).0 ≡ true
    → first_name test pairs ≡ (pair pairs i).0
unfolding first_name
name_found test [] i inside below at = absurd (omega (arith, inside))
name_found test (p ∷ pairs) zero inside below at = ap (λ b. cond b p.0 (first_name test pairs)) at
name_found test (p ∷ pairs) (suc i) inside below at =
    ap (λ b. cond b p.0 (first_name test pairs)) (below 0 (omega arith))
    ∙ name_found test pairs i (omega (arith, inside)) (λ k less. below (suc k) (omega (arith, less))) at

pub name_missing : (test : List ℕ → Bool) (pairs : Pairs) → NoneBelow test pairs (length pairs) → first_name test pairs ≡ []
unfolding first_name
name_missing test [] none = refl
name_missing test (p ∷ pairs) none =
    ap (λ b. cond b p.0 (first_name test pairs)) (none 0 (omega arith)) ∙ name_missing test pairs (λ k less. none (suc k) (omega (arith, less)))

pub any_found : (pairs : Pairs) (i : ℕ) → i < length pairs → is_unserved (pair pairs i).0 ≡ true → asks_unserved pairs ≡ true
unfolding asks_unserved
any_found pairs i inside at = list_any_at (λ (p : List ℕ × List ℕ). is_unserved p.0) pairs i ([], []) inside at

any_of : (test : List ℕ → Bool) (pairs : Pairs) → NoneBelow test pairs (length pairs) → list_any (λ (p : List ℕ × List ℕ). test p.0) pairs ≡ false
any_of test [] none = refl
any_of test (p ∷ pairs) none =
    ap (λ b. b || list_any (λ (q : List ℕ × List ℕ). test q.0) pairs) (none 0 (omega arith)) ∙ any_of test pairs (λ k less. none (suc k) (omega (arith, less)))

pub any_missing : (pairs : Pairs) → NoneBelow is_unserved pairs (length pairs) → asks_unserved pairs ≡ false
unfolding asks_unserved
any_missing pairs none = any_of is_unserved pairs none

-- one more argument is read
pub read_step : (front : List Argument) (one : Argument) (left rest : List (List ℕ × List ℕ)) (name value : List ℕ) (all : Pairs) → left ≡ (name, value) ∷ rest
    → string_bytes one.name ≡ text_of name → string_bytes one.value ≡ text_of value → map seen front ++ map pair_of left ≡ all
    → map seen (front ++ one ∷ []) ++ map pair_of rest ≡ all
read_step front one left rest name value all is named valued so =
    ap (λ xs. xs ++ map pair_of rest) (map-append seen front (one ∷ []))
    ∙ (append_assoc (map seen front) (seen one ∷ []) (map pair_of rest)
    ∙ (ap (λ (n : List ℕ). map seen front ++ (n, string_bytes one.value) ∷ map pair_of rest) named
    ∙ (ap (λ (v : List ℕ). map seen front ++ (text_of name, v) ∷ map pair_of rest) valued
    ∙ (ap (λ xs. map seen front ++ map pair_of xs) (sym is) ∙ so))))
