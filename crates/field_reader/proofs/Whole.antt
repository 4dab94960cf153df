-- A whole content: it is a spelling, or it has a first fault.
use Rattle.std.proofs.Common.{◌≡◌, ℕ, Bool, true, false, cond, eqb, List, [], ◌++◌, ◌+◌, length, Result, Ok, Err, refl, sym, ap, subst, ◌∙◌}
use Rattle.std.proofs.lemmas.List.{append-nil, nil_from_length}
use Rattle.std.proofs.lemmas.Bool.{eqb-true}
use Rattle.field_reader.specs.Format.{Spot, start, Found, Format, ◌>>=◌, done, ends, to_the_end, value_found, value_of}
use Rattle.field_reader.specs.Spelling.{IsBytes}
use Rattle.field_reader.proofs.Parts.{spot, IsSpelled, and_then_ok, found_is}

abbrev at_spot : {A : Type 0} → A × Spot → Found A
at_spot x = Ok x

abbrev of_value : {A : Type 0} → A → Result A ℕ
of_value a = Ok a

value_is : {A : Type 0} (x y : A) → of_value x ≡ of_value y → x ≡ y
value_is x y e = cc

value_found_ok : {A : Type 0} (found : Found A) (a : A) → value_found found ≡ Ok a → (to : Spot) × (found ≡ Ok (a, to))
value_found_ok {A} (Ok x) a e = (x.1, ap (λ (v : A). at_spot (v, x.1)) (value_is x.0 a e))
value_found_ok (Err place) a e = absurd cc

at_end : (from to : Spot) (u : Unit {0}) → ends from ≡ Ok (u, to) → from.left ≡ []
unfolding ends
at_end from to u e =
    let P : Bool → Type 0 = λ t. cond t (at_spot (tt, from)) (Err from.at) ≡ at_spot (u, to) → t ≡ true in
    let split : P (eqb (length from.left) 0) = elim (eqb (length from.left) 0) as P [ true ↦ λ h. refl | false ↦ λ h. absurd cc ] in
    nil_from_length from.left (eqb-true _ _ (split e))

-- a content that is read is a spelling of what is read
pub whole_takes : {A : Type 0} (format : Format A) (Spells : A → List ℕ → Type 0) → IsSpelled format Spells → (content : List ℕ) (a : A) → IsBytes content → value_of format content ≡ Ok a → Spells a content
unfolding value_of
whole_takes {A} format Spells one content a bytes e =
    let found = value_found_ok (to_the_end format (start content)) a e in
    let x = and_then_ok (format (start content)) (λ value. ends >>= λ _. done value) (a, found.0) found.1 in
    let y = and_then_ok (ends x.0.1) (λ _. done x.0.0) (a, found.0) x.2 in
    let nothing : x.0.1.left ≡ [] = at_end x.0.1 y.0.1 y.0.0 y.1 in
    let same : x.0.0 ≡ a = ap (λ (z : A × Spot). z.0) (found_is (x.0.0, y.0.1) (a, found.0) y.2) in
    let s = one.takes (start content) x.0.0 x.0.1 bytes x.1 in
    let all : s.text ≡ content = sym (s.parts ∙ ap (λ (r : List ℕ). s.text ++ r) nothing ∙ append-nil s.text) in
    subst (λ (t : List ℕ). Spells a t) all (subst (λ (v : A). Spells v s.text) same s.spells)

-- a spelling is read, and it is read as what it spells
pub whole_again : {A : Type 0} (format : Format A) (Spells : A → List ℕ → Type 0) → IsSpelled format Spells → (content : List ℕ) (a : A) → Spells a content → value_of format content ≡ Ok a
unfolding ends value_of
whole_again {A} format Spells one content a s =
    let read = one.again a content [] 0 s in
    let at_start : format (start content) ≡ Ok (a, spot (0 + length content) []) = ap (λ (t : List ℕ). format (start t)) (sym (append-nil content)) ∙ read in
    rw at_start refl
