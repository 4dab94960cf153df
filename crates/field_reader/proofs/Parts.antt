-- That a format takes spellings alone, and how this follows for a format from its parts.
use Rattle.std.proofs.Common.{◌≡◌, ℕ, ◌+◌, Bool, true, false, cond, List, [], ◌++◌, length, take, drop, Ok, Err, refl, sym, ap, subst, ◌∙◌, append_assoc, arith, inl, inr}
use Rattle.std.proofs.lemmas.List.{take_at, drop_at, length-append, length-take, get_or-drop, get_or-take, get_or_past}
use Rattle.std.proofs.lemmas.Bool.{cases_lt}
use Rattle.field_reader.specs.Format.{Spot, Found, Format, and_then, ◌>>=◌, done, kept, with_rule}
use Rattle.field_reader.specs.Spelling.{IsBytes}
use Rattle.std.specs.Bool.{MatchBool}

abbrev pub spot : ℕ → List ℕ → Spot
spot at left = record { at = at; left = left }

pub IsBytes-drop : (n : ℕ) (bytes : List ℕ) → IsBytes bytes → IsBytes (drop n bytes)
IsBytes-drop n bytes h i = rw get_or-drop (h (n + i))

pub IsBytes-take : (n : ℕ) (bytes : List ℕ) → IsBytes bytes → IsBytes (take n bytes)
IsBytes-take n bytes h i =
    elim (cases_lt i n) [
      | inl lt ↦ rw (get_or-take n bytes i 0 lt) (h i)
      | inr le ↦ rw (get_or_past (take n bytes) i 0 (omega (arith, length-take n bytes))) (omega arith)
    ]

-- the front of bytes
pub IsBytes-front : (front back bytes : List ℕ) → bytes ≡ front ++ back → IsBytes bytes → IsBytes front
IsBytes-front front back bytes e h = subst (λ (x : List ℕ). IsBytes x) (ap (λ (x : List ℕ). take (length front) x) e ∙ take_at front back (length front) refl) (IsBytes-take (length front) bytes h)

-- the bytes behind the front
pub IsBytes-back : (front back bytes : List ℕ) → bytes ≡ front ++ back → IsBytes bytes → IsBytes back
IsBytes-back front back bytes e h = subst (λ (x : List ℕ). IsBytes x) (ap (λ (x : List ℕ). drop (length front) x) e ∙ drop_at front back (length front) refl) (IsBytes-drop (length front) bytes h)

-- from the first spot to the second stands a text that spells the value
pub record Spans {A : Type 0} (Spells : A → List ℕ → Type 0) (from : Spot) (value : A) (to : Spot) : Type 0 where
  pub text : List ℕ
  pub spells : Spells value text
  pub parts : from.left ≡ text ++ to.left
  pub place : to.at ≡ from.at + length text
  pub bytes : IsBytes to.left

-- The format takes spellings alone, and each of them, whatever follows.
pub record IsSpelled {A : Type 0} (format : Format A) (Spells : A → List ℕ → Type 0) : Type 0 where
  pub takes : (from : Spot) (value : A) (to : Spot) → IsBytes from.left → format from ≡ Ok (value, to) → Spans Spells from value to
  pub again : (value : A) (text rest : List ℕ) (at : ℕ) → Spells value text → format (spot at (text ++ rest)) ≡ Ok (value, spot (at + length text) rest)

-- what was found before what was found
pub and_then_ok : {A B : Type 0} (found : Found A) (next : A → Format B) (y : B × Spot) → and_then found next ≡ Ok y → (x : A × Spot) × (found ≡ Ok x) × (next x.0 x.1 ≡ Ok y)
and_then_ok (Ok x) next y e = (x, refl, e)
and_then_ok (Err place) next y e = absurd cc

abbrev found_at : {A : Type 0} → A × Spot → Found A
found_at x = Ok x

pub found_is : {A : Type 0} (x y : A × Spot) → found_at x ≡ found_at y → x ≡ y
found_is x y e = cc

-- the text of one part and then that of the rest
pub record Then {A B : Type 0} (First : A → List ℕ → Type 0) (Rest : A → B → List ℕ → Type 0) (value : B) (text : List ℕ) : Type 0 where
  pub first : A
  pub front : List ℕ
  pub back : List ℕ
  pub is_first : First first front
  pub is_rest : Rest first value back
  pub whole : text ≡ front ++ back

-- a text that begins with this field and goes on with these bytes
pub then_joined : {A B : Type 0} {First : A → List ℕ → Type 0} {Rest : A → B → List ℕ → Type 0} {value : B} {text : List ℕ} (t : Then First Rest value text) (field more : List ℕ) → t.front ≡ field → t.back ≡ more → text ≡ field ++ more
then_joined t field more front back = t.whole ∙ ap (λ (x : List ℕ). x ++ t.back) front ∙ ap (λ (x : List ℕ). field ++ x) back

pub then_spelled : {A B : Type 0} (part : Format A) (rest : A → Format B) (First : A → List ℕ → Type 0) (Rest : A → B → List ℕ → Type 0)
    → IsSpelled part First → ((a : A) → IsSpelled (rest a) (Rest a)) → IsSpelled (part >>= rest) (Then First Rest)
then_spelled {A} {B} part rest First Rest one others = record {
  takes = λ from value to bytes e.
      let x = and_then_ok (part from) rest (value, to) e in
      let a = one.takes from x.0.0 x.0.1 bytes x.1 in
      let b = (others x.0.0).takes x.0.1 value to a.bytes x.2 in
      record {
        text = a.text ++ b.text;
        spells = record { first = x.0.0; front = a.text; back = b.text; is_first = a.spells; is_rest = b.spells; whole = refl };
        parts = a.parts ∙ ap (λ (t : List ℕ). a.text ++ t) b.parts ∙ sym (append_assoc a.text b.text to.left);
        place = omega (arith, a.place, b.place, length-append a.text b.text);
        bytes = b.bytes;
      };
  again = λ value text tail at t.
      let all : text ++ tail ≡ t.front ++ (t.back ++ tail) = ap (λ (x : List ℕ). x ++ tail) t.whole ∙ append_assoc t.front t.back tail in
      let place : at + length t.front + length t.back ≡ at + length text = omega (arith, ap length t.whole, length-append t.front t.back) in
      let first : part (spot at (text ++ tail)) ≡ Ok (t.first, spot (at + length t.front) (t.back ++ tail)) = ap (λ (x : List ℕ). part (spot at x)) all ∙ one.again t.first t.front (t.back ++ tail) at t.is_first in
      let second : rest t.first (spot (at + length t.front) (t.back ++ tail)) ≡ Ok (value, spot (at + length t.front + length t.back) tail) = (others t.first).again value t.back tail (at + length t.front) t.is_rest in
      ap (λ (found : Found A). and_then found rest) first ∙ second ∙ ap (λ (n : ℕ). found_at (value, spot n tail)) place;
}

pub record Done {A : Type 0} (made value : A) (text : List ℕ) : Type 0 where
  pub is : value ≡ made
  pub nothing : text ≡ []

pub done_spelled : {A : Type 0} (made : A) → IsSpelled (done made) (Done made)
done_spelled {A} made = record {
  takes = λ from value to bytes e.
      let same : (value, to) ≡ (made, from) = sym (found_is (made, from) (value, to) e) in
      let there : to ≡ from = ap (λ (x : A × Spot). x.1) same in
      record {
        text = [];
        spells = record { is = ap (λ (x : A × Spot). x.0) same; nothing = refl };
        parts = ap (λ (s : Spot). s.left) (sym there);
        place = omega (arith, ap (λ (s : Spot). s.at) there);
        bytes = subst (λ (s : Spot). IsBytes s.left) (sym there) bytes;
      };
  again = λ value text rest at d.
      let size : at ≡ at + length text = omega (arith, ap length d.nothing) in
      let left : text ++ rest ≡ rest = ap (λ (t : List ℕ). t ++ rest) d.nothing in
      ap (λ (s : Spot). found_at (made, s)) (ap (λ (l : List ℕ). spot at l) left ∙ ap (λ (n : ℕ). spot n rest) size) ∙ ap (λ (v : A). found_at (v, spot (at + length text) rest)) (sym d.is);
}

-- a part that keeps its rule
pub record Ruled {A : Type 0} (Spells : A → List ℕ → Type 0) (rule : A → Bool) (value : A) (text : List ℕ) : Type 0 where
  pub spells : Spells value text
  pub keeps : rule value ≡ true

pub kept_ok : {A : Type 0} (place : ℕ) (rule : A → Bool) (found : Found A) (y : A × Spot) → kept place rule found ≡ Ok y → (found ≡ Ok y) × (rule y.0 ≡ true)
kept_ok {A} place rule (Ok x) y e =
    let P : Bool → Type 0 = λ b. cond b (found_at x) (Err place) ≡ Ok y → (found_at x ≡ Ok y) × (b ≡ true) in
    let split : P (rule x.0) = elim (rule x.0) as P [ true ↦ λ h. (h, refl) | false ↦ λ h. absurd cc ] in
    let r = split e in
    (r.0, subst (λ (z : A × Spot). rule z.0 ≡ true) (found_is x y r.0) r.1)
kept_ok place rule (Err other) y e = absurd cc

pub rule_spelled : {A : Type 0} (rule : A → Bool) (part : Format A) (Spells : A → List ℕ → Type 0) → IsSpelled part Spells → IsSpelled (with_rule rule part) (Ruled Spells rule)
rule_spelled {A} rule part Spells one = record {
  takes = λ from value to bytes e.
      let k = kept_ok from.at rule (part from) (value, to) e in
      let a = one.takes from value to bytes k.0 in
      record { text = a.text; spells = record { spells = a.spells; keeps = k.1 }; parts = a.parts; place = a.place; bytes = a.bytes };
  again = λ value text rest at r. rw (one.again value text rest at r.spells, r.keeps) refl;
}

-- one of two formats
pub choice_spelled : {A : Type 0} (b : Bool) (yes_part no_part : Format A) (Yes No : A → List ℕ → Type 0) → IsSpelled yes_part Yes → IsSpelled no_part No → IsSpelled (cond b yes_part no_part) (λ a text. MatchBool b (Yes a text) (No a text))
choice_spelled true yes_part no_part Yes No one other = record { takes = one.takes; again = one.again }
choice_spelled false yes_part no_part Yes No one other = record { takes = other.takes; again = other.again }

-- The same format, its spellings told in other words. A text that it takes is made of bytes.
pub told_spelled : {A : Type 0} (part : Format A) (Old New : A → List ℕ → Type 0) → ((a : A) (text : List ℕ) → IsBytes text → Old a text → New a text)
    → ((a : A) (text : List ℕ) → New a text → Old a text) → IsSpelled part Old → IsSpelled part New
told_spelled part Old New into back one = record {
  takes = λ from value to bytes e.
      let a = one.takes from value to bytes e in
      record { text = a.text; spells = into value a.text (IsBytes-front a.text to.left from.left a.parts bytes) a.spells; parts = a.parts; place = a.place; bytes = a.bytes };
  again = λ value text rest at s. one.again value text rest at (back value text s);
}
