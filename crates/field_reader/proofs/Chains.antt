-- How a chain of parts is spelled, where each part keeps a fact and is spelled by a function.
use Rattle.std.proofs.Common.{◌≡◌, ℕ, ◌^◌, ◌<◌, ◌≤◌, Bool, true, List, [], ◌++◌, length, refl, sym, ap, subst, ◌∙◌}
use Rattle.std.specs.Int.{Width, w8, w16, w32, w64}
use Rattle.field_reader.specs.Format.{Format, ◌>>=◌, done, field, number, short_text, with_rule}
use Rattle.field_reader.specs.Spelling.{IsBytes, number_bytes, short_text_bytes}
use Rattle.field_reader.proofs.Parts.{IsSpelled, Then, then_spelled, Done, done_spelled, Ruled, rule_spelled, told_spelled}
use Rattle.field_reader.proofs.Numbers.{Plain, field_spelled, Numbered, u8_spelled, u16_spelled, u32_spelled, u64_spelled, Short, short_text_spelled}
use Rattle.field_reader.proofs.Series.{Kept}

-- bytes stand as they are
abbrev pub itself : List ℕ → List ℕ
itself bytes = bytes

-- nothing stands for a value
abbrev pub nothing : {A : Type 0} → A → List ℕ
nothing value = []

-- the same spelling, told in other words
pub retold : {A : Type 0} (part : Format A) (P Q : A → Type 0) (p q : A → List ℕ) → ((a : A) → P a → Q a) → ((a : A) → Q a → P a) → ((a : A) → p a ≡ q a) → IsSpelled part (Kept P p) → IsSpelled part (Kept Q q)
retold part P Q p q into out_of same one = told_spelled part (Kept P p) (Kept Q q)
    (λ a text bytes k. record { keeps = into a k.keeps; is = k.is ∙ same a })
    (λ a text k. record { keeps = out_of a k.keeps; is = k.is ∙ sym (same a) })
    one

-- so many bytes
pub bytes_kept : (size : ℕ) → IsSpelled (field size) (Kept (λ bytes. length bytes ≡ size) itself)
bytes_kept size = told_spelled (field size) (Plain size) (Kept (λ bytes. length bytes ≡ size) itself)
    (λ value text bytes p. record { keeps = p.sized; is = p.is })
    (λ value text k. record { is = k.is; sized = k.keeps })
    (field_spelled size)

number_kept : (w : Width) (limit : ℕ) → IsSpelled (number w) (Numbered w limit) → IsSpelled (number w) (Kept (λ n. n < limit) (number_bytes w))
number_kept w limit one = told_spelled (number w) (Numbered w limit) (Kept (λ n. n < limit) (number_bytes w))
    (λ value text bytes n. record { keeps = n.below; is = n.is })
    (λ value text k. record { is = k.is; below = k.keeps })
    one

-- numbers of each width
pub u8_kept : IsSpelled (number w8) (Kept (λ n. n < 2 ^ 8) (number_bytes w8))
u8_kept = number_kept w8 (2 ^ 8) u8_spelled

pub u16_kept : IsSpelled (number w16) (Kept (λ n. n < 2 ^ 16) (number_bytes w16))
u16_kept = number_kept w16 (2 ^ 16) u16_spelled

pub u32_kept : IsSpelled (number w32) (Kept (λ n. n < 2 ^ 32) (number_bytes w32))
u32_kept = number_kept w32 (2 ^ 32) u32_spelled

pub u64_kept : IsSpelled (number w64) (Kept (λ n. n < 2 ^ 64) (number_bytes w64))
u64_kept = number_kept w64 (2 ^ 64) u64_spelled

-- a part with a rule
pub rule_kept : {A : Type 0} (rule : A → Bool) (part : Format A) (P : A → Type 0) (p : A → List ℕ) → IsSpelled part (Kept P p) → IsSpelled (with_rule rule part) (Kept (λ a. P a × (rule a ≡ true)) p)
rule_kept rule part P p one = told_spelled (with_rule rule part) (Ruled (Kept P p) rule) (Kept (λ a. P a × (rule a ≡ true)) p)
    (λ value text bytes r. record { keeps = (r.spells.keeps, r.keeps); is = r.spells.is })
    (λ value text k. record { spells = record { keeps = k.keeps.0; is = k.is }; keeps = k.keeps.1 })
    (rule_spelled rule part (Kept P p) one)

-- no further part
pub done_kept : {A : Type 0} (made : A) → IsSpelled (done made) (Kept (λ value. value ≡ made) nothing)
done_kept made = told_spelled (done made) (Done made) (Kept (λ value. value ≡ made) nothing)
    (λ value text bytes d. record { keeps = d.is; is = d.nothing })
    (λ value text k. record { is = k.keeps; nothing = k.is })
    (done_spelled made)

-- what a part keeps, and what the rest keeps of it and the whole
pub record Both {A B : Type 0} (P : A → Type 0) (Q : A → B → Type 0) (first : B → A) (value : B) : Type 0 where
  pub part : P (first value)
  pub rest : Q (first value) value

-- one part and then the rest, where the value shows the part
pub then_kept : {A B : Type 0} (part : Format A) (rest : A → Format B) (P : A → Type 0) (p : A → List ℕ) (Q : A → B → Type 0) (q : B → List ℕ) (first : B → A)
    → IsSpelled part (Kept P p) → ((a : A) → IsSpelled (rest a) (Kept (Q a) q)) → ((a : A) (b : B) → P a → Q a b → a ≡ first b)
    → IsSpelled (part >>= rest) (Kept (Both P Q first) (λ b. p (first b) ++ q b))
then_kept {A} {B} part rest P p Q q first one others shows =
    let First : A → List ℕ → Type 0 = Kept P p in
    let Rest : A → B → List ℕ → Type 0 = λ a. Kept (Q a) q in
    let New : B → List ℕ → Type 0 = Kept (Both P Q first) (λ b. p (first b) ++ q b) in
    let into : (b : B) (text : List ℕ) → IsBytes text → Then First Rest b text → New b text = λ b text bytes t.
    let same : t.first ≡ first b = shows t.first b t.is_first.keeps t.is_rest.keeps in
    record {
      keeps = record { part = subst P same t.is_first.keeps; rest = subst (λ (a : A). Q a b) same t.is_rest.keeps };
      is = t.whole ∙ ap (λ (x : List ℕ). x ++ t.back) (t.is_first.is ∙ ap p same) ∙ ap (λ (x : List ℕ). p (first b) ++ x) t.is_rest.is;
    } in
    let out_of : (b : B) (text : List ℕ) → New b text → Then First Rest b text = λ b text k. record {
      first = first b;
      front = p (first b);
      back = q b;
      is_first = record { keeps = k.keeps.part; is = refl };
      is_rest = record { keeps = k.keeps.rest; is = refl };
      whole = k.is;
    } in
    told_spelled (part >>= rest) (Then First Rest) New into out_of (then_spelled part rest First Rest one others)

-- one field and then the rest, where the value shows the field
pub then_field : {A B : Type 0} {part : Format A} {rest : A → Format B} {P : A → Type 0} {p : A → List ℕ} {Q : A → B → Type 0} {q : B → List ℕ} (first : B → A)
    → IsSpelled part (Kept P p) → ((a : A) → IsSpelled (rest a) (Kept (Q a) q)) → ((a : A) (b : B) → P a → Q a b → a ≡ first b)
    → IsSpelled (part >>= rest) (Kept (Both P Q first) (λ b. p (first b) ++ q b))
then_field {A} {B} {part} {rest} {P} {p} {Q} {q} first one others shows = then_kept part rest P p Q q first one others shows

-- the same spelling, told in other words
pub told : {A : Type 0} {part : Format A} {P Q : A → Type 0} {p q : A → List ℕ} → IsSpelled part (Kept P p) → ((a : A) → P a → Q a) → ((a : A) → Q a → P a) → ((a : A) → p a ≡ q a) → IsSpelled part (Kept Q q)
told {A} {part} {P} {Q} {p} {q} one into out_of same = retold part P Q p q into out_of same one

-- a field with a rule
pub ruled : {A : Type 0} {part : Format A} {P : A → Type 0} {p : A → List ℕ} (rule : A → Bool) → IsSpelled part (Kept P p) → IsSpelled (with_rule rule part) (Kept (λ a. P a × (rule a ≡ true)) p)
ruled {A} {part} {P} {p} rule one = rule_kept rule part P p one

-- a short text
pub short_kept : IsSpelled short_text (Kept (λ text. length text ≤ 255) short_text_bytes)
short_kept = told_spelled short_text Short (Kept (λ text. length text ≤ 255) short_text_bytes)
    (λ value text bytes s. record { keeps = s.sized; is = s.is })
    (λ value text k. record { is = k.is; sized = k.keeps })
    short_text_spelled
