-- How the fields that records of several kinds have are spelled.
use Rattle.std.proofs.Common.{◌≡◌, ℕ, zero, suc, ◌<◌, Bool, cond, List, [], ◌∷◌, ◌++◌, length, Option, Some, None, refl, sym, ap, subst, ◌∙◌, arith}
use Rattle.std.proofs.Math.Dec.{eqb-suc-zero}
use Rattle.std.specs.Int.{Width, w8}
use Rattle.std.specs.List.{AllByRecursion, flat_map}
use Rattle.std.proofs.lemmas.List.{append-nil}
use Rattle.std.proofs.lemmas.Bool.{ltb-true, lt-ltb, eqb-true}
use Rattle.field_reader.specs.Format.{Format, ◌>>=◌, done, number, series}
use Rattle.field_reader.specs.Spelling.{IsBytes, number_bytes}
use Rattle.field_reader.proofs.Parts.{IsSpelled, Then, then_spelled, told_spelled}
use Rattle.field_reader.proofs.Series.{Kept, AllAfter, Listed, listed_spelled}
use Rattle.field_reader.proofs.Chains.{nothing, bytes_kept, u8_kept, done_kept, Both, then_field, told, ruled}
use Rattle.sealed_record.specs.Fields.{is_format, format_number, counted, counted_bytes, is_flag, flag_number, part_if, optional, optional_bytes, IfThere}

-- ---- a format number

pub format_spelled : IsSpelled format_number (Kept (λ n. n ≡ 1) (number_bytes w8))
unfolding format_number
format_spelled = told (ruled is_format u8_kept) (λ n k. eqb-true _ _ k.1) (λ n k. rw k (omega arith, refl)) (λ n. refl)

-- ---- counted bytes

pub counted_spelled : (w : Width) (limit : ℕ) → IsSpelled (number w) (Kept (λ n. n < limit) (number_bytes w)) → IsSpelled (counted w) (Kept (λ bytes. length bytes < limit) (counted_bytes w))
unfolding counted
counted_spelled w limit one = told (then_field (λ (bytes : List ℕ). length bytes) one (λ size. bytes_kept size) (λ size bytes p q. sym q))
    (λ bytes k. k.part) (λ bytes k. record { part = k; rest = refl }) (λ bytes. refl)

-- ---- a part that may be missing

-- nothing, and something
abbrev none_of : (A : Type 0) → Option A
none_of A = None

abbrev some_of : {A : Type 0} → A → Option A
some_of value = Some value

some_is : {A : Type 0} (a b : A) → some_of a ≡ some_of b → a ≡ b
some_is a b e = cc

abbrev flag_of : {A : Type 0} → Option A → ℕ
flag_of None = 0
flag_of (Some value) = 1

abbrev behind_flag : {A : Type 0} → (A → List ℕ) → Option A → List ℕ
behind_flag p None = []
behind_flag p (Some value) = p value

-- the flag is 0 exactly where nothing is there
abbrev Flagged : {A : Type 0} → (A → Type 0) → ℕ → Option A → Type 0
Flagged P flag None = flag ≡ 0
Flagged P flag (Some value) = (0 < flag) × P value

flag_spelled : IsSpelled flag_number (Kept (λ n. n < 2) (number_bytes w8))
unfolding flag_number
flag_spelled = told (ruled is_flag u8_kept) (λ n k. ltb-true _ _ k.1) (λ n k. (omega arith, lt-ltb _ _ k)) (λ n. refl)

flag_is : {A : Type 0} (P : A → Type 0) (flag : ℕ) (o : Option A) → flag < 2 → Flagged P flag o → flag ≡ flag_of o
flag_is P flag None few f = f
flag_is P flag (Some value) few f = let some = f.0 in omega arith

none_part : {A : Type 0} (P : A → Type 0) (p : A → List ℕ) → IsSpelled (done (none_of A)) (Kept (Flagged P 0) (behind_flag p))
none_part {A} P p = told_spelled (done (none_of A)) (Kept (λ o. o ≡ none_of A) nothing) (Kept (Flagged P 0) (behind_flag p)) into out_of (done_kept (none_of A))
  where
    into : (o : Option A) (text : List ℕ) → IsBytes text → Kept (λ o. o ≡ none_of A) nothing o text → Kept (Flagged P 0) (behind_flag p) o text
    into None text bytes k = record { keeps = refl; is = k.is }
    into (Some value) text bytes k = let other = k.keeps in absurd cc

    out_of : (o : Option A) (text : List ℕ) → Kept (Flagged P 0) (behind_flag p) o text → Kept (λ o. o ≡ none_of A) nothing o text
    out_of None text k = record { keeps = refl; is = k.is }
    out_of (Some value) text k = let some = k.keeps.0 in absurd (omega arith)

-- the text of a part that is there
abbrev Something : {A : Type 0} → (A → Type 0) → (A → List ℕ) → Option A → List ℕ → Type 0
Something P p = Then (Kept P p) (λ value. Kept (λ o. o ≡ some_of value) nothing)

some_part : {A : Type 0} (part : Format A) (P : A → Type 0) (p : A → List ℕ) (n : ℕ) → IsSpelled part (Kept P p) → IsSpelled (part >>= λ value. done (some_of value)) (Kept (Flagged P (suc n)) (behind_flag p))
some_part {A} part P p n one = told_spelled (part >>= λ value. done (some_of value)) (Something P p) (Kept (Flagged P (suc n)) (behind_flag p)) into out_of
    (then_spelled part (λ value. done (some_of value)) (Kept P p) (λ value. Kept (λ o. o ≡ some_of value) nothing) one (λ value. done_kept (some_of value)))
  where
    into : (o : Option A) (text : List ℕ) → IsBytes text → Something P p o text → Kept (Flagged P (suc n)) (behind_flag p) o text
    into None text bytes t = let other = t.is_rest.keeps in absurd cc
    into (Some value) text bytes t =
        let same : t.first ≡ value = sym (some_is value t.first t.is_rest.keeps) in
        let all : text ≡ t.front = t.whole ∙ ap (λ (x : List ℕ). t.front ++ x) t.is_rest.is ∙ append-nil t.front in
        record { keeps = (omega arith, subst P same t.is_first.keeps); is = all ∙ t.is_first.is ∙ ap p same }

    out_of : (o : Option A) (text : List ℕ) → Kept (Flagged P (suc n)) (behind_flag p) o text → Something P p o text
    out_of None text k = let other = k.keeps in absurd (omega arith)
    out_of (Some value) text k = record {
      first = value;
      front = p value;
      back = [];
      is_first = record { keeps = k.keeps.1; is = refl };
      is_rest = record { keeps = refl; is = refl };
      whole = k.is ∙ sym (append-nil (p value));
    }

part_spelled : {A : Type 0} (part : Format A) (P : A → Type 0) (p : A → List ℕ) → IsSpelled part (Kept P p) → (flag : ℕ) → IsSpelled (part_if part flag) (Kept (Flagged P flag) (behind_flag p))
part_spelled part P p one zero = none_part P p
part_spelled {A} part P p one (suc n) =
    subst (λ (b : Bool). IsSpelled (cond b (done (none_of A)) (part >>= λ value. done (some_of value))) (Kept (Flagged P (suc n)) (behind_flag p))) (sym (eqb-suc-zero n)) (some_part part P p n one)

abbrev FlagAnd : {A : Type 0} → (A → Type 0) → Option A → Type 0
FlagAnd P = Both (λ flag. flag < 2) (Flagged P) flag_of

pub optional_spelled : {A : Type 0} {part : Format A} {P : A → Type 0} {p : A → List ℕ} → IsSpelled part (Kept P p) → IsSpelled (optional part) (Kept (IfThere P) (optional_bytes p))
unfolding optional
optional_spelled {A} {part} {P} {p} one = told (then_field flag_of flag_spelled (part_spelled part P p one) (flag_is P)) into out_of same
  where
    into : (o : Option A) → FlagAnd P o → IfThere P o
    into None k = tt
    into (Some value) k = k.rest.1

    out_of : (o : Option A) → IfThere P o → FlagAnd P o
    out_of None k = record { part = omega arith; rest = refl }
    out_of (Some value) k = record { part = omega arith; rest = (omega arith, k) }

    same : (o : Option A) → number_bytes w8 (flag_of o) ++ behind_flag p o ≡ optional_bytes p o
    same None = append-nil (number_bytes w8 0)
    same (Some value) = refl

-- ---- lists

-- so many items that keep a fact
abbrev pub Items : {A : Type 0} → (A → Type 0) → ℕ → List A → Type 0
Items P count values = (length values ≡ count) × AllByRecursion P values

all_items : {A : Type 0} (P : A → Type 0) (before values : List A) → AllAfter (λ before. P) before values → AllByRecursion P values
all_items P before [] all = tt
all_items P before (a ∷ others) all = (all.0, all_items P (before ++ a ∷ []) others all.1)

all_after : {A : Type 0} (P : A → Type 0) (before values : List A) → AllByRecursion P values → AllAfter (λ before. P) before values
all_after P before [] all = tt
all_after P before (a ∷ others) all = (all.0, all_after P (before ++ a ∷ []) others all.1)

pub items_spelled : {A : Type 0} {part : Format A} {P : A → Type 0} {p : A → List ℕ} → IsSpelled part (Kept P p) → (count : ℕ) → IsSpelled (series count (λ before. part) []) (Kept (Items P count) (flat_map p))
items_spelled {A} {part} {P} {p} one count = told_spelled (series count (λ before. part) []) (Listed (λ before. P) p count []) (Kept (Items P count) (flat_map p))
    (λ values text bytes l. record { keeps = (l.counted, all_items P [] values l.each); is = l.is })
    (λ values text k. record { counted = k.keeps.0; each = all_after P [] values k.keeps.1; is = k.is })
    (listed_spelled (λ before. part) (λ before. P) p (λ before. one) count [])
