-- The spellings of single fields, numbers and short texts.
use Rattle.std.proofs.Common.{◌≡◌, ℕ, ◌+◌, ◌%◌, ◌^◌, ◌<◌, ◌≤◌, Bool, true, false, cond, ltb, List, [], ◌∷◌, ◌++◌, length, take, drop, Ok, Err, refl, sym, ap, subst, ◌∙◌, arith}
use Rattle.std.specs.Int.{Width, w8, w16, w32, w64, byte_len, from_be_bytes, to_be_bytes}
use Rattle.std.proofs.lemmas.Bool.{ltb-false, le-ltb}
use Rattle.std.proofs.lemmas.List.{append-nil, take_at, drop_at, take-append-drop, length-append, length-take}
use Rattle.std.proofs.lemmas.Nat.{be_bytes_2, be_bytes_4, be_bytes_8, from_be_bytes-to_be_bytes_2, from_be_bytes-to_be_bytes_4, from_be_bytes-to_be_bytes_8}
use Rattle.field_reader.specs.Format.{Spot, Found, done, field, number, short_text}
use Rattle.field_reader.specs.Spelling.{IsBytes, number_bytes, short_text_bytes}
use Rattle.field_reader.proofs.Parts.{IsBytes-drop, spot, Spans, IsSpelled, Then, then_spelled, Done, done_spelled, told_spelled}

-- so many bytes, as they are
pub record Plain (size : ℕ) (value text : List ℕ) : Type 0 where
  pub is : text ≡ value
  pub sized : length value ≡ size

-- a test that did not fail
abbrev chosen : {A : Type 0} → Bool → ℕ → A × Spot → Found A
chosen short place x = cond short (Err place) (Ok x)

chosen_ok : {A : Type 0} (short : Bool) (place : ℕ) (x y : A × Spot) → chosen short place x ≡ Ok y → (short ≡ false) × (x ≡ y)
chosen_ok true place x y e = absurd cc
chosen_ok false place x y e = (refl, cc)

pub field_spelled : (size : ℕ) → IsSpelled (field size) (Plain size)
unfolding field
field_spelled size = record {
  takes = λ from value to bytes e.
      let made : List ℕ × Spot = (take size from.left, spot (from.at + size) (drop size from.left)) in
      let c = chosen_ok (ltb (length from.left) size) (from.at + length from.left) made (value, to) e in
      let enough : size ≤ length from.left = ltb-false _ _ c.0 in
      let sized : length (take size from.left) ≡ size = omega (arith, length-take size from.left) in
      let P : List ℕ × Spot → Type 0 = λ x. Spans (Plain size) from x.0 x.1 in
      let here : P made = record {
        text = take size from.left;
        spells = record { is = refl; sized = sized };
        parts = sym (take-append-drop size from.left);
        place = ap (λ (n : ℕ). from.at + n) (sym sized);
        bytes = IsBytes-drop size from.left bytes;
      } in
      subst P c.1 here;
  again = λ value text rest at p.
      let sized : length text ≡ size = ap length p.is ∙ p.sized in
      let enough : ltb (length (text ++ rest)) size ≡ false = le-ltb _ _ (omega (arith, sized, length-append text rest)) in
      let front : take size (text ++ rest) ≡ value = take_at text rest size sized ∙ p.is in
      let behind : drop size (text ++ rest) ≡ rest = drop_at text rest size sized in
      let place : at + size ≡ at + length text = omega (arith, sized) in
      rw (enough, front, behind, place) refl;
}

-- what is known of a width
record IsWide (w : Width) (limit : ℕ) : Type 0 where
  len : (n : ℕ) → length (to_be_bytes w n) ≡ byte_len w
  back : (bytes : List ℕ) → length bytes ≡ byte_len w → IsBytes bytes → to_be_bytes w (from_be_bytes w bytes) ≡ bytes
  again : (n : ℕ) → n < limit → from_be_bytes w (to_be_bytes w n) ≡ n
  below : (bytes : List ℕ) → IsBytes bytes → from_be_bytes w bytes < limit

be_bytes_1 : (bytes : List ℕ) → length bytes ≡ 1 → IsBytes bytes → to_be_bytes w8 (from_be_bytes w8 bytes) ≡ bytes
be_bytes_1 [] len fits = absurd (omega arith)
be_bytes_1 (b ∷ []) len fits = let small : b < 256 = fits 0 in let same : b % 256 ≡ b = omega arith in ap (λ (x : ℕ). x ∷ []) same
be_bytes_1 (b ∷ c ∷ bytes) len fits = absurd (omega arith)

wide8 : IsWide w8 (2 ^ 8)
wide8 = record {
  len = λ n. refl;
  back = be_bytes_1;
  again = λ n lt. omega arith;
  below = λ bytes fits. fits 0;
}

wide16 : IsWide w16 (2 ^ 16)
wide16 = record {
  len = λ n. refl;
  back = λ bytes len fits. be_bytes_2 bytes _ len fits refl;
  again = λ n lt. from_be_bytes-to_be_bytes_2 n lt;
  below = λ bytes fits. omega (arith, fits 0, fits 1);
}

wide32 : IsWide w32 (2 ^ 32)
wide32 = record {
  len = λ n. refl;
  back = λ bytes len fits. be_bytes_4 bytes _ len fits refl;
  again = λ n lt. from_be_bytes-to_be_bytes_4 n lt;
  below = λ bytes fits. omega (arith, fits 0, fits 1, fits 2, fits 3);
}

wide64 : IsWide w64 (2 ^ 64)
wide64 = record {
  len = λ n. refl;
  back = λ bytes len fits. be_bytes_8 bytes _ len fits refl;
  again = λ n lt. from_be_bytes-to_be_bytes_8 n lt;
  below = λ bytes fits. omega (arith, fits 0, fits 1, fits 2, fits 3, fits 4, fits 5, fits 6, fits 7);
}

-- a number below a limit
pub record Numbered (w : Width) (limit value : ℕ) (text : List ℕ) : Type 0 where
  pub is : text ≡ number_bytes w value
  pub below : value < limit

number_spelled : (w : Width) (limit : ℕ) → IsWide w limit → IsSpelled (number w) (Numbered w limit)
unfolding number number_bytes
number_spelled w limit wide =
    let First : List ℕ → List ℕ → Type 0 = Plain (byte_len w) in
    let Rest : List ℕ → ℕ → List ℕ → Type 0 = λ bytes. Done (from_be_bytes w bytes) in
    let both = then_spelled (field (byte_len w)) (λ bytes. done (from_be_bytes w bytes)) First Rest (field_spelled (byte_len w)) (λ bytes. done_spelled (from_be_bytes w bytes)) in
    let into : (n : ℕ) (text : List ℕ) → IsBytes text → Then First Rest n text → Numbered w limit n text = λ n text fits t.
    let bytes : text ≡ t.first = t.whole ∙ ap (λ (x : List ℕ). t.front ++ x) t.is_rest.nothing ∙ append-nil t.front ∙ t.is_first.is in
    let first_fits : IsBytes t.first = subst (λ (x : List ℕ). IsBytes x) bytes fits in
    let back : to_be_bytes w (from_be_bytes w t.first) ≡ t.first = wide.back t.first t.is_first.sized first_fits in
    record {
      is = bytes ∙ sym back ∙ ap (λ (x : ℕ). to_be_bytes w x) (sym t.is_rest.is);
      below = subst (λ (x : ℕ). x < limit) (sym t.is_rest.is) (wide.below t.first first_fits);
    } in
    let out_of : (n : ℕ) (text : List ℕ) → Numbered w limit n text → Then First Rest n text = λ n text m. record {
      first = to_be_bytes w n;
      front = to_be_bytes w n;
      back = [];
      is_first = record { is = refl; sized = wide.len n };
      is_rest = record { is = sym (wide.again n m.below); nothing = refl };
      whole = m.is ∙ sym (append-nil (to_be_bytes w n));
    } in
    told_spelled (number w) (Then First Rest) (Numbered w limit) into out_of both

pub u8_spelled : IsSpelled (number w8) (Numbered w8 (2 ^ 8))
u8_spelled = number_spelled w8 (2 ^ 8) wide8

pub u16_spelled : IsSpelled (number w16) (Numbered w16 (2 ^ 16))
u16_spelled = number_spelled w16 (2 ^ 16) wide16

pub u32_spelled : IsSpelled (number w32) (Numbered w32 (2 ^ 32))
u32_spelled = number_spelled w32 (2 ^ 32) wide32

pub u64_spelled : IsSpelled (number w64) (Numbered w64 (2 ^ 64))
u64_spelled = number_spelled w64 (2 ^ 64) wide64

-- a text of at most 255 bytes
pub record Short (value text : List ℕ) : Type 0 where
  pub is : text ≡ short_text_bytes value
  pub sized : length value ≤ 255

pub short_text_spelled : IsSpelled short_text Short
unfolding short_text
short_text_spelled =
    let First : ℕ → List ℕ → Type 0 = Numbered w8 (2 ^ 8) in
    let Rest : ℕ → List ℕ → List ℕ → Type 0 = Plain in
    let both = then_spelled (number w8) field First Rest u8_spelled field_spelled in
    let into : (value text : List ℕ) → IsBytes text → Then First Rest value text → Short value text = λ value text fits t. record {
      is = t.whole ∙ ap (λ (x : List ℕ). x ++ t.back) (t.is_first.is ∙ ap (λ (n : ℕ). number_bytes w8 n) (sym t.is_rest.sized)) ∙ ap (λ (x : List ℕ). number_bytes w8 (length value) ++ x) t.is_rest.is;
      sized = omega (arith, t.is_rest.sized, t.is_first.below);
    } in
    let out_of : (value text : List ℕ) → Short value text → Then First Rest value text = λ value text m. record {
      first = length value;
      front = number_bytes w8 (length value);
      back = value;
      is_first = record { is = refl; below = omega (arith, m.sized) };
      is_rest = record { is = refl; sized = refl };
      whole = m.is;
    } in
    told_spelled short_text (Then First Rest) Short into out_of both
