-- Escaped texts stay inside their elements.
use Rattle.std.proofs.Common.{◌≡◌, ◌≢◌, ℕ, ◌-◌, ◌<◌, Bool, true, false, List, [], ◌∷◌, ◌++◌, suc, codes, refl, ap, ◌∙◌, arith, inl, inr}
use Rattle.std.proofs.lemmas.Bool.Decides.{nat_tests, eqb_tells, leb_tells}
use Rattle.std.proofs.lemmas.List.Folds.{list_all-append}
use Rattle.std.specs.Fmt.{digit_glyph}
use Rattle.std.specs.List.{list_all}
use Rattle.s3_reply.specs.Escaping.{escaped, escaped_byte, is_plain, hex_of}
use Rattle.s3_reply.specs.Laws.{stays_inside}
use Rattle.s3_reply.proofs.EscapedLemmas.{escaped-append, escaped_one, escaped_nil, plain_byte}
use Rattle.s3_reply.proofs.UrlLemmas.{glyph_is_plain}

-- two pieces that stay inside
all_of_both : (xs ys : List ℕ) → list_all stays_inside xs ≡ true → list_all stays_inside ys ≡ true → list_all stays_inside (xs ++ ys) ≡ true
all_of_both xs ys first next = list_all-append stays_inside xs ys ∙ rw (first, next)

-- a byte that stands for itself stays inside
plain_inside : (b : ℕ) → is_plain b ≡ true → stays_inside b ≡ true
plain_inside b plain = grind (arith, nat_tests)

one_inside : (b : ℕ) → stays_inside b ≡ true → list_all stays_inside (b ∷ []) ≡ true
one_inside b inside = rw inside

glyph_inside : (d : ℕ) → d < 16 → list_all stays_inside (digit_glyph true d ∷ []) ≡ true
glyph_inside d low = one_inside (digit_glyph true d) (plain_inside (digit_glyph true d) (glyph_is_plain d low))

hex_inside : (n : ℕ) → n < 32 → list_all stays_inside (hex_of n) ≡ true
hex_inside n low =
    elim (leb_tells (suc n) 16) [
      | inl h ↦ rw h.0 (glyph_inside n h.1)
      | inr h ↦ rw h.0 (glyph_inside (n - 16) (omega (arith, h.1)))
    ]

-- a byte below 32
control_inside : (n : ℕ) → n < 32 → list_all stays_inside (codes "&#x" ++ hex_of n ++ codes ";") ≡ true
control_inside n low = all_of_both (codes "&#x" ++ hex_of n) (codes ";") (all_of_both (codes "&#x") (hex_of n) refl (hex_inside n low)) refl

-- a byte that doesn't stand for itself and is none of four is below 32
below : (b : ℕ) → is_plain b ≡ false → b ≢ 38 → b ≢ 60 → b ≢ 62 → b ≢ 34 → b < 32
below b other p q r s = grind (arith, nat_tests)

-- the bytes that are written otherwise
other_inside : (b : ℕ) → is_plain b ≡ false → list_all stays_inside (escaped_byte b) ≡ true
other_inside b other =
    rw other
    (elim (eqb_tells b 38) [
      | inl h ↦ rw h.0
      | inr h ↦ rw h.0 (elim (eqb_tells b 60) [
        | inl i ↦ rw i.0
        | inr i ↦ rw i.0 (elim (eqb_tells b 62) [
          | inl j ↦ rw j.0
          | inr j ↦ rw j.0 (elim (eqb_tells b 34) [
            | inl k ↦ rw k.0
            | inr k ↦ rw k.0 (control_inside b (below b other h.1 i.1 j.1 k.1))
          ])
        ])
      ])
    ])

byte_inside : (b : ℕ) (p : Bool) → is_plain b ≡ p → list_all stays_inside (escaped_byte b) ≡ true
byte_inside b true plain = rw (plain_byte b plain) (one_inside b (plain_inside b plain))
byte_inside b false other = other_inside b other

pub texts_stay_inside : (text : List ℕ) → list_all stays_inside (escaped text) ≡ true
texts_stay_inside [] = rw escaped_nil
texts_stay_inside (b ∷ text) =
    ap (list_all stays_inside) (escaped-append (b ∷ []) text)
    ∙ all_of_both (escaped (b ∷ [])) (escaped text) (rw (escaped_one b) (byte_inside b (is_plain b) refl)) (texts_stay_inside text)
