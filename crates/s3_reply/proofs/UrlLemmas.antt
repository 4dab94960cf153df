-- A percent-encoded name needs no references.
use Rattle.std.proofs.Common.{◌≡◌, ◌≢◌, ℕ, ◌/◌, ◌%◌, ◌<◌, ◌≤◌, Bool, true, false, List, [], ◌∷◌, ◌++◌, refl, ap, ◌∙◌, arith}
use Rattle.std.proofs.lemmas.Bool.Decides.{nat_tests}
use Rattle.std.specs.Fmt.{digit_glyph}
use Rattle.percent_encoding.specs.Percent.{percent_encode_byte}
use Rattle.s3_reply.specs.Escaping.{escaped, is_plain, is_kept, url_byte, url_encoded}
use Rattle.s3_reply.proofs.EscapedLemmas.{escaped-append, escaped_one, escaped_nil, plain_byte, kept_byte, coded_byte}

-- a byte from `,` on that isn't one of three stands for itself, and so does `%`
plain_from : (b : ℕ) → 39 ≤ b → b ≢ 60 → b ≢ 62 → is_plain b ≡ true
plain_from b low less greater = grind (arith, nat_tests)

-- a byte that stays stands for itself
kept_is_plain : (b : ℕ) → is_kept b ≡ true → is_plain b ≡ true
kept_is_plain b kept = grind (arith, nat_tests)

-- so does a digit
pub glyph_is_plain : (d : ℕ) → d < 16 → is_plain (digit_glyph true d) ≡ true
glyph_is_plain d low = grind (arith, nat_tests)

-- three bytes that stand for themselves
three : (a b c : ℕ) → is_plain a ≡ true → is_plain b ≡ true → is_plain c ≡ true → escaped (a ∷ b ∷ c ∷ []) ≡ a ∷ b ∷ c ∷ []
three a b c p q r =
    escaped-append (a ∷ []) (b ∷ c ∷ []) ∙ ap (λ t. t ++ escaped (b ∷ c ∷ [])) (escaped_one a ∙ plain_byte a p)
    ∙ ap (λ t. a ∷ t) (escaped-append (b ∷ []) (c ∷ []) ∙ ap (λ t. t ++ escaped (c ∷ [])) (escaped_one b ∙ plain_byte b q)
    ∙ ap (λ t. b ∷ t) (escaped_one c ∙ plain_byte c r))

escaped_percent : (b : ℕ) → escaped (percent_encode_byte b) ≡ percent_encode_byte b
unfolding percent_encode_byte
escaped_percent b = three 37 (digit_glyph true (b / 16 % 16)) (digit_glyph true (b % 16)) refl (glyph_is_plain (b / 16 % 16) (omega arith)) (glyph_is_plain (b % 16) (omega arith))

escaped_url_by : (b : ℕ) (kept : Bool) → is_kept b ≡ kept → escaped (url_byte b) ≡ url_byte b
escaped_url_by b true kept = rw (kept_byte b kept) (escaped_one b ∙ plain_byte b (kept_is_plain b kept))
escaped_url_by b false coded = rw (coded_byte b coded) (escaped_percent b)

pub escaped_url : (name : List ℕ) → escaped (url_encoded name) ≡ url_encoded name
unfolding url_encoded
escaped_url [] = escaped_nil
escaped_url (b ∷ name) =
    escaped-append (url_byte b) (url_encoded name) ∙ ap (λ t. t ++ escaped (url_encoded name)) (escaped_url_by b (is_kept b) refl)
    ∙ ap (λ t. url_byte b ++ t) (escaped_url name)
