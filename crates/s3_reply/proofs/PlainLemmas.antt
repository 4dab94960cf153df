-- Texts of bytes that stand for themselves.
use Rattle.std.proofs.Common.{◌≡◌, ℕ, zero, suc, ◌+◌, ◌/◌, ◌%◌, ◌<◌, ◌≤◌, Bool, true, false, ◌&&◌, List, [], ◌∷◌, ◌++◌, get_or, codes, decimal, refl, ap, ◌∙◌, arith, inl, inr}
use Rattle.std.proofs.lemmas.Bool.Decides.{nat_tests, eqb_tells}
use Rattle.std.proofs.lemmas.List.Folds.{list_all-append}
use Rattle.std.specs.Fmt.{digits, digits_onto, digit_glyph}
use Rattle.std.specs.List.{list_all}
use Rattle.hex.specs.Hex.{lower_digits, encode_lower, encode_with}
use Rattle.httpdate.specs.Calendar.{days_in_month}
use Rattle.httpdate.specs.Text.{two_digits, four_digits, time_of_day}
use Rattle.httpdate.specs.declared.date.HttpDate.{HttpDate}
use Rattle.s3_reply.specs.Dates.{timestamp_of}
use Rattle.header_values.specs.EntityTags.{part_count}
use Rattle.s3_reply.specs.Escaping.{escaped, is_plain}
use Rattle.s3_reply.proofs.EscapedLemmas.{escaped-append, escaped_one, escaped_nil, plain_byte}

-- one byte and more
pub more_plain : (b : ℕ) (rest : List ℕ) → is_plain b ≡ true → list_all is_plain rest ≡ true → list_all is_plain (b ∷ rest) ≡ true
more_plain b rest first next = rw (first, next)

-- two pieces
pub both_plain : (xs ys : List ℕ) → list_all is_plain xs ≡ true → list_all is_plain ys ≡ true → list_all is_plain (xs ++ ys) ≡ true
both_plain xs ys first next = list_all-append is_plain xs ys ∙ rw (first, next)

first_of_both : (a b : Bool) → (a && b) ≡ true → a ≡ true
first_of_both true b h = refl
first_of_both false b h = h

second_of_both : (a b : Bool) → (a && b) ≡ true → b ≡ true
second_of_both true b h = h
second_of_both false true h = refl
second_of_both false false h = h

-- such a text is written as it is
pub escaped_plain : (text : List ℕ) → list_all is_plain text ≡ true → escaped text ≡ text
escaped_plain [] h = escaped_nil
escaped_plain (b ∷ text) h =
    escaped-append (b ∷ []) text
    ∙ ap (λ t. t ++ escaped text) (escaped_one b ∙ plain_byte b (first_of_both (is_plain b) (list_all is_plain text) h))
    ∙ ap (λ t. b ∷ t) (escaped_plain text (second_of_both (is_plain b) (list_all is_plain text) h))

-- a decimal digit
digit_plain : (d : ℕ) → d < 10 → is_plain (digit_glyph false d) ≡ true
digit_plain d low = grind (arith, nat_tests)

onto_plain : (k n : ℕ) (acc : List ℕ) → list_all is_plain acc ≡ true → list_all is_plain (digits_onto k 10 false n acc) ≡ true
onto_plain zero n acc h = h
onto_plain (suc k) n acc h =
    let digit = digit_plain (n % 10) (omega arith) in
    elim (eqb_tells (n / 10) 0) [
      | inl e ↦ rw e.0 (more_plain (digit_glyph false (n % 10)) acc digit h)
      | inr e ↦ rw e.0 (onto_plain k (n / 10) (digit_glyph false (n % 10) ∷ acc) (more_plain (digit_glyph false (n % 10)) acc digit h))
    ]

pub decimal_plain : (n : ℕ) → list_all is_plain (decimal n) ≡ true
unfolding digits
decimal_plain n = onto_plain 64 n [] refl

-- a hex digit
hex_digit_plain : (d : ℕ) → d < 16 → is_plain (get_or lower_digits d 0) ≡ true
hex_digit_plain zero low = refl
hex_digit_plain (suc zero) low = refl
hex_digit_plain (suc (suc zero)) low = refl
hex_digit_plain (suc (suc (suc zero))) low = refl
hex_digit_plain (suc (suc (suc (suc zero)))) low = refl
hex_digit_plain (suc (suc (suc (suc (suc zero))))) low = refl
hex_digit_plain (suc (suc (suc (suc (suc (suc zero)))))) low = refl
hex_digit_plain (suc (suc (suc (suc (suc (suc (suc zero))))))) low = refl
hex_digit_plain (suc (suc (suc (suc (suc (suc (suc (suc zero)))))))) low = refl
hex_digit_plain (suc (suc (suc (suc (suc (suc (suc (suc (suc zero))))))))) low = refl
hex_digit_plain (suc (suc (suc (suc (suc (suc (suc (suc (suc (suc zero)))))))))) low = refl
hex_digit_plain (suc (suc (suc (suc (suc (suc (suc (suc (suc (suc (suc zero))))))))))) low = refl
hex_digit_plain (suc (suc (suc (suc (suc (suc (suc (suc (suc (suc (suc (suc zero)))))))))))) low = refl
hex_digit_plain (suc (suc (suc (suc (suc (suc (suc (suc (suc (suc (suc (suc (suc zero))))))))))))) low = refl
hex_digit_plain (suc (suc (suc (suc (suc (suc (suc (suc (suc (suc (suc (suc (suc (suc zero)))))))))))))) low = refl
hex_digit_plain (suc (suc (suc (suc (suc (suc (suc (suc (suc (suc (suc (suc (suc (suc (suc zero))))))))))))))) low = refl
hex_digit_plain (suc (suc (suc (suc (suc (suc (suc (suc (suc (suc (suc (suc (suc (suc (suc (suc d)))))))))))))))) low = absurd (omega arith)

pub hex_plain : (bytes : List ℕ) → ((i : ℕ) → get_or bytes i 0 < 256) → list_all is_plain (encode_lower bytes) ≡ true
unfolding encode_with
hex_plain [] small = refl
hex_plain (b ∷ bytes) small =
    let low : b < 256 = small 0 in
    more_plain (get_or lower_digits (b / 16) 0) (get_or lower_digits (b % 16) 0 ∷ encode_lower bytes) (hex_digit_plain (b / 16) (omega arith))
    (more_plain (get_or lower_digits (b % 16) 0) (encode_lower bytes) (hex_digit_plain (b % 16) (omega arith)) (hex_plain bytes (λ i. small (suc i))))

-- a number of parts
pub count_plain : (n : ℕ) → list_all is_plain (part_count n) ≡ true
count_plain n =
    elim (eqb_tells n 0) [
      | inl e ↦ rw e.0
      | inr e ↦ rw e.0 (more_plain 45 (decimal n) refl (decimal_plain n))
    ]

-- the numbers of a date
tens_plain : (d : ℕ) → d < 10 → is_plain (48 + d) ≡ true
tens_plain d low = grind (arith, nat_tests)

two_plain : (n : ℕ) → n < 100 → list_all is_plain (two_digits n) ≡ true
two_plain n low =
    more_plain (48 + n / 10) ((48 + n % 10) ∷ []) (tens_plain (n / 10) (omega arith))
    (more_plain (48 + n % 10) [] (tens_plain (n % 10) (omega arith)) refl)

days_few : (y m : ℕ) → days_in_month y m ≤ 31
days_few y m = grind (arith, nat_tests)

pub stamp_plain : (d : HttpDate) → list_all is_plain (timestamp_of d.parts) ≡ true
stamp_plain d =
    let p = d.parts in
    let year = both_plain (two_digits (p.year / 100)) (two_digits (p.year % 100)) (two_plain (p.year / 100) (omega (arith, d.civil.0))) (two_plain (p.year % 100) (omega arith)) in
    let month = two_plain p.mon (omega (arith, d.civil.1)) in
    let day = two_plain p.day (omega (arith, d.civil.2, days_few p.year p.mon)) in
    let hour = two_plain p.hour (omega (arith, d.time)) in
    let minute = two_plain p.min (omega (arith, d.time)) in
    let second = two_plain p.sec (omega (arith, d.time)) in
    let clock = both_plain (((two_digits p.hour ++ codes ":") ++ two_digits p.min) ++ codes ":") (two_digits p.sec)
    (both_plain ((two_digits p.hour ++ codes ":") ++ two_digits p.min) (codes ":")
    (both_plain (two_digits p.hour ++ codes ":") (two_digits p.min) (both_plain (two_digits p.hour) (codes ":") hour refl) minute) refl) second in
    let date = both_plain ((((four_digits p.year ++ codes "-") ++ two_digits p.mon) ++ codes "-") ++ two_digits p.day) (codes "T")
    (both_plain (((four_digits p.year ++ codes "-") ++ two_digits p.mon) ++ codes "-") (two_digits p.day)
    (both_plain ((four_digits p.year ++ codes "-") ++ two_digits p.mon) (codes "-")
    (both_plain (four_digits p.year ++ codes "-") (two_digits p.mon) (both_plain (four_digits p.year) (codes "-") year refl) month) refl) day) refl in
    both_plain (((((four_digits p.year ++ codes "-") ++ two_digits p.mon) ++ codes "-") ++ two_digits p.day) ++ codes "T" ++ time_of_day p) (codes ".000Z")
    (both_plain (((((four_digits p.year ++ codes "-") ++ two_digits p.mon) ++ codes "-") ++ two_digits p.day) ++ codes "T") (time_of_day p) date clock) refl
