-- Spellings of names: their digits are those of the name, whatever groups they are cut into.
use Rattle.std.specs.Prelude.{◌≡◌, ◌≤◌, ◌<◌, ℕ, zero, suc, Bool, true, false, cond, List, [], ◌∷◌, ◌++◌, length, take, drop, slice_index, ◌/◌, ◌%◌, filter, refl, nat_le, Ok}
use Rattle.std.proofs.Common.{sym, ap, ◌∙◌, arith, subst}
use Rattle.std.proofs.lemmas.Bool.{le-leb}
use Rattle.std.proofs.lemmas.Bool.Decides.{nat_tests}
use Rattle.std.proofs.lemmas.List.{take-append-drop, append_assoc, length-drop}
use Rattle.std.proofs.lemmas.List.Elements.{All-head, All-tail, All-nil, All-cons, filter-append}
use Rattle.std.specs.List.{AllPass}
use Rattle.hex.specs.Hex.{IsBytes, encode_lower, encode_with, lower_digits, is_hex_digit, decode_of}
use Rattle.hex.proofs.HexLemmas.{decode_of-encode_lower, decode_of-ok}
use Rattle.drive_file.specs.Paths.{next_group, spelled_within, SpellingsDiffer}

-- the digits of two parts
encode-append : (t xs ys : List ℕ) → encode_with t (xs ++ ys) ≡ encode_with t xs ++ encode_with t ys
unfolding encode_with
encode-append t [] ys = refl
encode-append t (x ∷ xs) ys = ap (λ rest. slice_index t (x / 16) ∷ slice_index t (x % 16) ∷ rest) (encode-append t xs ys)

-- what passes in a list passes in its front and in its rest
pass_front : (p : ℕ → Bool) (xs ys : List ℕ) → AllPass p (xs ++ ys) → AllPass p xs
pass_front p [] ys h = All-nil (λ x. p x ≡ true)
pass_front p (x ∷ xs) ys h = All-cons (λ x. p x ≡ true) x xs (All-head (λ x. p x ≡ true) x (xs ++ ys) h) (pass_front p xs ys (All-tail (λ x. p x ≡ true) x (xs ++ ys) h))

pass_rest : (p : ℕ → Bool) (xs ys : List ℕ) → AllPass p (xs ++ ys) → AllPass p ys
pass_rest p [] ys h = h
pass_rest p (x ∷ xs) ys h = pass_rest p xs ys (All-tail (λ x. p x ≡ true) x (xs ++ ys) h)

-- a filter keeps a list whose elements all pass
filter_whole : (p : ℕ → Bool) (xs : List ℕ) → AllPass p xs → filter p xs ≡ xs
filter_whole p [] h = refl
filter_whole p (x ∷ xs) h = at (p x) (All-head (λ x. p x ≡ true) x xs h) (filter_whole p xs (All-tail (λ x. p x ≡ true) x xs h))
  where
    at : (b : Bool) → b ≡ true → filter p xs ≡ xs → cond b (x ∷ filter p xs) (filter p xs) ≡ x ∷ xs
    at true e below = ap (λ rest. x ∷ rest) below
    at false e below = absurd (cc)

-- the digits of a spelling are those of the name
digits_of_spelled : (groups : ℕ) (name : List ℕ) → AllPass is_hex_digit (encode_lower name) → filter is_hex_digit (spelled_within groups name) ≡ encode_lower name
unfolding spelled_within
digits_of_spelled zero name h = filter_whole is_hex_digit (encode_lower name) h
digits_of_spelled (suc groups) name h =
    let parts : encode_lower name ≡ encode_lower (take 100 name) ++ encode_lower (drop 100 name)
    = ap encode_lower (sym (take-append-drop 100 name)) ∙ encode-append lower_digits (take 100 name) (drop 100 name) in
    let both = subst (AllPass is_hex_digit) parts h in
    at (nat_le (length name) 100) parts
    (pass_front is_hex_digit (encode_lower (take 100 name)) (encode_lower (drop 100 name)) both)
    (digits_of_spelled groups (drop 100 name) (pass_rest is_hex_digit (encode_lower (take 100 name)) (encode_lower (drop 100 name)) both))
  where
    at : (b : Bool) → encode_lower name ≡ encode_lower (take 100 name) ++ encode_lower (drop 100 name)
        → AllPass is_hex_digit (encode_lower (take 100 name))
        → filter is_hex_digit (spelled_within groups (drop 100 name)) ≡ encode_lower (drop 100 name)
        → filter is_hex_digit (cond b (encode_lower name) (encode_lower (take 100 name) ++ (next_group ++ spelled_within groups (drop 100 name)))) ≡ encode_lower name
    at true parts front rest = filter_whole is_hex_digit (encode_lower name) h
    at false parts front rest =
        filter-append is_hex_digit (encode_lower (take 100 name)) (next_group ++ spelled_within groups (drop 100 name))
        ∙ ap (λ digits. digits ++ filter is_hex_digit (spelled_within groups (drop 100 name))) (filter_whole is_hex_digit (encode_lower (take 100 name)) front)
        ∙ ap (λ digits. encode_lower (take 100 name) ++ digits) rest
        ∙ sym parts

-- the digits of bytes are digits
digits_pass : (name : List ℕ) → IsBytes name → AllPass is_hex_digit (encode_lower name)
digits_pass name h = (decode_of-ok (encode_lower name) name (decode_of-encode_lower name h)).1

-- two names have two spellings
pub spellings_differ : SpellingsDiffer
spellings_differ one other h k e =
    let digits : encode_lower one ≡ encode_lower other
    = sym (digits_of_spelled (length one) one (digits_pass one h)) ∙ ap (filter is_hex_digit) e ∙ digits_of_spelled (length other) other (digits_pass other k) in
    let read : Ok one ≡ Ok other = sym (decode_of-encode_lower one h) ∙ ap decode_of digits ∙ decode_of-encode_lower other k in
    cc

-- a name that fits in one group is one group
pub last_group : (groups : ℕ) (name : List ℕ) → length name ≤ 100 → spelled_within groups name ≡ encode_lower name
unfolding spelled_within
last_group zero name short = refl
last_group (suc groups) name short = at (nat_le (length name) 100) (le-leb (length name) 100 short)
  where
    at : (b : Bool) → b ≡ true
        → cond b (encode_lower name) (encode_lower (take 100 name) ++ (next_group ++ spelled_within groups (drop 100 name))) ≡ encode_lower name
    at true e = refl
    at false e = absurd (cc)

-- of a longer one the first group is cut off
pub first_group : (groups : ℕ) (name : List ℕ) → 100 < length name
    → spelled_within (suc groups) name ≡ encode_lower (take 100 name) ++ (next_group ++ spelled_within groups (drop 100 name))
unfolding spelled_within
first_group groups name long = at (nat_le (length name) 100) (grind (arith, nat_tests))
  where
    at : (b : Bool) → b ≡ false
        → cond b (encode_lower name) (encode_lower (take 100 name) ++ (next_group ++ spelled_within groups (drop 100 name)))
        ≡ encode_lower (take 100 name) ++ (next_group ++ spelled_within groups (drop 100 name))
    at true e = absurd (cc)
    at false e = refl

-- one group more was written
pub cut_group : (groups : ℕ) (name text : List ℕ) → 100 < length name → length name ≤ groups
    → (fewer : ℕ) × (length (drop 100 name) ≤ fewer)
    × (((text ++ encode_lower (take 100 name)) ++ next_group) ++ spelled_within fewer (drop 100 name) ≡ text ++ spelled_within groups name)
cut_group zero name text long enough = absurd (omega arith)
cut_group (suc groups) name text long enough = (
  groups,
  (let e = length-drop 100 name in omega (arith, e)),
  append_assoc (text ++ encode_lower (take 100 name)) next_group (spelled_within groups (drop 100 name))
      ∙ append_assoc text (encode_lower (take 100 name)) (next_group ++ spelled_within groups (drop 100 name))
      ∙ ap (λ rest. text ++ rest) (sym (first_group groups name long)),
)
