-- What is read of the values of arguments and headers keeps its limits.
use Rattle.std.proofs.Common.{◌≡◌, ℕ, ◌+◌, ◌*◌, ◌≤◌, Bool, true, false, List, [], ◌∷◌, map, length, take, drop, refl, sym, ◌∙◌, arith}
use Rattle.std.specs.Prelude.{◌==◌, ◌&&◌, nat_le, min, cond, codes, slice_index, Option, Some, None, Result, Ok, Err}
use Rattle.std.specs.Char.{digit_value, is_ascii_digit}
use Rattle.std.specs.List.{position_or_len}
use Rattle.std.specs.Map.{lookup}
use Rattle.std.specs.Option.{option_map}
use Rattle.std.specs.Str.{IsUtf8, is_utf8, bytes_eq, all_ascii_digits}
use Rattle.std.specs.Str.Parse.{digits_value, digits_value_after}
use Rattle.std.proofs.lemmas.Bool.{leb-true, eq-eqb}
use Rattle.std.proofs.lemmas.Bool.Decides.{nat_tests}
use Rattle.std.proofs.lemmas.Str.{IsUtf8-nil, IsUtf8-from_is_utf8}
use Rattle.hex.specs.Hex.{decode_of}
use Rattle.hex.specs.declared.error.FromHexError.{FromHexError}
use Rattle.call_types.specs.declared.names.RangeAsk.TheVariants.{Whole, FromTo}
use Rattle.call_types.specs.declared.names.VersionName.{VersionName}
use Rattle.call_types.specs.declared.refusal.Refusal.{Refusal}
use Rattle.desk_base.specs.Calls.{IsRange, IsText, IsListAsk, IsVersionsAsk}
use Rattle.s3_request.specs.Arguments.{bytes_unit, closed, hyphen, is_hyphen, kept_kind, kind_of, length_of, number_in, number_of, open_end, part_number_in, part_within, range_at, range_between, range_of, stated_by, suffix, version_name_of, within}
use Rattle.s3_request.specs.Pages.{encoded_of, id_marker_of, list_ask, list_page, most_of, rows_within, text_in, text_or_empty, token_of, versions_ask, versions_page}
use Rattle.s3_request.specs.Query.{Pairs, pair_of, pairs_of, text_of, value_of}
use Rattle.s3_request.specs.Refusing.{and_then}
use Rattle.form_urlencoded.specs.Form.{raw_pairs, decode, split_once}
use Rattle.s3_request.proofs.LossyLemmas.{lossy_is_utf8}

-- the value of an answer keeps P
abbrev pub Keeps : {A : Type 0} → (A → Type 0) → Result A Refusal → Type 0
Keeps P (Ok x) = P x
Keeps P (Err why) = Unit {0}

-- the value of an option keeps P
abbrev pub Has : {A : Type 0} → (A → Type 0) → Option A → Type 0
Has P None = Unit {0}
Has P (Some x) = P x

pub then_keeps : {A B : Type 0} (P : A → Type 0) (Q : B → Type 0) (r : Result A Refusal) (next : A → Result B Refusal) → Keeps P r
    → ((x : A) → P x → Keeps Q (next x)) → Keeps Q (and_then r next)
then_keeps P Q (Ok x) next keeps step = step x keeps
then_keeps P Q (Err why) next keeps step = tt

pub any_keeps : {A : Type 0} (r : Result A Refusal) → Keeps (λ _. Unit {0}) r
any_keeps (Ok x) = tt
any_keeps (Err why) = tt

pub if_true : {A : Type 0} (P : A → Type 0) (test : Bool) (x : A) (why : Refusal) → (test ≡ true → P x) → Keeps P (cond test (Ok x) (Err why))
if_true P true x why holds = holds refl
if_true P false x why holds = tt

some_if : {A : Type 0} (P : A → Type 0) (test : Bool) (x : A) → (test ≡ true → P x) → Has P (cond test (Some x) None)
some_if P true x holds = holds refl
some_if P false x holds = tt

pub either_way : {A : Type 0} (P : A → Type 0) (test : Bool) (x y : A) → P x → P y → P (cond test x y)
either_way P true x y p q = p
either_way P false x y p q = q

-- ---- headers

short_kind : (kind : List ℕ) → Keeps (λ (k : List ℕ). length k ≤ 255) (kept_kind kind)
short_kind kind = if_true (λ (k : List ℕ). length k ≤ 255) (nat_le (length kind) 255) kind _ (leb-true (length kind) 255)

pub kind_is_short : (kind : Option (List ℕ)) → Keeps (λ (k : List ℕ). length k ≤ 255) (kind_of kind)
kind_is_short None = short_kind (codes "binary/octet-stream")
kind_is_short (Some kind) = short_kind kind

stays_within : (limit : ℕ) (stated : Option ℕ) → Keeps (λ n. n ≤ limit) (within limit stated)
stays_within limit None = tt
stays_within limit (Some n) = if_true (λ m. m ≤ limit) (nat_le n limit) n _ (leb-true n limit)

pub length_is_within : (limit : ℕ) (value : Option (List ℕ)) → Keeps (λ n. n ≤ limit) (length_of limit value)
length_is_within limit value = stays_within limit (stated_by value)

closed_is_range : (first last : Option ℕ) → IsRange (closed first last)
closed_is_range None last = tt
closed_is_range (Some first) None = tt
closed_is_range (Some first) (Some last) = by_test (nat_le first last) (leb-true first last)
  where
    by_test : (test : Bool) → (test ≡ true → first ≤ last) → IsRange (cond test (FromTo first last) Whole)
    by_test true holds = holds refl
    by_test false holds = tt

open_is_range : (first : Option ℕ) → IsRange (open_end first)
open_is_range None = tt
open_is_range (Some first) = tt

suffix_is_range : (count : Option ℕ) → IsRange (suffix count)
suffix_is_range None = tt
suffix_is_range (Some count) = tt

between_is_range : (first last : List ℕ) → IsRange (range_between first last)
between_is_range first last =
    either_way IsRange (length first == 0) (suffix (number_of last)) _ (suffix_is_range (number_of last))
    (either_way IsRange (length last == 0) (open_end (number_of first)) (closed (number_of first) (number_of last)) (open_is_range (number_of first))
    (closed_is_range (number_of first) (number_of last)))

at_is_range : (text : List ℕ) → IsRange (range_at text)
at_is_range text =
    let first = (split_once hyphen text).0 in
    let last = (split_once hyphen text).1 in
    either_way IsRange (position_or_len is_hyphen text == length text) Whole (range_between first last) tt (between_is_range first last)

pub range_is_range : (condition value : Option (List ℕ)) → IsRange (range_of condition value)
range_is_range (Some validator) value = tt
range_is_range None None = tt
range_is_range None (Some value) = either_way IsRange (bytes_eq (take 6 value) bytes_unit) (range_at (drop 6 value)) Whole (at_is_range (drop 6 value)) tt

-- ---- numbers

both : (a b : Bool) → (a && b) ≡ true → (a ≡ true) × (b ≡ true)
both true b e = (refl, e)
both false b e = absurd cc

grows : (n : ℕ) (digits : List ℕ) → n ≤ digits_value_after 10 n digits
grows n [] = omega arith
grows n (c ∷ cs) = omega (arith, grows (n * 10 + digit_value c) cs)

value_of_digit : (c : ℕ) → 49 ≤ c → c ≤ 57 → 1 ≤ digit_value c
value_of_digit c low high = grind (arith, nat_tests)

no_true : false ≡ true → ⊥
no_true e = absurd cc

-- digits that don't begin with a zero write a number that isn't zero
counts : (text : List ℕ) → all_ascii_digits text ≡ true → (length text == 0) ≡ false → (slice_index text 0 == 48) ≡ false → 1 ≤ digits_value 10 text
counts [] digits some other = absurd (no_true (sym some))
counts (c ∷ cs) digits some other =
    let first = both (nat_le 48 c) (nat_le c 57) (both (is_ascii_digit c) (all_ascii_digits cs) digits).0 in
    let apart : c ≡ 48 → ⊥ = λ e. no_true (sym other ∙ eq-eqb c 48 e) in
    let low = leb-true 48 c first.0 in
    let high = leb-true c 57 first.1 in
    let one = value_of_digit c (omega (arith, apart, low)) high in
    omega (arith, one, grows (0 * 10 + digit_value c) cs)

-- the number of a part
abbrev pub IsPartNumber : ℕ → Type 0
IsPartNumber number = (1 ≤ number) × (number ≤ 10000)

part_of_value : (text : List ℕ) (fits : Bool) → 1 ≤ digits_value 10 text → Has IsPartNumber (part_within (cond fits (Some (digits_value 10 text)) None))
part_of_value text true some =
    some_if IsPartNumber (nat_le (digits_value 10 text) 10000) (digits_value 10 text) (λ few. (some, leb-true (digits_value 10 text) 10000 few))
part_of_value text false some = tt

part_of_digits : (text : List ℕ) (digits : Bool) → all_ascii_digits text ≡ digits → (length text == 0) ≡ false → (slice_index text 0 == 48) ≡ false
    → Has IsPartNumber (part_within (cond digits (number_in text) None))
part_of_digits text true is some other = part_of_value text _ (counts text is some other)
part_of_digits text false is some other = tt

part_of_text : (text : List ℕ) (empty zero_first : Bool) → (length text == 0) ≡ empty → (slice_index text 0 == 48) ≡ zero_first
    → Has IsPartNumber (cond empty None (cond zero_first None (part_within (number_of text))))
unfolding number_of
part_of_text text true zero_first some other = tt
part_of_text text false true some other = tt
part_of_text text false false some other = part_of_digits text (all_ascii_digits text) refl some other

pub part_is_number : (text : Option (List ℕ)) → Has IsPartNumber (part_number_in text)
part_is_number None = tt
part_is_number (Some text) = part_of_text text _ _ refl refl

few_rows : (number : Option ℕ) → Has (λ n. n ≤ 1000) (rows_within number)
few_rows None = tt
few_rows (Some number) = some_if (λ n. n ≤ 1000) (nat_le number 2147483647) (min number 1000) (λ _. omega arith)

pub most_is_few : (text : Option (List ℕ)) → Has (λ n. n ≤ 1000) (most_of text)
most_is_few None = omega arith
most_is_few (Some text) = few_rows (number_of text)

-- ---- texts

found_is_text : (test : List ℕ → Bool) (raw : Pairs) → IsText (lookup test (map pair_of raw))
found_is_text test [] = tt
found_is_text test (pair ∷ raw) =
    either_way IsText (test (text_of pair.0)) (Some (text_of pair.1)) (lookup test (map pair_of raw)) (lossy_is_utf8 (decode pair.1)) (found_is_text test raw)

pub value_is_text : (query name : List ℕ) → IsText (value_of (pairs_of query) name)
value_is_text query name = found_is_text (bytes_eq name) (raw_pairs query)

pub or_empty_is_utf8 : (text : Option (List ℕ)) → IsText text → IsUtf8 (text_or_empty text)
or_empty_is_utf8 None is = IsUtf8-nil
or_empty_is_utf8 (Some text) is = is

hex_is_text : (bytes : Result (List ℕ) FromHexError) → Has IsText (text_in bytes)
hex_is_text (Ok bytes) = some_if IsText (is_utf8 bytes) (Some bytes) (IsUtf8-from_is_utf8 bytes)
hex_is_text (Err error) = tt

pub token_is_text : (text : Option (List ℕ)) → Has IsText (token_of text)
token_is_text None = tt
token_is_text (Some text) = hex_is_text (decode_of text)

-- ---- pages

-- a version's marker comes with a key's alone
abbrev pub ComesWith : Option (List ℕ) → Option VersionName → Type 0
ComesWith key marker = key ≡ None → marker ≡ None

is_some : {A : Type 0} → (x : A) → Some x ≡ None → ⊥
is_some x e = absurd cc

named_marker : (key : List ℕ) (name : Option VersionName) → Has (ComesWith (Some key)) (option_map Some name)
named_marker key None = tt
named_marker key (Some name) = λ e. absurd (is_some key e)

pub marker_comes_with : (key text : Option (List ℕ)) → Has (ComesWith key) (id_marker_of key text)
marker_comes_with key None = λ e. refl
marker_comes_with None (Some text) = tt
marker_comes_with (Some key) (Some text) = named_marker key (version_name_of text)

page_is_ask : (query : List ℕ) (most : Option ℕ) (encoded : Option Bool) (token : Option (Option (List ℕ))) → Has (λ n. n ≤ 1000) most → Has IsText token
    → Keeps IsListAsk (list_page (pairs_of query) most encoded token)
page_is_ask query (Some most) (Some encoded) (Some token) few text = record {
  prefix = or_empty_is_utf8 (value_of (pairs_of query) (codes "prefix")) (value_is_text query (codes "prefix"));
  delimiter = or_empty_is_utf8 (value_of (pairs_of query) (codes "delimiter")) (value_is_text query (codes "delimiter"));
  most = few;
  start_after = value_is_text query (codes "start-after");
  token = text;
}
page_is_ask query None encoded token few text = tt
page_is_ask query (Some most) None token few text = tt
page_is_ask query (Some most) (Some encoded) None few text = tt

pub list_ask_is : (query : List ℕ) → Keeps IsListAsk (list_ask (pairs_of query))
list_ask_is query =
    let pairs = pairs_of query in
    let most = value_of pairs (codes "max-keys") in
    let token = value_of pairs (codes "continuation-token") in
    page_is_ask query (most_of most) (encoded_of (value_of pairs (codes "encoding-type"))) (token_of token) (most_is_few most) (token_is_text token)

page_is_versions : (query : List ℕ) (most : Option ℕ) (encoded : Option Bool) (marker : Option (Option VersionName)) → Has (λ n. n ≤ 1000) most
    → Has (ComesWith (value_of (pairs_of query) (codes "key-marker"))) marker → Keeps IsVersionsAsk (versions_page (pairs_of query) most encoded marker)
page_is_versions query (Some most) (Some encoded) (Some marker) few comes = record {
  prefix = or_empty_is_utf8 (value_of (pairs_of query) (codes "prefix")) (value_is_text query (codes "prefix"));
  delimiter = or_empty_is_utf8 (value_of (pairs_of query) (codes "delimiter")) (value_is_text query (codes "delimiter"));
  most = few;
  key_marker = value_is_text query (codes "key-marker");
  with_key = comes;
}
page_is_versions query None encoded marker few comes = tt
page_is_versions query (Some most) None marker few comes = tt
page_is_versions query (Some most) (Some encoded) None few comes = tt

pub versions_ask_is : (query : List ℕ) → Keeps IsVersionsAsk (versions_ask (pairs_of query))
versions_ask_is query =
    let pairs = pairs_of query in
    let most = value_of pairs (codes "max-keys") in
    let key = value_of pairs (codes "key-marker") in
    let marker = value_of pairs (codes "version-id-marker") in
    page_is_versions query (most_of most) (encoded_of (value_of pairs (codes "encoding-type"))) (id_marker_of key marker) (most_is_few most)
    (marker_comes_with key marker)
