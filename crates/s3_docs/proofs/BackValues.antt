-- What is read is the bytes of a tree: numbers, ETags and modes.
use Rattle.std.proofs.Common.{◌≡◌, refl, sym, ◌∙◌, ap, subst, ℕ, ◌+◌, ◌*◌, ◌-◌, ◌≤◌, inl, inr, Bool, true, false, ◌||◌, ◌&&◌, eqb, ltb, leb, cond, List, [], ◌∷◌, ◌++◌, length, codes, Some, None, append_assoc, arith}
use Rattle.std.proofs.lemmas.Bool.{false≢true}
use Rattle.std.proofs.lemmas.Bool.Decides.{eqb_tells}
use Rattle.std.proofs.lemmas.List.{length_push, append-nil}
use Rattle.hex.specs.Hex.{is_hex_digit}
use Rattle.call_types.specs.declared.names.Mode.{Mode}
use Rattle.call_types.specs.declared.names.Mode.TheVariants.{Enabled, Suspended}
use Rattle.s3_docs.specs.Bytes.{is_digit}
use Rattle.s3_docs.specs.Machine.{Value, Holder, Field, PartNumber, ETag, Status, Quotation, Bare, Plain, Named, Numbered, State, Inside, Awaiting, Ending, Digits, Reference, Hex, due, end_tag, field_name, with_number, with_md5, with_mode, md5_of, quote_text, behind_hex, behind_number, begins}
use Rattle.s3_docs.specs.Outcomes.{Outcome, Says, outcome, goes_on}
use Rattle.s3_docs.specs.Reads.{NoBlank}
use Rattle.s3_docs.specs.Grammar.{◌·◌, Every, IsGap, value_behind, number_of, IsNumber, IsDigest, mode_name, IsAsked}
use Rattle.s3_docs.proofs.ValueLemmas.{awaiting_number, awaiting_hex}
use Rattle.s3_docs.proofs.Back.{not_failed, gap_back, open_back, due_back}

-- a field's end: white space and its end tag
pub ending_back : (holder : Holder) (field : Field) (value : Value) (bytes : List ℕ) → outcome (Ending holder field) bytes ≡ Says value
    → (after rest : List ℕ) × (bytes ≡ after · codes "</" · field_name field · codes ">" · rest) × IsGap after × (outcome (Inside holder) rest ≡ Says value)
ending_back holder field value bytes goes =
    let start = open_back (Ending holder field) (end_tag (field_name field) (Inside holder)) (refl, refl, λ b. refl) value bytes goes in
    let slash = due_back (codes "/") (due (field_name field) (due (codes ">") (Inside holder))) value start.rest start.goes in
    let named = due_back (field_name field) (due (codes ">") (Inside holder)) value slash.0 slash.2 in
    let closed = due_back (codes ">") (Inside holder) value named.0 named.2 in
    (start.gap, closed.0, start.whole ∙ ap (λ (rest : List ℕ). start.gap · (60 ∷ rest)) (slash.1 ∙ ap (47 ∷◌) (named.1 ∙ ap (field_name field ·◌) closed.1)), start.is, closed.2)

-- the digits of a number, and what follows them
pub record Counted (holder : Holder) (count number : ℕ) (bytes : List ℕ) (value : Value) : Type 0 where
  pub digits : List ℕ
  pub rest : List ℕ
  pub whole : bytes ≡ digits · rest
  pub decimal : Every is_digit digits
  pub few : count ≤ 5 → count + length digits ≤ 5
  pub least : 1 ≤ value_behind number digits
  pub most : number ≤ 10000 → value_behind number digits ≤ 10000
  pub goes : outcome (Ending (with_number holder (value_behind number digits)) PartNumber) rest ≡ Says value

-- which of two states a test gives, where one is none
chosen : (test : Bool) (next : State) (read : State → Outcome) (left : ℕ) (value : Value) → goes_on (cond test (Some next) None) read left ≡ Says value
    → (test ≡ true) × (read next ≡ Says value)
chosen true next read left value goes = (refl, goes)
chosen false next read left value goes = not_failed left value goes

both : (a b c : Bool) → (a && b && c) ≡ true → (a ≡ true) × (b ≡ true)
both true true c e = (refl, refl)
both true false c e = absurd (false≢true e)
both false b c e = absurd (false≢true e)

pub digits_back : (holder : Holder) (value : Value) (bytes : List ℕ) (count number : ℕ) → outcome (Digits holder count number) bytes ≡ Says value
    → Counted holder count number bytes value
digits_back holder value [] count number goes = not_failed 0 value goes
digits_back holder value (b ∷ bytes) count number goes =
    by_digit (is_digit b) refl (λ count number more. digits_back holder value bytes count number more)
  where
    by_digit : (digit : Bool) → is_digit b ≡ digit
        → ((count number : ℕ) → outcome (Digits holder count number) bytes ≡ Says value → Counted holder count number bytes value)
        → Counted holder count number (b ∷ bytes) value
    by_digit true is later =
        let more = number * 10 + (b - 48) in
        let test = leb (count + 1) 5 && leb more 10000 && (ltb (count + 1) 5 || ltb 0 more) in
        let step = chosen test (Digits holder (count + 1) more) (λ next. outcome next bytes) (length (b ∷ bytes)) value (rw is at goes) in
        let front = later (count + 1) more step.1 in
        let first : (leb (count + 1) 5 ≡ true) × (leb more 10000 ≡ true) = both (leb (count + 1) 5) (leb more 10000) (ltb (count + 1) 5 || ltb 0 more) step.0 in
        let within : count + 1 ≤ 5 = search (arith, first.0) in
        let below : more ≤ 10000 = search (arith, first.1) in
        record {
          digits = b ∷ front.digits;
          rest = front.rest;
          whole = ap (b ∷◌) front.whole;
          decimal = (is, front.decimal);
          few = λ few. omega (arith, front.few within);
          least = front.least;
          most = λ most. front.most below;
          goes = front.goes;
        }
    by_digit false is later =
        let behind : goes_on (behind_number holder number b) (λ next. outcome next bytes) (length (b ∷ bytes)) ≡ Says value = rw is at goes in
        some (ltb 0 number) refl behind
      where
        some : (test : Bool) → ltb 0 number ≡ test → goes_on (behind_number holder number b) (λ next. outcome next bytes) (length (b ∷ bytes)) ≡ Says value
            → Counted holder count number (b ∷ bytes) value
        some true positive behind = record {
          digits = [];
          rest = b ∷ bytes;
          whole = refl;
          decimal = tt;
          few = λ few. omega (arith, few);
          least = search (arith, positive);
          most = λ most. most;
          goes = rw positive at behind;
        }
        some false positive behind = not_failed (length (b ∷ bytes)) value (rw positive at behind)

-- the value of a PartNumber and its end
pub number_back : (holder : Holder) (value : Value) (bytes : List ℕ) → outcome (Awaiting holder PartNumber) bytes ≡ Says value
    → (before digits after rest : List ℕ) × (bytes ≡ before · digits · after · codes "</PartNumber>" · rest)
    × IsGap before × IsNumber digits × IsGap after × (outcome (Inside (with_number holder (number_of digits))) rest ≡ Says value)
number_back holder value bytes goes =
    let front = gap_back (Awaiting holder PartNumber) refl value bytes goes in
    let number = digits_back holder value front.rest 0 0 (sym (awaiting_number holder front.rest front.no_blank) ∙ front.goes) in
    let last = ending_back (with_number holder (number_of number.digits)) PartNumber value number.rest number.goes in (
      front.gap,
      number.digits,
      last.0,
      last.1,
      front.whole ∙ ap (front.gap ·◌) (number.whole ∙ ap (number.digits ·◌) last.2),
      front.is,
      record { decimal = number.decimal; few = omega (arith, number.few (omega arith)); least = number.least; most = number.most (omega arith) },
      last.3,
      last.4,
    )

-- the hex digits of an ETag, and what follows them
pub record Hexed (holder : Holder) (quotation : Quotation) (front bytes : List ℕ) (value : Value) : Type 0 where
  pub digits : List ℕ
  pub rest : List ℕ
  pub whole : bytes ≡ digits · rest
  pub hex : Every is_hex_digit digits
  pub size : length front + length digits ≡ 32
  pub goes : outcome (due (quote_text quotation) (Ending (with_md5 holder (md5_of (front ++ digits))) ETag)) rest ≡ Says value

hex_full : (holder : Holder) (quotation : Quotation) (value : Value) (bytes front : List ℕ) → length front ≡ 32
    → outcome (behind_hex holder quotation front) bytes ≡ Says value → Hexed holder quotation front bytes value
hex_full holder quotation value bytes front full goes =
    let test : eqb (length front) 32 ≡ true = search (arith, full) in
    record { digits = []; rest = bytes; whole = refl; hex = tt; size = omega (arith, full); goes = rw append-nil (rw test at goes) }

pub hex_back : (holder : Holder) (quotation : Quotation) (value : Value) (bytes front : List ℕ) → length front ≤ 32
    → outcome (behind_hex holder quotation front) bytes ≡ Says value → Hexed holder quotation front bytes value
hex_back holder quotation value [] front few goes = elim (eqb_tells (length front) 32) [
  | inl full ↦ hex_full holder quotation value [] front full.1 goes
  | inr short ↦ not_failed 0 value (rw short.0 at goes)
]
hex_back holder quotation value (b ∷ bytes) front few goes = elim (eqb_tells (length front) 32) [
  | inl full ↦ hex_full holder quotation value (b ∷ bytes) front full.1 goes
  | inr short ↦
      let size : length (front ++ b ∷ []) ≤ 32 = omega (arith, few, short.1, length_push front b) in
      let hexed : goes_on (cond (is_hex_digit b) (Some (behind_hex holder quotation (front ++ b ∷ []))) None) (λ next. outcome next bytes) (length (b ∷ bytes)) ≡ Says value =
      rw short.0 at goes in
      let step = chosen (is_hex_digit b) (behind_hex holder quotation (front ++ b ∷ [])) (λ next. outcome next bytes) (length (b ∷ bytes)) value hexed in
      let more = hex_back holder quotation value bytes (front ++ b ∷ []) size step.1 in
      record {
        digits = b ∷ more.digits;
        rest = more.rest;
        whole = ap (b ∷◌) more.whole;
        hex = (step.0, more.hex);
        size = omega (arith, more.size, length_push front b);
        goes = ap (λ (digits : List ℕ). outcome (due (quote_text quotation) (Ending (with_md5 holder (md5_of digits)) ETag)) more.rest)
            (sym (append_assoc front (b ∷ []) more.digits)) ∙ more.goes;
      }
]

-- the digits, what closes their quotes, and the end tag
quoted_back : (holder : Holder) (quotation : Quotation) (value : Value) (bytes : List ℕ) → outcome (Hex holder quotation []) bytes ≡ Says value
    → (digits after rest : List ℕ) × (bytes ≡ digits · quote_text quotation · after · codes "</ETag>" · rest) × IsDigest digits × IsGap after
    × (outcome (Inside (with_md5 holder (md5_of digits))) rest ≡ Says value)
quoted_back holder quotation value bytes goes =
    let hexed = hex_back holder quotation value bytes [] (omega arith) goes in
    let closed = due_back (quote_text quotation) (Ending (with_md5 holder (md5_of hexed.digits)) ETag) value hexed.rest hexed.goes in
    let last = ending_back (with_md5 holder (md5_of hexed.digits)) ETag value closed.0 closed.2 in (
      hexed.digits,
      last.0,
      last.1,
      hexed.whole ∙ ap (hexed.digits ·◌) (closed.1 ∙ ap (quote_text quotation ·◌) last.2),
      record { hex = hexed.hex; size = omega (arith, hexed.size) },
      last.3,
      last.4,
    )

-- the value of an ETag and its end
pub record Tagged (holder : Holder) (bytes : List ℕ) (value : Value) : Type 0 where
  pub quotation : Quotation
  pub digits : List ℕ
  pub after : List ℕ
  pub rest : List ℕ
  pub whole : bytes ≡ quote_text quotation · digits · quote_text quotation · after · codes "</ETag>" · rest
  pub digest : IsDigest digits
  pub after_is : IsGap after
  pub goes : outcome (Inside (with_md5 holder (md5_of digits))) rest ≡ Says value

quoted_tag : (holder : Holder) (quotation : Quotation) (value : Value) (bytes rest : List ℕ) → bytes ≡ quote_text quotation · rest
    → outcome (Hex holder quotation []) rest ≡ Says value → Tagged holder bytes value
quoted_tag holder quotation value bytes rest whole goes =
    let q = quoted_back holder quotation value rest goes in
    record { quotation = quotation; digits = q.0; after = q.1; rest = q.2; whole = whole ∙ ap (quote_text quotation ·◌) q.3; digest = q.4; after_is = q.5; goes = q.6 }

reference_tag : (holder : Holder) (value : Value) (rest : List ℕ) → outcome (Reference holder) rest ≡ Says value → Tagged holder (38 ∷ rest) value
reference_tag holder value [] goes = not_failed 0 value goes
reference_tag holder value (b ∷ rest) goes = elim (eqb_tells b 113) [
  | inl q ↦
      let more = due_back (codes "uot;") (Hex holder Named []) value rest (rw q.0 at goes) in
      quoted_tag holder Named value (38 ∷ b ∷ rest) more.0 (ap (38 ∷◌) (ap (◌∷ rest) q.1 ∙ ap (113 ∷◌) more.1)) more.2
  | inr n ↦ elim (eqb_tells b 35) [
    | inl q ↦
        let more = due_back (codes "34;") (Hex holder Numbered []) value rest (rw (n.0, q.0) at goes) in
        quoted_tag holder Numbered value (38 ∷ b ∷ rest) more.0 (ap (38 ∷◌) (ap (◌∷ rest) q.1 ∙ ap (35 ∷◌) more.1)) more.2
    | inr m ↦ not_failed (length (b ∷ rest)) value (rw (n.0, m.0) at goes)
  ]
]

tag_at : (holder : Holder) (value : Value) (rest : List ℕ) → NoBlank rest → outcome (Awaiting holder ETag) rest ≡ Says value → Tagged holder rest value
tag_at holder value [] no_blank goes = not_failed 0 value goes
tag_at holder value (b ∷ rest) no_blank goes = by_hex (is_hex_digit b) refl
  where
    begun : goes_on (begins ETag holder b) (λ next. outcome next rest) (length (b ∷ rest)) ≡ Says value
    begun = rw no_blank at goes

    by_hex : (test : Bool) → is_hex_digit b ≡ test → Tagged holder (b ∷ rest) value
    by_hex true is =
        quoted_tag holder Bare value (b ∷ rest) (b ∷ rest) refl (sym (awaiting_hex holder (b ∷ rest) no_blank (omega arith) is) ∙ goes)
    by_hex false is = elim (eqb_tells b 34) [
      | inl q ↦ quoted_tag holder Plain value (b ∷ rest) rest (ap (◌∷ rest) q.1) (rw (is, q.0) at begun)
      | inr n ↦ elim (eqb_tells b 38) [
        | inl q ↦ subst (λ (b : ℕ). Tagged holder (b ∷ rest) value) (sym q.1) (reference_tag holder value rest (rw (is, n.0, q.0) at begun))
        | inr m ↦ not_failed (length (b ∷ rest)) value (rw (is, n.0, m.0) at begun)
      ]
    ]

pub etag_back : (holder : Holder) (value : Value) (bytes : List ℕ) → outcome (Awaiting holder ETag) bytes ≡ Says value
    → (before rest : List ℕ) × (bytes ≡ before · rest) × IsGap before × Tagged holder rest value
etag_back holder value bytes goes =
    let front = gap_back (Awaiting holder ETag) refl value bytes goes in
    (front.gap, front.rest, front.whole, front.is, tag_at holder value front.rest front.no_blank front.goes)

-- the value of a Status and its end
pub record Moded (holder : Holder) (bytes : List ℕ) (value : Value) : Type 0 where
  pub mode : Mode
  pub after : List ℕ
  pub rest : List ℕ
  pub whole : bytes ≡ mode_name mode · after · codes "</Status>" · rest
  pub asked : IsAsked mode
  pub after_is : IsGap after
  pub goes : outcome (Inside (with_mode holder mode)) rest ≡ Says value

moded : (holder : Holder) (mode : Mode) → IsAsked mode → (value : Value) (bytes rest : List ℕ) → bytes ≡ mode_name mode · rest
    → outcome (Ending (with_mode holder mode) Status) rest ≡ Says value → Moded holder bytes value
moded holder mode asked value bytes rest whole goes =
    let last = ending_back (with_mode holder mode) Status value rest goes in
    record { mode = mode; after = last.0; rest = last.1; whole = whole ∙ ap (mode_name mode ·◌) last.2; asked = asked; after_is = last.3; goes = last.4 }

mode_at : (holder : Holder) (value : Value) (rest : List ℕ) → NoBlank rest → outcome (Awaiting holder Status) rest ≡ Says value → Moded holder rest value
mode_at holder value [] no_blank goes = not_failed 0 value goes
mode_at holder value (b ∷ rest) no_blank goes = elim (eqb_tells b 69) [
  | inl e ↦
      let more = due_back (codes "nabled") (Ending (with_mode holder Enabled) Status) value rest (rw (no_blank, e.0) at goes) in
      moded holder Enabled tt value (b ∷ rest) more.0 (ap (◌∷ rest) e.1 ∙ ap (69 ∷◌) more.1) more.2
  | inr n ↦ elim (eqb_tells b 83) [
    | inl e ↦
        let more = due_back (codes "uspended") (Ending (with_mode holder Suspended) Status) value rest (rw (no_blank, n.0, e.0) at goes) in
        moded holder Suspended tt value (b ∷ rest) more.0 (ap (◌∷ rest) e.1 ∙ ap (83 ∷◌) more.1) more.2
    | inr m ↦ not_failed (length (b ∷ rest)) value (rw (no_blank, n.0, m.0) at goes)
  ]
]

pub mode_back : (holder : Holder) (value : Value) (bytes : List ℕ) → outcome (Awaiting holder Status) bytes ≡ Says value
    → (before rest : List ℕ) × (bytes ≡ before · rest) × IsGap before × Moded holder rest value
mode_back holder value bytes goes =
    let front = gap_back (Awaiting holder Status) refl value bytes goes in
    (front.gap, front.rest, front.whole, front.is, mode_at holder value front.rest front.no_blank front.goes)
