-- The bytes of a tree with parts are read, and give its parts.
use Rattle.std.proofs.Common.{◌≡◌, ◌≢◌, refl, sym, ◌∙◌, ap, ℕ, suc, ◌+◌, ◌*◌, ◌-◌, ◌<◌, ◌≤◌, inl, inr, Bool, true, false, ◌||◌, eqb, ltb, leb, List, [], ◌∷◌, ◌++◌, length, codes, Option, Some, None, append_assoc, arith}
use Rattle.std.specs.Str.{bytes_eq}
use Rattle.std.specs.Option.{option_to_list}
use Rattle.std.proofs.lemmas.Bool.{true≢false, false≢true, ne_eqb, false_from_ne_true}
use Rattle.std.proofs.lemmas.Bool.Decides.{eqb_tells}
use Rattle.std.proofs.lemmas.List.{length_push, append-nil}
use Rattle.std.proofs.lemmas.Slice.Eq.{bytes_eq-Decides}
use Rattle.hex.specs.Hex.{is_hex_digit}
use Rattle.call_types.specs.declared.version.PartRef.{PartRef}
use Rattle.s3_docs.specs.Bytes.{is_blank, is_digit}
use Rattle.s3_docs.specs.Machine.{Holder, Part, Quotation, Bare, Plain, Named, Numbered, Awaited, PartNumber, ETag, Inside, Awaiting, Ending, Digits, Hex, Between, naming, with_number, with_md5, md5_of, quote_text, behind_hex}
use Rattle.s3_docs.specs.Outcomes.{outcome}
use Rattle.s3_docs.specs.Reads.{NoBlank}
use Rattle.s3_docs.specs.Grammar.{◌·◌, Every, IsGap, value_behind, number_of, IsNumber, IsDigest, Item, Number, Etag, Other, number_text, etag_text, items_text, AreItems, numbers, digests, PartTree, part_text, SaysPart, parts_text, SayParts}
use Rattle.s3_docs.proofs.Live.{outcome-due}
use Rattle.s3_docs.proofs.ValueLemmas.{awaiting_number, awaiting_hex}
use Rattle.s3_docs.proofs.Forward.{gap_read, passed_read}

-- a test that no white space passes
pub blank_fails : (test : ℕ → Bool) → test 32 ≡ false → test 9 ≡ false → test 13 ≡ false → test 10 ≡ false → (b : ℕ) → is_blank b ≡ true → test b ≡ false
blank_fails test space tab return feed b blank = elim (eqb_tells b 32) [
  | inl e ↦ ap test e.1 ∙ space
  | inr n ↦ elim (eqb_tells b 9) [
    | inl e ↦ ap test e.1 ∙ tab
    | inr m ↦ elim (eqb_tells b 13) [
      | inl e ↦ ap test e.1 ∙ return
      | inr k ↦ elim (eqb_tells b 10) [
        | inl e ↦ ap test e.1 ∙ feed
        | inr l ↦ absurd (false≢true (rw (n.0, m.0, k.0, l.0) at blank))
      ]
    ]
  ]
]

-- what passes such a test is no white space
pub no_blank : (test : ℕ → Bool) → test 32 ≡ false → test 9 ≡ false → test 13 ≡ false → test 10 ≡ false → (b : ℕ) → test b ≡ true → is_blank b ≡ false
no_blank test space tab return feed b passes =
    false_from_ne_true (is_blank b) (λ blank. true≢false (sym passes ∙ blank_fails test space tab return feed b blank))

value_rises : (digits : List ℕ) (value : ℕ) → value ≤ value_behind value digits
value_rises [] value = omega arith
value_rises (b ∷ digits) value = omega (arith, value_rises digits (value * 10 + (b - 48)))

digits_read : (holder : Holder) (digits : List ℕ) (count value : ℕ) → Every is_digit digits → count + length digits ≤ 5
    → 0 < value_behind value digits → value_behind value digits ≤ 10000 → (rest : List ℕ)
    → outcome (Digits holder count value) (digits · rest) ≡ outcome (Digits holder (count + length digits) (value_behind value digits)) rest
digits_read holder [] count value all few least most rest = let e : count + 0 ≡ count = omega arith in rw e refl
digits_read holder (b ∷ digits) count value all few least most rest =
    let more = value * 10 + (b - 48) in
    let within : leb (count + 1) 5 ≡ true = search (arith, few) in
    let below : leb more 10000 ≡ true = search (arith, most, value_rises digits more) in
    let e : count + suc (length digits) ≡ count + 1 + length digits = omega arith in
    rw (all.0, within, below, positive digits more count few least, e)
    (digits_read holder digits (count + 1) more all.1 (omega (arith, few)) least most rest)
  where
    positive : (digits : List ℕ) (more count : ℕ) → count + suc (length digits) ≤ 5 → 0 < value_behind more digits → (ltb (count + 1) 5 || ltb 0 more) ≡ true
    positive [] more count few least = let some : ltb 0 more ≡ true = search (arith, least) in rw some (or_true (ltb (count + 1) 5))
      where
        or_true : (t : Bool) → (t || true) ≡ true
        or_true true = refl
        or_true false = refl
    positive (b ∷ digits) more count few least = let more : ltb (count + 1) 5 ≡ true = search (arith, few) in rw more refl

digits_end : (holder : Holder) (count value : ℕ) → 0 < value → (after : List ℕ) → IsGap after → (rest : List ℕ)
    → outcome (Digits holder count value) (after · (60 ∷ rest)) ≡ outcome (Ending (with_number holder value) PartNumber) (after · (60 ∷ rest))
digits_end holder count value some [] gap rest = let positive : ltb 0 value ≡ true = search (arith, some) in rw positive refl
digits_end holder count value some (b ∷ after) gap rest =
    let positive : ltb 0 value ≡ true = search (arith, some) in
    let other : is_digit b ≡ false = blank_fails is_digit refl refl refl refl b gap.0 in
    rw (other, positive, gap.0) refl

pub number_read : (holder : Holder) → naming holder (codes "PartNumber") ≡ Awaited PartNumber → (gap before digits after : List ℕ)
    → IsGap gap → IsGap before → IsNumber digits → IsGap after → (rest : List ℕ)
    → outcome (Inside holder) (number_text gap before digits after rest) ≡ outcome (Inside (with_number holder (number_of digits))) rest
number_read holder awaited gap before digits after g b n a rest =
    let last = after · codes "</PartNumber>" · rest in
    gap_read (Inside holder) refl gap g (codes "<PartNumber>" · before · digits · last)
    ∙ rw awaited refl
    ∙ gap_read (Awaiting holder PartNumber) refl before b (digits · last)
    ∙ awaiting_number holder (digits · last) (front digits n.decimal n.least)
    ∙ digits_read holder digits 0 0 n.decimal (omega (arith, n.few)) n.least n.most last
    ∙ digits_end holder (0 + length digits) (number_of digits) n.least after a (codes "/PartNumber>" · rest)
    ∙ gap_read (Ending (with_number holder (number_of digits)) PartNumber) refl after a (codes "</PartNumber>" · rest)
  where
    front : (digits : List ℕ) → Every is_digit digits → 1 ≤ number_of digits → NoBlank (digits · (after · codes "</PartNumber>" · rest))
    front [] all some = absurd (omega (arith, some))
    front (b ∷ digits) all some = no_blank is_digit refl refl refl refl b all.0

hex_read : (holder : Holder) (quotation : Quotation) (digits front : List ℕ) → Every is_hex_digit digits → length front + length digits ≤ 32 → (rest : List ℕ)
    → outcome (behind_hex holder quotation front) (digits · rest) ≡ outcome (behind_hex holder quotation (front ++ digits)) rest
hex_read holder quotation [] front all few rest = rw append-nil refl
hex_read holder quotation (b ∷ digits) front all few rest =
    let short : eqb (length front) 32 ≡ false = ne_eqb (length front) 32 (λ e. omega (arith, e, few)) in
    rw (short, all.0)
    (hex_read holder quotation digits (front ++ b ∷ []) all.1 (omega (arith, few, length_push front b)) rest
    ∙ ap (λ (digits : List ℕ). outcome (behind_hex holder quotation digits) rest) (append_assoc front (b ∷ []) digits))

quote_read : (holder : Holder) (quotation : Quotation) (digits rest : List ℕ) → IsDigest digits
    → outcome (Awaiting holder ETag) (quote_text quotation · digits · rest) ≡ outcome (Hex holder quotation []) (digits · rest)
quote_read holder Bare [] rest is = absurd (omega (arith, is.size))
quote_read holder Bare (b ∷ digits) rest is =
    awaiting_hex holder (b ∷ (digits · rest)) (no_blank is_hex_digit refl refl refl refl b is.hex.0) (omega arith) is.hex.0
quote_read holder Plain digits rest is = refl
quote_read holder Named digits rest is = refl
quote_read holder Numbered digits rest is = refl

pub etag_read : (holder : Holder) → naming holder (codes "ETag") ≡ Awaited ETag → (gap before : List ℕ) (quotation : Quotation) (digits after : List ℕ)
    → IsGap gap → IsGap before → IsDigest digits → IsGap after → (rest : List ℕ)
    → outcome (Inside holder) (etag_text gap before quotation digits after rest) ≡ outcome (Inside (with_md5 holder (md5_of digits))) rest
etag_read holder awaited gap before quotation digits after g b d a rest =
    let last = after · codes "</ETag>" · rest in
    let closed = quote_text quotation · last in
    let full : eqb (length digits) 32 ≡ true = search (arith, d.size) in
    let ending = Ending (with_md5 holder (md5_of digits)) ETag in
    gap_read (Inside holder) refl gap g (codes "<ETag>" · before · quote_text quotation · digits · closed)
    ∙ rw awaited refl
    ∙ gap_read (Awaiting holder ETag) refl before b (quote_text quotation · digits · closed)
    ∙ quote_read holder quotation digits closed d
    ∙ hex_read holder quotation digits [] d.hex (omega (arith, d.size)) closed
    ∙ rw full (outcome-due (quote_text quotation) ending last)
    ∙ gap_read ending refl after a (codes "</ETag>" · rest)

items_read : (parts : List PartRef) (items : List Item) (number : Option ℕ) (md5 : Option (List ℕ)) (n : ℕ) (d : List ℕ) → AreItems items
    → option_to_list number ++ numbers items ≡ n ∷ [] → option_to_list md5 ++ digests items ≡ d ∷ [] → (rest : List ℕ)
    → outcome (Inside (Part parts number md5)) (items_text items rest) ≡ outcome (Inside (Part parts (Some n) (Some d))) rest
items_read parts [] number md5 n d is one_number one_md5 rest =
    rw (only number n one_number, only md5 d one_md5) refl
  where
    only : {A : Type 0} (o : Option A) (x : A) → option_to_list o ++ [] ≡ x ∷ [] → o ≡ Some x
    only None x e = absurd (no_cons e)
      where
        no_cons : [] ≡ x ∷ [] → ⊥
        no_cons e = grind arith
    only (Some y) x e = grind arith
items_read parts (Number gap before digits after ∷ items) None md5 n d is one_number one_md5 rest =
    number_read (Part parts None md5) refl gap before digits after is.0.0 is.0.1 is.0.2 is.0.3 (items_text items rest)
    ∙ items_read parts items (Some (number_of digits)) md5 n d is.1 one_number one_md5 rest
items_read parts (Number gap before digits after ∷ items) (Some number) md5 n d is one_number one_md5 rest = absurd (two number (number_of digits) (numbers items) n one_number)
  where
    two : (a b : ℕ) (others : List ℕ) (c : ℕ) → a ∷ b ∷ others ≡ c ∷ [] → ⊥
    two a b others c e = grind arith
items_read parts (Etag gap before quotation digits after ∷ items) number None n d is one_number one_md5 rest =
    etag_read (Part parts number None) refl gap before quotation digits after is.0.0 is.0.1 is.0.2 is.0.3 (items_text items rest)
    ∙ items_read parts items number (Some (md5_of digits)) n d is.1 one_number one_md5 rest
items_read parts (Etag gap before quotation digits after ∷ items) number (Some md5) n d is one_number one_md5 rest = absurd (two md5 (md5_of digits) (digests items) d one_md5)
  where
    two : (a b : List ℕ) (others : List (List ℕ)) (c : List ℕ) → a ∷ b ∷ others ≡ c ∷ [] → ⊥
    two a b others c e = grind arith
items_read parts (Other passed ∷ items) number md5 n d is one_number one_md5 rest =
    passed_read (Part parts number md5) passed is.0.0
    (rw (differs passed.name (codes "PartNumber") is.0.1, differs passed.name (codes "ETag") is.0.2) refl) (items_text items rest)
    ∙ items_read parts items number md5 n d is.1 one_number one_md5 rest
  where
    differs : (a b : List ℕ) → a ≢ b → bytes_eq a b ≡ false
    differs a b other = false_from_ne_true (bytes_eq a b) (λ same. other ((bytes_eq-Decides a b).0 same))

part_read : (parts : List PartRef) (tree : PartTree) (part : PartRef) → SaysPart tree part → (rest : List ℕ)
    → outcome (Between parts) (part_text tree rest) ≡ outcome (Between (parts ++ part ∷ [])) rest
part_read parts tree part is rest =
    let last = tree.last_gap · codes "</Part>" · rest in
    gap_read (Between parts) refl tree.gap is.gap (codes "<Part>" · items_text tree.items last)
    ∙ items_read parts tree.items None None part.number part.md5 is.items is.number is.md5 last
    ∙ gap_read (Inside (Part parts (Some part.number) (Some part.md5))) refl tree.last_gap is.last_gap (codes "</Part>" · rest)

pub parts_read : (trees : List PartTree) (parts front : List PartRef) → SayParts trees parts → (rest : List ℕ)
    → outcome (Between front) (parts_text trees rest) ≡ outcome (Between (front ++ parts)) rest
parts_read [] [] front is rest = rw append-nil refl
parts_read [] (part ∷ parts) front is rest = absurd is
parts_read (tree ∷ trees) [] front is rest = absurd is
parts_read (tree ∷ trees) (part ∷ parts) front is rest =
    part_read front tree part is.0 (parts_text trees rest)
    ∙ parts_read trees parts (front ++ part ∷ []) is.1 rest
    ∙ ap (λ (parts : List PartRef). outcome (Between parts) rest) (append_assoc front (part ∷ []) parts)
