-- The bytes of a tree are read, and give what it says.
use Rattle.std.proofs.Common.{◌≡◌, refl, sym, ◌∙◌, ap, ℕ, Bool, true, false, not, eqb, List, [], ◌∷◌, ◌++◌, codes, Option, Some, None, append_assoc}
use Rattle.std.proofs.lemmas.Bool.{true≢false, ne_eqb}
use Rattle.std.proofs.lemmas.List.{append-nil}
use Rattle.s3_docs.specs.Bytes.{is_letter, is_name_byte}
use Rattle.s3_docs.specs.Machine.{Value, Holder, Part, Configuration, Quotation, Bare, Plain, Named, Numbered, Field, PartNumber, ETag, State, Expect, Inside, Inner, Name, Text, Awaiting, Ending, Digits, Reference, Hex, Between, due, end_tag, is_gap, moves, step, naming, with_number, with_md5, md5_of, quote_text, behind_hex}
use Rattle.s3_docs.specs.Outcomes.{outcome}
use Rattle.s3_docs.specs.Grammar.{◌·◌, Every, IsGap, IsName, Passed, content_text, passed_text, HoldsNoTag, IsPassed}
use Rattle.s3_docs.proofs.Live.{outcome-due}

-- white space is passed over in a gap
pub gap_read : (state : State) → is_gap state ≡ true → (gap : List ℕ) → IsGap gap → (rest : List ℕ) → outcome state (gap ++ rest) ≡ outcome state rest
gap_read state gaps [] blank rest = refl
gap_read state gaps (b ∷ gap) blank rest = rw (gaps, blank.0) (gap_read state gaps gap blank.1 rest)

pub name_read : (holder : Holder) (front name : List ℕ) → Every is_name_byte name → (rest : List ℕ)
    → outcome (Name holder front) (name ++ rest) ≡ outcome (Name holder (front ++ name)) rest
name_read holder front [] all rest = rw append-nil refl
name_read holder front (b ∷ name) all rest =
    rw all.0 (name_read holder (front ++ b ∷ []) name all.1 rest ∙ ap (λ (name : List ℕ). outcome (Name holder name) rest) (append_assoc front (b ∷ []) name))

pub text_read : (holder : Holder) (name text : List ℕ) → Every (λ b. not (eqb b 60)) text → (rest : List ℕ)
    → outcome (Text holder name) (text · codes "</" · name · codes ">" · rest) ≡ outcome (Inside holder) rest
text_read holder name [] all rest = outcome-due name (Expect 62 [] (Inside holder)) (62 ∷ rest)
text_read holder name (b ∷ text) all rest =
    let other : eqb b 60 ≡ false = not_true (eqb b 60) all.0 in
    rw other (text_read holder name text all.1 rest)
  where
    not_true : (t : Bool) → not t ≡ true → t ≡ false
    not_true true e = sym e
    not_true false e = refl

-- a name that begins with a letter, from behind `<`
pub inner_read : (holder : Holder) (name : List ℕ) → IsName name → (rest : List ℕ)
    → outcome (Inner holder) (name ++ rest) ≡ outcome (Name holder name) rest
inner_read holder [] is rest = absurd is
inner_read holder (b ∷ name) is rest =
    let no_end : eqb b 47 ≡ false = letter_no_slash b is.0 in
    rw (no_end, is.0) (name_read holder (b ∷ []) name is.1 rest)
  where
    letter_no_slash : (b : ℕ) → is_letter b ≡ true → eqb b 47 ≡ false
    letter_no_slash b letter = ne_eqb b 47 (λ e. true≢false (sym letter ∙ ap is_letter e))

pub passed_read : (holder : Holder) (passed : Passed) → IsPassed passed → naming holder passed.name ≡ Rattle.s3_docs.specs.Machine.Other → (rest : List ℕ)
    → outcome (Inside holder) (passed_text passed rest) ≡ outcome (Inside holder) rest
passed_read holder passed is other rest =
    gap_read (Inside holder) refl passed.gap is.gap (60 ∷ (passed.name · content_text passed.name passed.text rest))
    ∙ inner_read holder passed.name is.name (content_text passed.name passed.text rest)
    ∙ content_read passed.text is.text
  where
    content_read : (text : Option (List ℕ)) → HoldsNoTag text → outcome (Name holder passed.name) (content_text passed.name text rest) ≡ outcome (Inside holder) rest
    content_read None none = rw other refl
    content_read (Some text) none = rw other (text_read holder passed.name text none rest)
