-- What is read is the bytes of a tree: the pieces that all documents have.
use Rattle.std.proofs.Common.{◌≡◌, refl, sym, ◌∙◌, ap, ℕ, ◌⊎◌, inl, inr, Bool, true, false, not, eqb, cond, List, [], ◌∷◌, ◌++◌, length, codes, Option, Some, None, append_assoc, arith}
use Rattle.std.proofs.lemmas.Bool.Decides.{eqb_tells}
use Rattle.std.proofs.lemmas.List.{append-nil}
use Rattle.s3_docs.specs.Bytes.{is_blank, is_letter, is_name_byte}
use Rattle.s3_docs.specs.Machine.{Value, Holder, State, Expect, Inside, Inner, Name, Text, due, end_tag, is_gap, moves, step, said, closes, naming, behind_name, Naming}
use Rattle.s3_docs.specs.Outcomes.{Says, Fails, outcome, goes_on}
use Rattle.s3_docs.specs.Reads.{NoBlank, NoNameByte, Opens}
use Rattle.s3_docs.specs.Grammar.{◌·◌, Every, IsGap, IsName, content_text, HoldsNoTag}

pub not_failed : {A : Type 0} → (left : ℕ) (value : Value) → Fails left ≡ Says value → A
not_failed left value e = absurd (never left value e)
  where
    never : (left : ℕ) (value : Value) → Fails left ≡ Says value → ⊥
    never left value e = grind arith

-- white space, and what follows it
pub record Gapped (state : State) (bytes : List ℕ) (value : Value) : Type 0 where
  pub gap : List ℕ
  pub rest : List ℕ
  pub whole : bytes ≡ gap · rest
  pub is : IsGap gap
  pub no_blank : NoBlank rest
  pub goes : outcome state rest ≡ Says value

pub gap_back : (state : State) → is_gap state ≡ true → (value : Value) (bytes : List ℕ) → outcome state bytes ≡ Says value → Gapped state bytes value
gap_back state gaps value [] goes = record { gap = []; rest = []; whole = refl; is = tt; no_blank = tt; goes = goes }
gap_back state gaps value (b ∷ bytes) goes = by_blank (is_blank b) refl (λ more. gap_back state gaps value bytes more)
  where
    by_blank : (blank : Bool) → is_blank b ≡ blank → (outcome state bytes ≡ Says value → Gapped state bytes value) → Gapped state (b ∷ bytes) value
    by_blank true is later =
        let more = later (rw (gaps, is) at goes) in
        record { gap = b ∷ more.gap; rest = more.rest; whole = ap (b ∷◌) more.whole; is = (is, more.is); no_blank = more.no_blank; goes = more.goes }
    by_blank false is later = record { gap = []; rest = b ∷ bytes; whole = refl; is = tt; no_blank = is; goes = goes }

-- white space and `<`, and what follows them
pub record Opened (next : State) (bytes : List ℕ) (value : Value) : Type 0 where
  pub gap : List ℕ
  pub rest : List ℕ
  pub whole : bytes ≡ gap · (60 ∷ rest)
  pub is : IsGap gap
  pub goes : outcome next rest ≡ Says value

pub open_back : (state next : State) → Opens state next → (value : Value) (bytes : List ℕ) → outcome state bytes ≡ Says value → Opened next bytes value
open_back state next opens value bytes goes =
    let front = gap_back state opens.0 value bytes goes in
    at_rest front.gap front.rest front.whole front.is front.no_blank front.goes
  where
    at_rest : (gap rest : List ℕ) → bytes ≡ gap · rest → IsGap gap → NoBlank rest → outcome state rest ≡ Says value → Opened next bytes value
    at_rest gap [] whole is no_blank goes = not_failed 0 value (rw opens.1 at goes)
    at_rest gap (b ∷ rest) whole is no_blank goes =
        let moved : goes_on (cond (eqb b 60) (Some next) None) (λ next. outcome next rest) (length (b ∷ rest)) ≡ Says value =
        rw (no_blank, opens.0, opens.2 b) at goes in
        elim (eqb_tells b 60) [
          | inl same ↦ record { gap = gap; rest = rest; whole = whole ∙ ap (λ (b : ℕ). gap · (b ∷ rest)) same.1; is = is; goes = rw same.0 at moved }
          | inr other ↦ not_failed (length (b ∷ rest)) value (rw other.0 at moved)
        ]

pub due_back : (text : List ℕ) (next : State) (value : Value) (bytes : List ℕ) → outcome (due text next) bytes ≡ Says value
    → (rest : List ℕ) × (bytes ≡ text · rest) × (outcome next rest ≡ Says value)
due_back [] next value bytes goes = (bytes, refl, goes)
due_back (b ∷ text) next value [] goes = not_failed 0 value goes
due_back (b ∷ text) next value (c ∷ bytes) goes = elim (eqb_tells c b) [
  | inl same ↦
      let more = due_back text next value bytes (rw same.0 at goes) in
      (more.0, ap (◌∷ bytes) same.1 ∙ ap (b ∷◌) more.1, more.2)
  | inr other ↦ not_failed (length (c ∷ bytes)) value (rw other.0 at goes)
]

-- the rest of a name, and what follows it
pub record Named (holder : Holder) (front bytes : List ℕ) (value : Value) : Type 0 where
  pub name : List ℕ
  pub rest : List ℕ
  pub whole : bytes ≡ name · rest
  pub is : Every is_name_byte name
  pub no_name : NoNameByte rest
  pub goes : outcome (Name holder (front ++ name)) rest ≡ Says value

pub name_back : (holder : Holder) (value : Value) (bytes front : List ℕ) → outcome (Name holder front) bytes ≡ Says value → Named holder front bytes value
name_back holder value [] front goes = not_failed 0 value goes
name_back holder value (b ∷ bytes) front goes = by_byte (is_name_byte b) refl (λ more. name_back holder value bytes (front ++ b ∷ []) more)
  where
    by_byte : (test : Bool) → is_name_byte b ≡ test → (outcome (Name holder (front ++ b ∷ [])) bytes ≡ Says value → Named holder (front ++ b ∷ []) bytes value)
        → Named holder front (b ∷ bytes) value
    by_byte true is later =
        let more = later (rw is at goes) in
        record {
          name = b ∷ more.name;
          rest = more.rest;
          whole = ap (b ∷◌) more.whole;
          is = (is, more.is);
          no_name = more.no_name;
          goes = ap (λ (name : List ℕ). outcome (Name holder name) more.rest) (sym (append_assoc front (b ∷ []) more.name)) ∙ more.goes;
        }
    by_byte false is later =
        record {
          name = [];
          rest = b ∷ bytes;
          whole = refl;
          is = tt;
          no_name = is;
          goes = ap (λ (name : List ℕ). outcome (Name holder name) (b ∷ bytes)) (append-nil front) ∙ goes;
        }

-- a whole name behind `<`
pub record Started (holder : Holder) (bytes : List ℕ) (value : Value) : Type 0 where
  pub name : List ℕ
  pub rest : List ℕ
  pub whole : bytes ≡ name · rest
  pub is : IsName name
  pub no_name : NoNameByte rest
  pub goes : outcome (Name holder name) rest ≡ Says value

-- behind the `/` of a holder's end tag
pub record Ended (holder : Holder) (bytes : List ℕ) (value : Value) : Type 0 where
  pub rest : List ℕ
  pub whole : bytes ≡ 47 ∷ rest
  pub goes : goes_on (closes holder) (λ next. outcome next rest) (length (47 ∷ rest)) ≡ Says value

pub inner_back : (holder : Holder) (value : Value) (bytes : List ℕ) → outcome (Inner holder) bytes ≡ Says value
    → Ended holder bytes value ⊎ Started holder bytes value
inner_back holder value [] goes = not_failed 0 value goes
inner_back holder value (b ∷ bytes) goes = elim (eqb_tells b 47) [
  | inl same ↦ inl (record { rest = bytes; whole = ap (◌∷ bytes) same.1; goes = rw same.0 at goes })
  | inr other ↦ inr (by_letter (is_letter b) refl (rw other.0 at goes))
]
  where
    by_letter : (test : Bool) → is_letter b ≡ test
        → goes_on (cond (is_letter b) (Some (Name holder (b ∷ []))) None) (λ next. outcome next bytes) (length (b ∷ bytes)) ≡ Says value → Started holder (b ∷ bytes) value
    by_letter true is goes =
        let more = name_back holder value bytes (b ∷ []) (rw is at goes) in
        record { name = b ∷ more.name; rest = more.rest; whole = ap (b ∷◌) more.whole; is = (is, more.is); no_name = more.no_name; goes = more.goes }
    by_letter false is goes = not_failed (length (b ∷ bytes)) value (rw is at goes)

-- a text and the end tag behind it
pub text_back : (holder : Holder) (name : List ℕ) (value : Value) (bytes : List ℕ) → outcome (Text holder name) bytes ≡ Says value
    → (text rest : List ℕ) × (bytes ≡ text · codes "</" · name · codes ">" · rest) × Every (λ b. not (eqb b 60)) text × (outcome (Inside holder) rest ≡ Says value)
text_back holder name value [] goes = not_failed 0 value goes
text_back holder name value (b ∷ bytes) goes = elim (eqb_tells b 60) [
  | inl same ↦
      let slash = due_back (codes "/") (due name (Expect 62 [] (Inside holder))) value bytes (rw same.0 at goes) in
      let named = due_back name (Expect 62 [] (Inside holder)) value slash.0 slash.2 in
      let closed = due_back (codes ">") (Inside holder) value named.0 named.2 in
      ([], closed.0, ap (◌∷ bytes) same.1 ∙ ap (60 ∷◌) (slash.1 ∙ ap (47 ∷◌) (named.1 ∙ ap (name ·◌) closed.1)), tt, closed.2)
  | inr other ↦
      let more = text_back holder name value bytes (rw other.0 at goes) in
      (b ∷ more.0, more.1, ap (b ∷◌) more.2, (rw other.0 refl, more.3), more.4)
]

-- the content of an element that is passed over, behind its name
pub content_back : (holder : Holder) (name : List ℕ) → naming holder name ≡ Rattle.s3_docs.specs.Machine.Other → (value : Value) (bytes : List ℕ)
    → NoNameByte bytes → outcome (Name holder name) bytes ≡ Says value
    → (text : Option (List ℕ)) × (rest : List ℕ) × (bytes ≡ content_text name text rest) × HoldsNoTag text × (outcome (Inside holder) rest ≡ Says value)
content_back holder name other value [] no_name goes = not_failed 0 value goes
content_back holder name other value (b ∷ bytes) no_name goes = elim (eqb_tells b 62) [
  | inl opening ↦
      let inside = text_back holder name value bytes (rw opening.0 at behind) in
      (Some inside.0, inside.1, ap (◌∷ bytes) opening.1 ∙ ap (62 ∷◌) inside.2, inside.3, inside.4)
  | inr closed ↦ elim (eqb_tells b 47) [
    | inl slash ↦
        let last = due_back (codes ">") (Inside holder) value bytes (rw (closed.0, slash.0) at behind) in
        (None, last.0, ap (◌∷ bytes) slash.1 ∙ ap (47 ∷◌) last.1, tt, last.2)
    | inr neither ↦ not_failed (length (b ∷ bytes)) value (rw (closed.0, neither.0) at behind)
  ]
]
  where
    behind : goes_on (behind_name Rattle.s3_docs.specs.Machine.Other holder name b) (λ next. outcome next bytes) (length (b ∷ bytes)) ≡ Says value
    behind = rw (no_name, other) at goes
