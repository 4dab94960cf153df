-- What stands before a root's content, in both directions.
use Rattle.std.proofs.Common.{◌≡◌, refl, sym, ◌∙◌, ap, subst, ℕ, inl, inr, Bool, true, false, not, eqb, cond, List, [], ◌∷◌, length, codes, Option, Some, None, arith}
use Rattle.std.proofs.lemmas.Bool.{ne_eqb}
use Rattle.std.proofs.lemmas.Bool.Decides.{eqb_tells}
use Rattle.s3_docs.specs.declared.prologue.Root.{Root}
use Rattle.s3_docs.specs.declared.prologue.Root.TheVariants.{CompleteMultipartUpload, VersioningConfiguration}
use Rattle.s3_docs.specs.Bytes.{is_blank}
use Rattle.s3_docs.specs.Machine.{Value, Start, Opened, Declaration, Mark, Before, Rooted, Spaced, Quote, Quoted, due, within, initial, behind_initial, root_name}
use Rattle.s3_docs.specs.Outcomes.{Says, outcome, goes_on}
use Rattle.s3_docs.specs.Reads.{NoBlank}
use Rattle.s3_docs.specs.Grammar.{◌·◌, Every, IsGap, Attribute, Prologue, declaration_text, attribute_text, prologue_text, HasNoMark, is_quote, IsDeclaration, IsAttribute, IsPrologue}
use Rattle.s3_docs.proofs.Forward.{gap_read}
use Rattle.s3_docs.proofs.ForwardParts.{blank_fails}
use Rattle.s3_docs.proofs.Back.{not_failed, gap_back, open_back, due_back}

not_true : (t : Bool) → not t ≡ true → t ≡ false
not_true true e = sym e
not_true false e = refl

quoted_read : (root : Root) (quote : ℕ) (text : List ℕ) → Every (λ b. not (eqb b quote)) text → (rest : List ℕ)
    → outcome (Quoted root quote) (text · (quote ∷ 62 ∷ rest)) ≡ outcome (within root) rest
quoted_read root quote [] all rest = let same : eqb quote quote ≡ true = search arith in rw same refl
quoted_read root quote (b ∷ text) all rest = rw (not_true (eqb b quote) all.0) (quoted_read root quote text all.1 rest)

attribute_read : (root : Root) (attribute : Option Attribute) → IsAttribute attribute → (rest : List ℕ)
    → outcome (Rooted root) (attribute_text attribute (62 ∷ rest)) ≡ outcome (within root) rest
attribute_read root None is rest = refl
attribute_read root (Some attribute) is rest =
    let behind = attribute.quote ∷ (attribute.value · (attribute.quote ∷ 62 ∷ rest)) in
    let first : outcome (Rooted root) (attribute.first ∷ (attribute.gap · codes "xmlns=" · behind)) ≡ outcome (Spaced root) (attribute.gap · codes "xmlns=" · behind) =
    rw (blank_fails (λ b. eqb b 62) refl refl refl refl attribute.first is.0, is.0) refl in
    let quote : outcome (Quote root) behind ≡ outcome (Quoted root attribute.quote) (attribute.value · (attribute.quote ∷ 62 ∷ rest)) = rw is.2 refl in
    first ∙ gap_read (Spaced root) refl attribute.gap is.1 (codes "xmlns=" · behind) ∙ quote ∙ quoted_read root attribute.quote attribute.value is.3 rest

named_read : (root : Root) (rest : List ℕ) → outcome (Before root) (codes "<" · root_name root · rest) ≡ outcome (Rooted root) rest
named_read CompleteMultipartUpload rest = refl
named_read VersioningConfiguration rest = refl

mark_read : (root : Root) (c : ℕ) (bytes : List ℕ) → (c ≡ 62 → ⊥) → outcome (Mark root) (c ∷ bytes) ≡ outcome (Declaration root) (c ∷ bytes)
mark_read root c bytes other = rw (ne_eqb c 62 other) refl

declaration_read : (root : Root) (inside : List ℕ) → HasNoMark inside → (rest : List ℕ) → outcome (Declaration root) (inside · codes "?>" · rest) ≡ outcome (Before root) rest
declaration_read root [] none rest = refl
declaration_read root (b ∷ []) none rest = elim (eqb_tells b 63) [ inl same ↦ rw same.0 refl | inr other ↦ rw other.0 refl ]
declaration_read root (b ∷ c ∷ inside) none rest = elim (eqb_tells b 63) [
  | inl same ↦ rw same.0 (mark_read root c (inside · codes "?>" · rest) (λ e. none.0 (same.1, e)) ∙ declaration_read root (c ∷ inside) none.1 rest)
  | inr other ↦ rw other.0 (declaration_read root (c ∷ inside) none.1 rest)
]

plain_read : (root : Root) (gap rest : List ℕ) → IsGap gap → outcome (Start root) (gap · codes "<" · root_name root · rest) ≡ outcome (Rooted root) rest
plain_read CompleteMultipartUpload [] rest is = refl
plain_read VersioningConfiguration [] rest is = refl
plain_read root (b ∷ gap) rest is =
    let first : outcome (Start root) (b ∷ (gap · codes "<" · root_name root · rest)) ≡ outcome (Before root) (gap · codes "<" · root_name root · rest) = rw is.0 refl in
    first ∙ gap_read (Before root) refl gap is.1 (codes "<" · root_name root · rest) ∙ named_read root rest

declared_read : (root : Root) (rest : List ℕ) → outcome (Start root) (codes "<?xml" · rest) ≡ outcome (Declaration root) rest
declared_read CompleteMultipartUpload rest = refl
declared_read VersioningConfiguration rest = refl

pub prologue_read : (root : Root) (prologue : Prologue) → IsPrologue prologue → (rest : List ℕ)
    → outcome (Start root) (prologue_text root prologue rest) ≡ outcome (within root) rest
prologue_read root prologue is rest = by_declaration prologue.declaration is.declaration ∙ attribute_read root prologue.attribute is.attribute rest
  where
    tag : List ℕ
    tag = attribute_text prologue.attribute (62 ∷ rest)

    by_declaration : (declaration : Option (List ℕ)) → IsDeclaration declaration
        → outcome (Start root) (declaration_text declaration (prologue.gap · codes "<" · root_name root · attribute_text prologue.attribute (62 ∷ rest)))
        ≡ outcome (Rooted root) (attribute_text prologue.attribute (62 ∷ rest))
    by_declaration None none = plain_read root prologue.gap (attribute_text prologue.attribute (62 ∷ rest)) is.gap
    by_declaration (Some inside) none =
        declared_read root (inside · codes "?>" · prologue.gap · codes "<" · root_name root · attribute_text prologue.attribute (62 ∷ rest))
        ∙ declaration_read root inside none (prologue.gap · codes "<" · root_name root · attribute_text prologue.attribute (62 ∷ rest))
        ∙ gap_read (Before root) refl prologue.gap is.gap (codes "<" · root_name root · attribute_text prologue.attribute (62 ∷ rest))
        ∙ named_read root (attribute_text prologue.attribute (62 ∷ rest))

quoted_back : (root : Root) (quote : ℕ) (value : Value) (bytes : List ℕ) → outcome (Quoted root quote) bytes ≡ Says value
    → (text rest : List ℕ) × (bytes ≡ text · (quote ∷ 62 ∷ rest)) × Every (λ b. not (eqb b quote)) text × (outcome (within root) rest ≡ Says value)
quoted_back root quote value [] goes = not_failed 0 value goes
quoted_back root quote value (b ∷ bytes) goes = elim (eqb_tells b quote) [
  | inl same ↦
      let closed = due_back (codes ">") (within root) value bytes (rw same.0 at goes) in
      ([], closed.0, ap (◌∷ bytes) same.1 ∙ ap (quote ∷◌) closed.1, tt, closed.2)
  | inr other ↦
      let more = quoted_back root quote value bytes (rw other.0 at goes) in
      (b ∷ more.0, more.1, ap (b ∷◌) more.2, (rw other.0 refl, more.3), more.4)
]

-- the rest of a root's start tag
record TagBack (root : Root) (bytes : List ℕ) (value : Value) : Type 0 where
  attribute : Option Attribute
  rest : List ℕ
  whole : bytes ≡ attribute_text attribute (62 ∷ rest)
  is : IsAttribute attribute
  goes : outcome (within root) rest ≡ Says value

quote_tag : (root : Root) (value : Value) (bytes gap rest : List ℕ) (first : ℕ) → is_blank first ≡ true → IsGap gap
    → bytes ≡ first ∷ (gap · codes "xmlns=" · rest) → outcome (Quote root) rest ≡ Says value → TagBack root bytes value
quote_tag root value bytes gap [] first blank g whole goes = not_failed 0 value goes
quote_tag root value bytes gap (q ∷ rest) first blank g whole goes = by_quote (is_quote q) refl
  where
    by_quote : (test : Bool) → is_quote q ≡ test → TagBack root bytes value
    by_quote true is =
        let text = quoted_back root q value rest (rw is at goes) in
        record {
          attribute = Some (record { first = first; gap = gap; quote = q; value = text.0 });
          rest = text.1;
          whole = whole ∙ ap (λ (rest : List ℕ). first ∷ (gap · codes "xmlns=" · (q ∷ rest))) text.2;
          is = (blank, g, is, text.3);
          goes = text.4;
        }
    by_quote false is = not_failed (length (q ∷ rest)) value (rw is at goes)

spaced_tag : (root : Root) (value : Value) (bytes gap rest : List ℕ) (first : ℕ) → is_blank first ≡ true → IsGap gap → NoBlank rest
    → bytes ≡ first ∷ (gap · rest) → outcome (Spaced root) rest ≡ Says value → TagBack root bytes value
spaced_tag root value bytes gap [] first blank g no_blank whole goes = not_failed 0 value goes
spaced_tag root value bytes gap (b ∷ rest) first blank g no_blank whole goes = elim (eqb_tells b 120) [
  | inl x ↦
      let more = due_back (codes "mlns=") (Quote root) value rest (rw (no_blank, x.0) at goes) in
      quote_tag root value bytes gap more.0 first blank g
      (whole ∙ ap (λ (rest : List ℕ). first ∷ (gap · rest)) (ap (◌∷ rest) x.1 ∙ ap (120 ∷◌) more.1)) more.2
  | inr other ↦ not_failed (length (b ∷ rest)) value (rw (no_blank, other.0) at goes)
]

tag_back : (root : Root) (value : Value) (bytes : List ℕ) → outcome (Rooted root) bytes ≡ Says value → TagBack root bytes value
tag_back root value [] goes = not_failed 0 value goes
tag_back root value (b ∷ bytes) goes = elim (eqb_tells b 62) [
  | inl last ↦ record { attribute = None; rest = bytes; whole = ap (◌∷ bytes) last.1; is = tt; goes = rw last.0 at goes }
  | inr other ↦ by_blank (is_blank b) refl (rw other.0 at goes)
]
  where
    by_blank : (test : Bool) → is_blank b ≡ test → goes_on (cond (is_blank b) (Some (Spaced root)) None) (λ next. outcome next bytes) (length (b ∷ bytes)) ≡ Says value
        → TagBack root (b ∷ bytes) value
    by_blank true is goes =
        let front = gap_back (Spaced root) refl value bytes (rw is at goes) in
        spaced_tag root value (b ∷ bytes) front.gap front.rest b is front.is front.no_blank (ap (b ∷◌) front.whole) front.goes
    by_blank false is goes = not_failed (length (b ∷ bytes)) value (rw is at goes)

-- white space and a root's start tag
record BeforeBack (root : Root) (bytes : List ℕ) (value : Value) : Type 0 where
  gap : List ℕ
  attribute : Option Attribute
  rest : List ℕ
  whole : bytes ≡ gap · codes "<" · root_name root · attribute_text attribute (62 ∷ rest)
  gap_is : IsGap gap
  is : IsAttribute attribute
  goes : outcome (within root) rest ≡ Says value

before_back : (root : Root) (value : Value) (bytes : List ℕ) → outcome (Before root) bytes ≡ Says value → BeforeBack root bytes value
before_back root value bytes goes =
    let start = open_back (Before root) (due (root_name root) (Rooted root)) (refl, refl, λ b. refl) value bytes goes in
    let name = due_back (root_name root) (Rooted root) value start.rest start.goes in
    let tag = tag_back root value name.0 name.2 in
    record {
      gap = start.gap;
      attribute = tag.attribute;
      rest = tag.rest;
      whole = start.whole ∙ ap (λ (rest : List ℕ). start.gap · (60 ∷ rest)) (name.1 ∙ ap (root_name root ·◌) tag.whole);
      gap_is = start.is;
      is = tag.is;
      goes = tag.goes;
    }

declaration_back : (root : Root) (value : Value) (bytes : List ℕ) → outcome (Declaration root) bytes ≡ Says value
    → (inside rest : List ℕ) × (bytes ≡ inside · codes "?>" · rest) × HasNoMark inside × (outcome (Before root) rest ≡ Says value)
declaration_back root value [] goes = not_failed 0 value goes
declaration_back root value (b ∷ []) goes = elim (eqb_tells b 63) [ inl same ↦ not_failed 0 value (rw same.0 at goes) | inr other ↦ not_failed 0 value (rw other.0 at goes) ]
declaration_back root value (b ∷ c ∷ bytes) goes = elim (eqb_tells b 63) [
  | inl same ↦ elim (eqb_tells c 62) [
    | inl last ↦ ([], bytes, ap (λ (b : ℕ). b ∷ c ∷ bytes) same.1 ∙ ap (λ (c : ℕ). 63 ∷ c ∷ bytes) last.1, tt, rw (same.0, last.0) at goes)
    | inr other ↦
        let marked : outcome (Mark root) (c ∷ bytes) ≡ Says value = rw same.0 at goes in
        let more = declaration_back root value (c ∷ bytes) (sym (mark_read root c bytes other.1) ∙ marked) in
        (b ∷ more.0, more.1, ap (b ∷◌) more.2, one_more more.0 more.1 more.2 (λ c' is e. other.1 (is ∙ e.1)) more.3, more.4)
  ]
  | inr other ↦
      let more = declaration_back root value (c ∷ bytes) (rw other.0 at goes) in
      (b ∷ more.0, more.1, ap (b ∷◌) more.2, one_more more.0 more.1 more.2 (λ c' is e. other.1 e.0) more.3, more.4)
]
  where
    one_more : (inside rest : List ℕ) → c ∷ bytes ≡ inside · codes "?>" · rest → ((c' : ℕ) → c ≡ c' → (b ≡ 63) × (c' ≡ 62) → ⊥) → HasNoMark inside → HasNoMark (b ∷ inside)
    one_more [] rest whole no_mark none = tt
    one_more (c' ∷ inside) rest whole no_mark none = (no_mark c' (cc), none)

-- all that stands before a root's content
pub record PrologueBack (root : Root) (bytes : List ℕ) (value : Value) : Type 0 where
  pub prologue : Prologue
  pub rest : List ℕ
  pub whole : bytes ≡ prologue_text root prologue rest
  pub is : IsPrologue prologue
  pub goes : outcome (within root) rest ≡ Says value

plain_prologue : (root : Root) (value : Value) (bytes : List ℕ) → BeforeBack root bytes value → PrologueBack root bytes value
plain_prologue root value bytes before = record {
  prologue = record { declaration = None; gap = before.gap; attribute = before.attribute };
  rest = before.rest;
  whole = before.whole;
  is = record { declaration = tt; gap = before.gap_is; attribute = before.is };
  goes = before.goes;
}

initial_tells : (root : Root) → eqb 63 (initial root) ≡ false
initial_tells CompleteMultipartUpload = refl
initial_tells VersioningConfiguration = refl

opened_back : (root : Root) (value : Value) (bytes : List ℕ) → outcome (Opened root) bytes ≡ Says value → PrologueBack root (60 ∷ bytes) value
opened_back root value [] goes = not_failed 0 value goes
opened_back root value (b ∷ bytes) goes = elim (eqb_tells b (initial root)) [
  | inl same ↦
      let name = due_back (behind_initial root) (Rooted root) value bytes (rw same.0 at goes) in
      let tag = tag_back root value name.0 name.2 in
      plain_prologue root value (60 ∷ b ∷ bytes) (record {
        gap = [];
        attribute = tag.attribute;
        rest = tag.rest;
        whole = ap (60 ∷◌) (ap (◌∷ bytes) same.1 ∙ ap (initial root ∷◌) (name.1 ∙ ap (behind_initial root ·◌) tag.whole));
        gap_is = tt;
        is = tag.is;
        goes = tag.goes;
      })
  | inr other ↦ elim (eqb_tells b 63) [
    | inl mark ↦
        let xml = due_back (codes "xml") (Declaration root) value bytes (rw (other.0, mark.0) at goes) in
        let inside = declaration_back root value xml.0 xml.2 in
        let before = before_back root value inside.1 inside.4 in
        record {
          prologue = record { declaration = Some inside.0; gap = before.gap; attribute = before.attribute };
          rest = before.rest;
          whole = ap (60 ∷◌) (ap (◌∷ bytes) mark.1 ∙ ap (63 ∷◌) (xml.1 ∙ ap (codes "xml" ·◌) (inside.2 ∙ ap (λ (rest : List ℕ). inside.0 · codes "?>" · rest) before.whole)));
          is = record { declaration = inside.3; gap = before.gap_is; attribute = before.is };
          goes = before.goes;
        }
    | inr neither ↦ not_failed (length (b ∷ bytes)) value (rw (other.0, neither.0) at goes)
  ]
]

pub prologue_back : (root : Root) (value : Value) (bytes : List ℕ) → outcome (Start root) bytes ≡ Says value → PrologueBack root bytes value
prologue_back root value [] goes = not_failed 0 value goes
prologue_back root value (b ∷ bytes) goes = by_blank (is_blank b) refl
  where
    by_blank : (test : Bool) → is_blank b ≡ test → PrologueBack root (b ∷ bytes) value
    by_blank true is =
        let begun : outcome (Before root) bytes ≡ Says value = rw is at goes in
        let before = before_back root value bytes begun in
        plain_prologue root value (b ∷ bytes) (record {
          gap = b ∷ before.gap;
          attribute = before.attribute;
          rest = before.rest;
          whole = ap (b ∷◌) before.whole;
          gap_is = (is, before.gap_is);
          is = before.is;
          goes = before.goes;
        })
    by_blank false is = elim (eqb_tells b 60) [
      | inl same ↦ subst (λ (b : ℕ). PrologueBack root (b ∷ bytes) value) (sym same.1) (opened_back root value bytes (rw (is, same.0) at goes))
      | inr other ↦ not_failed (length (b ∷ bytes)) value (rw (is, other.0) at goes)
    ]
