-- What is read is the bytes of a tree: parts.
use Rattle.std.proofs.Common.{◌≡◌, ◌≢◌, refl, sym, ◌∙◌, ap, subst, ℕ, zero, suc, ◌<◌, ◌≤◌, inl, inr, Bool, true, false, eqb, List, [], ◌∷◌, ◌++◌, length, codes, Option, Some, None, append_assoc, arith, length-append}
use Rattle.std.specs.Str.{bytes_eq}
use Rattle.std.specs.Option.{option_to_list}
use Rattle.std.proofs.lemmas.Bool.{false≢true}
use Rattle.std.proofs.lemmas.Bool.Decides.{eqb_tells}
use Rattle.std.proofs.lemmas.List.{append-nil}
use Rattle.std.proofs.lemmas.Slice.Eq.{bytes_eq-Decides}
use Rattle.call_types.specs.declared.version.PartRef.{PartRef}
use Rattle.s3_docs.specs.Bytes.{is_blank}
use Rattle.s3_docs.specs.Machine.{Value, Parts, Holder, Part, Field, PartNumber, ETag, Awaited, Spent, Inside, Inner, Name, Awaiting, Between, Tag, After, naming, closes, closes_all, quote_text, md5_of}
use Rattle.s3_docs.specs.Outcomes.{Outcome, Says, Fails, outcome, goes_on}
use Rattle.s3_docs.specs.Reads.{NoNameByte}
use Rattle.s3_docs.specs.Grammar.{◌·◌, IsGap, IsName, Passed, content_text, passed_text, number_of, Item, Number, Etag, Other, item_text, IsItem, items_text, AreItems, numbers, digests, PartTree, part_text, parts_text, SayParts}
use Rattle.s3_docs.proofs.Back.{Opened, not_failed, open_back, due_back, inner_back, content_back}
use Rattle.s3_docs.proofs.BackValues.{number_back, etag_back}

-- a field's start tag, behind its name
pub field_back : (holder : Holder) (field : Field) (name : List ℕ) (value : Value) (rest : List ℕ) → naming holder name ≡ Awaited field → NoNameByte rest
    → outcome (Name holder name) rest ≡ Says value → (inside : List ℕ) × (rest ≡ 62 ∷ inside) × (outcome (Awaiting holder field) inside ≡ Says value)
field_back holder field name value [] awaited no_name goes = not_failed 0 value goes
field_back holder field name value (b ∷ rest) awaited no_name goes = elim (eqb_tells b 62) [
  | inl same ↦ (rest, ap (◌∷ rest) same.1, rw (no_name, awaited, same.0) at goes)
  | inr other ↦ not_failed (length (b ∷ rest)) value (rw (no_name, awaited, other.0) at goes)
]

-- no field stands twice
pub spent_back : {A : Type 0} → (holder : Holder) (name : List ℕ) (value : Value) (rest : List ℕ) → naming holder name ≡ Spent → NoNameByte rest
    → outcome (Name holder name) rest ≡ Says value → A
spent_back holder name value [] spent no_name goes = not_failed 0 value goes
spent_back holder name value (b ∷ rest) spent no_name goes = not_failed (length (b ∷ rest)) value (rw (no_name, spent) at goes)

pub behind_le : (front rest : List ℕ) → length rest ≤ length (front · rest)
behind_le front rest = omega (arith, length-append front rest)

-- an element of a Part, and what follows it
record ItemBack (parts : List PartRef) (number : Option ℕ) (md5 : Option (List ℕ)) (bytes : List ℕ) (value : Value) : Type 0 where
  item : Item
  rest : List ℕ
  next_number : Option ℕ
  next_md5 : Option (List ℕ)
  whole : bytes ≡ item_text item rest
  is : IsItem item
  same_numbers : (items : List Item) → option_to_list number ++ numbers (item ∷ items) ≡ option_to_list next_number ++ numbers items
  same_md5s : (items : List Item) → option_to_list md5 ++ digests (item ∷ items) ≡ option_to_list next_md5 ++ digests items
  goes : outcome (Inside (Part parts next_number next_md5)) rest ≡ Says value

number_item : (parts : List PartRef) (number : Option ℕ) (md5 : Option (List ℕ)) (value : Value) (bytes gap rest : List ℕ)
    → bytes ≡ gap · codes "<PartNumber" · rest → IsGap gap → NoNameByte rest → outcome (Name (Part parts number md5) (codes "PartNumber")) rest ≡ Says value
    → ItemBack parts number md5 bytes value
number_item parts (Some number) md5 value bytes gap rest whole g no_name goes = spent_back (Part parts (Some number) md5) (codes "PartNumber") value rest refl no_name goes
number_item parts None md5 value bytes gap rest whole g no_name goes =
    let field = field_back (Part parts None md5) PartNumber (codes "PartNumber") value rest refl no_name goes in
    let n = number_back (Part parts None md5) value field.0 field.2 in
    record {
      item = Number gap n.0 n.1 n.2;
      rest = n.3;
      next_number = Some (number_of n.1);
      next_md5 = md5;
      whole = whole ∙ ap (λ (rest : List ℕ). gap · codes "<PartNumber" · rest) (field.1 ∙ ap (62 ∷◌) n.4);
      is = (g, n.5, n.6, n.7);
      same_numbers = λ items. refl;
      same_md5s = λ items. refl;
      goes = n.8;
    }

etag_item : (parts : List PartRef) (number : Option ℕ) (md5 : Option (List ℕ)) (value : Value) (bytes gap rest : List ℕ)
    → bytes ≡ gap · codes "<ETag" · rest → IsGap gap → NoNameByte rest → outcome (Name (Part parts number md5) (codes "ETag")) rest ≡ Says value
    → ItemBack parts number md5 bytes value
etag_item parts number (Some md5) value bytes gap rest whole g no_name goes = spent_back (Part parts number (Some md5)) (codes "ETag") value rest refl no_name goes
etag_item parts number None value bytes gap rest whole g no_name goes =
    let field = field_back (Part parts number None) ETag (codes "ETag") value rest refl no_name goes in
    let e = etag_back (Part parts number None) value field.0 field.2 in
    let t = e.4 in
    record {
      item = Etag gap e.0 t.quotation t.digits t.after;
      rest = t.rest;
      next_number = number;
      next_md5 = Some (md5_of t.digits);
      whole = whole ∙ ap (λ (rest : List ℕ). gap · codes "<ETag" · rest) (field.1 ∙ ap (62 ∷◌) (e.2 ∙ ap (e.0 ·◌) t.whole));
      is = (g, e.3, t.digest, t.after_is);
      same_numbers = λ items. refl;
      same_md5s = λ items. refl;
      goes = t.goes;
    }

item_back : (parts : List PartRef) (number : Option ℕ) (md5 : Option (List ℕ)) (value : Value) (bytes gap name rest : List ℕ)
    → bytes ≡ gap · (60 ∷ (name · rest)) → IsGap gap → IsName name → NoNameByte rest → outcome (Name (Part parts number md5) name) rest ≡ Says value
    → ItemBack parts number md5 bytes value
item_back parts number md5 value bytes gap name rest whole g is no_name goes =
    by_name (bytes_eq name (codes "PartNumber")) refl (bytes_eq name (codes "ETag")) refl
  where
    by_name : (first : Bool) → bytes_eq name (codes "PartNumber") ≡ first → (second : Bool) → bytes_eq name (codes "ETag") ≡ second → ItemBack parts number md5 bytes value
    by_name true first second second_is =
        let same = (bytes_eq-Decides name (codes "PartNumber")).0 first in
        number_item parts number md5 value bytes gap rest (whole ∙ ap (λ (name : List ℕ). gap · (60 ∷ (name · rest))) same) g no_name
        (subst (λ (name : List ℕ). outcome (Name (Part parts number md5) name) rest ≡ Says value) same goes)
    by_name false first true second =
        let same = (bytes_eq-Decides name (codes "ETag")).0 second in
        etag_item parts number md5 value bytes gap rest (whole ∙ ap (λ (name : List ℕ). gap · (60 ∷ (name · rest))) same) g no_name
        (subst (λ (name : List ℕ). outcome (Name (Part parts number md5) name) rest ≡ Says value) same goes)
    by_name false first false second =
        let c = content_back (Part parts number md5) name (rw (first, second) refl) value rest no_name goes in
        record {
          item = Other (record { gap = gap; name = name; text = c.0 });
          rest = c.1;
          next_number = number;
          next_md5 = md5;
          whole = whole ∙ ap (λ (rest : List ℕ). gap · (60 ∷ (name · rest))) c.2;
          is = (
            record { gap = g; name = is; text = c.3 },
            λ same. false≢true (sym first ∙ (bytes_eq-Decides name (codes "PartNumber")).1 same),
            λ same. false≢true (sym second ∙ (bytes_eq-Decides name (codes "ETag")).1 same),
          );
          same_numbers = λ items. refl;
          same_md5s = λ items. refl;
          goes = c.4;
        }

-- the rest of a Part, and what follows it
record PartBack (parts : List PartRef) (number : Option ℕ) (md5 : Option (List ℕ)) (bytes : List ℕ) (value : Value) : Type 0 where
  items : List Item
  last_gap : List ℕ
  rest : List ℕ
  part : PartRef
  whole : bytes ≡ items_text items (last_gap · codes "</Part>" · rest)
  are : AreItems items
  gap_is : IsGap last_gap
  one_number : option_to_list number ++ numbers items ≡ part.number ∷ []
  one_md5 : option_to_list md5 ++ digests items ≡ part.md5 ∷ []
  goes : outcome (Between (parts ++ part ∷ [])) rest ≡ Says value

part_end : (parts : List PartRef) (number : Option ℕ) (md5 : Option (List ℕ)) (value : Value) (bytes gap rest : List ℕ)
    → bytes ≡ gap · codes "</" · rest → IsGap gap → goes_on (closes (Part parts number md5)) (λ next. outcome next rest) (length (47 ∷ rest)) ≡ Says value
    → PartBack parts number md5 bytes value
part_end parts None md5 value bytes gap rest whole is goes = not_failed (length (47 ∷ rest)) value goes
part_end parts (Some number) None value bytes gap rest whole is goes = not_failed (length (47 ∷ rest)) value goes
part_end parts (Some number) (Some md5) value bytes gap rest whole is goes =
    let part : PartRef = record { number = number; md5 = md5 } in
    let last = due_back (codes "Part>") (Between (parts ++ part ∷ [])) value rest goes in
    record {
      items = [];
      last_gap = gap;
      rest = last.0;
      part = part;
      whole = whole ∙ ap (λ (rest : List ℕ). gap · codes "</" · rest) last.1;
      are = tt;
      gap_is = is;
      one_number = refl;
      one_md5 = refl;
      goes = last.2;
    }

pub passed_longer : (passed : Passed) (rest : List ℕ) → length rest < length (passed_text passed rest)
passed_longer passed rest =
    let content = content_text passed.name passed.text rest in
    omega (arith, content_longer passed.text, behind_le passed.gap (60 ∷ (passed.name · content)), behind_le passed.name content)
  where
    content_longer : (text : Option (List ℕ)) → length rest < length (content_text passed.name text rest)
    content_longer None = omega arith
    content_longer (Some text) =
        omega (arith, behind_le text (codes "</" · passed.name · codes ">" · rest), behind_le passed.name (codes ">" · rest))

item_longer : (item : Item) (rest : List ℕ) → length rest < length (item_text item rest)
item_longer (Number gap before digits after) rest =
    let last = after · codes "</PartNumber>" · rest in
    omega (
      arith,
      behind_le gap (codes "<PartNumber>" · before · digits · last),
      behind_le before (digits · last),
      behind_le digits last,
      behind_le after (codes "</PartNumber>" · rest),
    )
item_longer (Etag gap before quotation digits after) rest =
    let last = after · codes "</ETag>" · rest in
    let closed = quote_text quotation · last in
    omega (
      arith,
      behind_le gap (codes "<ETag>" · before · quote_text quotation · digits · closed),
      behind_le before (quote_text quotation · digits · closed),
      behind_le (quote_text quotation) (digits · closed),
      behind_le digits closed,
      behind_le (quote_text quotation) last,
      behind_le after (codes "</ETag>" · rest),
    )
item_longer (Other passed) rest = passed_longer passed rest

items_longer : (items : List Item) (rest : List ℕ) → length rest ≤ length (items_text items rest)
items_longer [] rest = omega arith
items_longer (item ∷ items) rest = omega (arith, item_longer item (items_text items rest), items_longer items rest)

items_back : (fuel : ℕ) (parts : List PartRef) (number : Option ℕ) (md5 : Option (List ℕ)) (value : Value) (bytes : List ℕ) → length bytes < fuel
    → outcome (Inside (Part parts number md5)) bytes ≡ Says value → PartBack parts number md5 bytes value
items_back zero parts number md5 value bytes below goes = absurd (omega (arith, below))
items_back (suc fuel) parts number md5 value bytes below goes = elim (inner_back (Part parts number md5) value start.rest start.goes) [
  | inl ended ↦ part_end parts number md5 value bytes start.gap ended.rest (start.whole ∙ ap (λ (rest : List ℕ). start.gap · (60 ∷ rest)) ended.whole) start.is ended.goes
  | inr started ↦
      with_item (item_back parts number md5 value bytes start.gap started.name started.rest
      (start.whole ∙ ap (λ (rest : List ℕ). start.gap · (60 ∷ rest)) started.whole) start.is started.is started.no_name started.goes)
      (λ number md5 bytes below goes. items_back fuel parts number md5 value bytes below goes)
]
  where
    start : Opened (Inner (Part parts number md5)) bytes value
    start = open_back (Inside (Part parts number md5)) (Inner (Part parts number md5)) (refl, refl, λ b. refl) value bytes goes

    with_item : ItemBack parts number md5 bytes value
        → ((number : Option ℕ) (md5 : Option (List ℕ)) (bytes : List ℕ) → length bytes < fuel → outcome (Inside (Part parts number md5)) bytes ≡ Says value → PartBack parts number md5 bytes value)
        → PartBack parts number md5 bytes value
    with_item item later =
        let longer : length item.rest < length bytes = rw item.whole (item_longer item.item item.rest) in
        let more = later item.next_number item.next_md5 item.rest (omega (arith, longer, below)) item.goes in
        record {
          items = item.item ∷ more.items;
          last_gap = more.last_gap;
          rest = more.rest;
          part = more.part;
          whole = item.whole ∙ ap (item_text item.item) more.whole;
          are = (item.is, more.are);
          gap_is = more.gap_is;
          one_number = item.same_numbers more.items ∙ more.one_number;
          one_md5 = item.same_md5s more.items ∙ more.one_md5;
          goes = more.goes;
        }

says_same : (a b : Value) → Says a ≡ Says b → a ≡ b
says_same a b e = ap told e
  where
    told : Outcome → Value
    told (Says value) = value
    told (Fails left) = a

-- behind the root there is white space alone
pub after_back : (said value : Value) (bytes : List ℕ) → outcome (After said) bytes ≡ Says value → IsGap bytes × (said ≡ value)
after_back said value [] goes = (tt, says_same said value goes)
after_back said value (b ∷ bytes) goes = by_blank (is_blank b) refl (λ more. after_back said value bytes more)
  where
    by_blank : (blank : Bool) → is_blank b ≡ blank → (outcome (After said) bytes ≡ Says value → IsGap bytes × (said ≡ value)) → IsGap (b ∷ bytes) × (said ≡ value)
    by_blank true is later = let more = later (rw is at goes) in ((is, more.0), more.1)
    by_blank false is later = not_failed (length (b ∷ bytes)) value (rw is at goes)

-- the parts and the root's end
pub record PartsBack (front : List PartRef) (bytes : List ℕ) (value : Value) : Type 0 where
  pub trees : List PartTree
  pub parts : List PartRef
  pub last_gap : List ℕ
  pub after : List ℕ
  pub whole : bytes ≡ parts_text trees (last_gap · codes "</CompleteMultipartUpload>" · after)
  pub say : SayParts trees parts
  pub gap_is : IsGap last_gap
  pub after_is : IsGap after
  pub value_is : Parts (front ++ parts) ≡ value
  pub some : front ++ parts ≢ []

tag_back : (front : List PartRef) (value : Value) (bytes gap rest : List ℕ) → bytes ≡ gap · (60 ∷ rest) → IsGap gap → outcome (Tag front) rest ≡ Says value
    → ((parts : List PartRef) (rest : List ℕ) → length rest < length bytes → outcome (Between parts) rest ≡ Says value → PartsBack parts rest value)
    → (fuel : ℕ) → length bytes < fuel → PartsBack front bytes value
tag_back front value bytes gap [] whole is goes later fuel below = not_failed 0 value goes
tag_back front value bytes gap (b ∷ rest) whole is goes later fuel below = elim (eqb_tells b 80) [
  | inl letter ↦
      let opened = due_back (codes "art>") (Inside (Part front None None)) value rest (rw letter.0 at goes) in
      let inside : bytes ≡ gap · codes "<Part>" · opened.0 = whole ∙ ap (λ (rest : List ℕ). gap · (60 ∷ rest)) (ap (◌∷ rest) letter.1 ∙ ap (80 ∷◌) opened.1) in
      let shorter : length opened.0 < fuel = omega (arith, below, ap length inside, behind_le gap (codes "<Part>" · opened.0)) in
      with_part opened.0 inside (items_back fuel front None None value opened.0 shorter opened.2)
  | inr other ↦ elim (eqb_tells b 47) [
    | inl slash ↦ with_end (length front) refl (rw (other.0, slash.0) at goes) slash.1
    | inr neither ↦ not_failed (length (b ∷ rest)) value (rw (other.0, neither.0) at goes)
  ]
]
  where
    with_part : (inside : List ℕ) → bytes ≡ gap · codes "<Part>" · inside → PartBack front None None inside value → PartsBack front bytes value
    with_part inside text part =
        let tree : PartTree = record { gap = gap; items = part.items; last_gap = part.last_gap } in
        let read : bytes ≡ part_text tree part.rest = text ∙ ap (λ (rest : List ℕ). gap · codes "<Part>" · rest) part.whole in
        let longer : length part.rest < length bytes =
        omega (
          arith,
          ap length text,
          behind_le gap (codes "<Part>" · inside),
          ap length part.whole,
          items_longer part.items (part.last_gap · codes "</Part>" · part.rest),
          behind_le part.last_gap (codes "</Part>" · part.rest),
        ) in
        let more = later (front ++ part.part ∷ []) part.rest longer part.goes in
        record {
          trees = tree ∷ more.trees;
          parts = part.part ∷ more.parts;
          last_gap = more.last_gap;
          after = more.after;
          whole = read ∙ ap (part_text tree) more.whole;
          say = (record { gap = is; items = part.are; last_gap = part.gap_is; number = part.one_number; md5 = part.one_md5 }, more.say);
          gap_is = more.gap_is;
          after_is = more.after_is;
          value_is = ap Parts (sym (append_assoc front (part.part ∷ []) more.parts)) ∙ more.value_is;
          some = λ none. more.some (append_assoc front (part.part ∷ []) more.parts ∙ none);
        }

    with_end : (size : ℕ) → length front ≡ size → goes_on (closes_all front) (λ next. outcome next rest) (length (b ∷ rest)) ≡ Says value → b ≡ 47 → PartsBack front bytes value
    with_end zero none goes slash = not_failed (length (b ∷ rest)) value (rw none at goes)
    with_end (suc size) some goes slash =
        let nonzero : eqb (suc size) 0 ≡ false = search arith in
        let last = due_back (codes "CompleteMultipartUpload>") (After (Parts front)) value rest (rw (some, nonzero) at goes) in
        let end = after_back (Parts front) value last.0 last.2 in
        record {
          trees = [];
          parts = [];
          last_gap = gap;
          after = last.0;
          whole = whole ∙ ap (λ (rest : List ℕ). gap · (60 ∷ rest)) (ap (◌∷ rest) slash ∙ ap (47 ∷◌) last.1);
          say = tt;
          gap_is = is;
          after_is = end.0;
          value_is = ap Parts (append-nil front) ∙ end.1;
          some = λ none. zero_not (sym some ∙ ap length (sym (append-nil front) ∙ none));
        }
      where
        zero_not : suc size ≡ 0 → ⊥
        zero_not e = omega (arith, e)

pub parts_back : (fuel : ℕ) (front : List PartRef) (value : Value) (bytes : List ℕ) → length bytes < fuel → outcome (Between front) bytes ≡ Says value
    → PartsBack front bytes value
parts_back zero front value bytes below goes = absurd (omega (arith, below))
parts_back (suc fuel) front value bytes below goes =
    let start = open_back (Between front) (Tag front) (refl, refl, λ b. refl) value bytes goes in
    tag_back front value bytes start.gap start.rest start.whole start.is start.goes
    (λ parts rest shorter goes. parts_back fuel parts value rest (omega (arith, shorter, below)) goes) (suc fuel) below
