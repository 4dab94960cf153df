-- The texts that spell a version and an upload.
use Rattle.std.proofs.Common.{◌≡◌, ℕ, ◌^◌, ◌<◌, ◌≤◌, Bool, true, false, List, [], length, Option, Some, None, refl, sym, ap, subst, ◌∙◌, arith}
use Rattle.std.specs.Prelude.{◌==◌}
use Rattle.std.specs.Bool.{MatchBool}
use Rattle.std.specs.Int.{w8, w64}
use Rattle.std.proofs.lemmas.Bool.{eqb-true, ltb-true, lt-ltb}
use Rattle.std.proofs.lemmas.Bool.Decides.{nat_tests}
use Rattle.field_reader.specs.Format.{Format, ◌>>=◌, done, field, number, with_rule}
use Rattle.field_reader.specs.Spelling.{IsBytes, number_bytes}
use Rattle.field_reader.proofs.Parts.{IsSpelled, Then, then_spelled, then_joined, Done, done_spelled, Ruled, rule_spelled, told_spelled, choice_spelled, IsBytes-front}
use Rattle.field_reader.proofs.Numbers.{Plain, field_spelled, Numbered, u8_spelled, u64_spelled}
use Rattle.field_reader.proofs.Series.{Kept}
use Rattle.field_reader.proofs.Chains.{u64_kept, done_kept, then_field, told, ruled, short_kept}
use Rattle.stamp_id.proofs.IdText.{IsIdField, id_spelled}
use Rattle.version_list.specs.Rows.{ObjectRow, VersionRow, UploadRow}
use Rattle.version_list.specs.Layout.{is_moment, is_class, object, object_of_class, is_new, name_rule, version, upload}
use Rattle.version_list.specs.Spelling.{class_of, object_bytes, version_bytes, upload_bytes}
use Rattle.version_list.proofs.ObjectText.{IsObjectRow, ObjectText, object_spelled}

-- what stands behind the moment keeps its rules
abbrev pub IsObjectOption : Option ObjectRow → Type 0
IsObjectOption None = Unit {0}
IsObjectOption (Some o) = IsObjectRow o

-- a version that the format takes
pub record IsVersionRow (is_used : List ℕ → Bool) (v : VersionRow) : Type 0 where
  pub id_sized : length v.id ≡ 16
  pub id_kept : name_rule is_used v.id ≡ true
  pub id_bytes : IsBytes v.id
  pub modified_kept : v.modified < 253402300800
  pub object : IsObjectOption v.object

-- the texts behind the moment of a version of this class
abbrev ClassText : ℕ → Option ObjectRow → List ℕ → Type 0
ClassText class o text = MatchBool (class == 0) (Done None o text) (ObjectText o text)

class_spelled : (class : ℕ) → IsSpelled (object_of_class class) (ClassText class)
class_spelled class = choice_spelled (class == 0) (done None) object (Done None) ObjectText (done_spelled None) object_spelled

-- what a text of this class says
record Classed (class : ℕ) (o : Option ObjectRow) (text : List ℕ) : Type 0 where
  class_is : class_of o ≡ class
  keeps : IsObjectOption o
  is : text ≡ object_bytes o

of_marker : (class : ℕ) (o : Option ObjectRow) (text : List ℕ) → class ≡ 0 → Done None o text → Classed class o text
of_marker class None text zero_class d = record { class_is = sym zero_class; keeps = tt; is = d.nothing }
of_marker class (Some o) text zero_class d = absurd (let e = d.is in cc)

of_object : (class : ℕ) (o : Option ObjectRow) (text : List ℕ) → class ≡ 1 → ObjectText o text → Classed class o text
of_object class o text one_class t =
    let P : Option ObjectRow → Type 0 = λ o. Classed class o text in
    let here : P (Some t.object) = record { class_is = sym one_class; keeps = t.keeps; is = t.is } in
    subst P (sym t.is_some) here

classed : (class : ℕ) (o : Option ObjectRow) (text : List ℕ) → class < 2 → ClassText class o text → Classed class o text
classed class o text small t =
    let P : Bool → Type 0 = λ b. (class == 0) ≡ b → MatchBool b (Done None o text) (ObjectText o text) → Classed class o text in
    let split : P (class == 0) = elim (class == 0) as P [
      | true ↦ λ e d. of_marker class o text (eqb-true _ _ e) d
      | false ↦ λ e d. of_object class o text (not_zero e) d
    ] in
    split refl t
  where
    not_zero : (class == 0) ≡ false → class ≡ 1
    not_zero e = grind (arith, nat_tests)

-- the text of a class
unclassed : (o : Option ObjectRow) → IsObjectOption o → ClassText (class_of o) o (object_bytes o)
unclassed None keeps = record { is = refl; nothing = refl }
unclassed (Some o) keeps = record { object = o; is_some = refl; keeps = keeps; is = refl }

-- the fields of a version from the last to the first
abbrev made : List ℕ → ℕ → Option ObjectRow → VersionRow
made id modified o = record { id = id; modified = modified; object = o }

abbrev f4 : List ℕ → ℕ → ℕ → Format VersionRow
f4 id class modified = object_of_class class >>= λ o. done (made id modified o)

abbrev f3 : List ℕ → ℕ → Format VersionRow
f3 id class = with_rule is_moment (number w64) >>= λ modified. f4 id class modified

abbrev f2 : List ℕ → Format VersionRow
f2 id = with_rule is_class (number w8) >>= λ class. f3 id class

abbrev t4 : List ℕ → ℕ → ℕ → VersionRow → List ℕ → Type 0
t4 id class modified = Then (ClassText class) (λ o. Done (made id modified o))

abbrev t3 : List ℕ → ℕ → VersionRow → List ℕ → Type 0
t3 id class = Then (Ruled (Numbered w64 (2 ^ 64)) is_moment) (λ modified. t4 id class modified)

abbrev t2 : List ℕ → VersionRow → List ℕ → Type 0
t2 id = Then (Ruled (Numbered w8 (2 ^ 8)) is_class) (λ class. t3 id class)

abbrev t1 : (List ℕ → Bool) → VersionRow → List ℕ → Type 0
t1 is_used = Then (Ruled (Plain 16) (name_rule is_used)) (λ id. t2 id)

s4 : (id : List ℕ) (class modified : ℕ) → IsSpelled (f4 id class modified) (t4 id class modified)
s4 id class modified = then_spelled (object_of_class class) (λ o. done (made id modified o)) (ClassText class) (λ o. Done (made id modified o)) (class_spelled class) (λ o. done_spelled (made id modified o))

s3 : (id : List ℕ) (class : ℕ) → IsSpelled (f3 id class) (t3 id class)
s3 id class = then_spelled (with_rule is_moment (number w64)) (f4 id class) (Ruled (Numbered w64 (2 ^ 64)) is_moment) (t4 id class) (rule_spelled is_moment (number w64) (Numbered w64 (2 ^ 64)) u64_spelled) (s4 id class)

s2 : (id : List ℕ) → IsSpelled (f2 id) (t2 id)
s2 id = then_spelled (with_rule is_class (number w8)) (f3 id) (Ruled (Numbered w8 (2 ^ 8)) is_class) (t3 id) (rule_spelled is_class (number w8) (Numbered w8 (2 ^ 8)) u8_spelled) (s3 id)

s1 : (is_used : List ℕ → Bool) → IsSpelled (version is_used) (t1 is_used)
unfolding version
s1 is_used = then_spelled (with_rule (name_rule is_used) (field 16)) f2 (Ruled (Plain 16) (name_rule is_used)) t2 (rule_spelled (name_rule is_used) (field 16) (Plain 16) (field_spelled 16)) s2

into : (is_used : List ℕ → Bool) (v : VersionRow) (text : List ℕ) → IsBytes text → t1 is_used v text → Kept (IsVersionRow is_used) version_bytes v text
into is_used v text fits a =
    let b = a.is_rest in
    let c = b.is_rest in
    let d = c.is_rest in
    let o = classed b.first d.first d.front (ltb-true _ _ b.is_first.keeps) d.is_first in
    let P : VersionRow → Type 0 = λ v. Kept (IsVersionRow is_used) version_bytes v text in
    let class : b.front ≡ number_bytes w8 (class_of d.first) = b.is_first.spells.is ∙ ap (λ (n : ℕ). number_bytes w8 n) (sym o.class_is) in
    let here : P (made a.first c.first d.first) = record {
      keeps = record {
        id_sized = a.is_first.spells.sized;
        id_kept = a.is_first.keeps;
        id_bytes = subst (λ (x : List ℕ). IsBytes x) a.is_first.spells.is (IsBytes-front a.front a.back text a.whole fits);
        modified_kept = ltb-true _ _ c.is_first.keeps;
        object = o.keeps;
      };
      is = then_joined a _ _ a.is_first.spells.is (then_joined b _ _ class (then_joined c _ _ c.is_first.spells.is (then_joined d _ _ o.is d.is_rest.nothing)));
    } in
    subst P (sym d.is_rest.is) here

-- the text of a moment
moment_text : (n : ℕ) → n < 253402300800 → Ruled (Numbered w64 (2 ^ 64)) is_moment n (number_bytes w64 n)
moment_text n small =
    let kept : is_moment n ≡ true = grind (arith, nat_tests) in
    record { spells = record { is = refl; below = omega arith }; keeps = kept }

out_of : (is_used : List ℕ → Bool) (v : VersionRow) (text : List ℕ) → Kept (IsVersionRow is_used) version_bytes v text → t1 is_used v text
out_of is_used v text k = record {
  first = v.id;
  front = v.id;
  back = _;
  is_first = record { spells = record { is = refl; sized = k.keeps.id_sized }; keeps = k.keeps.id_kept };
  whole = k.is;
  is_rest = record {
    first = class_of v.object;
    front = number_bytes w8 (class_of v.object);
    back = _;
    is_first = class_kept v.object;
    whole = refl;
    is_rest = record {
      first = v.modified;
      front = number_bytes w64 v.modified;
      back = _;
      is_first = moment_text v.modified k.keeps.modified_kept;
      whole = refl;
      is_rest = record {
        first = v.object;
        front = object_bytes v.object;
        back = [];
        is_first = unclassed v.object k.keeps.object;
        whole = refl;
        is_rest = record { is = refl; nothing = refl };
      };
    };
  };
}
  where
    class_kept : (o : Option ObjectRow) → Ruled (Numbered w8 (2 ^ 8)) is_class (class_of o) (number_bytes w8 (class_of o))
    class_kept None = record { spells = record { is = refl; below = omega arith }; keeps = refl }
    class_kept (Some o) = record { spells = record { is = refl; below = omega arith }; keeps = refl }

pub version_spelled : (is_used : List ℕ → Bool) → IsSpelled (version is_used) (Kept (IsVersionRow is_used) version_bytes)
version_spelled is_used = told_spelled (version is_used) (t1 is_used) (Kept (IsVersionRow is_used) version_bytes) (into is_used) (out_of is_used) (s1 is_used)

-- an upload that the format takes
pub record IsUploadRow (is_used : List ℕ → Bool) (u : UploadRow) : Type 0 where
  pub id : IsIdField u.id
  pub id_new : is_new is_used u.id ≡ true
  pub opened_kept : u.opened < 253402300800
  pub kind_short : length u.kind ≤ 255

abbrev upload_made : List ℕ → ℕ → List ℕ → UploadRow
upload_made id opened kind = record { id = id; opened = opened; kind = kind }

pub upload_spelled : (is_used : List ℕ → Bool) → IsSpelled (upload is_used) (Kept (IsUploadRow is_used) upload_bytes)
unfolding upload
upload_spelled is_used = told (
    then_field (λ (u : UploadRow). u.id) (ruled (is_new is_used) id_spelled) (λ id.
    then_field (λ (u : UploadRow). u.opened) (ruled is_moment u64_kept) (λ opened.
    then_field (λ (u : UploadRow). u.kind) short_kept (λ kind. done_kept (upload_made id opened kind))
    (λ kind u k q. ap (λ (u : UploadRow). u.kind) (sym q)))
    (λ opened u k q. ap (λ (u : UploadRow). u.opened) (sym q.rest)))
    (λ id u k q. ap (λ (u : UploadRow). u.id) (sym q.rest.rest)))
    (λ u k. let opened = k.rest in let kind = opened.rest in record { id = k.part.0; id_new = k.part.1; opened_kept = ltb-true _ _ opened.part.1; kind_short = kind.part })
    (λ u k. record { part = (k.id, k.id_new); rest = record { part = (omega (arith, k.opened_kept), lt-ltb _ _ k.opened_kept); rest = record { part = k.kind_short; rest = refl } } })
    (λ u. refl)
