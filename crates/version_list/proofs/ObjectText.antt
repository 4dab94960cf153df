-- The texts that spell an object.
use Rattle.std.proofs.Common.{◌≡◌, ℕ, ◌^◌, ◌<◌, ◌≤◌, Bool, true, false, cond, List, [], length, Option, Some, refl, ap, ◌∙◌}
use Rattle.std.specs.Prelude.{◌==◌}
use Rattle.std.specs.Bool.{MatchBool}
use Rattle.std.specs.Int.{w16, w64}
use Rattle.field_reader.specs.Format.{Format, ◌>>=◌, done, field, number, short_text, with_rule}
use Rattle.field_reader.specs.Spelling.{IsBytes, number_bytes, short_text_bytes}
use Rattle.field_reader.proofs.Parts.{IsSpelled, Then, then_spelled, then_joined, Done, done_spelled, Ruled, rule_spelled, told_spelled}
use Rattle.field_reader.proofs.Numbers.{Plain, field_spelled, Numbered, u16_spelled, u64_spelled, Short, short_text_spelled}
use Rattle.field_reader.proofs.Series.{Kept}
use Rattle.stamp_id.specs.IdField.{id_field}
use Rattle.field_reader.proofs.Chains.{itself}
use Rattle.stamp_id.proofs.IdText.{IsIdField, id_spelled}
use Rattle.version_list.specs.Rows.{ObjectRow, no_id}
use Rattle.version_list.specs.Layout.{is_no_id, upload_id, object}
use Rattle.version_list.specs.Spelling.{object_bytes}
use Rattle.version_list.proofs.NoId.{no_id-none, no_id-size, no_id-from}

-- 16 zero bytes where there are no parts, and else an id
abbrev pub IsUploadId : ℕ → List ℕ → Type 0
IsUploadId parts bytes = MatchBool (parts == 0) (bytes ≡ no_id) (IsIdField bytes)

none_spelled : IsSpelled (with_rule is_no_id (field 16)) (Kept (λ bytes. bytes ≡ no_id) itself)
none_spelled = told_spelled (with_rule is_no_id (field 16)) (Ruled (Plain 16) is_no_id) (Kept (λ bytes. bytes ≡ no_id) itself)
    (λ value text bytes r. record { keeps = no_id-from value r.spells.sized r.keeps; is = r.spells.is })
    (λ value text k. record { spells = record { is = k.is; sized = ap length k.keeps ∙ no_id-size }; keeps = ap is_no_id k.keeps ∙ no_id-none })
    (rule_spelled is_no_id (field 16) (Plain 16) (field_spelled 16))

-- one of two formats whose values are spelled alike
choice_kept : {A : Type 0} (b : Bool) (yes_part no_part : Format A) (P Q : A → Type 0) (p : A → List ℕ) → IsSpelled yes_part (Kept P p) → IsSpelled no_part (Kept Q p) → IsSpelled (cond b yes_part no_part) (Kept (λ a. MatchBool b (P a) (Q a)) p)
choice_kept true yes_part no_part P Q p one other = record { takes = one.takes; again = one.again }
choice_kept false yes_part no_part P Q p one other = record { takes = other.takes; again = other.again }

upload_id_spelled : (parts : ℕ) → IsSpelled (upload_id parts) (Kept (IsUploadId parts) itself)
upload_id_spelled parts = choice_kept (parts == 0) (with_rule is_no_id (field 16)) id_field (λ bytes. bytes ≡ no_id) IsIdField itself none_spelled id_spelled

-- an object that the format takes
pub record IsObjectRow (o : ObjectRow) : Type 0 where
  pub data_id : IsIdField o.data_id
  pub print_sized : length o.print ≡ 32
  pub size_fits : o.size < 2 ^ 64
  pub md5_sized : length o.md5 ≡ 16
  pub parts_fit : o.parts < 2 ^ 16
  pub upload : IsUploadId o.parts o.upload
  pub kind_short : length o.kind ≤ 255

abbrev row : List ℕ → List ℕ → ℕ → List ℕ → ℕ → List ℕ → List ℕ → ObjectRow
row d p s m n u k = record { data_id = d; print = p; size = s; md5 = m; parts = n; upload = u; kind = k }

-- the fields from the last to the first, each with those after it
abbrev f7 : List ℕ → List ℕ → ℕ → List ℕ → ℕ → List ℕ → Format (Option ObjectRow)
f7 d p s m n u = short_text >>= λ k. done (Some (row d p s m n u k))

abbrev f6 : List ℕ → List ℕ → ℕ → List ℕ → ℕ → Format (Option ObjectRow)
f6 d p s m n = upload_id n >>= λ u. f7 d p s m n u

abbrev f5 : List ℕ → List ℕ → ℕ → List ℕ → Format (Option ObjectRow)
f5 d p s m = number w16 >>= λ n. f6 d p s m n

abbrev f4 : List ℕ → List ℕ → ℕ → Format (Option ObjectRow)
f4 d p s = field 16 >>= λ m. f5 d p s m

abbrev f3 : List ℕ → List ℕ → Format (Option ObjectRow)
f3 d p = number w64 >>= λ s. f4 d p s

abbrev f2 : List ℕ → Format (Option ObjectRow)
f2 d = field 32 >>= λ p. f3 d p

abbrev t7 : List ℕ → List ℕ → ℕ → List ℕ → ℕ → List ℕ → Option ObjectRow → List ℕ → Type 0
t7 d p s m n u = Then Short (λ k. Done (Some (row d p s m n u k)))

abbrev t6 : List ℕ → List ℕ → ℕ → List ℕ → ℕ → Option ObjectRow → List ℕ → Type 0
t6 d p s m n = Then (Kept (IsUploadId n) itself) (λ u. t7 d p s m n u)

abbrev t5 : List ℕ → List ℕ → ℕ → List ℕ → Option ObjectRow → List ℕ → Type 0
t5 d p s m = Then (Numbered w16 (2 ^ 16)) (λ n. t6 d p s m n)

abbrev t4 : List ℕ → List ℕ → ℕ → Option ObjectRow → List ℕ → Type 0
t4 d p s = Then (Plain 16) (λ m. t5 d p s m)

abbrev t3 : List ℕ → List ℕ → Option ObjectRow → List ℕ → Type 0
t3 d p = Then (Numbered w64 (2 ^ 64)) (λ s. t4 d p s)

abbrev t2 : List ℕ → Option ObjectRow → List ℕ → Type 0
t2 d = Then (Plain 32) (λ p. t3 d p)

abbrev t1 : Option ObjectRow → List ℕ → Type 0
t1 = Then (Kept IsIdField itself) (λ d. t2 d)

s7 : (d p : List ℕ) (s : ℕ) (m : List ℕ) (n : ℕ) (u : List ℕ) → IsSpelled (f7 d p s m n u) (t7 d p s m n u)
s7 d p s m n u = then_spelled short_text (λ k. done (Some (row d p s m n u k))) Short (λ k. Done (Some (row d p s m n u k))) short_text_spelled (λ k. done_spelled (Some (row d p s m n u k)))

s6 : (d p : List ℕ) (s : ℕ) (m : List ℕ) (n : ℕ) → IsSpelled (f6 d p s m n) (t6 d p s m n)
s6 d p s m n = then_spelled (upload_id n) (f7 d p s m n) (Kept (IsUploadId n) itself) (t7 d p s m n) (upload_id_spelled n) (s7 d p s m n)

s5 : (d p : List ℕ) (s : ℕ) (m : List ℕ) → IsSpelled (f5 d p s m) (t5 d p s m)
s5 d p s m = then_spelled (number w16) (f6 d p s m) (Numbered w16 (2 ^ 16)) (t6 d p s m) u16_spelled (s6 d p s m)

s4 : (d p : List ℕ) (s : ℕ) → IsSpelled (f4 d p s) (t4 d p s)
s4 d p s = then_spelled (field 16) (f5 d p s) (Plain 16) (t5 d p s) (field_spelled 16) (s5 d p s)

s3 : (d p : List ℕ) → IsSpelled (f3 d p) (t3 d p)
s3 d p = then_spelled (number w64) (f4 d p) (Numbered w64 (2 ^ 64)) (t4 d p) u64_spelled (s4 d p)

s2 : (d : List ℕ) → IsSpelled (f2 d) (t2 d)
s2 d = then_spelled (field 32) (f3 d) (Plain 32) (t3 d) (field_spelled 32) (s3 d)

s1 : IsSpelled object t1
unfolding object
s1 = then_spelled id_field f2 (Kept IsIdField itself) t2 id_spelled s2

-- a text of an object
pub record ObjectText (o : Option ObjectRow) (text : List ℕ) : Type 0 where
  pub object : ObjectRow
  pub is_some : o ≡ Some object
  pub keeps : IsObjectRow object
  pub is : text ≡ object_bytes (Some object)

into : (o : Option ObjectRow) (text : List ℕ) → IsBytes text → t1 o text → ObjectText o text
into o text fits a =
    let b = a.is_rest in
    let c = b.is_rest in
    let d = c.is_rest in
    let e = d.is_rest in
    let f = e.is_rest in
    let g = f.is_rest in
    record {
      object = row a.first b.first c.first d.first e.first f.first g.first;
      is_some = g.is_rest.is;
      keeps = record {
        data_id = a.is_first.keeps;
        print_sized = b.is_first.sized;
        size_fits = c.is_first.below;
        md5_sized = d.is_first.sized;
        parts_fit = e.is_first.below;
        upload = f.is_first.keeps;
        kind_short = g.is_first.sized;
      };
      is = then_joined a _ _ a.is_first.is (then_joined b _ _ b.is_first.is (then_joined c _ _ c.is_first.is (then_joined d _ _ d.is_first.is (then_joined e _ _ e.is_first.is (then_joined f _ _ f.is_first.is (then_joined g _ _ g.is_first.is g.is_rest.nothing))))));
    }

out_of : (o : Option ObjectRow) (text : List ℕ) → ObjectText o text → t1 o text
out_of o text t =
    let r = t.object in
    let k = t.keeps in
    record {
      first = r.data_id;
      front = r.data_id;
      back = _;
      is_first = record { keeps = k.data_id; is = refl };
      whole = t.is;
      is_rest = record {
        first = r.print;
        front = r.print;
        back = _;
        is_first = record { is = refl; sized = k.print_sized };
        whole = refl;
        is_rest = record {
          first = r.size;
          front = number_bytes w64 r.size;
          back = _;
          is_first = record { is = refl; below = k.size_fits };
          whole = refl;
          is_rest = record {
            first = r.md5;
            front = r.md5;
            back = _;
            is_first = record { is = refl; sized = k.md5_sized };
            whole = refl;
            is_rest = record {
              first = r.parts;
              front = number_bytes w16 r.parts;
              back = _;
              is_first = record { is = refl; below = k.parts_fit };
              whole = refl;
              is_rest = record {
                first = r.upload;
                front = r.upload;
                back = _;
                is_first = record { keeps = k.upload; is = refl };
                whole = refl;
                is_rest = record {
                  first = r.kind;
                  front = short_text_bytes r.kind;
                  back = [];
                  is_first = record { is = refl; sized = k.kind_short };
                  whole = refl;
                  is_rest = record { is = t.is_some; nothing = refl };
                };
              };
            };
          };
        };
      };
    }

pub object_spelled : IsSpelled object ObjectText
object_spelled = told_spelled object t1 ObjectText into out_of s1
