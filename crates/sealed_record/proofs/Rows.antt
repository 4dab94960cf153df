-- That the rows which a format takes are those of written records, part by part.
use Rattle.std.proofs.Common.{◌≡◌, List, [], ◌∷◌, Option, Some, None, refl, sym, ap, subst, ◌∙◌}
use Rattle.std.specs.Option.{option_map}
use Rattle.std.specs.Prelude.{map}
use Rattle.std.specs.List.{AllByRecursion}
use Rattle.field_reader.proofs.Parts.{IsSpelled}
use Rattle.field_reader.proofs.Series.{Kept}
use Rattle.field_reader.proofs.Whole.{whole_takes, whole_again}
use Rattle.sealed_record.specs.Fields.{IfThere}
use Rattle.sealed_record.specs.Laws.{IsLawful}
use Rattle.sealed_record.specs.Table.{Table}

-- The rows that keep a fact are those of the values that keep another, one row for each.
pub record Matches {A R : Type 0} (row : A → R) (Written : A → Type 0) (Keeps : R → Type 0) : Type 0 where
  pub into : (a : A) → Written a → Keeps (row a)
  pub back : (a : A) → Keeps (row a) → Written a
  pub same : (a b : A) → row a ≡ row b → a ≡ b
  pub made : (r : R) → Keeps r → (a : A) × (row a ≡ r)

-- ---- a part that may be missing

abbrev some_of : {A : Type 0} → A → Option A
some_of value = Some value

some_is : {A : Type 0} (a b : A) → some_of a ≡ some_of b → a ≡ b
some_is a b e = cc

pub option_matches : {A R : Type 0} {row : A → R} {Written : A → Type 0} {Keeps : R → Type 0} → Matches row Written Keeps → Matches (option_map row) (IfThere Written) (IfThere Keeps)
option_matches {A} {R} {row} {Written} {Keeps} one = record { into = into; back = back; same = same; made = made }
  where
    into : (o : Option A) → IfThere Written o → IfThere Keeps (option_map row o)
    into None h = tt
    into (Some a) h = one.into a h

    back : (o : Option A) → IfThere Keeps (option_map row o) → IfThere Written o
    back None h = tt
    back (Some a) h = one.back a h

    same : (x y : Option A) → option_map row x ≡ option_map row y → x ≡ y
    same None None e = refl
    same None (Some b) e = absurd cc
    same (Some a) None e = absurd cc
    same (Some a) (Some b) e = ap some_of (one.same a b (some_is (row a) (row b) e))

    made : (o : Option R) → IfThere Keeps o → (a : Option A) × (option_map row a ≡ o)
    made None h = (None, refl)
    made (Some r) h = let m = one.made r h in (Some m.0, ap some_of m.1)

-- ---- a list

pub list_matches : {A R : Type 0} {row : A → R} {Written : A → Type 0} {Keeps : R → Type 0} → Matches row Written Keeps → Matches (map row) (AllByRecursion Written) (AllByRecursion Keeps)
list_matches {A} {R} {row} {Written} {Keeps} one = record { into = into; back = back; same = same; made = made }
  where
    into : (xs : List A) → AllByRecursion Written xs → AllByRecursion Keeps (map row xs)
    into [] all = tt
    into (x ∷ xs) all = (one.into x all.0, into xs all.1)

    back : (xs : List A) → AllByRecursion Keeps (map row xs) → AllByRecursion Written xs
    back [] all = tt
    back (x ∷ xs) all = (one.back x all.0, back xs all.1)

    same : (xs ys : List A) → map row xs ≡ map row ys → xs ≡ ys
    same [] [] e = refl
    same [] (y ∷ ys) e = absurd cc
    same (x ∷ xs) [] e = absurd cc
    same (x ∷ xs) (y ∷ ys) e =
        let head : row x ≡ row y = cc in
        let tail : map row xs ≡ map row ys = cc in
        let first = one.same x y head in
        let others = same xs ys tail in
        λ i. first i ∷ others i

    made : (rs : List R) → AllByRecursion Keeps rs → (xs : List A) × (map row xs ≡ rs)
    made [] all = ([], refl)
    made (r ∷ rs) all =
        let first = one.made r all.0 in
        let others = made rs all.1 in
        (first.0 ∷ others.0, ap (λ (x : R). x ∷ map row others.0) first.1 ∙ ap (λ (xs : List R). r ∷ xs) others.1)

-- ---- a table

-- A table whose format takes the spellings of the rows that match its records is lawful.
pub lawful_table : {A R : Type 0} (table : Table A R) (Keeps : R → Type 0) → IsSpelled table.format (Kept Keeps table.bytes) → Matches table.row table.Canonical Keeps → IsLawful table
lawful_table {A} {R} table Keeps spelled matches = record {
  read = λ a canonical. whole_again table.format (Kept Keeps table.bytes) spelled (table.bytes (table.row a)) (table.row a) (record { keeps = matches.into a canonical; is = refl });
  found = λ body r bytes e.
      let k = whole_takes table.format (Kept Keeps table.bytes) spelled body r bytes e in
      let made = matches.made r k.keeps in
      (made.0, matches.back made.0 (subst Keeps (sym made.1) k.keeps), made.1, k.is ∙ ap table.bytes (sym made.1));
  rows = matches.same;
}
