-- What follows for each lawful table.
use Rattle.std.proofs.Common.{◌≡◌, ℕ, List, ◌++◌, None, Result, Ok, Err, refl, sym, ap, subst, ◌∙◌}
use Rattle.field_reader.specs.Format.{value_of, place_of}
use Rattle.field_reader.specs.Spelling.{IsBytes}
use Rattle.field_reader.proofs.Parts.{IsBytes-front, IsBytes-back}
use Rattle.seal_file.specs.Sealing.{sealed}
use Rattle.seal_file.proofs.SealedLemmas.{sealed-injective}
use Rattle.sealed_record.specs.Table.{Table, spelling_of}
use Rattle.sealed_record.specs.Laws.{IsLawful, FaultlessIsSpelled, SpellingIsInjective, FileIsInjective}

abbrev of_row : {R : Type 0} → R → Result R ℕ
of_row r = Ok r

row_is : {R : Type 0} (a b : R) → of_row a ≡ of_row b → a ≡ b
row_is a b e = cc

found_from : {R : Type 0} (found : Result R ℕ) → place_of found ≡ None → (r : R) × (found ≡ Ok r)
found_from (Ok r) e = (r, refl)
found_from (Err place) e = absurd cc

module _ {A R : Type 0} (table : Table A R) (lawful : IsLawful table) where
  -- a record that is found is written so, and the body is its spelling
  pub found_spelling : (body : List ℕ) (a : A) → IsBytes body → value_of table.format body ≡ Ok (table.row a) → table.Canonical a × (body ≡ spelling_of table a)
  found_spelling body a bytes found =
      let other = lawful.found body (table.row a) bytes found in
      let same : other.0 ≡ a = lawful.rows other.0 a other.2 in
      (subst table.Canonical same other.1, other.3 ∙ ap (spelling_of table) same)

  -- a body is read as one record alone
  pub found_same : (body : List ℕ) (read a : A) → value_of table.format body ≡ Ok (table.row read) → table.Canonical a → body ≡ spelling_of table a → read ≡ a
  found_same body read a found canonical is =
      let other : value_of table.format body ≡ Ok (table.row a) = ap (value_of table.format) is ∙ lawful.read a canonical in
      lawful.rows read a (row_is (table.row read) (table.row a) (sym found ∙ other))

  -- the laws
  pub faultless : FaultlessIsSpelled table
  faultless body bytes e =
      let found = found_from (value_of table.format body) e in
      let other = lawful.found body found.0 bytes found.1 in
      (other.0, other.1, other.3)

  pub injective : SpellingIsInjective table
  injective a b canonical_a canonical_b same = found_same (spelling_of table a) a b (lawful.read a canonical_a) canonical_b same

  pub files_injective : (kind : List ℕ) → FileIsInjective kind table
  files_injective kind a b canonical_a canonical_b same =
      injective a b canonical_a canonical_b ((sealed-injective kind kind (spelling_of table a) (spelling_of table b) refl same).1)

-- a file has one body
pub body_is : (kind bytes body other : List ℕ) → bytes ≡ sealed kind body → bytes ≡ sealed kind other → body ≡ other
body_is kind bytes body other seals seals_other = (sealed-injective kind kind body other refl (sym seals ∙ seals_other)).1

-- the body of a file of bytes is made of bytes
pub body_bytes : (kind bytes body : List ℕ) → bytes ≡ sealed kind body → IsBytes bytes → IsBytes body
body_bytes kind bytes body seals fits =
    IsBytes-back kind body (kind ++ body) refl (IsBytes-front (kind ++ body) _ bytes seals fits)
