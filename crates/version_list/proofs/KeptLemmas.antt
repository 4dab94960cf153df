-- What stays of a list of versions.
use Rattle.std.proofs.Common.{◌≡◌, ◌≤◌, ◌⊎◌, inl, inr, Bool, true, false, Option, Some, None, IsNone, List, [], ◌∷◌, length, refl, sym, ap, subst, arith}
use Rattle.call_types.specs.declared.names.VersionName.{VersionName}
use Rattle.call_types.specs.declared.version.Version.{Version}
use Rattle.version_list.specs.Naming.{is_named, kept}

-- no more stay than there are
pub length-kept : (goes : Option VersionName) (xs : List Version) → length (kept goes xs) ≤ length xs
length-kept goes [] = omega arith
length-kept goes (x ∷ xs) = step (is_named goes x) refl (length-kept goes xs)
  where
    step : (b : Bool) → is_named goes x ≡ b → length (kept goes xs) ≤ length xs → length (kept goes (x ∷ xs)) ≤ length (x ∷ xs)
    step true h fewer = rw h (omega arith)
    step false h fewer = rw h (omega arith)

-- where as many stay as there are, all do
pub kept_all : (goes : Option VersionName) (xs : List Version) → length (kept goes xs) ≡ length xs → kept goes xs ≡ xs
kept_all goes [] h = refl
kept_all goes (x ∷ xs) same = step (is_named goes x) refl (length-kept goes xs) (kept_all goes xs) same
  where
    step :
        (b : Bool) → is_named goes x ≡ b → length (kept goes xs) ≤ length xs
        → (length (kept goes xs) ≡ length xs → kept goes xs ≡ xs)
        → length (kept goes (x ∷ xs)) ≡ length (x ∷ xs) → kept goes (x ∷ xs) ≡ x ∷ xs
    step true h fewer rest same = let short = rw h at same in absurd (omega arith)
    step false h fewer rest same = let cons = rw h at same in rw (h, rest (omega arith))

-- no version goes where none has the name
pub kept_none : (xs : List Version) → kept None xs ≡ xs
kept_none [] = refl
kept_none (x ∷ xs) = ap (λ ys. x ∷ ys) (kept_none xs)

pub kept_unnamed : (goes : Option VersionName) (xs : List Version) → IsNone goes → kept goes xs ≡ xs
kept_unnamed None xs none = kept_none xs
kept_unnamed (Some name) xs none = cc

-- A list with a new version in front of those that stay is the list as it was exactly where only the first goes, and
-- is the same version.
pub record IsFrontAgain (front first : Version) (goes : Option VersionName) (rest : List Version) : Type 0 where
  pub first_goes : is_named goes first ≡ true
  pub rest_stays : length (kept goes rest) ≡ length rest
  pub same : front ≡ first

pub IsFrontAgain-unchanged :
    (front first : Version) (goes : Option VersionName) (rest : List Version) → IsFrontAgain front first goes rest
    → front ∷ kept goes (first ∷ rest) ≡ first ∷ rest
IsFrontAgain-unchanged front first goes rest again = rw (again.first_goes, kept_all goes rest again.rest_stays, again.same)

pub unchanged-IsFrontAgain :
    (front first : Version) (goes : Option VersionName) (rest : List Version)
    → IsNone goes ⊎ (is_named goes front ≡ true)
    → front ∷ kept goes (first ∷ rest) ≡ first ∷ rest → IsFrontAgain front first goes rest
unchanged-IsFrontAgain front first goes rest named same = step (is_named goes first) refl
  where
    stays_false : is_named goes first ≡ false → front ∷ first ∷ kept goes rest ≡ first ∷ rest → IsFrontAgain front first goes rest
    stays_false h cons = elim named [
      | inl none ↦ let long : front ∷ first ∷ rest ≡ first ∷ rest = rw (kept_unnamed goes rest none) at cons in let n = ap length long in absurd (omega arith)
      | inr marked ↦ let e : front ≡ first = cc in let f : is_named goes front ≡ false = subst (λ v. is_named goes v ≡ false) (sym e) h in cc
    ]

    step : (b : Bool) → is_named goes first ≡ b → IsFrontAgain front first goes rest
    step true h =
        let cons : front ∷ kept goes rest ≡ first ∷ rest = rw h at same in
        record {
          first_goes = h;
          rest_stays = let e : kept goes rest ≡ rest = cc in ap length e;
          same = cc;
        }
    step false h = stays_false h (rw h at same)
