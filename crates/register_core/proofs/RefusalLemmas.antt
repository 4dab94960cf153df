-- The letters of the lanes where a content is refused.
use Rattle.std.proofs.Common.{◌≡◌, ℕ, ◌+◌, ◌<◌, ◌≤◌, ◌∙◌, List, Option, Some, None, length, set, subst, sym, get_or-set_other, get_or-set_same, inl, inr, refl, arith}
use Rattle.std.proofs.lemmas.Bool.{cases_eq}
use Rattle.std.proofs.lemmas.List.{length-set}
use Rattle.call_types.specs.declared.why.FileKind.TheVariants.{Format}
use Rattle.call_types.specs.declared.why.Why.{Why}
use Rattle.call_types.specs.declared.why.Why.TheVariants.{Damaged, Lacks}
use Rattle.seal_file.specs.declared.damage.Damage.TheVariants.{Spelling}
use Rattle.register_file.specs.declared.record.RegFile.{RegFile}
use Rattle.register_core.specs.Found.{HasContent, RefusedLetter, found_at}
use Rattle.register_core.specs.LaneWrites.{letter_at}

-- the letters of the first lanes are refused where they have the content, and the others are as they were
pub record RefusedSoFar (files : List (Option RegFile)) (content : List ℕ) (place : ℕ) (letters whys : List Why) (k : ℕ) : Type 0 where
  pub counted : length whys ≡ length letters
  pub each : (j : ℕ) → j < k → RefusedLetter (found_at files j) content place (letter_at letters j) (letter_at whys j)
  pub others : (j : ℕ) → k ≤ j → letter_at whys j ≡ letter_at letters j

-- the letter of a lane that has the content
has_letter : (read : Option RegFile) (file : RegFile) (content : List ℕ) (place : ℕ) (letter why : Why) → read ≡ Some file → HasContent file content
    → why ≡ Damaged (Spelling place) → RefusedLetter read content place letter why
has_letter read file content place letter why is has damaged =
    subst (λ (r : Option RegFile). RefusedLetter r content place letter why) (sym is) (inl (has, damaged))

-- the letter of a lane that has not
other_letter : (read : Option RegFile) (content : List ℕ) (place : ℕ) (letter why : Why)
    → ((file : RegFile) × (read ≡ Some file) × HasContent file content → ⊥) → why ≡ letter → RefusedLetter read content place letter why
other_letter None content place letter why none same = same
other_letter (Some file) content place letter why none same = inr (λ has. none (file, refl, has), same)

-- one lane more that has the content
pub refused_yes : (files : List (Option RegFile)) (content : List ℕ) (place : ℕ) (letters whys : List Why) (k : ℕ) → k < length whys
    → (file : RegFile) × (found_at files k ≡ Some file) × HasContent file content
    → RefusedSoFar files content place letters whys k → RefusedSoFar files content place letters (set whys k (Damaged (Spelling place))) (k + 1)
refused_yes files content place letters whys k low has so = record {
  counted = length-set whys k (Damaged (Spelling place)) ∙ so.counted;
  each = λ j below. elim (cases_eq j k) [
    | inl same ↦ subst (λ (i : ℕ). RefusedLetter (found_at files i) content place (letter_at letters i) (letter_at (set whys k (Damaged (Spelling place))) i))
        (sym same) (has_letter (found_at files k) has.0 content place _ _ has.1 has.2 (get_or-set_same whys k (Damaged (Spelling place)) (Lacks Format) low))
    | inr other ↦ subst (λ (why : Why). RefusedLetter (found_at files j) content place (letter_at letters j) why)
        (sym (get_or-set_other whys k j (Damaged (Spelling place)) (Lacks Format) other)) (so.each j (omega arith))
  ];
  others = λ j from. get_or-set_other whys k j (Damaged (Spelling place)) (Lacks Format) (omega arith) ∙ so.others j (omega arith);
}

-- one lane more that has not
pub refused_no : (files : List (Option RegFile)) (content : List ℕ) (place : ℕ) (letters whys : List Why) (k : ℕ)
    → ((file : RegFile) × (found_at files k ≡ Some file) × HasContent file content → ⊥)
    → RefusedSoFar files content place letters whys k → RefusedSoFar files content place letters whys (k + 1)
refused_no files content place letters whys k none so = record {
  counted = so.counted;
  each = λ j below. elim (cases_eq j k) [
    | inl same ↦ subst (λ (i : ℕ). RefusedLetter (found_at files i) content place (letter_at letters i) (letter_at whys i)) (sym same)
        (other_letter (found_at files k) content place _ _ none (so.others k (omega arith)))
    | inr other ↦ so.each j (omega arith)
  ];
  others = λ j from. so.others j (omega arith);
}
