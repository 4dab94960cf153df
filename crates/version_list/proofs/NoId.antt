-- The test of zeros says what it tests.
use Rattle.std.proofs.Common.{◌≡◌, ℕ, zero, suc, Bool, true, false, List, [], ◌∷◌, length, refl, sym, arith, inl, inr}
use Rattle.std.specs.Prelude.{replicate, ◌==◌}
use Rattle.std.specs.List.{list_all}
use Rattle.std.specs.Bool.{OnTrue}
use Rattle.std.proofs.lemmas.Bool.{eqb-true, cases_lt}
use Rattle.std.proofs.lemmas.List.{get_or-replicate, get_or_past}
use Rattle.field_reader.specs.Spelling.{IsBytes}
use Rattle.stamp_id.specs.IdField.{is_id}
use Rattle.stamp_id.proofs.IdTests.{both_true}
use Rattle.version_list.specs.Rows.{no_id}
use Rattle.version_list.specs.Layout.{is_no_id}

-- zeros are none, and no id
pub no_id-none : is_no_id no_id ≡ true
unfolding is_no_id no_id
no_id-none = refl

pub no_id-id : is_id no_id ≡ false
unfolding is_id no_id
no_id-id = refl

pub no_id-size : length no_id ≡ 16
unfolding no_id
no_id-size = refl

pub no_id-bytes : IsBytes no_id
unfolding no_id
no_id-bytes place = elim (cases_lt place 16) [
  | inl lt ↦ rw (get_or-replicate {A = ℕ} 16 place 0 0 lt) (omega arith)
  | inr le ↦ rw (get_or_past no_id place 0 le) (omega arith)
]

zeros : (n : ℕ) (bytes : List ℕ) → length bytes ≡ n → list_all (λ byte. byte == 0) bytes ≡ true → bytes ≡ replicate n 0
zeros zero [] sized e = refl
zeros zero (b ∷ bytes) sized e = absurd (omega arith)
zeros (suc n) [] sized e = absurd (omega arith)
zeros (suc n) (b ∷ bytes) sized e =
    let t = both_true _ _ e in
    let none : b ≡ 0 = eqb-true _ _ t.0 in
    let rest : bytes ≡ replicate n 0 = zeros n bytes (omega arith) t.1 in
    cc

-- 16 zero bytes are those that stand where there is no id
pub no_id-from : (bytes : List ℕ) → length bytes ≡ 16 → is_no_id bytes ≡ true → bytes ≡ no_id
unfolding is_no_id no_id
no_id-from bytes sized e = zeros 16 bytes sized e

pub on_no_id : (answer : Bool) (bytes : List ℕ) → length bytes ≡ 16 → answer ≡ is_no_id bytes → OnTrue answer (bytes ≡ no_id)
on_no_id true bytes sized e = no_id-from bytes sized (sym e)
on_no_id false bytes sized e = tt
