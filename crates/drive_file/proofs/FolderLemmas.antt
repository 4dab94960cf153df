-- The folders of a name: one for each group but the last, each in the one before it.
use Rattle.std.specs.Prelude.{◌≡◌, ◌≤◌, ◌<◌, ℕ, zero, suc, Bool, true, false, cond, List, [], ◌∷◌, ◌++◌, length, drop, codes, nat_le, refl}
use Rattle.std.proofs.Common.{sym, ap, ◌∙◌, arith}
use Rattle.std.proofs.lemmas.Bool.{le-leb}
use Rattle.std.proofs.lemmas.Bool.Decides.{nat_tests}
use Rattle.std.proofs.lemmas.List.{append_assoc, length-drop}
use Rattle.drive_file.specs.Paths.{group_folder, inner_within}

-- a name that fits in one group has none
pub inner_last : (groups : ℕ) (text name : List ℕ) → length name ≤ 100 → inner_within groups text name ≡ []
unfolding inner_within
inner_last zero text name short = refl
inner_last (suc groups) text name short = at (nat_le (length name) 100) (le-leb (length name) 100 short)
  where
    at : (b : Bool) → b ≡ true
        → cond b [] (group_folder text name ∷ inner_within groups (group_folder text name ++ codes "/") (drop 100 name)) ≡ []
    at true e = refl
    at false e = absurd (cc)

-- of a longer one the folder of the first group comes first
inner_first : (groups : ℕ) (text name : List ℕ) → 100 < length name
    → inner_within (suc groups) text name ≡ group_folder text name ∷ inner_within groups (group_folder text name ++ codes "/") (drop 100 name)
unfolding inner_within
inner_first groups text name long = at (nat_le (length name) 100) (grind (arith, nat_tests))
  where
    at : (b : Bool) → b ≡ false
        → cond b [] (group_folder text name ∷ inner_within groups (group_folder text name ++ codes "/") (drop 100 name))
        ≡ group_folder text name ∷ inner_within groups (group_folder text name ++ codes "/") (drop 100 name)
    at true e = absurd (cc)
    at false e = refl

-- one folder more was listed
pub cut_folder : (groups : ℕ) (text name : List ℕ) (listed : List (List ℕ)) → 100 < length name → length name ≤ groups
    → (fewer : ℕ) × (length (drop 100 name) ≤ fewer)
    × ((listed ++ (group_folder text name ∷ [])) ++ inner_within fewer (group_folder text name ++ codes "/") (drop 100 name)
    ≡ listed ++ inner_within groups text name)
cut_folder zero text name listed long enough = absurd (omega arith)
cut_folder (suc groups) text name listed long enough = (
  groups,
  (let e = length-drop 100 name in omega (arith, e)),
  append_assoc listed (group_folder text name ∷ []) (inner_within groups (group_folder text name ++ codes "/") (drop 100 name))
      ∙ ap (λ rest. listed ++ rest) (sym (inner_first groups text name long)),
)
