-- What holds of each drive after one of them was called.
use Rattle.std.proofs.Common.{◌≡◌, ◌≢◌, ℕ, ◌+◌, ◌<◌, ◌≤◌, ◌∙◌, [], ◌∷◌, ◌++◌, List, Option, None, ap, length, slice_index_or, set, subst, sym, get_or-set_other, get_or-set_same, inl, inr, arith}
use Rattle.std.proofs.Math.Seq.{get_or-append_seam}
use Rattle.std.proofs.lemmas.Bool.{cases_eq}
use Rattle.std.proofs.lemmas.Grind.{get_or-set_at}
use Rattle.std.proofs.lemmas.List.{get_or_append_left, length-set}
use Rattle.call_types.specs.declared.why.FileKind.TheVariants.{Format}
use Rattle.call_types.specs.declared.why.Why.{Why}
use Rattle.call_types.specs.declared.why.Why.TheVariants.{Good, Lacks}

-- one drive stands in the relation of its index to what it was, and the others do
pub set_each : (D : Type 0) (R : ℕ → D → D → Type 0) (old now : List D) (i : ℕ) (x : D) → i < length now
    → ((d : D) → R i (slice_index_or old i d) x)
    → ((k : ℕ) (d : D) → R k (slice_index_or old k d) (slice_index_or now k d))
    → (k : ℕ) (d : D) → R k (slice_index_or old k d) (slice_index_or (set now i x) k d)
set_each D R old now i x low one others k d = elim (cases_eq k i) [
  | inl same ↦ subst (λ (v : D). R k (slice_index_or old k d) v) (sym (get_or-set_at now i k x d same low))
      (subst (λ (m : ℕ). R m (slice_index_or old m d) x) (sym same) (one d))
  | inr other ↦ subst (λ (v : D). R k (slice_index_or old k d) v) (sym (get_or-set_other now i k x d other)) (others k d)
]

-- the letter of a drive
abbrev pub letter_at : List Why → ℕ → Why
letter_at whys k = slice_index_or whys k (Lacks Format)

-- the letters from a place on are good
abbrev pub AreGoodFrom : ℕ → List Why → Type 0
AreGoodFrom i whys = (k : ℕ) → i ≤ k → k < length whys → letter_at whys k ≡ Good

-- the letters from the next place on stay good
pub good_after : (whys : List Why) (i : ℕ) (why : Why) → AreGoodFrom i whys → AreGoodFrom (i + 1) (set whys i why)
good_after whys i why good k from low =
    get_or-set_other whys i k why (Lacks Format) (omega arith)
    ∙ good k (omega arith) (omega (arith, length-set whys i why))

-- what was found on a drive, none where it gave nothing good
abbrev pub found_at : {F : Type 0} → List (Option F) → ℕ → Option F
found_at found k = slice_index_or found k None

-- one drive more was read
pub found_more : {F : Type 0} (D : Type 0) (P : ℕ → Option F → Why → D → D → Type 0) (files : List (Option F)) (before whys : List Why) (old now : List D)
    (i : ℕ) (file : Option F) (why : Why) (x : D) → length files ≡ i → i < length now
    → letter_at whys i ≡ why → ((k : ℕ) → k ≢ i → letter_at whys k ≡ letter_at before k)
    → ((d : D) → P i file why (slice_index_or old i d) x)
    → ((k : ℕ) (d : D) → k < i → P k (found_at files k) (letter_at before k) (slice_index_or old k d) (slice_index_or now k d))
    → (k : ℕ) (d : D) → k < i + 1
    → P k (found_at (files ++ file ∷ []) k) (letter_at whys k) (slice_index_or old k d) (slice_index_or (set now i x) k d)
found_more {F} D P files before whys old now i file why x long inside here apart one others k d below =
    let last : found_at (files ++ file ∷ []) i ≡ file =
    ap (found_at (files ++ file ∷ [])) (sym long) ∙ get_or-append_seam files file [] None in
    elim (cases_eq k i) [
      | inl same ↦ subst (λ (m : ℕ). P m (found_at (files ++ file ∷ []) m) (letter_at whys m) (slice_index_or old m d) (slice_index_or (set now i x) m d)) (sym same)
          (subst (λ (f : Option F). P i f (letter_at whys i) (slice_index_or old i d) (slice_index_or (set now i x) i d)) (sym last)
          (subst (λ (v : Why). P i file v (slice_index_or old i d) (slice_index_or (set now i x) i d)) (sym here)
          (subst (λ (y : D). P i file why (slice_index_or old i d) y) (sym (get_or-set_same now i x d inside)) (one d))))
      | inr other ↦
          subst (λ (f : Option F). P k f (letter_at whys k) (slice_index_or old k d) (slice_index_or (set now i x) k d))
          (sym (get_or_append_left files (file ∷ []) None k (omega arith)))
          (subst (λ (v : Why). P k (found_at files k) v (slice_index_or old k d) (slice_index_or (set now i x) k d)) (sym (apart k other))
          (subst (λ (y : D). P k (found_at files k) (letter_at before k) (slice_index_or old k d) y) (sym (get_or-set_other now i k x d other))
          (others k d (omega arith))))
    ]
