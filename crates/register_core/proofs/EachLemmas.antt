-- What holds of each lane after one of them was called.
use Rattle.std.proofs.Common.{ℕ, ◌+◌, ◌<◌, ◌≡◌, ◌∙◌, List, length, slice_index_or, set, subst, sym, get_or-set_other, get_or-set_same, inl, inr, arith}
use Rattle.std.proofs.lemmas.Bool.{cases_eq}
use Rattle.std.proofs.lemmas.List.{length-set}
use Rattle.call_types.specs.declared.why.FileKind.TheVariants.{Format}
use Rattle.call_types.specs.declared.why.Why.{Why}
use Rattle.call_types.specs.declared.why.Why.TheVariants.{Good, Lacks}
use Rattle.drive_base.specs.View.{AllOnlyRead, OnlyRead, view, views}
use Rattle.drive_base.specs.declared.drive.Drive.{Ghosts}
use Rattle.drive_base.proofs.ViewLemmas.{at_each_view}
use Rattle.file_access.proofs.EachLemmas.{AreGoodFrom, set_each}
use Rattle.register_core.specs.LaneWrites.{letter_at}

-- a drive that was called has its letter, and those before it have theirs
pub letters_more : (D : Type 0) (P : ℕ → Why → D → D → Type 0) (whys : List Why) (old now : List D) (i : ℕ) (why : Why) (x : D)
    → i < length whys → i < length now
    → ((d : D) → P i why (slice_index_or old i d) x)
    → ((k : ℕ) (d : D) → k < i → P k (letter_at whys k) (slice_index_or old k d) (slice_index_or now k d))
    → (k : ℕ) (d : D) → k < i + 1
    → P k (letter_at (set whys i why) k) (slice_index_or old k d) (slice_index_or (set now i x) k d)
letters_more D P whys old now i why x low inside one before k d below = elim (cases_eq k i) [
  | inl same ↦ subst (λ (m : ℕ). P m (letter_at (set whys i why) m) (slice_index_or old m d) (slice_index_or (set now i x) m d)) (sym same)
      (subst (λ (v : Why). P i v (slice_index_or old i d) (slice_index_or (set now i x) i d)) (sym (get_or-set_same whys i why (Lacks Format) low))
      (subst (λ (y : D). P i why (slice_index_or old i d) y) (sym (get_or-set_same now i x d inside)) (one d)))
  | inr other ↦ subst (λ (v : Why). P k v (slice_index_or old k d) (slice_index_or (set now i x) k d)) (sym (get_or-set_other whys i k why (Lacks Format) other))
      (subst (λ (y : D). P k (letter_at whys k) (slice_index_or old k d) y) (sym (get_or-set_other now i k x d other))
      (before k d (omega arith)))
]

-- a drive that was called keeps a good letter, and those before it have theirs
pub letters_same : (D : Type 0) (P : ℕ → Why → D → D → Type 0) (whys : List Why) (old now : List D) (i : ℕ) (x : D)
    → i < length whys → i < length now → AreGoodFrom i whys
    → ((d : D) → P i Good (slice_index_or old i d) x)
    → ((k : ℕ) (d : D) → k < i → P k (letter_at whys k) (slice_index_or old k d) (slice_index_or now k d))
    → (k : ℕ) (d : D) → k < i + 1
    → P k (letter_at whys k) (slice_index_or old k d) (slice_index_or (set now i x) k d)
letters_same D P whys old now i x low inside good one before k d below = elim (cases_eq k i) [
  | inl same ↦ subst (λ (m : ℕ). P m (letter_at whys m) (slice_index_or old m d) (slice_index_or (set now i x) m d)) (sym same)
      (subst (λ (v : Why). P i v (slice_index_or old i d) (slice_index_or (set now i x) i d)) (sym (good i (omega arith) low))
      (subst (λ (y : D). P i Good (slice_index_or old i d) y) (sym (get_or-set_same now i x d inside)) (one d)))
  | inr other ↦ subst (λ (y : D). P k (letter_at whys k) (slice_index_or old k d) y) (sym (get_or-set_other now i k x d other))
      (before k d (omega arith))
]

-- drives that were only read, and one more that was
pub only_read_more : {D : Type 0} (ghosts : Ghosts D) (old now : List D) (i : ℕ) (x : D) → length now ≡ length old → i < length now
    → ((d : D) → OnlyRead (view ghosts (slice_index_or old i d)) (view ghosts x))
    → ((k : ℕ) (d : D) → OnlyRead (view ghosts (slice_index_or old k d)) (view ghosts (slice_index_or now k d)))
    → AllOnlyRead (views ghosts old) (views ghosts (set now i x))
only_read_more {D} ghosts old now i x long low one before =
    let each : (k : ℕ) (d : D) → OnlyRead (view ghosts (slice_index_or old k d)) (view ghosts (slice_index_or (set now i x) k d)) =
    set_each D (λ (k : ℕ) (a b : D). OnlyRead (view ghosts a) (view ghosts b)) old now i x low one before in
    at_each_view ghosts (λ k. OnlyRead) old (set now i x) (length-set now i x ∙ long) (λ k d within. each k d)
