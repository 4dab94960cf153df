-- Blocks at hand, with one more, and those that are left of them.
use Rattle.std.proofs.Common.{◌≡◌, ◌≢◌, ◌∙◌, ℕ, ◌+◌, ◌*◌, ◌<◌, ◌≤◌, List, [], ◌∷◌, ◌++◌, length, slice_index, slice_index_or, ap, subst, sym, inl, inr, arith}
use Rattle.std.specs.Prelude.{All}
use Rattle.std.proofs.Math.Seq.{get_or-append_seam}
use Rattle.std.proofs.lemmas.Bool.{cases_lt}
use Rattle.std.proofs.lemmas.List.{get_or_append_left, get_or_default, length-append}
use Rattle.std.proofs.lemmas.List.Elements.{All-push, All-weaker}
use Rattle.std.proofs.lemmas.List.Quantifiers.{all_pairs_push}
use Rattle.call_types.specs.declared.why.Why.{Why}
use Rattle.call_types.specs.declared.why.Why.TheVariants.{Good}
use Rattle.poly_code.specs.Codeword.{AreDistinct}
use Rattle.get_read.specs.declared.blocks.Blocks.{Blocks}
use Rattle.get_read.specs.Blocks.{AreAtHand, AreSifted, row_at}

-- the drives of the blocks, with one more
pub rows_below : (place : ℕ) (found next : Blocks) → next.rows.items ≡ found.rows.items ++ place ∷ [] → All (λ row. row < place) found.rows.items
    → All (λ row. row < place + 1) next.rows.items
rows_below place found next rows_are before = subst (λ (r : List ℕ). All (λ row. row < place + 1) r) (sym rows_are)
    (All-push (λ row. row < place + 1) found.rows.items place (All-weaker (λ row. row < place) (λ row. row < place + 1) (λ row low. omega arith) found.rows.items before) (omega arith))

-- blocks at hand, with one more
pub at_hand_added : (size place : ℕ) (found next : Blocks) (whys new : List Why) (stored block : List ℕ)
    → next.rows.items ≡ found.rows.items ++ place ∷ [] → next.stored.items ≡ found.stored.items ++ stored ∷ []
    → next.bytes.items ≡ found.bytes.items ++ block → length block ≡ size
    → AreAtHand size found whys → All (λ row. row < place) found.rows.items → place < length whys → length new ≡ length whys
    → ((k : ℕ) → k < place + 1 → slice_index_or new k Good ≡ slice_index_or whys k Good) → slice_index_or whys place Good ≡ Good
    → AreAtHand size next new
at_hand_added size place found next whys new stored block rows_are stored_are bytes_are long hand before inside counted same good =
    let rows = found.rows.items in
    let count_rows : length next.rows.items ≡ length rows + 1 = ap (length {A = ℕ}) rows_are ∙ length-append rows (place ∷ []) in
    let count_stored : length next.stored.items ≡ length found.stored.items + 1 =
    ap (length {A = List ℕ}) stored_are ∙ length-append found.stored.items (stored ∷ []) in
    let before_row : (j : ℕ) → j < length rows → row_at next j ≡ row_at found j =
    λ j low. ap (λ (r : List ℕ). slice_index r j) rows_are ∙ get_or_append_left rows (place ∷ []) 0 j low in
    let last_row : row_at next (length rows) ≡ place = ap (λ (r : List ℕ). slice_index r (length rows)) rows_are ∙ get_or-append_seam rows place [] 0 in
    let below : All (λ row. row < place + 1) next.rows.items = rows_below place found next rows_are before in
    record {
      hashes = omega (arith, hand.hashes, count_stored, count_rows);
      long =
          let longer : (length rows + 1) * size ≡ length rows * size + size = omega arith in
          ap (length {A = ℕ}) bytes_are ∙ length-append found.bytes.items block ∙ omega (arith, hand.long, long, longer, ap (λ (m : ℕ). m * size) count_rows);
      distinct = subst (λ (r : List ℕ). AreDistinct r) (sym rows_are)
          (all_pairs_push (λ x y. x ≢ y) rows place hand.distinct (λ k d low is. omega (arith, before k d low, is)));
      below = All-weaker (λ row. row < place + 1) (λ row. row < length new) (λ row low. omega (arith, low, inside, counted)) next.rows.items below;
      good = λ j low. elim (cases_lt j (length rows)) [
        | inl lower ↦
            let row : row_at found j < place = before j 0 lower in
            ap (λ (r : ℕ). slice_index_or new r Good) (before_row j lower) ∙ same (row_at found j) (omega (arith, row)) ∙ hand.good j lower
        | inr past ↦
            let at : j ≡ length rows = omega (arith, low, count_rows) in
            ap (λ (m : ℕ). slice_index_or new (row_at next m) Good) at ∙ ap (λ (r : ℕ). slice_index_or new r Good) last_row ∙ same place (omega arith) ∙ good
      ];
    }

-- what was not tried is not compared
pub sifted_below : (size place t : ℕ) (old new : Blocks) (whys letters : List Why) → AreSifted size place old new whys letters
    → All (λ row. row < t) old.rows.items → All (λ row. row < t) new.rows.items
sifted_below size place t old new whys letters sifted before = λ j d low.
    let row_of = sifted.rows j low in
    let at : slice_index_or new.rows.items j d ≡ row_at new j = get_or_default new.rows.items j d 0 low in
    omega (arith, at, row_of.3, before row_of.0 0 row_of.1)

pub sifted_untried : (size place t : ℕ) (old new : Blocks) (whys letters : List Why) → AreSifted size place old new whys letters
    → All (λ row. row < t) old.rows.items → ((k : ℕ) → t ≤ k → slice_index_or whys k Good ≡ Good)
    → (k : ℕ) → t ≤ k → slice_index_or letters k Good ≡ Good
sifted_untried size place t old new whys letters sifted before good k past = elim (sifted.causes k) [
  | inl same ↦ same ∙ good k past
  | inr told ↦ absurd (omega (arith, past, told.2, before told.0 0 told.1))
]
