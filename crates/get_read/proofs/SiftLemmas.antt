-- Blocks at hand that are compared with their digests, from the last to the first.
use Rattle.std.proofs.Common.{◌≡◌, ◌≢◌, ℕ, ◌+◌, ◌-◌, ◌*◌, ◌<◌, ◌≤◌, ◌∙◌, List, [], length, slice_index, slice_index_or, slice_set, map, subst, sym, ap, refl, get_or-set_other, inl, inr, arith}
use Rattle.std.specs.Prelude.{All, Bool, cond, false}
use Rattle.std.specs.List.{remove, remove_range}
use Rattle.std.proofs.Math.ListN.{length-set}
use Rattle.std.proofs.lemmas.Bool.{cases_eq, cases_lt}
use Rattle.std.proofs.lemmas.Grind.{get_or-set_at}
use Rattle.std.proofs.lemmas.List.{get_or-map}
use Rattle.std.proofs.lemmas.List.Edits.{get_or-remove_above, get_or-remove_below, length-remove}
use Rattle.std.proofs.lemmas.List.Sums.{sum_by-set}
use Rattle.std.proofs.lemmas.List.Quantifiers.{all_pairs_remove}
use Rattle.sha2.specs.Sha256.{sha256}
use Rattle.call_types.specs.Good.{good_count, is_good}
use Rattle.call_types.specs.declared.why.Why.{Why}
use Rattle.call_types.specs.declared.why.Why.TheVariants.{Good, Damaged}
use Rattle.seal_file.specs.declared.damage.Damage.TheVariants.{Digest}
use Rattle.poly_code.specs.Codeword.{AreDistinct}
use Rattle.shard_file.proofs.Pieces.{get_or-pieces, length-pieces}
use Rattle.shard_file.specs.Stripes.{piece, pieces}
use Rattle.get_read.specs.declared.blocks.Blocks.{Blocks}
use Rattle.get_read.specs.Blocks.{AreAtHand, AreSifted, IsRow, IsRowOf, TellsDigest, block_at, row_at, stored_at}
use Rattle.get_read.proofs.PieceLemmas.{piece_after, piece_before, removed_long}

-- the digest of a row's block among those of all
pub digest_at : (size n : ℕ) (bytes : List ℕ) (j : ℕ) → j < n → slice_index_or (map sha256 (pieces size n bytes)) j [] ≡ sha256 (piece size bytes j)
digest_at size n bytes j low =
    get_or-map sha256 (pieces size n bytes) j [] [] (omega (arith, length-pieces size n bytes)) ∙ ap sha256 (get_or-pieces size n bytes j [] low)

-- drives that gave a block where their `Why` is good, and one that gave none less
pub count_less : (whys : List Why) (i : ℕ) (why : Why) → i < length whys → slice_index_or whys i Good ≡ Good → is_good why ≡ false
    → good_count (slice_set whys i why) + 1 ≡ good_count whys
count_less whys i why low was bad =
    let one : Why → ℕ = λ (w : Why). cond (is_good w) 1 0 in
    let moved = sum_by-set one whys i why Good low in
    let before : one (slice_index_or whys i Good) ≡ 1 = ap one was in
    let after : one why ≡ 0 = ap (λ (b : Bool). cond b 1 0) bad in
    omega (arith, moved, before, after)

-- none is compared yet
pub sifted_none : (size : ℕ) (blocks : Blocks) (whys : List Why) → AreAtHand size blocks whys
    → AreSifted size (length blocks.rows.items) blocks blocks whys whys
sifted_none size blocks whys at_hand = record {
  counted = refl;
  sum = refl;
  left = omega arith;
  fewer = omega arith;
  at_hand = at_hand;
  rows = λ j low. (j, low, (λ before. refl), refl, refl, refl);
  verified = λ j from low. absurd (omega arith);
  causes = λ drive. inl refl;
  stays = λ k low good. (k, low, refl);
}

-- the digest of a block that isn't compared yet
pub digest_now : (size place : ℕ) (old new : Blocks) (whys whys_new : List Why) (digests : List (List ℕ)) → AreSifted size (place + 1) old new whys whys_new
    → digests ≡ map sha256 (pieces size (length old.rows.items) old.bytes.items)
    → slice_index_or digests place [] ≡ sha256 (block_at size new place)
digest_now size place old new whys whys_new digests so_far are =
    let row = so_far.rows place (omega (arith, so_far.left)) in
    let at : row.0 ≡ place = row.2 (omega arith) in
    let low : place < length old.rows.items = omega (arith, row.1, at) in
    ap (λ (d : List (List ℕ)). slice_index_or d place []) are
    ∙ digest_at size (length old.rows.items) old.bytes.items place low
    ∙ ap (λ (m : ℕ). sha256 (block_at size old m)) (sym at)
    ∙ ap sha256 (sym row.5)

-- the block at the place before has its digest
pub sifted_kept : (size place : ℕ) (old new : Blocks) (whys whys_new : List Why) → AreSifted size (place + 1) old new whys whys_new
    → stored_at new place ≡ sha256 (block_at size new place) → AreSifted size place old new whys whys_new
sifted_kept size place old new whys whys_new so_far same = record {
  counted = so_far.counted;
  sum = so_far.sum;
  left = omega (arith, so_far.left);
  fewer = so_far.fewer;
  at_hand = so_far.at_hand;
  rows = λ j low. let row = so_far.rows j low in (row.0, row.1, (λ before. row.2 (omega arith)), row.3, row.4, row.5);
  verified = λ j from low. elim (cases_eq j place) [
    | inl at ↦ subst (λ (m : ℕ). stored_at new m ≡ sha256 (block_at size new m)) (sym at) same
    | inr other ↦ so_far.verified j (omega (arith, from, other)) low
  ];
  causes = so_far.causes;
  stays = so_far.stays;
}

-- rows without the one at a place are the others
record IsWithout (size place : ℕ) (new next : Blocks) : Type 0 where
  rows : next.rows.items ≡ remove new.rows.items place
  stored : next.stored.items ≡ remove new.stored.items place
  bytes : next.bytes.items ≡ remove_range new.bytes.items (size * place) (size * place + size)

-- a row is that of another place
abbrev IsSameRow : ℕ → Blocks → Blocks → ℕ → ℕ → Type 0
IsSameRow size new next j m = (row_at next j ≡ row_at new m) × (stored_at next j ≡ stored_at new m) × (block_at size next j ≡ block_at size new m)

-- where a row stood
abbrev StoodAt : ℕ → ℕ → Blocks → Blocks → ℕ → Type 0
StoodAt size place new next j = (m : ℕ) × (m < length new.rows.items) × (j < place → m ≡ j) × (place ≤ j → m ≡ j + 1) × IsSameRow size new next j m

stood : (size place : ℕ) (new next : Blocks) (whys : List Why) → place < length new.rows.items → AreAtHand size new whys → IsWithout size place new next
    → (j : ℕ) → j < length next.rows.items → StoodAt size place new next j
stood size place new next whys low at_hand is j inside =
    let shorter : length next.rows.items + 1 ≡ length new.rows.items = ap (λ (r : List ℕ). length r + 1) is.rows ∙ length-remove new.rows.items place low in
    let low_stored : place < length new.stored.items = omega (arith, low, at_hand.hashes) in
    elim (cases_lt j place) [
      | inl before ↦ (
        j,
        omega (arith, before, low),
        (λ b. refl),
        (λ from. absurd (omega (arith, before, from))),
        (
          ap (λ (r : List ℕ). slice_index r j) is.rows ∙ get_or-remove_below new.rows.items place 0 j before low,
          ap (λ (r : List (List ℕ)). slice_index_or r j []) is.stored ∙ get_or-remove_below new.stored.items place [] j before low_stored,
          ap (λ (b : List ℕ). piece size b j) is.bytes ∙ piece_before size place (length new.rows.items) j new.bytes.items at_hand.long low before,
        ),
      )
      | inr past ↦ (
        j + 1,
        omega (arith, inside, shorter),
        (λ before. absurd (omega (arith, before, past))),
        (λ from. refl),
        (
          ap (λ (r : List ℕ). slice_index r j) is.rows ∙ get_or-remove_above new.rows.items place 0 j past low,
          ap (λ (r : List (List ℕ)). slice_index_or r j []) is.stored ∙ get_or-remove_above new.stored.items place [] j past low_stored,
          ap (λ (b : List ℕ). piece size b j) is.bytes ∙ piece_after size place (length new.rows.items) j new.bytes.items at_hand.long low past,
        ),
      )
    ]

-- the rows that are left are below as many
removed_below : (rows next : List ℕ) (place most most_next : ℕ) → place < length rows → next ≡ remove rows place → most_next ≡ most
    → All (λ row. row < most) rows → All (λ row. row < most_next) next
removed_below rows next place most most_next low is same below j d lower =
    let shorter : length next + 1 ≡ length rows = ap (λ (r : List ℕ). length r + 1) is ∙ length-remove rows place low in
    elim (cases_lt j place) [
      | inl before ↦
          let at : slice_index_or next j d ≡ slice_index_or rows j d = ap (λ (r : List ℕ). slice_index_or r j d) is ∙ get_or-remove_below rows place d j before low in
          omega (arith, at, below j d (omega (arith, before, low)), same)
      | inr past ↦
          let at : slice_index_or next j d ≡ slice_index_or rows (j + 1) d = ap (λ (r : List ℕ). slice_index_or r j d) is ∙ get_or-remove_above rows place d j past low in
          omega (arith, at, below (j + 1) d (omega (arith, lower, shorter)), same)
    ]

-- a row that isn't the one at the place is left
left_row : (new next : Blocks) (place drive : ℕ) → place < length new.rows.items → next.rows.items ≡ remove new.rows.items place
    → drive ≢ row_at new place → IsRow new drive → IsRow next drive
left_row new next place drive low rows_are other (j, inside, at) =
    let shorter : length next.rows.items + 1 ≡ length new.rows.items = ap (λ (r : List ℕ). length r + 1) rows_are ∙ length-remove new.rows.items place low in
    let apart : j ≢ place = λ same. other (sym at ∙ ap (row_at new) same) in
    elim (cases_lt j place) [
      | inl before ↦ (
        j,
        omega (arith, before, low, shorter),
        ap (λ (r : List ℕ). slice_index r j) rows_are ∙ get_or-remove_below new.rows.items place 0 j before low ∙ at,
      )
      | inr past ↦
          let back : j - 1 + 1 ≡ j = omega (arith, past, apart) in (
            j - 1,
            omega (arith, inside, shorter, back),
            ap (λ (r : List ℕ). slice_index r (j - 1)) rows_are
                ∙ get_or-remove_above new.rows.items place 0 (j - 1) (omega (arith, past, apart, back)) low ∙ ap (row_at new) back ∙ at,
          )
    ]

-- the block at the place before is taken out
pub sifted_out : (size place : ℕ) (old new next : Blocks) (whys whys_new whys_next : List Why) (computed : List ℕ) → AreSifted size (place + 1) old new whys whys_new
    → stored_at new place ≢ computed → computed ≡ sha256 (block_at size new place)
    → next.rows.items ≡ remove new.rows.items place → next.stored.items ≡ remove new.stored.items place
    → next.bytes.items ≡ remove_range new.bytes.items (size * place) (size * place + size)
    → whys_next ≡ slice_set whys_new (row_at new place) (Damaged (Digest (stored_at new place) computed))
    → AreSifted size place old next whys whys_next
sifted_out size place old new next whys whys_new whys_next computed so_far differs is rows_are stored_are bytes_are whys_are =
    let row = row_at new place in
    let why : Why = Damaged (Digest (stored_at new place) computed) in
    let hand = so_far.at_hand in
    let low : place < length new.rows.items = omega (arith, so_far.left) in
    let inside : row < length whys_new = hand.below place 0 low in
    let shorter : length next.rows.items + 1 ≡ length new.rows.items = ap (λ (r : List ℕ). length r + 1) rows_are ∙ length-remove new.rows.items place low in
    let shorter_stored : length next.stored.items + 1 ≡ length new.stored.items =
    ap (λ (r : List (List ℕ)). length r + 1) stored_are ∙ length-remove new.stored.items place (omega (arith, low, hand.hashes)) in
    let counted : length whys_next ≡ length whys_new = ap (length {A = Why}) whys_are ∙ length-set whys_new row why in
    let less : good_count whys_next + 1 ≡ good_count whys_new =
    ap (λ (w : List Why). good_count w + 1) whys_are ∙ count_less whys_new row why inside (hand.good place low) refl in
    let without : IsWithout size place new next = record { rows = rows_are; stored = stored_are; bytes = bytes_are } in
    let from : (j : ℕ) → j < length next.rows.items → StoodAt size place new next j = stood size place new next whys_new low hand without in
    let first : IsRowOf size (place + 1) old new place = so_far.rows place low in
    record {
      counted = counted ∙ so_far.counted;
      sum = omega (arith, so_far.sum, less, shorter);
      left = omega (arith, so_far.left, shorter);
      fewer = omega (arith, so_far.fewer, shorter);
      at_hand = record {
        hashes = omega (arith, shorter, shorter_stored, hand.hashes);
        long = removed_long size place (length new.rows.items) (length next.rows.items) new.bytes.items next.bytes.items hand.long low shorter bytes_are;
        distinct = subst (λ (r : List ℕ). AreDistinct r) (sym rows_are) (all_pairs_remove (λ x y. x ≢ y) new.rows.items place low hand.distinct);
        below = λ j d lower. removed_below new.rows.items next.rows.items place (length whys_new) (length whys_next) low rows_are counted hand.below j d lower;
        good = λ j lower.
            let was = from j lower in
            let m = was.0 in
            let other : row_at new m ≢ row = elim (cases_lt j place) [
              | inl before ↦
                  let at : m ≡ j = was.2 before in
                  hand.distinct m place 0 (omega (arith, at, before)) low
              | inr past ↦
                  let at : m ≡ j + 1 = was.3 past in
                  λ same. hand.distinct place m 0 (omega (arith, at, past)) was.1 (sym same)
            ] in
            ap (λ (w : List Why). slice_index_or w (row_at next j) Good) whys_are
            ∙ ap (λ (r : ℕ). slice_index_or (slice_set whys_new row why) r Good) was.4.0
            ∙ get_or-set_other whys_new row (row_at new m) why Good other ∙ hand.good m was.1;
      };
      rows = λ j lower.
          let was = from j lower in
          let row_of = so_far.rows was.0 was.1 in (
            row_of.0,
            row_of.1,
            (λ before. let at : was.0 ≡ j = was.2 before in row_of.2 (omega (arith, at, before)) ∙ at),
            was.4.0 ∙ row_of.3,
            was.4.1 ∙ row_of.4,
            was.4.2 ∙ row_of.5,
          );
      verified = λ j past lower.
          let was = from j lower in
          let at : was.0 ≡ j + 1 = was.3 past in
          was.4.1 ∙ so_far.verified was.0 (omega (arith, at, past)) was.1 ∙ ap sha256 (sym was.4.2);
      causes = λ drive. elim (cases_eq drive row) [
        | inl at ↦
            let set_so : slice_index_or whys_next drive Good ≡ why =
            ap (λ (w : List Why). slice_index_or w drive Good) whys_are ∙ get_or-set_at whys_new row drive why Good at inside in
            let stored_so : stored_at old first.0 ≡ stored_at new place = sym first.4 in
            let computed_so : sha256 (block_at size old first.0) ≡ computed = ap sha256 (sym first.5) ∙ sym is in
            inr (
              first.0,
              first.1,
              sym first.3 ∙ sym at,
              (λ same. differs (sym stored_so ∙ same ∙ computed_so)),
              set_so ∙ ap (λ (s : List ℕ). Damaged (Digest s computed)) (sym stored_so)
                  ∙ ap (λ (c : List ℕ). Damaged (Digest (stored_at old first.0) c)) (sym computed_so),
            )
        | inr other ↦
            let same : slice_index_or whys_next drive Good ≡ slice_index_or whys_new drive Good =
            ap (λ (w : List Why). slice_index_or w drive Good) whys_are ∙ get_or-set_other whys_new row drive why Good other in
            elim (so_far.causes drive) [
              | inl kept ↦ inl (same ∙ kept)
              | inr told ↦ inr (subst (λ (w : Why). TellsDigest size old drive w) (sym same) told)
            ]
      ];
      stays = λ k inside_old good.
          let drive = row_at old k in
          elim (cases_eq drive row) [
            | inl at ↦
                let set_so : slice_index_or whys_next drive Good ≡ why =
                ap (λ (w : List Why). slice_index_or w drive Good) whys_are ∙ get_or-set_at whys_new row drive why Good at inside in
                absurd (let wrong : why ≡ Good = sym set_so ∙ good in cc)
            | inr other ↦
                let same : slice_index_or whys_next drive Good ≡ slice_index_or whys_new drive Good =
                ap (λ (w : List Why). slice_index_or w drive Good) whys_are ∙ get_or-set_other whys_new row drive why Good other in
                left_row new next place drive low rows_are other (so_far.stays k inside_old (sym same ∙ good))
          ];
    }
