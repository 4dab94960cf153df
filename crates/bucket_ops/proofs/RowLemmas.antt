-- A row that is put in its place among rows that rise.
use Rattle.std.proofs.Common.{◌≡◌, ◌≢◌, ℕ, zero, suc, ◌<◌, List, [], ◌∷◌, All, Contains, length, slice_index_or, refl, sym, subst, arith}
use Rattle.std.specs.List.{insert}
use Rattle.std.specs.List.Sorted.{IsStrictlySortedBy}
use Rattle.std.proofs.lemmas.List.Elements.{All-cons, All-from_recursion, All-weaker, Contains-append_right, Contains-get_or, recursion_from_All}
use Rattle.std.proofs.lemmas.List.Sorted.{All-permutation, Contains-permutation, IsPermutation-insert}
use Rattle.std.specs.declared.cmp.Ordering.TheVariants.{Less}
use Rattle.bucket_book.specs.declared.record.BucketRecord.{BucketRecord}
use Rattle.call_types.specs.declared.reply.BucketRow.{BucketRow}
use Rattle.drive_base.specs.Names.{IsBefore}
use Rattle.receipts.specs.BucketLists.{row_order}
use Rattle.bucket_ops.specs.Rows.{PutsRow, row_of}
use Rattle.receipts.proofs.OrderLemmas.{before_trans, behind_other}

-- what is at or behind a name that is none of a list's stands behind it, where the first row does
head_before : (row first : BucketRow) (rows : List BucketRow) → IsStrictlySortedBy row_order (first ∷ rows) → IsBefore row.name first.name
    → All (λ other. row_order row other ≡ Less) (first ∷ rows)
unfolding IsStrictlySortedBy
head_before row first rows rising before = All-cons (λ other. row_order row other ≡ Less) first rows before
    (All-weaker (λ other. row_order first other ≡ Less) (λ other. row_order row other ≡ Less)
    (λ other later. before_trans row.name first.name other.name before later) rows (All-from_recursion (λ other. row_order first other ≡ Less) rows rising.0))

-- of an element put into a list the same holds as of the others
all_insert : (P : BucketRow → Type 0) (rows : List BucketRow) (i : ℕ) (row : BucketRow) → P row → All P rows → All P (insert rows i row)
all_insert P rows i row own all = All-permutation P (row ∷ rows) (insert rows i row) (IsPermutation-insert rows i row) (All-cons P row rows own all)

-- rows go on to rise
pub insert_rises : (rows : List BucketRow) (i : ℕ) (row : BucketRow) → IsStrictlySortedBy row_order rows
    → ((k : ℕ) (d : BucketRow) → k < i → k < length rows → IsBefore (slice_index_or rows k d).name row.name)
    → ((d : BucketRow) → i < length rows → IsBefore row.name (slice_index_or rows i d).name)
    → IsStrictlySortedBy row_order (insert rows i row)
unfolding IsStrictlySortedBy
insert_rises [] zero row rising before after = (tt, tt)
insert_rises [] (suc i) row rising before after = (tt, tt)
insert_rises (first ∷ rows) zero row rising before after =
    (recursion_from_All (λ other. row_order row other ≡ Less) (first ∷ rows) (head_before row first rows rising (after first (omega arith))), rising)
insert_rises (first ∷ rows) (suc i) row rising before after = (
  recursion_from_All (λ other. row_order first other ≡ Less) (insert rows i row) (all_insert (λ other. row_order first other ≡ Less) rows i row
      (before zero first (omega arith) (omega arith)) (All-from_recursion (λ other. row_order first other ≡ Less) rows rising.0)),
  insert_rises rows i row rising.1 (λ k d below inside. before (suc k) d (omega (arith, below)) (omega (arith, inside)))
      (λ d inside. after d (omega (arith, inside))),
)

-- the rows after one more: they rise, where none was of its name
pub puts_rises : (bucket : List ℕ) (there : BucketRecord) (old new : List BucketRow) → IsStrictlySortedBy row_order old
    → ((row : BucketRow) → Contains old row → row.name ≢ bucket) → PutsRow bucket there old new → IsStrictlySortedBy row_order new
puts_rises bucket there old new rising other puts = subst (IsStrictlySortedBy row_order) (sym puts.put)
    (insert_rises old puts.place (row_of bucket there) rising (λ k d below inside. puts.place_is.before k d below)
    (λ d inside. behind_other bucket (slice_index_or old puts.place d).name (puts.place_is.after d inside) (other _ (Contains-get_or old puts.place d inside))))

pub puts_own : (bucket : List ℕ) (there : BucketRecord) (old new : List BucketRow) → PutsRow bucket there old new → Contains new (row_of bucket there)
puts_own bucket there old new puts = subst (λ rows. Contains rows (row_of bucket there)) (sym puts.put)
    (Contains-permutation (row_of bucket there ∷ old) (insert old puts.place (row_of bucket there)) (row_of bucket there)
    (IsPermutation-insert old puts.place (row_of bucket there)) (zero, omega arith, refl))

pub puts_keeps : (bucket : List ℕ) (there : BucketRecord) (old new : List BucketRow) (row : BucketRow) → PutsRow bucket there old new → Contains old row → Contains new row
puts_keeps bucket there old new row puts was = subst (λ rows. Contains rows row) (sym puts.put)
    (Contains-permutation (row_of bucket there ∷ old) (insert old puts.place (row_of bucket there)) row
    (IsPermutation-insert old puts.place (row_of bucket there)) (Contains-append_right (row_of bucket there ∷ []) old row was))

pub puts_all : (P : BucketRow → Type 0) (bucket : List ℕ) (there : BucketRecord) (old new : List BucketRow) → PutsRow bucket there old new → P (row_of bucket there)
    → All P old → All P new
puts_all P bucket there old new puts own all = subst (All P) (sym puts.put) (all_insert P old puts.place (row_of bucket there) own all)
