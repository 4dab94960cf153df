-- What leaving a drive, and those after it that are out, does to the letters.
use Rattle.std.specs.Prelude.{◌≡◌, ◌<◌, ◌≤◌, ◌+◌, ℕ, List, length, slice_index_or, slice_set}
use Rattle.std.specs.Int.{IsBitSet}
use Rattle.call_types.specs.Good.{good_count}
use Rattle.call_types.specs.declared.why.FileKind.TheVariants.{Format}
use Rattle.call_types.specs.declared.why.Why.{Why}
use Rattle.call_types.specs.declared.why.Why.TheVariants.{Good, Lacks}
use Rattle.drive_base.specs.declared.plan.SetPlan.{SetPlan}

-- from a place on the drives up to the next one in use are passed over: they are out, and their letters say so
pub record PassesOver (set : SetPlan) (from next : ℕ) (old new : List Why) : Type 0 where
  pub least : from ≤ next
  pub most : next ≤ set.drives
  pub in_use : next < set.drives → IsBitSet set.out next → ⊥
  pub counted : length new ≡ length old
  pub before : (k : ℕ) → k < from → slice_index_or new k Good ≡ slice_index_or old k Good
  pub out : (k : ℕ) → from ≤ k → k < next → IsBitSet set.out k × (slice_index_or new k Good ≡ Lacks Format)
  pub untried : (k : ℕ) → next ≤ k → slice_index_or new k Good ≡ Good
  pub sum : good_count new + next ≡ good_count old + from

-- a drive is left with its letter, and so are those after it that are out
pub record PassesDrive (set : SetPlan) (why : Why) (place next : ℕ) (old new : List Why) : Type 0 where
  pub past : place < next
  pub most : next ≤ set.drives
  pub in_use : next < set.drives → IsBitSet set.out next → ⊥
  pub counted : length new ≡ length old
  pub before : (k : ℕ) → k < place → slice_index_or new k Good ≡ slice_index_or old k Good
  pub letter : slice_index_or new place Good ≡ why
  pub out : (k : ℕ) → place < k → k < next → IsBitSet set.out k × (slice_index_or new k Good ≡ Lacks Format)
  pub untried : (k : ℕ) → next ≤ k → slice_index_or new k Good ≡ Good
  pub sum : good_count new + next ≡ good_count (slice_set old place why) + (place + 1)
