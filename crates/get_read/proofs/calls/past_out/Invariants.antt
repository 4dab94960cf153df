use Rattle.std.proofs.Common.{◌≡◌, ◌<◌, ◌≤◌, ◌+◌, ◌-◌, length, slice_index_or, ℕ}
use Rattle.std.specs.Int.{IsBitSet}
use Rattle.call_types.specs.Good.{good_count}
use Rattle.call_types.specs.declared.why.FileKind.TheVariants.{Format}
use Rattle.call_types.specs.declared.why.Why.TheVariants.{Good, Lacks}
use Rattle.get_read.proofs.calls.past_out.Given as goal

-- the drives so far are out
abbrev pub invariant-loop-next : goal.invariant-loop-next
invariant-loop-next l = record {
  least : l.from ≤ l.next;
  most : l.next ≤ l.set.drives;
  counted : length l.whys ≡ l.set.drives;
  before : (k : ℕ) → k < l.from → slice_index_or l.whys k Good ≡ slice_index_or l.initial.whys k Good;
  out : (k : ℕ) → l.from ≤ k → k < l.next → IsBitSet l.set.out k × (slice_index_or l.whys k Good ≡ Lacks Format);
  untried : (k : ℕ) → l.next ≤ k → slice_index_or l.whys k Good ≡ Good;
  sum : good_count l.whys + l.next ≡ good_count l.initial.whys + l.from;
}

abbrev pub decreases-loop-next : goal.decreases-loop-next
decreases-loop-next l = l.set.drives - l.next
