use Rattle.std.proofs.Common.{◌≤◌, ◌-◌}
use Rattle.get_read.proofs.fetch.next_in_use.Given as goal

abbrev pub invariant-loop-next : goal.invariant-loop-next
invariant-loop-next l = record {
  least : l.from ≤ l.next;
  most : l.next ≤ l.set.drives;
}

abbrev pub decreases-loop-next : goal.decreases-loop-next
decreases-loop-next l = l.set.drives - l.next
