use Rattle.std.proofs.Common.{◌≡◌, ◌+◌, ◌-◌, ◌≤◌, length, vec_len}
use Rattle.call_types.specs.Feeds.{Gave}
use Rattle.put_stage.proofs.fills.read_into.Given as goal

-- the bytes so far are what the feed gave, and its source did not fail
abbrev pub invariant-loop-into : goal.invariant-loop-into
invariant-loop-into g l = let F = g.F.Feed in record {
  few : length l.into.items ≤ l.count;
  left : length l.into.items + l.left ≡ l.initial.left;
  gave : Gave l.into.items (F.seen l.initial.feed) (F.seen l.feed);
  calm : F.faults l.feed ≡ F.faults l.initial.feed;
}

abbrev pub decreases-loop-into : goal.decreases-loop-into
decreases-loop-into g l = l.count - vec_len l.into
