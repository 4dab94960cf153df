use Rattle.std.proofs.Common.{◌≡◌, ◌≤◌, take}
use Rattle.std.specs.List.{count_by}
use Rattle.call_types.specs.Good.{is_good}
use Rattle.call_types.proofs.why.Whys.good.Given as goal

abbrev pub invariant-loop-k : goal.invariant-loop-k
invariant-loop-k l = record {
  counted : l.count ≡ count_by is_good (take l.k l.self);
  few : l.count ≤ l.k;
}
