use Rattle.std.proofs.Common.{◌≡◌, ◌-◌, ◌≤◌, ◌++◌, take, drop}
use Rattle.s3_reply.specs.Escaping.{escaped}
use Rattle.s3_reply.proofs.escaping.push_text.Given as goal

abbrev pub invariant-loop-k : goal.invariant-loop-k
invariant-loop-k l = record {
  within : l.from ≤ l.k;
  written : l.out.items ++ take (l.k - l.from) (drop l.from l.text) ≡ l.initial.out.items ++ escaped (take l.k l.text);
}
