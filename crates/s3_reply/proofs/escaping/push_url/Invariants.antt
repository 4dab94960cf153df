use Rattle.std.proofs.Common.{◌≡◌, ◌-◌, ◌≤◌, ◌++◌, take, drop}
use Rattle.s3_reply.specs.Escaping.{url_encoded}
use Rattle.s3_reply.proofs.escaping.push_url.Given as goal

abbrev pub invariant-loop-k : goal.invariant-loop-k
invariant-loop-k l = record {
  within : l.from ≤ l.k;
  written : l.out.items ++ take (l.k - l.from) (drop l.from l.name) ≡ l.initial.out.items ++ url_encoded (take l.k l.name);
}
