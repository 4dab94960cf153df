use Rattle.std.proofs.Common.{◌≡◌, drop}
use Rattle.std.specs.Prelude.{is_some}
use Rattle.std.specs.List.{list_any}
use Rattle.http_wire.specs.Names.{value_of}
use Rattle.s3_request.proofs.unkept.has_any.Given as goal

abbrev pub invariant-loop-name : goal.invariant-loop-name
invariant-loop-name l = list_any (λ n. is_some (value_of l.head.lines n.now)) (drop l.name-index l.names) ≡ list_any (λ n. is_some (value_of l.head.lines n.now)) l.names
