use Rattle.std.proofs.Common.{◌≡◌, ◌++◌, map}
use Rattle.form_urlencoded.specs.Form.{raw_pairs}
use Rattle.form_urlencoded.specs.Parse.{owned_pairs_left}
use Rattle.s3_request.specs.Query.{seen, pair_of}
use Rattle.s3_request.proofs.query.Query.read.Given as goal

abbrev pub invariant-loop-pair : goal.invariant-loop-pair
invariant-loop-pair l = map seen l.arguments.items ++ map pair_of (owned_pairs_left l.pair-iterator) ≡ map pair_of (raw_pairs l.query)
