use Rattle.std.proofs.Common.{List, ℕ, codes, subst}
use Rattle.std.specs.Prelude.{IsTrue, ◌↔◌}
use Rattle.http_wire.specs.Framing.{HasAwsChunked}
use Rattle.http_wire.proofs.FramingLemmas.{meets_iff, none_meets}
use Rattle.http_wire.proofs.framing.has_aws_chunks.Goals as goal

pub returns-in-Some : goal.returns-in-Some
returns-in-Some c =
    meets_iff (codes "content-encoding") c.args.head.now.lines HasAwsChunked c.in-Some.i c.has_aws_chunked.result c.in-Some.ensures
    (subst (λ (v : List ℕ). IsTrue c.has_aws_chunked.result ↔ HasAwsChunked v) c.value.ensures c.has_aws_chunked.ensures)

pub returns-in-None : goal.returns-in-None
returns-in-None c = none_meets (codes "content-encoding") c.args.head.now.lines HasAwsChunked c.in-None.ensures
