use Rattle.std.proofs.Common.{List, ℕ, codes, subst}
use Rattle.std.specs.Prelude.{IsTrue, ◌↔◌}
use Rattle.http_wire.specs.Framing.{IsStreaming}
use Rattle.http_wire.proofs.FramingLemmas.{meets_iff, none_meets}
use Rattle.http_wire.proofs.framing.is_streamed.Goals as goal

pub returns-in-Some : goal.returns-in-Some
returns-in-Some c =
    meets_iff (codes "x-amz-content-sha256") c.args.head.now.lines IsStreaming c.in-Some.i c.is_streaming.result c.in-Some.ensures
    (subst (λ (v : List ℕ). IsTrue c.is_streaming.result ↔ IsStreaming v) c.value.ensures c.is_streaming.ensures)

pub returns-in-None : goal.returns-in-None
returns-in-None c = none_meets (codes "x-amz-content-sha256") c.args.head.now.lines IsStreaming c.in-None.ensures
