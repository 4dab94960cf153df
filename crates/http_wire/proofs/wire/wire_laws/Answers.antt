use Rattle.http_wire.proofs.OrderLemmas.{gives_in_order}
use Rattle.http_wire.proofs.wire.wire_laws.Goals as goal

pub returns : goal.returns
returns c = gives_in_order
