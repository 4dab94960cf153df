use Rattle.std.proofs.Common.{◌∙◌, length, ap, sym}
use Rattle.std.specs.Prelude.{◌==◌}
use Rattle.http_wire.specs.Taking.{source_view}
use Rattle.http_wire.proofs.ReadingLemmas.{brings_waiting}
use Rattle.http_wire.proofs.reading.bring.Goals as goal

pub returns : goal.returns
returns g c =
    brings_waiting c.copy_front-n.result c.args.into.now c.copy_front-n.new.into c.args.window.now c.bytes-2.result.now c.pass.new.self
    (source_view g.S.Source c.args.source.now) (g.S.Source.faults c.args.source.now) c.bytes-2.ensures
    (ap (λ t. length t == 0) (c.bytes-2.ensures ∙ sym c.bytes.ensures) ∙ sym c.is_empty.ensures ∙ c.if-is_empty.false) c.requires
    c.copy_front-n.ensures.count c.copy_front-n.ensures.copied c.copy_front-n.auto.into c.pass.ensures
