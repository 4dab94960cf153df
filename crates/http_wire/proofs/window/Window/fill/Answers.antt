use Rattle.std.proofs.Common.{◌+◌, ◌-◌, ◌∙◌, arith}
use Rattle.http_wire.specs.Taking.{source_view}
use Rattle.http_wire.proofs.WindowLemmas.{piece_behind}
use Rattle.http_wire.proofs.window.Window.fill.Goals as goal

pub returns-clause-filled : goal.returns-clause-filled
returns-clause-filled g c =
    let start = c.settle-start.result in
    let end = start + (c.self.inside.end - c.self.inside.start) in
    let taken = c.in_ok-n.ensures.taken in
    piece_behind c.args.self.now c.settle-start.new.room.items c.take_behind.new.room.items start end c.in_ok-n.n
    (source_view g.S.Source c.args.source.now) (source_view g.S.Source c.take_behind.new.source)
    (c.settle-start.ensures.same ∙ c.self.view_is) (omega arith) c.take_behind.ensures.front
    (omega (arith, c.take_behind.ensures.room, c.settle-start.ensures.fits, taken.0)) taken.0 taken.1 taken.2
