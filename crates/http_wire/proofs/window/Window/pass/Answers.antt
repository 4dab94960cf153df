use Rattle.std.proofs.Common.{◌-◌, length, drop, ap, ◌∙◌, arith, length-take}
use Rattle.http_wire.proofs.WindowLemmas.{slice_passed}
use Rattle.http_wire.proofs.window.Window.pass.Goals as goal

pub returns : goal.returns
returns c =
    let w = c.self.inside in
    slice_passed w.room.items w.start w.end c.args.n
    (omega (arith, c.requires, c.self.invariant.0, ap length c.self.view_is, length-take (w.end - w.start) (drop w.start w.room.items)))
    ∙ ap (drop c.args.n) c.self.view_is
