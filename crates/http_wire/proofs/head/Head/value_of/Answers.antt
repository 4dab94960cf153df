use Rattle.std.proofs.Common.{ap, ◌∙◌, sym}
use Rattle.std.specs.Prelude.{Some}
use Rattle.http_wire.proofs.NameLemmas.{value_found, value_missing}
use Rattle.http_wire.proofs.head.Head.value_of.Goals as goal

pub returns-in-Some : goal.returns-in-Some
returns-in-Some c =
    value_found c.args.name.now c.args.self.now.lines c.in-Some.i c.in-Some.ensures ∙ ap Some (sym c.value.ensures)

pub returns-in-None : goal.returns-in-None
returns-in-None c = value_missing c.args.name.now c.args.self.now.lines c.in-None.ensures
