use Rattle.std.proofs.Common.{◌∙◌, ◌<◌, ◌-◌, length, ap, arith}
use Rattle.std.specs.Prelude.{slice_index_or}
use Rattle.list_page.specs.Asks.{rule_of}
use Rattle.list_page.proofs.LastLemmas.{cut_is}
use Rattle.list_page.proofs.cutting.cut_of.Goals as goal

pub returns : goal.returns
returns c =
    let some : 0 < c.args.ask.now.most = omega (arith, c.from-most.ensures) in
    let many : c.args.ask.now.most < length c.args.rows.now = omega (arith, c.from-most.ensures) in
    cut_is (rule_of c.args.ask.now) c.args.rows.now c.index-rows-most.result c.in_ok-next.next c.next_id_of.result some many
    (c.index-rows-most.is ∙ ap (λ n. slice_index_or c.args.rows.now (n - 1) c.index-rows-most.result) c.from-most.ensures)
    (c.in_ok-next.ensures ∙ (c.as_slice.ensures ∙ c.name_of.ensures))
    c.next_id_of.ensures
