use Rattle.std.proofs.Common.{◌≡◌, ◌∙◌, ap, arith, length, sym, take, ◌*◌}
use Rattle.std.proofs.lemmas.List.{length-take-le}
use Rattle.poly_code.proofs.Differences.{are_rows}
use Rattle.poly_code.proofs.SumsOfWeights.{sums_are_values}
use Rattle.poly_code.proofs.block.fill_block.Goals as goal

pub sum_into-requires : goal.sum_into-requires
sum_into-requires c =
    let count : length (take (length c.args.rows.now) c.weights_of.result) ≡ length c.args.rows.now =
    length-take-le (length c.args.rows.now) c.weights_of.result (omega arith) in
    record { few = omega arith; blocks = c.requires.have ∙ ap (λ n. n * length c.args.out.now) (sym count) }

pub returns : goal.returns
returns c k lt =
    let rows = c.args.rows.now in
    sums_are_values (length c.args.out.now) rows c.weights_of.result c.args.have.now c.sum_into.new.out c.args.point
    (are_rows rows (λ i. omega (arith, c.type_inv.rows i)) c.requires.distinct)
    (λ i. omega (arith, c.type_inv.have i)) (omega arith) (omega arith) c.weights_of.ensures c.sum_into.auto.out c.sum_into.ensures k lt
