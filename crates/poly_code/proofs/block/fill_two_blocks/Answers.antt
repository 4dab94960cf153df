use Rattle.std.proofs.Common.{◌≡◌, ◌+◌, arith, length}
use Rattle.poly_code.proofs.Differences.{are_rows}
use Rattle.poly_code.proofs.SumsOfWeights.{sums_are_values}
use Rattle.poly_code.proofs.ValueLemmas.{values_joined}
use Rattle.poly_code.proofs.block.fill_two_blocks.Goals as goal

pub returns : goal.returns
returns c =
    let rows = c.args.rows.now in
    let have = c.args.have.now in
    let width = c.args.width in
    let are = are_rows rows (λ i. omega (arith, c.type_inv.rows i)) c.requires.distinct in
    let first : length c.two_sums_into.new.out ≡ width = omega arith in
    let second : length c.two_sums_into.new.other ≡ width = omega arith in
    values_joined rows have c.two_sums_into.new.out c.two_sums_into.new.other width c.args.point first
    (sums_are_values width rows c.weights_of-weights.result have c.two_sums_into.new.out c.args.point are (λ i. omega (arith, c.type_inv.have i))
    (omega arith) (omega arith) c.weights_of-weights.ensures first c.two_sums_into.ensures.first)
    (sums_are_values width rows c.weights_of-others.result have c.two_sums_into.new.other (c.args.point + 1) are (λ i. omega (arith, c.type_inv.have i))
    (omega arith) (omega arith) c.weights_of-others.ensures second c.two_sums_into.ensures.second)
