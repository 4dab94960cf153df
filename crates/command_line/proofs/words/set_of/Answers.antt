use Rattle.std.proofs.Common.{◌/◌, arith, refl}
use Rattle.command_line.specs.Values.{value_in}
use Rattle.command_line.specs.declared.options.OptionName.TheVariants.{Drives, Parity}
use Rattle.command_line.proofs.NumberLemmas.{within}
use Rattle.command_line.proofs.words.set_of.Goals as goal

pub usual_parity-requires : goal.usual_parity-requires
usual_parity-requires c = (within 4 16 4 (value_in c.args.options Drives) c.in-Some.drives (omega arith) (omega arith) ((c.in-Some.ensures c.in-Some.drives).0 refl)).0

pub new-requires-clause-few : goal.new-requires-clause-few
new-requires-clause-few c = (within 4 16 4 (value_in c.args.options Drives) c.in-Some.drives (omega arith) (omega arith) ((c.in-Some.ensures c.in-Some.drives).0 refl)).1

pub new-requires-clause-some : goal.new-requires-clause-some
new-requires-clause-some c =
    let some = c.usual_parity.ensures.some in
    let half = c.usual_parity.ensures.half in
    (within 1 (c.in-Some.drives / 2) c.usual_parity.result (value_in c.args.options Parity) c.in-Some-number_between.parity some (omega arith) ((c.in-Some-number_between.ensures c.in-Some-number_between.parity).0 refl)).0

pub new-requires-clause-half : goal.new-requires-clause-half
new-requires-clause-half c =
    let some = c.usual_parity.ensures.some in
    let half = c.usual_parity.ensures.half in
    let high = (within 1 (c.in-Some.drives / 2) c.usual_parity.result (value_in c.args.options Parity) c.in-Some-number_between.parity some (omega arith) ((c.in-Some-number_between.ensures c.in-Some-number_between.parity).0 refl)).1 in
    omega arith
