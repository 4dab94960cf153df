use Rattle.std.proofs.Common.{◌<◌, ◌⊎◌, arith, inl, inr}
use Rattle.command_line.proofs.NumberLemmas.{inside, none_between, outside}
use Rattle.command_line.proofs.numbers.number_between.Goals as goal
use Rattle.command_line.proofs.numbers.number_between.Goals.{then-number-from-via-then-number-from, then-number-from-via-else-number-from+then-from-number}

pub returns-in_default-number_of : goal.returns-in_default-number_of
returns-in_default-number_of c = none_between c.args.least c.args.most c.args.usual c.args.text c.in-Some.text c.in-Some.is (omega arith) c.in_default-number_of.ensures

pub returns-then-number-from : goal.returns-then-number-from
returns-then-number-from c =
    let bad : (c.in-Some-number_of.number < c.args.least) ⊎ (c.args.most < c.in-Some-number_of.number) =
    elim c.then-number-from.branch [ then-number-from-via-then-number-from w ↦ inl (omega arith) | then-number-from-via-else-number-from+then-from-number w ↦ inr (omega arith) ] in
    outside c.args.least c.args.most c.args.usual c.in-Some-number_of.number c.args.text c.in-Some.text c.in-Some.is c.in-Some-number_of.ensures bad

pub returns : goal.returns
returns c = inside c.args.least c.args.most c.args.usual c.in-Some-number_of.number c.args.text c.in-Some.text c.in-Some.is c.in-Some-number_of.ensures (omega arith) (omega arith)
