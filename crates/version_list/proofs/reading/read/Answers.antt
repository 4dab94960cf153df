use Rattle.std.proofs.Common.{ap, ◌∙◌, arith}
use Rattle.field_reader.specs.Format.{value_of}
use Rattle.version_list.specs.Layout.{key_state}
use Rattle.version_list.proofs.LawProofs.{spelling_found, found_spelling, found_same}
use Rattle.version_list.proofs.reading.read.Goals as goal

pub returns-in-Ok-clause-found : goal.returns-in-Ok-clause-found
returns-in-Ok-clause-found c = found_spelling c.args.content.now c.in-Ok.state (λ i. omega (arith, c.type_inv.content i)) c.in-Ok.ensures

pub returns-in-Ok-clause-only : goal.returns-in-Ok-clause-only
returns-in-Ok-clause-only c = λ state canonical is. found_same c.args.content.now c.in-Ok.state state c.in-Ok.ensures canonical is

pub returns-in-Err-At-clause-only : goal.returns-in-Err-At-clause-only
returns-in-Err-At-clause-only c = λ state canonical is.
    let refused = rw c.in-Err-At.field-0-is at c.in-Err-At.ensures in
    let found = ap (value_of key_state) is ∙ spelling_found state canonical in
    absurd cc
