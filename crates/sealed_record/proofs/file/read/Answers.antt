use Rattle.std.proofs.Common.{◌∙◌, ap, arith}
use Rattle.seal_file.specs.Sealing.{sealed}
use Rattle.sealed_record.proofs.LawProofs.{found_spelling, body_bytes}
use Rattle.sealed_record.proofs.file.read.Goals as goal

pub returns-in-Ok-clause-outcome : goal.returns-in-Ok-clause-outcome
returns-in-Ok-clause-outcome g c =
    let kind = c.args.kind in
    let body = c.in_ok-body.body.now in
    let seals = c.in_ok-body.ensures.outcome in
    let fits = body_bytes kind c.args.bytes.now body seals (λ i. omega (arith, c.type_inv.bytes i)) in
    let found = found_spelling g.T.Record.table c.requires body c.in-Ok.taken fits c.in-Ok.ensures in
    (found.0, seals ∙ ap (sealed kind) found.1)
