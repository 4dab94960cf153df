use Rattle.std.proofs.Common.{refl}
use Rattle.slot_core.proofs.read_plan.data_of.Goals as goal

pub returns : goal.returns
returns c =
    let o = c.in-Object in
    (record { id = o.data_id; print = o.print; size = o.length }, (o.md5, o.parts, o.upload, o.kind, o.is), refl)
