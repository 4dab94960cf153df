use Rattle.std.proofs.Common.{◌≡◌, take}
use Rattle.std.specs.Prelude.{sum_by}
use Rattle.put_stage.specs.Manifests.{part_size}
use Rattle.put_stage.proofs.manifests.total_size.Given as goal

abbrev pub invariant-loop-part : goal.invariant-loop-part
invariant-loop-part l = l.total ≡ sum_by part_size (take l.part-index l.part-items)
