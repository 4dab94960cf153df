use Rattle.std.proofs.Common.{arith}
use Rattle.put_stage.proofs.ManifestLemmas.{next_fits}
use Rattle.put_stage.proofs.manifests.total_size.Goals as goal

pub overflow_add-total : goal.overflow_add-total
overflow_add-total c =
    let fits = next_fits c.args.manifest.now c.as_slice-part-items.result.now c.loop-part.part-index c.loop-part.total c.part-item.result c.requires c.as_slice-part-items.ensures c.loop-part-test.true
    c.loop-part.invariant c.part-item.is in
    omega (arith, fits)
