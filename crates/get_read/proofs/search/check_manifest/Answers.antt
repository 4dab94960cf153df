use Rattle.std.proofs.Common.{ap, refl, inr, arith}
use Rattle.seal_file.specs.declared.damage.Damage.TheVariants.{Spelling}
use Rattle.get_read.proofs.ManifestLemmas.{length-file_of}
use Rattle.get_read.proofs.search.check_manifest.Goals as goal

pub overflow_sub-result : goal.overflow_sub-result
overflow_sub-result c = omega (arith, length-file_of c.args.manifest, c.requires.long)

pub returns-then-not-fits : goal.returns-then-not-fits
returns-then-not-fits c =
    let unfit = c.if-not-fits.ensures.unfit in
    inr (inr (inr (c.args.manifest, c.requires.canonical, refl, unfit refl, ap Spelling (omega (arith, length-file_of c.args.manifest, c.requires.long)))))
