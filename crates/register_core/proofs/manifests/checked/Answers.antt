use Rattle.std.proofs.Common.{◌≤◌, ℕ, ap, refl, inr, subst, arith}
use Rattle.std.specs.Prelude.{Bool}
use Rattle.seal_file.specs.declared.damage.Damage.TheVariants.{Spelling}
use Rattle.manifest_file.specs.declared.manifest.TheConstants.{LONGEST_FILE}
use Rattle.register_core.specs.Manifests.{TellsOf}
use Rattle.register_core.proofs.ManifestLemmas.{length-file_of}
use Rattle.register_core.proofs.manifests.checked.Goals as goal

pub overflow_sub-result : goal.overflow_sub-result
overflow_sub-result c = omega (arith, length-file_of c.args.manifest.now, c.requires.long)

pub returns-then-not-names_set : goal.returns-then-not-names_set
returns-then-not-names_set c =
    let other = subst (λ (names : Bool). TellsOf c.args.set.now c.args.manifest.now names) c.if-not-names_set.true c.names_set.ensures in
    inr (
      subst (λ (n : ℕ). n ≤ LONGEST_FILE) c.requires.long c.requires.within,
      inr (inr (inr (
        c.args.manifest.now,
        c.requires.canonical,
        refl,
        other,
        ap Spelling (omega (arith, length-file_of c.args.manifest.now, c.requires.long)),
      ))),
    )
