use Rattle.std.proofs.Common.{◌<◌, ◌∙◌, subst, sym, arith}
use Rattle.std.specs.Prelude.{option_map}
use Rattle.store_shared.specs.Parting.{parts_in}
use Rattle.store_shared.specs.SharedPasses.{locks_of, pass_holds}
use Rattle.store_shared.proofs.PlaceLemmas.{locked_of}
use Rattle.store_shared.proofs.shared.SharedDesk.cut_one.Goals as goal

pub split-one-requires : goal.split-one-requires
split-one-requires g c =
    let is = sym c.take.ensures.value ∙ c.in-Some.is in (
      locked_of (locks_of c.args.self.now) c.args.k c.args.place.now c.requires.lock c.index.result.now c.in-Some.pass c.index.ensures is,
      omega arith,
      subst (λ p. 1 < parts_in (option_map pass_holds p)) is c.requires.parts,
    )
