use Rattle.std.proofs.Common.{◌∙◌, sym}
use Rattle.store_shared.specs.SharedPasses.{locks_of}
use Rattle.store_shared.proofs.PlaceLemmas.{locked_of, locked_there}
use Rattle.store_shared.proofs.shared.SharedDesk.join_one.Goals as goal

pub unreachable-requires : goal.unreachable-requires
unreachable-requires g c = locked_there (locks_of c.args.self.now) c.args.k c.args.place.now c.requires.lock c.args.self.now.count
    (sym c.take.ensures.value ∙ c.in_default.is)

pub unreachable-requires-in_default-take : goal.unreachable-requires-in_default-take
unreachable-requires-in_default-take g c = locked_there (locks_of c.args.self.now) c.args.k c.args.gone.now c.requires.lock_too c.args.self.now.count
    (sym c.take-2.ensures.value ∙ c.in_default-take.is)

pub join-requires : goal.join-requires
join-requires g c = (
  locked_of (locks_of c.args.self.now) c.args.k c.args.place.now c.requires.lock c.index.result.now c.in-Some.one c.index.ensures
      (sym c.take.ensures.value ∙ c.in-Some.is),
  locked_of (locks_of c.args.self.now) c.args.k c.args.gone.now c.requires.lock_too c.index.result.now c.in-Some-take.other c.index.ensures
      (sym c.take-2.ensures.value ∙ c.in-Some-take.is),
)
