use Rattle.std.proofs.Common.{refl}
use Rattle.drive_memory.specs.contracts.drive.MemDriveDrive.TheImpl.{ghosts}
use Rattle.ostore.proofs.FreshLemmas.{fresh_result}
use Rattle.ostore.proofs.memory.memory_rig.Goals as goal

pub returns-clause-holds : goal.returns-clause-holds
returns-clause-holds c = fresh_result ghosts (λ d. refl) (λ d. refl) c.opened_law.ensures.bare c.args.set c.fresh_rig.result c.fresh_rig.ensures.rig c.fresh_rig.ensures.fresh
