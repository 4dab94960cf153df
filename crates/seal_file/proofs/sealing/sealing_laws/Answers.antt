use Rattle.std.proofs.Common.{refl}
use Rattle.seal_file.proofs.SealedLemmas.{sealed-injective}
use Rattle.seal_file.proofs.sealing.sealing_laws.Goals as goal

pub returns : goal.returns
returns c = λ kind a b same. (sealed-injective kind kind a b refl same).1
