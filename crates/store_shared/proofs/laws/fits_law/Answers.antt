use Rattle.std.proofs.Math.Logic.{∥∥₁_elim}
use Rattle.std.specs.Coded.{Coded-set}
use Rattle.store_shared.proofs.FitsLemmas.{fits_prop}
use Rattle.store_shared.proofs.laws.fits_law.Goals as goal

pub returns : goal.returns
returns g c desk held true_ = ∥∥₁_elim true_ (fits_prop (Coded-set g.row.D.coded) (Coded-set g.row.A.coded) desk held) (λ fits. fits)
