use Rattle.std.proofs.Math.Logic.{∥∥₁_elim}
use Rattle.std.specs.Coded.{Coded-set}
use Rattle.store_shared.proofs.FitsLemmas.{fits_prop}
use Rattle.store_shared.proofs.shared_desk.SharedDeskDesk.call.Goals as goal

-- that a pass fits is a fact, so that it may be had from the mere truth of it
pub serve_call-requires-clause-fits : goal.serve_call-requires-clause-fits
serve_call-requires-clause-fits g c =
    ∥∥₁_elim c.requires.fits (fits_prop (Coded-set g.row.D.coded) (Coded-set g.row.A.coded) c.args.self.now _) (λ fits. fits)
