use Rattle.gf256.proofs.Roots.{polynomials_agree}
use Rattle.gf256.proofs.laws.polynomial_laws.Goals as goal

pub returns : goal.returns
returns c = polynomials_agree
