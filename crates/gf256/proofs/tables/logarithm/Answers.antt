use Rattle.std.proofs.Common.{arith}
use Rattle.gf256.proofs.TableLemmas.{LOGARITHMS-at, LOGARITHMS-lt}
use Rattle.gf256.proofs.tables.logarithm.Goals as goal

pub returns-clause-exponent : goal.returns-clause-exponent
returns-clause-exponent c = LOGARITHMS-at c.args.a c.requires (omega arith)

pub returns-clause-below : goal.returns-clause-below
returns-clause-below c = LOGARITHMS-lt c.args.a c.requires (omega arith)
