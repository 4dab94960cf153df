use Rattle.gf256.proofs.TableLemmas.{POWERS-at}
use Rattle.gf256.proofs.tables.power_of_two.Goals as goal

pub returns : goal.returns
returns c = POWERS-at c.args.exponent c.requires
