use Rattle.poly_code.proofs.CodewordLemmas.{codewords_agree}
use Rattle.poly_code.proofs.laws.codeword_laws.Goals as goal

pub returns : goal.returns
returns c = codewords_agree
