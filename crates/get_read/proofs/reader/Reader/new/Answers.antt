use Rattle.std.proofs.Common.{◌∙◌}
use Rattle.get_read.proofs.ReaderLemmas.{asked_again}
use Rattle.get_read.proofs.reader.Reader.new.Goals as goal

pub invariant_of-result-2 : goal.invariant_of-result-2
invariant_of-result-2 c = record { same = c.in_ok-new.ensures.asked ∙ asked_again _ _ _ _ _ }
