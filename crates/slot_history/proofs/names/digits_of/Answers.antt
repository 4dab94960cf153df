use Rattle.slot_history.proofs.DigitLemmas.{five_are_text}
use Rattle.slot_history.proofs.names.digits_of.Goals as goal

pub returns-clause-text : goal.returns-clause-text
returns-clause-text g = five_are_text _ _ _ _ _ g.digit.ensures.ascii g.digit-2.ensures.ascii g.digit-3.ensures.ascii g.digit-4.ensures.ascii g.digit-5.ensures.ascii
