use Rattle.slot_core.proofs.LifeLemmas.{lanes_come_back, life_goes_on}
use Rattle.slot_core.proofs.life.life_law.Goals as goal

pub returns-clause-goes_on : goal.returns-clause-goes_on
returns-clause-goes_on g c = life_goes_on g.D.Drive.tells g.D.Drive.files c.resting_laws.ensures.drawing c.resting_laws.ensures.end

pub returns-clause-come_back : goal.returns-clause-come_back
returns-clause-come_back g c = lanes_come_back g.D.Drive.tells g.D.Drive.files c.resting_laws.ensures.drawing c.resting_laws.ensures.end
