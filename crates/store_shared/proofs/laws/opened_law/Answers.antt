use Rattle.store_shared.proofs.HolderClosingLemmas.{closed_store_holds}
use Rattle.store_shared.proofs.HolderFreshLemmas.{bare_rig_holds}
use Rattle.store_shared.proofs.HolderKeptLemmas.{kept_drives_rest}
use Rattle.store_shared.proofs.HolderLemmas.{opened_store_holds}
use Rattle.store_shared.proofs.HolderLostLemmas.{lost_rig_holds}
use Rattle.store_shared.proofs.HolderTriedLemmas.{tried_rig_holds}
use Rattle.store_shared.proofs.laws.opened_law.Goals as goal

pub returns-clause-opened : goal.returns-clause-opened
returns-clause-opened g c = opened_store_holds g.D.Drive g.A.Audit.entries g.A.Audit.count c.life_law.ensures.goes_on c.open_law.ensures.opened
    c.out_law.ensures c.fresh_data_law.ensures.drawn

pub returns-clause-tried : goal.returns-clause-tried
returns-clause-tried g c = tried_rig_holds g.row.A.Denot g.D.Drive c.opening_laws.ensures.terms c.out_law.ensures c.fresh_data_law.ensures.drawn

pub returns-clause-kept : goal.returns-clause-kept
returns-clause-kept g c = kept_drives_rest

pub returns-clause-bare : goal.returns-clause-bare
returns-clause-bare g c = bare_rig_holds g.D.Drive g.row.A.Denot c.fresh_law.ensures c.fresh_data_law.ensures.fresh

pub returns-clause-closed : goal.returns-clause-closed
returns-clause-closed g c = closed_store_holds g.row.A.Denot g.D.Drive c.resting_laws.ensures.drawing c.resting_laws.ensures.end c.fresh_data_law.ensures.ends
    c.fresh_data_law.ensures.drawn

pub returns-clause-lost : goal.returns-clause-lost
returns-clause-lost g c = lost_rig_holds g.D.Drive g.row.A.Denot c.out_law.ensures c.fresh_data_law.ensures.drawn
