-- The plan by which the data of a body is coded.
use Rattle.drive_base.specs.declared.plan.SetPlan.{SetPlan}

-- that of data which is named so, in a store over this set: each body has the blocks and the parity of the set
abbrev pub data_plan : {Named : Type 0} → SetPlan → Named → SetPlan
data_plan set named = set
