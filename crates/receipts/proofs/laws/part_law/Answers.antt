use Rattle.receipts.proofs.PartLemmas.{part_is_stored, part_tells_tag, parts_ask_drives, quiet_keeps_part}
use Rattle.receipts.proofs.laws.part_law.Goals as goal

pub returns-clause-stays : goal.returns-clause-stays
returns-clause-stays c = quiet_keeps_part

pub returns-clause-tag : goal.returns-clause-tag
returns-clause-tag c = part_tells_tag

pub returns-clause-stored : goal.returns-clause-stored
returns-clause-stored c = part_is_stored

pub returns-clause-asks : goal.returns-clause-asks
returns-clause-asks c = parts_ask_drives
