use Rattle.slot_history.proofs.NameLemmas.{bucket_names_tell, key_names_tell, names_differ, part_names_tell}
use Rattle.slot_history.proofs.laws.name_laws.Goals as goal

pub returns-clause-differ : goal.returns-clause-differ
returns-clause-differ c = names_differ

pub returns-clause-buckets : goal.returns-clause-buckets
returns-clause-buckets c = bucket_names_tell

pub returns-clause-keys : goal.returns-clause-keys
returns-clause-keys c = key_names_tell

pub returns-clause-parts : goal.returns-clause-parts
returns-clause-parts c = part_names_tell
