use Rattle.version_list.proofs.NamingLemmas.{same_id_law, same_name_law}
use Rattle.version_list.proofs.NamedLemmas.{unnamed, named_after}
use Rattle.version_list.proofs.naming.naming_laws.Goals as goal

pub returns-clause-ids : goal.returns-clause-ids
returns-clause-ids c = same_id_law

pub returns-clause-names : goal.returns-clause-names
returns-clause-names c = same_name_law

pub returns-clause-unnamed : goal.returns-clause-unnamed
returns-clause-unnamed c = unnamed

pub returns-clause-steps : goal.returns-clause-steps
returns-clause-steps c = λ old mode done drawn now reply new step id named. named_after old mode done drawn now reply new id step named
