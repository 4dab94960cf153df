use Rattle.sealed_record.proofs.LawProofs.{faultless, injective, files_injective}
use Rattle.register_file.specs.Spelling.{register_kind}
use Rattle.register_file.specs.Table.{register_table}
use Rattle.register_file.proofs.Lawful.{register_lawful}
use Rattle.register_file.proofs.Longest.{longest_is_reached}
use Rattle.register_file.proofs.Sizes.{files_no_longer}
use Rattle.register_file.proofs.file.file_laws.Goals as goal

pub returns-clause-read : goal.returns-clause-read
returns-clause-read c = register_lawful.read

pub returns-clause-faultless : goal.returns-clause-faultless
returns-clause-faultless c = faultless register_table register_lawful

pub returns-clause-injective : goal.returns-clause-injective
returns-clause-injective c = injective register_table register_lawful

pub returns-clause-files : goal.returns-clause-files
returns-clause-files c = files_injective register_table register_lawful register_kind

pub returns-clause-lengths : goal.returns-clause-lengths
returns-clause-lengths c = files_no_longer

pub returns-clause-reached : goal.returns-clause-reached
returns-clause-reached c = longest_is_reached
