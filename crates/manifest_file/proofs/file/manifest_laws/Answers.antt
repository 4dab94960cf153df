use Rattle.sealed_record.proofs.LawProofs.{faultless, injective}
use Rattle.manifest_file.specs.Table.{manifest_table}
use Rattle.manifest_file.proofs.LawProofs.{manifest_lawful, spelling_found, files_injective}
use Rattle.manifest_file.proofs.Longest.{longest_is_reached}
use Rattle.manifest_file.proofs.Sizes.{no_longer}
use Rattle.manifest_file.proofs.file.manifest_laws.Goals as goal

pub returns-clause-read : goal.returns-clause-read
returns-clause-read c = spelling_found

pub returns-clause-faultless : goal.returns-clause-faultless
returns-clause-faultless c = faultless manifest_table manifest_lawful

pub returns-clause-injective : goal.returns-clause-injective
returns-clause-injective c = injective manifest_table manifest_lawful

pub returns-clause-files : goal.returns-clause-files
returns-clause-files c = files_injective

pub returns-clause-lengths : goal.returns-clause-lengths
returns-clause-lengths c = no_longer

pub returns-clause-reached : goal.returns-clause-reached
returns-clause-reached c = longest_is_reached
