-- The laws of manifests.
use Rattle.sealed_record.specs.Laws.{IsLawful, SpellingsAreRead}
use Rattle.sealed_record.proofs.LawProofs.{files_injective as table_files_injective}
use Rattle.sealed_record.proofs.Rows.{lawful_table}
use Rattle.manifest_file.specs.Spelling.{manifest_kind}
use Rattle.manifest_file.specs.Table.{manifest_table, FileIsInjective}
use Rattle.manifest_file.proofs.Matching.{manifest_matches}
use Rattle.manifest_file.proofs.Texts.{IsManifestRow, manifest_spelled}

-- the table is lawful
pub manifest_lawful : IsLawful manifest_table
manifest_lawful = lawful_table manifest_table IsManifestRow manifest_spelled manifest_matches

-- a canonical manifest is found in its spelling
pub spelling_found : SpellingsAreRead manifest_table
spelling_found = manifest_lawful.read

-- canonical manifests with one file are the same
pub files_injective : FileIsInjective
files_injective = table_files_injective manifest_table manifest_lawful manifest_kind
