-- The table of register files is lawful.
use Rattle.sealed_record.specs.Laws.{IsLawful}
use Rattle.sealed_record.proofs.Rows.{lawful_table}
use Rattle.register_file.specs.Table.{register_table}
use Rattle.register_file.proofs.Matching.{file_matches}
use Rattle.register_file.proofs.Texts.{IsFileRow, file_spelled}

pub register_lawful : IsLawful register_table
register_lawful = lawful_table register_table IsFileRow file_spelled file_matches
