-- The table of register files, and what follows from it.
use Rattle.std.specs.Prelude.{ℕ, List}
use Rattle.sealed_record.specs.Answers.{HasFault as TableHasFault}
use Rattle.sealed_record.specs.Laws.{FileIsInjective as TableFileIsInjective}
use Rattle.sealed_record.specs.Table.{Table}
use Rattle.register_file.specs.declared.record.RegFile.{RegFile}
use Rattle.register_file.specs.Layout.{register}
use Rattle.register_file.specs.Record.{IsCanonical}
use Rattle.register_file.specs.Rows.{FileRow, row_of}
use Rattle.register_file.specs.Spelling.{row_bytes, register_kind}

-- the table of records
abbrev pub register_table : Table RegFile FileRow
register_table = record { row = row_of; format = register; bytes = row_bytes; Canonical = IsCanonical }

-- some body that the file seals has its first fault at this place
abbrev pub HasFault : List ℕ → ℕ → Type 0
HasFault = TableHasFault register_kind register_table

-- Two canonical records with one file are the same.
abbrev pub FileIsInjective : Type 0
FileIsInjective = TableFileIsInjective register_kind register_table
