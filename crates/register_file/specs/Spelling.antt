-- The one spelling of each record. Numbers are big-endian.
use Rattle.std.specs.Prelude.{ℕ, List, [], ◌∷◌, codes}
use Rattle.std.specs.Int.{w8, w32, w64}
use Rattle.field_reader.specs.Spelling.{number_bytes, joined}
use Rattle.seal_file.specs.Sealing.{sealed}
use Rattle.sealed_record.specs.Fields.{counted_bytes, optional_bytes}
use Rattle.register_file.specs.declared.record.RegFile.{RegFile}
use Rattle.register_file.specs.Rows.{StampRow, BaseRow, AddsRow, NextRow, FileRow, row_of}

-- a ballot or a change
abbrev pub stamp_bytes : StampRow → List ℕ
stamp_bytes stamp = joined (number_bytes w64 stamp.term ∷ number_bytes w64 stamp.seq ∷ [])

-- a content: its length, and its bytes
abbrev pub content_bytes : List ℕ → List ℕ
content_bytes content = counted_bytes w32 content

-- the fields of a base
abbrev pub base_bytes : BaseRow → List ℕ
base_bytes base = joined (stamp_bytes base.ballot ∷ stamp_bytes base.change ∷ content_bytes base.content ∷ [])

-- the fields of the data that a change adds
abbrev pub adds_bytes : AddsRow → List ℕ
adds_bytes adds = joined (adds.id ∷ adds.print ∷ [])

-- the fields of a next
abbrev pub next_bytes : NextRow → List ℕ
next_bytes next = joined (
    stamp_bytes next.ballot ∷ stamp_bytes next.change ∷ stamp_bytes next.parent ∷ optional_bytes adds_bytes next.adds ∷ content_bytes next.content ∷ [])

-- the format number 1, the base, and the next where there is one
abbrev pub row_bytes : FileRow → List ℕ
row_bytes file = joined (number_bytes w8 1 ∷ base_bytes file.base ∷ optional_bytes next_bytes file.next ∷ [])

-- the spelling of a record
abbrev pub spelling : RegFile → List ℕ
spelling file = row_bytes (row_of file)

-- the kind of a register's file
abbrev pub register_kind : List ℕ
register_kind = codes "OREG"

-- the file of a record
abbrev pub file_of : RegFile → List ℕ
file_of file = sealed register_kind (spelling file)
