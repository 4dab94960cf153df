-- How long the file of a record can be.
use Rattle.std.specs.Prelude.{◌≡◌, ℕ, ◌+◌, ◌*◌, ◌^◌, ◌<◌, ◌≤◌, length, min}
use Rattle.sealed_record.specs.Fields.{IfThere}
use Rattle.register_file.specs.declared.record.RegFile.{RegFile}
use Rattle.register_file.specs.Record.{IsCanonical}
use Rattle.register_file.specs.Spelling.{file_of}

-- each content of a record has at most so many bytes
pub record ContentsFit (most : ℕ) (file : RegFile) : Type 0 where
  pub base : length file.base.content ≤ most
  pub next : IfThere (λ next. length next.content ≤ most) file.next

-- the bytes of the file of a record with two contents of so many bytes that adds data, where a `u64` holds them
abbrev pub longest_file : ℕ → ℕ
longest_file most = min (175 + 2 * most) 18446744073709551615

-- No record with such contents has a longer file.
abbrev pub FilesAreNoLonger : Type 0
FilesAreNoLonger = (most : ℕ) (file : RegFile) → IsCanonical file → ContentsFit most file → length (file_of file) ≤ longest_file most

-- Some record with such contents has a file as long.
abbrev pub SomeFileIsAsLong : Type 0
SomeFileIsAsLong = (most : ℕ) → most < 2 ^ 32 → (file : RegFile) × IsCanonical file × ContentsFit most file × (length (file_of file) ≡ longest_file most)
