-- The format of a manifest within its seal: the fields in their order, each with its rule.
use Rattle.std.specs.Prelude.{ℕ, List, [], Bool, ◌&&◌, nat_lt, nat_le}
use Rattle.std.specs.Int.{w8, w16, w64}
use Rattle.field_reader.specs.Format.{Format, ◌>>=◌, done, field, number, with_rule, series}
use Rattle.sealed_record.specs.Fields.{format_number, counted}
use Rattle.stamp_id.specs.IdField.{id_field}
use Rattle.manifest_file.specs.Rows.{PartRow, ManifestRow}
use Rattle.manifest_file.specs.Limits.{most_parts, most_part_bytes}

-- 1 to 10,000 parts
abbrev pub is_count : ℕ → Bool
is_count count = nat_lt 0 count && nat_le count most_parts

-- a part's length: at most 5 GiB
abbrev pub is_length : ℕ → Bool
is_length size = nat_le size most_part_bytes

-- the name of a register: a length of two bytes, and so many bytes
abbrev pub name : Format (List ℕ)
name = counted w16

-- a root for each of so many drives
unfoldable pub roots : ℕ → Format (List (List ℕ))
roots drives = series drives (λ before. field 32) []

-- a part on so many drives
unfoldable pub part : ℕ → Format PartRow
part drives =
    id_field >>= λ id.
    with_rule is_length (number w64) >>= λ size.
    roots drives >>= λ roots.
    done (record { id = id; size = size; roots = roots })

-- so many parts
unfoldable pub parts : ℕ → ℕ → Format (List PartRow)
parts drives count = series count (λ before. part drives) []

-- the format of manifests
unfoldable pub manifest : Format ManifestRow
manifest =
    format_number >>= λ format.
    name >>= λ name.
    number w8 >>= λ drives.
    number w8 >>= λ parity.
    with_rule is_count (number w16) >>= λ count.
    parts drives count >>= λ parts.
    done (record { name = name; drives = drives; parity = parity; parts = parts })
