use Rattle.std.proofs.Common.{◌≡◌, ◌-◌}
use Rattle.std.specs.Prelude.{map}
use Rattle.field_reader.specs.Format.{series}
use Rattle.field_reader.proofs.Series.{with_front}
use Rattle.manifest_file.specs.Rows.{part_row}
use Rattle.manifest_file.specs.Layout.{part, parts}
use Rattle.manifest_file.proofs.reading.take_parts.Given as goal

-- what was read and what is still read is all that is read
abbrev pub invariant-loop : goal.invariant-loop
invariant-loop l = with_front (map part_row l.parts.items) (series (l.count - l.counter) (λ before. part l.drives) (map part_row l.parts.items) l.fields) ≡ parts l.drives l.count l.fn.fields
