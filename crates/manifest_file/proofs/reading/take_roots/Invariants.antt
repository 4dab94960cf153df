use Rattle.std.proofs.Common.{◌≡◌, ◌-◌}
use Rattle.field_reader.specs.Format.{field, series}
use Rattle.field_reader.proofs.Series.{with_front}
use Rattle.manifest_file.specs.Layout.{roots}
use Rattle.manifest_file.proofs.reading.take_roots.Given as goal

-- what was read and what is still read is all that is read
abbrev pub invariant-loop : goal.invariant-loop
invariant-loop l = with_front l.roots.items (series (l.drives - l.counter) (λ before. field 32) l.roots.items l.fields) ≡ roots l.drives l.fn.fields
