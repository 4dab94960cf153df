use Rattle.std.proofs.Common.{◌≡◌, ◌-◌, ℕ, List}
use Rattle.std.specs.Prelude.{map}
use Rattle.field_reader.specs.Format.{series}
use Rattle.field_reader.proofs.Series.{with_front}
use Rattle.version_list.specs.Rows.{version_row}
use Rattle.version_list.specs.Layout.{version, versions, version_names, is_among}
use Rattle.version_list.specs.Known.{is_known}
use Rattle.version_list.proofs.reading.take_versions.Given as goal

-- what was read and what is still read is all that is read, and the names so far are known
abbrev pub invariant-loop : goal.invariant-loop
invariant-loop l = record {
  read : with_front (map version_row l.versions.items) (series (l.count - l.counter) (λ before. version (is_among (version_names before))) (map version_row l.versions.items) l.fields) ≡ versions l.count l.fn.fields;
  known : (bytes : List ℕ) → is_known l.names bytes ≡ is_among (version_names (map version_row l.versions.items)) bytes;
}
