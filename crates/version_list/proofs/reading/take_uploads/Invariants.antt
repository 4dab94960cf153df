use Rattle.std.proofs.Common.{◌≡◌, ◌-◌, ℕ, List}
use Rattle.std.specs.Prelude.{map, ◌||◌}
use Rattle.field_reader.specs.Format.{series}
use Rattle.field_reader.proofs.Series.{with_front}
use Rattle.version_list.specs.Rows.{upload_row}
use Rattle.version_list.specs.Layout.{upload, uploads, upload_names, is_among}
use Rattle.version_list.specs.Known.{is_known}
use Rattle.version_list.proofs.reading.take_uploads.Given as goal

-- what was read and what is still read is all that is read, and the ids so far are known beside those before them
abbrev pub invariant-loop : goal.invariant-loop
invariant-loop l = record {
  read : with_front (map upload_row l.uploads.items) (series (l.count - l.counter) (λ before. upload (λ id. is_known l.fn.names id || is_among (upload_names before) id)) (map upload_row l.uploads.items) l.fields) ≡ uploads (is_known l.fn.names) l.count l.fn.fields;
  known : (bytes : List ℕ) → is_known l.names bytes ≡ (is_known l.fn.names bytes || is_among (upload_names (map upload_row l.uploads.items)) bytes);
}
