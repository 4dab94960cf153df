-- The bytes and the text of a version id.
use Rattle.std.specs.Prelude.{◌≡◌, ℕ, List}
use Rattle.uuid.specs.Text.{hyphenated_text, lower}
use Rattle.stamp_id.specs.Layout.{bytes_of}
use Rattle.stamp_id.specs.declared.version.VersionId.{VersionId}

-- the sixteen bytes of an id
unfoldable pub id_bytes : VersionId → List ℕ
id_bytes v = bytes_of v.change.0.term v.slot v.change.0.seq

-- the text of an id: its bytes as 8-4-4-4-12 lower-case hex digits
unfoldable pub id_text : VersionId → List ℕ
id_text v = hyphenated_text lower (id_bytes v)

-- ids with the same bytes are the same
abbrev pub IdBytesAreInjective : Type 0
IdBytesAreInjective = (v w : VersionId) → id_bytes v ≡ id_bytes w → v ≡ w

-- ids with the same text are the same
abbrev pub IdTextsAreInjective : Type 0
IdTextsAreInjective = (v w : VersionId) → id_text v ≡ id_text w → v ≡ w
