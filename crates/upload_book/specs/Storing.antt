-- One step of a part's register (Amazon S3, UploadPart). There is no row where there is no part.
use Rattle.std.specs.Prelude.{◌≡◌, ℕ, Bool, Option, Some, None, Result, Ok, Err, MatchBool, position, is_some}
use Rattle.stamp_id.specs.declared.version.VersionId.{VersionId}
use Rattle.call_types.specs.declared.names.Etag.{Etag}
use Rattle.call_types.specs.declared.version.PartRecord.{PartRecord}
use Rattle.call_types.specs.declared.reply.Reply.{Reply}
use Rattle.call_types.specs.declared.reply.Reply.TheVariants as reply
use Rattle.call_types.specs.declared.refusal.KeyRefusal.{KeyRefusal}
use Rattle.call_types.specs.declared.refusal.Refusal.TheVariants.{NoSuchUpload}
use Rattle.call_types.specs.Refusals.{refusal_of}
use Rattle.version_list.specs.declared.state.KeyState.{KeyState}
use Rattle.version_list.specs.Naming.{is_upload}
use Rattle.upload_book.specs.declared.storing.StoredPart.{StoredPart}

-- whether the key has an open upload of this id
abbrev pub is_open : VersionId → KeyState → Bool
is_open upload key = is_some (position (is_upload upload) key.uploads)

-- the part, stored in this second
abbrev pub stored_at : PartRecord → ℕ → PartRecord
stored_at part now = record { data_id = part.data_id; print = part.print; length = part.length; md5 = part.md5; modified = now }

-- the entity tag of a part alone
abbrev pub etag_of : PartRecord → Etag
etag_of part = record { md5 = part.md5; parts = 0 }

-- The call is answered so, and leaves this row.
abbrev pub Leaves : Reply → Option PartRecord → Reply → Option PartRecord → Type 0
Leaves done row told new = (told ≡ done) × (new ≡ row)

-- The step of the register of a part: where the upload is open the part is stored, in the place of an earlier one, and
-- else the call is refused.
abbrev pub Stores : KeyState → VersionId → PartRecord → ℕ → Option PartRecord → Reply → Option PartRecord → Type 0
Stores key upload part now old told new =
    MatchBool (is_open upload key)
    (Leaves (reply.Stored (etag_of part) None) (Some (stored_at part now)) told new)
    (Leaves (reply.Refused NoSuchUpload) old told new)

-- The answer is the step that is due, whatever the register holds.
abbrev pub AnswersStore : KeyState → VersionId → PartRecord → ℕ → Result StoredPart KeyRefusal → Type 0
AnswersStore key upload part now (Ok stored) = (old : Option PartRecord) → Stores key upload part now old stored.reply (Some stored.part)
AnswersStore key upload part now (Err why) = (old : Option PartRecord) → Stores key upload part now old (reply.Refused (refusal_of why)) old
