-- What a call owes that commits an act to a key and has no body: DeleteObject, CreateMultipartUpload and AbortMultipartUpload.
use Rattle.std.specs.Prelude.{◌≡◌, ◌⊎◌, ℕ, List, Option}
use Rattle.call_types.specs.declared.act.Act.{Act}
use Rattle.call_types.specs.declared.act.Act.TheVariants as acts
use Rattle.call_types.specs.declared.names.Key.{Key}
use Rattle.call_types.specs.declared.names.Pick.{Pick}
use Rattle.call_types.specs.declared.reply.Reply.{Reply}
use Rattle.stamp_id.specs.declared.version.VersionId.{VersionId}
use Rattle.receipts.specs.Committing.{KeyIsBarred, KeyIsCommitted}
use Rattle.receipts.specs.Events.{Log}
use Rattle.receipts.specs.Looks.{EndsAtLook}
use Rattle.receipts.specs.Uploads.{upload_of}

-- what a call is answered that does just this act: how its look or its commit ended, or that the commit could not be done
abbrev pub DeedOwes : Key → Act → ℕ → Reply → Log → Type 0
DeedOwes at act now reply log = EndsAtLook at.bucket reply log ⊎ KeyIsCommitted at now (λ done. done ≡ act) reply log ⊎ KeyIsBarred at reply log

-- what a DeleteObject is answered
abbrev pub DeleteOwes : Key → Pick → ℕ → Reply → Log → Type 0
DeleteOwes at pick now reply log = DeedOwes at (acts.Delete pick) now reply log

-- what a CreateMultipartUpload is answered, of an object with this content type
abbrev pub CreateOwes : Key → List ℕ → ℕ → Reply → Log → Type 0
CreateOwes at kind now reply log = DeedOwes at (acts.Create kind) now reply log

-- what an AbortMultipartUpload is answered, of the upload that it names
abbrev pub AbortOwes : Key → Option VersionId → ℕ → Reply → Log → Type 0
AbortOwes at upload now reply log = DeedOwes at (acts.Abort (upload_of upload)) now reply log
