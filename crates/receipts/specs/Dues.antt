-- The replies that a step of a versioned object or of a bucket gives, from some state.
use Rattle.std.specs.Prelude.{◌≡◌, ◌≢◌, ℕ, List, Option, Some, IsSome, Result, Ok, Err, slice_get}
use Rattle.bucket_book.specs.Step.{Step as BucketSteps}
use Rattle.bucket_book.specs.declared.record.BucketRecord.{BucketRecord}
use Rattle.bucket_book.specs.declared.step.BucketAct.{BucketAct}
use Rattle.bucket_book.specs.declared.step.BucketAct.TheVariants.{Make, SetMode as SetModeAct}
use Rattle.call_types.specs.Refusals.{refusal_of}
use Rattle.call_types.specs.declared.act.Act.{Act}
use Rattle.call_types.specs.declared.act.Brief.{Brief}
use Rattle.call_types.specs.declared.act.Brief.TheVariants.{Change, MakeBucket, Part, Read, SetMode}
use Rattle.call_types.specs.declared.names.Mode.{Mode}
use Rattle.call_types.specs.declared.names.Pick.{Pick}
use Rattle.call_types.specs.declared.refusal.KeyRefusal.{KeyRefusal}
use Rattle.call_types.specs.declared.reply.Reply.{Reply}
use Rattle.call_types.specs.declared.reply.Reply.TheVariants.{Found, Refused}
use Rattle.call_types.specs.declared.version.PartRecord.{PartRecord}
use Rattle.call_types.specs.declared.version.Version.{Version}
use Rattle.stamp_id.specs.declared.stamp.ChangeId.{ChangeId}
use Rattle.stamp_id.specs.declared.version.VersionId.{VersionId}
use Rattle.upload_book.specs.Storing.{Stores}
use Rattle.version_list.specs.Reads.{Reads}
use Rattle.version_list.specs.Step.{Step, told}
use Rattle.version_list.specs.declared.state.KeyState.{KeyState}
use Rattle.receipts.specs.Registers.{key_slot}
use Rattle.receipts.specs.Spans.{whole_of}

-- an act on a key can have this reply: it drew a change where it makes another state, and what it makes has the id that its slot makes of that change
pub record IsDueChange (slot : ℕ) (mode : Mode) (act : Act) (change : Option ChangeId) (now : ℕ) (reply : Reply) : Type 0 where
  pub old : KeyState
  pub new : KeyState
  pub id : VersionId
  pub step : Step old mode act id now reply new
  pub drawn : new ≢ old → IsSome change
  pub id_is : (own : ChangeId) → change ≡ Some own → (id.change ≡ own) × (id.slot ≡ slot)

-- the reply to a read of a key, by the place of the version that it finds, or the refusal
abbrev pub RepliesRead : Mode → List Version → Result ℕ KeyRefusal → Reply → Type 0
RepliesRead mode versions (Ok place) reply = (v : Version) × (slice_get versions place ≡ Some v) × (reply ≡ Found v (whole_of v) (told mode v.id))
RepliesRead mode versions (Err why) reply = reply ≡ Refused (refusal_of why)

-- a read of a key can have this reply
pub record IsDueRead (mode : Mode) (pick : Pick) (reply : Reply) : Type 0 where
  pub versions : List Version
  pub answer : Result ℕ KeyRefusal
  pub reads : Reads versions pick answer
  pub replies : RepliesRead mode versions answer reply

-- an act on a bucket can have this reply, and drew a change where it makes another row
pub record IsDueBucket (act : BucketAct) (change : Option ChangeId) (now : ℕ) (reply : Reply) : Type 0 where
  pub old : Option BucketRecord
  pub new : Option BucketRecord
  pub drawn : new ≢ old → IsSome change
  pub step : BucketSteps old act now reply new

-- a store of a part can have this reply, and drew a change where it makes another row
pub record IsDuePart (upload : VersionId) (part : PartRecord) (change : Option ChangeId) (now : ℕ) (reply : Reply) : Type 0 where
  pub state : KeyState
  pub old : Option PartRecord
  pub new : Option PartRecord
  pub drawn : new ≢ old → IsSome change
  pub step : Stores state upload part now old reply new

-- a call that an entry tells of can have this reply. The parts that a CompleteMultipartUpload joins are not served yet
abbrev pub IsDueReply : Brief → Reply → Type 0
IsDueReply (Read at mode pick) reply = IsDueRead mode pick reply
IsDueReply (Change at mode act change now) reply = IsDueChange (key_slot at) mode act change now reply
IsDueReply (Part at upload number part change now) reply = IsDuePart upload part change now reply
IsDueReply (MakeBucket bucket change now) reply = IsDueBucket Make change now reply
IsDueReply (SetMode bucket mode change now) reply = IsDueBucket (SetModeAct mode) change now reply
IsDueReply other reply = ⊥
