-- What a call does to the content of a register, and what it is replied, as S3 has it for keys, buckets and parts.
use Rattle.std.specs.Prelude.{◌≡◌, ℕ, true, false, List, map, All, Option, Some, Result, Ok, Err, slice_get}
use Rattle.stamp_id.specs.declared.version.VersionId.{VersionId}
use Rattle.call_types.specs.Refusals.{refusal_of}
use Rattle.call_types.specs.declared.act.Act.{Act}
use Rattle.call_types.specs.declared.act.Brief.{Brief}
use Rattle.call_types.specs.declared.act.Brief.TheVariants as brief
use Rattle.call_types.specs.declared.names.Key.{Key}
use Rattle.call_types.specs.declared.names.Mode.{Mode}
use Rattle.call_types.specs.declared.names.Pick.{Pick}
use Rattle.call_types.specs.declared.names.Span.{Span}
use Rattle.call_types.specs.declared.refusal.KeyRefusal.{KeyRefusal}
use Rattle.call_types.specs.declared.reply.Reply.{Reply}
use Rattle.call_types.specs.declared.reply.Reply.TheVariants.{Plain, Found, Refused}
use Rattle.call_types.specs.declared.version.PartRecord.{PartRecord}
use Rattle.call_types.specs.declared.version.PartRef.{PartRef}
use Rattle.call_types.specs.declared.version.Version.{Version}
use Rattle.call_types.specs.declared.version.What.{What}
use Rattle.call_types.specs.declared.version.What.TheVariants.{Marker, Object}
use Rattle.version_list.specs.Reads.{Reads}
use Rattle.version_list.specs.Step.{Step, told}
use Rattle.version_list.specs.declared.state.KeyState.{KeyState}
use Rattle.bucket_book.specs.Step.{Step as BucketSteps}
use Rattle.bucket_book.specs.declared.record.BucketRecord.{BucketRecord}
use Rattle.bucket_book.specs.declared.step.BucketAct.{BucketAct}
use Rattle.bucket_book.specs.declared.step.BucketAct.TheVariants as bucket
use Rattle.upload_book.specs.Gathering.{Gathers, part_of}
use Rattle.upload_book.specs.Storing.{Stores, is_open}
use Rattle.upload_book.specs.declared.gathering.ListedPart.{ListedPart}
use Rattle.slot_history.specs.Contents.{SpellsBucket, SpellsKey, SpellsPart}
use Rattle.slot_history.specs.Names.{bucket_name, key_name, part_name}
use Rattle.slot_history.specs.State.{Registers}

-- the length of a version's body, 0 for a marker
abbrev pub body_length : What → ℕ
body_length Marker = 0
body_length (Object data_id print size md5 parts upload kind) = size

-- the whole body of a version
abbrev pub whole_of : Version → Span
whole_of v = record { at = 0; length = body_length v.what }

-- the reply to a read of a key, by the place of the version that it finds, or the refusal
abbrev pub RepliesRead : Mode → List Version → Result ℕ KeyRefusal → Reply → Type 0
RepliesRead mode versions (Ok place) reply = (v : Version) × (slice_get versions place ≡ Some v) × (reply ≡ Found v (whole_of v) (told mode v.id))
RepliesRead mode versions (Err why) reply = reply ≡ Refused (refusal_of why)

-- a read of a key: it has the reply that is due, and leaves the content
pub record DoesRead (registers : Registers) (name : List ℕ) (at : Key) (mode : Mode) (pick : Pick) (reply : Reply) (new : List ℕ) : Type 0 where
  pub name_is : name ≡ key_name at
  pub state : KeyState
  pub spells : SpellsKey (registers name).content state
  pub answer : Result ℕ KeyRefusal
  pub reads : Reads state.versions pick answer
  pub replies : RepliesRead mode state.versions answer reply
  pub stays : new ≡ (registers name).content

-- what is listed of the parts of an upload is what their registers have
abbrev pub AreListed : Registers → Key → VersionId → List ListedPart → Type 0
AreListed registers at upload listed =
    All (λ (l : ListedPart). SpellsPart (registers (part_name at upload l.part.number)).content l.found) listed

-- the reply to the first step of a Complete: that it has its parts, or the refusal
abbrev pub RepliesGather : Result (List PartRecord) KeyRefusal → Reply → Type 0
RepliesGather (Ok parts) reply = reply ≡ Plain
RepliesGather (Err why) reply = reply ≡ Refused (refusal_of why)

-- the first step of a Complete. Where the upload isn't open the registers of its parts mean nothing, and then they decide nothing
pub record DoesGather (registers : Registers) (name : List ℕ) (at : Key) (upload : VersionId) (parts : List PartRef) (reply : Reply) (new : List ℕ) : Type 0 where
  pub name_is : name ≡ key_name at
  pub state : KeyState
  pub spells : SpellsKey (registers name).content state
  pub listed : List ListedPart
  pub parts_are : map part_of listed ≡ parts
  pub found : is_open upload state ≡ true → AreListed registers at upload listed
  pub answer : Result (List PartRecord) KeyRefusal
  pub gathers : Gathers state upload listed answer
  pub replies : RepliesGather answer reply
  pub stays : new ≡ (registers name).content

-- a change of a key: a step of its versioned object
pub record DoesChange (registers : Registers) (name : List ℕ) (at : Key) (mode : Mode) (act : Act) (id : VersionId) (now : ℕ) (reply : Reply) (new : List ℕ) : Type 0 where
  pub name_is : name ≡ key_name at
  pub old_state : KeyState
  pub spells_old : SpellsKey (registers name).content old_state
  pub new_state : KeyState
  pub spells_new : SpellsKey new new_state
  pub step : Step old_state mode act id now reply new_state

-- the store of a part, where the upload is open
pub record DoesPart (registers : Registers) (name : List ℕ) (at : Key) (upload : VersionId) (number : ℕ) (part : PartRecord) (now : ℕ) (reply : Reply) (new : List ℕ) : Type 0 where
  pub name_is : name ≡ part_name at upload number
  pub state : KeyState
  pub spells : SpellsKey (registers (key_name at)).content state
  pub old_row : Option PartRecord
  pub new_row : Option PartRecord
  pub spells_old : is_open upload state ≡ true → SpellsPart (registers name).content old_row
  pub leaves : is_open upload state ≡ false → new ≡ (registers name).content
  pub spells_new : is_open upload state ≡ true → SpellsPart new new_row
  pub step : Stores state upload part now old_row reply new_row

-- a step of a bucket
pub record DoesBucket (registers : Registers) (name : List ℕ) (bucket : List ℕ) (act : BucketAct) (now : ℕ) (reply : Reply) (new : List ℕ) : Type 0 where
  pub name_is : name ≡ bucket_name bucket
  pub old_row : Option BucketRecord
  pub spells_old : SpellsBucket (registers name).content old_row
  pub new_row : Option BucketRecord
  pub spells_new : SpellsBucket new new_row
  pub step : BucketSteps old_row act now reply new_row

-- what a call does to the register of this name, with the id that the slot makes of the change that the call drew: the reply, and the new content
abbrev pub Does : Registers → List ℕ → Brief → VersionId → Reply → List ℕ → Type 0
Does registers name (brief.Read at mode pick) id reply new = DoesRead registers name at mode pick reply new
Does registers name (brief.Gather at upload parts) id reply new = DoesGather registers name at upload parts reply new
Does registers name (brief.Change at mode act change now) id reply new = DoesChange registers name at mode act id now reply new
Does registers name (brief.Part at upload number part change now) id reply new = DoesPart registers name at upload number part now reply new
Does registers name (brief.MakeBucket named change now) id reply new = DoesBucket registers name named bucket.Make now reply new
Does registers name (brief.SetMode named mode change now) id reply new = DoesBucket registers name named (bucket.SetMode mode) now reply new
Does registers name (brief.Answer told) id reply new = ⊥
