-- What a deed does to a content, and what its section tells of it.
use Rattle.std.specs.Prelude.{◌≡◌, ◌≢◌, ℕ, ◌≤◌, List, [], length, Option, Some, None, MatchOption, IfSome, unwrap_or}
use Rattle.std.specs.List.{flat_map}
use Rattle.stamp_id.specs.VersionId.{id_bytes}
use Rattle.stamp_id.specs.declared.stamp.ChangeId.{ChangeId}
use Rattle.stamp_id.specs.declared.version.VersionId.{VersionId}
use Rattle.call_types.specs.Refusals.{refusal_of}
use Rattle.call_types.specs.declared.act.Act.{Act}
use Rattle.call_types.specs.declared.act.Act.TheVariants as act
use Rattle.call_types.specs.declared.act.Brief.{Brief}
use Rattle.call_types.specs.declared.act.Brief.TheVariants as brief
use Rattle.call_types.specs.declared.reply.Reply.{Reply}
use Rattle.call_types.specs.declared.reply.Reply.TheVariants.{Refused}
use Rattle.bucket_book.specs.declared.step.BucketAct.{BucketAct}
use Rattle.bucket_book.specs.declared.step.BucketAct.TheVariants as bucket
use Rattle.call_types.specs.declared.version.PartRecord.{PartRecord}
use Rattle.register_file.specs.declared.record.Adds.{Adds}
use Rattle.upload_book.specs.Content.{content_of as part_content}
use Rattle.version_list.specs.Gone.{gone_ids}
use Rattle.version_list.specs.Spelling.{spelling}
use Rattle.version_list.specs.declared.outcome.Applied.{Applied}
use Rattle.version_list.specs.declared.state.KeyState.{KeyState}
use Rattle.slot_history.specs.Contents.{SpellsKey}
use Rattle.slot_history.specs.Doing.{Does}
use Rattle.slot_history.specs.State.{IsHeld, Registers}
use Rattle.slot_rules.specs.Deeds.{call_of, name_of}
use Rattle.slot_rules.specs.declared.commit.Commit.{Commit}
use Rattle.slot_rules.specs.declared.commit.Commit.TheVariants.{Key, Part, MakeBucket, SetMode}
use Rattle.slot_rules.specs.declared.planning.Planned.{Planned}
use Rattle.slot_rules.specs.declared.rules.TheConstants.{BUCKET_BYTES, KEY_BYTES, PART_BYTES}

-- what a call does to a content under a name that is held, whatever stands under other names: that of a part is held while its key has the upload open
abbrev pub DoesOver : List ℕ → List ℕ → Brief → VersionId → Reply → List ℕ → Type 0
DoesOver name content call id reply new = (registers : Registers) → (registers name).content ≡ content → IsHeld registers name
    → Does registers name call id reply new

-- the data that an act brings, as a change adds it
abbrev pub act_adds : Act → Option Adds
act_adds (act.Put data_id print size md5 kind) = Some (record { id = data_id; print = print })
act_adds (act.Delete pick) = None
act_adds (act.Create kind) = None
act_adds (act.Complete upload parts data_id print size md5) = Some (record { id = data_id; print = print })
act_adds (act.Abort upload) = None

-- the same of a deed
abbrev pub adds_of : Commit → Option Adds
adds_of (Key at mode act) = act_adds act
adds_of (Part at upload number part) = Some (record { id = part.data_id; print = part.print })
adds_of (MakeBucket bucket) = None
adds_of (SetMode bucket mode) = None

-- the most bytes of a content of its register
abbrev pub most_for : Commit → ℕ
most_for (Key at mode act) = KEY_BYTES
most_for (Part at upload number part) = PART_BYTES
most_for (MakeBucket bucket) = BUCKET_BYTES
most_for (SetMode bucket mode) = BUCKET_BYTES

-- the data that is gone where a deed leaves another content: what the versions of its key had and have no more; a bucket and a part
-- have none
abbrev pub IsGoneBy : Commit → List ℕ → List ℕ → List VersionId → Type 0
IsGoneBy (Key at mode act) before after gone = (state later : KeyState) → SpellsKey before state → SpellsKey after later
    → gone ≡ gone_ids state.versions later.versions
IsGoneBy (Part at upload number part) before after gone = gone ≡ []
IsGoneBy (MakeBucket bucket) before after gone = gone ≡ []
IsGoneBy (SetMode bucket mode) before after gone = gone ≡ []

-- a bucket's deed does this to its bucket
abbrev pub IsBucketDeed : Commit → BucketAct → Type 0
IsBucketDeed (Key at mode act) done = ⊥
IsBucketDeed (Part at upload number part) done = ⊥
IsBucketDeed (MakeBucket name) done = done ≡ bucket.Make
IsBucketDeed (SetMode name mode) done = done ≡ bucket.SetMode mode

-- the content of a part that is stored, none where its row stands already
abbrev pub SpellsStored : Option PartRecord → PartRecord → Option (List ℕ) → Type 0
SpellsStored row stored None = row ≡ Some stored
SpellsStored row stored (Some content) = (content ≡ part_content (Some stored)) × (row ≢ Some stored)

-- what is planned of an act that is done to a key: its reply, the content of the state that it leaves where that is another one, and the data that is gone
pub record Applies (applied : Applied) (planned : Planned) : Type 0 where
  pub reply : applied.done ≡ brief.Answer planned.reply
  pub none : planned.refused ≡ None
  pub content : MatchOption applied.state (planned.content ≡ None) (λ new. planned.content ≡ Some (spelling new))
  pub gone : (ids : List VersionId) → applied.gone ≡ flat_map id_bytes ids → planned.gone.items ≡ ids

-- what is planned of a deed: its reply, which refuses it where the state of the key does, the content that it leaves where that is another one, and the
-- data that is gone then
pub record IsPlanned (deed : Commit) (now : ℕ) (id : VersionId) (content : List ℕ) (planned : Planned) : Type 0 where
  pub does : (change : Option ChangeId) → DoesOver (name_of deed) content (call_of deed change now) id planned.reply (unwrap_or planned.content content)
  pub changed : IfSome planned.content (λ new. new ≢ content)
  pub short : IfSome planned.content (λ new. length new ≤ most_for deed)
  pub refused : IfSome planned.refused (λ why. (planned.reply ≡ Refused (refusal_of why)) × (planned.content ≡ None))
  pub gone : IsGoneBy deed content (unwrap_or planned.content content) planned.gone.items
  pub none_gone : planned.content ≡ None → planned.gone.items ≡ []
