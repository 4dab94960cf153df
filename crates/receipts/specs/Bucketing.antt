-- What the calls on buckets owe.
use Rattle.std.specs.Prelude.{◌≡◌, ◌⊎◌, ℕ, List, [], ◌∷◌, Option}
use Rattle.call_types.specs.declared.act.Brief.{Brief}
use Rattle.call_types.specs.declared.act.Brief.TheVariants.{MakeBucket, SetMode}
use Rattle.call_types.specs.declared.names.Mode.{Mode}
use Rattle.call_types.specs.declared.refusal.Refusal.TheVariants.{MalformedXML}
use Rattle.call_types.specs.declared.reply.Reply.{Reply}
use Rattle.call_types.specs.declared.reply.Reply.TheVariants.{Mode as ModeReply, Plain, Refused}
use Rattle.s3_docs.specs.Documents.{IsDocument, IsPlace}
use Rattle.s3_docs.specs.Machine.Value.{Versioning}
use Rattle.s3_docs.specs.declared.prologue.Root.TheVariants.{VersioningConfiguration}
use Rattle.stamp_id.specs.declared.stamp.ChangeId.{ChangeId}
use Rattle.receipts.specs.Committing.{EndsAtCommit, Target}
use Rattle.receipts.specs.Events.{Log, Section, body_of, sections_of}
use Rattle.receipts.specs.Looks.{EndsAtLook, FindsBucket, FirstIsBarred}
use Rattle.receipts.specs.Registers.{bucket_register, bucket_slot}

-- the look at a bucket, which is the call's one section, shows one of this mode
pub record BucketIsThere (bucket : List ℕ) (mode : Mode) (log : Log) : Type 0 where
  pub look : Section
  pub sections : sections_of log ≡ look ∷ []
  pub finds : FindsBucket bucket mode look

-- what a HeadBucket is answered
abbrev pub HeadBucketOwes : List ℕ → Reply → Log → Type 0
HeadBucketOwes bucket reply log = EndsAtLook bucket reply log ⊎ ((mode : Mode) × BucketIsThere bucket mode log × (reply ≡ Plain))

-- what a GetBucketVersioning is answered
abbrev pub GetVersioningOwes : List ℕ → Reply → Log → Type 0
GetVersioningOwes bucket reply log = EndsAtLook bucket reply log ⊎ ((mode : Mode) × BucketIsThere bucket mode log × (reply ≡ ModeReply mode))

-- a change of a bucket, by the call that its entry tells for the change that it drew
abbrev pub bucket_target : List ℕ → (Option ChangeId → Brief) → Target
bucket_target bucket call = record { slot = bucket_slot bucket; register = bucket_register bucket; IsCall = λ change told. told ≡ call change }

-- what a change of a bucket is answered: its commit is the one section, or that could not be done
abbrev pub BucketActOwes : List ℕ → (Option ChangeId → Brief) → Reply → Log → Type 0
BucketActOwes bucket call reply log = EndsAtCommit (bucket_target bucket call) [] reply log ⊎ FirstIsBarred (bucket_slot bucket) reply log

-- what a CreateBucket is answered
abbrev pub CreateBucketOwes : List ℕ → ℕ → Reply → Log → Type 0
CreateBucketOwes bucket now reply log = BucketActOwes bucket (λ change. MakeBucket bucket change now) reply log

-- a PutBucketVersioning's document says this mode
pub record ModeIsSet (bucket : List ℕ) (now : ℕ) (reply : Reply) (log : Log) : Type 0 where
  pub mode : Mode
  pub document : IsDocument VersioningConfiguration (body_of log) (Versioning mode)
  pub owes : BucketActOwes bucket (λ change. SetMode bucket mode change now) reply log

-- or none: the place at which no document goes on is told, before any section
pub record DocumentIsMalformed (reply : Reply) (log : Log) : Type 0 where
  pub sections : sections_of log ≡ []
  pub place : ℕ
  pub is_place : IsPlace VersioningConfiguration (body_of log) place
  pub told : reply ≡ Refused (MalformedXML place)

-- what a PutBucketVersioning is answered
abbrev pub PutVersioningOwes : List ℕ → ℕ → Reply → Log → Type 0
PutVersioningOwes bucket now reply log = ModeIsSet bucket now reply log ⊎ DocumentIsMalformed reply log
