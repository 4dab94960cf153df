-- The laws of what UploadPart owes.
use Rattle.std.specs.Prelude.{◌≡◌, ℕ, ◌<◌, List, [], ◌++◌, All, Option, None}
use Rattle.md5.specs.Md5.{md5}
use Rattle.body_print.specs.Plans.{data_plan}
use Rattle.call_types.specs.declared.act.Brief.TheVariants.{Part}
use Rattle.call_types.specs.declared.names.Key.{Key}
use Rattle.call_types.specs.declared.reply.Reply.{Reply}
use Rattle.call_types.specs.declared.reply.Reply.TheVariants.{Stored}
use Rattle.call_types.specs.declared.version.PartRecord.{PartRecord}
use Rattle.drive_base.specs.Plan.{write_drives}
use Rattle.drive_base.specs.declared.plan.SetPlan.{SetPlan}
use Rattle.stamp_id.specs.declared.stamp.ChangeId.{ChangeId}
use Rattle.stamp_id.specs.declared.version.VersionId.{VersionId}
use Rattle.version_list.specs.Answers.{IsServed}
use Rattle.receipts.specs.Events.{IsQuiet, Log, body_of, calls_at, notes_of}
use Rattle.receipts.specs.Laws.{IsDoneIn}
use Rattle.receipts.specs.Parts.{IsPartOf, PartOwes, part_put}
use Rattle.receipts.specs.Putting.{PutIsCommitted}
use Rattle.receipts.specs.Registers.{key_slot, part_register}
use Rattle.receipts.specs.Uploads.{upload_of}

-- quiet events leave what is owed to an UploadPart
abbrev pub QuietKeepsPart : Type 0
QuietKeepsPart = (set : SetPlan) (at : Key) (upload : Option VersionId) (number : ℕ) (stated : Option (List ℕ)) (now : ℕ) (reply : Reply) (log more : Log)
    → All IsQuiet more → PartOwes set at upload number stated now reply log → PartOwes set at upload number stated now reply (log ++ more)

-- where it isn't refused its entity tag is the MD5 of exactly its body
abbrev pub PartTellsTag : Type 0
PartTellsTag = (set : SetPlan) (at : Key) (upload : Option VersionId) (number : ℕ) (stated : Option (List ℕ)) (now : ℕ) (reply : Reply) (log : Log)
    → PartOwes set at upload number stated now reply log → IsServed reply → reply ≡ Stored (record { md5 = md5 (body_of log); parts = 0 }) None

-- and some note has the store of a part of its upload, under its number, with the print, the length and the MD5 of exactly its body
abbrev pub PartIsStored : Type 0
PartIsStored = (set : SetPlan) (at : Key) (upload : Option VersionId) (number : ℕ) (stated : Option (List ℕ)) (now : ℕ) (reply : Reply) (log : Log)
    → PartOwes set at upload number stated now reply log → IsServed reply
    → (id : VersionId) × (part : PartRecord) × IsPartOf set (body_of log) id now part
    × IsDoneIn (key_slot at) (part_register at (upload_of upload) number) (λ call. (change : Option ChangeId) × (call ≡ Part at (upload_of upload) number part change now)) reply
    (notes_of log)

-- a log by which no data drive was called is none in which a part was put
abbrev pub PartsAskDrives : Type 0
PartsAskDrives = (set : SetPlan) (at : Key) (upload : VersionId) (number : ℕ) (stated : Option (List ℕ)) (now : ℕ) (reply : Reply) (log : Log)
    → ((k : ℕ) → calls_at k log ≡ []) → (put : PutIsCommitted set (part_put set at upload number now) stated reply log)
    → 0 < write_drives (data_plan set put.id).drives (data_plan set put.id).parity → ⊥
