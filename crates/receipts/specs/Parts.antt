-- What UploadPart owes: it puts a body as PutObject does, and its commit may wait for a change of the key.
use Rattle.std.specs.Prelude.{◌≡◌, ◌⊎◌, ℕ, List, [], ◌∷◌, ◌++◌, All, length, Option, None, IsSome}
use Rattle.md5.specs.Md5.{md5}
use Rattle.audit_trail.specs.declared.entry.Deed.TheVariants.{Kept}
use Rattle.body_print.specs.Plans.{data_plan}
use Rattle.body_print.specs.Prints.{HasPrint}
use Rattle.call_types.specs.declared.act.Brief.TheVariants.{Part}
use Rattle.call_types.specs.declared.names.Key.{Key}
use Rattle.call_types.specs.declared.names.Mode.{Mode}
use Rattle.call_types.specs.declared.reply.Reply.{Reply}
use Rattle.call_types.specs.declared.version.PartRecord.{PartRecord}
use Rattle.drive_base.specs.declared.plan.SetPlan.{SetPlan}
use Rattle.stamp_id.specs.declared.version.VersionId.{VersionId}
use Rattle.receipts.specs.Committing.{EndsAtCommit, Target}
use Rattle.receipts.specs.Events.{Log, Section, sections_of}
use Rattle.receipts.specs.Looks.{FindsBucket, HasEntry, IsIdle, TellsRefusal, TellsSpent}
use Rattle.receipts.specs.Putting.{PutIsAnswered, PutOf}
use Rattle.receipts.specs.Registers.{key_register, key_slot, part_register}
use Rattle.receipts.specs.Uploads.{upload_of}

-- a part has this id, and the print, the length and the MD5 of the body, in this second
pub record IsPartOf (set : SetPlan) (body : List ℕ) (id : VersionId) (now : ℕ) (part : PartRecord) : Type 0 where
  pub print : List ℕ
  pub is : part ≡ record { data_id = id; print = print; length = length body; md5 = md5 body; modified = now }
  pub printed : HasPrint (data_plan set id).drives (data_plan set id).parity body print

-- a section completed a change of the key that was pending, and did nothing of its own: the commit of the part goes again
pub record WaitsFor (at : Key) (section : Section) : Type 0 where
  pub kept : HasEntry (key_slot at) (key_register at) Kept section.note
  pub completed : IsSome kept.entry.late
  pub unrefused : section.note.refusal ≡ None

-- a change of the register of a part, by the call that stores such a part
abbrev pub part_target : Key → VersionId → ℕ → ℕ → (PartRecord → Type 0) → Target
part_target at upload number now IsPart = record {
  slot = key_slot at;
  register = part_register at upload number;
  IsCall = λ change call. (part : PartRecord) × IsPart part × (call ≡ Part at upload number part change now);
}

-- a call's sections are these before and one that was refused at the key's register, or at the completing of what is pending there
pub record WaitIsRefused (at : Key) (before : List Section) (reply : Reply) (log : Log) : Type 0 where
  pub own : Section
  pub sections : sections_of log ≡ before ++ own ∷ []
  pub idle : IsIdle (key_slot at) (key_register at) own.note
  pub refuses : TellsRefusal (key_slot at) own.note reply

-- a call's sections are these before, and the next could not be done
pub record WaitIsBarred (at : Key) (before : List Section) (reply : Reply) (log : Log) : Type 0 where
  pub sections : sections_of log ≡ before
  pub barred : TellsSpent (key_slot at) reply log

-- the commit of a part ends behind the look at the bucket, which has this mode, and behind all sections that waited
pub record PartEnds (at : Key) (target : Target) (reply : Reply) (log : Log) : Type 0 where
  pub look : Section
  pub mode : Mode
  pub bucket : FindsBucket at.bucket mode look
  pub waits : List Section
  pub waited : All (WaitsFor at) waits
  pub ends : EndsAtCommit target (look ∷ waits) reply log ⊎ WaitIsRefused at (look ∷ waits) reply log ⊎ WaitIsBarred at (look ∷ waits) reply log

-- what the put of a part is of
abbrev pub part_put : SetPlan → Key → VersionId → ℕ → ℕ → PutOf
part_put set at upload number now = record {
  at = at;
  register = part_register at upload number;
  Ends = λ id body reply log. PartEnds at (part_target at upload number now (IsPartOf set body id now)) reply log;
}

-- what an UploadPart is answered
abbrev pub PartOwes : SetPlan → Key → Option VersionId → ℕ → Option (List ℕ) → ℕ → Reply → Log → Type 0
PartOwes set at upload number stated now reply log = PutIsAnswered set (part_put set at (upload_of upload) number now) stated reply log
