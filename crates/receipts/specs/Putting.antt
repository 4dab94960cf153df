-- What a call owes that puts a body, and what PutObject does.
use Rattle.std.specs.Prelude.{◌≡◌, ◌≢◌, ◌⊎◌, ℕ, List, [], ◌∷◌, ◌++◌, length, Option, Some, None}
use Rattle.md5.specs.Md5.{md5}
use Rattle.body_print.specs.Plans.{data_plan}
use Rattle.body_print.specs.Prints.{HasPrint}
use Rattle.call_types.specs.declared.act.Act.{Act}
use Rattle.call_types.specs.declared.act.Act.TheVariants as act
use Rattle.call_types.specs.declared.names.Key.{Key}
use Rattle.call_types.specs.declared.names.Mode.{Mode}
use Rattle.call_types.specs.declared.refusal.Refusal.TheVariants.{BadDigest, SeqSpent, WriteQuorum}
use Rattle.call_types.specs.declared.reply.Reply.{Reply}
use Rattle.call_types.specs.declared.reply.Reply.TheVariants.{Refused}
use Rattle.call_types.specs.declared.why.Why.{Why}
use Rattle.drive_base.specs.declared.plan.SetPlan.{SetPlan}
use Rattle.stamp_id.specs.declared.version.VersionId.{VersionId}
use Rattle.receipts.specs.Committing.{HasLooked, KeyIsBarred, KeyIsCommitted}
use Rattle.receipts.specs.Events.{Log, Note, Section, Shown, body_of, sections_of}
use Rattle.receipts.specs.Events.Event.{Turned}
use Rattle.receipts.specs.Letters.{FewTook}
use Rattle.receipts.specs.Looks.{EndsAtLook, FindsBucket, TellsRefusal}
use Rattle.receipts.specs.Registers.{key_register, key_slot}
use Rattle.receipts.specs.Staging.{IsStaged}

-- an act puts a body whose data has this id: its print, its length and its MD5 are the body's
pub record PutsBody (set : SetPlan) (kind body : List ℕ) (id : VersionId) (done : Act) : Type 0 where
  pub print : List ℕ
  pub is : done ≡ act.Put id print (length body) (md5 body) kind
  pub printed : HasPrint (data_plan set id).drives (data_plan set id).parity body print

-- the MD5 that was stated, if any, is the body's
abbrev pub IsAgreed : Option (List ℕ) → List ℕ → Type 0
IsAgreed stated body = (given : List ℕ) → stated ≡ Some given → given ≡ md5 body

-- what a put is of: the key whose bucket is looked at and whose slot it is in, the register that its manifest is for, and how its commit ends, by the id that
-- its body was staged under, and the body
pub record PutOf : Type 1 where
  pub at : Key
  pub register : List ℕ
  pub Ends : VersionId → List ℕ → Reply → Log → Type 0

-- that of an object of this content type
abbrev pub object_put : SetPlan → Key → List ℕ → ℕ → PutOf
object_put set at kind now = record {
  at = at;
  register = key_register at;
  Ends = λ id body reply log. KeyIsCommitted at now (PutsBody set kind body id) reply log;
}

-- the body was put, or its commit was refused: it was staged under an id of the key's slot when the first section behind the look at the bucket was done
pub record PutIsCommitted (set : SetPlan) (put : PutOf) (stated : Option (List ℕ)) (reply : Reply) (log : Log) : Type 0 where
  pub agreed : IsAgreed stated (body_of log)
  pub id : VersionId
  pub of_slot : id.slot ≡ key_slot put.at
  pub front : Log
  pub own : Note
  pub shown : Shown
  pub rest : Log
  pub parts : log ≡ front ++ Turned (key_slot put.at) (Some own) shown ∷ rest
  pub looked : HasLooked put.at.bucket front
  pub staged : IsStaged set put.register id (body_of log) front
  pub commit : put.Ends id (body_of log) reply log

-- the put could not begin, since the slot's numbers are spent
pub record PutIsNotBegun (at : Key) (reply : Reply) (log : Log) : Type 0 where
  pub look : Section
  pub own : Section
  pub sections : sections_of log ≡ look ∷ own ∷ []
  pub mode : Mode
  pub bucket : FindsBucket at.bucket mode look
  pub no_entry : own.note.entry ≡ None
  pub refuses : TellsRefusal (key_slot at) own.note reply
  pub spent : reply ≡ Refused SeqSpent

-- the MD5 that was stated is another than the body's, and both are told
pub record DigestDiffers (at : Key) (stated : Option (List ℕ)) (reply : Reply) (log : Log) : Type 0 where
  pub looked : HasLooked at.bucket log
  pub given : List ℕ
  pub given_is : stated ≡ Some given
  pub differs : given ≢ md5 (body_of log)
  pub told : reply ≡ Refused (BadDigest given (md5 (body_of log)))

-- too few drives took the body
pub record BodyIsNotTaken (set : SetPlan) (at : Key) (stated : Option (List ℕ)) (reply : Reply) (log : Log) : Type 0 where
  pub looked : HasLooked at.bucket log
  pub agreed : IsAgreed stated (body_of log)
  pub whys : List Why
  pub few : FewTook set (key_slot at) whys log
  pub told : reply ≡ Refused (WriteQuorum whys)

-- what a call that puts a body is answered
abbrev pub PutIsAnswered : SetPlan → PutOf → Option (List ℕ) → Reply → Log → Type 0
PutIsAnswered set put stated reply log = EndsAtLook put.at.bucket reply log
    ⊎ PutIsCommitted set put stated reply log
    ⊎ KeyIsBarred put.at reply log
    ⊎ PutIsNotBegun put.at reply log
    ⊎ DigestDiffers put.at stated reply log
    ⊎ BodyIsNotTaken set put.at stated reply log

-- what a PutObject is answered
abbrev pub PutOwes : SetPlan → Key → List ℕ → Option (List ℕ) → ℕ → Reply → Log → Type 0
PutOwes set at kind stated now reply log = PutIsAnswered set (object_put set at kind now) stated reply log
