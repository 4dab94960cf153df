-- What a section at a register says of a call: the look at its bucket, and refusals.
use Rattle.std.specs.Prelude.{◌≡◌, ◌⊎◌, ℕ, List, [], ◌∷◌, Some, None, Contains}
use Rattle.audit_trail.specs.declared.entry.Deed.{Deed}
use Rattle.audit_trail.specs.declared.entry.Deed.TheVariants.{Kept}
use Rattle.audit_trail.specs.declared.entry.Entry.{Entry}
use Rattle.bucket_book.specs.Content.{IsBucketOf, content_of}
use Rattle.call_types.specs.declared.names.Mode.{Mode}
use Rattle.call_types.specs.declared.refusal.Refusal.{Refusal}
use Rattle.call_types.specs.declared.refusal.Refusal.TheVariants.{AuditFailed, NoSuchBucket, NotInFlight, ReadQuorum, SeqSpent, Undecided, WriteQuorum}
use Rattle.call_types.specs.declared.reply.Reply.{Reply}
use Rattle.call_types.specs.declared.reply.Reply.TheVariants.{Refused}
use Rattle.receipts.specs.Events.{Log, Note, Section, sections_of}
use Rattle.receipts.specs.Events.Shown.{ContentShown}
use Rattle.receipts.specs.Events.Event.{BarredFrom}
use Rattle.receipts.specs.Registers.{bucket_register, bucket_slot}
use Rattle.receipts.specs.declared.barred.Barred.TheVariants.{Spent}

-- a section of this slot wrote an entry, with its own ticket: it is for the register of this name, and says that this was done
pub record HasEntry (slot : ℕ) (name : List ℕ) (deed : Deed) (note : Note) : Type 0 where
  pub slot_is : note.slot ≡ slot
  pub entry : Entry
  pub entry_is : note.entry ≡ Some entry
  pub ticket_is : entry.ticket ≡ note.ticket
  pub name_is : entry.name ≡ name
  pub deed_is : entry.deed ≡ deed

-- a refusal is one of a register, of its slot or of its audit. That of the state of a key or a bucket is the reply of an entry
abbrev pub IsOfSection : Refusal → Type 0
IsOfSection (ReadQuorum whys) = Unit {0}
IsOfSection (WriteQuorum whys) = Unit {0}
IsOfSection (Undecided k u whys) = Unit {0}
IsOfSection SeqSpent = Unit {0}
IsOfSection (NotInFlight id) = Unit {0}
IsOfSection (AuditFailed before after) = Unit {0}
IsOfSection other = ⊥

-- a section of this slot was refused so, and the call is answered its refusal
pub record TellsRefusal (slot : ℕ) (note : Note) (reply : Reply) : Type 0 where
  pub slot_is : note.slot ≡ slot
  pub why : Refusal
  pub of_section : IsOfSection why
  pub refused : note.refusal ≡ Some why
  pub told : reply ≡ Refused why

-- a section at a register did nothing of its own: it wrote no entry, or one that says so
abbrev pub IsIdle : ℕ → List ℕ → Note → Type 0
IsIdle slot name note = (note.entry ≡ None) ⊎ HasEntry slot name Kept note

-- a section of this slot looked at the register of this name, and was shown this content
pub record LooksAt (slot : ℕ) (register content : List ℕ) (section : Section) : Type 0 where
  pub entry : HasEntry slot register Kept section.note
  pub unrefused : section.note.refusal ≡ None
  pub shown : section.shown ≡ ContentShown content

-- one looked at the register of a bucket, and was shown a bucket of this mode
pub record FindsBucket (bucket : List ℕ) (mode : Mode) (section : Section) : Type 0 where
  pub content : List ℕ
  pub looks : LooksAt (bucket_slot bucket) (bucket_register bucket) content section
  pub is_bucket : IsBucketOf content mode

-- it was shown that there is none
abbrev pub LacksBucket : List ℕ → Section → Type 0
LacksBucket bucket section = LooksAt (bucket_slot bucket) (bucket_register bucket) (content_of None) section

-- a section of this slot could not be done, since the slot's turns are spent
pub record TellsSpent (slot : ℕ) (reply : Reply) (log : Log) : Type 0 where
  pub spent : Contains log (BarredFrom slot Spent)
  pub told : reply ≡ Refused SeqSpent

-- the look at a call's bucket, which is its one section so far, decides: there is no bucket
pub record BucketIsLacking (bucket : List ℕ) (reply : Reply) (log : Log) : Type 0 where
  pub look : Section
  pub sections : sections_of log ≡ look ∷ []
  pub lacks : LacksBucket bucket look
  pub told : reply ≡ Refused NoSuchBucket

-- a look at a register, which is a call's one section so far, is refused
pub record LookIsRefused (slot : ℕ) (register : List ℕ) (reply : Reply) (log : Log) : Type 0 where
  pub look : Section
  pub sections : sections_of log ≡ look ∷ []
  pub idle : IsIdle slot register look.note
  pub refuses : TellsRefusal slot look.note reply

-- a call's first section, one of this slot, could not be done
pub record FirstIsBarred (slot : ℕ) (reply : Reply) (log : Log) : Type 0 where
  pub sections : sections_of log ≡ []
  pub barred : TellsSpent slot reply log

-- how a call ends at the look at its bucket
abbrev pub EndsAtLook : List ℕ → Reply → Log → Type 0
EndsAtLook bucket reply log = BucketIsLacking bucket reply log
    ⊎ LookIsRefused (bucket_slot bucket) (bucket_register bucket) reply log
    ⊎ FirstIsBarred (bucket_slot bucket) reply log
