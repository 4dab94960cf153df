-- What the look at its bucket shows to a call on an object, and what its log says then.
use Rattle.std.specs.Prelude.{◌≡◌, ◌⊎◌, ℕ, List, [], ◌∷◌, All, None, Some, Result, Ok, Err}
use Rattle.bucket_book.specs.Content.{IsBucketOf, content_of}
use Rattle.call_types.specs.declared.refusal.Refusal.TheVariants.{NoSuchBucket}
use Rattle.call_types.specs.declared.reply.Reply.TheVariants.{Refused as RefusedReply}
use Rattle.drive_base.specs.declared.drive.Drive.{Ghosts}
use Rattle.drive_base.specs.View.{DriveView}
use Rattle.slot_core.specs.declared.slot.SlotFault.{SlotFault}
use Rattle.receipts.specs.Bucketing.{BucketIsThere}
use Rattle.receipts.specs.Events.{Log, Shown, sections_of}
use Rattle.receipts.specs.Events.Event.{Turned}
use Rattle.receipts.specs.Looks.{EndsAtLook, IsOfSection}
use Rattle.receipts.specs.Paying.{ChangesNothing}
use Rattle.receipts.specs.Registers.{bucket_register, bucket_slot}
use Rattle.op_steps.specs.Claims.{Claim}
use Rattle.op_steps.specs.Moves.{TurnMoves}
use Rattle.op_steps.specs.Notes.{noted, refusal_by}
use Rattle.op_steps.specs.Store.{SlotSeen}
use Rattle.op_steps.specs.declared.looking.Look.{Look}
use Rattle.op_steps.specs.declared.looking.Looked.{Looked}
use Rattle.op_steps.specs.declared.looking.Looked.TheVariants.{LacksMemory, Refused, There}

-- what an answer shows: a bucket of a mode, that there is none, or the refusal of the section. Want of memory shows nothing
abbrev pub ShowsLook : Result (List ℕ) SlotFault → Looked → Type 0
ShowsLook answer (There mode) = (content : List ℕ) × (answer ≡ Ok content) × IsBucketOf content mode
ShowsLook answer (Refused why) = ((answer ≡ Ok (content_of None)) × (why ≡ NoSuchBucket))
    ⊎ ((fault : SlotFault) × (answer ≡ Err fault) × (refusal_by fault ≡ Some why) × IsOfSection why)
ShowsLook answer LacksMemory = Unit {0}

-- what a log says of the bucket, whose one section is the look. Want of memory changed nothing
abbrev pub SaysBucket : List ℕ → Looked → Log → Type 0
SaysBucket bucket (There mode) log = BucketIsThere bucket mode log
SaysBucket bucket (Refused why) log = EndsAtLook bucket (RefusedReply why) log
SaysBucket bucket LacksMemory log = All ChangesNothing (sections_of log)

module _ {D : Type 0} (ghosts : Ghosts D) where
  -- a look at the register of this name is a step that leaves any claim; where it is a bucket's, the log of the look says what it showed
  pub record LooksSo (name : List ℕ) (was now : SlotSeen D) (look : Look) (old new : List DriveView) : Type 0 where
    pub shown : Shown
    pub turns : (claim : Claim) → TurnMoves ghosts was now (noted look.stub) shown claim claim old new
    pub says : (bucket : List ℕ) → name ≡ bucket_register bucket → was.numbers.index ≡ bucket_slot bucket
        → SaysBucket bucket look.looked (Turned was.numbers.index (noted look.stub) shown ∷ [])
