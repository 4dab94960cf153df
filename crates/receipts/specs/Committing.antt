-- How a call ends at the section that commits its change, and how one that changes a key does.
use Rattle.std.specs.Prelude.{◌≡◌, ◌⊎◌, ℕ, List, [], ◌∷◌, ◌++◌, Option, Some}
use Rattle.audit_trail.specs.declared.entry.Deed.TheVariants.{Done, Refused as RefusedDeed}
use Rattle.call_types.specs.declared.act.Act.{Act}
use Rattle.call_types.specs.declared.act.Brief.{Brief}
use Rattle.call_types.specs.declared.act.Brief.TheVariants.{Answer, Change}
use Rattle.call_types.specs.declared.names.Key.{Key}
use Rattle.call_types.specs.declared.names.Mode.{Mode}
use Rattle.call_types.specs.declared.reply.Reply.{Reply}
use Rattle.stamp_id.specs.declared.stamp.ChangeId.{ChangeId}
use Rattle.receipts.specs.Dues.{IsDueReply}
use Rattle.receipts.specs.Events.{Log, Note, Section, sections_of}
use Rattle.receipts.specs.Looks.{FindsBucket, HasEntry, IsIdle, TellsRefusal, TellsSpent}
use Rattle.receipts.specs.Registers.{key_register, key_slot}

-- what a section is to change: the register of a slot, and of which calls its entry may tell, by the change that it drew
pub record Target : Type 1 where
  pub slot : ℕ
  pub register : List ℕ
  pub IsCall : Option ChangeId → Brief → Type 0

-- a section did such a call, and the call is answered what it was replied
pub record MakesChange (target : Target) (note : Note) (reply : Reply) : Type 0 where
  pub change : Option ChangeId
  pub call : Brief
  pub is_call : target.IsCall change call
  pub entry : HasEntry target.slot target.register (Done call (Answer reply)) note
  pub due : IsDueReply call reply

-- it began such a call under this change, and was refused
pub record BeginsChange (target : Target) (note : Note) : Type 0 where
  pub change : ChangeId
  pub call : Brief
  pub is_call : target.IsCall (Some change) call
  pub entry : HasEntry target.slot target.register (RefusedDeed change call) note

-- it was refused, and did nothing or began such a call
pub record RefusesChange (target : Target) (note : Note) (reply : Reply) : Type 0 where
  pub refuses : TellsRefusal target.slot note reply
  pub deed : IsIdle target.slot target.register note ⊎ BeginsChange target note

-- a call's sections are these before and the one that commits the change
pub record EndsAtCommit (target : Target) (before : List Section) (reply : Reply) (log : Log) : Type 0 where
  pub own : Section
  pub sections : sections_of log ≡ before ++ own ∷ []
  pub ends : MakesChange target own.note reply ⊎ RefusesChange target own.note reply

-- an act of this kind on a key, in a bucket of this mode
abbrev pub act_target : Key → Mode → ℕ → (Act → Type 0) → Target
act_target at mode now IsAct = record {
  slot = key_slot at;
  register = key_register at;
  IsCall = λ change call. (act : Act) × IsAct act × (call ≡ Change at mode act change now);
}

-- before it stands the look at the key's bucket, which has this mode
pub record KeyIsCommitted (at : Key) (now : ℕ) (IsAct : Act → Type 0) (reply : Reply) (log : Log) : Type 0 where
  pub look : Section
  pub mode : Mode
  pub bucket : FindsBucket at.bucket mode look
  pub commit : EndsAtCommit (act_target at mode now IsAct) (look ∷ []) reply log

-- the look at its bucket, which is there, is a call's one section so far
pub record HasLooked (bucket : List ℕ) (log : Log) : Type 0 where
  pub look : Section
  pub sections : sections_of log ≡ look ∷ []
  pub mode : Mode
  pub finds : FindsBucket bucket mode look

-- and the key's section could not be done
pub record KeyIsBarred (at : Key) (reply : Reply) (log : Log) : Type 0 where
  pub looked : HasLooked at.bucket log
  pub barred : TellsSpent (key_slot at) reply log
