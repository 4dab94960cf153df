-- The whole account of a section that was refused: its look, the completion of what was pending and its writes, as the section says them. What a contract says of
-- it is drawn from that (`CauseLetterLemmas`, `SectionLemmas`).
use Rattle.std.specs.Prelude.{◌≡◌, ◌⊎◌, ℕ, List, [], Option, Some, None, Err, MatchOption}
use Rattle.audit_trail.specs.declared.entry.Deed.TheVariants.{Kept}
use Rattle.audit_trail.specs.declared.entry.Entry.{Entry}
use Rattle.call_types.specs.declared.refusal.Refusal.{Refusal}
use Rattle.call_types.specs.declared.refusal.Refusal.TheVariants as refusal
use Rattle.call_types.specs.declared.reply.Reply.{Reply}
use Rattle.call_types.specs.declared.why.Why.{Why}
use Rattle.drive_base.specs.View.{AllOnlyRead, DriveView, views}
use Rattle.drive_base.specs.declared.drive.Drive.{Ghosts}
use Rattle.fault_base.specs.Counts.{Rose}
use Rattle.stamp_id.specs.declared.stamp.ChangeId.{ChangeId}
use Rattle.stamp_id.specs.declared.version.VersionId.{VersionId}
use Rattle.register_core.specs.declared.faults.QuorumFault.{QuorumFault}
use Rattle.register_core.specs.declared.faults.QuorumFault.TheVariants.{ReadQuorum, Undecided, WriteQuorum}
use Rattle.slot_history.specs.Standing.{Flying, Records}
use Rattle.slot_history.specs.State.{State}
use Rattle.slot_data.specs.Holding.{IsInFlight}
use Rattle.slot_rules.specs.Deeds.{name_of}
use Rattle.slot_rules.specs.Rules.{longest_for, rule_for}
use Rattle.slot_rules.specs.declared.commit.Commit.{Commit}
use Rattle.slot_core.specs.Calm.{HasMade}
use Rattle.slot_core.specs.Causes.{LookCause}
use Rattle.slot_core.specs.CommitCauses.{LookRefused, WroteSo}
use Rattle.slot_core.specs.NameList.{TooFewAnswered}
use Rattle.slot_core.specs.Numbers.{AreSpent}
use Rattle.slot_core.specs.Numbers.{NumbersMove}
use Rattle.receipts.specs.Events.{Note, Shown}
use Rattle.op_steps.specs.Causes.{IsPutOf, SaysIdle, SaysRefused}
use Rattle.op_steps.specs.ChangeLetters.{ChangeLetters}
use Rattle.op_steps.specs.Claims.{Claim}
use Rattle.op_steps.specs.Moves.{ClaimMoves, TurnLeaves, ClaimGains}
use Rattle.op_steps.specs.Notes.{AuditCounts, AuditHas, IsNoted, entry_in}
use Rattle.op_steps.specs.Store.{LanesStand, SlotSeen}

-- a put that a section ends isn't one that isn't listed
abbrev pub IsNotUnlisted : List Flying → Option VersionId → Type 0
IsNotUnlisted flights put = (id : VersionId) → put ≡ Some id → (IsInFlight flights id → ⊥) → ⊥

module _ {D : Type 0} (ghosts : Ghosts D) where
  -- too few lanes gave their names, and the entry, of no register, says that nothing was done
  pub record NamesRefuse (was now : SlotSeen D) (made : Entry) (fault : QuorumFault) : Type 0 where
    pub nameless : made.name ≡ []
    pub kept : made.deed ≡ Kept
    pub whys : List Why
    pub fault_is : fault ≡ ReadQuorum whys
    pub few : TooFewAnswered ghosts.count was.numbers.set whys was.lanes now.lanes

  -- the register of the entry, which says that nothing was done, refused a look by the rule of its name, or the completion of what was pending there
  pub record LookRefuses (was now : SlotSeen D) (made : Entry) (fault : QuorumFault) (old new : List D) : Type 0 where
    pub kept : made.deed ≡ Kept
    pub late : made.late ≡ None
    pub cause : LookCause ghosts was.numbers now.numbers made.name (rule_for made.name) (longest_for made.name) fault
        was.lanes now.lanes old new

  -- it refused a commit of a deed there, by the rule of that deed: the look, the completion, or the writes of the section's own change
  pub record CommitRefuses (was now : SlotSeen D) (claim : Claim) (made : Entry) (fault : QuorumFault) (old new : List D) : Type 0 where
    pub deed : Commit
    pub name_is : made.name ≡ name_of deed
    pub put : Option VersionId
    pub put_is : IsPutOf claim put
    pub listed : IsNotUnlisted was.holding.flights put
    pub cause : LookRefused ghosts was.numbers now.numbers deed put fault made.deed was.lanes now.lanes old new
        ⊎ ((at : ℕ) × (reply : Reply)
        × WroteSo ghosts was.numbers now.numbers deed put at reply (Err fault) made.deed was.lanes now.lanes old new)

  -- so a register refused over data drives of these views
  pub record RegisterRefuses (was now : SlotSeen D) (claim : Claim) (made : Entry) (fault : QuorumFault) (disks_old disks_new : List DriveView) : Type 0 where
    pub old : List D
    pub new : List D
    pub old_is : views ghosts old ≡ disks_old
    pub new_is : views ghosts new ≡ disks_new
    pub how : LookRefuses was now made fault old new ⊎ CommitRefuses was now claim made fault old new

  -- lanes refused a section, with an entry
  abbrev pub LanesRefuse : Option Entry → SlotSeen D → SlotSeen D → Claim → QuorumFault → List DriveView → List DriveView → Type 0
  LanesRefuse entry was now claim fault disks_old disks_new = MatchOption entry ⊥
      (λ made. NamesRefuse was now made fault ⊎ RegisterRefuses was now claim made fault disks_old disks_new)

  -- why, by the refusal: lanes refused, with its letters; the slot's numbers are spent, or its audit failed, and no entry was written; the claim's own put isn't
  -- listed; and a refusal by the state of a key is what the entry says
  abbrev pub RefusalAccount : Refusal → Option Entry → SlotSeen D → SlotSeen D → Claim → List DriveView → List DriveView → Type 0
  RefusalAccount (refusal.ReadQuorum whys) entry was now claim disks_old disks_new = LanesRefuse entry was now claim (ReadQuorum whys) disks_old disks_new
  RefusalAccount (refusal.WriteQuorum whys) entry was now claim disks_old disks_new = LanesRefuse entry was now claim (WriteQuorum whys) disks_old disks_new
  RefusalAccount (refusal.Undecided k u whys) entry was now claim disks_old disks_new = LanesRefuse entry was now claim (Undecided k u whys) disks_old disks_new
  RefusalAccount refusal.SeqSpent entry was now claim disks_old disks_new = (entry ≡ None) × AreSpent was.numbers
  RefusalAccount (refusal.AuditFailed before after) entry was now claim disks_old disks_new =
      (entry ≡ None) × (before ≡ was.faults) × (after ≡ now.faults) × Rose was.faults now.faults
  RefusalAccount (refusal.NotInFlight id) entry was now claim disks_old disks_new =
      SaysIdle entry × IsPutOf claim (Some id) × (IsInFlight was.holding.flights id → ⊥)
  RefusalAccount other entry was now claim disks_old disks_new = SaysRefused other entry

  -- a section that was refused has its account
  abbrev pub TurnAccount : Option Note → SlotSeen D → SlotSeen D → Claim → List DriveView → List DriveView → Type 0
  TurnAccount note was now claim disks_old disks_new = MatchOption note (Unit {0})
      (λ noted. MatchOption noted.refusal (Unit {0}) (λ why. RefusalAccount why noted.entry was now claim disks_old disks_new))

module _ {D : Type 0} (ghosts : Ghosts D) where
  -- one section of a slot, with its whole account
  pub record TurnDoes (was now : SlotSeen D) (note : Option Note) (shown : Shown) (claim later : Claim) (disks_old disks_new : List DriveView) : Type 0 where
    pub numbers : NumbersMove was.numbers now.numbers
    pub note_is : IsNoted was.numbers note
    pub audit : AuditHas note was.entries now.entries
    pub faults : AuditCounts note was.faults now.faults
    pub claims : ClaimMoves was.numbers.index claim later
    pub gains : ClaimGains was.numbers now.numbers was.holding now.holding claim later
    pub read : AllOnlyRead disks_old disks_new
    pub account : TurnAccount ghosts note was now claim disks_old disks_new
    pub letters : (name : List ℕ) (change : ChangeId) → HasMade (entry_in note) name change → ChangeLetters ghosts was now name change
    pub leaves : (records : Records) (state : State) → LanesStand ghosts.tells ghosts.files was records state
        → TurnLeaves ghosts was now note shown claim later disks_old disks_new records state
