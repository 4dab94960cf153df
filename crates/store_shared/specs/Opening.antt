-- How the slots of a store are opened, from the last one to the first.
use Rattle.std.specs.Prelude.{◌≡◌, ◌⊎◌, ℕ, ◌+◌, List, [], ◌∷◌, ◌++◌, length, reverse, Option, Result, Ok, Err}
use Rattle.fault_base.specs.Counts.{Rose}
use Rattle.audit_trail.specs.declared.audit.AuditFault.{AuditFault}
use Rattle.audit_trail.specs.declared.audit.AuditFault.TheVariants as audit
use Rattle.audit_trail.specs.declared.entry.Entry.{Entry}
use Rattle.drive_base.specs.View.{DriveView}
use Rattle.drive_base.specs.declared.plan.SetPlan.{SetPlan}
use Rattle.slot_core.specs.Opening.{IsOpened}
use Rattle.slot_core.specs.declared.slot.Slot.{Slot}
use Rattle.slot_core.specs.declared.slot.SlotParts.{SlotParts}
use Rattle.term_gate.specs.Opening.{Opens}
use Rattle.term_gate.specs.Terms.{IsFresh}
use Rattle.term_gate.specs.declared.opening.Opened.{Opened}
use Rattle.term_gate.specs.declared.refusal.OpenRefusal.{OpenRefusal}
use Rattle.term_gate.specs.declared.refusal.OpenRefusal.TheVariants.{AuditFailed, NoMemory, OpenQuorum, TermSpent, WrongSet}

-- a set with these drives out
abbrev pub with_out : SetPlan → ℕ → SetPlan
with_out set out = record set { out = out }

-- the refusal of an opening that an audit's is, with its counts of faults
abbrev pub refusal_by : AuditFault → ℕ → ℕ → OpenRefusal
refusal_by audit.Failed before after = AuditFailed before after
refusal_by audit.NoMemory before after = NoMemory

-- why the audit of a slot refused its opening: its count of faults rose, or there was no memory
abbrev pub AuditRefuses : OpenRefusal → ℕ → ℕ → Type 0
AuditRefuses (WrongSet found wanted) old new = ⊥
AuditRefuses (OpenQuorum whys) old new = ⊥
AuditRefuses NoMemory old new = new ≡ old
AuditRefuses TermSpent old new = ⊥
AuditRefuses (AuditFailed before after) old new = (before ≡ old) × (after ≡ new) × Rose old new

-- the set was opened: its new term, and the drives that are out
pub record IsTermTaken (set : SetPlan) (opened : Opened) (old new : List DriveView) : Type 0 where
  pub opens : Opens set (Ok opened) old new
  pub fresh : IsFresh set opened old new

module _ {D A : Type 0} (entries : A → Option (List Entry)) (count : A → ℕ) where
  -- slots are open over these lanes and audits, in the order of their indices, from this index on
  abbrev pub AreOpened : SetPlan → ℕ → ℕ → List (SlotParts D A) → List (Slot D A) → Type 0
  AreOpened set term index [] slots = slots ≡ []
  AreOpened set term index (parts ∷ more) slots = (slot : Slot D A) × (rest : List (Slot D A)) × (slots ≡ slot ∷ rest)
      × IsOpened entries count set index term parts slot × AreOpened set term (index + 1) more rest

  -- the last slot of those that are left is not opened, and its lanes and audit are handed back
  pub record KeepsLast (why : OpenRefusal) (old new : List (SlotParts D A)) : Type 0 where
    pub front : List (SlotParts D A)
    pub was : SlotParts D A
    pub now : SlotParts D A
    pub old_is : old ≡ front ++ was ∷ []
    pub new_is : new ≡ front ++ now ∷ []
    pub lanes : now.lanes.items ≡ was.lanes.items
    pub entries_stay : entries now.audit ≡ entries was.audit
    pub cause : AuditRefuses why (count was.audit) (count now.audit)

  -- the last slot of those that are left is opened, and stands behind the others
  pub record OpensOne (set : SetPlan) (term : ℕ) (old new : List (SlotParts D A)) (slots_old slots_new : List (Slot D A)) : Type 0 where
    pub parts : SlotParts D A
    pub slot : Slot D A
    pub old_is : old ≡ new ++ parts ∷ []
    pub slots_are : slots_new ≡ slots_old ++ slot ∷ []
    pub opened : IsOpened entries count set (length new) term parts slot

  abbrev pub OpensLast : {T : Type 0} → SetPlan → ℕ → Result T OpenRefusal → List (SlotParts D A) → List (SlotParts D A)
      → List (Slot D A) → List (Slot D A) → Type 0
  OpensLast set term (Ok _) old new slots_old slots_new = OpensOne set term old new slots_old slots_new
  OpensLast set term (Err why) old new slots_old slots_new = KeepsLast why old new × (slots_new ≡ slots_old)

  -- the slots behind those that are left are open, the last one first
  pub record OpensBehind (set : SetPlan) (term : ℕ) (all front : List (SlotParts D A)) (slots : List (Slot D A)) : Type 0 where
    pub behind : List (SlotParts D A)
    pub all_is : all ≡ front ++ behind
    pub opened : AreOpened set term (length front) behind (reverse slots)

  -- so it is once all are opened; or some are, and one is refused
  abbrev pub OpensRest : {T : Type 0} → SetPlan → ℕ → Result T OpenRefusal → List (SlotParts D A) → List (SlotParts D A) → List (Slot D A) → Type 0
  OpensRest set term (Ok _) old new slots = AreOpened set term 0 old (reverse slots) × (new ≡ [])
  OpensRest set term (Err why) old new slots = (front : List (SlotParts D A)) × OpensBehind set term old front slots × KeepsLast why front new

  -- a slot is refused once the set was opened
  pub record SlotRefuses (set : SetPlan) (why : OpenRefusal) (old new : List DriveView) (parts left : List (SlotParts D A)) (slots : List (Slot D A)) : Type 0 where
    pub opened : Opened
    pub taken : IsTermTaken set opened old new
    pub front : List (SlotParts D A)
    pub behind : OpensBehind (with_out set opened.out) opened.term parts front slots
    pub keeps : KeepsLast why front left

  -- the set is refused, or there is no memory for its slots, and no slot is begun
  pub record SetRefuses (set : SetPlan) (why : OpenRefusal) (old new : List DriveView) (parts left : List (SlotParts D A)) (slots_old slots : List (Slot D A)) : Type 0 where
    pub cause : Opens set (Err why) old new ⊎ ((why ≡ NoMemory) × (new ≡ old))
    pub left_is : left ≡ parts
    pub slots_are : slots ≡ slots_old

  -- the set is opened and then all its slots, or one is refused; or the set isn't, and no slot is begun; or there is no memory, and nothing is done
  abbrev pub OpensOn : SetPlan → Result SetPlan OpenRefusal → List DriveView → List DriveView → List (SlotParts D A) → List (SlotParts D A)
      → List (Slot D A) → List (Slot D A) → Type 0
  OpensOn set (Ok plan) old new parts left slots_old slots = (opened : Opened) × IsTermTaken set opened old new × (plan ≡ with_out set opened.out)
      × AreOpened plan opened.term 0 parts (reverse slots) × (left ≡ [])
  OpensOn set (Err why) old new parts left slots_old slots = SlotRefuses set why old new parts left slots ⊎ SetRefuses set why old new parts left slots_old slots
