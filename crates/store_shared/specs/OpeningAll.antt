-- What the opening of a store comes to.
use Rattle.std.specs.Prelude.{◌≡◌, ◌⊎◌, ℕ, List, [], Option, Result, Ok, Err}
use Rattle.audit_trail.specs.declared.entry.Entry.{Entry}
use Rattle.drive_base.specs.View.{views}
use Rattle.drive_base.specs.declared.drive.Drive.{Ghosts}
use Rattle.drive_base.specs.declared.plan.SetPlan.{SetPlan}
use Rattle.term_gate.specs.declared.opening.Opened.{Opened}
use Rattle.store_shared.specs.Opening.{AreOpened, IsTermTaken, SetRefuses, SlotRefuses, with_out}
use Rattle.store_shared.specs.Passes.{disks_of, set_of, slots_of}
use Rattle.store_shared.specs.declared.pass.NotOpened.{NotOpened}
use Rattle.store_shared.specs.declared.pass.StoreParts.{StoreParts}
use Rattle.store_shared.specs.declared.pass.PlainPass.{PlainPass}

module _ {D A : Type 0} (ghosts : Ghosts D) (entries : A → Option (List Entry)) (count : A → ℕ) where
  -- the set took a new term, and each slot is open under it over what was handed in, with the drives out that have no format
  pub record StoreIsOpen (set : SetPlan) (parts : StoreParts D A) (pass : PlainPass D A) : Type 0 where
    pub opened : Opened
    pub taken : IsTermTaken set opened (views ghosts parts.disks.items) (views ghosts (disks_of pass))
    pub set_is : set_of pass ≡ with_out set opened.out
    pub slots : AreOpened entries count (set_of pass) opened.term 0 parts.slots.items (slots_of pass)

  -- what opening a store answers. A store that isn't opened is handed back: the slots that are open, and the lanes and audits of the others
  abbrev pub OpensStore : SetPlan → StoreParts D A → Result (PlainPass D A) (NotOpened D A) → Type 0
  OpensStore set parts (Ok pass) = StoreIsOpen set parts pass
  OpensStore set parts (Err back) =
      SlotRefuses entries count set back.why (views ghosts parts.disks.items) (views ghosts back.parts.disks.items) parts.slots.items back.parts.slots.items back.slots.items
      ⊎ SetRefuses entries count set back.why (views ghosts parts.disks.items) (views ghosts back.parts.disks.items) parts.slots.items back.parts.slots.items [] back.slots.items
