-- A store that is open, seen through another pass over the same slots and drives.
use Rattle.std.proofs.Common.{◌≡◌, ◌∙◌, ℕ, List, Option, subst, subst₂, sym}
use Rattle.audit_trail.specs.declared.entry.Entry.{Entry}
use Rattle.drive_base.specs.View.{views}
use Rattle.drive_base.specs.declared.drive.Drive.{Ghosts}
use Rattle.drive_base.specs.declared.plan.SetPlan.{SetPlan}
use Rattle.store_shared.specs.Opening.{AreOpened, IsTermTaken}
use Rattle.store_shared.specs.OpeningAll.{StoreIsOpen}
use Rattle.store_shared.specs.Passes.{disks_of, set_of, slots_of}
use Rattle.store_shared.specs.declared.pass.StoreParts.{StoreParts}
use Rattle.store_shared.specs.declared.pass.PlainPass.{PlainPass}

module _ {D A : Type 0} (ghosts : Ghosts D) (entries : A → Option (List Entry)) (count : A → ℕ) where
  pub open_again : (set : SetPlan) (parts : StoreParts D A) (pass again : PlainPass D A) → set_of again ≡ set_of pass → slots_of again ≡ slots_of pass
      → disks_of again ≡ disks_of pass → StoreIsOpen ghosts entries count set parts pass → StoreIsOpen ghosts entries count set parts again
  open_again set parts pass again same slots disks opens = record {
    opened = opens.opened;
    taken = subst (λ d. IsTermTaken set opens.opened (views ghosts parts.disks.items) (views ghosts d)) (sym disks) opens.taken;
    set_is = same ∙ opens.set_is;
    slots = subst₂ (λ s l. AreOpened entries count s opens.opened.term 0 parts.slots.items l) (sym same) (sym slots) opens.slots;
  }
