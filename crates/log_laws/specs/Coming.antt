-- A claim of nothing comes among the claims of a store whose data holds, and goes.
use Rattle.std.specs.Prelude.{ℕ, Bool, List, ◌++◌}
use Rattle.drive_base.specs.Files.{Files}
use Rattle.drive_base.specs.View.{DriveView}
use Rattle.slot_data.specs.Disks.{Disks}
use Rattle.op_steps.specs.Claims.{Claim, among, no_claim}
use Rattle.op_steps.specs.Holding.{StoreHolds}
use Rattle.op_steps.specs.Leading.{Standing}
use Rattle.op_steps.specs.Store.{SlotSeen}

module _ {D : Type 0} (tells : D → Bool) (files : D → Files) where
  -- one may come anywhere among the claims
  abbrev pub ClaimsCome : Type 0
  ClaimsCome = (unseen : Disks) (slots : List (SlotSeen D)) (disks : List DriveView) (front rest : List Claim) (slot : ℕ) (at : ℕ → Standing)
      → StoreHolds tells files unseen slots disks (front ++ rest) at → StoreHolds tells files unseen slots disks (among front (no_claim slot) rest) at

  -- and one that is anywhere among them may go
  abbrev pub ClaimsGo : Type 0
  ClaimsGo = (unseen : Disks) (slots : List (SlotSeen D)) (disks : List DriveView) (front rest : List Claim) (slot : ℕ) (at : ℕ → Standing)
      → StoreHolds tells files unseen slots disks (among front (no_claim slot) rest) at → StoreHolds tells files unseen slots disks (front ++ rest) at
