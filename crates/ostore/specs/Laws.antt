-- What follows of a connection over a store that was opened over a rig and is closed behind it.
use Rattle.std.specs.Prelude.{ℕ, List, Option}
use Rattle.audit_trail.specs.declared.entry.Entry.{Entry}
use Rattle.drive_base.specs.declared.drive.Drive.{Ghosts}
use Rattle.serve_loop.specs.Deeds.{Wires}
use Rattle.serve_loop.specs.Session.{Session}
use Rattle.serve_loop.specs.declared.ends.ConnectionEnd.{ConnectionEnd}
use Rattle.store_shared.specs.OpeningAll.{StoreIsOpen}
use Rattle.store_shared.specs.declared.pass.StoreParts.{StoreParts}
use Rattle.store_shared.specs.declared.pass.PlainPass.{PlainPass}
use Rattle.ostore.specs.Logs.{desk_answers}
use Rattle.ostore.specs.Rigs.{ArePartsOf, StoreIsClosed}
use Rattle.ostore.specs.Running.{Piped}
use Rattle.ostore.specs.declared.rig.Rig.{Rig}

module _ {D A : Type 0} (ghosts : Ghosts D) (entries : A → Option (List Entry)) (count : A → ℕ) where
  -- histories run, and data holds on, over any connection
  abbrev pub ConnectionsPipe : Type 0
  ConnectionsPipe = (clock : Option ℕ) (rig after : Rig D A) (end : ConnectionEnd) (wires wires_after : Wires) (parts : StoreParts D A)
      (opened stop : PlainPass D A) → ArePartsOf rig parts → StoreIsOpen ghosts entries count rig.set parts opened
      → Session (desk_answers ghosts entries count) clock opened stop end wires wires_after → StoreIsClosed rig.set stop after
      → Piped ghosts entries count clock rig after end wires wires_after
