-- A look at a register that the log of a call left calm is answered where as many of its lanes serve as a stripe has data blocks.
use Rattle.std.specs.Prelude.{◌≢◌, ◌≡◌, ℕ, ◌≤◌, List, Contains, Some, take}
use Rattle.drive_base.specs.DriveSet.{count_in}
use Rattle.desk_base.specs.Telling.{Effect}
use Rattle.drive_base.specs.Plan.{data_drives, write_drives}
use Rattle.drive_base.specs.declared.drive.Drive.{Ghosts}
use Rattle.drive_base.specs.declared.plan.SetPlan.{SetPlan}
use Rattle.register_core.specs.declared.faults.QuorumFault.{QuorumFault}
use Rattle.register_core.specs.declared.faults.QuorumFault.TheVariants.{NoMemory}
use Rattle.slot_rules.specs.Rules.{IsRegisterName}
use Rattle.slot_core.specs.Calm.{IsCalmUnder}
use Rattle.slot_core.specs.declared.slot.SlotFault.TheVariants.{Quorum}
use Rattle.receipts.specs.Events.{Log, Note, Shown}
use Rattle.receipts.specs.Events.Event.{Turned}
use Rattle.op_steps.specs.Leading.{IsCalmBy, Standing, entered_at}
use Rattle.op_steps.specs.Notes.{refusal_by}
use Rattle.log_laws.specs.Requests.{ServesAt}
use Rattle.op_steps.specs.Serving.{HasLooked}
use Rattle.op_steps.specs.Steps.{IsSlotAt, Ran}
use Rattle.op_steps.specs.Store.{AreInOrder, LanesStand, SlotSeen, Store}

module _ {D T : Type 0} (ghosts : Ghosts D) (takes breaks : Effect T) where
  -- in the log of a call, over a slot whose lanes stand, a section that only looked at a register isn't refused so where the entries before it left the register
  -- calm; of data drives nothing is asked
  abbrev pub CalmReadsGoOn : Type 0
  CalmReadsGoOn = (set : SetPlan) (log : Log) (old new : Store D T) (k : ℕ) (was : SlotSeen D) (at : Standing) (lanes : ℕ) (note : Note) (shown : Shown)
      (name : List ℕ) (fault : QuorumFault)
      → AreInOrder set old.slots old.disks → IsSlotAt old.slots k was → LanesStand ghosts.tells ghosts.files was at.records at.state
      → (ran : Ran ghosts takes breaks set log old new) (there : Contains log (Turned k (Some note) shown))
      → ServesAt ghosts takes breaks set lanes 0 log old new ran there.0
      → IsRegisterName name → HasLooked note.entry name
      → IsCalmBy (entered_at k (take there.0 log)) name (IsCalmUnder (write_drives set.drives set.parity) at.records at.state name)
      → data_drives set.drives set.parity ≤ count_in lanes set.drives → fault ≢ NoMemory → note.refusal ≡ refusal_by (Quorum fault) → ⊥
