-- A life of the program: what it leaves of a rig that holds.
use Rattle.std.specs.Prelude.{ℕ, ◌<◌, List, Option}
use Rattle.audit_trail.specs.declared.entry.Entry.{Entry}
use Rattle.drive_base.specs.View.{views}
use Rattle.drive_base.specs.declared.drive.Drive.{Ghosts}
use Rattle.drive_base.specs.declared.plan.SetPlan.{SetPlan}
use Rattle.slot_data.specs.Disks.{Disks}
use Rattle.receipts.specs.Events.{Log}
use Rattle.log_laws.specs.Calling.{joined}
use Rattle.op_steps.specs.Claims.{disks_of as counted}
use Rattle.log_laws.specs.Laws.{AllLead}
use Rattle.op_steps.specs.Leading.{Standing}
use Rattle.log_laws.specs.Requests.{EachComplete}
use Rattle.op_steps.specs.Store.{slots_seen}
use Rattle.serve_loop.specs.Deeds.{Wires}
use Rattle.serve_loop.specs.declared.ends.ConnectionEnd.{ConnectionEnd}
use Rattle.store_shared.specs.Holders.{LostServe, RigHolds}
use Rattle.store_shared.specs.Opening.{with_out}
use Rattle.store_shared.specs.Passes.{disks_of, set_of, slots_of}
use Rattle.store_shared.specs.declared.pass.StoreParts.{StoreParts}
use Rattle.term_gate.specs.declared.refusal.OpenRefusal.{OpenRefusal}
use Rattle.ostore.specs.Logs.{pipe_logs}
use Rattle.ostore.specs.Opening.{NotOpens}
use Rattle.ostore.specs.Rigs.{ArePartsOf}
use Rattle.ostore.specs.Running.{Piped}
use Rattle.ostore.specs.declared.rig.Rig.{Rig}

module _ {D A : Type 0} (ghosts : Ghosts D) where
  -- the lanes and data drives of a rig hold (`RigHolds`), and each slot stands for this
  pub record Holds (used lost : ℕ) (unseen : Disks) (at : ℕ → Standing) (rig : Rig D A) : Type 0 where
    pub parts : StoreParts D A
    pub are : ArePartsOf rig parts
    pub holds : RigHolds ghosts rig.set used lost unseen at parts

  -- a life of a new term ended well: the entries of its log lead from what each slot stood for to what it stands for now, and the rig holds again, where the
  -- drives that were out are lost and these files stand in their place
  pub record LifeLeaves (set : SetPlan) (used term out : ℕ) (log : Log) (unseen : Disks) (at : ℕ → Standing) (after : Rig D A) : Type 0 where
    pub rises : used < term
    pub later : ℕ → Standing
    pub lead : AllLead (with_out set out) log at later
    pub rig : Holds term out unseen later after

module _ {D A : Type 0} (ghosts : Ghosts D) (entries : A → Option (List Entry)) (count : A → ℕ) where
  -- a connection over a rig that holds is such a life, where no lost drive failed while the store was opened. In the place of drives that were lost before stand
  -- the files that stood there; in that of others without a format those that they kept
  abbrev pub LivesGoOn : Type 0
  LivesGoOn = (clock : Option ℕ) (rig after : Rig D A) (end : ConnectionEnd) (wires wires_after : Wires)
      (run : Piped ghosts entries count clock rig after end wires wires_after) (used lost : ℕ) (unseen : Disks) (at : ℕ → Standing)
      → RigHolds ghosts rig.set used lost unseen at run.parts
      → LostServe lost (views ghosts run.parts.disks.items) (views ghosts (disks_of run.opened))
      → LifeLeaves ghosts rig.set used run.opens.opened.term run.opens.opened.out
      (joined (pipe_logs ghosts entries count clock run.opened run.stop end wires wires_after run.session))
      (counted unseen lost (views ghosts (disks_of run.opened))) at after

  -- over each call of such a life enough lanes and data drives that serve refuse nothing (`LogComplete`)
  abbrev pub LivesAreComplete : Type 0
  LivesAreComplete = (clock : Option ℕ) (rig after : Rig D A) (end : ConnectionEnd) (wires wires_after : Wires)
      (run : Piped ghosts entries count clock rig after end wires wires_after) (used lost : ℕ) (unseen : Disks) (at : ℕ → Standing)
      → RigHolds ghosts rig.set used lost unseen at run.parts
      → LostServe lost (views ghosts run.parts.disks.items) (views ghosts (disks_of run.opened))
      → EachComplete ghosts (set_of run.opened) (pipe_logs ghosts entries count clock run.opened run.stop end wires wires_after run.session)
      (slots_seen entries count (slots_of run.opened)) (views ghosts (disks_of run.opened)) (slots_seen entries count (slots_of run.stop))
      (views ghosts (disks_of run.stop)) run.calls

  -- where an opening over a rig that holds is refused, what is handed back holds as before, if no lost drive failed
  abbrev pub RefusalsLeave : Type 0
  RefusalsLeave = (rig after : Rig D A) (why : OpenRefusal) (refused : NotOpens ghosts entries count rig after why) (used lost : ℕ) (unseen : Disks)
      (at : ℕ → Standing) → RigHolds ghosts rig.set used lost unseen at refused.parts
      → LostServe lost (views ghosts refused.parts.disks.items) (views ghosts refused.left.disks.items) → Holds ghosts used lost unseen at after
