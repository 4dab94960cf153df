-- The laws of worlds: whatever actors do there and in whatever order, the histories of the slots run, and the data of each slot goes on to hold.
use Rattle.std.specs.Prelude.{◌≡◌, ℕ, List, [], ◌∷◌}
use Rattle.std.specs.Int.{IsBitSet}
use Rattle.std.specs.List.{flat_map}
use Rattle.desk_base.specs.Telling.{Effect}
use Rattle.drive_base.specs.View.{DriveView, view_at}
use Rattle.drive_base.specs.declared.drive.Drive.{Ghosts}
use Rattle.drive_base.specs.declared.plan.SetPlan.{SetPlan}
use Rattle.receipts.specs.Events.{Log}
use Rattle.slot_data.specs.Disks.{Disks}
use Rattle.op_steps.specs.Holding.{StoreHolds}
use Rattle.op_steps.specs.Leading.{with_entries}
use Rattle.op_steps.specs.Leading.{Standing, entries_at}
use Rattle.log_laws.specs.Laws.{AllLead}
use Rattle.op_steps.specs.Steps.{IsSlotAt}
use Rattle.op_steps.specs.Store.{AreInOrder, SlotSeen}
use Rattle.log_laws.specs.StoreTroubles.{ShowsHonestly}
use Rattle.op_steps.specs.declared.op.Op.{Ghosts as Ops}
use Rattle.term_gate.specs.Complete.{ShowsNone}
use Rattle.term_gate.specs.Terms.{EachHonest}
use Rattle.drill_steps.specs.Worlds.{Move, World, WorldRan, claims_of, steps_of}
use Rattle.drill_steps.specs.Worlds.Move.{Ended, Hurt, Started, Stepped, Struck}

-- the steps of moves, in their order
abbrev pub log_of : List Move → Log
log_of moves = flat_map steps_of moves

-- drives show their formats honestly, and those that are lost show none
pub record FormatsAreHonest (lost : ℕ) (disks : List DriveView) : Type 0 where
  pub honest : EachHonest disks
  pub lack : (k : ℕ) → IsBitSet lost k → ShowsNone (view_at disks k)

module _ {D O T : Type 0} (ghosts : Ghosts D) (set : SetPlan) where
  -- what lanes and data drives show is honest after damage; of no other move anything is asked
  abbrev pub IsHonestMove : Move → World D O T → Type 0
  IsHonestMove (Started number) world = Unit {0}
  IsHonestMove (Stepped number more) world = Unit {0}
  IsHonestMove (Ended number log) world = Unit {0}
  IsHonestMove Struck world = Unit {0}
  IsHonestMove Hurt world = ShowsHonestly ghosts set world.slots world.disks × FormatsAreHonest set.out world.disks

module _ {D O T : Type 0} (ghosts : Ghosts D) (takes breaks : Effect T) (ops : Ops O) (set : SetPlan) where
  -- after each damage of these moves it is so
  abbrev pub IsHonestRun : (moves : List Move) (old new : World D O T) → WorldRan ghosts takes breaks ops set moves old new → Type 0
  IsHonestRun [] old new ran = Unit {0}
  IsHonestRun (move ∷ moves) old new ran = IsHonestMove ghosts set move ran.0 × IsHonestRun moves ran.0 new ran.2

module _ {D O T : Type 0} (ghosts : Ghosts D) (set : SetPlan) where
  -- the slots of a world are in order, and the data of each holds with what its lanes stand for and with what the actors hold
  pub record WorldHolds (unseen : Disks) (at : ℕ → Standing) (world : World D O T) : Type 0 where
    pub order : AreInOrder set world.slots world.disks
    pub holds : StoreHolds ghosts.tells ghosts.files unseen world.slots world.disks (claims_of world.seats) at

  -- so it does after a log of steps, with what the entries of the log lead to; the audit of each slot has got just these entries, and its life goes on
  pub record WorldHoldsLater (log : Log) (unseen : Disks) (at : ℕ → Standing) (old new : World D O T) : Type 0 where
    pub later : ℕ → Standing
    pub lead : AllLead set log at later
    pub after : WorldHolds unseen later new
    pub audits : (k : ℕ) (was now : SlotSeen D) → IsSlotAt old.slots k was → IsSlotAt new.slots k now
        → now.entries ≡ with_entries was.entries (entries_at k log)
    pub terms : (k : ℕ) (was now : SlotSeen D) → IsSlotAt old.slots k was → IsSlotAt new.slots k now → now.numbers.term ≡ was.numbers.term

module _ {D O T : Type 0} (ghosts : Ghosts D) (takes breaks : Effect T) (ops : Ops O) where
  -- over any moves, where damage is honest, a world that holds goes on to, whatever drives that are out keep
  abbrev pub WorldsHold : Type 0
  WorldsHold = (set : SetPlan) (moves : List Move) (old new : World D O T) (unseen : Disks) (at : ℕ → Standing)
      (ran : WorldRan ghosts takes breaks ops set moves old new)
      → IsHonestRun ghosts takes breaks ops set moves old new ran → WorldHolds ghosts set unseen at old
      → WorldHoldsLater ghosts set (log_of moves) unseen at old new
