-- What the command `serve` comes to: the connections of many doors over one store, beside one another. And what each command does with doors.
use Rattle.std.specs.Global.{Global}
use Rattle.std.specs.Prelude.{◌≡◌, ◌⊎◌, ℕ, ◌<◌, ◌++◌, Bool, false, not, List, [], All, Option, Some, None, Vec, map, reverse, slice_index_or}
use Rattle.audit_trail.specs.declared.entry.Entry.{Entry}
use Rattle.command_line.specs.declared.plan.Command.TheVariants.{Serve}
use Rattle.command_line.specs.declared.plan.Command.{Command}
use Rattle.drive_base.specs.View.{views}
use Rattle.drive_base.specs.declared.drive.Drive.{Ghosts}
use Rattle.io_base.specs.Works.{CountsLeft, picked}
use Rattle.io_base.specs.declared.door.Door.{Ghosts as DoorGhosts}
use Rattle.io_base.specs.declared.sink.Sink.{Ghosts as SinkGhosts}
use Rattle.io_base.specs.declared.source.Source.{Ghosts as SourceGhosts}
use Rattle.op_steps.specs.Leading.{Standing}
use Rattle.serve_loop.specs.Deeds.{Wires}
use Rattle.serve_loop.specs.Doors.{IsServedOut, capped}
use Rattle.slot_core.specs.Views.{numbers_of}
use Rattle.slot_core.specs.declared.slot.Slot.{Slot}
use Rattle.slot_core.specs.declared.slot.SlotParts.{SlotParts}
use Rattle.slot_data.specs.Disks.{Disks}
use Rattle.store_shared.specs.Among.{seen_in}
use Rattle.store_shared.specs.Holders.{LostServe, RigHolds}
use Rattle.store_shared.specs.OpeningAll.{StoreIsOpen}
use Rattle.store_shared.specs.Passes.{disks_of, set_of, slots_of}
use Rattle.store_shared.specs.SharedPasses.{drives_of, pass_at, set_held, shared_holds}
use Rattle.store_shared.specs.declared.pass.StoreParts.{StoreParts}
use Rattle.store_shared.specs.declared.pass.PlainPass.{PlainPass}
use Rattle.store_shared.specs.declared.shared.SharedDesk.{SharedDesk}
use Rattle.store_shared.specs.declared.shared.SharedPass.{SharedPass}
use Rattle.ostore.specs.History.{LanesBegin}
use Rattle.ostore.specs.Program.{Does, EndsUndone}
use Rattle.ostore.specs.Rigs.{ArePartsOf, StoreIsClosed}
use Rattle.ostore.specs.Running.{DidNothing, WasRefused}
use Rattle.ostore.specs.ServedLife.{LifeServed}
use Rattle.ostore.specs.Sharing.{AreShared, EachShared}
use Rattle.ostore.specs.Statuses.{out_of_memory}
use Rattle.ostore.specs.Workers.{DoorsEnd, Worker, door_by, given_by, starved_in}
use Rattle.ostore.specs.declared.rig.Ended.{Ended}
use Rattle.ostore.specs.declared.rig.Rig.{Rig}

-- a run that ended, without its door
abbrev pub without_door : {D A O : Type 0} → Ended D A O → Ended D A (Unit {0})
without_door ended = record { status = ended.status; rig = ended.rig; opening = ended.opening; line = ended.line; starved = ended.starved; door = _ }

module _ (R G : Type 0) {D A O S T C Root : Type 0} (ghosts : Ghosts D) (root : D → Root) (entries : A → Option (List Entry)) (count : A → ℕ) (door : DoorGhosts O S T) (source : SourceGhosts S)
    (sink : SinkGhosts T) (moment : Option ℕ) (clock : C) where
  -- no door is touched, and no work begun: without its doors the run did this
  pub record Without (does : Ended D A (Unit {0}) → Type 0) (doors : List O) (faults faults_after : ℕ) (ended : Ended D A (Vec O Global)) : Type 0 where
    pub done : does (without_door ended)
    pub doors_are : ended.door.items ≡ doors
    pub counted : faults_after ≡ faults

  -- a worker began with this clock, over the set of a store that was opened, with no turn of its slots beyond those that they had, and with shared ways of its own
  -- to the store's data drives. It served its door until that was over or failed
  pub record HasWorked (opened : PlainPass D A) (worker : Worker (SharedDesk R D A G) C (SharedPass D A) O) : Type 0 where
    pub clock_is : worker.began.clock ≡ clock
    pub of_set : set_held (shared_holds worker.began.pass) ≡ set_of opened
    pub idle : (k : ℕ) (d : Slot D A) → k < 64 → seen_in (pass_at worker.began.pass k)
        ≡ record { turns = []; seen = (numbers_of (slice_index_or (slots_of opened) k d)).turns; spent = false }
    pub shared : AreShared ghosts (drives_of worker.began.pass)
    pub roots : map root (drives_of worker.began.pass) ≡ map root (disks_of opened)
    pub out : IsServedOut (door.over worker.door) (door.faults worker.began.door) (door.faults worker.door)

  -- each door, from the last one to the first, was given to one of these workers, or none could be started for it, and it is among the lefts. The doors that come
  -- back are those of the workers, and the lefts as they were, which are counted. How they ended is the run's status, and the connections of all workers that
  -- ended for want of memory are counted. The data drives are shared
  pub record DoorsWereServed (opened stop : PlainPass D A) (workers : List (Worker (SharedDesk R D A G) C (SharedPass D A) O)) (doors : List O)
      (faults faults_after : ℕ) (ended : Ended D A (Vec O Global)) : Type 0 where
    pub worked : All (HasWorked opened) workers
    pub ran : ℕ → Bool
    pub given : map given_by workers ≡ picked ran 0 (reverse doors)
    pub lefts : List O
    pub lefts_are : lefts ≡ picked (λ n. not (ran n)) 0 (reverse doors)
    pub doors_are : ended.door.items ≡ reverse (map door_by workers) ++ reverse lefts
    pub counted : CountsLeft lefts faults faults_after
    pub ends : DoorsEnd door ended.status workers lefts
    pub starved : ended.starved ≡ capped (starved_in workers)
    pub shared : AreShared ghosts (disks_of stop)

  -- a store was opened over a rig, workers served its doors, or there was no memory for any, and the rig that it left when it was closed comes back: its data drives
  -- lead to what they led to, and each was shared or is as it was. It was a life of each slot. And where the rig held, and no lost drive failed while the store was
  -- opened, the term of this life is new, and a history begins in each slot from what its lanes stood for
  pub record StoreWasServed (rig : Rig D A) (doors : List O) (faults faults_after : ℕ) (ended : Ended D A (Vec O Global)) : Type 0 where
    pub parts : StoreParts D A
    pub are : ArePartsOf rig parts
    pub opened : PlainPass D A
    pub opens : StoreIsOpen ghosts entries count rig.set parts opened
    pub workers : List (Worker (SharedDesk R D A G) C (SharedPass D A) O)
    pub stop : PlainPass D A
    pub served : DoorsWereServed opened stop workers doors faults faults_after ended
        ⊎ ((workers ≡ []) × Without (λ alone. (alone.status ≡ out_of_memory) × (alone.starved ≡ 0)) doors faults faults_after ended)
    pub after : Rig D A
    pub closed : StoreIsClosed rig.set stop after
    pub disks : EachShared ghosts root (disks_of opened) (disks_of stop)
    pub rig_is : ended.rig ≡ Some after
    pub opening : ended.opening ≡ None
    pub line : ended.line ≡ None
    pub life : ∥ LifeServed ghosts entries count door source sink moment (set_of opened) opens.opened.term (slots_of opened) rig.slots.items after.slots.items
        workers [] ∥₁
    pub begins : (used lost : ℕ) (unseen : Disks) (at : ℕ → Standing) → RigHolds ghosts rig.set used lost unseen at parts
        → LostServe lost (views ghosts parts.disks.items) (views ghosts (disks_of opened))
        → (used < opens.opened.term) × ((k : ℕ) (d : SlotParts D A) → k < 64
        → LanesBegin entries ghosts.tells ghosts.files (set_of opened) k opens.opened.term (slice_index_or rig.slots.items k d).lanes.items (at k))

  -- what a command comes to; one without doors does what it does alone
  abbrev pub DoesAll : Command → Rig D A → List O → ℕ → ℕ → Ended D A (Vec O Global) → Wires → Wires → Type 0
  DoesAll Serve rig doors faults faults_after ended before after = (StoreWasServed rig doors faults faults_after ended × (after ≡ before))
      ⊎ Without (λ alone. WasRefused ghosts entries count rig alone before after ⊎ DidNothing ghosts entries count out_of_memory rig alone before after)
      doors faults faults_after ended
  DoesAll command rig doors faults faults_after ended before after =
      Without (λ alone. Does ghosts entries count command moment rig alone before after) doors faults faults_after ended

  -- nothing was done: the words say nothing that is done, or there was no memory to read them
  abbrev pub AllUndone : Rig D A → List O → ℕ → ℕ → Ended D A (Vec O Global) → Wires → Wires → Type 0
  AllUndone rig doors faults faults_after ended before after =
      Without (λ alone. EndsUndone ghosts entries count rig alone before after) doors faults faults_after ended
