-- A store on which several ops work: what is seen of it and of them, and the moves that are made there.
use Rattle.std.specs.Prelude.{◌≡◌, ◌≢◌, ◌⊎◌, ◌+◌, ℕ, ◌<◌, All, List, [], ◌∷◌, ◌++◌, map}
use Rattle.desk_base.specs.Telling.{Effect}
use Rattle.drive_base.specs.View.{AtEach, DriveView, views}
use Rattle.drive_base.specs.declared.drive.Drive.{Ghosts}
use Rattle.drive_base.specs.declared.plan.SetPlan.{SetPlan}
use Rattle.receipts.specs.Events.{Log}
use Rattle.op_steps.specs.Claims.{Claim, no_claim}
use Rattle.op_steps.specs.Going.{IsFeedAt, IsStepOf}
use Rattle.op_steps.specs.Steps.{IsSlotAt, Ran}
use Rattle.op_steps.specs.Store.{FeedSeen, SlotSeen, Store, TellerSeen, store_of}
use Rattle.log_laws.specs.StoreTroubles.{StoreTroubled}
use Rattle.op_steps.specs.Words.{LetsGo}
use Rattle.op_steps.specs.declared.next.OpNext.TheVariants.{Done}
use Rattle.op_steps.specs.declared.op.Op.{Ghosts as Ops}

-- an op at work: its name, the number of its start, the feed that it takes its body from, and the teller that it tells
pub record Actor (O T : Type 0) : Type 0 where
  pub name : List ℕ
  pub number : ℕ
  pub op : O
  pub feed : FeedSeen
  pub teller : TellerSeen T

-- the place of an actor: one at work, with its claim and its log so far, or one that ended, with what it left in hand
pub data Seat (O T : Type 0) : Type 0 where
  Works : Actor O T → Claim → Log → Seat O T
  Leaves : Claim → Seat O T

-- what the actor of a seat holds, and what all of them do
abbrev pub held_at : {O T : Type 0} → Seat O T → Claim
held_at (Works actor claim log) = claim
held_at (Leaves claim) = claim

abbrev pub claims_of : {O T : Type 0} → List (Seat O T) → List Claim
claims_of seats = map held_at seats

-- what is seen of a store and of the actors on it, in the order of their starts, and how many have begun
pub record World (D O T : Type 0) : Type 0 where
  pub begun : ℕ
  pub slots : List (SlotSeen D)
  pub disks : List DriveView
  pub seats : List (Seat O T)

-- the store of a world, as one actor has it
abbrev pub store_with : {D O T : Type 0} → World D O T → Actor O T → Claim → Store D T
store_with world actor claim = store_of world.slots world.disks claim actor.feed actor.teller

-- a move: the actor of this number began, did this step or none, or ended with this log; trouble befell lanes and data drives of which nothing is shown, or damage
pub data Move : Type 0 where
  Started : ℕ → Move
  Stepped : ℕ → Log → Move
  Ended : ℕ → Log → Move
  Struck : Move
  Hurt : Move

-- the steps of a move
abbrev pub steps_of : Move → Log
steps_of (Started number) = []
steps_of (Stepped number more) = more
steps_of (Ended number log) = []
steps_of Struck = []
steps_of Hurt = []

-- an actor at work is none of this name
abbrev pub IsOther : {O T : Type 0} → List ℕ → Seat O T → Type 0
IsOther name (Works actor claim log) = actor.name ≢ name
IsOther name (Leaves claim) = Unit {0}

-- none of this name is at work
abbrev pub NoneHas : {O T : Type 0} → List ℕ → List (Seat O T) → Type 0
NoneHas name seats = All (IsOther name) seats

-- the feed of an actor is that of its body, of which its op has taken so much
abbrev pub IsFed : {O T : Type 0} → Ops O → Actor O T → Type 0
IsFed ops actor = IsFeedAt (ops.stated (ops.asked actor.op)) (ops.taken actor.op) actor.feed.view

-- an actor of a free name began that holds nothing of its slot, behind the others, and has the next number
pub record Starts {D O T : Type 0} (ops : Ops O) (set : SetPlan) (number : ℕ) (old new : World D O T) : Type 0 where
  pub actor : Actor O T
  pub number_is : actor.number ≡ number
  pub next : number ≡ old.begun
  pub begun : new.begun ≡ old.begun + 1
  pub free : NoneHas actor.name old.seats
  pub slot : ℕ
  pub in_store : slot < 64
  pub set_is : ops.set actor.op ≡ set
  pub fed : IsFed ops actor
  pub stood : ops.stands actor.op (no_claim slot) []
  pub slots : new.slots ≡ old.slots
  pub disks : new.disks ≡ old.disks
  pub seats : new.seats ≡ old.seats ++ Works actor (no_claim slot) [] ∷ []

-- what stands in the place of an actor that ended: nothing where it holds nothing, else what it left in hand
abbrev pub IsLeft : {O T : Type 0} → Claim → List (Seat O T) → Type 0
IsLeft claim place = ((claim ≡ no_claim claim.slot) × (place ≡ [])) ⊎ (place ≡ Leaves claim ∷ [])

-- an actor ended, for whose op nothing is left to do and whose log is as is owed for what it was asked
pub record Ends {D O T : Type 0} (ops : Ops O) (set : SetPlan) (number : ℕ) (log : Log) (old new : World D O T) : Type 0 where
  pub front : List (Seat O T)
  pub rest : List (Seat O T)
  pub actor : Actor O T
  pub claim : Claim
  pub place : List (Seat O T)
  pub number_is : actor.number ≡ number
  pub done : ops.step actor.op ≡ Done
  pub lets_go : LetsGo claim log
  pub stood : ops.stands actor.op claim log
  pub owed : ops.owed set (ops.asked actor.op) (ops.cut_at actor.op) log
  pub left : IsLeft claim place
  pub begun : new.begun ≡ old.begun
  pub slots : new.slots ≡ old.slots
  pub disks : new.disks ≡ old.disks
  pub was : old.seats ≡ front ++ Works actor claim log ∷ rest
  pub now : new.seats ≡ front ++ (place ++ rest)

-- an actor stays who it is: its name, its number, and the set and the call of its op, of which less is left to do
pub record GoesOn {O T : Type 0} (ops : Ops O) (was now : Actor O T) : Type 0 where
  pub name : now.name ≡ was.name
  pub number : now.number ≡ was.number
  pub set : ops.set now.op ≡ ops.set was.op
  pub asked : ops.asked now.op ≡ ops.asked was.op
  pub left : ops.left now.op < ops.left was.op

module _ {D O T : Type 0} (ghosts : Ghosts D) (takes breaks : Effect T) (ops : Ops O) (set : SetPlan) where
  -- an actor did the step of its op that came next, and the others stayed where they were
  pub record Steps (number : ℕ) (more : Log) (old new : World D O T) : Type 0 where
    pub front : List (Seat O T)
    pub rest : List (Seat O T)
    pub was : Actor O T
    pub now : Actor O T
    pub claim : Claim
    pub later : Claim
    pub log : Log
    pub number_is : was.number ≡ number
    pub goes_on : GoesOn ops was now
    pub fed : IsFed ops now
    pub in_store : claim.slot < 64
    pub step : IsStepOf (ops.step was.op) more
    pub stood : ops.stands now.op later (log ++ more)
    pub ran : Ran ghosts takes breaks set more (store_with old was claim) (store_with new now later)
    pub begun : new.begun ≡ old.begun
    pub seats_were : old.seats ≡ front ++ Works was claim log ∷ rest
    pub seats_are : new.seats ≡ front ++ Works now later (log ++ more) ∷ rest

-- trouble befell lanes and data drives, and the actors are where they were
pub record Hurts {D O T : Type 0} (ghosts : Ghosts D) (old new : World D O T) : Type 0 where
  pub troubled : StoreTroubled ghosts old.slots old.disks new.slots new.disks
  pub begun : new.begun ≡ old.begun
  pub seats : new.seats ≡ old.seats

-- a drive shows what it showed
abbrev pub ShowsTheSame : DriveView → DriveView → Type 0
ShowsTheSame old new = new.files.shown ≡ old.files.shown

module _ {D : Type 0} (ghosts : Ghosts D) where
  -- lanes and data drives show what they showed
  pub record AllShowTheSame (slots_old : List (SlotSeen D)) (disks_old : List DriveView) (slots_new : List (SlotSeen D)) (disks_new : List DriveView) : Type 0 where
    pub lanes : (k : ℕ) (was now : SlotSeen D) → IsSlotAt slots_old k was → IsSlotAt slots_new k now
        → AtEach (λ k. ShowsTheSame) (views ghosts was.lanes) (views ghosts now.lanes)
    pub disks : AtEach (λ k. ShowsTheSame) disks_old disks_new

-- so it befell them that nothing is shown of it but by the calls that follow
pub record Strikes {D O T : Type 0} (ghosts : Ghosts D) (old new : World D O T) : Type 0 where
  pub trouble : Hurts ghosts old new
  pub same : AllShowTheSame ghosts old.slots old.disks new.slots new.disks

module _ {D O T : Type 0} (ghosts : Ghosts D) (takes breaks : Effect T) (ops : Ops O) (set : SetPlan) where
  -- what a move does to a world
  abbrev pub Moves : Move → World D O T → World D O T → Type 0
  Moves (Started number) old new = Starts ops set number old new
  Moves (Stepped number more) old new = Steps ghosts takes breaks ops set number more old new
  Moves (Ended number log) old new = Ends ops set number log old new
  Moves Struck old new = Strikes ghosts old new
  Moves Hurt old new = Hurts ghosts old new

  -- moves lead from one world to another
  abbrev pub WorldRan : List Move → World D O T → World D O T → Type 0
  WorldRan [] old new = new ≡ old
  WorldRan (move ∷ moves) old new = (mid : World D O T) × Moves move old mid × WorldRan moves mid new
