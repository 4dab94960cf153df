-- The lives of a store, one after another, with what happens to its lanes and data drives between them.
use Rattle.std.specs.Prelude.{◌≡◌, ℕ, ◌<◌, List, [], ◌∷◌, ◌++◌, Option}
use Rattle.std.specs.Int.{IsBitSet}
use Rattle.std.specs.List.{flat_map}
use Rattle.audit_trail.specs.declared.entry.Entry.{Entry}
use Rattle.desk_base.specs.Telling.{Effect}
use Rattle.drive_base.specs.View.{AtEach, view_at, views}
use Rattle.drive_base.specs.declared.drive.Drive.{Ghosts}
use Rattle.drive_base.specs.declared.plan.SetPlan.{SetPlan}
use Rattle.receipts.specs.Events.{Log}
use Rattle.register_core.specs.OnLanes.{AreHonest}
use Rattle.slot_core.specs.declared.slot.SlotParts.{SlotParts}
use Rattle.slot_data.specs.Disks.{Disks}
use Rattle.op_steps.specs.Claims.{HasHonestManifests}
use Rattle.op_steps.specs.Leading.{RunsShowing, Standing, entered_at}
use Rattle.op_steps.specs.Store.{slots_seen}
use Rattle.op_steps.specs.declared.op.Op.{Ghosts as Ops}
use Rattle.slot_history.specs.Waiting.{IsLawful}
use Rattle.version_list.specs.State.{AreDistinct}
use Rattle.store_shared.specs.Holders.{AreLost, ArePartsAt, DrivesRest, IsTakenApart, IsTried, LostServe, RigHolds}
use Rattle.store_shared.specs.Opening.{with_out}
use Rattle.store_shared.specs.OpeningAll.{StoreIsOpen}
use Rattle.store_shared.specs.Passes.{disks_of, set_of, slots_of}
use Rattle.store_shared.specs.Strikes.{AreStruck}
use Rattle.store_shared.specs.declared.pass.StoreParts.{StoreParts}
use Rattle.store_shared.specs.declared.pass.PlainPass.{PlainPass}
use Rattle.drill_steps.specs.Laws.{FormatsAreHonest, IsHonestRun, WorldHolds, log_of}
use Rattle.drill_steps.specs.Worlds.{Move, ShowsTheSame, World, WorldRan}

-- a store between two turns: it rests with these drives lost, or it is open over a set, some drives of which may be out, in the life of a term
pub data Place (D A O T : Type 0) : Type 0 where
  Shut : ℕ → StoreParts D A → Place D A O T
  Open : SetPlan → ℕ → World D O T → Place D A O T

-- a turn: the store was opened under a term, an opening was refused, these moves were made, the life ended, or drives were struck or hurt while it rested
pub data Turn : Type 0 where
  Opened : ℕ → Turn
  Refused : Turn
  Lived : List Move → Turn
  Closed : Turn
  Rested : Turn
  Damaged : Turn

-- the steps of turns
abbrev pub steps_in : Turn → Log
steps_in (Opened term) = []
steps_in Refused = []
steps_in (Lived moves) = log_of moves
steps_in Closed = []
steps_in Rested = []
steps_in Damaged = []

abbrev pub log_in : List Turn → Log
log_in turns = flat_map steps_in turns

-- the terms of turns rise, each above those before it
abbrev pub Rises : ℕ → Turn → (ℕ → Type 0) → Type 0
Rises used (Opened term) Later = (used < term) × Later term
Rises used Refused Later = Later used
Rises used (Lived moves) Later = Later used
Rises used Closed Later = Later used
Rises used Rested Later = Later used
Rises used Damaged Later = Later used

abbrev pub TermsRise : ℕ → List Turn → ℕ → Type 0
TermsRise used [] last = last ≡ used
TermsRise used (turn ∷ turns) last = Rises used turn (λ later. TermsRise later turns last)

-- the entries of a log run in each slot, from what it stood for
abbrev pub AllRun : Log → (ℕ → Standing) → (ℕ → Standing) → Type 0
AllRun log at later = (slot : ℕ) → RunsShowing slot (entered_at slot log) (at slot).state (later slot).state

module _ {D A O T : Type 0} (ghosts : Ghosts D) (entries : A → Option (List Entry)) (count : A → ℕ) where
  -- a store that rested was opened under a term, and no actor works yet
  pub record Opens (set : SetPlan) (term : ℕ) (old new : Place D A O T) : Type 0 where
    pub lost : ℕ
    pub parts : StoreParts D A
    pub pass : PlainPass D A
    pub is_open : StoreIsOpen ghosts entries count set parts pass
    pub term_is : is_open.opened.term ≡ term
    pub was : old ≡ Shut lost parts
    pub now : new ≡ Open (set_of pass) term
        (record { begun = 0; slots = slots_seen entries count (slots_of pass); disks = views ghosts (disks_of pass); seats = [] })

module _ {D A O T : Type 0} (ghosts : Ghosts D) where
  -- an opening of one that rests was tried
  pub record IsRefused (set : SetPlan) (old new : Place D A O T) : Type 0 where
    pub lost : ℕ
    pub before : StoreParts D A
    pub after : StoreParts D A
    pub tried : IsTried ghosts set before after
    pub was : old ≡ Shut lost before
    pub now : new ≡ Shut lost after

  -- the life of one that is open ended: its drives that are out are lost
  pub record Closes (old new : Place D A O T) : Type 0 where
    pub plan : SetPlan
    pub term : ℕ
    pub world : World D O T
    pub parts : StoreParts D A
    pub apart : IsTakenApart ghosts term world.slots world.disks parts
    pub was : old ≡ Open plan term world
    pub now : new ≡ Shut plan.out parts

  -- lanes and data drives of one that rests were struck by trouble, or stopped; they may be damaged
  pub record Suffers (old new : Place D A O T) : Type 0 where
    pub lost : ℕ
    pub before : StoreParts D A
    pub after : StoreParts D A
    pub disks : AreStruck (views ghosts before.disks.items) (views ghosts after.disks.items)
    pub lanes : (k : ℕ) (now : SlotParts D A) → ArePartsAt after.slots.items k now
        → (was : SlotParts D A) × ArePartsAt before.slots.items k was × AreStruck (views ghosts was.lanes.items) (views ghosts now.lanes.items)
    pub was : old ≡ Shut lost before
    pub now : new ≡ Shut lost after

  -- so were those of one that rests, and each shows what it showed
  pub record Rests (old new : Place D A O T) : Type 0 where
    pub trouble : Suffers old new
    pub disks : AtEach (λ k. ShowsTheSame) (views ghosts trouble.before.disks.items) (views ghosts trouble.after.disks.items)
    pub lanes : (k : ℕ) (was now : SlotParts D A) → ArePartsAt trouble.before.slots.items k was → ArePartsAt trouble.after.slots.items k now
        → AtEach (λ k. ShowsTheSame) (views ghosts was.lanes.items) (views ghosts now.lanes.items)

module _ {D A O T : Type 0} (ghosts : Ghosts D) (takes breaks : Effect T) (ops : Ops O) where
  -- moves were made in one that is open
  pub record Lives (moves : List Move) (old new : Place D A O T) : Type 0 where
    pub plan : SetPlan
    pub term : ℕ
    pub before : World D O T
    pub after : World D O T
    pub ran : WorldRan ghosts takes breaks ops plan moves before after
    pub was : old ≡ Open plan term before
    pub now : new ≡ Open plan term after

module _ {D A O T : Type 0} (ghosts : Ghosts D) (entries : A → Option (List Entry)) (count : A → ℕ) (takes breaks : Effect T) (ops : Ops O) (set : SetPlan) where
  -- what a turn does to a store
  abbrev pub TurnDoes : Turn → Place D A O T → Place D A O T → Type 0
  TurnDoes (Opened term) old new = Opens ghosts entries count set term old new
  TurnDoes Refused old new = IsRefused ghosts set old new
  TurnDoes (Lived moves) old new = Lives ghosts takes breaks ops moves old new
  TurnDoes Closed old new = Closes ghosts old new
  TurnDoes Rested old new = Rests ghosts old new
  TurnDoes Damaged old new = Suffers ghosts old new

  -- turns lead from one place to another
  abbrev pub LivesRan : List Turn → Place D A O T → Place D A O T → Type 0
  LivesRan [] old new = new ≡ old
  LivesRan (turn ∷ turns) old new = (mid : Place D A O T) × TurnDoes turn old mid × LivesRan turns mid new

-- ---- what is asked of damage

module _ {D A : Type 0} (ghosts : Ghosts D) (set : SetPlan) where
  -- what lanes and data drives show that were damaged while they rested is honest, but where they are lost
  pub record PartsAreHonest (lost : ℕ) (parts : StoreParts D A) : Type 0 where
    pub formats : FormatsAreHonest lost (views ghosts parts.disks.items)
    pub manifests : (k : ℕ) → k < set.drives → (IsBitSet lost k → ⊥) → HasHonestManifests (view_at (views ghosts parts.disks.items) k).files
    pub lanes : (k : ℕ) (now : SlotParts D A) → ArePartsAt parts.slots.items k now
        → (name : List ℕ) → AreHonest ghosts.files (with_out set lost).out name now.lanes.items

module _ {D A O T : Type 0} (ghosts : Ghosts D) (entries : A → Option (List Entry)) (count : A → ℕ) (takes breaks : Effect T) (ops : Ops O) (set : SetPlan) where
  -- over a turn damage is honest, and no drive that was lost fails while the store is opened
  abbrev pub IsHonestTurn : (turn : Turn) (old new : Place D A O T) → TurnDoes ghosts entries count takes breaks ops set turn old new → Type 0
  IsHonestTurn (Opened term) old new x = LostServe x.lost (views ghosts x.parts.disks.items) (views ghosts (disks_of x.pass))
  IsHonestTurn Refused old new x = LostServe x.lost (views ghosts x.before.disks.items) (views ghosts x.after.disks.items)
  IsHonestTurn (Lived moves) old new x = IsHonestRun ghosts takes breaks ops x.plan moves x.before x.after x.ran
  IsHonestTurn Closed old new x = Unit {0}
  IsHonestTurn Rested old new x = Unit {0}
  IsHonestTurn Damaged old new x = PartsAreHonest ghosts set x.lost x.after

  abbrev pub AreHonestLives : (turns : List Turn) (old new : Place D A O T) → LivesRan ghosts entries count takes breaks ops set turns old new → Type 0
  AreHonestLives [] old new ran = Unit {0}
  AreHonestLives (turn ∷ turns) old new ran = IsHonestTurn turn old ran.0 ran.1 × AreHonestLives turns ran.0 new ran.2

-- ---- what holds

module _ {D O T : Type 0} (ghosts : Ghosts D) (set : SetPlan) where
  -- the store of a life holds, the data drives keep its term, and those that are out are lost
  pub record LifeHolds (plan : SetPlan) (term : ℕ) (unseen : Disks) (at : ℕ → Standing) (world : World D O T) : Type 0 where
    pub holds : WorldHolds ghosts plan unseen at world
    pub disks : DrivesRest plan term world.disks
    pub lost_are : AreLost plan term plan.out world.disks
    pub plan_is : plan ≡ with_out set plan.out

module _ {D A O T : Type 0} (ghosts : Ghosts D) (set : SetPlan) where
  -- a store that rests holds, and one that is open
  abbrev pub HoldsWith : ℕ → Disks → (ℕ → Standing) → Place D A O T → Type 0
  HoldsWith used unseen at (Shut lost parts) = RigHolds ghosts set used lost unseen at parts
  HoldsWith used unseen at (Open plan term world) = (term ≡ used) × LifeHolds ghosts set plan term unseen at world

  -- so it does after lives of which the last one was of this term, whatever the drives keep that are lost
  pub record PlaceHolds (used : ℕ) (at : ℕ → Standing) (place : Place D A O T) : Type 0 where
    pub unseen : Disks
    pub holds : HoldsWith used unseen at place

module _ {D A O T : Type 0} (ghosts : Ghosts D) (set : SetPlan) where
  -- turns left a store that holds: their terms rise, and the histories run by the entries of their steps
  pub record LivesLeave (turns : List Turn) (used : ℕ) (at : ℕ → Standing) (new : Place D A O T) : Type 0 where
    pub last : ℕ
    pub later : ℕ → Standing
    pub rise : TermsRise used turns last
    pub run : AllRun (log_in turns) at later
    pub holds : PlaceHolds ghosts set last later new

module _ {D A O T : Type 0} (ghosts : Ghosts D) (entries : A → Option (List Entry)) (count : A → ℕ) (takes breaks : Effect T) (ops : Ops O) where
  -- any turns leave a store that holds, where it held and damage is honest
  abbrev pub LivesHold : Type 0
  LivesHold = (set : SetPlan) (turns : List Turn) (old new : Place D A O T) (used : ℕ) (at : ℕ → Standing)
      (ran : LivesRan ghosts entries count takes breaks ops set turns old new) → AreHonestLives ghosts entries count takes breaks ops set turns old new ran
      → PlaceHolds ghosts set used at old → LivesLeave ghosts set turns used at new

-- where entries ran from a lawful state, what each change did was applied once, over all lives, and the state is lawful
abbrev pub ChangesApplyOnce : Type 0
ChangesApplyOnce = (log : Log) (at later : ℕ → Standing) (slot : ℕ) → AllRun log at later → IsLawful (at slot).state → AreDistinct (at slot).state.applied
    → IsLawful (later slot).state × ((more : List ℕ) × ((later slot).state.applied ≡ more ++ (at slot).state.applied))
    × AreDistinct (later slot).state.applied
