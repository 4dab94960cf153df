-- What each line of a script does to a store: which moves it makes there, and what is told of them.
use Rattle.std.specs.Prelude.{◌≡◌, ◌≢◌, ◌⊎◌, ℕ, Bool, true, false, Contains, IsTrue, List, [], ◌∷◌, ◌++◌, Option, Result}
use Rattle.std.specs.List.{flat_map}
use Rattle.audit_trail.specs.declared.entry.Entry.{Entry}
use Rattle.call_types.specs.declared.feed.Cut.{Cut}
use Rattle.desk_base.specs.Telling.{Effect}
use Rattle.drill_script.specs.declared.line.Line.{Line}
use Rattle.drive_base.specs.declared.drive.Drive.{Ghosts}
use Rattle.drive_base.specs.declared.plan.SetPlan.{SetPlan}
use Rattle.receipts.specs.Events.{Log}
use Rattle.receipts.specs.Events.Event.{BarredFrom, Called, Fed, Told, Turned}
use Rattle.op_steps.specs.Claims.{Claim}
use Rattle.op_steps.specs.declared.next.OpNext.TheVariants.{Done}
use Rattle.op_steps.specs.declared.op.Op.{Ghosts as Ops}
use Rattle.term_gate.specs.declared.opening.Opened.{Opened as OpenedSet}
use Rattle.term_gate.specs.declared.refusal.OpenRefusal.{OpenRefusal}
use Rattle.drill_steps.specs.Lives.{Closes, IsRefused, Lives, Opens, Place, Rests, Suffers}
use Rattle.drill_steps.specs.Lives.Place.{Open, Shut}
use Rattle.drill_steps.specs.Worlds.{Actor, Move, NoneHas, Seat, World, WorldRan}
use Rattle.drill_steps.specs.Worlds.Move.{Ended, Hurt, Started, Stepped, Struck}
use Rattle.drill_steps.specs.Worlds.Seat.{Leaves, Works}

-- what is told of an actor that a line names, where nothing is done: none of this name is at work, one is, or the store is shut
pub data Notice : Type 0 where
  NoActor : Notice
  NameTaken : Notice
  StoreIsShut : Notice

-- the words of a script: what a line asks that begins an actor; where `upto` leaves an actor with its log so far; and what is told of an actor that ended, by
-- its name, what it was asked, why it was cut and its log, of a notice, of those that were at work when a life ended, and of an opening that was done or refused
pub record Wording (O Q : Type 0) : Type 0 where
  pub asks : Line → Q
  pub pauses : O → Log → Bool
  pub tells : List ℕ → Q → Option Cut → Log → List ℕ
  pub notice : Notice → List ℕ → List ℕ
  pub gone : List (List ℕ) → List ℕ
  pub opened : ℕ → List ℕ
  pub refused : Result OpenedSet OpenRefusal → List ℕ

-- the names of those at work
abbrev pub name_at : {O T : Type 0} → Seat O T → List (List ℕ)
name_at (Works actor claim log) = actor.name ∷ []
name_at (Leaves claim) = []

abbrev pub names_of : {O T : Type 0} → List (Seat O T) → List (List ℕ)
names_of seats = flat_map name_at seats

-- whether a step is the last of a `go`: a section is, and one at data drives; bytes of the body and tellings aren't
abbrev pub ends_go : Log → Bool
ends_go [] = true
ends_go (Turned k _ shown ∷ more) = true
ends_go (BarredFrom k why ∷ more) = true
ends_go (Called k made ∷ more) = true
ends_go (Fed bytes cut ∷ more) = false
ends_go (Told telling cut ∷ more) = false

-- one of two
abbrev pub Either : Bool → Type 0 → Type 0 → Type 0
Either true One Other = One
Either false One Other = Other

module _ {D O T : Type 0} (Holds : Actor O T → Log → Type 0) where
  -- the actor of this number is at work, and this holds of it with its log so far
  pub record IsAtWork (number : ℕ) (world : World D O T) : Type 0 where
    pub actor : Actor O T
    pub claim : Claim
    pub log : Log
    pub works : Contains world.seats (Works actor claim log)
    pub number_is : actor.number ≡ number
    pub holds : Holds actor log

-- it has this name
abbrev pub HasName : {D O T : Type 0} → List ℕ → ℕ → World D O T → Type 0
HasName {D} {O} {T} name number world = IsAtWork (λ (actor : Actor O T) log. actor.name ≡ name) number world

-- moves are those of one actor to its end
abbrev pub IsRun : ℕ → List Move → Type 0
IsRun number [] = ⊥
IsRun number (Started n ∷ moves) = ⊥
IsRun number (Stepped n more ∷ moves) = (n ≡ number) × IsRun number moves
IsRun number (Ended n log ∷ moves) = (n ≡ number) × (moves ≡ [])
IsRun number (Struck ∷ moves) = ⊥
IsRun number (Hurt ∷ moves) = ⊥

-- so is its end alone
abbrev pub IsEnd : ℕ → List Move → Type 0
IsEnd number moves = (log : Log) × (moves ≡ Ended number log ∷ [])

module _ {D O T : Type 0} (ghosts : Ghosts D) (takes breaks : Effect T) (ops : Ops O) (set : SetPlan) where
  -- after the last step of a `go` the actor ends, or something is left to do for it
  abbrev pub StopsSo : ℕ → List Move → World D O T → Type 0
  StopsSo number moves world = IsEnd number moves ⊎ ((moves ≡ []) × IsAtWork (λ (actor : Actor O T) log. ops.step actor.op ≢ Done) number world)

  -- moves are those of one `go` of an actor: its steps up to the first that is the last of one, or to its end
  abbrev pub IsGo : ℕ → (moves : List Move) (old new : World D O T) → WorldRan ghosts takes breaks ops set moves old new → Type 0
  IsGo number [] old new ran = ⊥
  IsGo number (Started n ∷ moves) old new ran = ⊥
  IsGo number (Stepped n more ∷ moves) old new ran =
      (n ≡ number) × Either (ends_go more) (StopsSo number moves ran.0) (IsGo number moves ran.0 new ran.2)
  IsGo number (Ended n log ∷ moves) old new ran = (n ≡ number) × (moves ≡ [])
  IsGo number (Struck ∷ moves) old new ran = ⊥
  IsGo number (Hurt ∷ moves) old new ran = ⊥

  -- moves are whole `go`s of an actor, up to the first behind which it pauses, or to its end; it may be between two of them
  abbrev pub IsUpTo : (O → Log → Bool) → ℕ → Bool → (moves : List Move) (old new : World D O T) → WorldRan ghosts takes breaks ops set moves old new → Type 0
  IsUpTo pauses number between [] old new ran = IsTrue between × IsAtWork (λ (actor : Actor O T) log. IsTrue (pauses actor.op log)) number old
  IsUpTo pauses number between (Started n ∷ moves) old new ran = ⊥
  IsUpTo pauses number between (Stepped n more ∷ moves) old new ran =
      (n ≡ number) × ((IsTrue between → IsAtWork (λ (actor : Actor O T) log. IsTrue (pauses actor.op log)) number old → ⊥)
      × IsUpTo pauses number (ends_go more) moves ran.0 new ran.2)
  IsUpTo pauses number between (Ended n log ∷ moves) old new ran = (n ≡ number) × (moves ≡ [])
  IsUpTo pauses number between (Struck ∷ moves) old new ran = ⊥
  IsUpTo pauses number between (Hurt ∷ moves) old new ran = ⊥

  -- what is told of moves: of each actor that ended, by what it was asked, why it was cut, and the log of its steps
  abbrev pub told_of : (List ℕ → ops.Asked → Option Cut → Log → List ℕ) → (moves : List Move) (old new : World D O T)
      → WorldRan ghosts takes breaks ops set moves old new → List ℕ
  told_of tells [] old new ran = []
  told_of tells (Started n ∷ moves) old new ran = told_of tells moves ran.0 new ran.2
  told_of tells (Stepped n more ∷ moves) old new ran = told_of tells moves ran.0 new ran.2
  told_of tells (Ended n log ∷ moves) old new ran =
      tells ran.1.actor.name (ops.asked ran.1.actor.op) (ops.cut_at ran.1.actor.op) log ++ told_of tells moves ran.0 new ran.2
  told_of tells (Struck ∷ moves) old new ran = told_of tells moves ran.0 new ran.2
  told_of tells (Hurt ∷ moves) old new ran = told_of tells moves ran.0 new ran.2

-- none of this name is at work in a store
abbrev pub NoneWorks : {D A O T : Type 0} → List ℕ → Place D A O T → Type 0
NoneWorks name (Shut lost parts) = Unit {0}
NoneWorks name (Open plan term world) = NoneHas name world.seats

-- a store rests
abbrev pub IsShut : {D A O T : Type 0} → Place D A O T → Type 0
IsShut (Shut lost parts) = Unit {0}
IsShut (Open plan term world) = ⊥

-- nothing was done, and a notice told
pub record OnlyNotes {D A O T Q : Type 0} (words : Wording O Q) (notice : Notice) (name : List ℕ) (old new : Place D A O T) (text : List ℕ) : Type 0 where
  pub stays : new ≡ old
  pub told : text ≡ words.notice notice name

module _ {D O T : Type 0} (ghosts : Ghosts D) (takes breaks : Effect T) (ops : Ops O) where
  -- which moves are those of a line that drives an actor, by its number
  abbrev pub Driving : Type 1
  Driving = ℕ → (set : SetPlan) (moves : List Move) (old new : World D O T) → WorldRan ghosts takes breaks ops set moves old new → Type 0

  abbrev pub ByGo : Driving
  ByGo number set moves old new ran = IsGo ghosts takes breaks ops set number moves old new ran

  abbrev pub ByRun : Driving
  ByRun number set moves old new ran = IsRun number moves

  abbrev pub ByUpTo : (O → Log → Bool) → Driving
  ByUpTo pauses number set moves old new ran = IsUpTo ghosts takes breaks ops set pauses number true moves old new ran

module _ {D A O T : Type 0} (ghosts : Ghosts D) (takes breaks : Effect T) (ops : Ops O) (words : Wording O ops.Asked) where
  -- an actor of this name began, of which this line asks what its op does; nothing is told
  pub record Begins (line : Line) (name : List ℕ) (old new : Place D A O T) (text : List ℕ) : Type 0 where
    pub number : ℕ
    pub life : Lives ghosts takes breaks ops (Started number ∷ []) old new
    pub name_is : life.ran.1.actor.name ≡ name
    pub asked : ops.asked life.ran.1.actor.op ≡ words.asks line
    pub silent : text ≡ []

  -- a line that begins an actor, unless the store is shut or its name is taken
  abbrev pub StartDoes : Line → List ℕ → Place D A O T → Place D A O T → List ℕ → Type 0
  StartDoes line name old new text = (IsShut old × OnlyNotes words StoreIsShut name old new text)
      ⊎ (((NoneWorks name old → ⊥) × OnlyNotes words NameTaken name old new text) ⊎ Begins line name old new text)

  -- the actor of this name made these moves, and of its end is told what is owed
  pub record Drives (By : Driving ghosts takes breaks ops) (name : List ℕ) (old new : Place D A O T) (text : List ℕ) : Type 0 where
    pub moves : List Move
    pub life : Lives ghosts takes breaks ops moves old new
    pub number : ℕ
    pub named : HasName name number life.before
    pub by : By number life.plan moves life.before life.after life.ran
    pub told : text ≡ told_of ghosts takes breaks ops life.plan words.tells moves life.before life.after life.ran

  -- a line that drives an actor, unless none of its name is at work
  abbrev pub StepsDo : Driving ghosts takes breaks ops → List ℕ → Place D A O T → Place D A O T → List ℕ → Type 0
  StepsDo By name old new text = (NoneWorks name old × OnlyNotes words NoActor name old new text) ⊎ Drives By name old new text

  -- trouble of which nothing is shown, in a life or at rest
  abbrev pub StrikeDoes : Place D A O T → Place D A O T → List ℕ → Type 0
  StrikeDoes old new text = (text ≡ []) × (Lives ghosts takes breaks ops (Struck ∷ []) old new ⊎ Rests ghosts old new)

  -- damage, or none where no file has the place
  abbrev pub HurtDoes : Place D A O T → Place D A O T → List ℕ → Type 0
  HurtDoes old new text = (text ≡ []) × ((new ≡ old) ⊎ (Lives ghosts takes breaks ops (Hurt ∷ []) old new ⊎ Suffers ghosts old new))

module _ {D A O T : Type 0} (ghosts : Ghosts D) (entries : A → Option (List Entry)) (count : A → ℕ) (ops : Ops O) (words : Wording O ops.Asked) (set : SetPlan) where
  -- a life ends, if there is one, and those at work are gone
  abbrev pub LifeEnds : Place D A O T → Place D A O T → List ℕ → Type 0
  LifeEnds old new text = (IsShut old × ((new ≡ old) × (text ≡ []))) ⊎ ((x : Closes ghosts old new) × (text ≡ words.gone (names_of x.world.seats)))

  -- the store is opened, or its opening refused
  abbrev pub OpeningDoes : Place D A O T → Place D A O T → List ℕ → Type 0
  OpeningDoes old new text = ((term : ℕ) × Opens ghosts entries count set term old new × (text ≡ words.opened term))
      ⊎ ((x : IsRefused ghosts set old new) × (text ≡ words.refused x.tried.result))

  -- a life ends, the drives stop, and the next one begins
  pub record StopDoes (old new : Place D A O T) (text : List ℕ) : Type 0 where
    pub shut : Place D A O T
    pub stopped : Place D A O T
    pub ended : List ℕ
    pub opening : List ℕ
    pub ends : LifeEnds old shut ended
    pub stops : Rests ghosts shut stopped
    pub opens : OpeningDoes stopped new opening
    pub text_is : text ≡ ended ++ opening
