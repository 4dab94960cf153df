-- The laws of a slot's data.
use Rattle.std.specs.Prelude.{◌≡◌, ◌≢◌, ℕ, ◌<◌, ◌≤◌, List, [], ◌∷◌, replicate, Contains}
use Rattle.stamp_id.specs.declared.version.VersionId.{VersionId}
use Rattle.drive_base.specs.declared.plan.SetPlan.{SetPlan}
use Rattle.vote_core.specs.Lane.{blank_lane}
use Rattle.slot_history.specs.Contents.{number_of_id}
use Rattle.slot_history.specs.Standing.{Flying, Records}
use Rattle.slot_history.specs.State.{State, TakesOut, no_state}
use Rattle.slot_data.specs.Disks.{AreInOrder, Disks, HasHolders}
use Rattle.slot_data.specs.Holding.{Hands, Holding, Known, Pinned, no_hands, no_holding}
use Rattle.slot_data.specs.Live.{IsLiveData}
use Rattle.slot_data.specs.Moves.{LanesStand, MayPin, MayUnpin, TakesTrash, given_up, with_flight, with_known, with_pins, with_taken, with_trash}
use Rattle.slot_data.specs.Standing.{DataStands, IsListed}

-- the data stands of a slot in which nothing was done, where what the drives keep under its ids is in order
abbrev pub FreshDataStands : Type 0
FreshDataStands = (set : SetPlan) (slot last : ℕ) (disks : Disks) → AreInOrder set slot last disks
    → DataStands set slot last (λ name. replicate set.drives blank_lane) no_state no_holding disks no_hands

-- it goes on to stand when a life ends: then nothing is under way
abbrev pub LifeEnds : Type 0
LifeEnds = (set : SetPlan) (slot last : ℕ) (records : Records) (state : State) (holding : Holding) (disks : Disks) (hands : Hands)
    → DataStands set slot last records state holding disks hands
    → DataStands set slot last records state no_holding disks no_hands

-- it stands for each set of as many drives and as much parity, whichever drives are out: a life may begin with others out than the one before
abbrev pub OutMayChange : Type 0
OutMayChange = (set other : SetPlan) (slot last : ℕ) (records : Records) (state : State) (holding : Holding) (disks : Disks) (hands : Hands)
    → other.drives ≡ set.drives → other.parity ≡ set.parity
    → DataStands set slot last records state holding disks hands
    → DataStands other slot last records state holding disks hands

-- while numbers are drawn
abbrev pub NumbersAreDrawn : Type 0
NumbersAreDrawn = (set : SetPlan) (slot last later : ℕ) (records : Records) (state : State) (holding : Holding) (disks : Disks) (hands : Hands)
    → last ≤ later → DataStands set slot last records state holding disks hands → DataStands set slot later records state holding disks hands

-- while a put begins under a new number
abbrev pub PutBegins : Type 0
PutBegins = (set : SetPlan) (slot last : ℕ) (records : Records) (state : State) (holding : Holding) (disks : Disks) (hands : Hands) (f : Flying)
    → LanesStand set last holding records state → last < number_of_id f.id → f.id.slot ≡ slot
    → DataStands set slot last records state holding disks hands
    → DataStands set slot (number_of_id f.id) records state (with_flight holding f) disks hands

-- while a put is given up of which no op relies on the holders
abbrev pub PutIsGivenUp : Type 0
PutIsGivenUp = (set : SetPlan) (slot last : ℕ) (records : Records) (state : State) (holding : Holding) (disks : Disks) (hands : Hands)
    (f : Flying) (rest : List Flying)
    → LanesStand set last holding records state → TakesOut f holding.flights rest → ((x : Known) → Contains hands.known x → x.named.id ≢ f.id)
    → DataStands set slot last records state holding disks hands
    → DataStands set slot last records state (given_up holding rest f.id) disks hands

-- while a read, a heal or a Complete begins, and ends
abbrev pub PinBegins : Type 0
PinBegins = (set : SetPlan) (slot last : ℕ) (records : Records) (state : State) (holding : Holding) (disks : Disks) (hands : Hands)
    (p : Pinned) (pins : List Pinned)
    → LanesStand set last holding records state → MayPin state holding.pins p → TakesOut p pins holding.pins
    → DataStands set slot last records state holding disks hands
    → DataStands set slot last records state (with_pins holding pins) disks hands

abbrev pub PinEnds : Type 0
PinEnds = (set : SetPlan) (slot last : ℕ) (records : Records) (state : State) (holding : Holding) (disks : Disks) (hands : Hands)
    (p : Pinned) (rest : List Pinned)
    → TakesOut p holding.pins rest → MayUnpin set holding disks hands p rest
    → DataStands set slot last records state holding disks hands
    → DataStands set slot last records state (with_pins holding rest) disks hands

-- while an op takes trash that isn't pinned, or finds data dead
abbrev pub TrashIsTaken : Type 0
TrashIsTaken = (set : SetPlan) (slot last : ℕ) (records : Records) (state : State) (holding : Holding) (disks : Disks) (hands : Hands)
    (ids left : List VersionId)
    → TakesTrash holding ids left
    → DataStands set slot last records state holding disks hands
    → DataStands set slot last records state (with_trash holding left) disks (with_taken hands ids)

abbrev pub DeadIsTaken : Type 0
DeadIsTaken = (set : SetPlan) (slot last : ℕ) (records : Records) (state : State) (holding : Holding) (disks : Disks) (hands : Hands) (id : VersionId)
    → (IsLiveData set records state holding disks id → ⊥) → id.slot ≡ slot → number_of_id id ≤ last
    → DataStands set slot last records state holding disks hands
    → DataStands set slot last records state holding disks (with_taken hands (id ∷ []))

-- while an op comes to know that data in flight or pinned has its holders
abbrev pub HoldersAreKnown : Type 0
HoldersAreKnown = (set : SetPlan) (slot last : ℕ) (records : Records) (state : State) (holding : Holding) (disks : Disks) (hands : Hands) (x : Known)
    → IsListed holding x.named.id → HasHolders set disks x.named x.name
    → DataStands set slot last records state holding disks hands
    → DataStands set slot last records state holding disks (with_known hands x)

-- and while ops are done with what they have in hand
abbrev pub HandsAreFreed : Type 0
HandsAreFreed = (set : SetPlan) (slot last : ℕ) (records : Records) (state : State) (holding : Holding) (disks : Disks) (hands less : Hands)
    → ((id : VersionId) → Contains less.taken id → Contains hands.taken id) → ((x : Known) → Contains less.known x → Contains hands.known x)
    → DataStands set slot last records state holding disks hands
    → DataStands set slot last records state holding disks less
