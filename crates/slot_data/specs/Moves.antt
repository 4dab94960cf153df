-- What sections do to the data that a slot keeps in memory, and to what ops have in hand.
use Rattle.std.specs.Prelude.{◌≡◌, ◌≢◌, ◌⊎◌, ℕ, List, [], ◌∷◌, ◌++◌, Contains}
use Rattle.stamp_id.specs.declared.version.VersionId.{VersionId}
use Rattle.drive_base.specs.Plan.{write_drives}
use Rattle.drive_base.specs.declared.plan.SetPlan.{SetPlan}
use Rattle.slot_history.specs.Contents.{NamedData}
use Rattle.slot_history.specs.Standing.{Flying, Records, Stands}
use Rattle.slot_history.specs.State.{State}
use Rattle.slot_data.specs.Disks.{Disks, IsForKeyOf, IsPartName, IsPieceOf}
use Rattle.slot_data.specs.Holding.{Hands, Holding, IsPinned, IsPinnedFor, Known, Pinned}
use Rattle.slot_data.specs.Holding.Purpose.{ForComplete}
use Rattle.slot_data.specs.Live.{IsNamed}
use Rattle.slot_data.specs.Standing.{IsListed}

-- the lanes of a slot of this set stand for its state, with the puts that the slot lists
abbrev pub LanesStand : SetPlan → ℕ → Holding → Records → State → Type 0
LanesStand set last holding records state = Stands (write_drives set.drives set.parity) set.drives last holding.flights records state

-- a put begins: it is listed last
abbrev pub with_flight : Holding → Flying → Holding
with_flight holding f = record { flights = holding.flights ++ f ∷ []; pins = holding.pins; trash = holding.trash }

-- a put is given up: it isn't listed any more, and its data is trash
abbrev pub given_up : Holding → List Flying → VersionId → Holding
given_up holding rest id = record { flights = rest; pins = holding.pins; trash = holding.trash ++ id ∷ [] }

-- other pins are listed
abbrev pub with_pins : Holding → List Pinned → Holding
with_pins holding pins = record { flights = holding.flights; pins = pins; trash = holding.trash }

-- other ids are trash
abbrev pub with_trash : Holding → List VersionId → Holding
with_trash holding trash = record { flights = holding.flights; pins = holding.pins; trash = trash }

-- ops have also taken these ids
abbrev pub with_taken : Hands → List VersionId → Hands
with_taken hands ids = record { taken = hands.taken ++ ids; known = hands.known }

-- an op also knows that this has its holders
abbrev pub with_known : Hands → Known → Hands
with_known hands x = record { taken = hands.taken; known = hands.known ++ x ∷ [] }

-- a register under a name of the pin's key that is held names an id as data; that of a part, for the pin of a Complete
pub record IsToPin (state : State) (p : Pinned) (id : VersionId) : Type 0 where
  pub name : List ℕ
  pub named : NamedData
  pub names : IsNamed state name named
  pub id_is : named.id ≡ id
  pub key : IsForKeyOf p.name name
  pub part : p.purpose ≡ ForComplete → IsPartName name

-- a pin may begin: its ticket is new, and each of its ids is named
pub record MayPin (state : State) (pins : List Pinned) (p : Pinned) : Type 0 where
  pub ticket : (q : Pinned) → Contains pins q → q.ticket ≢ p.ticket
  pub each : (id : VersionId) → Contains p.ids id → IsToPin state p id

-- a pin may end: what ops know to have its holders is in flight or pinned without it, and so are the parts of puts under way where it was a Complete's
pub record MayUnpin (set : SetPlan) (holding : Holding) (disks : Disks) (hands : Hands) (p : Pinned) (rest : List Pinned) : Type 0 where
  pub listed : (x : Known) → Contains hands.known x → IsListed (with_pins holding rest) x.named.id
  pub gathered : p.purpose ≡ ForComplete → (f : Flying) (id : VersionId) → Contains holding.flights f → IsPieceOf set disks f.id id
      → (id ≡ f.id) ⊎ IsPinnedFor ForComplete rest id

-- ids are taken from the trash: they were there, and no pin names one. What is left was there
pub record TakesTrash (holding : Holding) (ids left : List VersionId) : Type 0 where
  pub there : (id : VersionId) → Contains ids id → Contains holding.trash id
  pub unpinned : (id : VersionId) → Contains ids id → IsPinned holding.pins id → ⊥
  pub left_there : (id : VersionId) → Contains left id → Contains holding.trash id
