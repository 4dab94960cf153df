-- What the answers of sections mean: what their entries say, what they show of the state, and what they leave in the slot's memory.
use Rattle.std.specs.Prelude.{◌≡◌, ◌≢◌, ◌⊎◌, ℕ, ◌+◌, List, [], ◌∷◌, ◌++◌, filter, not, take, Result, Ok, Err, Contains}
use Rattle.std.specs.List.{list_any}
use Rattle.stamp_id.specs.declared.version.VersionId.{VersionId}
use Rattle.call_types.specs.Refusals.{refusal_of}
use Rattle.call_types.specs.declared.act.Brief.TheVariants.{Answer, Read}
use Rattle.call_types.specs.declared.names.Key.{Key}
use Rattle.call_types.specs.declared.names.Mode.{Mode}
use Rattle.call_types.specs.declared.names.Pick.{Pick}
use Rattle.call_types.specs.declared.reply.Reply.TheVariants.{Found, Refused}
use Rattle.version_list.specs.Step.{told}
use Rattle.audit_trail.specs.declared.entry.Deed.{Deed}
use Rattle.audit_trail.specs.declared.entry.Deed.TheVariants.{Done, Kept}
use Rattle.audit_trail.specs.declared.entry.Entry.{Entry}
use Rattle.slot_history.specs.Contents.{IsVersionOf, NamedData}
use Rattle.slot_history.specs.Doing.{whole_of}
use Rattle.slot_history.specs.Names.{key_name}
use Rattle.slot_history.specs.Standing.{Flying}
use Rattle.slot_history.specs.State.{State, TakesOut}
use Rattle.drive_base.specs.declared.plan.SetPlan.{SetPlan}
use Rattle.slot_data.specs.Disks.{Disks}
use Rattle.slot_data.specs.Holding.{Hands, Holding, IsInFlight, Known, Pinned}
use Rattle.slot_data.specs.Holding.Purpose.{ForRead}
use Rattle.slot_data.specs.Moves.{MayUnpin, given_up, with_flight, with_pins, with_taken, with_trash}
use Rattle.slot_data.specs.Rows.{is_id, pin_names}
use Rattle.slot_data.specs.declared.rows.PinRow.{PinRow}
use Rattle.slot_core.specs.Views.{SlotNumbers}
use Rattle.slot_core.specs.declared.slot.SlotFault.{SlotFault}
use Rattle.slot_core.specs.declared.slot.SlotFault.TheVariants.{Quorum, Key as KeyFault, SeqSpent, AuditFailed, NoMemory, NotInFlight}
use Rattle.slot_core.specs.declared.holding.Flight.{Flight}
use Rattle.slot_core.specs.declared.read_plan.ReadStart.{ReadStart}

-- an entry is of this register, and says that its section did nothing of its own
pub record SaysKept (name : List ℕ) (entry : Entry) : Type 0 where
  pub name_is : entry.name ≡ name
  pub deed_is : entry.deed ≡ Kept

-- the content that a look answers is the register's
abbrev pub ShowsContent : {E : Type 0} → List ℕ → Result (List ℕ) E → State → State → Type 0
ShowsContent name (Ok content) before after = content ≡ (before.registers name).content
ShowsContent name (Err _) before after = Unit {0}

-- a section that shows nothing but what its entry says
abbrev pub ShowsNoMore : State → State → Type 0
ShowsNoMore before after = Unit {0}

-- what the entry of a read says, by its answer: the version that was found, whole, or why none was; where lanes refused it, nothing
abbrev pub ReadDeed : Key → Mode → Pick → Result ReadStart SlotFault → Deed → Type 0
ReadDeed at mode pick (Ok start) deed = deed ≡ Done (Read at mode pick) (Answer (Found start.version (whole_of start.version) (told mode start.version.id)))
ReadDeed at mode pick (Err (KeyFault why)) deed = deed ≡ Done (Read at mode pick) (Answer (Refused (refusal_of why)))
ReadDeed at mode pick (Err (Quorum _)) deed = deed ≡ Kept
ReadDeed at mode pick (Err SeqSpent) deed = ⊥
ReadDeed at mode pick (Err (AuditFailed _ _)) deed = ⊥
ReadDeed at mode pick (Err NoMemory) deed = ⊥
ReadDeed at mode pick (Err (NotInFlight _)) deed = ⊥

-- the entry of a read
pub record SaysRead (at : Key) (mode : Mode) (pick : Pick) (answer : Result ReadStart SlotFault) (entry : Entry) : Type 0 where
  pub name_is : entry.name ≡ key_name at
  pub deed_is : ReadDeed at mode pick answer entry.deed

-- the pin that a read begins: of the section of this ticket, for its key, of the data of the version that it found, which is an object
pub record IsReadPin (ticket : ℕ) (at : Key) (start : ReadStart) (pin : Pinned) : Type 0 where
  pub ticket_is : pin.ticket ≡ ticket
  pub handle : start.pin.ticket ≡ ticket
  pub purpose : pin.purpose ≡ ForRead
  pub name_is : pin.name ≡ key_name at
  pub named : NamedData
  pub object : IsVersionOf named start.version
  pub ids : pin.ids ≡ named.id ∷ []

-- what a read leaves in memory: where a version was found, its pin is listed last; else all stays
abbrev pub ReadHolds : SlotNumbers → Key → Result ReadStart SlotFault → Holding → Holding → Type 0
ReadHolds numbers at (Ok start) old new = (pin : Pinned) × IsReadPin numbers.turns at start pin × (new ≡ with_pins old (old.pins ++ pin ∷ []))
ReadHolds numbers at (Err _) old new = new ≡ old

-- a pin is not listed any more: the one of this ticket ended, or there was none and all stays
abbrev pub PinGoes : ℕ → Holding → Holding → Type 0
PinGoes ticket old new =
    ((p : Pinned) × (rest : List Pinned) × (p.ticket ≡ ticket) × TakesOut p old.pins rest × (new ≡ with_pins old rest))
    ⊎ (((p : Pinned) → Contains old.pins p → p.ticket ≢ ticket) × (new ≡ old))

-- ops may let a pin go, and keep what they have in hand
abbrev pub MayLetGo : SetPlan → ℕ → Holding → Disks → Hands → Hands → Type 0
MayLetGo set ticket held disks hands later = (later ≡ hands)
    × ((p : Pinned) (rest : List Pinned) → p.ticket ≡ ticket → TakesOut p held.pins rest → MayUnpin set held disks hands p rest)

-- a put begins: under the next number of the slot, with its index, and for its key; it is listed last
pub record BeginsPut (numbers later : SlotNumbers) (at : Key) (flight : Flight) (old new : Holding) : Type 0 where
  pub term : flight.id.change.0.term ≡ numbers.term
  pub seq : flight.id.change.0.seq ≡ numbers.seq + 1
  pub slot : flight.id.slot ≡ numbers.index
  pub name_is : flight.name ≡ key_name at
  pub drawn : later.seq ≡ numbers.seq + 1
  pub listed : new ≡ with_flight old (record { id = flight.id; name = flight.name })

-- what the begin of a put leaves, by its answer: where it was refused nothing was drawn, and all stays
abbrev pub PutHolds : {E : Type 0} → SlotNumbers → SlotNumbers → Key → Result Flight E → Holding → Holding → Type 0
PutHolds numbers later at (Ok flight) old new = BeginsPut numbers later at flight old new
PutHolds numbers later at (Err _) old new = (later.seq ≡ numbers.seq) × (new ≡ old)

-- a put is given up: where it is listed it ends, and its data is trash; else all stays
abbrev pub PutGoes : VersionId → Holding → Holding → Type 0
PutGoes id old new =
    ((f : Flying) × (rest : List Flying) × (f.id ≡ id) × TakesOut f old.flights rest × (new ≡ given_up old rest id))
    ⊎ ((IsInFlight old.flights id → ⊥) × (new ≡ old))

-- ops may give a put up of whose holders none knows, and keep what they have in hand
abbrev pub MayGiveUp : VersionId → Disks → Hands → Hands → Type 0
MayGiveUp id disks hands later = (later ≡ hands) × ((x : Known) → Contains hands.known x → x.named.id ≢ id)

-- trash is taken: the first ids that no pin names, so many at most; the others stay, in their order
pub record TakesFirst (most : ℕ) (pins : List PinRow) (old new : Holding) (ids : List VersionId) : Type 0 where
  pub taken : ids ≡ take most (filter (λ id. not (list_any (pin_names id) pins)) old.trash)
  pub left : new ≡ with_trash old (filter (λ id. not (list_any (is_id id) ids)) old.trash)

-- what taking trash leaves, by its answer
abbrev pub TrashHolds : {E : Type 0} → ℕ → List PinRow → Holding → Holding → Result (List VersionId) E → Type 0
TrashHolds most pins old new (Ok ids) = TakesFirst most pins old new ids
TrashHolds most pins old new (Err _) = new ≡ old

-- ops have in hand what was taken
abbrev pub TakesInHand : {E : Type 0} → Result (List VersionId) E → Disks → Hands → Hands → Type 0
TakesInHand (Ok ids) disks hands later = later ≡ with_taken hands ids
TakesInHand (Err _) disks hands later = later ≡ hands
