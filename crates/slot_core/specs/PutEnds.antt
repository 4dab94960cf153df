-- Puts that end with a commit, and what a commit concludes.
use Rattle.std.specs.Prelude.{◌≡◌, ⊤, List, All, Option, None, Some, Result, Err}
use Rattle.stamp_id.specs.declared.stamp.ChangeId.{ChangeId}
use Rattle.stamp_id.specs.declared.version.VersionId.{VersionId}
use Rattle.call_types.specs.declared.refusal.KeyRefusal.{KeyRefusal}
use Rattle.audit_trail.specs.declared.entry.Deed.{Deed}
use Rattle.audit_trail.specs.declared.entry.Entry.{Entry}
use Rattle.slot_history.specs.State.{TakesOut}
use Rattle.slot_data.specs.declared.rows.FlightRow.{FlightRow}
use Rattle.slot_rules.specs.declared.commit.Commit.{Commit}
use Rattle.slot_rules.specs.declared.commit.Committed.{Committed}
use Rattle.slot_core.specs.CommitOutcome.{FitsPut, deed_told}
use Rattle.slot_core.specs.Commits.{NothingBegun}
use Rattle.slot_core.specs.declared.commit_write.Outcome.{Outcome}
use Rattle.slot_core.specs.declared.commit_write.Outcome.TheVariants.{Begun, Done, Kept, LacksMemory}
use Rattle.slot_core.specs.declared.slot.SlotFault.{SlotFault}
use Rattle.slot_core.specs.declared.slot.SlotFault.TheVariants.{Key as KeyFault, NotInFlight}
use Rattle.slot_core.specs.declared.holding.Flight.{Flight}
use Rattle.slot_core.specs.declared.flights.Landing.{Landing}
use Rattle.slot_core.specs.declared.flights.Landing.TheVariants.{Ended, Missing}

-- the put that ends, if one does
abbrev pub put_of : Landing → Option VersionId
put_of (Ended put) = put
put_of (Missing id) = None

-- the put that was handed in, if one was
abbrev pub handed : Landing → Option VersionId
handed (Ended put) = put
handed (Missing id) = Some id

-- the same of a flight
abbrev pub flight_put : Option Flight → Option VersionId
flight_put None = None
flight_put (Some flight) = Some flight.id

-- what became of the put of this id: its row was taken out of the list, or there was none
abbrev pub LandsPut : VersionId → Landing → List FlightRow → List FlightRow → Type 0
LandsPut put (Ended None) old new = ⊥
LandsPut put (Ended (Some id)) old new = (put ≡ id) × ((row : FlightRow) × (row.id ≡ id) × TakesOut row old new)
LandsPut put (Missing id) old new = (put ≡ id) × (All (λ (row : FlightRow). row.id ≡ id → ⊥) old × (new ≡ old))

-- the same of a flight that was handed in, if one was
abbrev pub LandsRow : Option Flight → Landing → List FlightRow → List FlightRow → Type 0
LandsRow None landing old new = (landing ≡ Ended None) × (new ≡ old)
LandsRow (Some flight) landing old new = LandsPut flight.id landing old new

-- a deed comes with the put that brings its data; one that isn't listed is refused
abbrev pub FitsLanding : Commit → Landing → Type 0
FitsLanding deed (Ended put) = FitsPut deed put
FitsLanding deed (Missing id) = ⊤

-- a put that isn't listed is refused before anything is begun, and none else is refused so
abbrev pub ChecksLanding : Landing → Result Committed SlotFault → Type 0
ChecksLanding (Ended put) answer = (id : VersionId) → answer ≡ Err (NotInFlight id) → ⊥
ChecksLanding (Missing put) answer = NothingBegun answer × ((id : VersionId) → answer ≡ Err (NotInFlight id) → id ≡ put)

-- an entry with another deed, and the change that was completed first
abbrev pub entry_with : Entry → Deed → Option ChangeId → Entry
entry_with entry deed late = record { ticket = entry.ticket; late = late; name = entry.name; deed = deed }

-- the entry that an outcome makes of one that says that nothing was done
abbrev pub entry_from : Entry → Outcome → Option Entry
entry_from entry (Done tale late) = Some (entry_with entry (deed_told (Done tale late)) late)
entry_from entry (Begun tale change late fault) = Some (entry_with entry (deed_told (Begun tale change late fault)) late)
entry_from entry (Kept fault) = Some (entry_with entry entry.deed None)
entry_from entry LacksMemory = None

-- an outcome has its tale in two copies
abbrev pub IsTwice : Outcome → Type 0
IsTwice (Done tale late) = tale.stub ≡ tale.audit
IsTwice (Begun tale change late fault) = tale.stub ≡ tale.audit
IsTwice (Kept fault) = ⊤
IsTwice LacksMemory = ⊤

-- why a deed is refused by the state of its key
abbrev pub fault_of : Option KeyRefusal → Option SlotFault
fault_of None = None
fault_of (Some why) = Some (KeyFault why)
