-- The rows of a slot's memory, and the tests of what stands in them.
use Rattle.std.specs.Prelude.{◌≡◌, ◌↔◌, Bool, true, List, map}
use Rattle.std.specs.List.{list_any}
use Rattle.stamp_id.specs.declared.version.VersionId.{VersionId}
use Rattle.version_list.specs.Naming.{same_id}
use Rattle.slot_history.specs.Standing.{Flying}
use Rattle.slot_data.specs.Holding.{IsInFlight, IsPinned, Pinned, Purpose}
use Rattle.slot_data.specs.Holding.Purpose.{ForComplete, ForHeal, ForRead}
use Rattle.slot_data.specs.declared.rows.FlightRow.{FlightRow}
use Rattle.slot_data.specs.declared.rows.PinFor.{PinFor}
use Rattle.slot_data.specs.declared.rows.PinFor.TheVariants.{Read, Heal, Complete}
use Rattle.slot_data.specs.declared.rows.PinRow.{PinRow}

-- the put of a row
abbrev pub flying_of : FlightRow → Flying
flying_of row = record { id = row.id; name = row.name }

-- what a pin is for
abbrev pub purpose_of : PinFor → Purpose
purpose_of Read = ForRead
purpose_of Heal = ForHeal
purpose_of Complete = ForComplete

-- the pin of a row
abbrev pub pinned_of : PinRow → Pinned
pinned_of row = record { ticket = row.ticket; purpose = purpose_of row.purpose; name = row.name; ids = row.ids.items }

-- whether the put of a row has this id
abbrev pub flies : VersionId → FlightRow → Bool
flies id row = same_id row.id id

-- whether an id is this one
abbrev pub is_id : VersionId → VersionId → Bool
is_id id other = same_id other id

-- whether the pin of a row names this id
abbrev pub pin_names : VersionId → PinRow → Bool
pin_names id row = list_any (is_id id) row.ids.items

-- a test of rows finds exactly the puts under way
abbrev pub FlightsAreFound : Type 0
FlightsAreFound = (rows : List FlightRow) (id : VersionId) → (list_any (flies id) rows ≡ true) ↔ IsInFlight (map flying_of rows) id

-- a test of rows finds exactly what is pinned
abbrev pub PinsAreFound : Type 0
PinsAreFound = (rows : List PinRow) (id : VersionId) → (list_any (pin_names id) rows ≡ true) ↔ IsPinned (map pinned_of rows) id
