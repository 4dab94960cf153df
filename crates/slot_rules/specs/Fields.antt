-- What the rows of a slot's memory keep.
use Rattle.std.specs.Prelude.{◌≢◌, ℕ, ◌<◌, List, length, slice_index_or}
use Rattle.slot_history.specs.Contents.{number_of_id}
use Rattle.slot_data.specs.declared.rows.FlightRow.{FlightRow}

-- the numbers of two puts under way differ
abbrev pub AreApart : List FlightRow → Type 0
AreApart rows = (i j : ℕ) (d : FlightRow) → i < j → j < length rows
    → number_of_id (slice_index_or rows i d).id ≢ number_of_id (slice_index_or rows j d).id
