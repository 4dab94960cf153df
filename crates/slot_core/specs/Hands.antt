-- What ops have in hand of data over a section.
use Rattle.std.specs.Prelude.{◌≡◌}
use Rattle.slot_data.specs.Disks.{Disks}
use Rattle.slot_data.specs.Holding.{Hands}

-- what ops have in hand stays
abbrev pub HandsStay : Disks → Hands → Hands → Type 0
HandsStay disks hands later = later ≡ hands
