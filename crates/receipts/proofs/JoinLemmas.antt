-- The readings of two logs in a row, and of quiet events.
use Rattle.std.proofs.Common.{◌≡◌, ◌∙◌, [], map, Some, None, ap, refl}
use Rattle.std.proofs.lemmas.Grind.{flat_map-append}
use Rattle.std.proofs.lemmas.List.{map-append}
use Rattle.receipts.specs.Events.{Event, IsQuiet, IsUntold, Section, called_in, cut_in, section_in, sections_of, taken_in, told_in}
use Rattle.receipts.specs.Events.Event.{BarredFrom, Called, Fed, Told, Turned}
use Rattle.receipts.specs.Laws.{BodiesJoin, CallsJoin, CutsJoin, NotesJoin, SectionsJoin, TalesJoin}

pub sections_join : SectionsJoin
sections_join log more = flat_map-append section_in log more

pub notes_join : NotesJoin
notes_join log more = ap (map (λ (section : Section). section.note)) (sections_join log more)
    ∙ map-append (λ (section : Section). section.note) (sections_of log) (sections_of more)

pub bodies_join : BodiesJoin
bodies_join log more = flat_map-append taken_in log more

pub tales_join : TalesJoin
tales_join log more = flat_map-append told_in log more

pub cuts_join : CutsJoin
cuts_join log more = flat_map-append cut_in log more

pub calls_join : CallsJoin
calls_join k log more = flat_map-append (called_in k) log more

-- a quiet event adds to no reading
pub record IsSilent (event : Event) : Type 0 where
  pub section : section_in event ≡ []
  pub taken : taken_in event ≡ []
  pub told : told_in event ≡ []
  pub cut : cut_in event ≡ []
  pub untold : IsUntold event

pub quiet_is_silent : (event : Event) → IsQuiet event → IsSilent event
quiet_is_silent (Turned slot None shown) quiet = record { section = refl; taken = refl; told = refl; cut = refl; untold = tt }
quiet_is_silent (Turned slot (Some made) shown) quiet = absurd quiet
quiet_is_silent (BarredFrom slot why) quiet = record { section = refl; taken = refl; told = refl; cut = refl; untold = tt }
quiet_is_silent (Called drive made) quiet = record { section = refl; taken = refl; told = refl; cut = refl; untold = tt }
quiet_is_silent (Fed bytes cut) quiet = absurd quiet
quiet_is_silent (Told telling cut) quiet = absurd quiet
