use Rattle.version_list.proofs.PlaceLemmas.{places_stand}
use Rattle.version_list.proofs.places.place_laws.Goals as goal

pub returns : goal.returns
returns c = places_stand
