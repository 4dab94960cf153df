-- What the state of a reader has.
use Rattle.std.specs.Prelude.{Option, Some, None}
use Rattle.manifest_file.specs.declared.manifest.Manifest.{Manifest}
use Rattle.get_read.specs.declared.state.Asked.{Asked}
use Rattle.get_read.specs.declared.state.State.{State}
use Rattle.get_read.specs.declared.state.State.TheVariants.{Searching, Fetching, Ended, Refused}

-- what a state is for, or this where it makes no more calls
abbrev pub asked_in : Asked → State → Asked
asked_in asked (Searching search) = search.asked
asked_in asked (Fetching fetching) = fetching.asked
asked_in asked (Ended manifest) = asked
asked_in asked (Refused fault) = asked

-- the manifest that was found, unless the reading was refused since
abbrev pub manifest_in : State → Option Manifest
manifest_in (Searching search) = None
manifest_in (Fetching fetching) = Some fetching.manifest
manifest_in (Ended manifest) = Some manifest
manifest_in (Refused fault) = None
