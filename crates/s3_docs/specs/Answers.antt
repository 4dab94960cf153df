-- What is answered.
use Rattle.std.specs.Prelude.{◌≡◌, ℕ, List, [], ◌∷◌, ◌++◌, Option, Some, None, Result, Ok, Err}
use Rattle.call_types.specs.declared.version.PartRef.{PartRef}
use Rattle.s3_docs.specs.declared.complete.PartsFault.{PartsFault}
use Rattle.s3_docs.specs.declared.complete.PartsFault.TheVariants.{Left, NoMemory}
use Rattle.s3_docs.specs.Machine.{State, Start, Between, After, Parts}
use Rattle.s3_docs.specs.declared.fault.DocFault.{DocFault}
use Rattle.s3_docs.specs.declared.fault.DocFault.TheVariants.{MalformedXML}
use Rattle.s3_docs.specs.declared.fault.DocFault.TheVariants as faults
use Rattle.s3_docs.specs.declared.prologue.Root.{Root}
use Rattle.s3_docs.specs.declared.prologue.Root.TheVariants.{CompleteMultipartUpload}
use Rattle.s3_docs.specs.Documents.{IsPlace}
use Rattle.s3_docs.specs.Reads.{Stops}

-- behind one more part, or behind the end tag of all
abbrev pub behind_part : List PartRef → Option PartRef → State
behind_part parts (Some part) = Between (parts ++ part ∷ [])
behind_part parts None = After (Parts parts)

-- The parts don't go on where so many bytes are left. It may lack memory.
abbrev pub StopsParts : List ℕ → PartsFault → Type 0
StopsParts text (Left left) = Stops (Between []) text left
StopsParts text NoMemory = Unit {0}

-- the same of a whole document
abbrev pub StopsDocument : List ℕ → PartsFault → Type 0
StopsDocument bytes (Left left) = Stops (Start CompleteMultipartUpload) bytes left
StopsDocument bytes NoMemory = Unit {0}

-- The fault is MalformedXML at the first byte at which no document goes on.
abbrev pub RefusesAt : Root → List ℕ → DocFault → Type 0
RefusesAt root bytes (MalformedXML place) = IsPlace root bytes place
RefusesAt root bytes other = ⊥

-- These parts are answered, or that memory is missing.
abbrev pub GivesParts : List PartRef → Result (List PartRef) DocFault → Type 0
GivesParts parts (Ok read) = read ≡ parts
GivesParts parts (Err fault) = fault ≡ faults.NoMemory

-- MalformedXML at this place is answered, or that memory is missing.
abbrev pub GivesPlace : ℕ → Result (List PartRef) DocFault → Type 0
GivesPlace place (Ok read) = ⊥
GivesPlace place (Err (MalformedXML found)) = found ≡ place
GivesPlace place (Err other) = Unit {0}
