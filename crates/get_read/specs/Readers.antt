-- What a reader's state says of its account, and what one step adds to that.
use Rattle.std.specs.Prelude.{◌≡◌, ◌⊎◌, ◌<◌, ◌≤◌, ◌+◌, ℕ, Bool, true, false, List, [], ◌∷◌, ◌++◌, Option, Some, Result, Ok, Err, length, slice_index_or}
use Rattle.std.specs.Int.{IsBitSet}
use Rattle.stamp_id.specs.declared.version.VersionId.{VersionId}
use Rattle.call_types.specs.declared.names.Span.{Span}
use Rattle.call_types.specs.Good.{good_count}
use Rattle.call_types.specs.declared.why.Why.{Why}
use Rattle.call_types.specs.declared.why.Why.TheVariants.{Good}
use Rattle.drive_base.specs.Calls.{Sized}
use Rattle.drive_base.specs.Plan.{data_drives}
use Rattle.drive_base.specs.View.{views}
use Rattle.drive_base.specs.declared.drive.Drive.{Ghosts}
use Rattle.drive_base.specs.declared.plan.SetPlan.{SetPlan}
use Rattle.manifest_file.specs.declared.manifest.TheConstants.{LONGEST_FILE}
use Rattle.manifest_file.specs.declared.manifest.Manifest.{Manifest}
use Rattle.manifest_file.specs.declared.manifest.ManifestPart.{ManifestPart}
use Rattle.body_print.specs.Names.{manifest_name}
use Rattle.get_read.specs.Account.{Account, AreInUse, OthersStay, Stands, WasCalled}
use Rattle.get_read.specs.Causes.{Wanted}
use Rattle.get_read.specs.Given.{AreOfSpanIn, IsFoundIn}
use Rattle.get_read.specs.Blocks.{IsRow, all_bytes, block_at, row_at, stored_at}
use Rattle.get_read.specs.Letters.{IsBlockIn, IsTableIn, NoBlockOf, NoManifestOf}
use Rattle.get_read.specs.Outcomes.{wanted_of}
use Rattle.get_read.specs.Refusing.{FewBlocksIn, NoneServesIn}
use Rattle.get_read.specs.declared.blocks.Blocks.{Blocks}
use Rattle.get_read.specs.States.{manifest_in}
use Rattle.get_read.specs.Windows.{AreAhead}
use Rattle.get_read.specs.declared.faults.BodyFault.{BodyFault}
use Rattle.get_read.specs.declared.faults.BodyFault.TheVariants.{InvalidRange, ShardQuorum, NoMemory}
use Rattle.get_read.specs.declared.reader.Reader.{Reader}
use Rattle.get_read.specs.declared.reader.ReadStep.{ReadStep}
use Rattle.get_read.specs.declared.reader.ReadStep.TheVariants.{More, Piece, Done}
use Rattle.get_read.specs.declared.state.Asked.{Asked}
use Rattle.get_read.specs.declared.search.Search.{Search}
use Rattle.get_read.specs.declared.state.PartWork.{PartWork}
use Rattle.get_read.specs.declared.state.StripeWork.{StripeWork}
use Rattle.get_read.specs.declared.fetch.Fetching.{Fetching as FetchingRecord}
use Rattle.get_read.specs.declared.state.State.{State}
use Rattle.get_read.specs.declared.state.State.TheVariants.{Searching, Fetching, Ended, Refused}

-- what is asked for, in plain words: the set, the print, and what a manifest must have
abbrev pub set_of : Asked → SetPlan
set_of asked = asked.wanted.set

abbrev pub wants : Asked → Wanted
wants asked = wanted_of asked.wanted.set asked.wanted.print asked.wanted.reach

-- the calls of a reader: those up to its last turn, which is the finding of the manifest or the last piece, and those since
pub record Told : Type 0 where
  pub before : Account
  pub since : Account

-- all calls
abbrev pub all_calls : Told → Account
all_calls told = told.before ++ told.since

-- with the calls of one step, after which the reader turns or not
abbrev pub told_after : Bool → Told → Account → Told
told_after true told calls = record { before = all_calls told ++ calls; since = [] }
told_after false told calls = record { before = told.before; since = told.since ++ calls }

-- a search for the manifest stands so by these calls, with so many drives tried: each of these has its cause, and the length of the next one's file was told
pub record IsSearch (asked : Asked) (tried : ℕ) (size : Option ℕ) (whys : List Why) (calls : Account) : Type 0 where
  pub tried_so : (k : ℕ) → k < tried → NoManifestOf (wants asked) asked.id (set_of asked).out calls k (slice_index_or whys k Good)
  pub next_in_use : tried < (set_of asked).drives → IsBitSet (set_of asked).out tried → ⊥
  pub sized : (n : ℕ) → size ≡ Some n → (n ≤ LONGEST_FILE) × Stands calls tried (Sized (manifest_name asked.id) n)

abbrev pub IsSearchOf : Search → Account → Type 0
IsSearchOf search calls = IsSearch search.asked search.tried search.size search.whys calls

-- what is held of each drive: nothing, or a digest table that it showed
abbrev pub AreTablesOf : ℕ → ManifestPart → List (List ℕ) → Account → Type 0
AreTablesOf d part tables calls = (k : ℕ) → k < length tables → (slice_index_or tables k [] ≡ [])
    ⊎ IsTableIn d part (slice_index_or part.roots k []) calls k (slice_index_or tables k [])

-- the stripe of this number of a part stands so by these calls, with these blocks at hand and so many drives tried: each block was shown since the reader turned
-- to it, with a digest that a table has, and each drive that is tried gave such a block, or has its cause
pub record IsStripe (set : SetPlan) (part : ManifestPart) (i size : ℕ) (found : Blocks) (tried : ℕ) (whys : List Why) (calls since : Account) : Type 0 where
  pub each : (j : ℕ) → j < length found.rows.items
      → IsBlockIn (data_drives set.drives set.parity) part i (slice_index_or part.roots (row_at found j) []) calls since
      (row_at found j) (stored_at found j) (block_at size found j)
  pub rows_in_use : (j : ℕ) → j < length found.rows.items → IsBitSet set.out (row_at found j) → ⊥
  pub tried_so : (k : ℕ) → k < tried → IsRow found k
      ⊎ NoBlockOf (data_drives set.drives set.parity) part i (slice_index_or part.roots k []) set.out calls since k (slice_index_or whys k Good)
  pub next_in_use : tried < set.drives → IsBitSet set.out tried → ⊥
  pub sum : good_count whys + tried ≡ length found.rows.items + set.drives

abbrev pub IsStripeOf : SetPlan → ManifestPart → StripeWork → Account → Account → Type 0
IsStripeOf set part work calls since = IsStripe set part work.stripe work.size work.found work.tried work.whys calls since

-- a manifest was found before the last turn, and a part of it is read, whose tables that are held were shown
pub record IsPartOf (asked : Asked) (manifest : Manifest) (work : PartWork) (before calls : Account) : Type 0 where
  pub part : ManifestPart
  pub part_is : (d : ManifestPart) → slice_index_or manifest.parts work.place d ≡ part
  pub found : IsFoundIn (wants asked) asked.id manifest before
  pub held : AreTablesOf (data_drives (set_of asked).drives (set_of asked).parity) part (all_bytes work.tables.items) calls

-- the reading of a stripe stands so by the reader's calls
pub record IsFetchOf (fetching : FetchingRecord) (told : Told) : Type 0 where
  pub is_part : IsPartOf fetching.asked fetching.manifest fetching.part told.before (all_calls told)
  pub stripe : IsStripeOf (set_of fetching.asked) is_part.part fetching.work (all_calls told) told.since
  pub ahead : AreAhead (set_of fetching.asked) is_part.part fetching.ahead (all_calls told)

-- why a reader refuses, after so many bytes were given: no drive gave a manifest that serves, before any byte was given, or too few gave a block of the stripe that
-- has the next byte
abbrev pub IsRefusedIn : Asked → BodyFault → Told → ℕ → Type 0
IsRefusedIn asked (InvalidRange _) told given = ⊥
IsRefusedIn asked (ShardQuorum whys) told given =
    (NoneServesIn (set_of asked) asked.wanted.print asked.id asked.wanted.reach whys (all_calls told) × (given ≡ 0))
    ⊎ FewBlocksIn (set_of asked) asked.wanted.print asked.id asked.wanted.reach (asked.span.at + given) whys told.before told.since
IsRefusedIn asked NoMemory told given = Unit {0}

-- a state stands so by the reader's calls, after so many bytes were given
abbrev pub IsStateOf : Asked → State → Told → ℕ → Type 0
IsStateOf asked (Searching search) told given = (search.asked ≡ asked) × (given ≡ 0) × IsSearchOf search (all_calls told)
IsStateOf asked (Fetching fetching) told given = (fetching.asked ≡ asked) × (fetching.at ≡ asked.span.at + given) × IsFetchOf fetching told
IsStateOf asked (Ended manifest) told given =
    (given ≡ asked.span.length) × IsFoundIn (wants asked) asked.id manifest (all_calls told)
IsStateOf asked (Refused fault) told given = IsRefusedIn asked fault told given

-- these may be the calls of a reader that is at a state, and these the bytes that it gave: no drive that is out was called, and what was given is of the
-- span of every body with the print, or there is a clash
pub record AreOfState (asked : Asked) (state : State) (told : Told) (given : List ℕ) : Type 0 where
  pub in_use : AreInUse (set_of asked).out (all_calls told)
  pub exact : AreOfSpanIn (set_of asked).drives (set_of asked).parity asked.wanted.print asked.span.at asked.wanted.reach given (all_calls told)
  pub is : IsStateOf asked state told (length given)

abbrev pub IsAccountOf : Reader → Told → List ℕ → Type 0
IsAccountOf reader told given = AreOfState reader.asked reader.state told given

-- the manifest that a reader tells was found by each account that it may have
abbrev pub TellsFound : Reader → Type 0
TellsFound reader = (told : Told) (given : List ℕ) (m : Manifest) → IsAccountOf reader told given → manifest_in reader.state ≡ Some m
    → IsFoundIn (wants reader.asked) reader.asked.id m (all_calls told)

-- what is asked of a reader, and that none of its calls is made
pub record Begins (set : SetPlan) (print : List ℕ) (id : VersionId) (span : Span) (reader : Reader) : Type 0 where
  pub set_is : reader.asked.wanted.set ≡ set
  pub print_is : reader.asked.wanted.print ≡ print
  pub id_is : reader.asked.id ≡ id
  pub span_is : reader.asked.span ≡ span
  pub reach_is : reader.asked.wanted.reach ≡ span.at + span.length
  pub none : IsAccountOf reader (record { before = []; since = [] }) []

-- the bytes that were given after a step, with its piece
abbrev pub given_after : Result ReadStep BodyFault → List ℕ → List ℕ → List ℕ
given_after (Ok More) piece given = given
given_after (Ok Piece) piece given = given ++ piece
given_after (Ok Done) piece given = given
given_after (Err fault) piece given = given

-- a step turns where it finds the manifest, and where it gives a piece
abbrev pub finds : State → State → Bool
finds (Searching _) (Searching _) = false
finds (Searching _) (Fetching _) = true
finds (Searching _) (Ended _) = true
finds (Searching _) (Refused _) = false
finds (Fetching _) new = false
finds (Ended _) new = false
finds (Refused _) new = false

abbrev pub turns : Result ReadStep BodyFault → State → State → Bool
turns (Ok More) old new = finds old new
turns (Ok Piece) old new = true
turns (Ok Done) old new = finds old new
turns (Err fault) old new = false

-- what a step answers, with its piece and all that was given: a piece is not empty and ends within the span, `Done` comes only with the whole span, after the manifest was found, and a
-- refusal has its cause in the calls
abbrev pub AnswersBy : Result ReadStep BodyFault → Asked → State → List ℕ → Told → List ℕ → Type 0
AnswersBy (Ok More) asked new piece told given = Unit {0}
AnswersBy (Ok Piece) asked new piece told given = (0 < length piece) × (length given ≤ asked.span.length)
AnswersBy (Ok Done) asked new piece told given = (length given ≡ asked.span.length)
    × ((m : Manifest) × (manifest_in new ≡ Some m) × IsFoundIn (wants asked) asked.id m (all_calls told))
AnswersBy (Err fault) asked new piece told given = IsRefusedIn asked fault told (length given)

-- a step after which more are due makes one call, and every other at most one
abbrev pub MakesCalls : Result ReadStep BodyFault → Account → Type 0
MakesCalls (Ok More) calls = length calls ≡ 1
MakesCalls (Ok Piece) calls = length calls ≤ 1
MakesCalls (Ok Done) calls = length calls ≤ 1
MakesCalls (Err fault) calls = length calls ≤ 1

-- a reader that was refused answers the same again, and one that is done is done
abbrev pub StaysSo : State → Result ReadStep BodyFault → State → Account → Type 0
StaysSo (Searching search) result new calls = Unit {0}
StaysSo (Fetching fetching) result new calls = Unit {0}
StaysSo (Ended manifest) result new calls = (result ≡ Ok Done) × (new ≡ Ended manifest) × (calls ≡ [])
StaysSo (Refused fault) result new calls = (result ≡ Err fault) × (new ≡ Refused fault) × (calls ≡ [])

module _ {D : Type 0} (ghosts : Ghosts D) where
  -- these are the calls of one step, at most one, and on the drives that it wasn't made on nothing is done
  abbrev pub AreCalls : ℕ → Account → List D → List D → Type 0
  AreCalls out [] before after = after ≡ before
  AreCalls out (call ∷ []) before after = WasCalled out call (views ghosts before) (views ghosts after) × OthersStay call.drive before after
  AreCalls out (one ∷ two ∷ more) before after = ⊥

  -- one step from a state to a state, with its piece: whatever calls a reader may have made before and whatever it gave, it has now made those of the step as
  -- well, and what it answers has its cause in them
  pub record StepsFrom (asked : Asked) (old new : State) (piece : List ℕ) (result : Result ReadStep BodyFault) (before after : List D) : Type 0 where
    pub calls : Account
    pub are : AreCalls (set_of asked).out calls before after
    pub made : MakesCalls result calls
    pub stays : StaysSo old result new calls
    pub goes_on : (told : Told) (given : List ℕ) → AreOfState asked old told given
        → AreOfState asked new (told_after (turns result old new) told calls) (given_after result piece given)
        × AnswersBy result asked new piece (told_after (turns result old new) told calls) (given_after result piece given)

  -- one step of a reader
  pub record Steps (old new : Reader) (result : Result ReadStep BodyFault) (before after : List D) : Type 0 where
    pub asked : new.asked ≡ old.asked
    pub step : StepsFrom old.asked old.state new.state new.piece.items result before after
