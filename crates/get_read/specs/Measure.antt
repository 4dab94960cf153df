-- How many steps a reader has left at most, before it is done or refused.
use Rattle.std.specs.Prelude.{◌≡◌, ◌<◌, ◌+◌, ◌-◌, ◌*◌, ℕ, List, [], ◌∷◌, Option, Some, None, Result, Ok, Err, slice_index_or}
use Rattle.drive_base.specs.declared.plan.SetPlan.{SetPlan}
use Rattle.get_read.specs.Progress.{next_table}
use Rattle.get_read.specs.Blocks.{all_bytes}
use Rattle.get_read.specs.Readers.{set_of}
use Rattle.get_read.specs.declared.faults.BodyFault.{BodyFault}
use Rattle.get_read.specs.declared.reader.Reader.{Reader}
use Rattle.get_read.specs.declared.reader.ReadStep.{ReadStep}
use Rattle.get_read.specs.declared.reader.ReadStep.TheVariants.{More, Piece, Done}
use Rattle.get_read.specs.declared.state.Asked.{Asked}
use Rattle.get_read.specs.declared.search.Search.{Search}
use Rattle.get_read.specs.declared.fetch.Fetching.{Fetching as FetchingRecord}
use Rattle.get_read.specs.declared.state.State.{State}
use Rattle.get_read.specs.declared.state.State.TheVariants.{Searching, Fetching, Ended, Refused}
use Rattle.get_read.specs.declared.window.Window.{Window}

-- a length that was told saves a call, and so does a table that is held
abbrev pub one_told : Option ℕ → ℕ
one_told None = 0
one_told (Some n) = 1

abbrev pub one_held : List ℕ → ℕ
one_held [] = 0
one_held (x ∷ more) = 1

-- two calls of each drive that is not tried, less what is saved at the next one
abbrev pub search_left : Search → ℕ
search_left search = 2 * ((set_of search.asked).drives - search.tried) - one_told search.size

-- so of a window
abbrev pub run_left : SetPlan → List (List ℕ) → Window → ℕ
run_left set tables window = 2 * (set.drives - window.tried) - one_held (slice_index_or tables window.tried [])

abbrev pub ahead_left : SetPlan → List (List ℕ) → Option Window → ℕ
ahead_left set tables None = 0
ahead_left set tables (Some window) = run_left set tables window

-- those of the window, and then those of its first stripe alone
abbrev pub alone_left : FetchingRecord → ℕ
alone_left fetching = 2 * ((set_of fetching.asked).drives - fetching.work.tried) - one_held (next_table fetching)

abbrev pub stripe_left : FetchingRecord → ℕ
stripe_left fetching = ahead_left (set_of fetching.asked) (all_bytes fetching.part.tables.items) fetching.ahead + alone_left fetching

-- the most steps of a stripe of what is asked for
abbrev pub steps_a_stripe : Asked → ℕ
steps_a_stripe asked = 4 * (set_of asked).drives + 1

-- the steps that a state has left, where each piece has one byte
abbrev pub state_left : State → ℕ
state_left (Searching search) = (search.asked.span.length + 1) * steps_a_stripe search.asked + search_left search
state_left (Fetching fetching) = (fetching.asked.wanted.reach - fetching.at) * steps_a_stripe fetching.asked + stripe_left fetching
state_left (Ended manifest) = 0
state_left (Refused fault) = 0

abbrev pub steps_left : Reader → ℕ
steps_left reader = state_left reader.state

-- the number falls at each step that leaves more to do, and is 0 after every other
abbrev pub Falls : Result ReadStep BodyFault → ℕ → ℕ → Type 0
Falls (Ok More) old new = new < old
Falls (Ok Piece) old new = new < old
Falls (Ok Done) old new = new ≡ 0
Falls (Err fault) old new = new ≡ 0

-- it falls where a search or a stripe goes on
abbrev pub FallsOn : {T : Type 0} → Result (Option T) BodyFault → ℕ → ℕ → Type 0
FallsOn (Ok None) old new = new < old
FallsOn (Ok (Some _)) old new = Unit {0}
FallsOn (Err fault) old new = Unit {0}
