-- The laws of the commit protocol, over all lists of lanes, where w lanes must take a write and d must answer a read.
use Rattle.std.specs.Prelude.{◌≡◌, ◌≢◌, ◌⊎◌, ℕ, ◌+◌, ◌<◌, ◌≤◌, Bool, false, IsTrue, List, [], slice_index_or, length, map, replicate, count_by, Contains}
use Rattle.std.specs.Int.{IsBitSet}
use Rattle.drive_base.specs.DriveSet.{count_in}
use Rattle.vote_core.specs.Row.{is_good}
use Rattle.vote_core.specs.Lane.{Base, Next, Lane, HasNext, HasRecord, lane_at, blank_lane, has_base_of}
use Rattle.vote_core.specs.Sound.{LanesAreDrawn, IsLive, HoldsValue}
use Rattle.vote_core.specs.Calm.{IsCalm}
use Rattle.vote_core.specs.History.{IsDead}
use Rattle.vote_core.specs.Section.{Section, SectionLeaves}
use Rattle.vote_core.specs.Shown.{ShowsLane, ShowLanes, Overlap, FindsPending, FindsSettled}
use Rattle.vote_core.specs.Loops.{Leaves, LeavesAt, Have, AtLeastHave, prepared, marked, mended, Stands, BallotsAreBelow, IsFreshBallot, IsFreshChange, IsOwn, IsAgain, IsPrepared}
use Rattle.vote_core.specs.Verdict.{VerdictRule, good_rows, row_at}
use Rattle.vote_core.specs.declared.row.Row.{Row}
use Rattle.vote_core.specs.declared.verdict.Verdict.{Verdict}
use Rattle.vote_core.specs.declared.verdict.Verdict.TheVariants.{Settled, Pending}

-- the rows have one verdict
abbrev pub OneVerdict : Type 0
OneVerdict = (w d : ℕ) (rows : List Row) (one other : Verdict) → VerdictRule w d rows one → VerdictRule w d rows other → one ≡ other

-- a verdict that is settled on a lane has read the value there
abbrev pub SettledIsTheValue : Type 0
SettledIsTheValue = (w d last c : ℕ) (content : List ℕ) (lanes : List Lane) (rows : List Row) (lane : ℕ)
    → Overlap (length lanes) w d → HoldsValue w last lanes c content → ShowLanes rows lanes
    → VerdictRule w d rows (Settled lane)
    → FindsSettled rows lanes c content lane

-- a verdict that is pending has found the value's change on its way, or one that may become the value over the value's base
abbrev pub PendingIsFound : Type 0
PendingIsFound = (w d last c : ℕ) (content : List ℕ) (lanes : List Lane) (rows : List Row) (base_lane lane k u : ℕ)
    → Overlap (length lanes) w d → HoldsValue w last lanes c content → ShowLanes rows lanes
    → VerdictRule w d rows (Pending base_lane lane k u)
    → (next : Next) × FindsPending rows lanes c base_lane lane next

-- a prepare of one's own over a base that carries the value's change leaves the value
abbrev pub PrepareKeeps : Type 0
PrepareKeeps = (w last later c : ℕ) (content : List ℕ) (lanes new : List Lane) (base : Base) (next : Next)
    → last ≤ later → HoldsValue w last lanes c content → Stands lanes base → base.change ≡ c → IsOwn later lanes c next
    → Leaves (prepared base next) lanes new
    → HoldsValue w later new c content × IsPrepared new c base next

-- the prepare of a forward, on lanes whose row was good, leaves the value
abbrev pub ForwardKeeps : Type 0
ForwardKeeps = (w last later c : ℕ) (content : List ℕ) (lanes new : List Lane) (rows : List Row) (base_lane lane : ℕ) (found next : Next)
    → last ≤ later → HoldsValue w last lanes c content → FindsPending rows lanes c base_lane lane found
    → IsAgain later lanes (lane_at lanes base_lane).base found next
    → LeavesAt (map is_good rows) (prepared (lane_at lanes base_lane).base next) lanes new
    → HoldsValue w later new c content × IsPrepared new c (lane_at lanes base_lane).base next

-- marks on lanes that took the prepare, of which there are at least w, leave the value or make the change's content the value
abbrev pub MarkKeeps : Type 0
MarkKeeps = (w last c : ℕ) (content : List ℕ) (lanes new : List Lane) (base : Base) (next : Next) (took : List Bool)
    → 1 ≤ w → HoldsValue w last lanes c content → IsPrepared lanes c base next
    → AtLeastHave w took (prepared base next) lanes → LeavesAt took (marked next) lanes new
    → HoldsValue w last new c content ⊎ HoldsValue w last new next.change next.content

-- where w of these marks succeeded the change's content is the value, its base stands, at least w lanes have a base that carries it, and where it is
-- another change than the value's was, the register is calm
abbrev pub MarkSettles : Type 0
MarkSettles = (w last c : ℕ) (content : List ℕ) (lanes new : List Lane) (base : Base) (next : Next) (took done : List Bool)
    → 1 ≤ w → HoldsValue w last lanes c content → IsPrepared lanes c base next
    → AtLeastHave w took (prepared base next) lanes → LeavesAt took (marked next) lanes new
    → AtLeastHave w done (marked next) new
    → HoldsValue w last new next.change next.content × Stands new (marked next).base × (w ≤ count_by (has_base_of next.change) new)
    × (next.change ≢ c → IsCalm w new next.change)

-- a mend to a base that carries the value's change leaves the value
abbrev pub MendKeeps : Type 0
MendKeeps = (w last c : ℕ) (content : List ℕ) (lanes new : List Lane) (base : Base)
    → HoldsValue w last lanes c content → Stands lanes base → base.change ≡ c → Leaves (mended base) lanes new
    → HoldsValue w last new c content

-- a fresh ballot stays fresh through a loop whose record is below it
abbrev pub FreshBallotStays : Type 0
FreshBallotStays = (last ballot : ℕ) (lanes new : List Lane) (x : Lane)
    → IsFreshBallot last lanes ballot → BallotsAreBelow ballot x → Leaves x lanes new
    → IsFreshBallot last new ballot

-- a fresh change stays fresh through a loop whose record doesn't carry it
abbrev pub FreshChangeStays : Type 0
FreshChangeStays = (c : ℕ) (lanes new : List Lane) (x : Lane)
    → IsFreshChange lanes c → x.base.change ≢ c → ((next : Next) → HasNext x next → next.change ≢ c) → Leaves x lanes new
    → IsFreshChange new c

-- a number above the last one drawn is a fresh ballot and a fresh change, for every register
abbrev pub AboveLastIsFresh : Type 0
AboveLastIsFresh = (last later number : ℕ) (lanes : List Lane) → LanesAreDrawn last lanes → last < number → number ≤ later
    → IsFreshBallot later lanes number × IsFreshChange lanes number

-- the numbers of each lane's file stay lawful through a prepare, also where the lanes are not sound
abbrev pub PrepareStaysDrawn : Type 0
PrepareStaysDrawn = (last later : ℕ) (lanes new : List Lane) (base : Base) (next : Next)
    → last ≤ later → LanesAreDrawn last lanes → Stands lanes base
    → next.parent ≡ base.change → base.ballot < next.ballot → next.change ≤ next.ballot → next.ballot ≤ later
    → Leaves (prepared base next) lanes new
    → LanesAreDrawn later new

-- and through a mark of what some lane took
abbrev pub MarkStaysDrawn : Type 0
MarkStaysDrawn = (last : ℕ) (lanes new : List Lane) (base : Base) (next : Next)
    → LanesAreDrawn last lanes → Contains lanes (prepared base next) → Leaves (marked next) lanes new
    → LanesAreDrawn last new

-- and through a mend
abbrev pub MendStaysDrawn : Type 0
MendStaysDrawn = (last : ℕ) (lanes new : List Lane) (base : Base)
    → LanesAreDrawn last lanes → Stands lanes base → Leaves (mended base) lanes new
    → LanesAreDrawn last new

-- on a calm register any d good rows are settled
abbrev pub CalmSettles : Type 0
CalmSettles = (w d last c : ℕ) (content : List ℕ) (lanes : List Lane) (rows : List Row) (verdict : Verdict)
    → Overlap (length lanes) w d → HoldsValue w last lanes c content → IsCalm w lanes c → ShowLanes rows lanes → d ≤ good_rows rows
    → VerdictRule w d rows verdict
    → (lane : ℕ) × (verdict ≡ Settled lane)

-- a mend leaves a calm register calm
abbrev pub MendStaysCalm : Type 0
MendStaysCalm = (w last c : ℕ) (content : List ℕ) (lanes new : List Lane) (base : Base)
    → HoldsValue w last lanes c content → IsCalm w lanes c → Stands lanes base → base.change ≡ c → Leaves (mended base) lanes new
    → IsCalm w new c

-- a dead change is never pending
abbrev pub DeadIsNeverPending : Type 0
DeadIsNeverPending = (w d last c : ℕ) (content : List ℕ) (lanes : List Lane) (rows : List Row) (base_lane lane k u dead : ℕ)
    → Overlap (length lanes) w d → HoldsValue w last lanes c content → ShowLanes rows lanes → IsDead lanes c dead
    → VerdictRule w d rows (Pending base_lane lane k u)
    → (next : Next) → HasNext (lane_at lanes lane) next → next.change ≢ dead

-- a dead change stays dead through each loop whose record has no next that carries it
abbrev pub DeadStaysDead : Type 0
DeadStaysDead = (c dead : ℕ) (lanes new : List Lane) (x : Lane)
    → IsDead lanes c dead → ((next : Next) → HasNext x next → next.change ≢ dead) → Leaves x lanes new
    → IsDead new c dead

-- once another change than the value's is marked, every change but that one is dead
abbrev pub MarkKills : Type 0
MarkKills = (w last c dead : ℕ) (content : List ℕ) (lanes new : List Lane) (base : Base) (next : Next)
    → HoldsValue w last lanes c content → IsPrepared lanes c base next → next.change ≢ c → Leaves (marked next) lanes new → dead ≢ next.change
    → IsDead new next.change dead

-- every section keeps the lanes sound. It leaves the value or makes its change's content the value, once and for all: what was the value is dead then,
-- and what is dead stays so
abbrev pub SectionKeeps : Type 0
SectionKeeps = (w d last later c : ℕ) (content : List ℕ) (lanes new : List Lane) (base : Base) (next : Next)
    → 1 ≤ w → Overlap (length lanes) w d → last ≤ later → HoldsValue w last lanes c content
    → Section w d later lanes c new base next
    → SectionLeaves w later lanes c content new next

-- on sound lanes a next of another change than the value's, over a base that carries the value's change, may become the value
abbrev pub LiveIs : Type 0
LiveIs = (w last c : ℕ) (content : List ℕ) (lanes : List Lane) (a : Lane) (next : Next) → HoldsValue w last lanes c content
    → Contains lanes a → HasNext a next → a.base.change ≡ c → next.change ≢ c
    → IsLive lanes c a next

-- what may become the value after a loop could so before, or the loop wrote it
abbrev pub LiveIsOldOrOwn : Type 0
LiveIsOldOrOwn = (w last c : ℕ) (content : List ℕ) (lanes new : List Lane) (x a : Lane) (next : Next) → HoldsValue w last lanes c content
    → Leaves x lanes new → Contains new a → HasNext a next → IsLive new c a next
    → (Contains lanes a × IsLive lanes c a next) ⊎ (a ≡ x)

-- once another change than the value's is marked, nothing may become the value
abbrev pub MarkLeavesNoneLive : Type 0
MarkLeavesNoneLive = (c : ℕ) (lanes new : List Lane) (base : Base) (next other : Next) (a : Lane)
    → IsPrepared lanes c base next → next.change ≢ c → Leaves (marked next) lanes new → Contains new a → HasNext a other
    → ¬ IsLive new next.change a other

-- lanes that pass a test and lanes of a set have one in common, where together they are more than the lanes
abbrev pub QuorumsMeet : Type 0
QuorumsMeet = (test : Lane → Bool) (set : ℕ) (lanes : List Lane) → length lanes < count_by test lanes + count_in set (length lanes)
    → (k : ℕ) × (k < length lanes) × IsBitSet set k × IsTrue (test (lane_at lanes k))

-- of any d lanes one has a record of the value, in its base or its next
abbrev pub ValueIsMet : Type 0
ValueIsMet = (w d last c set : ℕ) (content : List ℕ) (lanes : List Lane) → Overlap (length lanes) w d → HoldsValue w last lanes c content
    → d ≤ count_in set (length lanes)
    → (k : ℕ) × (k < length lanes) × IsBitSet set k × HasRecord (lane_at lanes k) c content

-- where any w lanes meet any other w, and w lanes at least keep no file, the value is the empty one, and every lane may be taken for one without a file
abbrev pub UnlistedIsBlank : Type 0
UnlistedIsBlank = (w last c set : ℕ) (content : List ℕ) (lanes : List Lane) → length lanes < w + w → HoldsValue w last lanes c content
    → ((k : ℕ) → k < length lanes → IsBitSet set k → lane_at lanes k ≡ blank_lane) → w ≤ count_in set (length lanes)
    → (c ≡ 0) × (content ≡ []) × HoldsValue w last (replicate (length lanes) blank_lane) 0 []

-- lanes that keep no file hold the empty content, made by no change, and are calm
abbrev pub FreshIsCalm : Type 0
FreshIsCalm = (n w last : ℕ) → 1 ≤ n → w ≤ n
    → HoldsValue w last (replicate n blank_lane) 0 [] × IsCalm w (replicate n blank_lane) 0

-- sound lanes have one value
abbrev pub OneValue : Type 0
OneValue = (w last c w' last' c' : ℕ) (content content' : List ℕ) (lanes : List Lane)
    → HoldsValue w last lanes c content → HoldsValue w' last' lanes c' content'
    → (c ≡ c') × (content ≡ content')

-- and keep it while numbers are drawn
abbrev pub DrawingKeeps : Type 0
DrawingKeeps = (w last later c : ℕ) (content : List ℕ) (lanes : List Lane)
    → last ≤ later → HoldsValue w last lanes c content → HoldsValue w later lanes c content

-- rows show lanes that they show place by place
abbrev pub ShownByPlaces : Type 0
ShownByPlaces = (rows : List Row) (lanes : List Lane) → length rows ≡ length lanes
    → ((k : ℕ) → k < length lanes → ShowsLane (row_at rows k) (lane_at lanes k))
    → ShowLanes rows lanes

-- what a loop leaves, place by place
abbrev pub LeftByPlaces : Type 0
LeftByPlaces = (x : Lane) (lanes new : List Lane) → length new ≡ length lanes
    → ((k : ℕ) → k < length lanes → (lane_at new k ≡ lane_at lanes k) ⊎ (lane_at new k ≡ x))
    → Leaves x lanes new

-- what a loop over targets leaves, place by place
abbrev pub LeftAtByPlaces : Type 0
LeftAtByPlaces = (targets : List Bool) (x : Lane) (lanes new : List Lane) → length targets ≡ length lanes → length new ≡ length lanes
    → ((k : ℕ) → k < length lanes → (lane_at new k ≡ lane_at lanes k) ⊎ (IsTrue (slice_index_or targets k false) × (lane_at new k ≡ x)))
    → LeavesAt targets x lanes new

-- a lane after a loop was there before, or has the loop's record
abbrev pub LeftMembers : Type 0
LeftMembers = (x : Lane) (lanes new : List Lane) (a : Lane) → Leaves x lanes new → Contains new a → Contains lanes a ⊎ (a ≡ x)

-- which lanes have a record, place by place
abbrev pub HadByPlaces : Type 0
HadByPlaces = (mask : List Bool) (x : Lane) (lanes : List Lane) → length mask ≡ length lanes
    → ((k : ℕ) → k < length lanes → IsTrue (slice_index_or mask k false) → lane_at lanes k ≡ x)
    → Have mask x lanes
