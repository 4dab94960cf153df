-- What a commit does: what its entry says, and what it leaves in the slot's memory.
use Rattle.std.specs.Prelude.{◌≡◌, ◌⊎◌, ⊤, ℕ, List, [], ◌++◌, Option, Some, None, MatchOption, Result, Ok, Err, Contains, ◌+◌, ◌≤◌, Vec, vec_capacity, vec_len}
use Rattle.stamp_id.specs.declared.stamp.ChangeId.{ChangeId}
use Rattle.stamp_id.specs.declared.version.VersionId.{VersionId}
use Rattle.call_types.specs.Refusals.{refusal_of}
use Rattle.call_types.specs.declared.act.Brief.TheVariants as brief
use Rattle.call_types.specs.declared.reply.Reply.TheVariants.{Refused as RefusedReply}
use Rattle.audit_trail.specs.declared.entry.Deed.{Deed}
use Rattle.audit_trail.specs.declared.entry.Deed.TheVariants.{Done, Refused, Kept}
use Rattle.audit_trail.specs.declared.entry.Entry.{Entry}
use Rattle.register_core.specs.declared.faults.QuorumFault.{QuorumFault}
use Rattle.register_core.specs.declared.faults.QuorumFault.TheVariants.{ReadQuorum, WriteQuorum, Undecided, NoMemory as NoMemoryQuorum}
use Rattle.version_list.specs.Gone.{gone_ids}
use Rattle.version_list.specs.declared.state.KeyState.{KeyState}
use Rattle.slot_history.specs.Contents.{NamedData, SpellsKey}
use Rattle.slot_history.specs.Names.{key_name}
use Rattle.slot_history.specs.Standing.{Flying}
use Rattle.slot_history.specs.State.{State, TakesOut}
use Rattle.slot_data.specs.Bringing.{GoOn, with_gone}
use Rattle.slot_data.specs.Disks.{Disks}
use Rattle.slot_data.specs.Holding.{Hands, Holding, IsInFlight}
use Rattle.slot_rules.specs.Deeds.{brings_of, call_of, name_of}
use Rattle.slot_rules.specs.declared.commit.Commit.TheVariants.{Key, Part, MakeBucket, SetMode}
use Rattle.slot_rules.specs.declared.commit.Commit.{Commit}
use Rattle.slot_rules.specs.declared.commit.Committed.{Committed}
use Rattle.slot_core.specs.declared.slot.SlotFault.{SlotFault}
use Rattle.slot_core.specs.declared.slot.SlotFault.TheVariants.{Quorum, Key as KeyFault, SeqSpent, AuditFailed, NoMemory, NotInFlight}
use Rattle.slot_core.specs.declared.holding.Flight.{Flight}

-- a put's flight comes with a deed that brings its data, and with no other
abbrev pub FitsFlight : Commit → Option Flight → Type 0
FitsFlight deed flight = MatchOption (brings_of deed) (flight ≡ None) (λ named. (f : Flight) × (flight ≡ Some f) × (f.id ≡ named.id))

-- what the entry of a commit says, by its answer: the call and its reply; where its own writes were refused that it began the change; else nothing
abbrev pub QuorumDeed : Commit → ℕ → QuorumFault → Deed → Type 0
QuorumDeed deed now (ReadQuorum _) done = done ≡ Kept
QuorumDeed deed now (WriteQuorum _) done = (done ≡ Kept) ⊎ ((change : ChangeId) × (done ≡ Refused change (call_of deed (Some change) now)))
QuorumDeed deed now (Undecided _ _ _) done = done ≡ Kept
QuorumDeed deed now NoMemoryQuorum done = ⊥

abbrev pub CommitDeed : Commit → ℕ → Result Committed SlotFault → Deed → Type 0
CommitDeed deed now (Ok made) done = (change : Option ChangeId) × (done ≡ Done (call_of deed change now) (brief.Answer made.done))
CommitDeed deed now (Err (Quorum fault)) done = QuorumDeed deed now fault done
CommitDeed deed now (Err (KeyFault why)) done = done ≡ Done (call_of deed None now) (brief.Answer (RefusedReply (refusal_of why)))
CommitDeed deed now (Err SeqSpent) done = ⊥
CommitDeed deed now (Err (AuditFailed _ _)) done = ⊥
CommitDeed deed now (Err NoMemory) done = ⊥
CommitDeed deed now (Err (NotInFlight _)) done = done ≡ Kept

-- the entry of a commit
pub record SaysCommit (deed : Commit) (now : ℕ) (answer : Result Committed SlotFault) (entry : Entry) : Type 0 where
  pub name_is : entry.name ≡ name_of deed
  pub deed_is : CommitDeed deed now answer entry.deed

-- a flight that was handed in isn't listed any more, whatever the answer; where it wasn't listed, or none was, all go on
abbrev pub FlightEnds : Option Flight → List Flying → List Flying → Type 0
FlightEnds None old new = new ≡ old
FlightEnds (Some flight) old new = ((f : Flying) × (f.id ≡ flight.id) × TakesOut f old new) ⊎ ((IsInFlight old flight.id → ⊥) × (new ≡ old))

-- what a commit leaves in memory: its flight ends, and where it was done the data that its key doesn't name any more is trash
abbrev pub GoneByAnswer : Result Committed SlotFault → List VersionId → Type 0
GoneByAnswer (Ok _) gone = ⊤
GoneByAnswer (Err _) gone = gone ≡ []

-- so the trash grows by an answer
abbrev pub TrashGrows : Result Committed SlotFault → List VersionId → List VersionId → Type 0
TrashGrows answer old new = (more : List VersionId) × (new ≡ old ++ more) × GoneByAnswer answer more

-- the trash keeps its capacity, and gets so many more at most
pub record TrashFits {Y : Type 0} (more : ℕ) (old new : Vec VersionId Y) : Type 0 where
  pub capacity : vec_capacity new ≡ vec_capacity old
  pub len : vec_len new ≤ vec_len old + more

pub record CommitHolds (flight : Option Flight) (answer : Result Committed SlotFault) (old new : Holding) : Type 0 where
  pub rest : List Flying
  pub ends : FlightEnds flight old.flights rest
  pub gone : List VersionId
  pub gone_is : GoneByAnswer answer gone
  pub holds : new ≡ with_gone old rest gone

-- what a commit that was done shows of the states before and after it: which data is trash. It is the data ids, in the order of the old versions, that
-- no new version of the key has; the deed of a bucket or of a part leaves none
abbrev pub DeedTrash : Commit → State → State → List VersionId → List VersionId → Type 0
DeedTrash (Key at mode act) before after old new = (state later : KeyState) → SpellsKey (before.registers (key_name at)).content state
    → SpellsKey (after.registers (key_name at)).content later → new ≡ old ++ gone_ids state.versions later.versions
DeedTrash (Part at upload number part) before after old new = new ≡ old
DeedTrash (MakeBucket bucket) before after old new = new ≡ old
DeedTrash (SetMode bucket mode) before after old new = new ≡ old

abbrev pub ShowsTrash : Commit → Result Committed SlotFault → List VersionId → List VersionId → State → State → Type 0
ShowsTrash deed (Ok _) old new before after = DeedTrash deed before after old new
ShowsTrash deed (Err _) old new before after = Unit {0}

-- ops that commit a deed know that the data which it brings has its holders, for the deed's register, and rely afterwards on what is still listed
pub record MayCommitData (deed : Commit) (held_new : Holding) (disks : Disks) (hands later : Hands) : Type 0 where
  pub known : (named : NamedData) → brings_of deed ≡ Some named → Contains hands.known (record { named = named; name = name_of deed })
  pub goes_on : GoOn hands later held_new

-- a commit that was refused before it looked: nothing was begun
abbrev pub NothingBegun : Result Committed SlotFault → Type 0
NothingBegun (Ok _) = ⊥
NothingBegun (Err (Quorum _)) = ⊥
NothingBegun (Err (KeyFault _)) = ⊥
NothingBegun (Err SeqSpent) = ⊤
NothingBegun (Err (AuditFailed _ _)) = ⊤
NothingBegun (Err NoMemory) = ⊤
NothingBegun (Err (NotInFlight _)) = ⊤

-- a flight that isn't listed is refused before anything is looked at, and none else is refused so
pub record ChecksFlight (flight : Option Flight) (held : Holding) (answer : Result Committed SlotFault) : Type 0 where
  pub unlisted : (f : Flight) → flight ≡ Some f → (IsInFlight held.flights f.id → ⊥) → NothingBegun answer
  pub refused : (id : VersionId) → answer ≡ Err (NotInFlight id) → ((f : Flight) × (flight ≡ Some f) × (f.id ≡ id)) × (IsInFlight held.flights id → ⊥)
