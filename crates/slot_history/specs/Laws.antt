-- The laws of a slot's history.
use Rattle.std.specs.Prelude.{◌≡◌, ◌≢◌, ◌⊎◌, ℕ, ◌<◌, ◌≤◌, List, [], ◌∷◌, ◌++◌, replicate, Contains}
use Rattle.stamp_id.specs.declared.version.VersionId.{VersionId}
use Rattle.audit_trail.specs.declared.entry.Entry.{Entry}
use Rattle.bucket_book.specs.Name.{IsBucketName}
use Rattle.call_types.specs.declared.names.Key.{Key}
use Rattle.version_list.specs.State.{AreDistinct}
use Rattle.vote_core.specs.Lane.{Lane, blank_lane}
use Rattle.vote_core.specs.Loops.{IsFreshChange}
use Rattle.slot_history.specs.Committing.{MayCommit}
use Rattle.slot_history.specs.Contents.{number_of_id}
use Rattle.slot_history.specs.Moving.{Runs}
use Rattle.slot_history.specs.Names.{bucket_name, key_name, part_name}
use Rattle.slot_history.specs.Sections.{IsOnItsWay, SectionMoves}
use Rattle.slot_history.specs.Standing.{Flying, Records, Stands}
use Rattle.slot_history.specs.State.{Changes, IsHeld, IsNew, State, Waiting, no_state}
use Rattle.slot_history.specs.Waiting.{IsLate, IsLawful}
use Rattle.register_caller.specs.WrittenLanes.{LeavesLanes, Written}
use Rattle.slot_history.specs.Writing.{WritesUnder}

-- names are of one kind
abbrev pub NamesDiffer : Type 0
NamesDiffer = (bucket : List ℕ) (at other : Key) (upload : VersionId) (number : ℕ)
    → (bucket_name bucket ≢ key_name at) × (bucket_name bucket ≢ part_name other upload number) × (key_name at ≢ part_name other upload number)

-- a bucket's name tells it
abbrev pub BucketNamesTell : Type 0
BucketNamesTell = (bucket other : List ℕ) → bucket_name bucket ≡ bucket_name other → bucket ≡ other

-- a key's name tells its bucket and its key, where the bucket has a name as buckets have: no slash stands in it. Of other texts `a/b` with `c` and `a`
-- with `b/c` have one name
abbrev pub KeyNamesTell : Type 0
KeyNamesTell = (at other : Key) → IsBucketName at.bucket → IsBucketName other.bucket → key_name at ≡ key_name other
    → (at.bucket ≡ other.bucket) × (at.key ≡ other.key)

-- a part's name tells its upload, the path of its key, and its number where that has five digits
abbrev pub PartNamesTell : Type 0
PartNamesTell = (at other : Key) (upload second : VersionId) (number more : ℕ) → part_name at upload number ≡ part_name other second more
    → (upload ≡ second) × (key_name at ≡ key_name other) × (number < 100000 → more < 100000 → number ≡ more)

-- a section moves the state, so its entry runs
abbrev pub SectionsRun : Type 0
SectionsRun = (slot : ℕ) (entry : Entry) (records_old records_new : Records) (old new : State)
    → SectionMoves slot entry records_old old records_new new → Runs slot (entry ∷ []) old new

-- runs join
abbrev pub RunsJoin : Type 0
RunsJoin = (slot : ℕ) (first second : List Entry) (old mid new : State) → Runs slot first old mid → Runs slot second mid new
    → Runs slot (first ++ second) old new

-- a run leads from a lawful state to a lawful one
abbrev pub RunsStayLawful : Type 0
RunsStayLawful = (slot : ℕ) (entries : List Entry) (old new : State) → IsLawful old → Runs slot entries old new → IsLawful new

-- what was applied stays so, and each change is applied once
abbrev pub AppliedOnce : Type 0
AppliedOnce = (slot : ℕ) (entries : List Entry) (old new : State) → IsLawful old → AreDistinct old.applied → Runs slot entries old new
    → ((more : List ℕ) × (new.applied ≡ more ++ old.applied)) × AreDistinct new.applied

-- a change that waits for another change than its name's last one is dead: it goes on waiting, and is never applied
abbrev pub DeadStaysDead : Type 0
DeadStaysDead = (slot : ℕ) (entries : List Entry) (old new : State) (p : Waiting) → IsLawful old → Runs slot entries old new
    → Contains old.pending p → p.parent ≢ (old.registers p.name).change
    → Contains new.pending p × (p.parent ≢ (new.registers p.name).change)

-- lanes without files stand for the state in which nothing was done
abbrev pub FreshStand : Type 0
FreshStand = (w drives last : ℕ) → 1 ≤ drives → 1 ≤ w → w ≤ drives → Stands w drives last [] (λ name. replicate drives blank_lane) no_state

-- numbers that are drawn, and puts that begin under them, leave what the lanes stand for
abbrev pub DrawingStands : Type 0
DrawingStands = (w drives last later : ℕ) (flights : List Flying) (records : Records) (state : State) → last ≤ later
    → Stands w drives last flights records state → Stands w drives later flights records state

abbrev pub FlightsBegin : Type 0
FlightsBegin = (w drives last : ℕ) (flights : List Flying) (flight : Flying) (records : Records) (state : State)
    → Stands w drives last flights records state → last < number_of_id flight.id
    → Stands w drives (number_of_id flight.id) (flights ++ flight ∷ []) records state

-- a put that is given up leaves it too
abbrev pub FlightsEnd : Type 0
FlightsEnd = (w drives last : ℕ) (flights rest : List Flying) (records : Records) (state : State) → ((f : Flying) → Contains rest f → Contains flights f)
    → Stands w drives last flights records state → Stands w drives last rest records state

-- what is on its way after a write was so before
abbrev pub OnlyTheOld : Records → State → Records → State → Type 0
OnlyTheOld old state new moved = (q : Waiting) → IsOnItsWay new moved q → IsOnItsWay old state q

-- or it is this change
abbrev pub OnlyTheOldOr : ℕ → Records → State → Records → State → Type 0
OnlyTheOldOr change old state new moved = (q : Waiting) → IsOnItsWay new moved q → IsOnItsWay old state q ⊎ (q.change ≡ change)

-- a change that is on its way is written again: the lanes stand for the same state, or for that after the late step
abbrev pub AgainStands : Type 0
AgainStands = (w drives last later : ℕ) (flights : List Flying) (old new : Records) (state : State)
    (p : Waiting) (x : Written) (after : List Lane) (now : ℕ) (shows : List ℕ)
    → 1 ≤ w → w ≤ drives → last ≤ later → Stands w drives last flights old state → (way : IsOnItsWay old state p)
    → x.change ≡ p.change → x.content ≡ p.content → x.adds ≡ way.next.adds
    → LeavesLanes w later x (old p.name) (state.registers p.name).change (state.registers p.name).content after now shows → WritesUnder p.name after old new
    → ((now ≡ (state.registers p.name).change) × Stands w drives later flights new state × OnlyTheOld old state new state)
    ⊎ ((now ≡ p.change) × ((moved : State) × IsLate p state moved × Stands w drives later flights new moved × OnlyTheOld old state new moved))

-- the change of the value is written again: the value stays, and the lanes stand for the same state
abbrev pub ValueStands : Type 0
ValueStands = (w drives last later : ℕ) (flights : List Flying) (old new : Records) (state : State)
    (name : List ℕ) (x : Written) (after : List Lane) (now : ℕ) (shows : List ℕ)
    → 1 ≤ w → w ≤ drives → last ≤ later → Stands w drives last flights old state → IsHeld state.registers name
    → x.change ≡ (state.registers name).change → x.content ≡ (state.registers name).content
    → LeavesLanes w later x (old name) (state.registers name).change (state.registers name).content after now shows → WritesUnder name after old new
    → (now ≡ (state.registers name).change) × Stands w drives later flights new state × OnlyTheOld old state new state

-- a change of one's own waits: the state after it
abbrev pub with_waiting : State → List ℕ → Written → State
with_waiting state name x = record {
  registers = state.registers;
  pending = record { change = x.change; name = name; parent = (state.registers name).change; content = x.content } ∷ state.pending;
  applied = state.applied;
}

-- a change of one's own is made: the state after it
pub record IsMade (name : List ℕ) (x : Written) (old new : State) : Type 0 where
  pub changes : Changes name (record { change = x.change; content = x.content }) old.registers new.registers
  pub pending : new.pending ≡ old.pending
  pub applied : new.applied ≡ x.change ∷ old.applied

-- no record carries a change of one's own that may be written
abbrev pub OwnIsFresh : Type 0
OwnIsFresh = (w drives last later : ℕ) (flights rest : List Flying) (old : Records) (state : State) (name : List ℕ) (x : Written)
    → Stands w drives last flights old state → MayCommit last later flights rest state name x → IsFreshChange (old name) x.change

-- a change of one's own is written: the lanes stand for the state in which it waits, or for that in which it is made. It was new before
abbrev pub OwnStands : Type 0
OwnStands = (w drives last later : ℕ) (flights rest : List Flying) (old new : Records) (state : State)
    (name : List ℕ) (x : Written) (after : List Lane) (now : ℕ) (shows : List ℕ)
    → 1 ≤ w → w ≤ drives → last ≤ later → Stands w drives last flights old state → MayCommit last later flights rest state name x
    → LeavesLanes w later x (old name) (state.registers name).change (state.registers name).content after now shows → WritesUnder name after old new
    → IsNew x.change state
    × (((now ≡ (state.registers name).change) × Stands w drives later rest new (with_waiting state name x) × OnlyTheOldOr x.change old state new (with_waiting state name x))
    ⊎ ((now ≡ x.change) × ((made : State) × IsMade name x state made × Stands w drives later rest new made × OnlyTheOld old state new made)))

-- the change that waits may also be applied at once: the state in which it is made is a late step after the one in which it waits
abbrev pub MadeIsLate : Type 0
MadeIsLate = (state made : State) (name : List ℕ) (x : Written) → IsMade name x state made
    → (p : Waiting) × (p.change ≡ x.change) × IsLate p (with_waiting state name x) made
