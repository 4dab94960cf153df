-- The laws of a slot's data while its lanes are written.
use Rattle.std.specs.Prelude.{◌≡◌, ℕ, ◌≤◌, List, [], Contains}
use Rattle.stamp_id.specs.declared.version.VersionId.{VersionId}
use Rattle.call_types.specs.declared.names.Key.{Key}
use Rattle.drive_base.specs.Plan.{write_drives}
use Rattle.drive_base.specs.declared.plan.SetPlan.{SetPlan}
use Rattle.version_list.specs.Gone.{gone_ids}
use Rattle.version_list.specs.declared.state.KeyState.{KeyState}
use Rattle.vote_core.specs.Lane.{Lane}
use Rattle.slot_history.specs.Committing.{MayCommit}
use Rattle.slot_history.specs.Contents.{SpellsKey}
use Rattle.slot_history.specs.Laws.{IsMade, with_waiting}
use Rattle.slot_history.specs.Names.{key_name}
use Rattle.slot_history.specs.Sections.{IsOnItsWay}
use Rattle.slot_history.specs.Standing.{Flying, Records}
use Rattle.slot_history.specs.State.{IsHeld, IsNew, State, Waiting}
use Rattle.slot_history.specs.Waiting.{IsLate}
use Rattle.register_caller.specs.WrittenLanes.{LeavesLanes, Written}
use Rattle.slot_history.specs.Writing.{WritesUnder}
use Rattle.slot_data.specs.Bringing.{BringsData, GoOn, IsGone, MayEndOne, with_gone}
use Rattle.slot_data.specs.Disks.{Disks}
use Rattle.slot_data.specs.Holding.{Hands, Holding}
use Rattle.slot_data.specs.Moves.{LanesStand}
use Rattle.slot_data.specs.Standing.{DataStands}

-- a change of one's own was written and waits: the data goes on to stand, though its put has ended
abbrev pub OwnWaitsData : Type 0
OwnWaitsData = (set : SetPlan) (slot last later : ℕ) (old new : Records) (state : State) (holding : Holding) (rest : List Flying) (disks : Disks)
    (hands less : Hands) (name : List ℕ) (x : Written) (after : List Lane) (now : ℕ) (shows : List ℕ)
    → last ≤ later → LanesStand set last holding old state → MayCommit last later holding.flights rest state name x → IsNew x.change state
    → LeavesLanes (write_drives set.drives set.parity) later x (old name) (state.registers name).change (state.registers name).content after now shows
    → WritesUnder name after old new → now ≡ (state.registers name).change
    → MayEndOne holding.flights rest → BringsData slot holding.flights rest hands name x → GoOn hands less (with_gone holding rest [])
    → DataStands set slot last old state holding disks hands
    → DataStands set slot later new (with_waiting state name x) (with_gone holding rest []) disks less

-- it was made: the data goes on to stand, and what its key doesn't name any more may be trash
abbrev pub OwnMakesData : Type 0
OwnMakesData = (set : SetPlan) (slot last later : ℕ) (old new : Records) (state made : State) (holding : Holding) (rest : List Flying) (disks : Disks)
    (hands less : Hands) (name : List ℕ) (x : Written) (after : List Lane) (now : ℕ) (shows : List ℕ) (gone : List VersionId)
    → last ≤ later → LanesStand set last holding old state → MayCommit last later holding.flights rest state name x → IsNew x.change state
    → LeavesLanes (write_drives set.drives set.parity) later x (old name) (state.registers name).change (state.registers name).content after now shows
    → WritesUnder name after old new → now ≡ x.change → IsMade name x state made
    → MayEndOne holding.flights rest → BringsData slot holding.flights rest hands name x → GoOn hands less (with_gone holding rest gone)
    → ((id : VersionId) → Contains gone id → IsGone name (state.registers name).content x.content id)
    → DataStands set slot last old state holding disks hands
    → DataStands set slot later new made (with_gone holding rest gone) disks less

-- such is the data that a key's versions lack after a change
abbrev pub GoneIdsAreGone : Type 0
GoneIdsAreGone = (at : Key) (old new : List ℕ) (before after : KeyState) (id : VersionId) → SpellsKey old before → SpellsKey new after
    → Contains (gone_ids before.versions after.versions) id → IsGone (key_name at) old new id

-- the change of the value was written again: the data goes on to stand
abbrev pub ValueStaysData : Type 0
ValueStaysData = (set : SetPlan) (slot last later : ℕ) (old new : Records) (state : State) (holding : Holding) (disks : Disks) (hands : Hands)
    (name : List ℕ) (x : Written) (after : List Lane) (now : ℕ) (shows : List ℕ)
    → last ≤ later → LanesStand set last holding old state → IsHeld state.registers name
    → x.change ≡ (state.registers name).change → x.content ≡ (state.registers name).content
    → LeavesLanes (write_drives set.drives set.parity) later x (old name) (state.registers name).change (state.registers name).content after now shows
    → WritesUnder name after old new
    → DataStands set slot last old state holding disks hands
    → DataStands set slot later new state holding disks hands

-- a change that is on its way was written again: the data goes on to stand where the state stays, and after the late step
abbrev pub AgainStaysData : Type 0
AgainStaysData = (set : SetPlan) (slot last later : ℕ) (old new : Records) (state : State) (holding : Holding) (disks : Disks) (hands : Hands)
    (p : Waiting) (x : Written) (after : List Lane) (now : ℕ) (shows : List ℕ)
    → last ≤ later → LanesStand set last holding old state → (way : IsOnItsWay old state p)
    → x.change ≡ p.change → x.content ≡ p.content → x.adds ≡ way.next.adds
    → LeavesLanes (write_drives set.drives set.parity) later x (old p.name) (state.registers p.name).change (state.registers p.name).content after now shows
    → WritesUnder p.name after old new → now ≡ (state.registers p.name).change
    → DataStands set slot last old state holding disks hands
    → DataStands set slot later new state holding disks hands

abbrev pub AgainIsLateData : Type 0
AgainIsLateData = (set : SetPlan) (slot last later : ℕ) (old new : Records) (state moved : State) (holding : Holding) (disks : Disks) (hands : Hands)
    (p : Waiting) (x : Written) (after : List Lane) (now : ℕ) (shows : List ℕ)
    → last ≤ later → LanesStand set last holding old state → (way : IsOnItsWay old state p)
    → x.change ≡ p.change → x.content ≡ p.content → x.adds ≡ way.next.adds
    → LeavesLanes (write_drives set.drives set.parity) later x (old p.name) (state.registers p.name).change (state.registers p.name).content after now shows
    → WritesUnder p.name after old new → now ≡ p.change → IsLate p state moved
    → DataStands set slot last old state holding disks hands
    → DataStands set slot later new moved holding disks hands
