-- What lanes stand for after a change of a section's own was written over a register that was settled.
use Rattle.std.proofs.Common.{◌≡◌, ◌⊎◌, ◌<◌, ◌≤◌, ◌∙◌, ℕ, List, [], Ok, Err, Contains, sym, subst, inl, inr, arith}
use Rattle.call_types.specs.declared.why.Why.{Why}
use Rattle.drive_base.specs.Plan.{write_drives}
use Rattle.drive_base.specs.declared.plan.SetPlan.{SetPlan}
use Rattle.stamp_id.specs.declared.version.VersionId.{VersionId}
use Rattle.vote_core.specs.Calm.{IsCalm}
use Rattle.vote_core.specs.Lane.{Base, Lane, Next}
use Rattle.vote_core.specs.Laws.{AboveLastIsFresh}
use Rattle.vote_core.specs.Loops.{Stands as StandsOn}
use Rattle.register_core.specs.LaneMoves.{MayPropose}
use Rattle.register_caller.specs.BothWrites.{BothLeave}
use Rattle.register_caller.specs.WrittenLanes.{LeavesByResult, LeavesLanes, written_of}
use Rattle.slot_history.specs.Committing.{MayCommit}
use Rattle.slot_history.specs.Laws.{IsMade, OnlyTheOld, OnlyTheOldOr, OwnIsFresh, OwnStands, with_waiting}
use Rattle.slot_history.specs.Standing.{Flying, Records, Stands}
use Rattle.slot_history.specs.State.{IsNew, Register, State}
use Rattle.slot_history.specs.Writing.{WritesUnder}
use Rattle.slot_data.specs.Bringing.{BringsData, GoOn, IsGone, MayEndOne, with_gone}
use Rattle.slot_data.specs.Disks.{Disks}
use Rattle.slot_data.specs.Holding.{Hands, Holding}
use Rattle.slot_data.specs.LaneLaws.{OwnMakesData, OwnWaitsData}
use Rattle.slot_data.specs.Moves.{LanesStand}
use Rattle.slot_data.specs.Standing.{DataStands}
use Rattle.slot_core.proofs.SettlingLemmas.{quorum_enough, quorum_some}

-- a change of a section's own, and the register over which it was written
pub record Owned : Type 0 where
  pub set : SetPlan
  pub last : ℕ
  pub later : ℕ
  pub holding : Holding
  pub rest : List Flying
  pub old : Records
  pub new : Records
  pub state : State
  pub name : List ℕ
  pub base : Base
  pub own : Next
  pub letters : List Why
  pub after : List Lane

abbrev pub needed : Owned → ℕ
needed s = write_drives s.set.drives s.set.parity

abbrev pub was : Owned → Register
was s = s.state.registers s.name

-- the laws of such changes
pub record OwnLaws : Type 0 where
  pub above : AboveLastIsFresh
  pub fresh : OwnIsFresh
  pub stands : OwnStands
  pub waits : OwnWaitsData
  pub makes : OwnMakesData

-- it may be written
pub record OwnMay (s : Owned) : Type 0 where
  pub low : s.last < s.own.ballot
  pub within : s.own.change ≤ s.own.ballot
  pub ballot : s.own.ballot ≡ s.later
  pub stands : LanesStand s.set s.last s.holding s.old s.state
  pub parent : s.own.parent ≡ s.base.change
  pub value : s.base.change ≡ (was s).change
  pub stands_on : StandsOn (s.old s.name) s.base
  pub may : MayCommit s.last s.later s.holding.flights s.rest s.state s.name (written_of s.own)
  pub writes : WritesUnder s.name s.after s.old s.new

-- what goes with the data of a change: a put may end, what comes has its holders, and ops rely on no more
pub record OwnData (s : Owned) (slot : ℕ) (hands less : Hands) (gone : List VersionId) : Type 0 where
  pub ends : MayEndOne s.holding.flights s.rest
  pub brings : BringsData slot s.holding.flights s.rest hands s.name (written_of s.own)
  pub goes_on : GoOn hands less (with_gone s.holding s.rest gone)

-- the state in which it was made
pub record OwnMade (s : Owned) : Type 0 where
  pub made : State
  pub is : IsMade s.name (written_of s.own) s.state made
  pub is_new : IsNew s.own.change s.state
  pub stands : Stands (needed s) s.set.drives s.later s.rest s.new made
  pub rests : OnlyTheOld s.old s.state s.new made
  pub data_stands : (slot : ℕ) (disks : Disks) (hands less : Hands) (gone : List VersionId) → OwnData s slot hands less gone
      → ((id : VersionId) → Contains gone id → IsGone s.name (was s).content s.own.content id)
      → DataStands s.set slot s.last s.old s.state s.holding disks hands
      → DataStands s.set slot s.later s.new made (with_gone s.holding s.rest gone) disks less

-- and the one in which it waits
pub record OwnWaits (s : Owned) : Type 0 where
  pub is_new : IsNew s.own.change s.state
  pub stands : Stands (needed s) s.set.drives s.later s.rest s.new (with_waiting s.state s.name (written_of s.own))
  pub rests : OnlyTheOldOr s.own.change s.old s.state s.new (with_waiting s.state s.name (written_of s.own))
  pub data_stands : (slot : ℕ) (disks : Disks) (hands less : Hands) → OwnData s slot hands less []
      → DataStands s.set slot s.last s.old s.state s.holding disks hands
      → DataStands s.set slot s.later s.new (with_waiting s.state s.name (written_of s.own)) (with_gone s.holding s.rest []) disks less

rises : (s : Owned) → OwnMay s → s.last ≤ s.later
rises s m = let low = m.low in let is = m.ballot in omega arith

-- it may be proposed
own_proposed : OwnLaws → (s : Owned) → OwnMay s
    → MayPropose (needed s) s.last s.later (s.old s.name) (was s).change (was s).content s.letters s.base s.own
own_proposed laws s m =
    let holds = (m.stands.under s.name m.may.held).holds in
    record {
      rises = rises s m;
      holds = holds;
      may = inl (record {
        stands = m.stands_on;
        value = m.value;
        own = record {
          parent = m.parent ∙ m.value;
          own = m.within;
          ballot = (laws.above s.last s.later s.own.ballot (s.old s.name) holds.sound.drawn m.low (let is = m.ballot in omega arith)).0;
          change = laws.fresh (needed s) s.set.drives s.last s.later s.holding.flights s.rest s.old s.state s.name (written_of s.own) m.stands m.may;
        };
      });
    }

-- what was written is made, or waits while the value stays
own_left : OwnLaws → (s : Owned) → OwnMay s → (now : ℕ) (shows : List ℕ)
    → LeavesLanes (needed s) s.later (written_of s.own) (s.old s.name) (was s).change (was s).content s.after now shows
    → OwnMade s ⊎ ((now ≡ (was s).change) × OwnWaits s)
own_left laws s m now shows left =
    let both = laws.stands (needed s) s.set.drives s.last s.later s.holding.flights s.rest s.old s.new s.state s.name (written_of s.own) s.after now shows
    (quorum_some s.set) (quorum_enough s.set) (rises s m) m.stands m.may left m.writes in
    elim both.1 [
      | inl waits ↦ inr (
        waits.0,
        record {
          is_new = both.0;
          stands = waits.1;
          rests = waits.2;
          data_stands = λ slot disks hands less d. laws.waits s.set slot s.last s.later s.old s.new s.state s.holding s.rest disks hands less s.name (written_of s.own)
              s.after now shows (rises s m) m.stands m.may both.0 left m.writes waits.0 d.ends d.brings d.goes_on;
        },
      )
      | inr moved ↦ inl (record {
        made = moved.1.0;
        is = moved.1.1;
        is_new = both.0;
        stands = moved.1.2;
        rests = moved.1.3;
        data_stands = λ slot disks hands less gone d are. laws.makes s.set slot s.last s.later s.old s.new s.state moved.1.0 s.holding s.rest disks hands less s.name
            (written_of s.own) s.after now shows gone (rises s m) m.stands m.may both.0 left m.writes moved.0 moved.1.1 d.ends d.brings d.goes_on are;
      })
    ]

-- its change isn't the last one
own_differs : (s : Owned) → OwnMay s → IsNew s.own.change s.state → s.own.change ≡ (was s).change → ⊥
own_differs s m new same = elim (m.stands.lawful.lasts s.name) [
  | inl none ↦ let some = m.may.some in omega arith
  | inr done ↦ new.not_applied (subst (λ (c : ℕ). Contains s.state.applied c) (sym same) done)
]

-- where it was acknowledged it was made
pub own_done : {T E : Type 0} → OwnLaws → (s : Owned) → OwnMay s → (done : T)
    → BothLeave {T = T} {E = E} (needed s) s.letters s.base s.own (Ok done) (s.old s.name) s.after → OwnMade s
own_done {T} {E} laws s m done both =
    let left : LeavesByResult {T = T} {E = E} (needed s) s.later (Ok done) (written_of s.own) (s.old s.name) (was s).change (was s).content s.after =
    both.leaving s.last s.later (was s).change (was s).content (own_proposed laws s m) in
    elim (own_left laws s m left.now left.shows left.leaves) [
      | inl made ↦ made
      | inr waits ↦ absurd (own_differs s m waits.1.is_new (sym left.marked.0 ∙ waits.0))
    ]

-- and its register is calm
pub own_calm : {T E : Type 0} → OwnLaws → (s : Owned) → OwnMay s → (done : T)
    → BothLeave {T = T} {E = E} (needed s) s.letters s.base s.own (Ok done) (s.old s.name) s.after → IsNew s.own.change s.state
    → IsCalm (needed s) s.after s.own.change
own_calm laws s m done both new = (both.value s.last s.later (was s).change (was s).content (own_proposed laws s m)).calm (own_differs s m new)

-- where it was refused it was made, or waits
pub own_begun : {T E : Type 0} → OwnLaws → (s : Owned) → OwnMay s → (fault : E)
    → BothLeave {T = T} {E = E} (needed s) s.letters s.base s.own (Err fault) (s.old s.name) s.after → OwnMade s ⊎ OwnWaits s
own_begun {T} {E} laws s m fault both =
    let left : LeavesByResult {T = T} {E = E} (needed s) s.later (Err fault) (written_of s.own) (s.old s.name) (was s).change (was s).content s.after =
    both.leaving s.last s.later (was s).change (was s).content (own_proposed laws s m) in
    elim (own_left laws s m left.now left.shows left.leaves) [
      | inl made ↦ inl made
      | inr waits ↦ inr waits.1
    ]
