-- What a section's look at a register leaves, and the completion of what it found pending.
use Rattle.std.specs.Prelude.{◌≡◌, ◌+◌, ℕ, Bool, List, Contains, length, Option, Some, None, Result}
use Rattle.std.specs.Int.{IsBitSet}
use Rattle.std.specs.Result.{IfOk}
use Rattle.drive_base.specs.declared.drive.Drive.{Ghosts}
use Rattle.drive_base.specs.Files.{Files}
use Rattle.stamp_id.specs.Rank.{change_of}
use Rattle.stamp_id.specs.declared.stamp.Ballot.{Ballot}
use Rattle.stamp_id.specs.declared.stamp.ChangeId.{ChangeId}
use Rattle.register_file.specs.declared.record.Base.{Base}
use Rattle.register_file.specs.declared.record.Next.{Next}
use Rattle.vote_core.specs.Lane.{lane_at}
use Rattle.vote_core.specs.Loops.{Stands as StandsOn}
use Rattle.register_core.specs.Drafts.{IsDraftAfterLook}
use Rattle.register_core.specs.Found.{content_of}
use Rattle.register_core.specs.Looks.{IsLooked}
use Rattle.register_core.specs.Records.{again_of, base_of}
use Rattle.register_core.specs.declared.drafts.Draft.{Draft}
use Rattle.register_core.specs.declared.looks.Looked.{Looked}
use Rattle.slot_history.specs.Laws.{OnlyTheOld}
use Rattle.slot_history.specs.Moving.{IsLast}
use Rattle.slot_history.specs.Sections.{IsOnItsWay}
use Rattle.slot_history.specs.Standing.{Records}
use Rattle.slot_history.specs.State.{IsHeld, State, Waiting}
use Rattle.slot_history.specs.Waiting.{AreLate}
use Rattle.slot_data.specs.Disks.{Disks}
use Rattle.slot_data.specs.Holding.{Hands, Holding}
use Rattle.slot_data.specs.Standing.{DataStands}
use Rattle.slot_rules.specs.Owning.{base_after}
use Rattle.slot_rules.specs.declared.ready.Ready.{Ready}
use Rattle.slot_rules.specs.declared.site.Drawn.{Drawn}
use Rattle.slot_rules.specs.declared.site.Site.{Site}
use Rattle.slot_core.specs.Calm.{IsCalmUnder, StaysUnder}
use Rattle.slot_core.specs.Standing.{SlotStands}
use Rattle.slot_core.specs.Views.{SlotNumbers, last_of, quorum_of}
use Rattle.slot_core.specs.LanesStay.{FilesStay, TellsStay}

-- the numbers of a slot where a section is done, when so many were drawn
abbrev pub numbers_at : Site → Drawn → SlotNumbers
numbers_at site drawn = record { set = site.set; index = site.index; term = site.term; turns = site.turns; seq = drawn.seq; count = drawn.count }

-- a section's first draft is that of what its look found pending, under this ballot
abbrev pub FirstIs : Looked → Option Next → Ballot → Option Draft → Type 0
FirstIs looked None ballot first = first ≡ None
FirstIs looked (Some found) ballot first = (draft : Draft) × (first ≡ Some draft) × IsDraftAfterLook looked (again_of looked.base ballot found) draft

-- what a section knows of a register that it settled: that its name is held, its change and content, the base that stands, and that the change which
-- was completed is its last
pub record SettledOn (name : List ℕ) (base : Base) (content : List ℕ) (late : Option ChangeId) (records : Records) (state : State) : Type 0 where
  pub held : IsHeld state.registers name
  pub register_is : state.registers name ≡ record { change = change_of base.change; content = content }
  pub content_is : base.content ≡ content
  pub stands_on : StandsOn (records name) (base_of base)
  pub is_last : IsLast late (state.registers name)

module _ {D : Type 0} (tells : D → Bool) (files : D → Files) where
  -- lanes that stood for a state go on to do so, perhaps after a late step, and of the state that they stand for then something is known. In the place of
  -- a lane that is out the records are as they were. Calm registers are left as they were
  pub record Settled (numbers later : SlotNumbers) (holding : Holding) (Known : Records → State → Type 0) (lanes_new : List D) (records : Records) (state : State) : Type 0 where
    pub after : Records
    pub now : State
    pub stands : SlotStands tells files later holding.flights lanes_new after now
    pub stay : (name : List ℕ) (k : ℕ) → IsBitSet numbers.set.out k → lane_at (after name) k ≡ lane_at (records name) k
    pub lates : List Waiting
    pub late_steps : AreLate lates state now
    pub carried : (p : Waiting) → Contains lates p → IsOnItsWay records state p
    pub rests : OnlyTheOld records state after now
    pub calm : (name : List ℕ) → IsCalmUnder (quorum_of numbers) records state name → StaysUnder records state after now name
    pub known : Known after now
    pub goes_on : (disks : Disks) (hands : Hands) → DataStands numbers.set numbers.index (last_of numbers) records state holding disks hands
        → DataStands numbers.set numbers.index (last_of later) after now holding disks hands

module _ {D : Type 0} (ghosts : Ghosts D) where
  -- a look could conclude, and what is pending is drafted under the next number of the slot
  pub record IsReady (site : Site) (drawn : Drawn) (name : List ℕ) (rule : List ℕ → Option ℕ) (longest : ℕ) (ready : Ready) (old new disks disks_after : List D) : Type 0 where
    pub looks : IsLooked ghosts site.set site.set.out name rule longest ready.looked old new disks disks_after
    pub ballot : Ballot
    pub term : ballot.term ≡ site.term
    pub seq : ballot.seq ≡ drawn.seq + 1
    pub first : FirstIs ready.looked ready.looked.pending ballot ready.first

  -- what completing it leaves, over every state for which the lanes stood when they were looked at
  abbrev pub SettlesAfter : {E : Type 0} → Site → Drawn → Drawn → List ℕ → Ready → Result (Option ChangeId) E → List D → List D → Type 0
  SettlesAfter site drawn later name ready result mid new = (rule : List ℕ → Option ℕ) (longest : ℕ) (old disks disks_after : List D) (holding : Holding)
      (records : Records) (state : State)
      → IsReady site drawn name rule longest ready old mid disks disks_after → length mid ≡ length old → FilesStay ghosts old mid
      → TellsStay ghosts old mid → IsHeld state.registers name → SlotStands ghosts.tells ghosts.files (numbers_at site drawn) holding.flights old records state
      → Settled ghosts.tells ghosts.files (numbers_at site drawn) (numbers_at site later) holding
      (λ after now. IfOk result (λ late. SettledOn name (base_after ready.looked.base ready.first) (content_of ready.looked.base ready.looked.pending) late after now))
      new records state
