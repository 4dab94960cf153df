-- What a section does once its deed is planned: what it tells then, and what it leaves.
use Rattle.std.specs.Prelude.{◌≡◌, ◌≢◌, ◌⊎◌, ⊤, ℕ, Bool, List, Option, None, Some, MatchOption, Contains, Result, Ok, Err}
use Rattle.std.specs.Int.{IsBitSet}
use Rattle.call_types.specs.Refusals.{refusal_of}
use Rattle.call_types.specs.declared.refusal.KeyRefusal.{KeyRefusal}
use Rattle.call_types.specs.declared.reply.Reply.TheVariants.{Refused}
use Rattle.call_types.specs.declared.why.Why.{Why}
use Rattle.drive_base.specs.declared.drive.Drive.{Ghosts}
use Rattle.drive_base.specs.Files.{Files}
use Rattle.stamp_id.specs.declared.stamp.ChangeId.{ChangeId}
use Rattle.stamp_id.specs.declared.version.VersionId.{VersionId}
use Rattle.audit_trail.specs.declared.entry.Deed.{Deed}
use Rattle.audit_trail.specs.declared.entry.Deed.TheVariants.{Done as DoneDeed, Refused as RefusedDeed, Kept as KeptDeed}
use Rattle.audit_trail.specs.declared.entry.Entry.{Entry}
use Rattle.register_core.specs.declared.drafts.Draft.{Draft}
use Rattle.register_core.specs.declared.faults.QuorumFault.{QuorumFault}
use Rattle.register_core.specs.declared.faults.QuorumFault.TheVariants.{NoMemory as NoMemoryQuorum, WriteQuorum}
use Rattle.register_caller.specs.Steps.{WritesBoth}
use Rattle.vote_core.specs.Lane.{lane_at}
use Rattle.slot_history.specs.Contents.{number_of_id}
use Rattle.slot_history.specs.Moving.{Deeds}
use Rattle.slot_history.specs.Sections.{IsOnItsWay, IsRefusedIn, OwnStep}
use Rattle.slot_history.specs.Standing.{Flying, Records}
use Rattle.slot_history.specs.State.{State, TakesOut, Waiting}
use Rattle.slot_data.specs.Disks.{Disks}
use Rattle.slot_data.specs.Holding.{Hands, Holding}
use Rattle.slot_data.specs.Standing.{DataStands}
use Rattle.slot_rules.specs.Deeds.{brings_of}
use Rattle.slot_rules.specs.Plans.{IsTale}
use Rattle.slot_rules.specs.declared.commit.Commit.{Commit}
use Rattle.slot_rules.specs.declared.commit.Committed.{Committed}
use Rattle.slot_rules.specs.declared.owning.Own.{Own}
use Rattle.slot_rules.specs.declared.plans.Plan.{Plan}
use Rattle.slot_rules.specs.declared.site.Drawn.{Drawn}
use Rattle.slot_rules.specs.declared.site.Site.{Site}
use Rattle.slot_rules.specs.declared.telling.Tale.{Tale}
use Rattle.slot_core.specs.Calm.{DeedCalms, SectionCalms}
use Rattle.slot_core.specs.RegisterLook.{CallsForward}
use Rattle.slot_core.specs.Standing.{SlotStands}
use Rattle.slot_core.specs.Turns.{EntryMoves}
use Rattle.slot_core.specs.Views.{SlotNumbers, last_of, quorum_of}
use Rattle.slot_core.specs.declared.commit_write.Outcome.{Outcome}
use Rattle.slot_core.specs.declared.commit_write.Outcome.TheVariants.{Begun, Done, Kept, LacksMemory}
use Rattle.slot_core.specs.declared.slot.SlotFault.{SlotFault}
use Rattle.slot_core.specs.declared.slot.SlotFault.TheVariants.{Quorum, Key as KeyFault, NoMemory}

-- the put that a section ends was listed, and no other has its number; or none ends
abbrev pub Lands : Option VersionId → List Flying → List Flying → Type 0
Lands None flights rest = rest ≡ flights
Lands (Some id) flights rest = (f : Flying) × (f.id ≡ id) × TakesOut f flights rest × ((g : Flying) → Contains rest g → number_of_id g.id ≢ number_of_id id)

-- a put ends with a deed that brings its data, and with no other
abbrev pub FitsPut : Commit → Option VersionId → Type 0
FitsPut deed put = MatchOption (brings_of deed) (put ≡ None) (λ named. put ≡ Some named.id)

-- what a slot keeps once puts have ended, with this trash
abbrev pub kept_with : Holding → List Flying → List VersionId → Holding
kept_with holding rest trash = record { flights = rest; pins = holding.pins; trash = trash }

-- the deed that an outcome tells
abbrev pub deed_told : Outcome → Deed
deed_told (Done tale late) = DoneDeed tale.audit.call tale.audit.reply
deed_told (Begun tale change late fault) = RefusedDeed change tale.audit.call
deed_told (Kept fault) = KeptDeed
deed_told LacksMemory = KeptDeed

-- the change that was completed first
abbrev pub late_told : Outcome → Option ChangeId
late_told (Done tale late) = late
late_told (Begun tale change late fault) = late
late_told (Kept fault) = None
late_told LacksMemory = None

-- an entry of a section
abbrev pub entry_at : ℕ → List ℕ → Option ChangeId → Deed → Entry
entry_at ticket name late deed = record { ticket = ticket; late = late; name = name; deed = deed }

-- the entry of an outcome: none where memory lacked
abbrev pub entry_told : ℕ → List ℕ → Outcome → Option Entry
entry_told ticket name (Done tale late) = Some (entry_at ticket name late (deed_told (Done tale late)))
entry_told ticket name (Begun tale change late fault) = Some (entry_at ticket name late (deed_told (Begun tale change late fault)))
entry_told ticket name (Kept fault) = Some (entry_at ticket name None KeptDeed)
entry_told ticket name LacksMemory = None

-- the answer of a tale: it is done, or refused by the state of the key
abbrev pub answer_of : Tale → Option KeyRefusal → Result Committed SlotFault
answer_of tale None = Ok (record { done = tale.reply })
answer_of tale (Some why) = Err (KeyFault why)

-- the answer of an outcome
abbrev pub answer_told : Outcome → Result Committed SlotFault
answer_told (Done tale late) = answer_of tale tale.refused
answer_told (Begun tale change late fault) = Err (Quorum fault)
answer_told (Kept fault) = Err (Quorum fault)
answer_told LacksMemory = Err NoMemory

-- a tale that is told of a deed that was done: of the change that it drew, if it drew one; where the state of the key refused it, it drew none
abbrev pub IsToldDone : Commit → ℕ → Tale → Type 0
IsToldDone deed now tale = (change : Option ChangeId) × IsTale deed change now tale
    × MatchOption tale.refused ⊤ (λ why. (change ≡ None) × (tale.reply ≡ Refused (refusal_of why)))

-- what an outcome tells is true of the deed
abbrev pub IsTold : Commit → ℕ → Outcome → Type 0
IsTold deed now (Done tale late) = IsToldDone deed now tale
IsTold deed now (Begun tale change late fault) = IsTale deed (Some change) now tale × ((whys : List Why) × (fault ≡ WriteQuorum whys))
IsTold deed now (Kept fault) = fault ≢ NoMemoryQuorum
IsTold deed now LacksMemory = ⊤

module _ {D : Type 0} (tells : D → Bool) (files : D → Files) where
  -- what a deed leaves of lanes that stood for a state, once what was pending is completed: they stand for the state after it, and after the late step of
  -- the refused change itself, if it took effect; of a lane that is out the records are as they were; and the data goes on to stand
  pub record DeedLeaves (numbers later : SlotNumbers) (held kept : Holding) (name : List ℕ) (deed : Deed) (lanes_new : List D)
      (Shows : State → State → Type 0) (Moves : Disks → Hands → Hands → Type 0) (records : Records) (state : State) : Type 0 where
    pub after : Records
    pub now : State
    pub stands : SlotStands tells files later kept.flights lanes_new after now
    pub stay : (name : List ℕ) (k : ℕ) → IsBitSet numbers.set.out k → lane_at (after name) k ≡ lane_at (records name) k
    pub middle : State
    pub deed_is : Deeds numbers.index name deed state middle
    pub own : OwnStep deed middle now
    pub rests : (p : Waiting) → IsOnItsWay after now p → IsOnItsWay records state p ⊎ IsRefusedIn deed p
    pub calm : DeedCalms (quorum_of numbers) name deed records state after now
    pub shows : Shows state middle
    pub holds : (disks : Disks) (hands less : Hands) → Moves disks hands less
        → DataStands numbers.set numbers.index (last_of numbers) records state held disks hands
        → DataStands numbers.set numbers.index (last_of later) after now kept disks less

  -- what a section leaves of lanes that stood for a state, by its entry
  pub record EntryLeaves (numbers later : SlotNumbers) (held kept : Holding) (lanes_new : List D) (entry : Option Entry)
      (Shows : State → State → Type 0) (Moves : Disks → Hands → Hands → Type 0) (records : Records) (state : State) : Type 0 where
    pub after : Records
    pub now : State
    pub stands : SlotStands tells files later kept.flights lanes_new after now
    pub stay : (name : List ℕ) (k : ℕ) → IsBitSet numbers.set.out k → lane_at (after name) k ≡ lane_at (records name) k
    pub moves : EntryMoves numbers.index entry Shows records state after now
    pub calm : SectionCalms (quorum_of numbers) entry records state after now
    pub holds : (disks : Disks) (hands less : Hands) → Moves disks hands less
        → DataStands numbers.set numbers.index (last_of numbers) records state held disks hands
        → DataStands numbers.set numbers.index (last_of later) after now kept disks less

module _ {D : Type 0} (ghosts : Ghosts D) where
  -- the calls of a section's own writes, after the completion of what was pending
  pub record CallsOwn (site : Site) (drawn later : Drawn) (first : Option Draft) (late : Option ChangeId) (own : Own)
      (result : Result (List Why) QuorumFault) (old new : List D) : Type 0 where
    pub seq : later.seq ≡ own.seq
    pub between : List D
    pub middle : Drawn
    pub forward : CallsForward ghosts site drawn middle first (Ok late) old between
    pub writes : WritesBoth ghosts own.draft site.set.out site.term middle.count later.count result between new

  -- the calls of the own writes alone, by what came of them
  abbrev pub CallsOwnWrites : Site → Drawn → Drawn → Own → Option ChangeId → Tale → Outcome → List D → List D → Type 0
  CallsOwnWrites site drawn later own late tale (Done told first) old new = (told ≡ tale) × (first ≡ late)
      × ((letters : List Why) × WritesBoth ghosts own.draft site.set.out site.term drawn.count later.count (Ok letters) old new)
  CallsOwnWrites site drawn later own late tale (Begun told change first fault) old new = (told ≡ tale) × (first ≡ late) × (change ≡ own.change)
      × WritesBoth ghosts own.draft site.set.out site.term drawn.count later.count (Err fault) old new
  CallsOwnWrites site drawn later own late tale (Kept fault) old new = ⊥
  CallsOwnWrites site drawn later own late tale LacksMemory old new = ⊥

  -- the calls of a section after its plan, by its outcome
  abbrev pub CallsCarry : Site → Drawn → Drawn → Option Draft → Plan → Outcome → List D → List D → Type 0
  CallsCarry site drawn later first plan (Done tale late) old new = (tale ≡ plan.tale)
      × (((plan.own ≡ None) × CallsForward ghosts site drawn later first (Ok late) old new)
      ⊎ ((own : Own) × (plan.own ≡ Some own) × (letters : List Why) × CallsOwn site drawn later first late own (Ok letters) old new))
  CallsCarry site drawn later first plan (Begun tale change late fault) old new = (tale ≡ plan.tale)
      × ((own : Own) × (plan.own ≡ Some own) × (own.change ≡ change) × CallsOwn site drawn later first late own (Err fault) old new)
  CallsCarry site drawn later first plan (Kept fault) old new = CallsForward ghosts site drawn later first (Err fault) old new
  CallsCarry site drawn later first plan LacksMemory old new = ⊥
