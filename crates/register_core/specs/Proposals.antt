-- What proposing, marking and mending answer, and what they leave on the drives.
use Rattle.std.specs.Prelude.{◌≡◌, ◌⊎◌, ◌↔◌, ℕ, ◌<◌, ◌≤◌, Bool, false, IsTrue, List, length, map, count_by, Result, Ok, Err, replicate, string_bytes, slice_index_or}
use Rattle.std.specs.Int.{IsBitSet}
use Rattle.call_types.specs.Good.{IsGoodMask, good_count, is_good}
use Rattle.call_types.specs.declared.why.Why.{Why}
use Rattle.call_types.specs.declared.why.Why.TheVariants.{Good}
use Rattle.drive_base.specs.declared.drive.Drive.{Ghosts}
use Rattle.drive_base.specs.Plan.{write_drives}
use Rattle.register_file.specs.declared.record.Base.{Base}
use Rattle.register_file.specs.declared.record.Next.{Next}
use Rattle.vote_core.specs.Lane.{Lane, lane_at, Base as LaneBase}
use Rattle.vote_core.specs.Loops.{Leaves, prepared, marked, mended, AtLeastHave}
use Rattle.vote_core.specs.Sound.{LanesAreDrawn}
use Rattle.register_core.specs.LaneMoves.{PrepareLeaves, IsProposed, MarkMoves, MendLeaves}
use Rattle.register_core.specs.LaneWrites.{letter_at, IsTarget, WritesEach}
use Rattle.register_core.specs.OnLanes.{AllTell, AreLanes, AreUnused}
use Rattle.register_core.specs.Drafts.{EndsAt, IsDraftOf}
use Rattle.register_core.specs.Records.{HasLane, base_of, marked_base, next_of}
use Rattle.register_core.specs.declared.drafts.Draft.{Draft}
use Rattle.register_core.specs.declared.faults.QuorumFault.{QuorumFault}
use Rattle.register_core.specs.declared.faults.QuorumFault.TheVariants.{ReadQuorum, WriteQuorum, Undecided, NoMemory}
use Rattle.register_core.specs.declared.mends.Mended.{Mended}
use Rattle.register_core.specs.declared.proposals.Prepared.{Prepared}

-- how many lanes must take a write of a draft's register
abbrev pub quorum_of : Draft → ℕ
quorum_of draft = write_drives draft.set.drives draft.set.parity

-- how many lanes were written: those that weren't passed over and whose letter is good then
pub record CountsWritten (passed : ℕ) (whys : List Why) (many : ℕ) : Type 0 where
  pub written : List Bool
  pub counted : length written ≡ length whys
  pub are : (k : ℕ) → k < length whys → IsTrue (slice_index_or written k false) ↔ ((IsBitSet passed k → ⊥) × (letter_at whys k ≡ Good))
  pub many_is : many ≡ count_by (λ has. has) written

module _ {D : Type 0} (ghosts : Ghosts D) where
  -- the first file was written to each lane whose letter is good and which isn't out
  abbrev pub WritesFirst : Draft → ℕ → ℕ → ℕ → ℕ → List Why → List D → List D → Type 0
  WritesFirst draft out term from to whys old new =
      WritesEach ghosts out 0 (string_bytes draft.name) draft.first.items term from to draft.letters whys old new

  -- nothing is begun, since fewer lanes are good than a write needs
  pub record IsNotBegun (draft : Draft) (from to : ℕ) (whys : List Why) (old new : List D) : Type 0 where
    pub few : good_count draft.letters < quorum_of draft
    pub letters : whys ≡ draft.letters
    pub stays : new ≡ old
    pub none_used : to ≡ from

  -- what proposing answers: enough lanes took the first file, or why too few did
  abbrev pub Proposes : Draft → ℕ → ℕ → ℕ → ℕ → Result Prepared QuorumFault → List D → List D → Type 0
  Proposes draft out term from to (Ok took) old new =
      (took.out ≡ out) × (quorum_of draft ≤ good_count took.whys) × WritesFirst draft out term from to took.whys old new
  Proposes draft out term from to (Err (ReadQuorum _)) old new = ⊥
  Proposes draft out term from to (Err (WriteQuorum whys)) old new = IsNotBegun draft from to whys old new
      ⊎ ((quorum_of draft ≤ good_count draft.letters) × (good_count whys < quorum_of draft) × WritesFirst draft out term from to whys old new)
  Proposes draft out term from to (Err (Undecided _ _ _)) old new = ⊥
  Proposes draft out term from to (Err NoMemory) old new = ⊥

  -- the letters of what proposing answered
  abbrev pub letters_after : Result Prepared QuorumFault → List Why
  letters_after (Ok took) = took.whys
  letters_after (Err (ReadQuorum whys)) = whys
  letters_after (Err (WriteQuorum whys)) = whys
  letters_after (Err (Undecided _ _ whys)) = whys
  letters_after (Err NoMemory) = replicate 0 Good

  -- at least w lanes of those that took the prepare have its record, where proposing succeeded
  abbrev pub TookIfOk : Result Prepared QuorumFault → ℕ → Lane → List Lane → Type 0
  TookIfOk (Ok took) w x after = AtLeastHave w (map is_good took.whys) x after
  TookIfOk (Err _) w x after = Unit {0}

  -- what proposing keeps of the register, whose lanes keep any records before: they keep records after it, which are those of a loop that prepares
  pub record ProposeKeeps (draft : Draft) (out : ℕ) (base : Base) (next : Next) (result : Result Prepared QuorumFault) (new : List D) (lanes : List Lane) : Type 0 where
    pub after : List Lane
    pub are : AreLanes ghosts.files out (string_bytes draft.name) new after
    pub left : Leaves (prepared (base_of base) (next_of next)) lanes after
    pub leaves : PrepareLeaves (quorum_of draft) draft.letters (base_of base) (next_of next) lanes after
    pub stay : (k : ℕ) → IsBitSet out k → lane_at after k ≡ lane_at lanes k
    pub took : TookIfOk result (quorum_of draft) (prepared (base_of base) (next_of next)) after

  -- so it is where those in use tell what they hold, have no loose file of a later name, and keep these records
  abbrev pub KeepsProposed : Draft → ℕ → ℕ → ℕ → Result Prepared QuorumFault → List D → List D → Type 0
  KeepsProposed draft out term from result old new = (base : Base) (next : Next) (recorded : List Lane) → IsDraftOf draft base next
      → AllTell ghosts.tells out old → AreUnused ghosts.files out term from old → AreLanes ghosts.files out (string_bytes draft.name) old recorded
      → ProposeKeeps draft out base next result new recorded

  -- the last file was written to each lane that took the first one
  abbrev pub WritesLast : Draft → Prepared → ℕ → ℕ → ℕ → List Why → List D → List D → Type 0
  WritesLast draft took term from to whys old new =
      WritesEach ghosts took.out 0 (string_bytes draft.name) draft.last.items term from to took.whys whys old new

  -- what marking answers: the letters of enough lanes that took the last file, and the draft passes over exactly these, or why too few did, and it passes
  -- over those it did
  abbrev pub Marks : Draft → Prepared → ℕ → ℕ → ℕ → Result (List Why) QuorumFault → Draft → List D → List D → Type 0
  Marks draft took term from to (Ok whys) later old new =
      (quorum_of draft ≤ good_count whys) × IsGoodMask whys later.passed × WritesLast draft took term from to whys old new
  Marks draft took term from to (Err (ReadQuorum _)) later old new = ⊥
  Marks draft took term from to (Err (WriteQuorum whys)) later old new =
      (good_count whys < quorum_of draft) × (later.passed ≡ draft.passed) × WritesLast draft took term from to whys old new
  Marks draft took term from to (Err (Undecided _ _ _)) later old new = ⊥
  Marks draft took term from to (Err NoMemory) later old new = ⊥

  -- each lane that a later draft passes over has exactly this record, where marking succeeded
  abbrev pub MarkedIfOk : {T : Type 0} → Result T QuorumFault → Draft → Lane → List Lane → Type 0
  MarkedIfOk (Ok _) later x after = (k : ℕ) → k < length after → IsBitSet later.passed k → lane_at after k ≡ x
  MarkedIfOk (Err _) later x after = Unit {0}

  -- what marking keeps of the register, whose lanes hold a value and took the prepare
  pub record MarkKeeps {T : Type 0} (draft : Draft) (took : Prepared) (next : Next) (result : Result T QuorumFault) (later : Draft) (new : List D) (lanes : List Lane) : Type 0 where
    pub after : List Lane
    pub are : AreLanes ghosts.files took.out (string_bytes draft.name) new after
    pub left : Leaves (marked (next_of next)) lanes after
    pub stay : (k : ℕ) → IsBitSet took.out k → lane_at after k ≡ lane_at lanes k
    pub value : (base : LaneBase) (last c : ℕ) (content : List ℕ) → IsProposed (quorum_of draft) last lanes c content took.whys base (next_of next)
        → MarkMoves result (quorum_of draft) last c content (next_of next) after
    pub numbers : (base : LaneBase) (last : ℕ) → AtLeastHave (quorum_of draft) (map is_good took.whys) (prepared base (next_of next)) lanes
        → LanesAreDrawn last lanes → LanesAreDrawn last after
    pub marked_lanes : MarkedIfOk result later (marked (next_of next)) after

  -- so it is where those in use tell what they hold, have no loose file of a later name, and keep these records
  abbrev pub KeepsMarked : {T : Type 0} → Draft → Prepared → ℕ → ℕ → Result T QuorumFault → Draft → List D → List D → Type 0
  KeepsMarked draft took term from result later old new = (next : Next) (recorded : List Lane) → EndsAt draft (marked_base next)
      → AllTell ghosts.tells took.out old → AreUnused ghosts.files took.out term from old
      → AreLanes ghosts.files took.out (string_bytes draft.name) old recorded → MarkKeeps draft took next result later new recorded

  -- what mending answers: a letter for each lane, and how many lanes were written
  pub record Mends (draft : Draft) (out term from to : ℕ) (answer : Mended) (old new : List D) : Type 0 where
    pub wrote : WritesEach ghosts out draft.passed (string_bytes draft.name) draft.last.items term from to
        (replicate draft.set.drives Good) answer.whys old new
    pub written : List Bool
    pub counted : length written ≡ length old
    pub are : (k : ℕ) → k < length old → IsTrue (slice_index_or written k false)
        ↔ (IsTarget out draft.passed (replicate draft.set.drives Good) k × (letter_at answer.whys k ≡ Good))
    pub many : answer.lanes ≡ count_by (λ has. has) written

  -- what mending keeps of the register. A lane of which nothing is known before (`unknown`) stands with any record until a write of the mend takes
  -- effect on it
  pub record MendKeeps (draft : Draft) (out unknown : ℕ) (base : Base) (answer : Mended) (new : List D) (lanes : List Lane) : Type 0 where
    pub after : List Lane
    pub are : AreLanes ghosts.files unknown (string_bytes draft.name) new after
    pub left : Leaves (mended (base_of base)) lanes after
    pub stay : (k : ℕ) → IsBitSet out k → lane_at after k ≡ lane_at lanes k
    pub leaves : MendLeaves (quorum_of draft) (base_of base) lanes after
    pub may : (k : ℕ) (default : D) → k < length new → (lane_at after k ≡ lane_at lanes k)
        ⊎ ((lane_at after k ≡ mended (base_of base)) × HasLane ((ghosts.files (slice_index_or new k default)).kept (string_bytes draft.name)) (lane_at after k))
    pub has : (k : ℕ) (default : D) → k < length new → letter_at answer.whys k ≡ Good → (IsBitSet draft.passed k → ⊥)
        → (lane_at after k ≡ mended (base_of base)) × HasLane ((ghosts.files (slice_index_or new k default)).kept (string_bytes draft.name)) (lane_at after k)

  -- so it is where those in use tell what they hold and have no loose file of a later name, and those that are known keep these records
  abbrev pub KeepsMended : Draft → ℕ → ℕ → ℕ → Mended → List D → List D → Type 0
  KeepsMended draft out term from answer old new = (base : Base) (unknown : ℕ) (recorded : List Lane) → EndsAt draft base
      → AllTell ghosts.tells out old → AreUnused ghosts.files out term from old → AreLanes ghosts.files unknown (string_bytes draft.name) old recorded
      → MendKeeps draft out unknown base answer new recorded
