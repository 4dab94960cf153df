-- What a look reads, and what it answers.
use Rattle.std.specs.Prelude.{◌≡◌, ◌⊎◌, ◌↔◌, ℕ, ◌<◌, ◌≤◌, ◌^◌, Bool, IsTrue, List, Option, Some, None, length, map, Result, Ok, Err, string_bytes, slice_index_or}
use Rattle.std.specs.Int.{IsBitSet}
use Rattle.body_print.specs.Plans.{data_plan}
use Rattle.call_types.specs.Good.{good_count, is_good}
use Rattle.call_types.specs.declared.why.FileKind.TheVariants.{Format, Register, Manifest, Shard}
use Rattle.call_types.specs.declared.why.Why.{Why}
use Rattle.call_types.specs.declared.why.Why.TheVariants.{Good, Failed, Damaged, Behind, Lacks}
use Rattle.drive_base.specs.declared.drive.Drive.{Ghosts}
use Rattle.drive_base.specs.Files.{Files}
use Rattle.drive_base.specs.Plan.{data_drives, write_drives}
use Rattle.drive_base.specs.declared.plan.SetPlan.{SetPlan}
use Rattle.file_access.specs.Reading.{FailedWhile}
use Rattle.register_file.specs.Record.{IsCanonical}
use Rattle.register_file.specs.declared.record.RegFile.{RegFile}
use Rattle.register_file.specs.declared.record.Base.{Base}
use Rattle.register_file.specs.declared.record.Next.{Next}
use Rattle.register_file.specs.declared.record.Adds.{Adds}
use Rattle.vote_core.specs.Lane.{Lane}
use Rattle.vote_core.specs.Row.{is_good as is_good_row}
use Rattle.vote_core.specs.Verdict.{VerdictRule, good_rows}
use Rattle.vote_core.specs.declared.verdict.Verdict.TheVariants.{Pending}
use Rattle.register_core.specs.Found.{Concludes, FindsNext, IsLawfulPending, RefusedLetter, content_of, found_at}
use Rattle.register_core.specs.LaneWrites.{letter_at}
use Rattle.register_core.specs.Manifests.{AreManifestLetters}
use Rattle.register_core.specs.OnLanes.{AllTell, AreHonest, AreLanes}
use Rattle.register_file.specs.Lengths.{longest_file}
use Rattle.register_core.specs.Records.{ShowsFile, IsRegisterDamage, row_of, settled_file}
use Rattle.register_core.specs.Seen.{AreSeen, LookedSeen, RefusedSeen, UndecidedSeen}
use Rattle.register_core.specs.declared.faults.QuorumFault.{QuorumFault}
use Rattle.register_core.specs.declared.faults.QuorumFault.TheVariants.{ReadQuorum, WriteQuorum, Undecided, NoMemory}
use Rattle.register_core.specs.declared.looks.Looked.{Looked}
use Rattle.register_core.specs.declared.looks.Concluded.{Concluded}

-- why nothing good was read of a lane: it is out, its count of faults rose, or what it shows is damaged, also where it has more than so many bytes
abbrev pub NoRecord : ℕ → List ℕ → Why → Type 0 → Bool → Files → ℕ → ℕ → Type 0
NoRecord most name Good out tells files old new = ⊥
NoRecord most name (Failed before after) out tells files old new = (out → ⊥) × FailedWhile before after old new
NoRecord most name (Damaged damage) out tells files old new = (out → ⊥) × (new ≡ old)
    × (IsTrue tells → (bytes : List ℕ) × (files.shown name ≡ Some bytes) × IsRegisterDamage most bytes damage)
NoRecord most name (Behind _) out tells files old new = ⊥
NoRecord most name (Lacks Format) out tells files old new = out × (new ≡ old)
NoRecord most name (Lacks Register) out tells files old new = ⊥
NoRecord most name (Lacks Manifest) out tells files old new = ⊥
NoRecord most name (Lacks Shard) out tells files old new = ⊥

-- what was read of a lane: its record, or why not
abbrev pub LaneIsRead : ℕ → List ℕ → Option RegFile → Why → Type 0 → Bool → Files → ℕ → ℕ → Type 0
LaneIsRead most name (Some file) why out tells files old new = (why ≡ Good) × (out → ⊥) × (new ≡ old) × IsCanonical file × (IsTrue tells → ShowsFile most (files.shown name) file)
LaneIsRead most name None why out tells files old new = NoRecord most name why out tells files old new

-- the letters of the lanes where a content is refused at a place
pub record LettersAreRefused (found : List (Option RegFile)) (content : List ℕ) (place : ℕ) (letters whys : List Why) : Type 0 where
  pub counted : length whys ≡ length letters
  pub each : (k : ℕ) → k < length found → RefusedLetter (found_at found k) content place (letter_at letters k) (letter_at whys k)

-- what checking a content answers, by where it first breaks the rule
abbrev pub Accepts : {T : Type 0} → Option ℕ → List (Option RegFile) → List ℕ → List Why → Result T QuorumFault → Type 0
Accepts fault found content letters (Ok _) = fault ≡ None
Accepts fault found content letters (Err (ReadQuorum whys)) = (place : ℕ) × (fault ≡ Some place) × LettersAreRefused found content place letters whys
Accepts fault found content letters (Err (WriteQuorum _)) = ⊥
Accepts fault found content letters (Err (Undecided _ _ _)) = ⊥
Accepts fault found content letters (Err NoMemory) = Unit {0}

module _ {D : Type 0} (ghosts : Ghosts D) where
  -- what was read of each lane, and its letter, which is good exactly where the row is; a lane that is out isn't called
  pub record LanesAreRead (out most : ℕ) (name : List ℕ) (found : List (Option RegFile)) (whys : List Why) (old new : List D) : Type 0 where
    pub counted : length found ≡ length old
    pub lettered : length whys ≡ length old
    pub on : map is_good whys ≡ map is_good_row (map row_of found)
    pub each : (k : ℕ) (default : D) → k < length old → LaneIsRead most name (found_at found k) (letter_at whys k) (IsBitSet out k)
        (ghosts.tells (slice_index_or old k default)) (ghosts.files (slice_index_or old k default))
        (ghosts.count (slice_index_or old k default)) (ghosts.count (slice_index_or new k default))
    pub stay : (k : ℕ) (default : D) → IsBitSet out k → slice_index_or new k default ≡ slice_index_or old k default

  -- what holds of the records that the lanes keep, where those in use tell what they hold and their damage is honest
  abbrev pub Sees : ℕ → List ℕ → List D → (List Lane → Type 0) → Type 0
  Sees out name old Holds = (recorded : List Lane) → AllTell ghosts.tells out old → AreHonest ghosts.files out name old → AreLanes ghosts.files out name old recorded → Holds recorded

  -- the manifests of a change's data were looked for on the data drives, and so many drives have one that verifies; a change that adds no data calls none
  abbrev pub DataIsThere : SetPlan → Option Adds → List D → List D → Type 0
  DataIsThere set None old new = new ≡ old
  DataIsThere set (Some adds) old new = (whys : List Why) × AreManifestLetters ghosts set adds whys old new
      × (data_drives (data_plan set adds.id).drives (data_plan set adds.id).parity ≤ good_count whys)

  -- a pending change may be completed: it adds no data, or its data is there; where nothing is pending no data drive is called
  abbrev pub MayForward : SetPlan → Option Next → List D → List D → Type 0
  MayForward set None old new = new ≡ old
  MayForward set (Some next) old new = DataIsThere set next.adds old new

  -- a look that could conclude: `fault` says of each content where it breaks its rule, and no lawful one has more than `longest` bytes
  pub record IsLooked (set : SetPlan) (out : ℕ) (name : List ℕ) (fault : List ℕ → Option ℕ) (longest : ℕ) (looked : Looked) (old new disks disks_after : List D) : Type 0 where
    pub found : List (Option RegFile)
    pub read : LanesAreRead out (longest_file longest) name found looked.whys old new
    pub rows : looked.rows.items ≡ map row_of found
    pub named : string_bytes looked.name ≡ name
    pub plan : looked.set ≡ set
    pub longest_is : looked.longest ≡ longest
    pub canonical : IsCanonical (settled_file looked.base)
    pub lawful : IsLawfulPending looked.pending
    pub concludes : Concludes (write_drives set.drives set.parity) (data_drives set.drives set.parity) found looked.base looked.pending
    pub may_forward : MayForward set looked.pending disks disks_after
    pub accepted : fault (content_of looked.base looked.pending) ≡ None
    pub clean : (k : ℕ) → k < length old → IsBitSet looked.clean k ↔ (found_at found k ≡ Some (settled_file looked.base))
    pub none_else : looked.clean < 2 ^ length old
    pub within : length (content_of looked.base looked.pending) ≤ longest
    pub seen : Sees out name old (LookedSeen (write_drives set.drives set.parity) found looked)

  -- too few lanes have a good file; no data drive is called
  pub record IsTooFew (set : SetPlan) (out : ℕ) (name : List ℕ) (longest : ℕ) (whys : List Why) (old new disks disks_after : List D) : Type 0 where
    pub found : List (Option RegFile)
    pub read : LanesAreRead out (longest_file longest) name found whys old new
    pub few : good_rows (map row_of found) < data_drives set.drives set.parity
    pub not_asked : disks_after ≡ disks
    pub seen : Sees out name old (AreSeen found)

  -- the content that is settled, or that a forward would complete, breaks its rule
  pub record IsRefusedContent (set : SetPlan) (out : ℕ) (name : List ℕ) (fault : List ℕ → Option ℕ) (longest : ℕ) (whys : List Why) (old new disks disks_after : List D) : Type 0 where
    pub found : List (Option RegFile)
    pub letters : List Why
    pub read : LanesAreRead out (longest_file longest) name found letters old new
    pub base : Base
    pub pending : Option Next
    pub concludes : Concludes (write_drives set.drives set.parity) (data_drives set.drives set.parity) found base pending
    pub may_forward : MayForward set pending disks disks_after
    pub place : ℕ
    pub broken : fault (content_of base pending) ≡ Some place
    pub counted : length whys ≡ length old
    pub each : (k : ℕ) → k < length old → RefusedLetter (found_at found k) (content_of base pending) place (letter_at letters k) (letter_at whys k)
    pub seen : Sees out name old (RefusedSeen found (content_of base pending))

  -- a change that adds data is pending, and too few data drives have its manifest
  pub record IsUndecided (set : SetPlan) (out : ℕ) (name : List ℕ) (longest k u : ℕ) (whys : List Why) (old new disks disks_after : List D) : Type 0 where
    pub found : List (Option RegFile)
    pub letters : List Why
    pub read : LanesAreRead out (longest_file longest) name found letters old new
    pub base_lane : ℕ
    pub lane : ℕ
    pub verdict : VerdictRule (write_drives set.drives set.parity) (data_drives set.drives set.parity) (map row_of found) (Pending base_lane lane k u)
    pub next : Next
    pub next_is : FindsNext found lane next
    pub adds : Adds
    pub adds_is : next.adds ≡ Some adds
    pub looked_for : AreManifestLetters ghosts set adds whys disks disks_after
    pub few : good_count whys < data_drives (data_plan set adds.id).drives (data_plan set adds.id).parity
    pub seen : Sees out name old (UndecidedSeen (write_drives set.drives set.parity) found base_lane lane next)

  -- each answer of a look with its cause
  abbrev pub Looks : SetPlan → ℕ → List ℕ → (List ℕ → Option ℕ) → ℕ → Result Looked QuorumFault → List D → List D → List D → List D → Type 0
  Looks set out name fault longest (Ok looked) old new disks disks_after = IsLooked set out name fault longest looked old new disks disks_after
  Looks set out name fault longest (Err (ReadQuorum whys)) old new disks disks_after =
      IsTooFew set out name longest whys old new disks disks_after ⊎ IsRefusedContent set out name fault longest whys old new disks disks_after
  Looks set out name fault longest (Err (WriteQuorum _)) old new disks disks_after = ⊥
  Looks set out name fault longest (Err (Undecided k u whys)) old new disks disks_after = IsUndecided set out name longest k u whys old new disks disks_after
  Looks set out name fault longest (Err NoMemory) old new disks disks_after = Unit {0}

  -- too few data drives have a manifest of the data that a change adds
  pub record LacksData (set : SetPlan) (next : Next) (whys : List Why) (old new : List D) : Type 0 where
    pub adds : Adds
    pub adds_is : next.adds ≡ Some adds
    pub looked_for : AreManifestLetters ghosts set adds whys old new
    pub few : good_count whys < data_drives (data_plan set adds.id).drives (data_plan set adds.id).parity

  -- a change that adds data is pending, and too few data drives have a manifest of the data
  pub record IsStopped (set : SetPlan) (found : List (Option RegFile)) (k u : ℕ) (whys : List Why) (old new : List D) : Type 0 where
    pub base_lane : ℕ
    pub lane : ℕ
    pub verdict : VerdictRule (write_drives set.drives set.parity) (data_drives set.drives set.parity) (map row_of found) (Pending base_lane lane k u)
    pub next : Next
    pub next_is : FindsNext found lane next
    pub lacks : LacksData set next whys old new

  -- the verdict over what was read of the lanes, where a pending change may be completed, or why nothing can be said
  abbrev pub IsConcluded : SetPlan → List (Option RegFile) → List Why → Result Concluded QuorumFault → List D → List D → Type 0
  IsConcluded set found letters (Ok said) old new =
      Concludes (write_drives set.drives set.parity) (data_drives set.drives set.parity) found said.base said.pending
      × MayForward set said.pending old new
  IsConcluded set found letters (Err (ReadQuorum whys)) old new =
      (whys ≡ letters) × (good_rows (map row_of found) < data_drives set.drives set.parity) × (new ≡ old)
  IsConcluded set found letters (Err (WriteQuorum _)) old new = ⊥
  IsConcluded set found letters (Err (Undecided k u whys)) old new = IsStopped set found k u whys old new
  IsConcluded set found letters (Err NoMemory) old new = Unit {0}

  -- whether a pending change may be completed
  abbrev pub Forwards : {T : Type 0} → SetPlan → Next → ℕ → ℕ → Result T QuorumFault → List D → List D → Type 0
  Forwards set next k u (Ok _) old new = DataIsThere set next.adds old new
  Forwards set next k u (Err (ReadQuorum _)) old new = ⊥
  Forwards set next k u (Err (WriteQuorum _)) old new = ⊥
  Forwards set next k u (Err (Undecided had unread whys)) old new = (had ≡ k) × (unread ≡ u) × LacksData set next whys old new
  Forwards set next k u (Err NoMemory) old new = Unit {0}

-- the rule keeps what it read of the content that a look accepted
abbrev pub HasRead : {E : Type 0} → (List ℕ → Type 0) → Result Looked E → Type 0
HasRead read (Ok looked) = read (content_of looked.base looked.pending)
HasRead read (Err _) = Unit {0}
