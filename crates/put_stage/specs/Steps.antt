-- What comes next for a stage, and what one step does.
use Rattle.std.specs.Prelude.{◌≡◌, ◌≢◌, ◌⊎◌, ◌<◌, ℕ, Bool, true, false, IsTrue, List, length, slice_index_or, slice_set, None, Option, MatchOption, Result, Ok, Err}
use Rattle.std.specs.Int.{IsBitSet}
use Rattle.call_types.specs.Good.{is_good}
use Rattle.call_types.specs.declared.why.FileKind.{FileKind}
use Rattle.call_types.specs.declared.why.FileKind.TheVariants.{Manifest as ManifestKind, Shard as ShardKind}
use Rattle.call_types.specs.declared.why.Why.{Why}
use Rattle.call_types.specs.declared.why.Why.TheVariants.{Good, Failed, Damaged, Behind, Lacks}
use Rattle.fault_base.specs.Counts.{Rose}
use Rattle.drive_base.specs.declared.drive.Drive.{Ghosts}
use Rattle.drive_base.specs.View.{view}
use Rattle.put_stage.specs.Calls.{CallsDue}
use Rattle.put_stage.specs.Cells.{DataCells, Spares, data_of}
use Rattle.put_stage.specs.Dues.{after, is_block, is_nothing}
use Rattle.put_stage.specs.StripeBlocks.{block_at}
use Rattle.put_stage.specs.Work.{AtWork, Blocks, Disagrees, HasBy, IsBefore, IsOfDrive, due_at, why_at}
use Rattle.put_stage.specs.declared.dues.Due.{Due}
use Rattle.put_stage.specs.declared.dues.Due.TheVariants.{Block, Table, SyncShard, Manifest, SyncManifest, PlaceManifest, PlaceShard, Nothing}
use Rattle.put_stage.specs.declared.stage.Load.{Load}
use Rattle.put_stage.specs.declared.stage.Stage.{Stage}
use Rattle.put_stage.specs.declared.stage.StageNext.{StageNext}
use Rattle.put_stage.specs.declared.stage.StageNext.TheVariants.{Fill, Step, Finish}

-- drive k did all calls so far
abbrev pub Serves : Stage → ℕ → Type 0
Serves stage k = is_good (why_at stage k) ≡ true

-- no drive that serves waits for its block of the last stripe
abbrev pub HasAppended : Stage → Type 0
HasAppended stage = (k : ℕ) → k < stage.load.set.drives → Serves stage k → is_block (due_at stage k) ≡ false

-- no drive that serves has a call left
abbrev pub HasDone : Stage → Type 0
HasDone stage = (k : ℕ) → k < stage.load.set.drives → Serves stage k → is_nothing (due_at stage k) ≡ true

-- a call is due on drive k: its block, or what follows once the body is whole
pub record IsDue (stage : Stage) (k : ℕ) : Type 0 where
  pub within : k < stage.load.set.drives
  pub serves : Serves stage k
  pub agrees : Disagrees stage.load → ⊥
  pub call : (is_block (due_at stage k) ≡ true) ⊎ ((stage.load.left ≡ 0) × (is_nothing (due_at stage k) ≡ false))

-- of the calls that are due it is the first one: blocks come before all else, and then each drive by its place
pub record IsFirst (stage : Stage) (k : ℕ) : Type 0 where
  pub blocks : is_block (due_at stage k) ≡ false → HasAppended stage
  pub waits : (j : ℕ) → j < k → Serves stage j → is_block (due_at stage k) ≡ true → is_block (due_at stage j) ≡ false
  pub left : (j : ℕ) → j < k → Serves stage j → is_block (due_at stage k) ≡ false → is_nothing (due_at stage j) ≡ true

-- the first drive that serves and waits for its block, or none does
abbrev pub FindsBlock : Stage → Option ℕ → Type 0
FindsBlock stage found = MatchOption found (HasAppended stage) (λ k. (k < stage.load.set.drives) × Serves stage k × (is_block (due_at stage k) ≡ true)
    × ((j : ℕ) → j < k → Serves stage j → is_block (due_at stage j) ≡ false))

-- the first drive that serves and has a call left, or none has
abbrev pub FindsLater : Stage → Option ℕ → Type 0
FindsLater stage found = MatchOption found (HasDone stage) (λ k. (k < stage.load.set.drives) × Serves stage k × (is_nothing (due_at stage k) ≡ false)
    × ((j : ℕ) → j < k → Serves stage j → is_nothing (due_at stage j) ≡ true))

-- the drive on which the next call is due, or none is
abbrev pub FindsDue : Stage → Option ℕ → Type 0
FindsDue stage found = MatchOption found (Disagrees stage.load ⊎ (HasAppended stage × ((stage.load.left ≡ 0) → HasDone stage)))
    (λ k. IsDue stage k × IsFirst stage k)

-- bytes may be taken
pub record MayFill (stage : Stage) : Type 0 where
  pub some : 0 < stage.load.left
  pub appended : HasAppended stage

-- the answer stands
pub record MayFinish (stage : Stage) : Type 0 where
  pub whole : stage.load.left ≡ 0
  pub over : Disagrees stage.load ⊎ HasDone stage

-- what comes next
abbrev pub IsNext : Stage → StageNext → Type 0
IsNext stage Fill = MayFill stage
IsNext stage Step = (k : ℕ) × IsDue stage k
IsNext stage Finish = MayFinish stage

-- a call did not find the loose file that it needs, which is of this kind, and is not there where the drive tells
abbrev pub LacksFor : Due → FileKind → Bool → DataCells → Type 0
LacksFor Block kind told cells = ⊥
LacksFor Table kind told cells = ⊥
LacksFor SyncShard kind told cells = (kind ≡ ShardKind) × (IsTrue told → cells.loose_shard ≡ None)
LacksFor Manifest kind told cells = ⊥
LacksFor SyncManifest kind told cells = (kind ≡ ManifestKind) × (IsTrue told → cells.loose_manifest ≡ None)
LacksFor PlaceManifest kind told cells = (kind ≡ ManifestKind) × (IsTrue told → cells.loose_manifest ≡ None)
LacksFor PlaceShard kind told cells = (kind ≡ ShardKind) × (IsTrue told → cells.loose_shard ≡ None)
LacksFor Nothing kind told cells = ⊥

-- the letter that one call leaves, with what the drive had before it, and the counts of its faults before and after it
abbrev pub LetterOf : Result (Unit {0}) Why → Due → Bool → DataCells → ℕ → ℕ → Type 0
LetterOf (Ok _) due told cells old new = new ≡ old
LetterOf (Err Good) due told cells old new = ⊥
LetterOf (Err (Failed before after)) due told cells old new = (before ≡ old) × (after ≡ new) × Rose old new
LetterOf (Err (Damaged _)) due told cells old new = ⊥
LetterOf (Err (Behind _)) due told cells old new = ⊥
LetterOf (Err (Lacks kind)) due told cells old new = LacksFor due kind told cells × (new ≡ old)

-- a stage after a call on drive k that answered so: the next call is due there, or the letter says why not
abbrev pub IsAfter : Result (Unit {0}) Why → ℕ → Stage → Stage → Type 0
IsAfter (Ok _) k old new = (new.whys ≡ old.whys) × (new.dues ≡ slice_set old.dues k (after old.load.alone (due_at old k)))
IsAfter (Err why) k old new = (new.whys ≡ slice_set old.whys k why) × (new.dues ≡ old.dues)

-- what a drive has after a call that answered so
abbrev pub HasAfter : Result (Unit {0}) Why → Bool → Due → List ℕ → List ℕ → Blocks → DataCells → DataCells → Type 0
HasAfter (Ok _) alone due next manifest blocks before cells = HasBy Good (after alone due) next manifest blocks before cells
HasAfter (Err why) alone due next manifest blocks before cells = HasBy why due next manifest blocks before cells

module _ {D : Type 0} (ghosts : Ghosts D) where
  -- what a drive that tells has of a stage after a call of it, where it had what is due
  abbrev pub CallWorks : Load → ℕ → Due → Result (Unit {0}) Why → D → D → Type 0
  CallWorks load k due result old new = (blocks : Blocks) (first : DataCells) → IsOfDrive load k blocks → IsTrue (ghosts.tells old)
      → IsBefore due (block_at k load.window) load.made.manifest.items blocks first (data_of load.names.id (ghosts.files old))
      → HasAfter result load.alone due (block_at k load.window) load.made.manifest.items blocks first (data_of load.names.id (ghosts.files new))

  -- the first call that is due, on drive k, which is not out, and none on another
  pub record Stepped (k : ℕ) (old new : Stage) (before after : List D) : Type 0 where
    pub due : IsDue old k
    pub order : IsFirst old k
    pub placed : k < length old.dues
    pub in_use : IsBitSet old.load.set.out k → ⊥
    pub answer : Result (Unit {0}) Why
    pub stage : IsAfter answer k old new
    pub letter : (d : D) → LetterOf answer (due_at old k) (ghosts.tells (slice_index_or before k d))
        (data_of old.load.names.id (ghosts.files (slice_index_or before k d)))
        (ghosts.count (slice_index_or before k d)) (ghosts.count (slice_index_or after k d))
    pub spares : (d : D) → IsTrue (ghosts.tells (slice_index_or before k d))
        → Spares old.load.names.id (ghosts.files (slice_index_or before k d)) (ghosts.files (slice_index_or after k d))
    pub called : (d : D) → CallsDue old.load k (due_at old k) answer (view ghosts (slice_index_or before k d)) (view ghosts (slice_index_or after k d))
    pub others : (other : ℕ) (d : D) → other ≢ k → slice_index_or after other d ≡ slice_index_or before other d

  -- one call of a drive, or none where none is due
  abbrev pub StepsOnce : Stage → Stage → List D → List D → Type 0
  StepsOnce old new before after = ((k : ℕ) × Stepped k old new before after)
      ⊎ (((k : ℕ) → IsDue old k → ⊥) × (new ≡ old) × (after ≡ before))

  -- each drive that tells has what a stage says of it, where it had it before
  abbrev pub StepWorks : Stage → Stage → List D → List D → Type 0
  StepWorks old new before after = (k : ℕ) (d : D) (blocks : Blocks) (first : DataCells) → k < old.load.set.drives → IsOfDrive old.load k blocks
      → IsTrue (ghosts.tells (slice_index_or before k d)) → AtWork old blocks k first (data_of old.load.names.id (ghosts.files (slice_index_or before k d)))
      → AtWork new blocks k first (data_of old.load.names.id (ghosts.files (slice_index_or after k d)))
