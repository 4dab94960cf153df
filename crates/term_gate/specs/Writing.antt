-- What writing the formats leaves.
use Rattle.std.specs.Prelude.{◌≡◌, ◌⊎◌, ℕ, ◌<◌, IsTrue, List, [], None, length, slice_index_or, Result, Ok, Err}
use Rattle.std.specs.Int.{IsBitSet}
use Rattle.call_types.specs.declared.why.FileKind.TheVariants.{Format}
use Rattle.call_types.specs.declared.why.Why.{Why}
use Rattle.call_types.specs.declared.why.Why.TheVariants.{Good, Failed, Damaged, Behind, Lacks}
use Rattle.drive_base.specs.View.{AtEach, DriveView, GoesOn}
use Rattle.drive_base.specs.declared.plan.SetPlan.{SetPlan}
use Rattle.file_access.specs.Writing.{Touches, WriteCause, WriteLeaves}
use Rattle.fault_base.specs.Counts.{Rose}
use Rattle.term_gate.specs.Formats.{format_name, format_of, loose_format_name}
use Rattle.term_gate.specs.Reading.{why_at}
use Rattle.term_gate.specs.Table.{IsCanonical, format_file}

-- the file of the format of a drive of a set, with a term
abbrev pub file_for : SetPlan → ℕ → ℕ → List ℕ
file_for set k term = format_file (format_of set k term)

-- these are the format files of a set with a term, one for each drive
pub record AreFiles (set : SetPlan) (term : ℕ) (files : List (List ℕ)) : Type 0 where
  pub counted : length files ≡ set.drives
  pub each : (k : ℕ) → k < set.drives → slice_index_or files k [] ≡ file_for set k term
  pub canonical : (k : ℕ) → k < set.drives → IsCanonical (format_of set k term)

-- nothing stands under a loose name, and nothing else was changed; or the drive failed
abbrev pub Clears : {T : Type 0} → List ℕ → Result T Why → DriveView → DriveView → Type 0
Clears loose (Ok _) old new = GoesOn old new × (new.count ≡ old.count) × (IsTrue old.tells → Touches loose old.files new.files × (new.files.loose loose ≡ None))
Clears loose (Err Good) old new = ⊥
Clears loose (Err (Failed before after)) old new = GoesOn old new × ((before ≡ old.count) × (after ≡ new.count) × Rose old.count new.count)
    × (IsTrue old.tells → Touches loose old.files new.files)
Clears loose (Err (Damaged _)) old new = ⊥
Clears loose (Err (Behind _)) old new = ⊥
Clears loose (Err (Lacks _)) old new = ⊥

-- a format file was written on a drive, or the write didn't succeed, which left the file in place or nothing
pub record FormatIsWritten (file : List ℕ) (term k : ℕ) (why : Why) (old new : DriveView) : Type 0 where
  pub leaves : IsTrue old.tells → WriteLeaves why (loose_format_name term k) format_name file old.files new.files
  pub cause : WriteCause Format (IsTrue old.tells) why old.count new.count
  pub goes_on : GoesOn old new

-- a drive was passed over: it wasn't called
pub record IsPassed (passed k : ℕ) (other why : Why) (old new : DriveView) : Type 0 where
  pub in_it : IsBitSet passed k
  pub letter : why ≡ other
  pub stays : new ≡ old

-- a drive was passed over, or its format was written
abbrev pub DriveIsWritten : List ℕ → ℕ → ℕ → Why → ℕ → Why → DriveView → DriveView → Type 0
DriveIsWritten file term passed other k why old new = IsPassed passed k other why old new
    ⊎ ((IsBitSet passed k → ⊥) × FormatIsWritten file term k why old new)

-- the formats of a set were written with a term on all drives but those passed over
pub record AreWritten (set : SetPlan) (term passed : ℕ) (other : Why) (whys : List Why) (old new : List DriveView) : Type 0 where
  pub lettered : length whys ≡ length old
  pub canonical : (k : ℕ) → k < length old → IsCanonical (format_of set k term)
  pub drives : AtEach (λ k. DriveIsWritten (file_for set k term) term passed other k (why_at whys k)) old new
