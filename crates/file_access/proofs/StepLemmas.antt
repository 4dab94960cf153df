-- Causes of steps, where it is known otherwise that what they need is there.
use Rattle.std.proofs.Common.{◌≡◌, ℕ, List, ◌++◌, Result, Ok, Err, Some, false, refl, ap, subst, ◌∙◌}
use Rattle.std.proofs.lemmas.Map.{update_same}
use Rattle.std.proofs.lemmas.Slice.Eq.{bytes_eq-Decides}
use Rattle.std.specs.Str.{bytes_eq}
use Rattle.call_types.specs.declared.why.FileKind.{FileKind}
use Rattle.call_types.specs.declared.why.Why.{Why}
use Rattle.call_types.specs.declared.why.Why.TheVariants.{Good, Failed, Damaged, Behind, Lacks}
use Rattle.drive_base.specs.Files.{Files, LooseFile}
use Rattle.drive_base.specs.Leaves.{loose_bytes}
use Rattle.file_access.specs.Writing.{Appended, HasLoose, StepCause, Stopped}

-- a loose file that was appended to is there
pub appended_there : (loose bytes : List ℕ) (old new : Files) → Appended loose bytes old new → HasLoose new loose
appended_there loose bytes old new is =
    let file : LooseFile = record { bytes = loose_bytes (old.loose loose) ++ bytes; synced = false } in
    (file, ap (λ (files : Files). files.loose loose) is ∙ update_same bytes_eq old.loose loose (Some file) loose ((bytes_eq-Decides loose loose).1 refl))

stopped_there : (kind : FileKind) (there known : Type 0) (why : Why) (old new : ℕ) → (known → there) → Stopped kind there why old new → Stopped kind known why old new
stopped_there kind there known Good old new so stopped = stopped
stopped_there kind there known (Failed before after) old new so stopped = stopped
stopped_there kind there known (Damaged damage) old new so stopped = stopped
stopped_there kind there known (Behind ballot) old new so stopped = stopped
stopped_there kind there known (Lacks lacked) old new so stopped = (stopped.0, (λ is. stopped.1 (so is)), stopped.2)

cause_there : {T : Type 0} (kind : FileKind) (there known : Type 0) (result : Result T Why) (old new : ℕ) → (known → there)
    → StepCause kind there result old new → StepCause kind known result old new
cause_there kind there known (Ok value) old new so cause = cause
cause_there kind there known (Err why) old new so cause = stopped_there kind there known why old new so cause

-- the cause of a step that needs what is known to be there, since an earlier count
pub step_there : {T : Type 0} (kind : FileKind) (there known : Type 0) (result : Result T Why) (old mid new : ℕ) → mid ≡ old → (known → there)
    → StepCause kind there result mid new → StepCause kind known result old new
step_there {T} kind there known result old mid new same so cause =
    cause_there kind there known result old new so (subst (λ (n : ℕ). StepCause kind there result n new) same cause)
