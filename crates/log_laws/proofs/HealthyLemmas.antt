-- A lane that had no fault keeps the change that a section made.
use Rattle.std.proofs.Common.{◌≡◌, ℕ, refl}
use Rattle.std.specs.Prelude.{IsTrue, slice_index_or}
use Rattle.std.specs.Int.{IsBitSet}
use Rattle.call_types.specs.declared.why.FileKind.TheVariants.{Format, Manifest, Register, Shard}
use Rattle.call_types.specs.declared.why.Why.{Why}
use Rattle.call_types.specs.declared.why.Why.TheVariants.{Behind, Damaged, Failed, Good, Lacks}
use Rattle.drive_base.specs.declared.drive.Drive.{Ghosts}
use Rattle.fault_base.specs.Counts.{Rose}
use Rattle.register_core.specs.LaneWrites.{letter_at}
use Rattle.log_laws.specs.HealthyLanes.{HealthyLanesKeep}
use Rattle.op_steps.specs.ChangeLetters.{LaneLetter}
use Rattle.op_steps.proofs.ManifestLemmas.{rose_wider}

module _ {D : Type 0} (ghosts : Ghosts D) where
  healthy_good : (out k : ℕ) (why : Why) (old new : D) → LaneLetter ghosts out k why old new → (IsBitSet out k → ⊥) → IsTrue (ghosts.tells old)
      → (Rose (ghosts.count old) (ghosts.count new) → ⊥) → why ≡ Good
  healthy_good out k Good old new letter used told calm = refl
  healthy_good out k (Failed before after) old new letter used told calm = absurd (calm (rose_wider before after (ghosts.count old) (ghosts.count new) letter.1))
  healthy_good out k (Damaged damage) old new letter used told calm = absurd letter
  healthy_good out k (Behind ballot) old new letter used told calm = absurd letter
  healthy_good out k (Lacks Format) old new letter used told calm = absurd (used letter)
  healthy_good out k (Lacks Register) old new letter used told calm = absurd (letter.1 told)
  healthy_good out k (Lacks Manifest) old new letter used told calm = absurd letter
  healthy_good out k (Lacks Shard) old new letter used told calm = absurd letter

  pub healthy_keep : HealthyLanesKeep ghosts
  healthy_keep was now name change records state letters stands k d low used told calm = letters.marked records state stands k d low
      (healthy_good was.numbers.set.out k (letter_at letters.whys k) (slice_index_or was.lanes k d) (slice_index_or now.lanes k d) (letters.each k d low) used told calm)
