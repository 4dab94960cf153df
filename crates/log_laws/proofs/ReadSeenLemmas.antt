-- What a call of a drive that serves told is so of the files of the data that the drive keeps.
use Rattle.std.proofs.Common.{◌≡◌, ◌⊎◌, ◌∙◌, ◌+◌, ◌<◌, ℕ, IsTrue, List, Option, Some, ap, drop, inl, inr, length, subst, sym, take}
use Rattle.std.specs.Option.{option_map}
use Rattle.std.specs.Int.{IsBitSet}
use Rattle.std.proofs.lemmas.Option.{none-some}
use Rattle.desk_base.specs.Telling.{Effect}
use Rattle.drive_base.specs.Calls.{MadeCall, Seen, Tells}
use Rattle.drive_base.specs.Calls.Seen.{CutShort, Faulted, Missing, Showed, Sized, Unwritten}
use Rattle.drive_base.specs.View.{DriveView, view_at}
use Rattle.drive_base.specs.declared.drive.Drive.{Ghosts}
use Rattle.drive_base.specs.declared.plan.SetPlan.{SetPlan}
use Rattle.file_access.specs.Sights.{WasSo}
use Rattle.file_access.proofs.SightLemmas.{calls_tell_what_was_so}
use Rattle.stamp_id.specs.declared.version.VersionId.{VersionId}
use Rattle.body_print.specs.Names.{manifest_name, shard_name}
use Rattle.manifest_file.specs.Canonical.{IsCanonical}
use Rattle.manifest_file.specs.declared.manifest.Manifest.{Manifest}
use Rattle.slot_history.specs.Contents.{NamedData}
use Rattle.slot_data.specs.Disks.{Disks}
use Rattle.receipts.specs.Events.{Log}
use Rattle.op_steps.specs.Claims.{Claim}
use Rattle.op_steps.specs.Moves.{IsDataName}
use Rattle.op_steps.specs.Serving.{DriveServes}
use Rattle.op_steps.specs.Store.{Store}
use Rattle.log_laws.proofs.ReadFilesLemmas.{IsOfData, KeepsFiles, KeepsManifest, stands_in}
use Rattle.log_laws.proofs.ReadLetterLemmas.{SeenOf}
use Rattle.log_laws.proofs.ReadMomentLemmas.{ReadMoment}

-- a name of data, under which a drive keeps a file
pub record KeepsUnder (set : SetPlan) (whole : VersionId) (m : Manifest) (view : DriveView) (name file : List ℕ) : Type 0 where
  pub id : VersionId
  pub of_data : IsOfData set whole m id
  pub name_is : (name ≡ manifest_name id) ⊎ (name ≡ shard_name id)
  pub kept : view.files.kept name ≡ Some file

-- it keeps it later
kept_later : (set : SetPlan) (whole : VersionId) (m : Manifest) (first mid : List DriveView) (k : ℕ) (name file : List ℕ) → KeepsFiles set whole m first mid
    → k < set.drives → (IsBitSet set.out k → ⊥) → KeepsUnder set whole m (view_at first k) name file → (view_at mid k).files.kept name ≡ Some file
kept_later set whole m first mid k name file keeps inside in_use x = elim x.name_is [
  | inl manifest ↦ subst (λ (n : List ℕ). (view_at mid k).files.kept n ≡ Some file) (sym manifest)
      (keeps.manifests k x.id file inside in_use x.of_data (subst (λ (n : List ℕ). (view_at first k).files.kept n ≡ Some file) manifest x.kept))
  | inr shard ↦ subst (λ (n : List ℕ). (view_at mid k).files.kept n ≡ Some file) (sym shard)
      (keeps.shards k x.id file inside in_use x.of_data (subst (λ (n : List ℕ). (view_at first k).files.kept n ≡ Some file) shard x.kept))
]

same_some : (a b : List ℕ) (w : Option (List ℕ)) → w ≡ Some a → w ≡ Some b → a ≡ b
same_some a b w one two = (let both : Some a ≡ Some b = sym one ∙ two in cc)

same_length : (n : ℕ) (w : Option (List ℕ)) (file : List ℕ) → option_map length w ≡ Some n → w ≡ Some file → n ≡ length file
same_length n w file long is = (let both : Some n ≡ Some (length file) = sym long ∙ ap (option_map length) is in cc)

-- by what was so of a drive that tells and serves
was_of : (Kept : List ℕ → List ℕ → Type 0) (seen : Seen) (out k : ℕ) (old new : DriveView) → WasSo seen old new → IsTrue old.tells
    → DriveServes IsDataName out k old new → ((name file : List ℕ) → Kept name file → old.files.shown name ≡ Some file) → SeenOf Kept seen
was_of Kept (Sized name n) out k old new was told serves shown = λ file kept. same_length n (old.files.shown name) file (was.1 told) (shown name file kept)
was_of Kept (Showed name at bytes) out k old new was told serves shown = λ file kept.
    let x = was.2 told in
    subst (λ (f : List ℕ). bytes ≡ take (length bytes) (drop at f)) (same_some x.0 file (old.files.shown name) x.1 (shown name file kept)) x.2
was_of Kept (CutShort name at long place) out k old new was told serves shown = λ file kept.
    let x = was.1 told in
    subst (λ (f : List ℕ). length f < at + long) (same_some x.0 file (old.files.shown name) x.1 (shown name file kept)) x.2
was_of Kept (Missing name) out k old new was told serves shown = λ file kept. none-some file (sym (was.1 told) ∙ shown name file kept)
was_of Kept (Unwritten name) out k old new was told serves shown = tt
was_of Kept (Faulted name before after) out k old new was told serves shown = serves.calm was.2

module _ {D T : Type 0} (ghosts : Ghosts D) (takes breaks : Effect T) (set : SetPlan) (unseen : Disks) (front rest : List Claim) (slot : ℕ) (small : slot < 64)
    (name : List ℕ) (named : NamedData) (m : Manifest) (canonical : IsCanonical m) (disks : ℕ) (first : List DriveView) (some : KeepsManifest set named.id m first) where
  pub seen_of : (log : Log) (old new : Store D T) (k : ℕ) (made : MadeCall) (seen : Seen) → Tells made seen → k < set.drives → (IsBitSet set.out k → ⊥)
      → IsBitSet disks k → ReadMoment ghosts takes breaks set unseen front rest slot small name named m canonical disks first some log old new k made
      → SeenOf (KeepsUnder set named.id m (view_at first k)) seen
  seen_of log old new k made seen tells inside in_use bit moment =
      let before = moment.x.before in
      let serves = moment.serves bit in
      let at = stands_in ghosts takes breaks set unseen front rest slot small name named before moment.holds in
      was_of (KeepsUnder set named.id m (view_at first k)) seen set.out k (view_at before.disks k) (view_at moment.x.after.disks k)
      (calls_tell_what_was_so made seen (view_at before.disks k) (view_at moment.x.after.disks k) moment.x.step.moves.was_made tells)
      (at.tell.tell k inside in_use) serves (λ given file kept.
      serves.shows given (kept.id, kept.name_is) ∙ kept_later set named.id m first before.disks k given file moment.keeps inside in_use kept)
