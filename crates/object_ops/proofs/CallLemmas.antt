-- The call that removes a file, what it leaves, and where among the drives it is made.
use Rattle.std.proofs.Common.{◌≡◌, ◌≢◌, ◌⊎◌, ◌<◌, ◌∙◌, ◌+◌, ◌^◌, ◌==◌, ℕ, suc, true, false, bit_and, IsTrue, List, [], ◌∷◌, ◌++◌, All, None, Result, Ok, Err, append-nil, append_assoc, cond, length, slice_index_or, slice_set, get_or-set_other, get_or-set_same, inl, inr, refl, sym, ap, ap₂, subst, subst₂, arith}
use Rattle.std.specs.Int.{IsBitSet}
use Rattle.std.proofs.lemmas.Bool.Decides.{eqb_tells}
use Rattle.std.proofs.lemmas.List.{length-set, map-set, map_push}
use Rattle.drive_base.specs.Calls.{AnswerTells, MadeCall, Seen}
use Rattle.drive_base.specs.Calls.Seen.{CutShort, Faulted, Missing, Showed, Sized, Unwritten}
use Rattle.drive_base.specs.DriveModel.{DriveModel}
use Rattle.drive_base.specs.Files.{with_placed}
use Rattle.drive_base.specs.Trail.{DriveCall, Remove}
use Rattle.drive_base.specs.View.{DriveView, blank_view, view, view_at, views}
use Rattle.drive_base.specs.declared.drive.Drive.{Ghosts}
use Rattle.drive_base.specs.declared.plan.SetPlan.{SetPlan}
use Rattle.stamp_id.specs.declared.version.VersionId.{VersionId}
use Rattle.drive_base.specs.declared.fault.DriveFault.{DriveFault}
use Rattle.drive_base.specs.declared.fault.DriveFault.TheVariants.{Absent, Failed, NoMemory}
use Rattle.drive_base.proofs.ViewLemmas.{length-views, view_at-views}
use Rattle.op_steps.specs.Moves.{SaysUnwritten}
use Rattle.object_ops.specs.Clearing.{RemovesOne, FileOn, RemoveCall, drives_below, files_of, of_drives}
use Rattle.object_ops.specs.DataNames.{name_by}
use Rattle.object_ops.specs.declared.data_files.DataFile.{DataFile}
use Rattle.object_ops.specs.declared.data_files.Removal.{Removal}

-- it tells that nothing was being written under a loose name
abbrev pub IsUnwritten : Seen → Type 0
IsUnwritten (Unwritten loose) = Unit {0}
IsUnwritten (Sized name n) = ⊥
IsUnwritten (Showed name at bytes) = ⊥
IsUnwritten (CutShort name at long place) = ⊥
IsUnwritten (Missing name) = ⊥
IsUnwritten (Faulted name before after) = ⊥

pub told_unwritten : (loose : List ℕ) (seen : Seen) → Unwritten loose ≡ seen → IsUnwritten seen
told_unwritten loose seen is = subst IsUnwritten is tt

-- the call that was made, by its answer
pub removed_so : (name : List ℕ) (result : Result (Unit {0}) DriveFault) (old new : DriveView) → DriveModel (Remove name result) old new
    → (made : MadeCall) × RemoveCall name made old new
removed_so name result old new model = (
  record { call = Remove name result; before = old.count; after = new.count },
  record {
    answer = result;
    is = refl;
    was_made = record { model = model; before = refl; after = refl; bytes = λ place. omega arith };
  },
)

-- what it leaves of a drive
module _ (name : List ℕ) (made : MadeCall) (old new : DriveView) (x : RemoveCall name made old new) where
  -- the file is gone, or all stays
  pub removal_leaves : IsTrue old.tells → (new.files ≡ old.files) ⊎ (new.files ≡ with_placed old.files name None)
  removal_leaves told = by x.answer (subst (λ (c : DriveCall). DriveModel c old new) x.is x.was_made.model)
    where
      by : (answer : Result (Unit {0}) DriveFault) → DriveModel (Remove name answer) old new → (new.files ≡ old.files) ⊎ (new.files ≡ with_placed old.files name None)
      by (Ok done) model = inr (model.files told).1
      by (Err Absent) model = inl (model.files told).1
      by (Err Failed) model = model.files told
      by (Err NoMemory) model = absurd (model.files told)

  -- it tells of no loose file
  pub removal_written : SaysUnwritten made → ⊥
  removal_written says = by x.answer (subst (λ (c : DriveCall). AnswerTells c made.before made.after (Unwritten says.0)) x.is says.1)
    where
      by : (answer : Result (Unit {0}) DriveFault) → AnswerTells (Remove name answer) made.before made.after (Unwritten says.0) → ⊥
      by (Ok done) tells = tells
      by (Err Absent) tells = told_unwritten says.0 (Missing name) tells
      by (Err Failed) tells = told_unwritten says.0 (Faulted name made.before made.after) tells
      by (Err NoMemory) tells = tells

-- one drive of a list was called, and the others are as before
module _ {D : Type 0} (ghosts : Ghosts D) (old : List D) (was now : D) where
  pub seen_at : (k : ℕ) → k < length old → slice_index_or old k was ≡ was → view_at (views ghosts old) k ≡ view ghosts was
  seen_at k low is = view_at-views ghosts old k was low ∙ ap (view ghosts) is

  pub seen_then : (k : ℕ) → k < length old → view_at (views ghosts (slice_set old k now)) k ≡ view ghosts now
  seen_then k low =
      view_at-views ghosts (slice_set old k now) k was (let long = length-set old k now in omega (arith, long, low))
      ∙ ap (view ghosts) (get_or-set_same old k now was low)

  pub beside : (k other : ℕ) → other ≢ k → view_at (views ghosts (slice_set old k now)) other ≡ view_at (views ghosts old) other
  beside k other apart =
      ap (λ (l : List DriveView). view_at l other) (map-set (view ghosts) old k now) ∙ get_or-set_other (views ghosts old) k other (view ghosts now) blank_view apart

  pub called_at : (name : List ℕ) (k : ℕ) → k < length old → slice_index_or old k was ≡ was → (made : MadeCall) × RemoveCall name made (view ghosts was) (view ghosts now)
      → (made : MadeCall) × RemoveCall name made (view_at (views ghosts old) k) (view_at (views ghosts (slice_set old k now)) k)
  called_at name k low is call =
      subst₂ (λ (a b : DriveView). (made : MadeCall) × RemoveCall name made a b) (sym (seen_at k low is)) (sym (seen_then k low)) call

-- the first removal of those that are left was done
pub removes_one : {D : Type 0} (ghosts : Ghosts D) (removal : Removal) (queue less : List Removal) (name : List ℕ) (old new : List D) → queue ≡ removal ∷ less
    → removal.drive < length old → name ≡ name_by removal.kind removal.id → length new ≡ length old
    → (made : MadeCall) × RemoveCall name made (view_at (views ghosts old) removal.drive) (view_at (views ghosts new) removal.drive)
    → ((other : ℕ) → other ≢ removal.drive → view_at (views ghosts new) other ≡ view_at (views ghosts old) other)
    → RemovesOne (files_of queue) (files_of less) (views ghosts old) (views ghosts new)
removes_one ghosts removal queue less name old new first low named long call others = record {
  file = record { id = removal.id; kind = removal.kind; drive = removal.drive };
  first = ap files_of first;
  within = (let viewed = length-views ghosts old in omega (arith, viewed, low));
  made = call.0;
  call = subst (λ (n : List ℕ). RemoveCall n call.0 (view_at (views ghosts old) removal.drive) (view_at (views ghosts new) removal.drive)) named call.1;
  long = length-views ghosts new ∙ (long ∙ sym (length-views ghosts old));
  others = others;
}

-- the first removal is within what all are
pub first_within : (queue less : List Removal) (removal : Removal) (n : ℕ) → queue ≡ removal ∷ less → All (λ (file : FileOn). file.drive < n) (files_of queue)
    → removal.drive < n
first_within queue less removal n first all =
    subst (λ (q : List Removal). All (λ (file : FileOn). file.drive < n) (files_of q)) first all 0 (record { id = removal.id; kind = removal.kind; drive = removal.drive }) (omega arith)

-- ---- removals that are planned

-- the tests of a drive
out_test : (out k : ℕ) → IsBitSet out k → (bit_and out (2 ^ k) == 0) ≡ false
out_test out k is = elim (eqb_tells (bit_and out (2 ^ k)) 0) [
  | inl free ↦ absurd (is free.1)
  | inr differs ↦ differs.0
]

use_test : (out k : ℕ) → (IsBitSet out k → ⊥) → (bit_and out (2 ^ k) == 0) ≡ true
use_test out k in_use = elim (eqb_tells (bit_and out (2 ^ k)) 0) [
  | inl free ↦ free.0
  | inr differs ↦ absurd (in_use differs.1)
]

same_file : (r : Removal) (id : VersionId) (kind : DataFile) (k : ℕ) → r.id ≡ id → r.kind ≡ kind → r.drive ≡ k
    → ◌≡◌ {A = List FileOn} (record { id = r.id; kind = r.kind; drive = r.drive } ∷ []) (record { id = id; kind = kind; drive = k } ∷ [])
same_file r id kind k a b c = λ i. record { id = a i; kind = b i; drive = c i } ∷ []

-- one drive more
pub drive_more : (set : SetPlan) (id : VersionId) (kind : DataFile) (k : ℕ) (front : List FileOn) (old new : List Removal) → IsBitSet set.out k ⊎ (IsBitSet set.out k → ⊥)
    → files_of old ≡ front ++ of_drives id kind (drives_below set k)
    → (IsBitSet set.out k → new ≡ old)
    → ((IsBitSet set.out k → ⊥) → (removal : Removal) × (new ≡ old ++ removal ∷ []) × (removal.id ≡ id) × (removal.kind ≡ kind) × (removal.drive ≡ k))
    → files_of new ≡ front ++ of_drives id kind (drives_below set (k + 1))
drive_more set id kind k front old new (inl out) so_far stays adds =
    let next : k + 1 ≡ suc k = omega arith in
    let none : bit_and set.out (2 ^ k) == 0 ≡ false = out_test set.out k out in
    ap files_of (stays out) ∙ (so_far ∙ ap (λ l. front ++ of_drives id kind l)
    (sym (ap (drives_below set) next ∙ (ap (λ b. drives_below set k ++ cond b (k ∷ []) []) none ∙ append-nil (drives_below set k)))))
drive_more set id kind k front old new (inr in_use) so_far stays adds =
    let next : k + 1 ≡ suc k = omega arith in
    let some : bit_and set.out (2 ^ k) == 0 ≡ true = use_test set.out k in_use in
    let x = adds in_use in
    let below : drives_below set (k + 1) ≡ drives_below set k ++ k ∷ [] = ap (drives_below set) next ∙ ap (λ b. drives_below set k ++ cond b (k ∷ []) []) some in
    ap files_of x.1
    ∙ (map_push (λ (r : Removal). record { id = r.id; kind = r.kind; drive = r.drive }) old x.0
    ∙ (ap₂ (λ (a b : List FileOn). a ++ b) so_far (same_file x.0 id kind k x.2 x.3 x.4)
    ∙ (append_assoc front (of_drives id kind (drives_below set k)) (record { id = id; kind = kind; drive = k } ∷ [])
    ∙ ap (λ l. front ++ l) (sym (ap (of_drives id kind) below ∙ map_push (λ j. record { id = id; kind = kind; drive = j }) (drives_below set k) k)))))
