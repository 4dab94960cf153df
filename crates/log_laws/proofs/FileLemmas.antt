-- Over a log data drives go on, and those that tell keep what is no data.
use Rattle.std.proofs.Common.{◌≡◌, ◌∙◌, ℕ, IsTrue, List, [], ◌∷◌, length, inl, inr, refl, sym, ap, subst, arith}
use Rattle.std.proofs.lemmas.Bool.{cases_eq, cases_lt}
use Rattle.desk_base.specs.Telling.{Effect}
use Rattle.drive_base.proofs.CallLemmas.{calls_go_on}
use Rattle.drive_base.specs.Calls.{MadeCall}
use Rattle.drive_base.specs.View.{AllOnlyRead, DriveView, GoesOn, view_at}
use Rattle.drive_base.specs.declared.drive.Drive.{Ghosts}
use Rattle.drive_base.specs.declared.plan.SetPlan.{SetPlan}
use Rattle.receipts.specs.Events.{Event}
use Rattle.receipts.specs.Events.Event.{BarredFrom, Called, Fed, Told, Turned}
use Rattle.op_steps.specs.Claims.{Claim}
use Rattle.op_steps.specs.Moves.{DrivesKeep, CallMoves, KeepsOthers}
use Rattle.log_laws.specs.Laws.{RanKeepsFiles}
use Rattle.op_steps.specs.Steps.{StepMoves}
use Rattle.op_steps.specs.Store.{Store}
use Rattle.op_steps.proofs.OwnFileLemmas.{keeps_twice, own_calls_keep_others, same_files}
use Rattle.op_steps.proofs.TrailLemmas.{past_same}

-- a drive that stays
same_goes : (old new : DriveView) → new ≡ old → GoesOn old new
same_goes old new same = subst (λ (v : DriveView). GoesOn old v) (sym same) (record { tells = refl; count = omega arith })

same_keeps : (old new : DriveView) → new ≡ old → KeepsOthers old.files new.files
same_keeps old new same = same_files old.files new.files (ap (λ (v : DriveView). v.files) same)

-- drives that stay
pub drives_stay : (old new : List DriveView) → new ≡ old → DrivesKeep old new
drives_stay old new same = record {
  long = ap (λ (l : List DriveView). length l) same;
  goes_on = λ k. same_goes (view_at old k) (view_at new k) (ap (λ (l : List DriveView). view_at l k) same);
  keeps = λ k told. same_keeps (view_at old k) (view_at new k) (ap (λ (l : List DriveView). view_at l k) same);
}

goes_twice : (old mid new : DriveView) → GoesOn old mid → GoesOn mid new → GoesOn old new
goes_twice old mid new first second = record {
  tells = second.tells ∙ first.tells;
  count = let a = first.count in let b = second.count in omega (arith, a, b);
}

-- by drives that go on twice
pub drives_twice : (old mid new : List DriveView) → DrivesKeep old mid → DrivesKeep mid new → DrivesKeep old new
drives_twice old mid new first second = record {
  long = second.long ∙ first.long;
  goes_on = λ k. goes_twice (view_at old k) (view_at mid k) (view_at new k) (first.goes_on k) (second.goes_on k);
  keeps = λ k told. keeps_twice (view_at old k).files (view_at mid k).files (view_at new k).files (first.keeps k told)
      (second.keeps k (subst (λ b. IsTrue b) (sym (first.goes_on k).tells) told));
}

-- what a drive that tells has stays where drives are only read
pub read_files : (old new : List DriveView) (k : ℕ) → AllOnlyRead old new → IsTrue (view_at old k).tells → (view_at new k).files ≡ (view_at old k).files
read_files old new k read told = elim (cases_lt k (length old)) [
  | inl inside ↦ (read.each k inside).files told
  | inr past ↦ ap (λ (v : DriveView). v.files) (past_same old new k read.long past)
]

-- drives that were only read
drives_read : (old new : List DriveView) → AllOnlyRead old new → DrivesKeep old new
drives_read old new read = record {
  long = read.long;
  goes_on = λ k. elim (cases_lt k (length old)) [
    | inl inside ↦ (read.each k inside).goes_on
    | inr past ↦ same_goes (view_at old k) (view_at new k) (past_same old new k read.long past)
  ];
  keeps = λ k told. elim (cases_lt k (length old)) [
    | inl inside ↦ same_files (view_at old k).files (view_at new k).files ((read.each k inside).files told)
    | inr past ↦ same_keeps (view_at old k) (view_at new k) (past_same old new k read.long past)
  ];
}

-- drives of which one was called
drives_called : (set : SetPlan) (j : ℕ) (made : MadeCall) (claim later : Claim) (old new : List DriveView) → CallMoves set j made claim later old new → DrivesKeep old new
drives_called set j made claim later old new x = record {
  long = x.long;
  goes_on = λ k. elim (cases_eq k j) [
    | inl own ↦ subst (λ i. GoesOn (view_at old i) (view_at new i)) (sym own)
        (calls_go_on made.call (view_at old j) (view_at new j) x.was_made.model)
    | inr other ↦ same_goes (view_at old k) (view_at new k) (x.others k other)
  ];
  keeps = λ k told. elim (cases_eq k j) [
    | inl own ↦ subst (λ i. KeepsOthers (view_at old i).files (view_at new i).files) (sym own)
        (own_calls_keep_others claim made.call (view_at old j) (view_at new j) x.may x.was_made.model (subst (λ i. IsTrue (view_at old i).tells) own told))
    | inr other ↦ same_keeps (view_at old k) (view_at new k) (x.others k other)
  ];
}

module _ {D T : Type 0} (ghosts : Ghosts D) (takes breaks : Effect T) where
  -- one step
  step_files : (set : SetPlan) (event : Event) (old new : Store D T) → StepMoves ghosts takes breaks set event old new → DrivesKeep old.disks new.disks
  step_files set (Turned k made shown) old new x =
      subst (λ (s : Store D T). DrivesKeep old.disks s.disks) (sym x.leaves) (drives_read old.disks x.disks x.moves.read)
  step_files set (BarredFrom k why) old new x = drives_stay old.disks new.disks (ap (λ (s : Store D T). s.disks) x.leaves)
  step_files set (Called k made) old new x = drives_called set k made old.claim new.claim old.disks new.disks x.moves
  step_files set (Fed bytes cut) old new x = drives_stay old.disks new.disks (ap (λ (s : Store D T). s.disks) x.leaves)
  step_files set (Told telling cut) old new x = drives_stay old.disks new.disks (ap (λ (s : Store D T). s.disks) x.leaves)

  -- and a log
  pub files_keep : RanKeepsFiles ghosts takes breaks
  files_keep set [] old new same = drives_stay old.disks new.disks (ap (λ (s : Store D T). s.disks) same)
  files_keep set (event ∷ log) old new (mid, moves, ran) =
      drives_twice old.disks mid.disks new.disks (step_files set event old mid moves) (files_keep set log mid new ran)
