-- Data drives go on to rest: they tell, keep the term of the life, and show their formats honestly.
use Rattle.std.proofs.Common.{◌≡◌, ◌<◌, ◌≤◌, ◌∙◌, ℕ, List, [], ◌∷◌, Some, length, inl, inr, sym, subst, arith}
use Rattle.std.specs.Prelude.{IsTrue}
use Rattle.desk_base.specs.Telling.{Effect}
use Rattle.drive_base.specs.DriveSet.{count_in}
use Rattle.drive_base.specs.Files.{Named}
use Rattle.drive_base.specs.Plan.{write_drives}
use Rattle.drive_base.specs.View.{AtEach, DriveView, view_at}
use Rattle.drive_base.specs.declared.drive.Drive.{Ghosts}
use Rattle.drive_base.specs.declared.plan.SetPlan.{SetPlan}
use Rattle.log_laws.specs.Laws.{RanKeepsFiles}
use Rattle.op_steps.specs.Troubles.{IsTroubled}
use Rattle.op_steps.specs.declared.op.Op.{Ghosts as Ops}
use Rattle.store_shared.specs.Holders.{AreLost, DrivesRest, IsLastUsed, KeptDrivesRest}
use Rattle.term_gate.specs.Formats.{format_name}
use Rattle.term_gate.specs.Terms.{KeepsTerm}
use Rattle.term_gate.specs.Table.{format_file}
use Rattle.drill_steps.specs.Laws.{FormatsAreHonest, IsHonestRun}
use Rattle.drill_steps.specs.Worlds.{Move, World, WorldRan, store_with}
use Rattle.drill_steps.specs.Worlds.Move.{Ended, Hurt, Started, Stepped, Struck}
use Rattle.drill_steps.proofs.HonestLemmas.{formats_stay, troubled_keep}

-- a drive tells and keeps what it did
pub record TellsAndKeeps (old new : DriveView) : Type 0 where
  pub tells : new.tells ≡ old.tells
  pub kept : IsTrue old.tells → new.files.kept ≡ old.files.kept

-- a term that was kept is kept
term_stays : (used : ℕ) (old new : DriveView) → IsTrue old.tells → TellsAndKeeps old new → KeepsTerm used old → KeepsTerm used new
term_stays used old new told same kept = record {
  found = kept.found;
  canonical = kept.canonical;
  kept = subst (λ (files : Named (List ℕ)). files format_name ≡ Some (format_file kept.found)) (sym (same.kept told)) kept.kept;
  least = kept.least;
}

last_stays : (set : SetPlan) (used : ℕ) (old new : List DriveView) → length new ≡ length old
    → ((k : ℕ) → k < length old → IsTrue (view_at old k).tells × TellsAndKeeps (view_at old k) (view_at new k)) → IsLastUsed set used old
    → IsLastUsed set used new
last_stays set used old new long same (inl none) = inl none
last_stays set used old new long same (inr kept) = inr (record {
  holders = kept.holders;
  enough = subst (λ (n : ℕ). write_drives set.drives set.parity ≤ count_in kept.holders n) (sym long) kept.enough;
  each = λ k inside bit. (let here : k < length old = omega (arith, inside, long) in
      let one = same k here in term_stays used (view_at old k) (view_at new k) one.0 one.1 (kept.each k here bit));
})

-- drives that were struck, and show their formats honestly, rest
pub struck_rest : (set : SetPlan) (used lost : ℕ) (old new : List DriveView) → length new ≡ length old
    → ((k : ℕ) → k < length old → TellsAndKeeps (view_at old k) (view_at new k)) → FormatsAreHonest lost new → DrivesRest set used old → AreLost set used lost old
    → DrivesRest set used new × AreLost set used lost new
struck_rest set used lost old new long same honest rest are = (
  record {
    count = long ∙ rest.count;
    tell = λ k inside any. (let here : k < length old = omega (arith, inside, long) in
        subst IsTrue (sym (same k here).tells) (rest.tell k here tt));
    honest = honest.honest;
    last = last_stays set used old new long (λ k inside. (rest.tell k inside tt, same k inside)) rest.last;
  },
  record { within = are.within; lived = are.lived; lack = honest.lack },
)

-- drives that trouble befell tell and keep what they did
tells_and_keeps : (old new : List DriveView) → AtEach (λ k. IsTroubled) old new → (k : ℕ) → k < length old → TellsAndKeeps (view_at old k) (view_at new k)
tells_and_keeps old new x k inside = (let one = x.each k inside in record { tells = one.tells; kept = one.kept })

module _ {D O T : Type 0} (ghosts : Ghosts D) (takes breaks : Effect T) (ops : Ops O) (plan : SetPlan) (files : RanKeepsFiles ghosts takes breaks)
    (kept : KeptDrivesRest) where
  -- so do those of a world, over any moves
  pub moves_rest : (moves : List Move) (used : ℕ) (old new : World D O T) (ran : WorldRan ghosts takes breaks ops plan moves old new)
      → IsHonestRun ghosts takes breaks ops plan moves old new ran → DrivesRest plan used old.disks → AreLost plan used plan.out old.disks
      → DrivesRest plan used new.disks × AreLost plan used plan.out new.disks
  moves_rest [] used old new same honest rest are =
      subst (λ (w : World D O T). DrivesRest plan used w.disks × AreLost plan used plan.out w.disks) (sym same) (rest, are)
  moves_rest (Stepped number more ∷ moves) used old new (mid, x, ran) honest rest are =
      let went = files plan more (store_with old x.was x.claim) (store_with mid x.now x.later) x.ran in
      let next = kept plan used plan.out old.disks mid.disks went rest are in
      moves_rest moves used mid new ran honest.1 next.0 next.1
  moves_rest (Started number ∷ moves) used old new (mid, x, ran) honest rest are =
      moves_rest moves used mid new ran honest.1 (subst (λ d. DrivesRest plan used d) (sym x.disks) rest)
      (subst (λ d. AreLost plan used plan.out d) (sym x.disks) are)
  moves_rest (Ended number log ∷ moves) used old new (mid, x, ran) honest rest are =
      moves_rest moves used mid new ran honest.1 (subst (λ d. DrivesRest plan used d) (sym x.disks) rest)
      (subst (λ d. AreLost plan used plan.out d) (sym x.disks) are)
  moves_rest (Struck ∷ moves) used old new (mid, x, ran) honest rest are =
      let next = struck_rest plan used plan.out old.disks mid.disks x.trouble.troubled.disks.long (tells_and_keeps old.disks mid.disks x.trouble.troubled.disks)
      (formats_stay plan used plan.out old.disks mid.disks (troubled_keep old.disks mid.disks x.trouble.troubled.disks) x.same.disks rest are) rest are in
      moves_rest moves used mid new ran honest.1 next.0 next.1
  moves_rest (Hurt ∷ moves) used old new (mid, x, ran) honest rest are =
      let next = struck_rest plan used plan.out old.disks mid.disks x.troubled.disks.long (tells_and_keeps old.disks mid.disks x.troubled.disks) honest.0.1 rest are in
      moves_rest moves used mid new ran honest.1 next.0 next.1
