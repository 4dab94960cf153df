-- Data drives that keep what is no data go on to rest.
use Rattle.std.proofs.Common.{◌≡◌, ◌<◌, ◌≤◌, ◌∙◌, ℕ, List, length, inl, inr, sym, subst, arith}
use Rattle.std.specs.Prelude.{IsTrue}
use Rattle.drive_base.specs.DriveSet.{count_in}
use Rattle.drive_base.specs.Files.{Files}
use Rattle.drive_base.specs.HonestDamage.{IsHonestAt}
use Rattle.drive_base.specs.Plan.{write_drives}
use Rattle.drive_base.specs.View.{DriveView, view_at}
use Rattle.drive_base.specs.declared.plan.SetPlan.{SetPlan}
use Rattle.slot_history.proofs.NameLemmas.{first_bytes}
use Rattle.op_steps.specs.Moves.{IsDataName, KeepsOthers}
use Rattle.term_gate.specs.Formats.{IsUnsealed, format_name}
use Rattle.term_gate.specs.Terms.{IsKept, KeepsTerm}
use Rattle.store_shared.specs.Holders.{IsLastUsed, KeptDrivesRest}

-- a format's name is none of data
no_data : IsDataName format_name → ⊥
no_data (id, inl same) = first_bytes 102 109 _ _ (λ is. omega arith) same
no_data (id, inr same) = first_bytes 102 115 _ _ (λ is. omega arith) same

-- so a format stays honest
honest_stays : (old new : Files) → KeepsOthers old new → IsHonestAt IsUnsealed format_name old → IsHonestAt IsUnsealed format_name new
honest_stays old new keeps (inl same) = inl (keeps.shown format_name no_data ∙ (same ∙ sym (keeps.kept format_name no_data)))
honest_stays old new keeps (inr (bytes, is, unsealed)) = inr (bytes, keeps.shown format_name no_data ∙ is, unsealed)

-- and its term kept
term_stays : (used : ℕ) (old new : DriveView) → KeepsOthers old.files new.files → KeepsTerm used old → KeepsTerm used new
term_stays used old new keeps kept = record {
  found = kept.found;
  canonical = kept.canonical;
  kept = keeps.kept format_name no_data ∙ kept.kept;
  least = kept.least;
}

pub kept_stays : (set : SetPlan) (used : ℕ) (old new : List DriveView) → length new ≡ length old
    → ((k : ℕ) → k < length old → KeepsOthers (view_at old k).files (view_at new k).files) → IsKept set used old → IsKept set used new
kept_stays set used old new long keeps kept = record {
  holders = kept.holders;
  enough = subst (λ (n : ℕ). write_drives set.drives set.parity ≤ count_in kept.holders n) (sym long) kept.enough;
  each = λ k inside bit. (let here : k < length old = omega (arith, inside, long) in
      term_stays used (view_at old k) (view_at new k) (keeps k here) (kept.each k here bit));
}

terms_stay : (set : SetPlan) (used : ℕ) (old new : List DriveView) → length new ≡ length old
    → ((k : ℕ) → k < length old → KeepsOthers (view_at old k).files (view_at new k).files) → IsLastUsed set used old → IsLastUsed set used new
terms_stay set used old new long keeps (inl none) = inl none
terms_stay set used old new long keeps (inr kept) = inr (kept_stays set used old new long keeps kept)

pub kept_drives_rest : KeptDrivesRest
kept_drives_rest set used lost old new went rest are =
    let here : (k : ℕ) → k < length new → k < length old = λ k inside. (let same = went.long in omega (arith, same, inside)) in
    let keeps : (k : ℕ) → k < length old → KeepsOthers (view_at old k).files (view_at new k).files = λ k inside. went.keeps k (rest.tell k inside tt) in (
      record {
        count = went.long ∙ rest.count;
        tell = λ k inside any. subst IsTrue (sym (went.goes_on k).tells) (rest.tell k (here k inside) tt);
        honest = λ k inside. honest_stays (view_at old k).files (view_at new k).files (keeps k (here k inside)) (rest.honest k (here k inside));
        last = terms_stay set used old new went.long keeps rest.last;
      },
      record {
        within = are.within;
        lived = are.lived;
        lack = λ k bit.
            let inside : k < length old = (let within = are.within k bit in let same = rest.count in omega (arith, within, same)) in
            (keeps k inside).shown format_name no_data ∙ are.lack k bit;
      },
    )
