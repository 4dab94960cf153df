-- Lanes and data drives of which more are lost go on to hold.
use Rattle.std.proofs.Common.{◌≡◌, ◌<◌, ◌^◌, ◌==◌, ◌∙◌, ℕ, Bool, true, false, cond, IsTrue, List, None, bit_and, length, slice_index_or, refl, sym, ap, subst, arith}
use Rattle.std.specs.Int.{IsBitSet}
use Rattle.std.proofs.lemmas.Bool.{eqb-true}
use Rattle.drive_base.specs.Files.{Files, Named}
use Rattle.drive_base.specs.View.{DriveView, view_at, views}
use Rattle.drive_base.specs.declared.drive.Drive.{Ghosts}
use Rattle.drive_base.specs.declared.plan.SetPlan.{SetPlan}
use Rattle.put_stage.specs.Cells.{data_of}
use Rattle.put_stage.specs.Work.{HasNoneLoose}
use Rattle.body_print.specs.Names.{manifest_name, shard_name}
use Rattle.register_core.specs.Loose.{loose_name}
use Rattle.register_core.specs.Records.{HasLane, IsHonest}
use Rattle.vote_core.specs.Lane.{lane_at}
use Rattle.slot_history.specs.Standing.{Records}
use Rattle.slot_data.specs.Disks.{Disks, kept_on}
use Rattle.slot_data.specs.Laws.{NumbersAreDrawn, OutMayChange}
use Rattle.slot_core.specs.Standing.{LanesHave}
use Rattle.slot_core.specs.Views.{last_of}
use Rattle.op_steps.specs.Claims.{HasHonestManifests, disks_of as counted}
use Rattle.op_steps.specs.Leading.{Standing}
use Rattle.store_shared.specs.Holders.{LanesStay, LostRigHolds, SlotRests, spent_numbers}
use Rattle.store_shared.specs.Opening.{with_out}
use Rattle.store_shared.proofs.HolderDataLemmas.{KeepSameData, data_goes_on}
use Rattle.store_shared.proofs.HolderLemmas.{on_drive}

module _ {D : Type 0} (tells : D → Bool) (files : D → Files) where
  -- lanes that are left have the same records
  left_have : (set : SetPlan) (lost more index used : ℕ) (old new : List D) (records : Records) → ((k : ℕ) → IsBitSet lost k → IsBitSet more k)
      → LanesStay more old new → LanesHave tells files (spent_numbers (with_out set lost) index used) old records
      → LanesHave tells files (spent_numbers (with_out set more) index used) new records
  left_have set lost more index used old new records still stay have =
      let was : (k : ℕ) → k < length new → k < length old = λ k inside. (let same = stay.count in omega (arith, same, inside)) in
      let same : (k : ℕ) (d : D) → k < length new → (IsBitSet more k → ⊥) → slice_index_or old k d ≡ slice_index_or new k d =
      λ k d inside in_use. sym (stay.each k d (was k inside) in_use) in
      record {
        tell = λ k d inside in_use. subst (λ (lane : D). IsTrue (tells lane)) (same k d inside in_use)
            (have.tell k d (was k inside) (λ bit. in_use (still k bit)));
        unused = λ k d later inside in_use from fits. subst (λ (lane : D). (files lane).loose (loose_name used later) ≡ None) (same k d inside in_use)
            (have.unused k d later (was k inside) (λ bit. in_use (still k bit)) from fits);
        unused_later = λ term above small k d later inside in_use from fits.
            subst (λ (lane : D). (files lane).loose (loose_name term later) ≡ None) (same k d inside in_use)
            (have.unused_later term above small k d later (was k inside) (λ bit. in_use (still k bit)) from fits);
        honest = λ name k d inside in_use. subst (λ (lane : D). IsHonest ((files lane).kept name) ((files lane).shown name)) (same k d inside in_use)
            (have.honest name k d (was k inside) (λ bit. in_use (still k bit)));
        are = λ name. record {
          counted = (have.are name).counted ∙ sym stay.count;
          each = λ k d inside in_use. subst (λ (lane : D). HasLane ((files lane).kept name) (lane_at (records name) k)) (same k d inside in_use)
              ((have.are name).each k d (was k inside) (λ bit. in_use (still k bit)));
        };
      }

-- where drives that are lost now count with what they kept, all that counts stays
lost_keep : (set : SetPlan) (unseen : Disks) (lost more : ℕ) (old new : List DriveView) → length old ≡ set.drives → length new ≡ set.drives
    → ((k : ℕ) → IsBitSet lost k → IsBitSet more k) → ((k : ℕ) → (IsBitSet more k → ⊥) → view_at new k ≡ view_at old k)
    → KeepSameData set (counted unseen lost old) (counted (counted unseen lost old) more new)
lost_keep set unseen lost more old new long long_new still stay =
    let each : (k : ℕ) → k < set.drives → kept_on (counted (counted unseen lost old) more new) k ≡ kept_on (counted unseen lost old) k =
    λ k within.
    (let inner = on_drive unseen lost old k (omega (arith, long, within)) in
    on_drive (counted unseen lost old) more new k (omega (arith, long_new, within))
    ∙ by_bits k (bit_and more (2 ^ k) == 0) (bit_and lost (2 ^ k) == 0) refl refl inner) in
    record {
      manifest = λ k id within. ap (λ (named : Named (List ℕ)). named (manifest_name id)) (each k within);
      shard = λ k id within. ap (λ (named : Named (List ℕ)). named (shard_name id)) (each k within);
    }
  where
    by_bits : (k : ℕ) (b c : Bool) → (bit_and more (2 ^ k) == 0) ≡ b → (bit_and lost (2 ^ k) == 0) ≡ c
        → kept_on (counted unseen lost old) k ≡ cond c (view_at old k).files.kept (kept_on unseen k)
        → cond b (view_at new k).files.kept (kept_on (counted unseen lost old) k) ≡ kept_on (counted unseen lost old) k
    by_bits k true true more_is lost_is inner =
        ap (λ (v : DriveView). v.files.kept) (stay k (λ bit. bit (eqb-true (bit_and more (2 ^ k)) 0 more_is))) ∙ sym inner
    by_bits k true false more_is lost_is inner = absurd (
        let bit : IsBitSet lost k = λ zero. (let same : (bit_and lost (2 ^ k) == 0) ≡ true = ap (λ (n : ℕ). n == 0) zero in
        (let apart : true ≡ false = sym same ∙ lost_is in cc)) in
        still k bit (eqb-true (bit_and more (2 ^ k)) 0 more_is))
    by_bits k false c more_is lost_is inner = refl

module _ {D : Type 0} (ghosts : Ghosts D) where
  -- so a slot goes on to rest
  left_rests : OutMayChange → NumbersAreDrawn → (set : SetPlan) (unseen : Disks) (lost more index used : ℕ) (old new : List DriveView) (lanes_old lanes_new : List D)
      (at : Standing) → length old ≡ set.drives → length new ≡ set.drives → ((k : ℕ) → IsBitSet lost k → IsBitSet more k)
      → ((k : ℕ) → (IsBitSet more k → ⊥) → view_at new k ≡ view_at old k) → LanesStay more lanes_old lanes_new
      → SlotRests ghosts.tells ghosts.files (with_out set lost) index used unseen old lanes_old at
      → SlotRests ghosts.tells ghosts.files (with_out set more) index used (counted unseen lost old) new lanes_new at
  left_rests out_may drawn set unseen lost more index used old new lanes_old lanes_new at long long_new still stay lanes rests =
      let last = last_of (spent_numbers (with_out set lost) index used) in
      record {
        stands = record {
          have = left_have ghosts.tells ghosts.files set lost more index used lanes_old lanes_new at.records still lanes rests.stands.have;
          stands = rests.stands.stands;
        };
        held = data_goes_on out_may drawn (with_out set lost) (with_out set more) index last last at.records at.state (counted unseen lost old)
            (counted (counted unseen lost old) more new) refl refl (omega arith)
            (lost_keep (with_out set lost) unseen lost more old new long long_new still stay) rests.held;
        loose = λ k id within in_use of above. subst (λ (v : DriveView). HasNoneLoose (data_of id v.files)) (sym (stay k in_use))
            (rests.loose k id within (λ bit. in_use (still k bit)) of above);
      }

  pub lost_rig_holds : (A : Type 0) → OutMayChange → NumbersAreDrawn → LostRigHolds A ghosts
  lost_rig_holds A out_may drawn set used lost more unseen at old new rig loses rest are = record {
    disks = rest;
    lost_are = are;
    manifests = λ k within in_use. subst (λ (v : DriveView). HasHonestManifests v.files) (sym (loses.disks k in_use))
        (rig.manifests k within (λ bit. in_use (loses.still k bit)));
    slots = λ k now there.
        let found = loses.lanes k now there in
        left_rests out_may drawn set unseen lost more k used (views ghosts old.disks.items) (views ghosts new.disks.items) found.0.lanes.items now.lanes.items (at k)
        rig.disks.count rest.count loses.still loses.disks found.2 (rig.slots k found.0 found.1);
  }
