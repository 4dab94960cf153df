-- Lanes and data drives that were struck between two lives go on to hold.
use Rattle.std.proofs.Common.{◌≡◌, ◌⊎◌, ◌<◌, ◌∙◌, ℕ, IsTrue, List, Option, None, length, slice_index_or, inl, inr, refl, sym, ap, subst, subst₂, arith}
use Rattle.std.specs.Int.{IsBitSet}
use Rattle.drive_base.specs.Files.{LooseFile, Named}
use Rattle.drive_base.specs.View.{DriveView, view, view_at, views}
use Rattle.drive_base.specs.declared.drive.Drive.{Ghosts}
use Rattle.drive_base.specs.declared.plan.SetPlan.{SetPlan}
use Rattle.drive_base.proofs.ViewLemmas.{length-views, view_at-views}
use Rattle.put_stage.specs.Cells.{data_of}
use Rattle.put_stage.specs.Work.{HasNoneLoose}
use Rattle.stamp_id.specs.declared.version.VersionId.{VersionId}
use Rattle.body_print.specs.Names.{loose_manifest_name, loose_shard_name, manifest_name, shard_name}
use Rattle.register_core.specs.Loose.{loose_name}
use Rattle.register_core.specs.OnLanes.{AreHonest}
use Rattle.register_core.specs.Records.{HasLane}
use Rattle.vote_core.specs.Lane.{lane_at}
use Rattle.slot_history.specs.Standing.{Records}
use Rattle.slot_data.specs.Disks.{Disks, kept_on}
use Rattle.slot_data.specs.Laws.{NumbersAreDrawn, OutMayChange}
use Rattle.slot_core.specs.Standing.{LanesHave}
use Rattle.slot_core.specs.Views.{last_of}
use Rattle.op_steps.specs.Claims.{disks_of as counted}
use Rattle.op_steps.specs.Leading.{Standing}
use Rattle.term_gate.specs.Terms.{EachTells}
use Rattle.store_shared.specs.Holders.{SlotRests, spent_numbers}
use Rattle.store_shared.specs.Opening.{with_out}
use Rattle.store_shared.specs.Strikes.{AreStruck, IsStruck, StruckRigHolds}
use Rattle.store_shared.proofs.HolderDataLemmas.{KeepSameData, data_goes_on}
use Rattle.store_shared.proofs.HolderLemmas.{on_drive}
use Rattle.store_shared.proofs.HolderTriedLemmas.{counted_same}

-- what isn't being written isn't where it stays or is gone
still_none : (old new : Option LooseFile) → (new ≡ old) ⊎ (new ≡ None) → old ≡ None → new ≡ None
still_none old new (inl same) none = same ∙ none
still_none old new (inr gone) none = gone

none_written : (old new : DriveView) (name : List ℕ) → IsTrue old.tells → IsStruck old new → old.files.loose name ≡ None → new.files.loose name ≡ None
none_written old new name told struck none = still_none (old.files.loose name) (new.files.loose name) (struck.loose told name) none

-- ---- the lanes of a slot

module _ {D : Type 0} (ghosts : Ghosts D) where
  -- lanes that were struck are as many as before
  same_count : (old new : List D) → AreStruck (views ghosts old) (views ghosts new) → length new ≡ length old
  same_count old new struck = sym (length-views ghosts new) ∙ (struck.long ∙ length-views ghosts old)

  -- and each was
  lane_struck : (old new : List D) → AreStruck (views ghosts old) (views ghosts new) → (k : ℕ) (d : D) → k < length old
      → IsStruck (view ghosts (slice_index_or old k d)) (view ghosts (slice_index_or new k d))
  lane_struck old new struck k d inside =
      let same = same_count old new struck in
      let long = length-views ghosts old in
      subst₂ IsStruck (view_at-views ghosts old k d inside) (view_at-views ghosts new k d (omega (arith, same, inside))) (struck.each k (omega (arith, long, inside)))

  -- so they have the same records
  struck_have : (set : SetPlan) (index used : ℕ) (old new : List D) (records : Records) → AreStruck (views ghosts old) (views ghosts new)
      → ((name : List ℕ) → AreHonest ghosts.files set.out name new) → LanesHave ghosts.tells ghosts.files (spent_numbers set index used) old records
      → LanesHave ghosts.tells ghosts.files (spent_numbers set index used) new records
  struck_have set index used old new records struck honest have =
      let same = same_count old new struck in
      let was : (k : ℕ) → k < length new → k < length old = λ k inside. omega (arith, same, inside) in
      let each : (k : ℕ) (d : D) → k < length new → IsStruck (view ghosts (slice_index_or old k d)) (view ghosts (slice_index_or new k d)) =
      λ k d inside. lane_struck old new struck k d (was k inside) in
      let none : (k : ℕ) (d : D) (name : List ℕ) → k < length new → (IsBitSet set.out k → ⊥)
      → (ghosts.files (slice_index_or old k d)).loose name ≡ None → (ghosts.files (slice_index_or new k d)).loose name ≡ None =
      λ k d name inside in_use. none_written (view ghosts (slice_index_or old k d)) (view ghosts (slice_index_or new k d)) name
      (have.tell k d (was k inside) in_use) (each k d inside) in
      record {
        tell = λ k d inside in_use. subst IsTrue (sym (each k d inside).tells) (have.tell k d (was k inside) in_use);
        unused = λ k d later inside in_use from fits. none k d (loose_name used later) inside in_use (have.unused k d later (was k inside) in_use from fits);
        unused_later = λ term above small k d later inside in_use from fits. none k d (loose_name term later) inside in_use
            (have.unused_later term above small k d later (was k inside) in_use from fits);
        honest = honest;
        are = λ name. record {
          counted = (have.are name).counted ∙ sym same;
          each = λ k d inside in_use. subst (λ (named : Named (List ℕ)). HasLane (named name) (lane_at (records name) k))
              (sym ((each k d inside).kept (have.tell k d (was k inside) in_use))) ((have.are name).each k d (was k inside) in_use);
        };
      }

-- ---- the data drives

module _ (set : SetPlan) (old new : List DriveView) (long : length old ≡ set.drives) (tell : EachTells old) (struck : AreStruck old new) where
  -- what counts of them stays
  struck_keep : (unseen : Disks) (lost : ℕ) → KeepSameData set (counted unseen lost old) (counted unseen lost new)
  struck_keep unseen lost =
      let under : (k : ℕ) (name : List ℕ) → k < set.drives → kept_on (counted unseen lost new) k name ≡ kept_on (counted unseen lost old) k name =
      λ k name within.
      (let same = struck.long in
      let here : k < length old = omega (arith, long, within) in
      let kept = ap (λ (named : Named (List ℕ)). named name) ((struck.each k here).kept (tell k here tt)) in
      ap (λ (named : Named (List ℕ)). named name) (on_drive unseen lost new k (omega (arith, same, here)))
      ∙ (counted_same unseen lost old new k name kept ∙ ap (λ (named : Named (List ℕ)). named name) (sym (on_drive unseen lost old k here)))) in
      record {
        manifest = λ k id within. under k (manifest_name id) within;
        shard = λ k id within. under k (shard_name id) within;
      }

  -- and what isn't being written there isn't
  struck_none : (k : ℕ) (id : VersionId) → k < set.drives → HasNoneLoose (data_of id (view_at old k).files) → HasNoneLoose (data_of id (view_at new k).files)
  struck_none k id within none =
      let here : k < length old = omega (arith, long, within) in
      record {
        manifest = none_written (view_at old k) (view_at new k) (loose_manifest_name id) (tell k here tt) (struck.each k here) none.manifest;
        shard = none_written (view_at old k) (view_at new k) (loose_shard_name id) (tell k here tt) (struck.each k here) none.shard;
      }

module _ {D : Type 0} (ghosts : Ghosts D) where
  -- so a slot goes on to rest
  struck_rests : OutMayChange → NumbersAreDrawn → (set : SetPlan) (unseen : Disks) (lost index used : ℕ) (old new : List DriveView) (lanes_old lanes_new : List D)
      (at : Standing) → length old ≡ set.drives → EachTells old → AreStruck old new → AreStruck (views ghosts lanes_old) (views ghosts lanes_new)
      → ((name : List ℕ) → AreHonest ghosts.files lost name lanes_new)
      → SlotRests ghosts.tells ghosts.files (with_out set lost) index used unseen old lanes_old at
      → SlotRests ghosts.tells ghosts.files (with_out set lost) index used unseen new lanes_new at
  struck_rests out_may drawn set unseen lost index used old new lanes_old lanes_new at long tell struck lanes honest rests =
      let plan = with_out set lost in
      let last = last_of (spent_numbers plan index used) in
      record {
        stands = record {
          have = struck_have ghosts plan index used lanes_old lanes_new at.records lanes honest rests.stands.have;
          stands = rests.stands.stands;
        };
        held = data_goes_on out_may drawn plan plan index last last at.records at.state (counted unseen lost old) (counted unseen lost new) refl refl (omega arith)
            (struck_keep plan old new long tell struck unseen lost) rests.held;
        loose = λ k id within in_use of above. struck_none plan old new long tell struck k id within (rests.loose k id within in_use of above);
      }

  pub struck_rig_holds : (A : Type 0) → OutMayChange → NumbersAreDrawn → StruckRigHolds A ghosts
  struck_rig_holds A out_may drawn set used lost unseen at old new rig struck rest are = record {
    disks = rest;
    lost_are = are;
    manifests = struck.manifests;
    slots = λ k now there.
        let found = struck.lanes k now there in
        struck_rests out_may drawn set unseen lost k used (views ghosts old.disks.items) (views ghosts new.disks.items) found.0.lanes.items now.lanes.items (at k)
        rig.disks.count rig.disks.tell struck.disks found.2 found.3 (rig.slots k found.0 found.1);
  }
