-- Lanes and data drives without files hold: nothing was done yet.
use Rattle.std.proofs.Common.{◌≡◌, ◌<◌, ◌≤◌, ◌+◌, ◌^◌, ◌==◌, ◌∙◌, ℕ, Some, None, IsTrue, List, [], ◌∷◌, Option, cond, length, replicate, slice_index_or, inl, refl, sym, ap, subst, arith}
use Rattle.std.specs.Int.Bits.{and_zero_l}
use Rattle.std.proofs.lemmas.Bool.Decides.{nat_tests}
use Rattle.std.proofs.lemmas.List.{get_or-replicate, length-replicate}
use Rattle.std.proofs.lemmas.Option.{none-some}
use Rattle.drive_base.specs.Files.{Named}
use Rattle.drive_base.specs.Plan.{write_drives}
use Rattle.drive_base.specs.View.{DriveView, view, view_at, views}
use Rattle.drive_base.specs.declared.drive.Drive.{Ghosts}
use Rattle.drive_base.specs.declared.plan.SetPlan.{SetPlan}
use Rattle.drive_base.proofs.ViewLemmas.{length-views, view_at-views}
use Rattle.manifest_file.specs.declared.manifest.Manifest.{Manifest}
use Rattle.stamp_id.specs.declared.version.VersionId.{VersionId}
use Rattle.body_print.specs.Names.{loose_manifest_name, loose_shard_name, manifest_name, shard_name}
use Rattle.vote_core.specs.Lane.{blank_lane, lane_at}
use Rattle.register_core.specs.Loose.{loose_name}
use Rattle.register_core.specs.Records.{HasLane}
use Rattle.register_core.proofs.LaneLemmas.{none_set}
use Rattle.register_core.proofs.ServingLemmas.{no_file_is_blank}
use Rattle.slot_history.specs.Laws.{FreshStand}
use Rattle.slot_data.specs.Disks.{AreInOrder, Disks, Keeps, kept_on}
use Rattle.slot_data.specs.Laws.{FreshDataStands}
use Rattle.slot_core.specs.Standing.{LanesHave}
use Rattle.slot_core.specs.Views.{last_of, quorum_of}
use Rattle.op_steps.specs.Claims.{disks_of as counted}
use Rattle.store_shared.specs.Holders.{AreBare, BareRigHolds, HasNoFile, SlotRests, nothing_done, spent_numbers}
use Rattle.store_shared.specs.Opening.{with_out}
use Rattle.store_shared.proofs.HolderLemmas.{on_drive}

-- a write needs some lane, and no more than there are
quorum_bounds : (n p : ℕ) → 4 ≤ n → 1 ≤ p → p + p ≤ n → (1 ≤ write_drives n p) × (write_drives n p ≤ n)
quorum_bounds n p many some half = (grind (arith, nat_tests), grind (arith, nat_tests))

-- some drive of a list that has one
any_of : {D : Type 0} (drives : List D) (k : ℕ) → k < length drives → D
any_of [] k inside = absurd (omega (arith, inside))
any_of (drive ∷ more) k inside = drive

-- a lane of a blank record may be without a file
blank_has : (n k : ℕ) (kept : Option (List ℕ)) → k < n → kept ≡ None → HasLane kept (lane_at (replicate n blank_lane) k)
blank_has n k kept inside none =
    subst (λ (found : Option (List ℕ)). HasLane found (lane_at (replicate n blank_lane) k)) (sym none)
    ((no_file_is_blank (lane_at (replicate n blank_lane) k)).1 (get_or-replicate n k blank_lane blank_lane inside))

module _ {D : Type 0} (ghosts : Ghosts D) where
  -- bare lanes have blank records
  bare_lanes : (set : SetPlan) (index used : ℕ) (lanes : List D) → AreBare ghosts set lanes
      → LanesHave ghosts.tells ghosts.files (spent_numbers set index used) lanes (λ name. replicate set.drives blank_lane)
  bare_lanes set index used lanes bare = record {
    tell = λ k d inside in_use. (bare.each k d inside).0;
    unused = λ k d later inside in_use from fits. (bare.each k d inside).1.loose (loose_name used later);
    unused_later = λ term above small k d later inside in_use from fits. (bare.each k d inside).1.loose (loose_name term later);
    honest = λ name k d inside in_use. inl ((bare.each k d inside).1.shown name ∙ sym ((bare.each k d inside).1.kept name));
    are = λ name. record {
      counted = length-replicate set.drives blank_lane ∙ sym bare.count;
      each = λ k d inside in_use. blank_has set.drives k _ (let same = bare.count in omega (arith, same, inside)) ((bare.each k d inside).1.kept name);
    };
  }

  -- what is seen of a bare drive
  record IsBareView (drive : DriveView) : Type 0 where
    told : IsTrue drive.tells
    none : HasNoFile drive.files

  bare_view : (set : SetPlan) (drives : List D) → AreBare ghosts set drives → (k : ℕ) → k < set.drives → IsBareView (view_at (views ghosts drives) k)
  bare_view set drives bare k within =
      let inside : k < length drives = (let same = bare.count in omega (arith, same, within)) in
      let d = any_of drives k inside in
      let each = bare.each k d inside in
      let seen : IsBareView (view ghosts (slice_index_or drives k d)) = record { told = each.0; none = each.1 } in
      subst IsBareView (sym (view_at-views ghosts drives k d inside)) seen

  -- nothing counts of bare drives
  none_kept : (set : SetPlan) (unseen : Disks) (drives : List D) → AreBare ghosts set drives → (k : ℕ) (name bytes : List ℕ) → k < set.drives
      → kept_on (counted unseen 0 (views ghosts drives)) k name ≡ Some bytes → ⊥
  none_kept set unseen drives bare k name bytes within is =
      let none = (bare_view set drives bare k within).none.kept name in
      let inside : k < length (views ghosts drives) = (let long = length-views ghosts drives in let same = bare.count in omega (arith, long, same, within)) in
      let here = on_drive unseen 0 (views ghosts drives) k inside
      ∙ ap (λ (n : ℕ). cond (n == 0) (view_at (views ghosts drives) k).files.kept (kept_on unseen k)) (and_zero_l (2 ^ k)) in
      none-some bytes (sym none ∙ (ap (λ (named : Named (List ℕ)). named name) (sym here) ∙ is))

  no_manifest : (set : SetPlan) (unseen : Disks) (drives : List D) → AreBare ghosts set drives → (id : VersionId) (m : Manifest)
      → Keeps (with_out set 0) (counted unseen 0 (views ghosts drives)) id m → ⊥
  no_manifest set unseen drives bare id m kept = none_kept set unseen drives bare kept.drive (manifest_name id) _ kept.within kept.is

  bare_in_order : (set : SetPlan) (unseen : Disks) (slot last : ℕ) (drives : List D) → AreBare ghosts set drives
      → AreInOrder (with_out set 0) slot last (counted unseen 0 (views ghosts drives))
  bare_in_order set unseen slot last drives bare = record {
    manifests = λ k id bytes within of is. absurd (none_kept set unseen drives bare k (manifest_name id) bytes within is);
    shards = λ k id bytes within of is. absurd (none_kept set unseen drives bare k (shard_name id) bytes within is);
    pieces = λ whole id of piece. absurd (no_manifest set unseen drives bare whole piece.manifest piece.kept);
    of_slot = λ whole id of piece. absurd (no_manifest set unseen drives bare whole piece.manifest piece.kept);
    joined = λ whole id m n of kept part second. absurd (no_manifest set unseen drives bare whole m kept);
    single = λ id m of kept for_part. absurd (no_manifest set unseen drives bare id m kept);
  }

  -- so a slot rests over them, and nothing was done in it
  bare_rests : FreshStand → FreshDataStands → (set : SetPlan) (unseen : Disks) (index : ℕ) (drives lanes : List D) → AreBare ghosts set drives
      → AreBare ghosts set lanes → SlotRests ghosts.tells ghosts.files (with_out set 0) index 0 unseen (views ghosts drives) lanes (nothing_done set index)
  bare_rests fresh fresh_data set unseen index drives lanes disks_bare lanes_bare =
      let plan = with_out set 0 in
      let bounds = quorum_bounds set.drives set.parity set.enough_drives set.some_parity set.half_at_most in
      let many = set.enough_drives in
      record {
        stands = record {
          have = bare_lanes plan index 0 lanes (record { count = lanes_bare.count; each = lanes_bare.each });
          stands = fresh (quorum_of (spent_numbers plan index 0)) set.drives (last_of (spent_numbers plan index 0)) (omega (arith, many)) bounds.0 bounds.1;
        };
        held = fresh_data plan index (last_of (spent_numbers plan index 0)) (counted unseen 0 (views ghosts drives))
            (bare_in_order set unseen index (last_of (spent_numbers plan index 0)) drives disks_bare);
        loose = λ k id within in_use of above.
            let none = (bare_view set drives disks_bare k within).none in
            record { manifest = none.loose (loose_manifest_name id); shard = none.loose (loose_shard_name id) };
      }

  pub bare_rig_holds : (A : Type 0) → FreshStand → FreshDataStands → BareRigHolds A ghosts
  bare_rig_holds A fresh fresh_data set unseen parts bare =
      let inside : (k : ℕ) → k < length (views ghosts parts.disks.items) → k < set.drives =
      λ k lt. (let long = length-views ghosts parts.disks.items in let same = bare.disks.count in omega (arith, long, same, lt)) in
      record {
        disks = record {
          count = length-views ghosts parts.disks.items ∙ bare.disks.count;
          tell = λ k lt any. (bare_view set parts.disks.items bare.disks k (inside k lt)).told;
          honest = λ k lt.
              let none = (bare_view set parts.disks.items bare.disks k (inside k lt)).none in
              inl (none.shown _ ∙ sym (none.kept _));
          last = inl refl;
        };
        lost_are = record {
          within = λ k bit. absurd (none_set k bit);
          lived = λ k bit. absurd (none_set k bit);
          lack = λ k bit. absurd (none_set k bit);
        };
        manifests = λ k within in_use id bytes is.
            let none = (bare_view set parts.disks.items bare.disks k within).none in
            absurd (none-some bytes (sym (none.shown (manifest_name id)) ∙ is));
        slots = λ k of at. bare_rests fresh fresh_data set unseen k parts.disks.items of.lanes.items bare.disks (bare.lanes k of at);
      }
