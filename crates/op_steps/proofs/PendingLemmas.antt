-- A pending change that adds data is completed where a lane with the value and enough data drives serve: its data has its holders.
use Rattle.std.proofs.Common.{◌≡◌, ◌∙◌, ◌<◌, ◌≤◌, ◌+◌, ℕ, List, Option, Some, None, length, map, ap, subst, inl, inr, refl, arith}
use Rattle.std.specs.Prelude.{Bool, true, IsTrue, option_map, slice_index_or}
use Rattle.std.specs.Int.{IsBitSet}
use Rattle.std.proofs.lemmas.List.{get_or-map}
use Rattle.std.proofs.lemmas.List.Elements.{Contains-get_or}
use Rattle.stamp_id.specs.declared.version.VersionId.{VersionId}
use Rattle.stamp_id.proofs.IdLemmas.{id_bytes-injective}
use Rattle.sha2.specs.Sha256.{sha256}
use Rattle.call_types.specs.declared.why.Why.{Why}
use Rattle.call_types.specs.declared.why.Why.TheVariants.{Good}
use Rattle.drive_base.specs.declared.drive.Drive.{Ghosts}
use Rattle.drive_base.specs.DriveSet.{count_in}
use Rattle.drive_base.specs.Files.{Files}
use Rattle.drive_base.specs.Plan.{data_drives, write_drives}
use Rattle.drive_base.specs.declared.plan.SetPlan.{SetPlan}
use Rattle.fault_base.specs.Counts.{Rose}
use Rattle.manifest_file.specs.Print.{text_under}
use Rattle.manifest_file.specs.Spelling.{file_of}
use Rattle.manifest_file.specs.Table.{ManifestsAreNoLonger}
use Rattle.manifest_file.specs.declared.manifest.Manifest.{Manifest}
use Rattle.manifest_file.specs.declared.manifest.TheConstants.{LONGEST_FILE}
use Rattle.body_print.specs.Holders.{HoldsManifest}
use Rattle.body_print.specs.Names.{manifest_name}
use Rattle.register_file.specs.Lengths.{longest_file}
use Rattle.register_file.specs.declared.record.Adds.{Adds}
use Rattle.register_file.specs.declared.record.RegFile.{RegFile}
use Rattle.vote_core.specs.Lane.{Lane, blank_lane, lane_at}
use Rattle.vote_core.specs.Row.{is_good as is_good_row}
use Rattle.vote_core.specs.Shown.{IsRead}
use Rattle.vote_core.specs.declared.row.Row.TheVariants.{Bad}
use Rattle.register_core.specs.Found.{found_at}
use Rattle.register_core.specs.Looks.{IsUndecided, LaneIsRead, LanesAreRead}
use Rattle.register_core.specs.LaneWrites.{letter_at}
use Rattle.register_core.specs.Records.{added_of, next_of, row_of}
use Rattle.register_core.specs.ServingLanes.{ServingLaneIsRead}
use Rattle.register_core.proofs.SeenLemmas.{element}
use Rattle.slot_history.specs.Contents.{NamedData}
use Rattle.slot_history.specs.Standing.{Records, StandsUnder}
use Rattle.slot_history.specs.State.{IsHeld, State}
use Rattle.slot_data.specs.Disks.{Disks, HasHolders, kept_on}
use Rattle.slot_data.specs.Live.{IsComing}
use Rattle.slot_data.specs.Standing.{HoldersStand}
use Rattle.op_steps.proofs.ManifestLemmas.{ShowManifest, holders_counted}
use Rattle.op_steps.proofs.RefusedLemmas.{RegisterServes, looked_good}

-- the row of a lane that was read is good
good_row : (most : ℕ) (name : List ℕ) (read : Option RegFile) (why : Why) (out : Type 0) (tells : Bool) (files : Files) (old new : ℕ)
    → LaneIsRead most name read why out tells files old new → why ≡ Good → is_good_row (row_of read) ≡ true
good_row most name (Some file) why out tells files old new is good = refl
good_row most name None why out tells files old new is good =
    absurd (subst (λ (w : Why). LaneIsRead most name None w out tells files old new) good is)

module _ {D : Type 0} (ghosts : Ghosts D) where
  lane_read : (out most : ℕ) (name : List ℕ) (found : List (Option RegFile)) (whys : List Why) (lanes : List Lane) (old new : List D) (k : ℕ)
      → LanesAreRead ghosts out most name found whys old new → length lanes ≡ length old → k < length lanes → letter_at whys k ≡ Good
      → IsRead (map row_of found) lanes k
  lane_read out most name found whys lanes old new k read long inside good =
      let here : k < length old = omega (arith, long, inside) in
      let d = element old k here in
      let counted = read.counted in
      record {
        there = inside;
        good = ap is_good_row (get_or-map row_of found k None Bad (omega (arith, counted, here)))
            ∙ good_row most name (found_at found k) (letter_at whys k) (IsBitSet out k) (ghosts.tells (slice_index_or old k d)) (ghosts.files (slice_index_or old k d))
            (ghosts.count (slice_index_or old k d)) (ghosts.count (slice_index_or new k d)) (read.each k d here) good;
      }

  -- data drives of a set serve, tell, and show of each manifest what counts as kept
  abbrev pub ServeData : SetPlan → ℕ → Disks → List D → List D → Type 0
  ServeData set serving disks old new = (k : ℕ) (d : D) → k < set.drives → IsBitSet serving k
      → (IsBitSet set.out k → ⊥) × IsTrue (ghosts.tells (slice_index_or old k d)) × (Rose (ghosts.count (slice_index_or old k d)) (ghosts.count (slice_index_or new k d)) → ⊥)
      × ((id : VersionId) → (ghosts.files (slice_index_or old k d)).shown (manifest_name id) ≡ kept_on disks k (manifest_name id))

  module _ (lengths : ManifestsAreNoLonger LONGEST_FILE) (set : SetPlan) (adds : Adds) (named : NamedData) (name : List ℕ) (serving : ℕ) (kept : Disks)
      (disks disks_after : List D) (serve : ServeData set serving kept disks disks_after) (h : HasHolders set kept named name) (id_is : adds.id ≡ named.id)
      (print_is : adds.print ≡ named.print) where
    -- the holders of a change's data that serve show its manifest
    holders_show : ShowManifest ghosts set adds serving h.held.mask h.manifest disks disks_after
    holders_show k d low bit also =
        let s = serve k d low bit in
        let holder = h.held.each k low also in
        let has : HoldsManifest named.id named.print (kept_on kept k) = holder.0 in
        let same : has.manifest ≡ h.manifest = holder.1 in
        let parity = h.is.parity in
        let drives = h.is.drives in
        let some = set.some_parity in
        let half = set.half_at_most in (
          s.0,
          s.1,
          s.2,
          s.3 adds.id ∙ (ap (λ (i : VersionId). kept_on kept k (manifest_name i)) id_is ∙ (has.is ∙ ap (λ (m : Manifest). Some (file_of m)) same)),
          record {
            canonical = h.is.canonical;
            printed = print_is ∙ (has.printed ∙ ap (λ (m : Manifest). sha256 (text_under m)) same);
            names = record { drives = drives; some_parity = omega (arith, parity, some); half_at_most = omega (arith, parity, drives, half) };
          },
        )

  -- such a change isn't left undecided
  module _ (law : ServingLaneIsRead) (lengths : ManifestsAreNoLonger LONGEST_FILE) (set : SetPlan) (last : ℕ) (records : Records) (state : State) (kept : Disks)
      (name : List ℕ) (rule : List ℕ → Option ℕ) (longest serving disks_serving : ℕ) (old new disks disks_after : List D)
      (held : IsHeld state.registers name) (under : StandsUnder (write_drives set.drives set.parity) last (records name) state name)
      (holders : HoldersStand set records state kept)
      (lanes : RegisterServes ghosts set serving name rule longest (records name) old new)
      (marked : (k : ℕ) × (k < length (records name)) × IsBitSet serving k × ((lane_at (records name) k).base.change ≡ (state.registers name).change))
      (long : length disks ≡ set.drives) (serve : ServeData set disks_serving kept disks disks_after)
      (enough : set.drives + data_drives set.drives set.parity ≤ count_in disks_serving set.drives + write_drives set.drives set.parity)
      (k u : ℕ) (whys : List Why) (x : IsUndecided ghosts set set.out name longest k u whys old new disks disks_after) where
    no_holders : (named : NamedData) → HasHolders set kept named name → x.adds.id ≡ named.id → x.adds.print ≡ named.print → ⊥
    no_holders named h id_is print_is =
        let both = holders_counted ghosts lengths set x.adds whys disks_serving h.held.mask h.manifest disks disks_after long x.looked_for
        (holders_show lengths set x.adds named name disks_serving kept disks disks_after serve h id_is print_is) in
        let few = x.few in
        let many = h.held.enough in
        absurd (omega (arith, both, few, many, enough))

    pub decided : ⊥
    decided =
        let seen = x.seen (records name) lanes.tell lanes.honest lanes.are in
        let finds = seen.finds last (state.registers name).change (state.registers name).content under.holds in
        elim finds.found [
          | inl own ↦
              let good = looked_good ghosts law (Unit {0}) (λ d no. tt) set serving name rule longest (records name) old new lanes x.found x.letters new x.read
              (λ j d low. omega arith) in
              let counted = lanes.are.counted in
              let long_old = lanes.long_old in
              let inside = marked.1 in
              own.hidden marked.0 (lane_read set.out (longest_file longest) name x.found x.letters (records name) old new marked.0 x.read counted inside
              (good marked.0 (omega (arith, inside, counted, long_old)) marked.2)) marked.3
          | inr other ↦
              let there = Contains-get_or (records name) x.lane blank_lane seen.inside in
              let adds : (next_of x.next).adds ≡ Some (added_of x.adds) = ap (λ (a : Option Adds). option_map added_of a) x.adds_is in
              let brings = holders.adds name (lane_at (records name) x.lane) (next_of x.next) (added_of x.adds) held there seen.on_its_way other.live adds in
              let coming : IsComing records state name brings.named = record {
                held = held;
                lane = lane_at (records name) x.lane;
                there = there;
                next = next_of x.next;
                has = seen.on_its_way;
                live = other.live;
                added = record { added = added_of x.adds; adds_is = adds; id_is = brings.id_is; print_is = brings.print_is };
                names = brings.names;
              } in
              no_holders brings.named (holders.coming name brings.named coming) (id_bytes-injective x.adds.id brings.named.id brings.id_is) brings.print_is
        ]
