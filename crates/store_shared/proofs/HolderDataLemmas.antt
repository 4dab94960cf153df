-- The data of a slot stands where drives keep the same under the names of data.
use Rattle.std.proofs.Common.{◌≡◌, ◌<◌, ◌≤◌, ◌∙◌, ℕ, List, sym}
use Rattle.stamp_id.specs.declared.version.VersionId.{VersionId}
use Rattle.drive_base.specs.Plan.{data_drives, write_drives}
use Rattle.drive_base.specs.declared.plan.SetPlan.{SetPlan}
use Rattle.manifest_file.specs.declared.manifest.Manifest.{Manifest}
use Rattle.manifest_file.specs.declared.manifest.ManifestPart.{ManifestPart}
use Rattle.body_print.specs.Holders.{HoldsManifest, HoldsPart}
use Rattle.body_print.specs.Names.{manifest_name, shard_name}
use Rattle.slot_history.specs.Contents.{NamedData}
use Rattle.slot_history.specs.Standing.{Records}
use Rattle.slot_history.specs.State.{State}
use Rattle.slot_history.proofs.TakenLemmas.{none_there}
use Rattle.slot_data.specs.Disks.{AreInOrder, AtLeast, Disks, HasHolders, IsPieceOf, Keeps, kept_on}
use Rattle.slot_data.specs.Holding.{no_hands, no_holding}
use Rattle.slot_data.specs.Laws.{NumbersAreDrawn, OutMayChange}
use Rattle.slot_data.specs.Standing.{DataStands, HoldersStand}

-- drives keep the same under the two names of each id
pub record KeepSameData (set : SetPlan) (old new : Disks) : Type 0 where
  pub manifest : (k : ℕ) (id : VersionId) → k < set.drives → kept_on new k (manifest_name id) ≡ kept_on old k (manifest_name id)
  pub shard : (k : ℕ) (id : VersionId) → k < set.drives → kept_on new k (shard_name id) ≡ kept_on old k (shard_name id)

module _ (set : SetPlan) (old new : Disks) (same : KeepSameData set old new) where
  kept_before : (id : VersionId) (m : Manifest) → Keeps set new id m → Keeps set old id m
  kept_before id m k = record {
    drive = k.drive;
    within = k.within;
    canonical = k.canonical;
    is = sym (same.manifest k.drive id k.within) ∙ k.is;
  }

  piece_before : (whole id : VersionId) → IsPieceOf set new whole id → IsPieceOf set old whole id
  piece_before whole id p = record { manifest = p.manifest; kept = kept_before whole p.manifest p.kept; part = p.part }

  -- a drive that keeps a manifest or a part goes on to
  holds_manifest : (id : VersionId) (print : List ℕ) (m : Manifest) (k : ℕ) → k < set.drives
      → (h : HoldsManifest id print (kept_on old k)) × (h.manifest ≡ m) → (h : HoldsManifest id print (kept_on new k)) × (h.manifest ≡ m)
  holds_manifest id print m k within (h, is) = (
    record {
      manifest = h.manifest;
      canonical = h.canonical;
      is = same.manifest k id within ∙ h.is;
      printed = h.printed;
    },
    is,
  )

  holds_part : (part : ManifestPart) (k : ℕ) → k < set.drives → HoldsPart set.drives (data_drives set.drives set.parity) part k (kept_on old k)
      → HoldsPart set.drives (data_drives set.drives set.parity) part k (kept_on new k)
  holds_part part k within h = record {
    within = h.within;
    blocks = h.blocks;
    sized = h.sized;
    is = same.shard k part.id within ∙ h.is;
    root = h.root;
  }

  at_least : (count : ℕ) (does also : ℕ → Type 0) → ((k : ℕ) → k < set.drives → does k → also k) → AtLeast set count does → AtLeast set count also
  at_least count does also turn a = record { mask = a.mask; enough = a.enough; each = λ k within bit. turn k within (a.each k within bit) }

  holders_stay : (named : NamedData) (name : List ℕ) → HasHolders set old named name → HasHolders set new named name
  holders_stay named name h = record {
    manifest = h.manifest;
    is = h.is;
    held = at_least (write_drives set.drives set.parity)
        (λ k. (m : HoldsManifest named.id named.print (kept_on old k)) × (m.manifest ≡ h.manifest))
        (λ k. (m : HoldsManifest named.id named.print (kept_on new k)) × (m.manifest ≡ h.manifest))
        (holds_manifest named.id named.print h.manifest) h.held;
    alike = λ k bytes within is. h.alike k bytes within (sym (same.manifest k named.id within) ∙ is);
    parts = λ part there. at_least (write_drives set.drives set.parity)
        (λ k. HoldsPart set.drives (data_drives set.drives set.parity) part k (kept_on old k))
        (λ k. HoldsPart set.drives (data_drives set.drives set.parity) part k (kept_on new k))
        (holds_part part) (h.parts part there);
  }

  in_order : (slot last : ℕ) → AreInOrder set slot last old → AreInOrder set slot last new
  in_order slot last o = record {
    manifests = λ k id bytes within of is. o.manifests k id bytes within of (sym (same.manifest k id within) ∙ is);
    shards = λ k id bytes within of is. o.shards k id bytes within of (sym (same.shard k id within) ∙ is);
    pieces = λ whole id of p. o.pieces whole id of (piece_before whole id p);
    of_slot = λ whole id of p. o.of_slot whole id of (piece_before whole id p);
    joined = λ whole id m n of first part second. o.joined whole id m n of (kept_before whole m first) part (kept_before id n second);
    single = λ id m of kept for_part. o.single id m of (kept_before id m kept) for_part;
  }

  holders_stand : (records : Records) (state : State) → HoldersStand set records state old → HoldersStand set records state new
  holders_stand records state s = record {
    named = λ name named is. holders_stay named name (s.named name named is);
    coming = λ name named is. holders_stay named name (s.coming name named is);
    adds = s.adds;
    wholes = λ whole id p is. s.wholes whole id (piece_before whole id p) is;
  }

  -- so the data stands where nothing is under way, listed or in hand
  same_data_stands : (slot last : ℕ) (records : Records) (state : State) → DataStands set slot last records state no_holding old no_hands
      → DataStands set slot last records state no_holding new no_hands
  same_data_stands slot last records state d = record {
    names = d.names;
    files = in_order slot last d.files;
    flights = record {
      of_slot = d.flights.of_slot;
      differ = d.flights.differ;
      unnamed = d.flights.unnamed;
      unpinned = d.flights.unpinned;
      no_trash = d.flights.no_trash;
      no_part = λ f whole there piece. absurd (none_there f there);
      gathered = λ f id there piece. absurd (none_there f there);
      named = λ f m there kept. absurd (none_there f there);
    };
    pins = record {
      differ = d.pins.differ;
      of_slot = d.pins.of_slot;
      drawn = d.pins.drawn;
      named = λ p id m there. absurd (none_there p there);
      held = λ p id there. absurd (none_there p there);
      parts = d.pins.parts;
    };
    trash = record {
      unheld = λ id there held. none_there id there;
      no_part = λ id whole there. absurd (none_there id there);
      of_slot = d.trash.of_slot;
      drawn = d.trash.drawn;
    };
    in_hand = record {
      dead = λ id there live. none_there id there;
      of_slot = d.in_hand.of_slot;
      drawn = d.in_hand.drawn;
      listed = d.in_hand.listed;
      holders = λ x there. absurd (none_there x there);
    };
    holders = holders_stand records state d.holders;
  }

-- and under a greater number, whichever drives are out
pub data_goes_on : OutMayChange → NumbersAreDrawn → (set other : SetPlan) (slot last later : ℕ) (records : Records) (state : State) (old new : Disks)
    → other.drives ≡ set.drives → other.parity ≡ set.parity → last ≤ later → KeepSameData set old new
    → DataStands set slot last records state no_holding old no_hands → DataStands other slot later records state no_holding new no_hands
data_goes_on out drawn set other slot last later records state old new drives parity above same d =
    drawn other slot last later records state no_holding new no_hands above
    (out set other slot last records state no_holding new no_hands drives parity
    (same_data_stands set old new same slot last records state d))
