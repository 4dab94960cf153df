-- The data of a slot stands for sets of as many drives and as much parity alike, whichever drives are out.
use Rattle.std.proofs.Common.{◌≡◌, ◌<◌, ◌≤◌, ◌∙◌, ℕ, List, sym, subst, inl, inr}
use Rattle.stamp_id.specs.declared.version.VersionId.{VersionId}
use Rattle.drive_base.specs.DriveSet.{count_in}
use Rattle.drive_base.specs.Files.{Named}
use Rattle.drive_base.specs.Plan.{data_drives, write_drives}
use Rattle.drive_base.specs.declared.plan.SetPlan.{SetPlan}
use Rattle.manifest_file.specs.declared.manifest.Manifest.{Manifest}
use Rattle.manifest_file.specs.declared.manifest.ManifestPart.{ManifestPart}
use Rattle.body_print.specs.Holders.{HoldsManifest, HoldsPart}
use Rattle.slot_history.specs.Contents.{NamedData}
use Rattle.slot_history.specs.Standing.{Records}
use Rattle.slot_history.specs.State.{State}
use Rattle.slot_data.specs.Disks.{AreInOrder, AtLeast, Disks, HasHolders, HasHoldersFor, IsPieceOf, Keeps, Reaches, kept_on}
use Rattle.slot_data.specs.Holding.{Hands, Holding, Pinned}
use Rattle.slot_data.specs.Laws.{OutMayChange}
use Rattle.slot_data.specs.Live.{IsHeldData, IsLiveData}
use Rattle.slot_data.specs.Standing.{FlightsStand, HandsStand, HoldersStand, PinsStand, TrashStands}

module _ (set other : SetPlan) (drives : other.drives ≡ set.drives) (parity : other.parity ≡ set.parity) (disks : Disks) where
  -- what a drive of the one set keeps, one of the other does
  keeps : (id : VersionId) (m : Manifest) → Keeps other disks id m → Keeps set disks id m
  keeps id m k = record { drive = k.drive; within = subst (λ (n : ℕ). k.drive < n) drives k.within; canonical = k.canonical; is = k.is }

  piece : (whole id : VersionId) → IsPieceOf other disks whole id → IsPieceOf set disks whole id
  piece whole id p = record { manifest = p.manifest; kept = keeps whole p.manifest p.kept; part = p.part }

  reaches : (whole id : VersionId) → Reaches other disks whole id → Reaches set disks whole id
  reaches whole id (inl same) = inl same
  reaches whole id (inr p) = inr (piece whole id p)

  held_data : (records : Records) (state : State) (holding : Holding) (id : VersionId) → IsHeldData other records state holding disks id
      → IsHeldData set records state holding disks id
  held_data records state holding id h = (h.0, h.1, reaches h.0 id h.2)

  live_data : (records : Records) (state : State) (holding : Holding) (id : VersionId) → IsLiveData other records state holding disks id
      → IsLiveData set records state holding disks id
  live_data records state holding id (inl held) = inl (held_data records state holding id held)
  live_data records state holding id (inr read) = inr (read.0, read.1, reaches read.0 id read.2)

  -- a write takes as many drives, and a stripe has as many data blocks
  quorum_is : write_drives other.drives other.parity ≡ write_drives set.drives set.parity
  quorum_is i = write_drives (drives i) (parity i)

  data_is : data_drives other.drives other.parity ≡ data_drives set.drives set.parity
  data_is i = data_drives (drives i) (parity i)

  -- drives of the one set that do so, do so of the other
  at_least : (does also : ℕ → Type 0) → ((k : ℕ) → does k → also k) → AtLeast set (write_drives set.drives set.parity) does
      → AtLeast other (write_drives other.drives other.parity) also
  at_least does also turn a = record {
    mask = a.mask;
    enough = subst (λ (n : ℕ). write_drives other.drives other.parity ≤ count_in a.mask n) (sym drives)
        (subst (λ (w : ℕ). w ≤ count_in a.mask set.drives) (sym quorum_is) a.enough);
    each = λ k within has. turn k (a.each k (subst (λ (n : ℕ). k < n) drives within) has);
  }

  holds_part : (part : ManifestPart) (k : ℕ) (kept : Named (List ℕ)) → HoldsPart set.drives (data_drives set.drives set.parity) part k kept
      → HoldsPart other.drives (data_drives other.drives other.parity) part k kept
  holds_part part k kept h = subst (λ (d : ℕ). HoldsPart other.drives d part k kept) (sym data_is)
      (subst (λ (n : ℕ). HoldsPart n (data_drives set.drives set.parity) part k kept) (sym drives) h)

  -- so data has its holders
  holders : (named : NamedData) (name : List ℕ) → HasHolders set disks named name → HasHolders other disks named name
  holders named name h = record {
    manifest = h.manifest;
    is = record {
      canonical = h.is.canonical;
      drives = h.is.drives ∙ sym drives;
      parity = h.is.parity ∙ sym parity;
      size = h.is.size;
      name_is = h.is.name_is;
    };
    held = at_least (λ k. (m : HoldsManifest named.id named.print (kept_on disks k)) × (m.manifest ≡ h.manifest))
        (λ k. (m : HoldsManifest named.id named.print (kept_on disks k)) × (m.manifest ≡ h.manifest)) (λ k does. does) h.held;
    alike = λ k bytes within is. h.alike k bytes (subst (λ (n : ℕ). k < n) drives within) is;
    parts = λ part there. at_least (λ k. HoldsPart set.drives (data_drives set.drives set.parity) part k (kept_on disks k))
        (λ k. HoldsPart other.drives (data_drives other.drives other.parity) part k (kept_on disks k))
        (λ k does. holds_part part k (kept_on disks k) does) (h.parts part there);
  }

  holders_for : (name : List ℕ) (id : VersionId) → HasHoldersFor set disks name id → HasHoldersFor other disks name id
  holders_for name id h = record {
    named = h.named;
    register = h.register;
    id_is = h.id_is;
    key = h.key;
    holders = holders h.named h.register h.holders;
  }

  -- ---- what stands

  in_order : (slot last : ℕ) → AreInOrder set slot last disks → AreInOrder other slot last disks
  in_order slot last o = record {
    manifests = λ k id bytes within of is. o.manifests k id bytes (subst (λ (n : ℕ). k < n) drives within) of is;
    shards = λ k id bytes within of is. o.shards k id bytes (subst (λ (n : ℕ). k < n) drives within) of is;
    pieces = λ whole id of p. o.pieces whole id of (piece whole id p);
    of_slot = λ whole id of p. o.of_slot whole id of (piece whole id p);
    joined = λ whole id m n of first part second. o.joined whole id m n of (keeps whole m first) part (keeps id n second);
    single = λ id m of kept for_part. o.single id m of (keeps id m kept) for_part;
  }

  flights_stand : (slot : ℕ) (records : Records) (holding : Holding) → FlightsStand set slot records holding disks → FlightsStand other slot records holding disks
  flights_stand slot records holding s = record {
    of_slot = s.of_slot;
    differ = s.differ;
    unnamed = s.unnamed;
    unpinned = s.unpinned;
    no_trash = s.no_trash;
    no_part = λ f whole there p. s.no_part f whole there (piece whole f.id p);
    gathered = λ f id there p. s.gathered f id there (piece f.id id p);
    named = λ f m there kept. s.named f m there (keeps f.id m kept);
  }

  pins_stand : (slot last : ℕ) (records : Records) (pins : List Pinned) → PinsStand set slot last records pins disks → PinsStand other slot last records pins disks
  pins_stand slot last records pins s = record {
    differ = s.differ;
    of_slot = s.of_slot;
    drawn = s.drawn;
    named = λ p id m there of kept. s.named p id m there of (keeps id m kept);
    held = λ p id there of. holders_for p.name id (s.held p id there of);
    parts = s.parts;
  }

  trash_stands : (slot last : ℕ) (records : Records) (state : State) (holding : Holding) → TrashStands set slot last records state holding disks
      → TrashStands other slot last records state holding disks
  trash_stands slot last records state holding s = record {
    unheld = λ id there h. s.unheld id there (held_data records state holding id h);
    no_part = λ id whole there pinned p. s.no_part id whole there pinned (piece whole id p);
    of_slot = s.of_slot;
    drawn = s.drawn;
  }

  hands_stand : (slot last : ℕ) (records : Records) (state : State) (holding : Holding) (hands : Hands) → HandsStand set slot last records state holding disks hands
      → HandsStand other slot last records state holding disks hands
  hands_stand slot last records state holding hands s = record {
    dead = λ id there l. s.dead id there (live_data records state holding id l);
    of_slot = s.of_slot;
    drawn = s.drawn;
    listed = s.listed;
    holders = λ x there. holders x.named x.name (s.holders x there);
  }

  holders_stand : (records : Records) (state : State) → HoldersStand set records state disks → HoldersStand other records state disks
  holders_stand records state s = record {
    named = λ name named is. holders named name (s.named name named is);
    coming = λ name named is. holders named name (s.coming name named is);
    adds = s.adds;
    wholes = λ whole id p is. s.wholes whole id (piece whole id p) is;
  }

-- the data goes on to stand
pub out_may_change : OutMayChange
out_may_change set other slot last records state holding disks hands drives parity d = record {
  names = d.names;
  files = in_order set other drives parity disks slot last d.files;
  flights = flights_stand set other drives parity disks slot records holding d.flights;
  pins = pins_stand set other drives parity disks slot last records holding.pins d.pins;
  trash = trash_stands set other drives parity disks slot last records state holding d.trash;
  in_hand = hands_stand set other drives parity disks slot last records state holding hands d.in_hand;
  holders = holders_stand set other drives parity disks records state d.holders;
}
