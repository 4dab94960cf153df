-- The data of a slot stands where what drives keep under its ids was kept before, and what is named, coming or listed keeps its holders.
use Rattle.std.proofs.Common.{◌≡◌, inl, inr, ℕ, ◌<◌, List, Some, sym, subst}
use Rattle.stamp_id.specs.declared.version.VersionId.{VersionId}
use Rattle.drive_base.specs.declared.plan.SetPlan.{SetPlan}
use Rattle.manifest_file.specs.declared.manifest.Manifest.{Manifest}
use Rattle.body_print.specs.Names.{manifest_name, shard_name}
use Rattle.slot_history.specs.Contents.{NamedData}
use Rattle.slot_history.specs.Names.{key_name}
use Rattle.slot_history.specs.Standing.{Records}
use Rattle.slot_history.specs.State.{State}
use Rattle.slot_data.specs.Disks.{Disks, HasHolders, IsPieceOf, Keeps, kept_on}
use Rattle.slot_data.specs.Holding.{Hands, Holding}
use Rattle.slot_data.specs.Live.{IsComing, IsHeldData, IsLiveData, IsNamed}
use Rattle.slot_data.specs.Standing.{DataStands, IsListed, RecordNames}
use Rattle.slot_data.proofs.NamingLemmas.{record_names_id}

module _ (set : SetPlan) (slot last : ℕ) (records : Records) (state : State) (holding : Holding) (old new : Disks) (hands : Hands)
    (manifest_was : (k : ℕ) (id : VersionId) (bytes : List ℕ) → k < set.drives → id.slot ≡ slot → kept_on new k (manifest_name id) ≡ Some bytes
    → kept_on old k (manifest_name id) ≡ Some bytes)
    (shard_was : (k : ℕ) (id : VersionId) (bytes : List ℕ) → k < set.drives → id.slot ≡ slot → kept_on new k (shard_name id) ≡ Some bytes
    → kept_on old k (shard_name id) ≡ Some bytes)
    (kept_was : (id : VersionId) (m : Manifest) → id.slot ≡ slot → Keeps set new id m → Keeps set old id m)
    (piece_was : (whole id : VersionId) → id.slot ≡ slot → IsPieceOf set new whole id → IsPieceOf set old whole id)
    (named_stays : (name : List ℕ) (named : NamedData) → IsNamed state name named → HasHolders set old named name → HasHolders set new named name)
    (coming_stays : (name : List ℕ) (named : NamedData) → IsComing records state name named → HasHolders set old named name → HasHolders set new named name)
    (listed_stays : (name : List ℕ) (named : NamedData) → IsListed holding named.id → HasHolders set old named name → HasHolders set new named name)
    (d : DataStands set slot last records state holding old hands) where
  -- what is a part of a whole of the slot was
  part_was : (whole id : VersionId) → whole.slot ≡ slot → IsPieceOf set new whole id → IsPieceOf set old whole id
  part_was whole id of piece = record { manifest = piece.manifest; kept = kept_was whole piece.manifest of piece.kept; part = piece.part }

  -- what is held was held, and what is live was live
  held_before : (id : VersionId) → id.slot ≡ slot → IsHeldData set records state holding new id → IsHeldData set records state holding old id
  held_before id of held = elim held.2 [
    | inl whole ↦ (held.0, held.1, inl whole)
    | inr piece ↦ (held.0, held.1, inr (piece_was held.0 id of piece))
  ]

  live_before : (id : VersionId) → id.slot ≡ slot → IsLiveData set records state holding new id → IsLiveData set records state holding old id
  live_before id of live = elim live [
    | inl held ↦ inl (held_before id of held)
    | inr read ↦ elim read.2 [
      | inl whole ↦ inr (read.0, read.1, inl whole)
      | inr piece ↦ inr (read.0, read.1, inr (piece_was read.0 id of piece))
    ]
  ]

  -- what is recorded is of the slot
  recorded_of : (name : List ℕ) (id : VersionId) → RecordNames records name id → id.slot ≡ slot
  recorded_of name id r = d.names.of_slot name id (record_names_id records name id r)

  pub data_stays : DataStands set slot last records state holding new hands
  data_stays = record {
    names = d.names;
    files = record {
      manifests = λ k id bytes within of is. d.files.manifests k id bytes within of (manifest_was k id bytes within of is);
      shards = λ k id bytes within of is. d.files.shards k id bytes within of (shard_was k id bytes within of is);
      pieces = λ whole id of piece. d.files.pieces whole id of (piece_was whole id of piece);
      of_slot = λ whole id of piece. d.files.of_slot whole id of (part_was whole id of piece);
      joined = λ whole id m n of kept part also.
          let was = kept_was whole m of kept in
          d.files.joined whole id m n of was part
          (kept_was id n (d.files.of_slot whole id of (record { manifest = m; kept = was; part = part })) also);
      single = λ id m of kept. d.files.single id m of (kept_was id m of kept);
    };
    flights = record {
      of_slot = d.flights.of_slot;
      differ = d.flights.differ;
      unnamed = d.flights.unnamed;
      unpinned = d.flights.unpinned;
      no_trash = d.flights.no_trash;
      no_part = λ f whole there piece. d.flights.no_part f whole there (piece_was whole f.id (d.flights.of_slot f there) piece);
      gathered = λ f id there piece. d.flights.gathered f id there (part_was f.id id (d.flights.of_slot f there) piece);
      named = λ f m there kept. d.flights.named f m there (kept_was f.id m (d.flights.of_slot f there) kept);
    };
    pins = record {
      differ = d.pins.differ;
      of_slot = d.pins.of_slot;
      drawn = d.pins.drawn;
      named = λ p id m there names kept.
          d.pins.named p id m there names (kept_was id m (d.pins.of_slot id (record { pin = p; there = there; names = names })) kept);
      held = λ p id there names.
          let was = d.pins.held p id there names in
          record {
            named = was.named;
            register = was.register;
            id_is = was.id_is;
            key = was.key;
            holders = listed_stays was.register was.named
                (subst (λ (y : VersionId). IsListed holding y) (sym was.id_is) (inr (record { pin = p; there = there; names = names }))) was.holders;
          };
      parts = d.pins.parts;
    };
    trash = record {
      unheld = λ id there held. d.trash.unheld id there (held_before id (d.trash.of_slot id there) held);
      no_part = λ id whole there pinned piece. d.trash.no_part id whole there pinned (piece_was whole id (d.trash.of_slot id there) piece);
      of_slot = d.trash.of_slot;
      drawn = d.trash.drawn;
    };
    in_hand = record {
      dead = λ id there live. d.in_hand.dead id there (live_before id (d.in_hand.of_slot id there) live);
      of_slot = d.in_hand.of_slot;
      drawn = d.in_hand.drawn;
      listed = d.in_hand.listed;
      holders = λ x there. listed_stays x.name x.named (d.in_hand.listed x there) (d.in_hand.holders x there);
    };
    holders = record {
      named = λ name named is. named_stays name named is (d.holders.named name named is);
      coming = λ name named is. coming_stays name named is (d.holders.coming name named is);
      adds = d.holders.adds;
      wholes = λ whole id piece is. d.holders.wholes whole id (piece_was whole id (recorded_of (key_name is.0) id is.1) piece) is;
    };
  }
