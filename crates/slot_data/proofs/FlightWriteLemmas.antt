-- The data of a slot stands while a put under way writes.
use Rattle.std.proofs.Common.{◌≡◌, ◌≢◌, ◌⊎◌, inl, inr, ℕ, ◌≤◌, List, Contains, refl, sym, subst, ◌∙◌}
use Rattle.stamp_id.specs.declared.version.VersionId.{VersionId}
use Rattle.drive_base.specs.Plan.{write_drives}
use Rattle.drive_base.specs.declared.plan.SetPlan.{SetPlan}
use Rattle.manifest_file.specs.declared.manifest.Manifest.{Manifest}
use Rattle.slot_history.specs.Contents.{NamedData, number_of_id}
use Rattle.slot_history.specs.Standing.{Flying, Records}
use Rattle.slot_history.specs.State.{State}
use Rattle.slot_history.proofs.MemberLemmas.{takes_out}
use Rattle.slot_history.proofs.TakenLemmas.{left_apart, taken_or_left}
use Rattle.slot_data.specs.DiskLaws.{FlightWrites, IsGathered, MayBeKept, OnlyUnder}
use Rattle.slot_data.specs.Disks.{AreInOrder, Disks, HasHolders, HasPart, IsForKeyOf, IsPartName, IsPieceOf, IsSingle, Keeps}
use Rattle.slot_data.specs.Holding.{Hands, Holding, IsPinned, IsPinnedFor, Known}
use Rattle.slot_data.specs.Holding.Purpose.{ForComplete}
use Rattle.slot_data.specs.Live.{IsHeldData, IsLiveData}
use Rattle.slot_data.specs.Moves.{LanesStand}
use Rattle.slot_data.specs.Standing.{DataStands, FlightsStand, HandsStand, HoldersStand, PinsStand, RecordNames, RecordNamesId, TrashStands}
use Rattle.slot_data.proofs.DiskLemmas.{holders_stay, keeps_before, manifest_stays, same_or_apart, shard_stays}
use Rattle.slot_data.proofs.ListedLemmas.{read_pin, some_pin}
use Rattle.slot_data.proofs.NamingLemmas.{record_names_id, record_of_coming, record_of_named}
use Rattle.slot_data.proofs.PinLemmas.{kept_is_for}

module _ (set : SetPlan) (slot last : ℕ) (records : Records) (state : State) (holding : Holding) (old new : Disks) (hands : Hands) (f : Flying)
    (stands : LanesStand set last holding records state) (listed : Contains holding.flights f) (only : OnlyUnder set f.id old new)
    (unknown : (x : Known) → Contains hands.known x → x.named.id ≢ f.id)
    (writes : (m : Manifest) → Keeps set new f.id m → Keeps set old f.id m ⊎ MayBeKept holding hands f m)
    (d : DataStands set slot last records state holding old hands) where
  -- ---- the put's id

  own_drawn : (id : VersionId) → id ≡ f.id → number_of_id id ≤ last
  own_drawn id same = subst (λ (y : VersionId). number_of_id y ≤ last) (sym same) (stands.flying f listed)

  own_of_slot : (id : VersionId) → id ≡ f.id → id.slot ≡ slot
  own_of_slot id same = subst (λ (y : VersionId). y.slot ≡ slot) (sym same) (d.flights.of_slot f listed)

  -- no pin names it, and no record
  pinned_apart : (id : VersionId) → IsPinned holding.pins id → id ≢ f.id
  pinned_apart id is same = d.flights.unpinned f listed (subst (λ (y : VersionId). IsPinned holding.pins y) same is)

  recorded_apart : (name : List ℕ) (id : VersionId) → RecordNames records name id → id ≢ f.id
  recorded_apart name id r same =
      d.flights.unnamed f name listed (subst (λ (y : VersionId). RecordNamesId records name y) same (record_names_id records name id r))

  -- and no other put has it
  same_flight : (g : Flying) → Contains holding.flights g → g.id ≡ f.id → f ≡ g
  same_flight g there same =
      let out = takes_out f holding.flights listed in
      elim (taken_or_left f holding.flights out.0 out.1 g there) [
        | inl own ↦ own
        | inr left ↦ absurd (left_apart (λ (h : Flying). h.id) f holding.flights out.0 out.1 d.flights.differ g left same)
      ]

  -- ---- what is kept

  -- what is kept was so before, or the put may write it
  kept_before : (id : VersionId) (m : Manifest) → Keeps set new id m → Keeps set old id m ⊎ ((id ≡ f.id) × MayBeKept holding hands f m)
  kept_before id m kept = elim (same_or_apart id f.id) [
    | inl same ↦ elim (writes m (subst (λ (y : VersionId). Keeps set new y m) same kept)) [
      | inl was ↦ inl (subst (λ (y : VersionId). Keeps set old y m) (sym same) was)
      | inr may ↦ inr (same, may)
    ]
    | inr apart ↦ inl (keeps_before set f.id old new only id m apart kept)
  ]

  -- a part was so before, or is the put's own data, or a Complete's
  piece_was :
      (whole id : VersionId) → IsPieceOf set new whole id
      → IsPieceOf set old whole id ⊎ ((whole ≡ f.id) × ((id ≡ f.id) ⊎ IsPinnedFor ForComplete holding.pins id))
  piece_was whole id piece = elim (kept_before whole piece.manifest piece.kept) [
    | inl was ↦ inl (record { manifest = piece.manifest; kept = was; part = piece.part })
    | inr may ↦ elim (may.1.pieces id piece.part) [
      | inl own ↦ inr (may.0, inl own)
      | inr gathered ↦ inr (may.0, inr gathered.pinned)
    ]
  ]

  -- so what is held was held, and what is live was live
  held_before : (id : VersionId) → IsHeldData set records state holding new id → IsHeldData set records state holding old id
  held_before id held = elim held.2 [
    | inl whole ↦ (held.0, held.1, inl whole)
    | inr piece ↦ elim (piece_was held.0 id piece) [
      | inl was ↦ (held.0, held.1, inr was)
      | inr may ↦ elim may.1 [
        | inl own ↦ (id, inr (inr (inl (record { flight = f; there = listed; id_is = sym own }))), inl refl)
        | inr pinned ↦ (id, inr (inr (inr pinned)), inl refl)
      ]
    ]
  ]

  live_before : (id : VersionId) → IsLiveData set records state holding new id → IsLiveData set records state holding old id
  live_before id live = elim live [
    | inl held ↦ inl (held_before id held)
    | inr read ↦ elim read.2 [
      | inl whole ↦ inr (read.0, read.1, inl whole)
      | inr piece ↦ elim (piece_was read.0 id piece) [
        | inl was ↦ inr (read.0, read.1, inr was)
        | inr may ↦ absurd (pinned_apart read.0 (read_pin holding.pins read.0 read.1) may.0)
      ]
    ]
  ]

  -- other data keeps its holders
  stays : (named : NamedData) (name : List ℕ) → HasHolders set old named name → named.id ≢ f.id → HasHolders set new named name
  stays named name holders apart =
      holders_stay set f.id old new only named name holders apart (λ piece. apart (d.flights.no_part f named.id listed piece))

  -- ---- what drives keep is in order

  -- a part that a Complete has gathered is for a part of the key
  gathered_joined : (id : VersionId) (m n : Manifest) → IsGathered holding hands m id → Keeps set old id n → IsForKeyOf m.name n.name × IsPartName n.name
  gathered_joined id m n g kept =
      let is = kept_is_for set old g.known.named g.known.name id n (d.in_hand.holders g.known g.there) g.id_is kept in
      (subst (λ (name : List ℕ). IsForKeyOf m.name name) (sym is) g.key, subst (λ (name : List ℕ). IsPartName name) (sym is) g.part)

  joined_written :
      (whole id : VersionId) (m n : Manifest) → whole.slot ≡ slot → Keeps set new whole m → HasPart m id → Keeps set new id n
      → (id ≡ whole) ⊎ (IsForKeyOf m.name n.name × IsPartName n.name)
  joined_written whole id m n of kept part other = elim (same_or_apart id f.id) [
    | inl same ↦ elim (piece_was whole id (record { manifest = m; kept = kept; part = part })) [
      | inl was ↦ inl (same ∙ sym (d.flights.no_part f whole listed (subst (λ (y : VersionId). IsPieceOf set old whole y) same was)))
      | inr may ↦ inl (same ∙ sym may.0)
    ]
    | inr apart ↦
        let before = keeps_before set f.id old new only id n apart other in
        elim (kept_before whole m kept) [
          | inl was ↦ d.files.joined whole id m n of was part before
          | inr may ↦ elim (may.1.pieces id part) [
            | inl own ↦ absurd (apart own)
            | inr gathered ↦ inr (gathered_joined id m n gathered before)
          ]
        ]
  ]

  files_written : AreInOrder set slot last new
  files_written = record {
    manifests = λ k id bytes within of is. elim (same_or_apart id f.id) [
      | inl same ↦ own_drawn id same
      | inr apart ↦ d.files.manifests k id bytes within of (sym (manifest_stays set f.id old new only k id within apart) ∙ is)
    ];
    shards = λ k id bytes within of is. elim (same_or_apart id f.id) [
      | inl same ↦ own_drawn id same
      | inr apart ↦ d.files.shards k id bytes within of (sym (shard_stays set f.id old new only k id within apart) ∙ is)
    ];
    pieces = λ whole id of piece. elim (piece_was whole id piece) [
      | inl was ↦ d.files.pieces whole id of was
      | inr may ↦ elim may.1 [
        | inl own ↦ own_drawn id own
        | inr pinned ↦ d.pins.drawn id (some_pin ForComplete holding.pins id pinned)
      ]
    ];
    of_slot = λ whole id of piece. elim (piece_was whole id piece) [
      | inl was ↦ d.files.of_slot whole id of was
      | inr may ↦ elim may.1 [
        | inl own ↦ own_of_slot id own
        | inr pinned ↦ d.pins.of_slot id (some_pin ForComplete holding.pins id pinned)
      ]
    ];
    joined = joined_written;
    single = λ id m of kept part. elim (kept_before id m kept) [
      | inl was ↦ d.files.single id m of was part
      | inr may ↦ subst (λ (y : VersionId). IsSingle m y) (sym may.0) (may.1.single part)
    ];
  }

  -- ---- what the slot keeps

  flights_written : FlightsStand set slot records holding new
  flights_written = record {
    of_slot = d.flights.of_slot;
    differ = d.flights.differ;
    unnamed = d.flights.unnamed;
    unpinned = d.flights.unpinned;
    no_trash = d.flights.no_trash;
    no_part = λ g whole there piece. elim (piece_was whole g.id piece) [
      | inl was ↦ d.flights.no_part g whole there was
      | inr may ↦ elim may.1 [
        | inl own ↦ may.0 ∙ sym own
        | inr pinned ↦ absurd (d.flights.unpinned g there (some_pin ForComplete holding.pins g.id pinned))
      ]
    ];
    gathered = λ g id there piece. elim (piece_was g.id id piece) [
      | inl was ↦ d.flights.gathered g id there was
      | inr may ↦ elim may.1 [
        | inl own ↦ inl (own ∙ sym may.0)
        | inr pinned ↦ inr pinned
      ]
    ];
    named = λ g m there kept. elim (kept_before g.id m kept) [
      | inl was ↦ d.flights.named g m there was
      | inr may ↦ subst (λ (h : Flying). IsForKeyOf h.name m.name) (same_flight g there may.0) may.1.key
    ];
  }

  pins_written : PinsStand set slot last records holding.pins new
  pins_written = record {
    differ = d.pins.differ;
    of_slot = d.pins.of_slot;
    drawn = d.pins.drawn;
    named = λ p id m there names kept.
        d.pins.named p id m there names
        (keeps_before set f.id old new only id m (pinned_apart id (record { pin = p; there = there; names = names })) kept);
    held = λ p id there names.
        let was = d.pins.held p id there names in
        record {
          named = was.named;
          register = was.register;
          id_is = was.id_is;
          key = was.key;
          holders = stays was.named was.register was.holders
              (λ same. pinned_apart id (record { pin = p; there = there; names = names }) (sym was.id_is ∙ same));
        };
    parts = d.pins.parts;
  }

  trash_written : TrashStands set slot last records state holding new
  trash_written = record {
    unheld = λ id there held. d.trash.unheld id there (held_before id held);
    no_part = λ id whole there pinned piece. elim (piece_was whole id piece) [
      | inl was ↦ d.trash.no_part id whole there pinned was
      | inr may ↦ absurd (pinned_apart whole pinned may.0)
    ];
    of_slot = d.trash.of_slot;
    drawn = d.trash.drawn;
  }

  hands_written : HandsStand set slot last records state holding new hands
  hands_written = record {
    dead = λ id there live. d.in_hand.dead id there (live_before id live);
    of_slot = d.in_hand.of_slot;
    drawn = d.in_hand.drawn;
    listed = d.in_hand.listed;
    holders = λ x there. stays x.named x.name (d.in_hand.holders x there) (unknown x there);
  }

  holders_written : HoldersStand set records state new
  holders_written = record {
    named = λ name named is. stays named name (d.holders.named name named is)
        (recorded_apart name named.id
        (record_of_named (write_drives set.drives set.parity) set.drives last holding.flights records state name named named.id stands is refl));
    coming = λ name named is. stays named name (d.holders.coming name named is)
        (recorded_apart name named.id (record_of_coming records state name named named.id is refl));
    adds = d.holders.adds;
    wholes = λ whole id piece is. elim (piece_was whole id piece) [
      | inl was ↦ d.holders.wholes whole id was is
      | inr may ↦ elim may.1 [
        | inl own ↦ may.0 ∙ sym own
        | inr pinned ↦ absurd (d.pins.parts id pinned is)
      ]
    ];
  }

pub flight_writes : FlightWrites
flight_writes set slot last records state holding old new hands f stands listed only unknown writes d = record {
  names = d.names;
  files = files_written set slot last records state holding old new hands f stands listed only unknown writes d;
  flights = flights_written set slot last records state holding old new hands f stands listed only unknown writes d;
  pins = pins_written set slot last records state holding old new hands f stands listed only unknown writes d;
  trash = trash_written set slot last records state holding old new hands f stands listed only unknown writes d;
  in_hand = hands_written set slot last records state holding old new hands f stands listed only unknown writes d;
  holders = holders_written set slot last records state holding old new hands f stands listed only unknown writes d;
}
