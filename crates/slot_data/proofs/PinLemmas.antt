-- The data of a slot stands while pins begin and end.
use Rattle.std.proofs.Common.{◌≡◌, ◌⊎◌, inl, inr, ℕ, List, Contains, sym, subst, ap, ◌∙◌}
use Rattle.stamp_id.specs.declared.version.VersionId.{VersionId}
use Rattle.drive_base.specs.declared.plan.SetPlan.{SetPlan}
use Rattle.drive_base.specs.Plan.{write_drives}
use Rattle.manifest_file.specs.Spelling.{file_of}
use Rattle.manifest_file.specs.declared.manifest.Manifest.{Manifest}
use Rattle.manifest_file.proofs.LawProofs.{files_injective}
use Rattle.slot_history.specs.Contents.{NamedData}
use Rattle.slot_history.specs.Names.{key_name}
use Rattle.slot_history.specs.Standing.{Records}
use Rattle.slot_history.specs.State.{State, TakesOut}
use Rattle.slot_history.proofs.NameLemmas.{key_not_part}
use Rattle.slot_history.proofs.TakenLemmas.{left_there, taken_or_left, left_distinct}
use Rattle.slot_data.specs.Disks.{Disks, HasHolders, HasHoldersFor, IsForKeyOf, Keeps}
use Rattle.slot_data.specs.Holding.{Hands, Holding, IsPinned, IsPinnedFor, Pinned, Purpose}
use Rattle.slot_data.specs.Holding.Purpose.{ForComplete, ForHeal, ForRead}
use Rattle.slot_data.specs.Laws.{PinBegins, PinEnds}
use Rattle.slot_data.specs.Live.{IsHeldData, IsLiveData, IsWanted}
use Rattle.slot_data.specs.Moves.{IsToPin, LanesStand, MayPin, MayUnpin, with_pins}
use Rattle.slot_data.specs.Standing.{DataStands, IsWhole, RecordNames, RecordNamesId}
use Rattle.slot_data.proofs.ListedLemmas.{Within, any_pinned_more, held_more, listed_more, live_more, pinned_more, put_distinct}
use Rattle.slot_data.proofs.NamingLemmas.{record_drawn, record_names_id, record_of_named}

-- what drives keep under the id of data that has its holders is its manifest, so it is for that register
pub kept_is_for :
    (set : SetPlan) (disks : Disks) (named : NamedData) (name : List ℕ) (id : VersionId) (m : Manifest) → HasHolders set disks named name
    → named.id ≡ id → Keeps set disks id m → m.name ≡ name
kept_is_for set disks named name id m h same kept =
    let here = subst (λ (y : VersionId). Keeps set disks y m) (sym same) kept in
    ap (λ (n : Manifest). n.name) (files_injective m h.manifest here.canonical h.is.canonical (h.alike here.drive (file_of m) here.within here.is)) ∙ h.is.name_is

-- ---- a pin that ends

module _ (set : SetPlan) (slot last : ℕ) (records : Records) (state : State) (holding : Holding) (disks : Disks) (hands : Hands)
    (p : Pinned) (rest : List Pinned) (t : TakesOut p holding.pins rest) (u : MayUnpin set holding disks hands p rest)
    (d : DataStands set slot last records state holding disks hands) where
  -- the others were listed
  rest_were : Within rest holding.pins
  rest_were = left_there p holding.pins rest t

  pin_ends_here : DataStands set slot last records state (with_pins holding rest) disks hands
  pin_ends_here =
      let now = with_pins holding rest in
      let same : Within holding.flights holding.flights = λ x there. there in
      record {
        names = d.names;
        files = d.files;
        flights = record {
          of_slot = d.flights.of_slot;
          differ = d.flights.differ;
          unnamed = d.flights.unnamed;
          unpinned = λ f there pinned. d.flights.unpinned f there (any_pinned_more rest holding.pins rest_were f.id pinned);
          no_trash = d.flights.no_trash;
          no_part = d.flights.no_part;
          gathered = λ f id there piece. elim (d.flights.gathered f id there piece) [
            | inl own ↦ inl own
            | inr pinned ↦ elim (taken_or_left p holding.pins rest t pinned.pin pinned.there) [
              | inl ends ↦ u.gathered (ap (λ (q : Pinned). q.purpose) ends ∙ pinned.purpose_is) f id there piece
              | inr left ↦ inr (record { pin = pinned.pin; there = left; purpose_is = pinned.purpose_is; names = pinned.names })
            ]
          ];
          named = d.flights.named;
        };
        pins = record {
          differ = left_distinct (λ (q : Pinned). q.ticket) p holding.pins rest t d.pins.differ;
          of_slot = λ id is. d.pins.of_slot id (any_pinned_more rest holding.pins rest_were id is);
          drawn = λ id is. d.pins.drawn id (any_pinned_more rest holding.pins rest_were id is);
          named = λ q id m there. d.pins.named q id m (rest_were q there);
          held = λ q id there. d.pins.held q id (rest_were q there);
          parts = λ id is. d.pins.parts id (pinned_more ForComplete rest holding.pins rest_were id is);
        };
        trash = record {
          unheld = λ id there held. d.trash.unheld id there (held_more set records state disks now holding same rest_were id held);
          no_part = λ id whole there is. d.trash.no_part id whole there (any_pinned_more rest holding.pins rest_were whole is);
          of_slot = d.trash.of_slot;
          drawn = d.trash.drawn;
        };
        in_hand = record {
          dead = λ id there live. d.in_hand.dead id there (live_more set records state disks now holding same rest_were id live);
          of_slot = d.in_hand.of_slot;
          drawn = d.in_hand.drawn;
          listed = u.listed;
          holders = d.in_hand.holders;
        };
        holders = d.holders;
      }

pub pin_ends : PinEnds
pin_ends set slot last records state holding disks hands p rest t u d = pin_ends_here set slot last records state holding disks hands p rest t u d

-- ---- a pin that begins

module _ (set : SetPlan) (slot last : ℕ) (records : Records) (state : State) (holding : Holding) (disks : Disks) (hands : Hands)
    (p : Pinned) (pins : List Pinned) (stands : LanesStand set last holding records state) (may : MayPin state holding.pins p)
    (t : TakesOut p pins holding.pins) (d : DataStands set slot last records state holding disks hands) where
  -- the others were listed before it
  before_are : Within holding.pins pins
  before_are = left_there p pins holding.pins t

  new_or_old : (q : Pinned) → Contains pins q → (p ≡ q) ⊎ Contains holding.pins q
  new_or_old = taken_or_left p pins holding.pins t

  -- a record names each of its ids
  recorded : (id : VersionId) → (is : IsToPin state p id) → RecordNames records is.name id
  recorded id is =
      record_of_named (write_drives set.drives set.parity) set.drives last holding.flights records state is.name is.named id stands is.names is.id_is

  recorded_id : (id : VersionId) → (is : IsToPin state p id) → RecordNamesId records is.name id
  recorded_id id is = record_names_id records is.name id (recorded id is)

  -- so each was wanted before
  wanted_itself : (id : VersionId) → Contains p.ids id → IsWanted records state holding id
  wanted_itself id there = (let is = may.each id there in inl (is.name, is.named, is.names, is.id_is))

  -- what is pinned was so before, or is one of its ids
  pinned_before : (id : VersionId) → IsPinned pins id → Contains p.ids id ⊎ IsPinned holding.pins id
  pinned_before id is = elim (new_or_old is.pin is.there) [
    | inl same ↦ inl (subst (λ (q : Pinned). Contains q.ids id) (sym same) is.names)
    | inr old ↦ inr (record { pin = is.pin; there = old; names = is.names })
  ]

  purpose_before : (purpose : Purpose) (id : VersionId) → IsPinnedFor purpose pins id → Contains p.ids id ⊎ IsPinnedFor purpose holding.pins id
  purpose_before purpose id is = elim (new_or_old is.pin is.there) [
    | inl same ↦ inl (subst (λ (q : Pinned). Contains q.ids id) (sym same) is.names)
    | inr old ↦ inr (record { pin = is.pin; there = old; purpose_is = is.purpose_is; names = is.names })
  ]

  wanted_before : (id : VersionId) → IsWanted records state (with_pins holding pins) id → IsWanted records state holding id
  wanted_before id wanted = elim wanted [
    | inl n ↦ inl n
    | inr more ↦ elim more [
      | inl c ↦ inr (inl c)
      | inr kept ↦ elim kept [
        | inl flying ↦ inr (inr (inl flying))
        | inr pinned ↦ elim (purpose_before ForComplete id pinned) [
          | inl new ↦ wanted_itself id new
          | inr old ↦ inr (inr (inr old))
        ]
      ]
    ]
  ]

  held_before : (id : VersionId) → IsHeldData set records state (with_pins holding pins) disks id → IsHeldData set records state holding disks id
  held_before id held = (held.0, wanted_before held.0 held.1, held.2)

  live_before : (id : VersionId) → IsLiveData set records state (with_pins holding pins) disks id → IsLiveData set records state holding disks id
  live_before id live = elim live [
    | inl held ↦ inl (held_before id held)
    | inr read ↦ elim read.1 [
      | inl r ↦ elim (purpose_before ForRead read.0 r) [
        | inl new ↦ inl (read.0, wanted_itself read.0 new, read.2)
        | inr old ↦ inr (read.0, inl old, read.2)
      ]
      | inr h ↦ elim (purpose_before ForHeal read.0 h) [
        | inl new ↦ inl (read.0, wanted_itself read.0 new, read.2)
        | inr old ↦ inr (read.0, inr old, read.2)
      ]
    ]
  ]

  -- a Complete's ids are of no whole body
  part_not_whole : (id : VersionId) → Contains p.ids id → p.purpose ≡ ForComplete → IsWhole records id → ⊥
  part_not_whole id there purpose whole =
      let is = may.each id there in
      let part = is.part purpose in
      key_not_part whole.0 part.at part.upload part.number (sym (d.names.one_name id is.name (key_name whole.0) (recorded id is) whole.1) ∙ part.is)

  pin_begins_here : DataStands set slot last records state (with_pins holding pins) disks hands
  pin_begins_here =
      let now = with_pins holding pins in
      let same : Within holding.flights holding.flights = λ x there. there in
      record {
        names = d.names;
        files = d.files;
        flights = record {
          of_slot = d.flights.of_slot;
          differ = d.flights.differ;
          unnamed = d.flights.unnamed;
          unpinned = λ f there pinned. elim (pinned_before f.id pinned) [
            | inl new ↦ (let is = may.each f.id new in d.flights.unnamed f is.name there (recorded_id f.id is))
            | inr old ↦ d.flights.unpinned f there old
          ];
          no_trash = d.flights.no_trash;
          no_part = d.flights.no_part;
          gathered = λ f id there piece. elim (d.flights.gathered f id there piece) [
            | inl own ↦ inl own
            | inr pinned ↦ inr (pinned_more ForComplete holding.pins pins before_are id pinned)
          ];
          named = d.flights.named;
        };
        pins = record {
          differ = put_distinct (λ (q : Pinned). q.ticket) p pins holding.pins t d.pins.differ may.ticket;
          of_slot = λ id pinned. elim (pinned_before id pinned) [
            | inl new ↦ (let is = may.each id new in d.names.of_slot is.name id (recorded_id id is))
            | inr old ↦ d.pins.of_slot id old
          ];
          drawn = λ id pinned. elim (pinned_before id pinned) [
            | inl new ↦
                (let is = may.each id new in
                record_drawn (write_drives set.drives set.parity) set.drives last holding.flights records state is.name id stands (recorded_id id is))
            | inr old ↦ d.pins.drawn id old
          ];
          named = λ q id m there names kept. elim (new_or_old q there) [
            | inl same_pin ↦
                let is = may.each id (subst (λ (r : Pinned). Contains r.ids id) (sym same_pin) names) in
                let for = kept_is_for set disks is.named is.name id m (d.holders.named is.name is.named is.names) is.id_is kept in
                subst (λ (r : Pinned). IsForKeyOf r.name m.name) same_pin (subst (λ (n : List ℕ). IsForKeyOf p.name n) (sym for) is.key)
            | inr old ↦ d.pins.named q id m old names kept
          ];
          held = λ q id there names. elim (new_or_old q there) [
            | inl same_pin ↦
                let is = may.each id (subst (λ (r : Pinned). Contains r.ids id) (sym same_pin) names) in
                subst (λ (r : Pinned). HasHoldersFor set disks r.name id) same_pin (record {
                  named = is.named;
                  register = is.name;
                  id_is = is.id_is;
                  key = is.key;
                  holders = d.holders.named is.name is.named is.names;
                })
            | inr old ↦ d.pins.held q id old names
          ];
          parts = λ id is whole. elim (new_or_old is.pin is.there) [
            | inl same_pin ↦
                part_not_whole id (subst (λ (q : Pinned). Contains q.ids id) (sym same_pin) is.names)
                (ap (λ (q : Pinned). q.purpose) same_pin ∙ is.purpose_is) whole
            | inr old ↦ d.pins.parts id (record { pin = is.pin; there = old; purpose_is = is.purpose_is; names = is.names }) whole
          ];
        };
        trash = record {
          unheld = λ id there held. d.trash.unheld id there (held_before id held);
          no_part = λ id whole there pinned piece. elim (pinned_before whole pinned) [
            | inl new ↦ absurd (d.trash.unheld id there (whole, wanted_itself whole new, inr piece))
            | inr old ↦ d.trash.no_part id whole there old piece
          ];
          of_slot = d.trash.of_slot;
          drawn = d.trash.drawn;
        };
        in_hand = record {
          dead = λ id there live. d.in_hand.dead id there (live_before id live);
          of_slot = d.in_hand.of_slot;
          drawn = d.in_hand.drawn;
          listed = λ x there. listed_more holding now same before_are x.named.id (d.in_hand.listed x there);
          holders = d.in_hand.holders;
        };
        holders = d.holders;
      }

pub pin_begins : PinBegins
pin_begins set slot last records state holding disks hands p pins stands may t d =
    pin_begins_here set slot last records state holding disks hands p pins stands may t d
