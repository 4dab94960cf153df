-- The data of a slot stands after a step of its lanes that names nothing but what was named, was coming, or is brought by a put that ends.
use Rattle.std.proofs.Common.{◌≡◌, ◌≢◌, ◌⊎◌, inl, inr, ℕ, ◌≤◌, List, map, Some, Contains, sym, subst, ◌∙◌, arith}
use Rattle.std.proofs.lemmas.List.Elements.{Contains-append_cases}
use Rattle.stamp_id.specs.declared.version.VersionId.{VersionId}
use Rattle.drive_base.specs.declared.plan.SetPlan.{SetPlan}
use Rattle.drive_base.specs.Plan.{write_drives}
use Rattle.version_list.specs.State.{AreDistinct}
use Rattle.vote_core.specs.Lane.{Added, HasNext, Lane, Next}
use Rattle.vote_core.specs.Sound.{IsLive}
use Rattle.slot_history.specs.Contents.{NamedData}
use Rattle.slot_history.specs.Names.{key_name}
use Rattle.slot_history.specs.Standing.{Flying, Records}
use Rattle.slot_history.specs.State.{IsHeld, State}
use Rattle.slot_data.specs.Bringing.{GoOn, with_gone}
use Rattle.slot_data.specs.Disks.{Disks, HasHolders, IsPieceOf}
use Rattle.slot_data.specs.Holding.{Hands, Holding, IsInFlight, IsPinned}
use Rattle.slot_data.specs.Holding.Purpose.{ForComplete}
use Rattle.slot_data.specs.Live.{IsComing, IsHeldData, IsLiveData, IsNamed, IsWanted}
use Rattle.slot_data.specs.Moves.{LanesStand}
use Rattle.slot_data.specs.Standing.{AddsAreNamed, DataStands, FlightsStand, HandsStand, HoldersStand, IsWhole, NamesStand, PinsStand, RecordNames, RecordNamesId, TrashStands}
use Rattle.slot_data.proofs.HandsLemmas.{files_drawn}
use Rattle.slot_data.proofs.ListedLemmas.{Within, flight_more, some_pin}
use Rattle.slot_data.proofs.NamingLemmas.{record_drawn, record_names_id}

-- data was named or coming, or is brought
abbrev pub Was : Records → State → (List ℕ → NamedData → Type 0) → List ℕ → NamedData → Type 0
Was old state Brought n named = IsNamed state n named ⊎ (IsComing old state n named ⊎ Brought n named)

-- what a step of the lanes may name, what it ends and what it leaves as trash
pub record Carries (set : SetPlan) (slot : ℕ) (old new : Records) (state next : State) (holding : Holding) (rest : List Flying) (disks : Disks)
    (hands less : Hands) (gone : List VersionId) (Brought : List ℕ → NamedData → Type 0) : Type 0 where
  pub recorded : (n : List ℕ) (id : VersionId) → RecordNames new n id → RecordNames old n id ⊎ ((named : NamedData) × Brought n named × (named.id ≡ id))
  pub of_slot : (n : List ℕ) (id : VersionId) → RecordNamesId new n id → id.slot ≡ slot
  pub unnamed : (g : Flying) (n : List ℕ) → Contains rest g → RecordNamesId new n g.id → ⊥
  pub is_named : (n : List ℕ) (named : NamedData) → IsNamed next n named → Was old state Brought n named
  pub is_coming : (n : List ℕ) (named : NamedData) → IsComing new next n named → Was old state Brought n named
  pub flying : (n : List ℕ) (named : NamedData) → Brought n named → IsInFlight holding.flights named.id
  pub one_name : (n m : List ℕ) (named other : NamedData) → Brought n named → Brought m other → n ≡ m
  pub has_holders : (n : List ℕ) (named : NamedData) → Brought n named → HasHolders set disks named n
  pub adds : (n : List ℕ) (a : Lane) (x : Next) (added : Added) → IsHeld next.registers n → Contains (new n) a → HasNext a x
      → IsLive (new n) (next.registers n).change a x → x.adds ≡ Some added → AddsAreNamed n x.content added
  pub others : Within rest holding.flights
  pub differ : AreDistinct (map (λ (f : Flying). f.id) rest)
  pub gone_was : (id : VersionId) → Contains gone id → IsWhole old id
  pub gone_named : (id : VersionId) (n : List ℕ) (named : NamedData) → Contains gone id → IsNamed next n named → named.id ≢ id
  pub gone_coming : (id : VersionId) (n : List ℕ) (named : NamedData) → Contains gone id → IsComing new next n named → named.id ≢ id
  pub go_on : GoOn hands less (with_gone holding rest gone)

module _ (set : SetPlan) (slot last later : ℕ) (old new : Records) (state next : State) (holding : Holding) (rest : List Flying) (disks : Disks)
    (hands less : Hands) (gone : List VersionId) (Brought : List ℕ → NamedData → Type 0) (above : last ≤ later) (stands : LanesStand set last holding old state)
    (s : Carries set slot old new state next holding rest disks hands less gone Brought) (d : DataStands set slot last old state holding disks hands) where
  -- what is brought was in flight, so no record named it
  not_recorded : (n m : List ℕ) (named : NamedData) (id : VersionId) → Brought n named → named.id ≡ id → RecordNames old m id → ⊥
  not_recorded n m named id brought same r =
      let f = s.flying n named brought in
      d.flights.unnamed f.flight m f.there (record_names_id old m f.flight.id (subst (λ (y : VersionId). RecordNames old m y) (sym (f.id_is ∙ same)) r))

  -- what is wanted now was wanted before
  was_wanted : (id : VersionId) (n : List ℕ) (named : NamedData) → Was old state Brought n named → named.id ≡ id → IsWanted old state holding id
  was_wanted id n named was same = elim was [
    | inl is ↦ inl (n, named, is, same)
    | inr more ↦ elim more [
      | inl is ↦ inr (inl (n, named, is, same))
      | inr brought ↦ inr (inr (inl (subst (λ (y : VersionId). IsInFlight holding.flights y) same (s.flying n named brought))))
    ]
  ]

  wanted_before : (id : VersionId) → IsWanted new next (with_gone holding rest gone) id → IsWanted old state holding id
  wanted_before id wanted = elim wanted [
    | inl w ↦ was_wanted id w.0 w.1 (s.is_named w.0 w.1 w.2) w.3
    | inr more ↦ elim more [
      | inl w ↦ was_wanted id w.0 w.1 (s.is_coming w.0 w.1 w.2) w.3
      | inr kept ↦ elim kept [
        | inl f ↦ inr (inr (inl (flight_more rest holding.flights s.others id f)))
        | inr p ↦ inr (inr (inr p))
      ]
    ]
  ]

  held_before : (id : VersionId) → IsHeldData set new next (with_gone holding rest gone) disks id → IsHeldData set old state holding disks id
  held_before id held = (held.0, wanted_before held.0 held.1, held.2)

  live_before : (id : VersionId) → IsLiveData set new next (with_gone holding rest gone) disks id → IsLiveData set old state holding disks id
  live_before id live = elim live [
    | inl held ↦ inl (held_before id held)
    | inr read ↦ inr read
  ]

  -- what is gone isn't wanted
  gone_unwanted : (id : VersionId) → Contains gone id → IsWanted new next (with_gone holding rest gone) id → ⊥
  gone_unwanted id there wanted =
      let whole = s.gone_was id there in
      elim wanted [
        | inl w ↦ s.gone_named id w.0 w.1 there w.2 w.3
        | inr more ↦ elim more [
          | inl w ↦ s.gone_coming id w.0 w.1 there w.2 w.3
          | inr kept ↦ elim kept [
            | inl f ↦
                d.flights.unnamed f.flight (key_name whole.0) (s.others f.flight f.there)
                (subst (λ (y : VersionId). RecordNamesId old (key_name whole.0) y) (sym f.id_is) (record_names_id old (key_name whole.0) id whole.1))
            | inr p ↦ d.pins.parts id p whole
          ]
        ]
      ]

  -- nor held
  gone_unheld : (id : VersionId) → Contains gone id → IsHeldData set new next (with_gone holding rest gone) disks id → ⊥
  gone_unheld id there held =
      let same : held.0 ≡ id = elim held.2 [
        | inl whole ↦ sym whole
        | inr piece ↦ d.holders.wholes held.0 id piece (s.gone_was id there)
      ] in
      gone_unwanted id there (subst (λ (y : VersionId). IsWanted new next (with_gone holding rest gone) y) same held.1)

  -- what is whole was so, or is brought
  whole_before : (id : VersionId) → IsWhole new id → IsWhole old id ⊎ IsInFlight holding.flights id
  whole_before id whole = elim (s.recorded (key_name whole.0) id whole.1) [
    | inl r ↦ inl (whole.0, r)
    | inr b ↦ inr (subst (λ (y : VersionId). IsInFlight holding.flights y) b.2 (s.flying (key_name whole.0) b.0 b.1))
  ]

  names_carried : NamesStand slot new
  names_carried = record {
    of_slot = s.of_slot;
    one_name = λ id n m r q. elim (s.recorded n id r) [
      | inl was ↦ elim (s.recorded m id q) [
        | inl also ↦ d.names.one_name id n m was also
        | inr b ↦ absurd (not_recorded m n b.0 id b.1 b.2 was)
      ]
      | inr b ↦ elim (s.recorded m id q) [
        | inl also ↦ absurd (not_recorded n m b.0 id b.1 b.2 also)
        | inr c ↦ s.one_name n m b.0 c.0 b.1 c.1
      ]
    ];
  }

  flights_carried : FlightsStand set slot new (with_gone holding rest gone) disks
  flights_carried = record {
    of_slot = λ g there. d.flights.of_slot g (s.others g there);
    differ = s.differ;
    unnamed = λ g n there. s.unnamed g n there;
    unpinned = λ g there. d.flights.unpinned g (s.others g there);
    no_trash = λ g there trash. elim (Contains-append_cases holding.trash gone g.id trash) [
      | inl before ↦ d.flights.no_trash g (s.others g there) before
      | inr now ↦ (
          let whole = s.gone_was g.id now in
          d.flights.unnamed g (key_name whole.0) (s.others g there) (record_names_id old (key_name whole.0) g.id whole.1))
    ];
    no_part = λ g whole there. d.flights.no_part g whole (s.others g there);
    gathered = λ g id there. d.flights.gathered g id (s.others g there);
    named = λ g m there. d.flights.named g m (s.others g there);
  }

  pins_carried : PinsStand set slot later new holding.pins disks
  pins_carried = record {
    differ = d.pins.differ;
    of_slot = d.pins.of_slot;
    drawn = λ id is. (let low = d.pins.drawn id is in omega (arith, low, above));
    named = d.pins.named;
    held = d.pins.held;
    parts = λ id is whole. elim (whole_before id whole) [
      | inl was ↦ d.pins.parts id is was
      | inr f ↦
          d.flights.unpinned f.flight f.there
          (subst (λ (y : VersionId). IsPinned holding.pins y) (sym f.id_is) (some_pin ForComplete holding.pins id is))
    ];
  }

  trash_carried : TrashStands set slot later new next (with_gone holding rest gone) disks
  trash_carried = record {
    unheld = λ id there held. elim (Contains-append_cases holding.trash gone id there) [
      | inl before ↦ d.trash.unheld id before (held_before id held)
      | inr now ↦ gone_unheld id now held
    ];
    no_part = λ id whole there pinned piece. elim (Contains-append_cases holding.trash gone id there) [
      | inl before ↦ d.trash.no_part id whole before pinned piece
      | inr now ↦ sym (d.holders.wholes whole id piece (s.gone_was id now))
    ];
    of_slot = λ id there. elim (Contains-append_cases holding.trash gone id there) [
      | inl before ↦ d.trash.of_slot id before
      | inr now ↦ (
          let whole = s.gone_was id now in
          d.names.of_slot (key_name whole.0) id (record_names_id old (key_name whole.0) id whole.1))
    ];
    drawn = λ id there. elim (Contains-append_cases holding.trash gone id there) [
      | inl before ↦ (let low = d.trash.drawn id before in omega (arith, low, above))
      | inr now ↦ (
          let whole = s.gone_was id now in
          let low = record_drawn (write_drives set.drives set.parity) set.drives last holding.flights old state (key_name whole.0) id stands
          (record_names_id old (key_name whole.0) id whole.1) in
          omega (arith, low, above))
    ];
  }

  hands_carried : HandsStand set slot later new next (with_gone holding rest gone) disks less
  hands_carried = record {
    dead = λ id there live. d.in_hand.dead id (s.go_on.taken id there) (live_before id live);
    of_slot = λ id there. d.in_hand.of_slot id (s.go_on.taken id there);
    drawn = λ id there. (let low = d.in_hand.drawn id (s.go_on.taken id there) in omega (arith, low, above));
    listed = s.go_on.listed;
    holders = λ x there. d.in_hand.holders x (s.go_on.known x there);
  }

  -- what is named or coming has its holders
  was_held : (n : List ℕ) (named : NamedData) → Was old state Brought n named → HasHolders set disks named n
  was_held n named was = elim was [
    | inl is ↦ d.holders.named n named is
    | inr more ↦ elim more [
      | inl is ↦ d.holders.coming n named is
      | inr brought ↦ s.has_holders n named brought
    ]
  ]

  holders_carried : HoldersStand set new next disks
  holders_carried = record {
    named = λ n named is. was_held n named (s.is_named n named is);
    coming = λ n named is. was_held n named (s.is_coming n named is);
    adds = s.adds;
    wholes = λ whole id piece is. elim (whole_before id is) [
      | inl was ↦ d.holders.wholes whole id piece was
      | inr f ↦
          d.flights.no_part f.flight whole f.there (subst (λ (y : VersionId). IsPieceOf set disks whole y) (sym f.id_is) piece) ∙ f.id_is
    ];
  }

  pub carried : DataStands set slot later new next (with_gone holding rest gone) disks less
  carried = record {
    names = names_carried;
    files = files_drawn set slot last later disks above d.files;
    flights = flights_carried;
    pins = pins_carried;
    trash = trash_carried;
    in_hand = hands_carried;
    holders = holders_carried;
  }
