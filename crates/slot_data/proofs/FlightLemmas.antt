-- The data of a slot stands while puts begin and are given up.
use Rattle.std.proofs.Common.{◌≡◌, ◌≢◌, ◌⊎◌, inl, inr, ℕ, ◌<◌, ◌≤◌, List, [], ◌∷◌, ◌++◌, Contains, refl, sym, subst, ap, ◌∙◌, arith}
use Rattle.std.proofs.lemmas.List.Elements.{Contains-append_left, Contains-append_cases}
use Rattle.stamp_id.specs.declared.version.VersionId.{VersionId}
use Rattle.drive_base.specs.declared.plan.SetPlan.{SetPlan}
use Rattle.drive_base.specs.Plan.{write_drives}
use Rattle.manifest_file.specs.Spelling.{file_of}
use Rattle.manifest_file.specs.declared.manifest.Manifest.{Manifest}
use Rattle.slot_history.specs.Contents.{number_of_id}
use Rattle.slot_history.specs.Standing.{Flying, Records}
use Rattle.slot_history.specs.State.{State, TakesOut}
use Rattle.slot_history.proofs.TakenLemmas.{taken_there, left_there, taken_or_left, left_distinct, left_apart}
use Rattle.slot_data.specs.Disks.{Disks, IsPieceOf, Keeps}
use Rattle.slot_data.specs.Holding.{Hands, Holding, IsPinned, Known}
use Rattle.slot_data.specs.Holding.Purpose.{ForComplete}
use Rattle.slot_data.specs.Laws.{PutBegins, PutIsGivenUp}
use Rattle.slot_data.specs.Live.{IsHeldData, IsLiveData, IsWanted}
use Rattle.slot_data.specs.Moves.{LanesStand, given_up, with_flight}
use Rattle.slot_data.specs.Standing.{DataStands, FlightsStand, RecordNamesId}
use Rattle.slot_data.proofs.HandsLemmas.{files_drawn, pins_drawn}
use Rattle.slot_data.proofs.ListedLemmas.{Within, held_more, listed_more, live_more, one_there, put_distinct, put_last, some_pin}
use Rattle.slot_data.proofs.NamingLemmas.{record_drawn, record_names_id, record_of_coming, record_of_named}

-- ---- a put that is given up

module _ (set : SetPlan) (slot last : ℕ) (records : Records) (state : State) (holding : Holding) (disks : Disks) (hands : Hands)
    (f : Flying) (rest : List Flying) (stands : LanesStand set last holding records state) (t : TakesOut f holding.flights rest)
    (d : DataStands set slot last records state holding disks hands) where
  -- it was listed, and the others were
  was_listed : Contains holding.flights f
  was_listed = taken_there f holding.flights rest t

  others_were : Within rest holding.flights
  others_were = left_there f holding.flights rest t

  -- its id is that of no other
  others_differ : (g : Flying) → Contains rest g → g.id ≢ f.id
  others_differ = left_apart (λ (g : Flying). g.id) f holding.flights rest t d.flights.differ

  -- so nothing wants its data
  unwanted : (id : VersionId) → id ≡ f.id → IsWanted records state (given_up holding rest f.id) id → ⊥
  unwanted id same wanted = elim wanted [
    | inl n ↦
        d.flights.unnamed f n.0 was_listed
        (record_names_id records n.0 f.id
        (record_of_named (write_drives set.drives set.parity) set.drives last holding.flights records state n.0 n.1 f.id stands n.2 (n.3 ∙ same)))
    | inr more ↦ elim more [
      | inl c ↦ d.flights.unnamed f c.0 was_listed (record_names_id records c.0 f.id (record_of_coming records state c.0 c.1 f.id c.2 (c.3 ∙ same)))
      | inr kept ↦ elim kept [
        | inl flying ↦ others_differ flying.flight flying.there (flying.id_is ∙ same)
        | inr pinned ↦ d.flights.unpinned f was_listed (subst (λ (y : VersionId). IsPinned holding.pins y) same (some_pin ForComplete holding.pins id pinned))
      ]
    ]
  ]

  -- nor holds it
  unheld : (id : VersionId) → f.id ≡ id → IsHeldData set records state (given_up holding rest f.id) disks id → ⊥
  unheld id same held = unwanted held.0 (elim held.2 [
    | inl whole ↦ sym (same ∙ whole)
    | inr piece ↦ d.flights.no_part f held.0 was_listed (subst (λ (y : VersionId). IsPieceOf set disks held.0 y) (sym same) piece)
  ]) held.1

  given_up_stands : ((x : Known) → Contains hands.known x → x.named.id ≢ f.id) → DataStands set slot last records state (given_up holding rest f.id) disks hands
  given_up_stands unknown =
      let now = given_up holding rest f.id in
      let pins : Within holding.pins holding.pins = λ x there. there in
      record {
        names = d.names;
        files = d.files;
        flights = record {
          of_slot = λ g there. d.flights.of_slot g (others_were g there);
          differ = left_distinct (λ (g : Flying). g.id) f holding.flights rest t d.flights.differ;
          unnamed = λ g name there. d.flights.unnamed g name (others_were g there);
          unpinned = λ g there. d.flights.unpinned g (others_were g there);
          no_trash = λ g there trash. elim (Contains-append_cases holding.trash (f.id ∷ []) g.id trash) [
            | inl before ↦ d.flights.no_trash g (others_were g there) before
            | inr here ↦ others_differ g there (sym (one_there f.id g.id here))
          ];
          no_part = λ g whole there. d.flights.no_part g whole (others_were g there);
          gathered = λ g id there. d.flights.gathered g id (others_were g there);
          named = λ g m there. d.flights.named g m (others_were g there);
        };
        pins = d.pins;
        trash = record {
          unheld = λ id there held. elim (Contains-append_cases holding.trash (f.id ∷ []) id there) [
            | inl before ↦ d.trash.unheld id before (held_more set records state disks now holding others_were pins id held)
            | inr here ↦ unheld id (one_there f.id id here) held
          ];
          no_part = λ id whole there pinned piece. elim (Contains-append_cases holding.trash (f.id ∷ []) id there) [
            | inl before ↦ d.trash.no_part id whole before pinned piece
            | inr here ↦
                let same = one_there f.id id here in
                sym (d.flights.no_part f whole was_listed (subst (λ (y : VersionId). IsPieceOf set disks whole y) (sym same) piece) ∙ same)
          ];
          of_slot = λ id there. elim (Contains-append_cases holding.trash (f.id ∷ []) id there) [
            | inl before ↦ d.trash.of_slot id before
            | inr here ↦ subst (λ (y : VersionId). y.slot ≡ slot) (one_there f.id id here) (d.flights.of_slot f was_listed)
          ];
          drawn = λ id there. elim (Contains-append_cases holding.trash (f.id ∷ []) id there) [
            | inl before ↦ d.trash.drawn id before
            | inr here ↦ subst (λ (y : VersionId). number_of_id y ≤ last) (one_there f.id id here) (stands.flying f was_listed)
          ];
        };
        in_hand = record {
          dead = λ id there live. d.in_hand.dead id there (live_more set records state disks now holding others_were pins id live);
          of_slot = d.in_hand.of_slot;
          drawn = d.in_hand.drawn;
          listed = λ x there. elim (d.in_hand.listed x there) [
            | inl flying ↦ elim (taken_or_left f holding.flights rest t flying.flight flying.there) [
              | inl same ↦ absurd (unknown x there (sym flying.id_is ∙ ap (λ (g : Flying). g.id) (sym same)))
              | inr left ↦ inl (record { flight = flying.flight; there = left; id_is = flying.id_is })
            ]
            | inr pinned ↦ inr pinned
          ];
          holders = d.in_hand.holders;
        };
        holders = d.holders;
      }

pub put_is_given_up : PutIsGivenUp
put_is_given_up set slot last records state holding disks hands f rest stands t unknown d =
    given_up_stands set slot last records state holding disks hands f rest stands t d unknown

-- ---- a put that begins

module _ (set : SetPlan) (slot last : ℕ) (records : Records) (state : State) (holding : Holding) (disks : Disks) (hands : Hands)
    (f : Flying) (stands : LanesStand set last holding records state) (above : last < number_of_id f.id) (of : f.id.slot ≡ slot)
    (d : DataStands set slot last records state holding disks hands) where
  -- the others are listed before it
  old_or_new : (g : Flying) → Contains (holding.flights ++ f ∷ []) g → (f ≡ g) ⊎ Contains holding.flights g
  old_or_new = taken_or_left f (holding.flights ++ f ∷ []) holding.flights (put_last holding.flights f)

  -- what was drawn isn't its id
  not_drawn : (id : VersionId) → number_of_id id ≤ last → id ≡ f.id → ⊥
  not_drawn id low same = (
      let drawn : number_of_id f.id ≤ last = subst (λ (y : VersionId). number_of_id y ≤ last) same low in
      omega (arith, drawn, above))

  -- nothing is kept under it, so it has no parts, and it is a part of nothing
  not_kept : (m : Manifest) → Keeps set disks f.id m → ⊥
  not_kept m kept = not_drawn f.id (d.files.manifests kept.drive f.id (file_of m) kept.within of kept.is) refl

  no_pieces : (id : VersionId) → IsPieceOf set disks f.id id → ⊥
  no_pieces id piece = not_kept piece.manifest piece.kept

  not_named : (name : List ℕ) → RecordNamesId records name f.id → ⊥
  not_named name r = not_drawn f.id (record_drawn (write_drives set.drives set.parity) set.drives last holding.flights records state name f.id stands r) refl

  -- what is wanted was so before, or is the put's data
  wanted_before : (id : VersionId) → IsWanted records state (with_flight holding f) id → IsWanted records state holding id ⊎ (id ≡ f.id)
  wanted_before id wanted = elim wanted [
    | inl n ↦ inl (inl n)
    | inr more ↦ elim more [
      | inl c ↦ inl (inr (inl c))
      | inr kept ↦ elim kept [
        | inl flying ↦ elim (old_or_new flying.flight flying.there) [
          | inl same ↦ inr (sym flying.id_is ∙ ap (λ (g : Flying). g.id) (sym same))
          | inr before ↦ inl (inr (inr (inl (record { flight = flying.flight; there = before; id_is = flying.id_is }))))
        ]
        | inr pinned ↦ inl (inr (inr (inr pinned)))
      ]
    ]
  ]

  -- and so is what is held
  held_before : (id : VersionId) → IsHeldData set records state (with_flight holding f) disks id → IsHeldData set records state holding disks id ⊎ (id ≡ f.id)
  held_before id held = elim (wanted_before held.0 held.1) [
    | inl before ↦ inl (held.0, before, held.2)
    | inr same ↦ elim held.2 [
      | inl whole ↦ inr (whole ∙ same)
      | inr piece ↦ absurd (no_pieces id (subst (λ (y : VersionId). IsPieceOf set disks y id) same piece))
    ]
  ]

  -- and what is live
  live_before : (id : VersionId) → IsLiveData set records state (with_flight holding f) disks id → IsLiveData set records state holding disks id ⊎ (id ≡ f.id)
  live_before id live = elim live [
    | inl held ↦ elim (held_before id held) [
      | inl before ↦ inl (inl before)
      | inr same ↦ inr same
    ]
    | inr pinned ↦ inl (inr pinned)
  ]

  flights_begin : FlightsStand set slot records (with_flight holding f) disks
  flights_begin = record {
    of_slot = λ g there. elim (old_or_new g there) [
      | inl same ↦ subst (λ (h : Flying). h.id.slot ≡ slot) same of
      | inr before ↦ d.flights.of_slot g before
    ];
    differ = put_distinct (λ (g : Flying). g.id) f (holding.flights ++ f ∷ []) holding.flights (put_last holding.flights f) d.flights.differ
        (λ g there same. not_drawn g.id (stands.flying g there) same);
    unnamed = λ g name there r. elim (old_or_new g there) [
      | inl same ↦ not_named name (subst (λ (h : Flying). RecordNamesId records name h.id) (sym same) r)
      | inr before ↦ d.flights.unnamed g name before r
    ];
    unpinned = λ g there pinned. elim (old_or_new g there) [
      | inl same ↦ not_drawn g.id (d.pins.drawn g.id pinned) (ap (λ (h : Flying). h.id) (sym same))
      | inr before ↦ d.flights.unpinned g before pinned
    ];
    no_trash = λ g there trash. elim (old_or_new g there) [
      | inl same ↦ not_drawn g.id (d.trash.drawn g.id trash) (ap (λ (h : Flying). h.id) (sym same))
      | inr before ↦ d.flights.no_trash g before trash
    ];
    no_part = λ g whole there piece. elim (old_or_new g there) [
      | inl same ↦
          let now = subst (λ (h : Flying). IsPieceOf set disks whole h.id) (sym same) piece in
          absurd (not_drawn f.id (d.files.pieces whole f.id of now) refl)
      | inr before ↦ d.flights.no_part g whole before piece
    ];
    gathered = λ g id there piece. elim (old_or_new g there) [
      | inl same ↦ absurd (no_pieces id (subst (λ (h : Flying). IsPieceOf set disks h.id id) (sym same) piece))
      | inr before ↦ d.flights.gathered g id before piece
    ];
    named = λ g m there kept. elim (old_or_new g there) [
      | inl same ↦ absurd (not_kept m (subst (λ (h : Flying). Keeps set disks h.id m) (sym same) kept))
      | inr before ↦ d.flights.named g m before kept
    ];
  }

  put_begins_here : DataStands set slot (number_of_id f.id) records state (with_flight holding f) disks hands
  put_begins_here =
      let later : last ≤ number_of_id f.id = omega (arith, above) in
      let more : Within holding.flights (holding.flights ++ f ∷ []) = Contains-append_left holding.flights (f ∷ []) in
      let pins : Within holding.pins holding.pins = λ x there. there in
      record {
        names = d.names;
        files = files_drawn set slot last (number_of_id f.id) disks later d.files;
        flights = flights_begin;
        pins = pins_drawn set slot last (number_of_id f.id) records holding.pins disks later d.pins;
        trash = record {
          unheld = λ id there held. elim (held_before id held) [
            | inl before ↦ d.trash.unheld id there before
            | inr same ↦ not_drawn id (d.trash.drawn id there) same
          ];
          no_part = d.trash.no_part;
          of_slot = d.trash.of_slot;
          drawn = λ id there. (let low = d.trash.drawn id there in omega (arith, low, later));
        };
        in_hand = record {
          dead = λ id there live. elim (live_before id live) [
            | inl before ↦ d.in_hand.dead id there before
            | inr same ↦ not_drawn id (d.in_hand.drawn id there) same
          ];
          of_slot = d.in_hand.of_slot;
          drawn = λ id there. (let low = d.in_hand.drawn id there in omega (arith, low, later));
          listed = λ x there. listed_more holding (with_flight holding f) more pins x.named.id (d.in_hand.listed x there);
          holders = d.in_hand.holders;
        };
        holders = d.holders;
      }

pub put_begins : PutBegins
put_begins set slot last records state holding disks hands f stands above of d =
    put_begins_here set slot last records state holding disks hands f stands above of d
