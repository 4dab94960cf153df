-- A deed's own change may be committed, and brings its data.
use Rattle.std.proofs.Common.{◌≡◌, ◌≢◌, ◌⊎◌, ◌∙◌, ℕ, true, List, Option, None, Some, Contains, sym, ap, subst, refl, inl, inr}
use Rattle.std.specs.Option.{option_map}
use Rattle.stamp_id.specs.Rank.{change_of}
use Rattle.stamp_id.specs.VersionId.{id_bytes}
use Rattle.stamp_id.proofs.IdLemmas.{id_bytes-injective}
use Rattle.stamp_id.specs.declared.stamp.ChangeId.{ChangeId}
use Rattle.stamp_id.specs.declared.version.VersionId.{VersionId}
use Rattle.call_types.specs.declared.act.Act.{Act}
use Rattle.call_types.specs.declared.act.Act.TheVariants as act
use Rattle.call_types.specs.declared.names.Key.{Key as KeyName}
use Rattle.call_types.specs.declared.names.Mode.{Mode}
use Rattle.call_types.specs.declared.version.What.TheVariants.{Marker, Object}
use Rattle.bucket_book.specs.declared.step.BucketAct.{BucketAct}
use Rattle.bucket_book.specs.declared.step.BucketAct.TheVariants as bucket_act
use Rattle.drive_base.specs.Plan.{write_drives}
use Rattle.register_core.specs.Records.{added_of, next_of}
use Rattle.register_caller.specs.WrittenLanes.{written_of}
use Rattle.version_list.specs.Naming.{same_id}
use Rattle.version_list.specs.NamesId.{act_brings as brings_id, names_id}
use Rattle.version_list.specs.Spelling.{spelling}
use Rattle.version_list.specs.declared.state.KeyState.{KeyState}
use Rattle.version_list.proofs.LawProofs.{injective}
use Rattle.version_list.proofs.NamedLemmas.{named_after, one_true}
use Rattle.version_list.proofs.NamingLemmas.{same_id-true}
use Rattle.vote_core.specs.Lane.{Added}
use Rattle.slot_history.specs.Committing.{MayCommit}
use Rattle.slot_history.specs.Contents.{IsVersionOf, NamedData, NamesData, NamesId, SpellsKey, number_of_id}
use Rattle.slot_history.specs.Doing.{DoesBucket, DoesChange}
use Rattle.slot_history.specs.Names.{bucket_name, key_name}
use Rattle.slot_history.specs.Standing.{IsSpent}
use Rattle.slot_history.proofs.DoesLemmas.{does_opens}
use Rattle.slot_history.proofs.NameLemmas.{bucket_not_key, bucket_not_part, key_not_part}
use Rattle.slot_history.proofs.TakenLemmas.{none_there, taken_there}
use Rattle.slot_data.specs.Bringing.{BringsData, IsGone}
use Rattle.slot_data.specs.LaneLaws.{GoneIdsAreGone}
use Rattle.slot_data.specs.Disks.{Disks}
use Rattle.slot_data.specs.Holding.{Hands}
use Rattle.slot_data.specs.Moves.{LanesStand}
use Rattle.slot_data.specs.Standing.{DataStands}
use Rattle.slot_data.proofs.NamingLemmas.{names_its_id}
use Rattle.slot_rules.specs.Deeds.{act_brings, brings_of, call_of, name_of}
use Rattle.slot_rules.specs.Planning.{IsGoneBy, act_adds}
use Rattle.slot_rules.specs.declared.commit.Commit.TheVariants.{Key, Part, MakeBucket, SetMode}
use Rattle.slot_rules.specs.declared.commit.Commit.{Commit}
use Rattle.slot_core.specs.CommitOutcome.{Lands}
use Rattle.slot_core.proofs.DeemingLemmas.{Deeming, IsDeemed, NumberIs, number_some, own_number, own_spent, put_is, put_lands, record_spent, stood_names}
use Rattle.slot_core.proofs.PartDeedLemmas.{part_brings, part_commits}
use Rattle.slot_core.proofs.StepLemmas.{step_made, step_only}

-- ---- deeds of keys

module _ (s : Deeming) (at : KeyName) (mode : Mode) (done : Act) (m : IsDeemed s (Key at mode done)) where
  abbrev change_of_key : DoesChange s.state.registers (key_name at) at mode done s.id s.now s.reply s.own.content
  change_of_key = m.does

  -- the state of a content that the key's new one spells
  state_is : (state : KeyState) → SpellsKey s.own.content state → state ≡ change_of_key.new_state
  state_is state spells = injective state change_of_key.new_state spells.canonical change_of_key.spells_new.canonical (sym spells.is ∙ change_of_key.spells_new.is)

  -- the state is another one
  state_changed : change_of_key.new_state ≢ change_of_key.old_state
  state_changed same = m.changed (change_of_key.spells_new.is ∙ (ap (λ (k : KeyState). spelling k) same ∙ sym change_of_key.spells_old.is))

  -- an id that the new content names stood there, or is that of the change, or of the data that is brought
  key_ids : (id : VersionId) → NamesId (key_name at) s.own.content id
      → NamesId (key_name at) (s.state.registers (key_name at)).content id ⊎ ((s.id ≡ id)
      ⊎ ((named : NamedData) × (act_brings done ≡ Some named) × (named.id ≡ id)))
  key_ids id (inr p) = absurd (key_not_part at p.1.at p.1.upload p.1.number p.1.name_is)
  key_ids id (inl k) =
      let names : names_id id change_of_key.new_state ≡ true = subst (λ (t : KeyState). names_id id t ≡ true) (state_is k.state k.spells) k.names in
      elim (named_after change_of_key.old_state mode done s.id s.now s.reply change_of_key.new_state id change_of_key.step names) [
        | inl before ↦ inl (inl (record { at = at; name_is = refl; state = change_of_key.old_state; spells = change_of_key.spells_old; names = before }))
        | inr drawn ↦ inr (elim (one_true (same_id s.id id) (brings_id id done) drawn) [
          | inl own ↦ inl (same_id-true s.id id own)
          | inr brought ↦ inr (brings_of_id done id brought)
        ])
      ]
    where
      brings_of_id : (made : Act) (x : VersionId) → brings_id x made ≡ true → (named : NamedData) × (act_brings made ≡ Some named) × (named.id ≡ x)
      brings_of_id (act.Put data_id print size md5 kind) x is = (record { id = data_id; print = print; size = size }, refl, same_id-true data_id x is)
      brings_of_id (act.Delete what) x is = absurd cc
      brings_of_id (act.Create kind) x is = absurd cc
      brings_of_id (act.Complete upload parts data_id print size md5) x is = (record { id = data_id; print = print; size = size }, refl, same_id-true data_id x is)
      brings_of_id (act.Abort upload) x is = absurd cc

  -- what the new content names as data stood there, or is what is brought
  key_data : (named : NamedData) → NamesData (key_name at) s.own.content named
      → NamesData (key_name at) (s.state.registers (key_name at)).content named ⊎ (act_brings done ≡ Some named)
  key_data named (inr p) = absurd (key_not_part at p.at p.upload p.number p.name_is)
  key_data named (inl k) =
      let there : Contains change_of_key.new_state.versions k.version = subst (λ (t : KeyState). Contains t.versions k.version) (state_is k.state k.spells) k.there in
      elim (step_only done change_of_key.old_state mode s.id s.now s.reply change_of_key.new_state change_of_key.step k.version there) [
        | inl before ↦ inl (inl (record {
          at = at;
          name_is = refl;
          state = change_of_key.old_state;
          spells = change_of_key.spells_old;
          version = k.version;
          there = before;
          is = k.is;
        }))
        | inr made ↦ elim made [
          | inl marker ↦ absurd (let clash : Object named.id named.print named.size k.is.0 k.is.1 k.is.2 k.is.3 ≡ Marker = sym k.is.4 ∙ marker in cc)
          | inr brought ↦ inr (brought.1 ∙ ap (λ (n : NamedData). Some n) (same_object brought.0 named brought.2 k.is))
        ]
      ]
    where
      object_parts : (a b : VersionId) (p q : List ℕ) (x y : ℕ) (m5 n5 : List ℕ) (k1 k2 : ℕ) (u v : Option VersionId) (t1 t2 : List ℕ)
          → Object a p x m5 k1 u t1 ≡ Object b q y n5 k2 v t2 → (a ≡ b) × ((p ≡ q) × (x ≡ y))
      object_parts a b p q x y m5 n5 k1 k2 u v t1 t2 same = (cc, (cc, cc))

      same_object : (one two : NamedData) → IsVersionOf one k.version → IsVersionOf two k.version → one ≡ two
      same_object one two first second =
          let same : Object one.id one.print one.size first.0 first.1 first.2 first.3 ≡ Object two.id two.print two.size second.0 second.1 second.2 second.3 =
          sym first.4 ∙ second.4 in
          let parts = object_parts one.id two.id one.print two.print one.size two.size first.0 second.0 first.1 second.1 first.2 second.2 first.3 second.3 same in
          λ i. record { id = parts.0 i; print = parts.1.0 i; size = parts.1.1 i }

  -- what an act brings its change adds
  key_adds : (named : NamedData) → act_brings done ≡ Some named → (next_of s.own).adds ≡ Some (record { id = id_bytes named.id; print = named.print })
  key_adds named brings = ap (option_map added_of) (m.adds ∙ by done named brings)
    where
      by : (made : Act) (n : NamedData) → act_brings made ≡ Some n → act_adds made ≡ Some (record { id = n.id; print = n.print })
      by (act.Put data_id print size md5 kind) n is =
          let same : record { id = data_id; print = print; size = size } ≡ n = cc in ap (λ (x : NamedData). Some (record { id = x.id; print = x.print })) same
      by (act.Delete what) n is = absurd cc
      by (act.Create kind) n is = absurd cc
      by (act.Complete upload parts data_id print size md5) n is =
          let same : record { id = data_id; print = print; size = size } ≡ n = cc in ap (λ (x : NamedData). Some (record { id = x.id; print = x.print })) same
      by (act.Abort upload) n is = absurd cc

  -- and nothing else
  key_added : (added : Added) → (next_of s.own).adds ≡ Some added → (named : NamedData) × (act_brings done ≡ Some named)
      × (added ≡ record { id = id_bytes named.id; print = named.print })
  key_added added is = by done (ap (option_map added_of) (sym m.adds) ∙ is)
    where
      by : (made : Act) → option_map added_of (act_adds made) ≡ Some added → (named : NamedData) × (act_brings made ≡ Some named)
          × (added ≡ record { id = id_bytes named.id; print = named.print })
      by (act.Put data_id print size md5 kind) is = (record { id = data_id; print = print; size = size }, refl, cc)
      by (act.Delete what) is = absurd cc
      by (act.Create kind) is = absurd cc
      by (act.Complete upload parts data_id print size md5) is = (record { id = data_id; print = print; size = size }, refl, cc)
      by (act.Abort upload) is = absurd cc

  -- the change of a key may be committed
  key_commits : MayCommit s.last s.later s.holding.flights s.rest s.state (key_name at) (written_of (next_of s.own))
  key_commits = record {
    held = inr (inl (at, refl));
    number = own_number s.last s.later s.holding.flights s.rest s.put s.own.change m.lands m.number;
    some = number_some s.id s.own.change m.id_change;
    canonical = inl (at, refl, (change_of_key.new_state, change_of_key.spells_new));
    ids = λ id names. elim (key_ids id names) [
      | inl before ↦ record_spent s (Key at mode done) m id (stood_names s (Key at mode done) m id before)
      | inr other ↦ elim other [
        | inl own ↦ subst (λ (x : VersionId). IsSpent s.later s.rest (number_of_id x)) own
            (subst (λ (c : ChangeId). IsSpent s.later s.rest (change_of c)) (sym m.id_change)
            (own_spent (write_drives s.set.drives s.set.parity) s.set.drives s.last s.later s.holding.flights s.rest s.records s.state s.put s.own.change m.stands m.up m.lands m.number))
        | inr brought ↦
            let put : s.put ≡ Some brought.0.id = put_is (Key at mode done) (act_brings done) s.put brought.0 m.fits brought.1 in
            let number : NumberIs s.last s.later (Some brought.0.id) s.own.change = subst (λ (p : Option VersionId). NumberIs s.last s.later p s.own.change) put m.number in
            subst (λ (x : VersionId). IsSpent s.later s.rest (number_of_id x)) brought.2
            (subst (λ (c : ChangeId). IsSpent s.later s.rest (change_of c)) number
            (own_spent (write_drives s.set.drives s.set.parity) s.set.drives s.last s.later s.holding.flights s.rest s.records s.state s.put s.own.change m.stands m.up m.lands m.number))
      ]
    ];
    brings = λ named names. elim (key_data named names) [
      | inl before ↦ inl before
      | inr brought ↦ inr (record { added = record { id = id_bytes named.id; print = named.print }; adds_is = key_adds named brought; id_is = refl; print_is = refl })
    ];
    opens = λ other upload is opened. elim (does_opens s.state.registers (key_name at) (call_of (Key at mode done) (Some s.own.change) s.now) s.id s.reply s.own.content m.does other upload is opened) [
      | inl before ↦ inl before
      | inr own ↦ inr (ap number_of_id (sym own) ∙ ap change_of m.id_change)
    ];
    part = λ other upload number is. absurd (key_not_part at other upload number is);
  }

  -- and it brings its data, where an op knows that this has its holders
  key_brings : (slot : ℕ) (disks : Disks) (hands : Hands) → s.id.slot ≡ slot
      → ((named : NamedData) → act_brings done ≡ Some named → Contains hands.known (record { named = named; name = key_name at }))
      → DataStands s.set slot s.last s.records s.state s.holding disks hands
      → BringsData slot s.holding.flights s.rest hands (key_name at) (written_of (next_of s.own))
  key_brings slot disks hands slot_is known d = record {
    of_slot = λ id names. elim (key_ids id names) [
      | inl before ↦ d.names.of_slot (key_name at) id (stood_names s (Key at mode done) m id before)
      | inr other ↦ elim other [
        | inl own ↦ ap (λ (x : VersionId). x.slot) (sym own) ∙ slot_is
        | inr brought ↦
            let lands = put_lands s.put brought.0.id s.holding.flights s.rest (put_is (Key at mode done) (act_brings done) s.put brought.0 m.fits brought.1) m.lands in
            ap (λ (x : VersionId). x.slot) (sym brought.2) ∙ (ap (λ (x : VersionId). x.slot) (sym lands.1)
            ∙ d.flights.of_slot lands.0 (taken_there lands.0 s.holding.flights s.rest lands.2))
      ]
    ];
    brought = λ named names added.
        let one = key_added added.added added.adds_is in
        let same : one.0.id ≡ named.id = id_bytes-injective one.0.id named.id (sym (ap (λ (a : Added). a.id) one.2) ∙ added.id_is) in
        let lands = put_lands s.put one.0.id s.holding.flights s.rest (put_is (Key at mode done) (act_brings done) s.put one.0 m.fits one.1) m.lands in
        let listed = taken_there lands.0 s.holding.flights s.rest lands.2 in
        elim (key_data named names) [
          | inl before ↦ absurd (d.flights.unnamed lands.0 (key_name at) listed
              (stood_names s (Key at mode done) m lands.0.id (subst (λ (x : VersionId). NamesId (key_name at) (s.state.registers (key_name at)).content x) (sym (lands.1 ∙ same))
              (names_its_id (key_name at) (s.state.registers (key_name at)).content named before))))
          | inr brought ↦ record {
            flying = record { flight = lands.0; there = listed; id_is = lands.1 ∙ same };
            ends = λ f. lands.3 f.flight f.there (ap number_of_id (f.id_is ∙ sym same));
            known = known named brought;
          }
        ];
    adds = λ added is.
        let one = key_added added is in
        let made = step_made done change_of_key.old_state mode s.id s.now s.reply change_of_key.new_state one.0 change_of_key.step state_changed one.1 in
        record {
          named = one.0;
          names = inl (record {
            at = at;
            name_is = refl;
            state = change_of_key.new_state;
            spells = change_of_key.spells_new;
            version = made.0;
            there = made.1;
            is = made.2;
          });
          id_is = ap (λ (a : Added). a.id) one.2;
          print_is = ap (λ (a : Added). a.print) one.2;
        };
  }

-- ---- deeds of buckets

module _ (s : Deeming) (bucket : List ℕ) (made : BucketAct) (d : DoesBucket s.state.registers (bucket_name bucket) bucket made s.now s.reply s.own.content) where
  -- the change of a bucket may be committed
  bucket_commits : LanesStand s.set s.last s.holding s.records s.state → Lands s.put s.holding.flights s.rest → NumberIs s.last s.later s.put s.own.change
      → s.id.change ≡ s.own.change
      → MayCommit s.last s.later s.holding.flights s.rest s.state (bucket_name bucket) (written_of (next_of s.own))
  bucket_commits stands lands number id_change = record {
    held = inl (bucket, refl);
    number = own_number s.last s.later s.holding.flights s.rest s.put s.own.change lands number;
    some = number_some s.id s.own.change id_change;
    canonical = inr (inl (bucket, refl, (d.new_row, d.spells_new)));
    ids = λ id names. absurd (elim names [
      | inl k ↦ bucket_not_key bucket k.at k.name_is
      | inr p ↦ bucket_not_part bucket p.1.at p.1.upload p.1.number p.1.name_is
    ]);
    brings = λ named names. absurd (elim names [
      | inl k ↦ bucket_not_key bucket k.at k.name_is
      | inr p ↦ bucket_not_part bucket p.at p.upload p.number p.name_is
    ]);
    opens = λ at upload is opened. absurd (bucket_not_key bucket at is);
    part = λ at upload number is. absurd (bucket_not_part bucket at upload number is);
  }

  -- and it brings no data
  bucket_brings : (slot : ℕ) (hands : Hands) → s.own.adds ≡ None → BringsData slot s.holding.flights s.rest hands (bucket_name bucket) (written_of (next_of s.own))
  bucket_brings slot hands none = record {
    of_slot = λ id names. absurd (elim names [
      | inl k ↦ bucket_not_key bucket k.at k.name_is
      | inr p ↦ bucket_not_part bucket p.1.at p.1.upload p.1.number p.1.name_is
    ]);
    brought = λ named names added. absurd (elim names [
      | inl k ↦ bucket_not_key bucket k.at k.name_is
      | inr p ↦ bucket_not_part bucket p.at p.upload p.number p.name_is
    ]);
    adds = λ added is. absurd (let clash : None ≡ Some added = ap (option_map added_of) (sym none) ∙ is in cc);
  }

-- ---- any deed

pub deed_commits : (s : Deeming) (deed : Commit) → IsDeemed s deed → MayCommit s.last s.later s.holding.flights s.rest s.state (name_of deed) (written_of (next_of s.own))
deed_commits s (Key at mode done) m = key_commits s at mode done m
deed_commits s (Part at upload number part) m = part_commits s at upload number part m
deed_commits s (MakeBucket bucket) m = bucket_commits s bucket bucket_act.Make m.does m.stands m.lands m.number m.id_change
deed_commits s (SetMode bucket mode) m = bucket_commits s bucket (bucket_act.SetMode mode) m.does m.stands m.lands m.number m.id_change

pub deed_brings : (s : Deeming) (deed : Commit) → IsDeemed s deed → (slot : ℕ) (disks : Disks) (hands : Hands) → s.id.slot ≡ slot
    → ((named : NamedData) → brings_of deed ≡ Some named → Contains hands.known (record { named = named; name = name_of deed }))
    → DataStands s.set slot s.last s.records s.state s.holding disks hands
    → BringsData slot s.holding.flights s.rest hands (name_of deed) (written_of (next_of s.own))
deed_brings s (Key at mode done) m slot disks hands is known d = key_brings s at mode done m slot disks hands is known d
deed_brings s (Part at upload number part) m slot disks hands is known d = part_brings s at upload number part m slot disks hands known d
deed_brings s (MakeBucket bucket) m slot disks hands is known d = bucket_brings s bucket bucket_act.Make m.does slot hands m.adds
deed_brings s (SetMode bucket mode) m slot disks hands is known d = bucket_brings s bucket (bucket_act.SetMode mode) m.does slot hands m.adds

-- the data that a deed leaves out is gone
pub deed_gone : GoneIdsAreGone → (s : Deeming) (deed : Commit) → IsDeemed s deed → (gone : List VersionId)
    → IsGoneBy deed (s.state.registers (name_of deed)).content s.own.content gone → (id : VersionId) → Contains gone id
    → IsGone (name_of deed) (s.state.registers (name_of deed)).content s.own.content id
deed_gone law s (Key at mode done) m gone is id there =
    let d : DoesChange s.state.registers (key_name at) at mode done s.id s.now s.reply s.own.content = m.does in
    law at (s.state.registers (key_name at)).content s.own.content d.old_state d.new_state id d.spells_old d.spells_new
    (subst (λ (l : List VersionId). Contains l id) (is d.old_state d.new_state d.spells_old d.spells_new) there)
deed_gone law s (Part at upload number part) m gone is id there = absurd (none_there id (subst (λ (l : List VersionId). Contains l id) is there))
deed_gone law s (MakeBucket bucket) m gone is id there = absurd (none_there id (subst (λ (l : List VersionId). Contains l id) is there))
deed_gone law s (SetMode bucket mode) m gone is id there = absurd (none_there id (subst (λ (l : List VersionId). Contains l id) is there))
