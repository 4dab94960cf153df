-- The change of a part may be committed, and brings its data.
use Rattle.std.proofs.Common.{◌≡◌, ◌∙◌, ℕ, Bool, true, List, Option, None, Some, Contains, ap, subst, sym, refl, inl, inr}
use Rattle.std.specs.Prelude.{MatchBool}
use Rattle.std.specs.Option.{option_map}
use Rattle.stamp_id.specs.Rank.{change_of}
use Rattle.stamp_id.specs.VersionId.{id_bytes}
use Rattle.stamp_id.specs.declared.stamp.ChangeId.{ChangeId}
use Rattle.stamp_id.specs.declared.version.VersionId.{VersionId}
use Rattle.call_types.specs.declared.names.Key.{Key as KeyName}
use Rattle.call_types.specs.declared.refusal.Refusal.TheVariants.{NoSuchUpload}
use Rattle.call_types.specs.declared.reply.Reply.TheVariants.{Refused, Stored}
use Rattle.call_types.specs.declared.version.PartRecord.{PartRecord}
use Rattle.drive_base.specs.Plan.{write_drives}
use Rattle.register_core.specs.Records.{added_of, next_of}
use Rattle.register_caller.specs.WrittenLanes.{written_of}
use Rattle.upload_book.specs.Storing.{Leaves, etag_of, is_open, stored_at}
use Rattle.upload_book.proofs.ContentLemmas.{content_injective}
use Rattle.version_list.specs.declared.state.KeyState.{KeyState}
use Rattle.version_list.proofs.LawProofs.{injective}
use Rattle.vote_core.specs.Lane.{Added}
use Rattle.slot_history.specs.Committing.{MayCommit}
use Rattle.slot_history.specs.Contents.{HasOpen, NamedData, NamesData, NamesId, SpellsPart, number_of_id}
use Rattle.slot_history.specs.Doing.{DoesPart}
use Rattle.slot_history.specs.Names.{key_name, part_name}
use Rattle.slot_history.specs.Standing.{IsSpent}
use Rattle.slot_history.specs.State.{IsHeld}
use Rattle.slot_history.proofs.NameLemmas.{key_not_part}
use Rattle.slot_history.proofs.TakenLemmas.{taken_there}
use Rattle.slot_data.specs.Bringing.{BringsData}
use Rattle.slot_data.specs.Disks.{Disks}
use Rattle.slot_data.specs.Holding.{Hands}
use Rattle.slot_data.specs.Standing.{DataStands}
use Rattle.slot_rules.specs.Deeds.{brings_of}
use Rattle.slot_rules.specs.declared.commit.Commit.TheVariants.{Part}
use Rattle.slot_rules.proofs.PartLemmas.{held_open}
use Rattle.slot_core.proofs.DeemingLemmas.{Deeming, IsDeemed, NumberIs, number_some, own_number, own_spent, put_lands}

module _ (s : Deeming) (at : KeyName) (upload : VersionId) (number : ℕ) (part : PartRecord) (m : IsDeemed s (Part at upload number part)) where
  abbrev called : List ℕ
  called = part_name at upload number

  abbrev stores : DoesPart s.state.registers called at upload number part s.now s.reply s.own.content
  stores = m.does

  abbrev kept : PartRecord
  kept = stored_at part s.now

  abbrev part_data : NamedData
  part_data = record { id = part.data_id; print = part.print; size = part.length }

  -- the upload is open
  is_opened : is_open upload stores.state ≡ true
  is_opened =
      let o : HasOpen (s.state.registers (key_name at)).content upload = held_open s.state.registers at upload number m.held in
      let same : o.state ≡ stores.state = injective o.state stores.state o.spells.canonical stores.spells.canonical (sym o.spells.is ∙ stores.spells.is) in
      subst (λ (k : KeyState). is_open upload k ≡ true) same o.opened

  -- so the new content spells the part
  new_spells : SpellsPart s.own.content (Some kept)
  new_spells =
      let step = subst (λ (b : Bool). MatchBool b (Leaves (Stored (etag_of part) None) (Some kept) s.reply stores.new_row)
      (Leaves (Refused NoSuchUpload) stores.old_row s.reply stores.new_row)) is_opened stores.step in
      subst (λ (r : Option PartRecord). SpellsPart s.own.content r) step.1 (stores.spells_new is_opened)

  -- what it names is the part's data
  named_is : (named : NamedData) → NamesData called s.own.content named → named ≡ part_data
  named_is named (inl k) = absurd (key_not_part k.at at upload number (sym k.name_is))
  named_is named (inr p) =
      let row : Some p.part ≡ Some kept = content_injective (Some p.part) (Some kept) p.spells.canonical new_spells.canonical (sym p.spells.is ∙ new_spells.is) in
      let same : p.part ≡ kept = cc in
      let id : named.id ≡ part.data_id = sym p.id_is ∙ ap (λ (r : PartRecord). r.data_id) same in
      let print : named.print ≡ part.print = sym p.print_is ∙ ap (λ (r : PartRecord). r.print) same in
      let size : named.size ≡ part.length = sym p.size_is ∙ ap (λ (r : PartRecord). r.length) same in
      λ i. record { id = id i; print = print i; size = size i }

  part_ids : (id : VersionId) → NamesId called s.own.content id → part.data_id ≡ id
  part_ids id (inl k) = absurd (key_not_part k.at at upload number (sym k.name_is))
  part_ids id (inr p) = sym (ap (λ (n : NamedData). n.id) (named_is p.0 (inr p.1))) ∙ p.2

  -- and what its change adds
  part_adds : (next_of s.own).adds ≡ Some (record { id = id_bytes part.data_id; print = part.print })
  part_adds = ap (option_map added_of) m.adds

  -- its put
  part_put : s.put ≡ Some part.data_id
  part_put = m.fits

  -- the change of a part may be committed
  pub part_commits : MayCommit s.last s.later s.holding.flights s.rest s.state called (written_of (next_of s.own))
  part_commits = record {
    held = m.held;
    number = own_number s.last s.later s.holding.flights s.rest s.put s.own.change m.lands m.number;
    some = number_some s.id s.own.change m.id_change;
    canonical = inr (inr (at, upload, number, refl, (Some kept, new_spells)));
    ids = λ id names.
        let drawn : NumberIs s.last s.later (Some part.data_id) s.own.change = subst (λ (p : Option VersionId). NumberIs s.last s.later p s.own.change) part_put m.number in
        subst (λ (x : VersionId). IsSpent s.later s.rest (number_of_id x)) (part_ids id names)
        (subst (λ (c : ChangeId). IsSpent s.later s.rest (change_of c)) drawn
        (own_spent (write_drives s.set.drives s.set.parity) s.set.drives s.last s.later s.holding.flights s.rest s.records s.state s.put s.own.change m.stands m.up m.lands m.number));
    brings = λ named names.
        let same = named_is named names in
        inr (record {
          added = record { id = id_bytes part.data_id; print = part.print };
          adds_is = part_adds;
          id_is = sym (ap (λ (n : NamedData). id_bytes n.id) same);
          print_is = sym (ap (λ (n : NamedData). n.print) same);
        });
    opens = λ other more is opened. absurd (key_not_part other at upload number (sym is));
    part = λ other more n is. held_open s.state.registers other more n (subst (λ (x : List ℕ). IsHeld s.state.registers x) is m.held);
  }

  -- and it brings its data, where an op knows that this has its holders
  pub part_brings : (slot : ℕ) (disks : Disks) (hands : Hands)
      → ((named : NamedData) → brings_of (Part at upload number part) ≡ Some named → Contains hands.known (record { named = named; name = called }))
      → DataStands s.set slot s.last s.records s.state s.holding disks hands
      → BringsData slot s.holding.flights s.rest hands called (written_of (next_of s.own))
  part_brings slot disks hands known d =
      let lands = put_lands s.put part.data_id s.holding.flights s.rest part_put m.lands in
      let listed = taken_there lands.0 s.holding.flights s.rest lands.2 in
      record {
        of_slot = λ id names. ap (λ (x : VersionId). x.slot) (sym (part_ids id names)) ∙ (ap (λ (x : VersionId). x.slot) (sym lands.1) ∙ d.flights.of_slot lands.0 listed);
        brought = λ named names added.
            let same = named_is named names in
            record {
              flying = record { flight = lands.0; there = listed; id_is = lands.1 ∙ ap (λ (n : NamedData). n.id) (sym same) };
              ends = λ f. lands.3 f.flight f.there (ap number_of_id (f.id_is ∙ ap (λ (n : NamedData). n.id) same));
              known = known named (ap (λ (n : NamedData). Some n) (sym same));
            };
        adds = λ added is.
            let same : record { id = id_bytes part.data_id; print = part.print } ≡ added = some_same (record { id = id_bytes part.data_id; print = part.print }) added (sym part_adds ∙ is) in
            record {
              named = part_data;
              names = inr (record { at = at; upload = upload; number = number; name_is = refl; part = kept; spells = new_spells; id_is = refl; print_is = refl; size_is = refl });
              id_is = sym (ap (λ (a : Added). a.id) same);
              print_is = sym (ap (λ (a : Added). a.print) same);
            };
      }
    where
      some_same : (a b : Added) → Some a ≡ Some b → a ≡ b
      some_same a b is = cc
