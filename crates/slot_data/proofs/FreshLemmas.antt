-- The data stands of a slot in which nothing was done, and of one in which nothing is under way.
use Rattle.std.proofs.Common.{◌≡◌, inl, inr, ℕ, true, List, [], replicate, None, Some, Contains, sym, subst, ◌∙◌, arith}
use Rattle.std.proofs.lemmas.List.{get_or-replicate, length-replicate}
use Rattle.stamp_id.specs.declared.version.VersionId.{VersionId}
use Rattle.call_types.specs.declared.version.PartRecord.{PartRecord}
use Rattle.drive_base.specs.declared.plan.SetPlan.{SetPlan}
use Rattle.version_list.specs.NamesId.{names_id}
use Rattle.version_list.specs.State.{IsCanonical}
use Rattle.version_list.specs.declared.state.KeyState.{KeyState}
use Rattle.version_list.proofs.LawProofs.{injective}
use Rattle.upload_book.proofs.ContentLemmas.{content_injective}
use Rattle.vote_core.specs.Lane.{HasNext, HasRecord, Lane, Next, blank_lane}
use Rattle.slot_history.specs.Contents.{NamedData, NamesData, NamesId, SpellsKey, SpellsPart, no_key}
use Rattle.slot_history.specs.Standing.{Records}
use Rattle.slot_history.specs.State.{State, no_state}
use Rattle.slot_history.proofs.TakenLemmas.{none_there}
use Rattle.slot_data.specs.Disks.{Disks}
use Rattle.slot_data.specs.Holding.{no_hands, no_holding}
use Rattle.slot_data.specs.Laws.{FreshDataStands, LifeEnds}
use Rattle.slot_data.specs.Standing.{FlightsStand, HandsStand, PinsStand, RecordNames, RecordNamesId, TrashStands}
use Rattle.slot_data.proofs.NamingLemmas.{record_names_id}

-- a key that has nothing is canonical
no_key_canonical : IsCanonical no_key
no_key_canonical = record { few_versions = omega arith; few_uploads = omega arith; distinct = tt; versions = tt; uploads = tt }

-- no byte spells a key with nothing alone, and no part
no_bytes_key : (state : KeyState) → SpellsKey [] state → state ≡ no_key
no_bytes_key state spells = injective state no_key spells.canonical no_key_canonical (sym spells.is)

no_bytes_part : (part : PartRecord) → SpellsPart [] (Some part) → ⊥
no_bytes_part part spells = (let same : None ≡ Some part = content_injective None (Some part) tt spells.canonical spells.is in absurd cc)

-- no id is named by it
no_bytes_id : (name : List ℕ) (id : VersionId) → NamesId name [] id → ⊥
no_bytes_id name id (inl k) = (
    let named : names_id id no_key ≡ true = subst (λ (s : KeyState). names_id id s ≡ true) (no_bytes_key k.state k.spells) k.names in
    absurd cc)
no_bytes_id name id (inr p) = no_bytes_part p.1.part p.1.spells

pub no_bytes_data : (name : List ℕ) (named : NamedData) → NamesData name [] named → ⊥
no_bytes_data name named (inl k) =
    none_there k.version (subst (λ (s : KeyState). Contains s.versions k.version) (no_bytes_key k.state k.spells) k.there)
no_bytes_data name named (inr p) = no_bytes_part p.part p.spells

-- ---- blank lanes

-- each of them is blank
each_blank : (n : ℕ) (a : Lane) → Contains (replicate n blank_lane) a → a ≡ blank_lane
each_blank n a there = (
    let sized = length-replicate n blank_lane in
    sym there.2 ∙ get_or-replicate n there.0 blank_lane a (omega (arith, sized, there.1)))

-- it has no next, and its record has no byte
pub blank_next : (next : Next) → HasNext blank_lane next → ⊥
blank_next next has = absurd cc

blank_record : (c : ℕ) (content : List ℕ) → HasRecord blank_lane c content → content ≡ []
blank_record c content (inl base) = sym base.1
blank_record c content (inr next) = absurd (blank_next next.0 next.1)

no_next : (n : ℕ) (a : Lane) (next : Next) → Contains (replicate n blank_lane) a → HasNext a next → ⊥
no_next n a next there has = blank_next next (subst (λ (l : Lane). HasNext l next) (each_blank n a there) has)

-- so no record names an id
no_record_id : (n : ℕ) (name : List ℕ) (id : VersionId) → RecordNamesId (λ _. replicate n blank_lane) name id → ⊥
no_record_id n name id r =
    let blank = blank_record r.change r.content (subst (λ (l : Lane). HasRecord l r.change r.content) (each_blank n r.lane r.there) r.has) in
    no_bytes_id name id (subst (λ (bytes : List ℕ). NamesId name bytes id) blank r.names)

no_record : (n : ℕ) (name : List ℕ) (id : VersionId) → RecordNames (λ _. replicate n blank_lane) name id → ⊥
no_record n name id r = no_record_id n name id (record_names_id (λ _. replicate n blank_lane) name id r)

-- ---- a slot in which nothing is under way

no_flights : (set : SetPlan) (slot : ℕ) (records : Records) (disks : Disks) → FlightsStand set slot records no_holding disks
no_flights set slot records disks = record {
  of_slot = λ f there. absurd (none_there f there);
  differ = tt;
  unnamed = λ f name there r. none_there f there;
  unpinned = λ f there pinned. none_there f there;
  no_trash = λ f there trash. none_there f there;
  no_part = λ f whole there piece. absurd (none_there f there);
  gathered = λ f id there piece. absurd (none_there f there);
  named = λ f m there kept. absurd (none_there f there);
}

no_pins : (set : SetPlan) (slot last : ℕ) (records : Records) (disks : Disks) → PinsStand set slot last records [] disks
no_pins set slot last records disks = record {
  differ = tt;
  of_slot = λ id is. absurd (none_there is.pin is.there);
  drawn = λ id is. absurd (none_there is.pin is.there);
  named = λ p id m there. absurd (none_there p there);
  held = λ p id there. absurd (none_there p there);
  parts = λ id is whole. none_there is.pin is.there;
}

no_trash : (set : SetPlan) (slot last : ℕ) (records : Records) (state : State) (disks : Disks) → TrashStands set slot last records state no_holding disks
no_trash set slot last records state disks = record {
  unheld = λ id there held. none_there id there;
  no_part = λ id whole there. absurd (none_there id there);
  of_slot = λ id there. absurd (none_there id there);
  drawn = λ id there. absurd (none_there id there);
}

none_in_hand : (set : SetPlan) (slot last : ℕ) (records : Records) (state : State) (disks : Disks)
    → HandsStand set slot last records state no_holding disks no_hands
none_in_hand set slot last records state disks = record {
  dead = λ id there live. none_there id there;
  of_slot = λ id there. absurd (none_there id there);
  drawn = λ id there. absurd (none_there id there);
  listed = λ x there. absurd (none_there x there);
  holders = λ x there. absurd (none_there x there);
}

-- a life ends
pub life_ends : LifeEnds
life_ends set slot last records state holding disks hands d = record {
  names = d.names;
  files = d.files;
  flights = no_flights set slot records disks;
  pins = no_pins set slot last records disks;
  trash = no_trash set slot last records state disks;
  in_hand = none_in_hand set slot last records state disks;
  holders = d.holders;
}

-- the data stands where nothing was done
pub fresh_data_stands : FreshDataStands
fresh_data_stands set slot last disks files = record {
  names = record {
    of_slot = λ name id r. absurd (no_record_id set.drives name id r);
    one_name = λ id name other r s. absurd (no_record set.drives name id r);
  };
  files = files;
  flights = no_flights set slot (λ name. replicate set.drives blank_lane) disks;
  pins = no_pins set slot last (λ name. replicate set.drives blank_lane) disks;
  trash = no_trash set slot last (λ name. replicate set.drives blank_lane) no_state disks;
  in_hand = none_in_hand set slot last (λ name. replicate set.drives blank_lane) no_state disks;
  holders = record {
    named = λ name named is. absurd (no_bytes_data name named is.names);
    coming = λ name named is. absurd (no_next set.drives is.lane is.next is.there is.has);
    adds = λ name a next added held there has live adds. absurd (no_next set.drives a next there has);
    wholes = λ whole id piece is. absurd (no_record set.drives _ id is.1);
  };
}
