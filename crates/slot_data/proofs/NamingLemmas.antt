-- Which records name what a state names.
use Rattle.std.proofs.Common.{◌≡◌, inl, inr, ℕ, ◌≤◌, true, List, refl, sym, subst}
use Rattle.std.specs.List.{list_any}
use Rattle.std.proofs.lemmas.Bool.{or_left, or_right}
use Rattle.std.proofs.lemmas.List.Folds.{list_any_at}
use Rattle.stamp_id.specs.declared.version.VersionId.{VersionId}
use Rattle.call_types.specs.declared.names.VersionName.TheVariants.{Id}
use Rattle.call_types.specs.declared.version.Version.{Version}
use Rattle.call_types.specs.declared.version.What.{What}
use Rattle.version_list.specs.Naming.{has_name, is_upload, same_id}
use Rattle.version_list.specs.NamesId.{is_made_by, version_names, what_names}
use Rattle.version_list.proofs.NamingLemmas.{same_id-refl}
use Rattle.slot_history.specs.Contents.{IsVersionOf, NamedData, NamesData, NamesId, number_of_id}
use Rattle.slot_history.specs.Standing.{Flying, Records, Stands}
use Rattle.slot_history.specs.State.{State}
use Rattle.slot_data.specs.Live.{IsComing, IsNamed}
use Rattle.slot_data.specs.Standing.{RecordNames, RecordNamesId}

-- a version of this data names its id
version_has : (named : NamedData) (v : Version) → IsVersionOf named v → version_names named.id v ≡ true
version_has named v is =
    or_right (has_name (Id named.id) v) (what_names named.id v.what)
    (subst (λ (w : What). what_names named.id w ≡ true) (sym is.4) (or_left (same_id named.id named.id) (is_made_by named.id is.2) (same_id-refl named.id)))

-- a content that names data names its id
pub names_its_id : (name content : List ℕ) (named : NamedData) → NamesData name content named → NamesId name content named.id
names_its_id name content named (inl k) = inl (record {
  at = k.at;
  name_is = k.name_is;
  state = k.state;
  spells = k.spells;
  names =
      or_left (list_any (version_names named.id) k.state.versions) (list_any (is_upload named.id) k.state.uploads)
      (list_any_at (version_names named.id) k.state.versions k.there.0 k.version k.there.1
      (subst (λ (v : Version). version_names named.id v ≡ true) (sym k.there.2) (version_has named k.version k.is)));
})
names_its_id name content named (inr p) = inr (named, p, refl)

-- and so does a record
pub record_names_id : (records : Records) (name : List ℕ) (id : VersionId) → RecordNames records name id → RecordNamesId records name id
record_names_id records name id r = record {
  lane = r.lane;
  change = r.change;
  content = r.content;
  there = r.there;
  has = r.has;
  names = subst (λ (x : VersionId). NamesId name r.content x) r.id_is (names_its_id name r.content r.named r.names);
}

-- what is named a record names
pub record_of_named :
    (w drives last : ℕ) (flights : List Flying) (records : Records) (state : State) (name : List ℕ) (named : NamedData) (id : VersionId)
    → Stands w drives last flights records state → IsNamed state name named → named.id ≡ id → RecordNames records name id
record_of_named w drives last flights records state name named id stands is same =
    let holds = (stands.under name is.held).holds in
    let top = holds.sound.value in
    record {
      lane = top.lane;
      change = (state.registers name).change;
      content = (state.registers name).content;
      there = top.top.there;
      has = inl (top.carries, holds.contents top.lane top.top.there top.carries);
      named = named;
      names = is.names;
      id_is = same;
    }

-- what is coming a record names
pub record_of_coming :
    (records : Records) (state : State) (name : List ℕ) (named : NamedData) (id : VersionId) → IsComing records state name named → named.id ≡ id
    → RecordNames records name id
record_of_coming records state name named id is same = record {
  lane = is.lane;
  change = is.next.change;
  content = is.next.content;
  there = is.there;
  has = inr (is.next, is.has, refl, refl);
  named = named;
  names = is.names;
  id_is = same;
}

-- what a record names was drawn
pub record_drawn :
    (w drives last : ℕ) (flights : List Flying) (records : Records) (state : State) (name : List ℕ) (id : VersionId)
    → Stands w drives last flights records state → RecordNamesId records name id → number_of_id id ≤ last
record_drawn w drives last flights records state name id stands r =
    ((stands.lawful_under name).ids r.lane r.change r.content id r.there r.has r.names).drawn
