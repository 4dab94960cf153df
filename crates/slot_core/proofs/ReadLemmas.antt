-- What a read of a key finds.
use Rattle.std.proofs.Common.{◌≡◌, ◌∙◌, ℕ, List, [], ◌∷◌, Option, None, Some, Result, Ok, Err, ap, subst, sym, refl}
use Rattle.std.specs.Prelude.{Bool, true, false, MatchBool, MatchOption, slice_get, position}
use Rattle.stamp_id.specs.declared.version.VersionId.{VersionId}
use Rattle.stamp_id.specs.declared.stamp.ChangeId.{ChangeId}
use Rattle.call_types.specs.declared.names.Key.{Key}
use Rattle.call_types.specs.declared.names.Mode.{Mode}
use Rattle.call_types.specs.declared.names.Pick.{Pick}
use Rattle.call_types.specs.declared.names.Pick.TheVariants as pick
use Rattle.call_types.specs.declared.names.VersionName.TheVariants.{Null, Id}
use Rattle.call_types.specs.declared.refusal.KeyRefusal.{KeyRefusal}
use Rattle.call_types.specs.declared.refusal.KeyRefusal.TheVariants.{NoSuchKey, NoSuchVersion, MarkerNamed}
use Rattle.call_types.specs.declared.reply.Reply.{Reply}
use Rattle.call_types.specs.declared.version.Version.{Version}
use Rattle.call_types.specs.declared.version.What.{What}
use Rattle.call_types.specs.declared.version.What.TheVariants.{Marker, Object}
use Rattle.version_list.specs.Naming.{has_name, is_marker}
use Rattle.version_list.specs.Reads.{ReadsAt, ReadsCurrent}
use Rattle.version_list.specs.declared.state.KeyState.{KeyState}
use Rattle.register_file.specs.declared.record.Base.{Base}
use Rattle.slot_history.specs.Contents.{IsVersionOf, NamedData, SpellsKey}
use Rattle.slot_history.specs.Moving.{IsLast}
use Rattle.slot_history.specs.Names.{key_name}
use Rattle.slot_history.specs.Standing.{Records}
use Rattle.slot_history.specs.State.{Register, State}
use Rattle.slot_data.specs.Holding.{Pinned}
use Rattle.slot_data.specs.Holding.Purpose.{ForRead}
use Rattle.slot_data.specs.Rows.{pinned_of}
use Rattle.slot_data.specs.declared.rows.PinRow.{PinRow}
use Rattle.slot_core.specs.ReadSection.{AreEntries, IsFound, KnownRead, PlansRead, found_reply, read_entry}
use Rattle.slot_core.specs.Settlement.{SettledOn}
use Rattle.slot_core.specs.declared.audit_entry.Entries.{Entries}
use Rattle.slot_core.specs.declared.read_plan.ReadPlan.{ReadPlan}
use Rattle.slot_core.specs.declared.read_plan.ReadPlan.TheVariants.{Gives}
use Rattle.slot_core.specs.declared.read_plan.ReadStart.{ReadStart}

-- the answer of a place
abbrev placed : ℕ → Result ℕ KeyRefusal
placed place = Ok place

-- a test that leaves such an answer
tested : (b : Bool) (why : KeyRefusal) (place at : ℕ) → MatchBool b (placed place ≡ Err why) (placed place ≡ placed at) → (b ≡ false) × (place ≡ at)
tested true why place at is = absurd cc
tested false why place at is = (refl, cc)

-- a version that a read gives is no marker
current_found : (versions : List Version) (place : ℕ) (v : Version) → ReadsCurrent versions (Ok place) → slice_get versions place ≡ Some v → is_marker v.what ≡ false
current_found [] place v reads there = absurd cc
current_found (first ∷ older) place v reads there =
    let t = tested (is_marker first.what) (NoSuchKey (Some first.id)) place 0 reads in
    let here : slice_get (first ∷ older) 0 ≡ Some v = subst (λ (k : ℕ). slice_get (first ∷ older) k ≡ Some v) t.1 there in
    let same : first ≡ v = (let both : Some first ≡ Some v = here in cc) in
    subst (λ (x : Version). is_marker x.what ≡ false) same t.0

named_at : (versions : List Version) (o : Option Version) (p place : ℕ) (v : Version) → slice_get versions p ≡ o
    → MatchOption o (placed place ≡ Err NoSuchVersion) (λ x. ReadsAt p x (Ok place)) → slice_get versions place ≡ Some v → is_marker v.what ≡ false
named_at versions None p place v is reads there = absurd cc
named_at versions (Some x) p place v is reads there =
    let t = tested (is_marker x.what) (MarkerNamed x.id x.modified) place p reads in
    let same : x ≡ v = (let both : Some x ≡ Some v = sym is ∙ (ap (λ (k : ℕ). slice_get versions k) (sym t.1) ∙ there) in cc) in
    subst (λ (y : Version). is_marker y.what ≡ false) same t.0

named_found : (o : Option ℕ) (versions : List Version) (place : ℕ) (v : Version)
    → MatchOption o (placed place ≡ Err NoSuchVersion)
    (λ p. MatchOption (slice_get versions p) (placed place ≡ Err NoSuchVersion) (λ x. ReadsAt p x (Ok place)))
    → slice_get versions place ≡ Some v → is_marker v.what ≡ false
named_found None versions place v reads there = absurd cc
named_found (Some p) versions place v reads there = named_at versions (slice_get versions p) p place v refl reads there

found_unmarked : (state : KeyState) (pick : Pick) (v : Version) → IsFound state pick v → is_marker v.what ≡ false
found_unmarked state pick.Current v found = current_found state.versions found.place v found.reads found.there
found_unmarked state pick.Null v found = named_found (position (has_name Null) state.versions) state.versions found.place v found.reads found.there
found_unmarked state (pick.Id id) v found = named_found (position (has_name (Id id)) state.versions) state.versions found.place v found.reads found.there

object_named : (v : Version) (what : What) → v.what ≡ what → is_marker what ≡ false → (named : NamedData) × IsVersionOf named v
object_named v Marker is none = absurd cc
object_named v (Object data_id print size md5 parts upload kind) is none =
    (record { id = data_id; print = print; size = size }, (md5, parts, upload, kind, is))

-- so it is an object
pub found_object : (state : KeyState) (pick : Pick) (v : Version) → IsFound state pick v → (named : NamedData) × IsVersionOf named v
found_object state pick v found = object_named v v.what refl (found_unmarked state pick v found)

-- a read's pin and its entries are made
pub plans_start : (ticket : ℕ) (at : Key) (mode : Mode) (pick : Pick) (state : KeyState) (version : Version) (start : ReadStart) (row : PinRow) (name : List ℕ) (id : VersionId)
    (reply : Reply) (entries : Entries)
    → start.version ≡ version → start.pin.ticket ≡ ticket → IsFound state pick version → reply ≡ found_reply mode version
    → AreEntries (read_entry ticket at mode pick reply) entries → (named : NamedData) × IsVersionOf named version × (named.id ≡ id)
    → pinned_of row ≡ record { ticket = ticket; purpose = ForRead; name = name; ids = id ∷ [] } → name ≡ key_name at
    → PlansRead ticket at mode pick state (Gives start row entries)
plans_start ticket at mode pick state version start row name id reply entries same handle found is are of_data pinned named = (
  subst (λ (v : Version). IsFound state pick v) (sym same) found,
  record {
    pin = record {
      ticket_is = ap (λ (p : Pinned). p.ticket) pinned;
      handle = handle;
      purpose = ap (λ (p : Pinned). p.purpose) pinned;
      name_is = ap (λ (p : Pinned). p.name) pinned ∙ named;
      named = of_data.0;
      object = subst (λ (v : Version). IsVersionOf of_data.0 v) (sym same) of_data.1;
      ids = ap (λ (p : Pinned). p.ids) pinned ∙ ap (λ (i : VersionId). i ∷ []) (sym of_data.2);
    };
    entries_are = subst (λ (r : Reply). AreEntries (read_entry ticket at mode pick r) entries) (is ∙ ap (found_reply mode) (sym same)) are;
  },
)

-- what is known of a key's register that was settled, as of what a read planned over its state
pub known_read : (name : List ℕ) (ticket : ℕ) (at : Key) (mode : Mode) (pick : Pick) (plan : ReadPlan) (base : Base) (content : List ℕ) (late : Option ChangeId) (state : KeyState)
    (records : Records) (now : State) → name ≡ key_name at → SpellsKey content state → PlansRead ticket at mode pick state plan
    → SettledOn name base content late records now → KnownRead ticket at mode pick plan late now
known_read name ticket at mode pick plan base content late state records now named spells plans known = record {
  state = state;
  spells = subst (λ (n : List ℕ). SpellsKey (now.registers n).content state) named
      (subst (λ (c : List ℕ). SpellsKey c state) (sym (ap (λ (r : Register). r.content) known.register_is)) spells);
  plans = plans;
  is_last = subst (λ (n : List ℕ). IsLast late (now.registers n)) named known.is_last;
}
