-- Where the entry of a section says that a read of a key found a version, the section leaves a state in which the key's register names the version's data.
use Rattle.std.proofs.Common.{◌≡◌, ◌∙◌, ◌≤◌, ℕ, List, Option, Some, None, Contains, Result, Ok, Err, ap, inl, inr, refl, subst, sym}
use Rattle.std.specs.Prelude.{MatchOption, slice_get}
use Rattle.std.proofs.lemmas.Option.{get_or_from_slice_get, none-some, slice_get_within}
use Rattle.audit_trail.specs.declared.entry.Deed.{Deed}
use Rattle.audit_trail.specs.declared.entry.Deed.TheVariants.{Done}
use Rattle.audit_trail.specs.declared.entry.Entry.{Entry}
use Rattle.call_types.specs.declared.act.Brief.TheVariants.{Answer, Read}
use Rattle.call_types.specs.declared.names.Mode.{Mode}
use Rattle.call_types.specs.declared.names.Span.{Span}
use Rattle.call_types.specs.declared.refusal.KeyRefusal.{KeyRefusal}
use Rattle.call_types.specs.declared.reply.Reply.{Reply}
use Rattle.call_types.specs.declared.reply.Reply.TheVariants.{Found}
use Rattle.call_types.specs.declared.version.Version.{Version}
use Rattle.call_types.specs.declared.version.What.{What}
use Rattle.call_types.specs.declared.version.What.TheVariants.{Marker, Object}
use Rattle.slot_history.specs.Contents.{IsVersionOf, KeyNames, NamedData}
use Rattle.slot_history.specs.Doing.{DoesRead, RepliesRead}
use Rattle.slot_history.specs.Moving.{Deeds}
use Rattle.slot_history.specs.Sections.{OwnStep}
use Rattle.slot_history.specs.Standing.{Records}
use Rattle.slot_history.specs.State.{Registers, State}
use Rattle.slot_core.specs.Turns.{EntryMoves}
use Rattle.receipts.specs.Events.{Note, Shown}
use Rattle.receipts.specs.Events.Event.{Turned}
use Rattle.receipts.specs.Letters.{Wanted}
use Rattle.receipts.specs.Paying.{LeavesAll}
use Rattle.receipts.specs.Reading.{IsWanted}
use Rattle.receipts.specs.Spans.{body_length}
use Rattle.op_steps.specs.Leading.{Standing}
use Rattle.op_steps.specs.Moves.{ShowsBy}
use Rattle.log_laws.specs.Reads.{FindsData, LeavesSlot}
use Rattle.log_laws.proofs.ReadBackLemmas.{Names}
use Rattle.log_laws.proofs.ReadStayLemmas.{SlotMoves, stood_by}

-- the data of an object, as what is wanted of it
pub record DataOf (what : What) (wanted : Wanted) : Type 0 where
  pub named : NamedData
  pub object : (version : Version) → version.what ≡ what → IsVersionOf named version
  pub id_is : named.id ≡ wanted.id
  pub print_is : named.print ≡ wanted.print
  pub reaches : wanted.reach ≤ named.size

data_wanted : (what : What) (span : Span) (wanted : Wanted) → IsWanted what span wanted → wanted.reach ≤ body_length what → DataOf what wanted
data_wanted Marker span wanted is within = absurd is
data_wanted (Object data_id print size md5 parts upload kind) span wanted is within = record {
  named = record { id = data_id; print = print; size = size };
  object = λ version same. (md5, parts, upload, kind, same);
  id_is = sym is.0;
  print_is = sym is.1;
  reaches = within;
}

pub data_found : (wanted : Wanted) (entry : Entry) → (finds : FindsData wanted entry) → DataOf finds.version.what wanted
data_found wanted entry finds = data_wanted finds.version.what finds.span wanted finds.is_wanted finds.within

-- the version that a reply tells
told_version : Reply → Option Version
told_version (Found version span id) = Some version
told_version other = None

same_version : (a b : Version) (x : Option Version) → x ≡ Some a → x ≡ Some b → a ≡ b
same_version a b x one two = (let both : Some a ≡ Some b = sym one ∙ two in cc)

-- what stands at a place of a list is in it
contains_got : {A : Type 0} (xs : List A) (k : ℕ) (x : A) → slice_get xs k ≡ Some x → Contains xs x
contains_got xs k x got = (k, slice_get_within xs k x got, get_or_from_slice_get xs k x x got)

-- it is one of those that were read
found_there : (mode : Mode) (versions : List Version) (answer : Result ℕ KeyRefusal) (reply : Reply) (version : Version) → RepliesRead mode versions answer reply
    → told_version reply ≡ Some version → (place : ℕ) × (slice_get versions place ≡ Some version)
unfolding told_version
found_there mode versions (Ok place) reply version (v, there, is) told =
    (place, there ∙ ap Some (same_version v version (told_version reply) (ap told_version is) told))
found_there mode versions (Err why) reply version is told = absurd (none-some version (sym (ap told_version is) ∙ told))

-- the register of a key names the data of a version that is read from it
key_names : (registers : Registers) (name content : List ℕ) (at : _) (mode : Mode) (pick : _) (reply : Reply) (version : Version) (named : NamedData)
    → DoesRead registers name at mode pick reply content → told_version reply ≡ Some version → IsVersionOf named version
    → KeyNames name (registers name).content named
key_names registers name content at mode pick reply version named does told is =
    let found = found_there mode does.state.versions does.answer reply version does.replies told in
    record {
      at = at;
      name_is = does.name_is;
      state = does.state;
      spells = does.spells;
      version = version;
      there = contains_got does.state.versions found.0 version found.1;
      is = is;
    }

-- what the deed of a read leaves
deed_names : (slot : ℕ) (name : List ℕ) (at : _) (mode : Mode) (pick : _) (version : Version) (whole : Span) (id : _) (old new : State) (records : Records)
    (named : NamedData) → Deeds slot name (Done (Read at mode pick) (Answer (Found version whole id))) old new → IsVersionOf named version
    → Names name named (stood_by records new)
unfolding told_version
deed_names slot name at mode pick version whole id old new records named (inl makes) is = absurd (none-some makes.change makes.drawn)
deed_names slot name at mode pick version whole id old new records named (inr finds) is =
    let names = key_names old.registers name (old.registers name).content at mode pick (Found version whole id) version named finds.does refl is in
    subst (λ (s : State). Names name named (stood_by records s)) (sym finds.stays) (record {
      key = names.at;
      name_is = names.name_is;
      how = inl (record { held = inr (inl (names.at, names.name_is)); names = inl names });
    })

-- the section of such an entry leaves it
own_is : (call : _) (reply : _) (after new : State) → OwnStep (Done call reply) after new → new ≡ after
own_is call reply after new (inl same) = same
own_is call reply after new (inr own) = absurd own.1

entry_names : (slot : ℕ) (entry : Entry) (shown : Shown) (from to : Standing) (at : _) (mode : Mode) (pick : _) (version : Version) (whole : Span) (id : _)
    (named : NamedData) → EntryMoves slot (Some entry) (ShowsBy (Some entry) shown) from.records from.state to.records to.state
    → entry.deed ≡ Done (Read at mode pick) (Answer (Found version whole id)) → IsVersionOf named version → Names entry.name named to
entry_names slot entry shown from to at mode pick version whole id named moves is object =
    let x = moves.0 in
    let own = own_is (Read at mode pick) (Answer (Found version whole id)) x.after to.state (subst (λ (d : Deed). OwnStep d x.after to.state) is x.own) in
    subst (λ (s : State). Names entry.name named (stood_by to.records s)) (sym own)
    (deed_names slot entry.name at mode pick version whole id x.before x.after to.records named
    (subst (λ (d : Deed). Deeds slot entry.name d x.before x.after) is x.moves.deed) object)

-- what a section found is named by what it leaves
pub found_names : (slot : ℕ) (note : Note) (shown : Shown) (entry : Entry) (from to : Standing) (wanted : Wanted) (finds : FindsData wanted entry)
    (data_is : DataOf finds.version.what wanted) → note.entry ≡ Some entry → SlotMoves slot (Turned slot (Some note) shown) from to
    → Names entry.name data_is.named to
found_names slot note shown entry from to wanted finds data_is is (inl own) =
    entry_names slot entry shown from to finds.at finds.mode finds.pick finds.version finds.whole finds.id data_is.named
    (subst (λ (e : Option Entry). EntryMoves slot e (ShowsBy e shown) from.records from.state to.records to.state) is own.1) finds.deed_is
    (data_is.object finds.version refl)
found_names slot note shown entry from to wanted finds data_is is (inr other) = absurd (other.0 refl)

-- and it changed nothing of its slot
pub found_leaves : (slot : ℕ) (note : Note) (shown : Shown) (entry : Entry) (wanted : Wanted) → FindsData wanted entry → note.entry ≡ Some entry
    → LeavesSlot slot (Turned slot (Some note) shown)
found_leaves slot note shown entry wanted finds is same = subst (λ (e : Option Entry). MatchOption e (Unit {0}) (λ made. LeavesAll made.deed)) (sym is)
    (subst LeavesAll (sym finds.deed_is) tt)
