-- What lanes that stand keep of a register is accepted by the rule of a section, and isn't too long.
use Rattle.std.proofs.Common.{◌≡◌, ◌∙◌, ◌⊎◌, ◌+◌, ◌≤◌, ℕ, List, [], Option, Some, None, Contains, cond, length, ap, sym, subst, inl, inr, refl, arith}
use Rattle.std.specs.Prelude.{Bool, true, false}
use Rattle.stamp_id.specs.Rank.{change_of}
use Rattle.stamp_id.specs.VersionId.{id_bytes}
use Rattle.stamp_id.specs.declared.stamp.ChangeId.{ChangeId}
use Rattle.stamp_id.specs.declared.version.VersionId.{VersionId}
use Rattle.call_types.specs.declared.names.Key.{Key}
use Rattle.field_reader.specs.Format.{fault_at}
use Rattle.bucket_book.specs.Content.{content_fault}
use Rattle.bucket_book.specs.declared.record.BucketRecord.{BucketRecord}
use Rattle.bucket_book.proofs.ContentLemmas.{contents_no_fault}
use Rattle.version_list.specs.Layout.{key_state}
use Rattle.version_list.specs.NamesId.{names_id}
use Rattle.version_list.specs.Places.{id_place}
use Rattle.version_list.specs.Spelling.{spelling}
use Rattle.version_list.specs.declared.state.KeyState.{KeyState}
use Rattle.version_list.proofs.LawProofs.{no_fault}
use Rattle.version_list.proofs.PlaceLemmas.{none_there, place_named}
use Rattle.call_types.specs.declared.version.PartRecord.{PartRecord}
use Rattle.upload_book.specs.Content.{content_fault as part_fault}
use Rattle.upload_book.proofs.ContentLemmas.{contents_no_fault as parts_no_fault}
use Rattle.vote_core.specs.Lane.{HasRecord, Lane}
use Rattle.register_core.specs.ServingLanes.{IsWithin}
use Rattle.slot_history.specs.Contents.{IsContentOf, SpellsBucket, SpellsKey, SpellsPart, no_key, number_of_id}
use Rattle.slot_history.specs.Names.{bucket_name, key_name, part_name}
use Rattle.slot_history.specs.Standing.{Flying, IsLawfulUnder, IsSpent}
use Rattle.slot_history.proofs.NameLemmas.{bucket_not_key, bucket_not_part, key_not_part}
use Rattle.slot_rules.specs.Deeds.{name_of}
use Rattle.slot_rules.specs.Owning.{IsOwnId}
use Rattle.slot_rules.specs.Rules.{is_bucket_name, is_part_name, NamesNone, first_place, key_fault, longest_for, named_place, rule_for}
use Rattle.slot_rules.proofs.PartLemmas.{part_short}
use Rattle.slot_rules.proofs.SizeLemmas.{bucket_short, content_short}
use Rattle.slot_rules.specs.declared.commit.Commit.TheVariants.{Key as KeyDeed, Part as PartDeed, MakeBucket, SetMode}
use Rattle.slot_rules.specs.declared.commit.Commit.{Commit}
use Rattle.slot_rules.specs.declared.rules.TheConstants.{BUCKET_BYTES, KEY_BYTES, PART_BYTES}
use Rattle.slot_core.specs.CommitCauses.{IsRuleOf, life_of}
use Rattle.slot_core.specs.Views.{SlotNumbers, last_of}

-- what lanes keep of a register is accepted by a rule, and isn't too long
pub record Accepts (rule : List ℕ → Option ℕ) (longest : ℕ) (lanes : List Lane) : Type 0 where
  pub accepts : (a : Lane) (c : ℕ) (content : List ℕ) → Contains lanes a → HasRecord a c content → rule content ≡ None
  pub short : (a : Lane) → Contains lanes a → IsWithin longest a

-- contents that are short are those of a short record
within : (longest : ℕ) (a : Lane) → ((c : ℕ) (content : List ℕ) → HasRecord a c content → length content ≤ longest) → IsWithin longest a
within longest a short = record {
  base = short a.base.change a.base.content (inl (refl, refl));
  next = λ next has. short next.change next.content (inr (next, has, refl, refl));
}

-- ---- keys

no_key_spelled : SpellsKey [] no_key
no_key_spelled = record {
  canonical = record { few_versions = omega arith; few_uploads = omega arith; distinct = tt; versions = tt; uploads = tt };
  is = refl;
}

-- the state that a key's content spells
pub key_of : (at : Key) (content : List ℕ) → (content ≡ []) ⊎ IsContentOf (key_name at) content → (state : KeyState) × SpellsKey content state
key_of at content (inl none) = (no_key, subst (λ (c : List ℕ). SpellsKey c no_key) (sym none) no_key_spelled)
key_of at content (inr (inl (other, name, (state, spells)))) = (state, spells)
key_of at content (inr (inr (inl (bucket, name, (row, spells))))) = absurd (bucket_not_key bucket at (sym name))
key_of at content (inr (inr (inr (other, upload, number, name, (row, spells))))) = absurd (key_not_part at other upload number name)

-- a state without an id has no place of it
unnamed_place : (id : Option VersionId) (content : List ℕ) (state : KeyState) → SpellsKey content state → NamesNone id state → named_place id content ≡ None
unnamed_place None content state spells none = refl
unnamed_place (Some id) content state spells none =
    let place : id_place (id_bytes id) content ≡ id_place (id_bytes id) (spelling state) = ap (λ (c : List ℕ). id_place (id_bytes id) c) spells.is in
    place ∙ none_there (id_place (id_bytes id) (spelling state)) (id_place (id_bytes id) (spelling state)) refl (place_named id state spells.canonical ∙ none)

pub key_accepted : (first second : Option VersionId) (content : List ℕ) (state : KeyState) → SpellsKey content state → NamesNone first state → NamesNone second state
    → key_fault first second content ≡ None
key_accepted first second content state spells none also =
    let read : fault_at key_state content ≡ None = ap (λ (c : List ℕ). fault_at key_state c) spells.is ∙ no_fault state spells.canonical in
    ap (λ (p : Option ℕ). first_place p (first_place (named_place first content) (named_place second content))) read
    ∙ (ap (λ (p : Option ℕ). first_place p (named_place second content)) (unnamed_place first content state spells none)
    ∙ unnamed_place second content state spells also)

-- an id may be asked for that is not spent
abbrev MayName : ℕ → List Flying → Option VersionId → Type 0
MayName last flights None = Unit {0}
MayName last flights (Some id) = IsSpent last flights (number_of_id id) → ⊥

pub either : (b : Bool) → (b ≡ true) ⊎ (b ≡ false)
either true = inl refl
either false = inr refl

module _ (drives last : ℕ) (flights : List Flying) (lanes : List Lane) where
  names_none : (at : Key) (a : Lane) (c : ℕ) (content : List ℕ) (state : KeyState) (id : Option VersionId) → IsLawfulUnder drives last flights lanes (key_name at)
      → Contains lanes a → HasRecord a c content → SpellsKey content state → MayName last flights id → NamesNone id state
  names_none at a c content state None lawful there has spells may = tt
  names_none at a c content state (Some id) lawful there has spells may = elim (either (names_id id state)) [
    | inl named ↦ absurd (may (lawful.ids a c content id there has (inl (record { at = at; name_is = refl; state = state; spells = spells; names = named }))))
    | inr none ↦ none
  ]

  key_accepts : (at : Key) (first second : Option VersionId) → IsLawfulUnder drives last flights lanes (key_name at) → MayName last flights first
      → MayName last flights second → Accepts (λ content. key_fault first second content) KEY_BYTES lanes
  key_accepts at first second lawful may also = record {
    accepts = λ a c content there has.
        let x = key_of at content (lawful.contents a c content there has) in
        key_accepted first second content x.0 x.1 (names_none at a c content x.0 first lawful there has x.1 may)
        (names_none at a c content x.0 second lawful there has x.1 also);
    short = λ a there. within KEY_BYTES a (λ c content has.
        let x = key_of at content (lawful.contents a c content there has) in content_short content x.0 x.1.canonical x.1.is);
  }

-- ---- buckets

pub bucket_of : (bucket content : List ℕ) → (content ≡ []) ⊎ IsContentOf (bucket_name bucket) content → (row : Option BucketRecord) × SpellsBucket content row
bucket_of bucket content (inl none) = (None, record { canonical = tt; is = none })
bucket_of bucket content (inr (inl (at, name, (state, spells)))) = absurd (bucket_not_key bucket at name)
bucket_of bucket content (inr (inr (inl (other, name, (row, spells))))) = (row, spells)
bucket_of bucket content (inr (inr (inr (at, upload, number, name, (row, spells))))) = absurd (bucket_not_part bucket at upload number name)

bucket_accepts : (drives last : ℕ) (flights : List Flying) (lanes : List Lane) (bucket : List ℕ) → IsLawfulUnder drives last flights lanes (bucket_name bucket)
    → Accepts (λ content. content_fault content) BUCKET_BYTES lanes
bucket_accepts drives last flights lanes bucket lawful = record {
  accepts = λ a c content there has.
      let x = bucket_of bucket content (lawful.contents a c content there has) in
      ap (λ (v : List ℕ). content_fault v) x.1.is ∙ contents_no_fault x.0 x.1.canonical;
  short = λ a there. within BUCKET_BYTES a (λ c content has.
      let x = bucket_of bucket content (lawful.contents a c content there has) in bucket_short content x.0 x.1.is);
}

-- ---- parts

pub part_of : (at : Key) (upload : VersionId) (number : ℕ) (content : List ℕ) → (content ≡ []) ⊎ IsContentOf (part_name at upload number) content
    → (row : Option PartRecord) × SpellsPart content row
part_of at upload number content (inl none) = (None, record { canonical = tt; is = none })
part_of at upload number content (inr (inl (other, name, (state, spells)))) = absurd (key_not_part other at upload number (sym name))
part_of at upload number content (inr (inr (inl (bucket, name, (row, spells))))) = absurd (bucket_not_part bucket at upload number (sym name))
part_of at upload number content (inr (inr (inr (other, more, n, name, (row, spells))))) = (row, spells)

part_accepts : (drives last : ℕ) (flights : List Flying) (lanes : List Lane) (at : Key) (upload : VersionId) (number : ℕ)
    → IsLawfulUnder drives last flights lanes (part_name at upload number) → Accepts (λ content. part_fault content) PART_BYTES lanes
part_accepts drives last flights lanes at upload number lawful = record {
  accepts = λ a c content there has.
      let x = part_of at upload number content (lawful.contents a c content there has) in
      ap (λ (v : List ℕ). part_fault v) x.1.is ∙ parts_no_fault x.0 x.1.canonical;
  short = λ a there. within PART_BYTES a (λ c content has.
      let x = part_of at upload number content (lawful.contents a c content there has) in part_short content x.0 x.1.canonical x.1.is);
}

-- ---- by the name

empty_accepted : (b p : Bool) → cond b (content_fault []) (cond p (part_fault []) (key_fault None None [])) ≡ None
empty_accepted true p = refl
empty_accepted false true = refl
empty_accepted false false = key_accepted None None [] no_key no_key_spelled tt tt

pub look_content : (name content : List ℕ) → (content ≡ []) ⊎ IsContentOf name content → (rule_for name content ≡ None) × (length content ≤ longest_for name)
look_content name content (inl none) = (
  ap (λ (v : List ℕ). rule_for name v) none ∙ empty_accepted (is_bucket_name name) (is_part_name name),
  let long = ap (λ (v : List ℕ). length v) none in omega (arith, long),
)
look_content name content (inr (inl (at, is, (state, spells)))) =
    subst (λ (n : List ℕ). (rule_for n content ≡ None) × (length content ≤ longest_for n)) (sym is)
    (key_accepted None None content state spells tt tt, content_short content state spells.canonical spells.is)
look_content name content (inr (inr (inl (bucket, is, (row, spells))))) =
    subst (λ (n : List ℕ). (rule_for n content ≡ None) × (length content ≤ longest_for n)) (sym is)
    (ap (λ (v : List ℕ). content_fault v) spells.is ∙ contents_no_fault row spells.canonical, bucket_short content row spells.is)
look_content name content (inr (inr (inr (at, upload, number, is, (row, spells))))) =
    subst (λ (n : List ℕ). (rule_for n content ≡ None) × (length content ≤ longest_for n)) (sym is)
    (ap (λ (v : List ℕ). part_fault v) spells.is ∙ parts_no_fault row spells.canonical, part_short content row spells.canonical spells.is)

pub look_accepts : (drives last : ℕ) (flights : List Flying) (lanes : List Lane) (name : List ℕ)
    → IsLawfulUnder drives last flights lanes name → Accepts (rule_for name) (longest_for name) lanes
look_accepts drives last flights lanes name lawful = record {
  accepts = λ a c content there has. (look_content name content (lawful.contents a c content there has)).0;
  short = λ a there. within (longest_for name) a (λ c content has. (look_content name content (lawful.contents a c content there has)).1);
}

-- ---- by the deed

-- the put that a section ends, if it ends one, is listed
abbrev pub IsListedPut : List Flying → Option VersionId → Type 0
IsListedPut flights None = Unit {0}
IsListedPut flights (Some id) = (f : Flying) × Contains flights f × (f.id ≡ id)

-- the id of a section's own change isn't spent
own_unspent : (numbers : SlotNumbers) (flights : List Flying) (drawn : ℕ) (put : Option VersionId) (id : VersionId) → numbers.seq ≤ drawn
    → IsListedPut flights put → IsOwnId (life_of numbers) drawn put id → IsSpent (last_of numbers) flights (number_of_id id) → ⊥
own_unspent numbers flights drawn None id up listed own spent =
    let term = own.change.0 in
    let seq = own.change.1 in
    let low = spent.drawn in
    absurd (omega (arith, term, seq, low, up))
own_unspent numbers flights drawn (Some put) id up listed own spent =
    spent.landed listed.0 listed.1 (ap number_of_id listed.2 ∙ sym (ap (λ (c : ChangeId). change_of c) own.change))

pub deed_accepts : (drives : ℕ) (numbers : SlotNumbers) (flights : List Flying) (lanes : List Lane) (deed : Commit) (put : Option VersionId)
    (rule : List ℕ → Option ℕ) (longest : ℕ) → IsLawfulUnder drives (last_of numbers) flights lanes (name_of deed)
    → ((at : Key) → name_of deed ≡ key_name at → IsListedPut flights put) → IsRuleOf numbers deed put rule longest → Accepts rule longest lanes
deed_accepts drives numbers flights lanes (KeyDeed at mode act) put rule longest lawful listed (alone, after, first, second, rule_is, most) =
    let put_there = listed at refl in
    subst (λ (r : List ℕ → Option ℕ). Accepts r longest lanes) (sym rule_is)
    (subst (λ (m : ℕ). Accepts (λ content. key_fault (Some alone) (Some after) content) m lanes) (sym most)
    (key_accepts drives (last_of numbers) flights lanes at (Some alone) (Some after) lawful (own_unspent numbers flights numbers.seq put alone (omega arith) put_there first)
    (own_unspent numbers flights (numbers.seq + 1) put after (omega arith) put_there second)))
deed_accepts drives numbers flights lanes (PartDeed at upload number part) put rule longest lawful listed (rule_is, most) =
    subst (λ (r : List ℕ → Option ℕ). Accepts r longest lanes) (sym rule_is)
    (subst (λ (m : ℕ). Accepts (λ content. part_fault content) m lanes) (sym most) (part_accepts drives (last_of numbers) flights lanes at upload number lawful))
deed_accepts drives numbers flights lanes (MakeBucket bucket) put rule longest lawful listed (rule_is, most) =
    subst (λ (r : List ℕ → Option ℕ). Accepts r longest lanes) (sym rule_is)
    (subst (λ (m : ℕ). Accepts (λ content. content_fault content) m lanes) (sym most) (bucket_accepts drives (last_of numbers) flights lanes bucket lawful))
deed_accepts drives numbers flights lanes (SetMode bucket mode) put rule longest lawful listed (rule_is, most) =
    subst (λ (r : List ℕ → Option ℕ). Accepts r longest lanes) (sym rule_is)
    (subst (λ (m : ℕ). Accepts (λ content. content_fault content) m lanes) (sym most) (bucket_accepts drives (last_of numbers) flights lanes bucket lawful))
