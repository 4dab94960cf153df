-- What lanes name after one register of them was written: what was named or coming, or what the change brings.
use Rattle.std.proofs.Common.{◌≡◌, ◌≢◌, ◌⊎◌, inl, inr, ℕ, ◌<◌, Bool, true, false, List, Option, Some, Contains, refl, sym, subst, ap, ◌∙◌, arith}
use Rattle.std.specs.Str.{bytes_eq}
use Rattle.std.proofs.lemmas.Slice.Eq.{bytes_eq-Decides}
use Rattle.stamp_id.specs.declared.version.VersionId.{VersionId}
use Rattle.call_types.specs.declared.names.Key.{Key}
use Rattle.drive_base.specs.declared.plan.SetPlan.{SetPlan}
use Rattle.drive_base.specs.Plan.{write_drives}
use Rattle.vote_core.specs.Lane.{Added, HasNext, HasRecord, Lane, Next}
use Rattle.vote_core.specs.Sound.{IsLive}
use Rattle.slot_history.specs.Contents.{HasOpen, NamedData, NamesData, NamesId, number_of_id}
use Rattle.slot_history.specs.Laws.{with_waiting}
use Rattle.slot_history.specs.Names.{key_name, part_name}
use Rattle.slot_history.specs.Standing.{Flying, IsAdded, Records}
use Rattle.slot_history.specs.State.{Changes, IsHeld, Register, State, blank}
use Rattle.register_caller.specs.WrittenLanes.{IsWritten, LeavesLanes, WasLive, Written}
use Rattle.slot_history.specs.Writing.{WritesUnder}
use Rattle.slot_data.specs.Disks.{Disks}
use Rattle.slot_data.specs.Holding.{Hands, Holding}
use Rattle.slot_data.specs.Live.{IsComing, IsNamed}
use Rattle.slot_data.specs.Moves.{LanesStand}
use Rattle.slot_data.specs.Standing.{AddsAreNamed, DataStands, RecordNames, RecordNamesId}
use Rattle.slot_data.proofs.CarryLemmas.{Was}
use Rattle.slot_data.proofs.FreshLemmas.{blank_next, no_bytes_data}
use Rattle.slot_data.proofs.NamingLemmas.{record_of_coming, record_of_named}

-- two names are the same, or they differ
pub by_name : {A : Type 0} (name n : List ℕ) → (name ≡ n → A) → (bytes_eq name n ≡ false → A) → A
by_name {A} name n at other = by (bytes_eq name n) refl
  where
    by : (b : Bool) → bytes_eq name n ≡ b → A
    by true e = at ((bytes_eq-Decides name n).0 e)
    by false e = other e

pub not_same : (name n : List ℕ) → bytes_eq name n ≡ false → name ≡ n → ⊥
not_same name n differ same = (let equal : bytes_eq name n ≡ true = (bytes_eq-Decides name n).1 same in absurd cc)

-- one register was written
pub record Wrote (set : SetPlan) (slot last later : ℕ) (old new : Records) (state : State) (holding : Holding) (rest : List Flying) (disks : Disks)
    (hands : Hands) (name : List ℕ) (x : Written) (after : List Lane) (now : ℕ) (shows : List ℕ) (Brought : List ℕ → NamedData → Type 0) : Type 0 where
  pub stands : LanesStand set last holding old state
  pub standing : DataStands set slot last old state holding disks hands
  pub held : IsHeld state.registers name
  pub leaves : LeavesLanes (write_drives set.drives set.parity) later x (old name) (state.registers name).change (state.registers name).content after now shows
  pub under : WritesUnder name after old new
  pub opens : (at : Key) (upload : VersionId) → name ≡ key_name at → HasOpen x.content upload
      → HasOpen (state.registers name).content upload ⊎ (number_of_id upload ≡ x.change)
  pub content_was : (named : NamedData) → NamesData name x.content named → Was old state Brought name named
  pub added_was : (named : NamedData) → NamesData name x.content named → IsAdded x.adds named → Was old state Brought name named
  pub ids_of_slot : (id : VersionId) → NamesId name x.content id → id.slot ≡ slot
  pub ids_landed : (g : Flying) → Contains rest g → NamesId name x.content g.id → ⊥
  pub adds : (a : Lane) (next : Next) (added : Added) → IsLive after now a next → IsWritten x next → x.adds ≡ Some added → AddsAreNamed name x.content added
  pub others : (g : Flying) → Contains rest g → Contains holding.flights g

-- what was written is new, and is the value of a state
pub record Makes (state made : State) (name : List ℕ) (x : Written) (now : ℕ) : Type 0 where
  pub changes : Changes name (record { change = x.change; content = x.content }) state.registers made.registers
  pub value : now ≡ x.change
  pub some : 0 < x.change
  pub is_new : Contains state.applied x.change → ⊥

module _ (set : SetPlan) (slot last later : ℕ) (old new : Records) (state : State) (holding : Holding) (rest : List Flying) (disks : Disks)
    (hands : Hands) (name : List ℕ) (x : Written) (after : List Lane) (now : ℕ) (shows : List ℕ) (Brought : List ℕ → NamedData → Type 0)
    (w : Wrote set slot last later old new state holding rest disks hands name x after now shows Brought) where
  -- ---- records

  -- each record was there, or has the content that was written
  record_was :
      (n : List ℕ) (a : Lane) (c : ℕ) (bytes : List ℕ) → Contains (new n) a → HasRecord a c bytes
      → ((b : Lane) × Contains (old n) b × HasRecord b c bytes) ⊎ ((name ≡ n) × (bytes ≡ x.content))
  record_was n a c bytes there has = by_name name n
      (λ same.
      let here : Contains after a = subst (λ (l : List Lane). Contains l a) w.under.is (subst (λ (m : List ℕ). Contains (new m) a) (sym same) there) in
      elim (w.leaves.records a c bytes here has) [
        | inl b ↦ inl (b.0, subst (λ (m : List ℕ). Contains (old m) b.0) same b.1, b.2)
        | inr written ↦ inr (same, written.1)
      ])
      (λ differ. inl (a, subst (λ (l : List Lane). Contains l a) (w.under.stays n differ) there, has))

  -- what it names was recorded, or is brought
  written_names :
      (id : VersionId) (named : NamedData) → Was old state Brought name named → named.id ≡ id
      → RecordNames old name id ⊎ ((other : NamedData) × Brought name other × (other.id ≡ id))
  written_names id named was same = elim was [
    | inl is ↦ inl (record_of_named (write_drives set.drives set.parity) set.drives last holding.flights old state name named id w.stands is same)
    | inr more ↦ elim more [
      | inl is ↦ inl (record_of_coming old state name named id is same)
      | inr brought ↦ inr (named, brought, same)
    ]
  ]

  pub recorded :
      (n : List ℕ) (id : VersionId) → RecordNames new n id → RecordNames old n id ⊎ ((named : NamedData) × Brought n named × (named.id ≡ id))
  recorded n id r = elim (record_was n r.lane r.change r.content r.there r.has) [
    | inl b ↦ inl (record { lane = b.0; change = r.change; content = r.content; there = b.1; has = b.2; named = r.named; names = r.names; id_is = r.id_is })
    | inr here ↦
        let at_name : NamesData name r.content r.named = subst (λ (m : List ℕ). NamesData m r.content r.named) (sym here.0) r.names in
        let written : NamesData name x.content r.named = subst (λ (bytes : List ℕ). NamesData name bytes r.named) here.1 at_name in
        subst (λ (m : List ℕ). RecordNames old m id ⊎ ((other : NamedData) × Brought m other × (other.id ≡ id))) here.0
        (written_names id r.named (w.content_was r.named written) r.id_is)
  ]

  -- so is what it names in any way
  names_written : (n : List ℕ) (id : VersionId) (r : RecordNamesId new n id) → name ≡ n → r.content ≡ x.content → NamesId name x.content id
  names_written n id r same is =
      subst (λ (bytes : List ℕ). NamesId name bytes id) is (subst (λ (m : List ℕ). NamesId m r.content id) (sym same) r.names)

  pub of_slot : (n : List ℕ) (id : VersionId) → RecordNamesId new n id → id.slot ≡ slot
  of_slot n id r = elim (record_was n r.lane r.change r.content r.there r.has) [
    | inl b ↦ w.standing.names.of_slot n id (record { lane = b.0; change = r.change; content = r.content; there = b.1; has = b.2; names = r.names })
    | inr here ↦ w.ids_of_slot id (names_written n id r here.0 here.1)
  ]

  pub unnamed : (g : Flying) (n : List ℕ) → Contains rest g → RecordNamesId new n g.id → ⊥
  unnamed g n there r = elim (record_was n r.lane r.change r.content r.there r.has) [
    | inl b ↦
        w.standing.flights.unnamed g n (w.others g there)
        (record { lane = b.0; change = r.change; content = r.content; there = b.1; has = b.2; names = r.names })
    | inr here ↦ w.ids_landed g there (names_written n g.id r here.0 here.1)
  ]

  -- ---- what is on its way under another name was so before

  coming_elsewhere :
      (other : State) (n : List ℕ) (named : NamedData) → bytes_eq name n ≡ false → other.registers n ≡ state.registers n → IsHeld state.registers n
      → IsComing new other n named → IsComing old state n named
  coming_elsewhere other n named differ same held is = record {
    held = held;
    lane = is.lane;
    there = subst (λ (l : List Lane). Contains l is.lane) (w.under.stays n differ) is.there;
    next = is.next;
    has = is.has;
    live =
        subst (λ (r : Register). IsLive (old n) r.change is.lane is.next) same
        (subst (λ (l : List Lane). IsLive l (other.registers n).change is.lane is.next) (w.under.stays n differ) is.live);
    added = is.added;
    names = is.names;
  }

  adds_elsewhere :
      (other : State) (n : List ℕ) (a : Lane) (next : Next) (added : Added) → bytes_eq name n ≡ false → other.registers n ≡ state.registers n
      → IsHeld state.registers n → Contains (new n) a → HasNext a next → IsLive (new n) (other.registers n).change a next → next.adds ≡ Some added
      → AddsAreNamed n next.content added
  adds_elsewhere other n a next added differ same held there has live adds =
      w.standing.holders.adds n a next added held (subst (λ (l : List Lane). Contains l a) (w.under.stays n differ) there) has
      (subst (λ (r : Register). IsLive (old n) r.change a next) same
      (subst (λ (l : List Lane). IsLive l (other.registers n).change a next) (w.under.stays n differ) live)) adds

  -- ---- the value is as it was

  -- a next may become the value of what the write left
  live_after :
      now ≡ (state.registers name).change → (a : Lane) (next : Next) → IsLive (new name) (state.registers name).change a next → IsLive after now a next
  live_after same a next live =
      subst (λ (c : ℕ). IsLive after c a next) (sym same)
      (subst (λ (l : List Lane). IsLive l (state.registers name).change a next) w.under.is live)

  -- it could so before, or was written
  next_was :
      now ≡ (state.registers name).change → (a : Lane) (next : Next) → Contains (new name) a → HasNext a next
      → IsLive (new name) (state.registers name).change a next → WasLive (old name) (state.registers name).change next ⊎ IsWritten x next
  next_was same a next there has live =
      let here : Contains after a = subst (λ (l : List Lane). Contains l a) w.under.is there in
      elim w.leaves.moves [
        | inl stays ↦ stays.2 a next here has (live_after same a next live)
        | inr moves ↦ absurd (moves.2 (sym moves.0 ∙ same))
      ]

  coming_here : now ≡ (state.registers name).change → (named : NamedData) → IsComing new (with_waiting state name x) name named → Was old state Brought name named
  coming_here same named is = elim (next_was same is.lane is.next is.there is.has is.live) [
    | inl was ↦ inr (inl (record {
      held = w.held;
      lane = was.lane;
      there = was.there;
      next = was.found;
      has = was.has;
      live = was.live;
      added = subst (λ (o : Option Added). IsAdded o named) was.adds_is is.added;
      names = subst (λ (bytes : List ℕ). NamesData name bytes named) was.content_is is.names;
    }))
    | inr written ↦
        w.added_was named (subst (λ (bytes : List ℕ). NamesData name bytes named) written.content_is is.names)
        (subst (λ (o : Option Added). IsAdded o named) written.adds_is is.added)
  ]

  pub coming_waits :
      now ≡ (state.registers name).change → (n : List ℕ) (named : NamedData) → IsComing new (with_waiting state name x) n named → Was old state Brought n named
  coming_waits same n named is = by_name name n
      (λ at_name.
      subst (λ (m : List ℕ). Was old state Brought m named) at_name
      (coming_here same named (subst (λ (m : List ℕ). IsComing new (with_waiting state name x) m named) (sym at_name) is)))
      (λ differ. inr (inl (coming_elsewhere (with_waiting state name x) n named differ refl is.held is)))

  adds_here :
      now ≡ (state.registers name).change → (a : Lane) (next : Next) (added : Added) → Contains (new name) a → HasNext a next
      → IsLive (new name) (state.registers name).change a next → next.adds ≡ Some added → AddsAreNamed name next.content added
  adds_here same a next added there has live adds = elim (next_was same a next there has live) [
    | inl was ↦
        subst (λ (bytes : List ℕ). AddsAreNamed name bytes added) (sym was.content_is)
        (w.standing.holders.adds name was.lane was.found added w.held was.there was.has was.live (sym was.adds_is ∙ adds))
    | inr written ↦ subst (λ (bytes : List ℕ). AddsAreNamed name bytes added) (sym written.content_is)
        (w.adds a next added (live_after same a next live) written (sym written.adds_is ∙ adds))
  ]

  pub adds_waits :
      now ≡ (state.registers name).change → (n : List ℕ) (a : Lane) (next : Next) (added : Added) → IsHeld state.registers n → Contains (new n) a → HasNext a next
      → IsLive (new n) (state.registers n).change a next → next.adds ≡ Some added → AddsAreNamed n next.content added
  adds_waits same n a next added held there has live adds = by_name name n
      (λ at_name. subst (λ (m : List ℕ). IsHeld state.registers m → Contains (new m) a → IsLive (new m) (state.registers m).change a next → AddsAreNamed m next.content added)
      at_name (λ _ there live. adds_here same a next added there has live adds) held there live)
      (λ differ. adds_elsewhere state n a next added differ refl held there has live adds)

  -- ---- what was written is the value

  module _ (made : State) (m : Makes state made name x now) where
    -- it wasn't the value before
    changed : now ≢ (state.registers name).change
    changed same = elim (w.stands.lawful.lasts name) [
      | inl zero ↦ (let some = m.some in let none : x.change ≡ 0 = sym m.value ∙ same ∙ zero in omega (arith, some, none))
      | inr applied ↦ m.is_new (subst (λ (c : ℕ). Contains state.applied c) (sym same ∙ m.value) applied)
    ]

    -- so nothing is on its way over it
    calm : (a : Lane) (next : Next) → Contains (new name) a → HasNext a next → IsLive (new name) (made.registers name).change a next → ⊥
    calm a next there has live =
        let here : Contains after a = subst (λ (l : List Lane). Contains l a) w.under.is there in
        let change : (made.registers name).change ≡ now = ap (λ (r : Register). r.change) m.changes.is ∙ sym m.value in
        let live_here : IsLive after now a next = subst (λ (c : ℕ). IsLive after c a next) change
        (subst (λ (l : List Lane). IsLive l (made.registers name).change a next) w.under.is live) in
        elim w.leaves.moves [
          | inl stays ↦ changed stays.0
          | inr moves ↦ moves.3 a next here has live_here
        ]

    calm_at : (n : List ℕ) → name ≡ n → (a : Lane) (next : Next) → Contains (new n) a → HasNext a next → IsLive (new n) (made.registers n).change a next → ⊥
    calm_at n same a next = subst (λ (m : List ℕ). Contains (new m) a → HasNext a next → IsLive (new m) (made.registers m).change a next → ⊥) same (calm a next)

    -- a part of an upload that wasn't open before
    abbrev IsNewPart : List ℕ → Type 0
    IsNewPart n = (at : Key) × (upload : VersionId) × (number : ℕ) × (n ≡ part_name at upload number) × (number_of_id upload ≡ x.change)

    -- what is held was held before, or is such a part
    held_back : (n : List ℕ) → IsHeld made.registers n → IsHeld state.registers n ⊎ IsNewPart n
    held_back n (inl bucket) = inl (inl bucket)
    held_back n (inr (inl key)) = inl (inr (inl key))
    held_back n (inr (inr o)) = by_name name (key_name o.at)
        (λ same.
        let at_name : HasOpen (made.registers name).content o.upload = subst (λ (m : List ℕ). HasOpen (made.registers m).content o.upload) (sym same) o.opened in
        let opened : HasOpen x.content o.upload = subst (λ (r : Register). HasOpen r.content o.upload) m.changes.is at_name in
        elim (w.opens o.at o.upload same opened) [
          | inl before ↦ inl (inr (inr (record {
            at = o.at;
            upload = o.upload;
            number = o.number;
            name_is = o.name_is;
            opened = subst (λ (m : List ℕ). HasOpen (state.registers m).content o.upload) same before;
          })))
          | inr number ↦ inr (o.at, o.upload, o.number, o.name_is, number)
        ])
        (λ differ. inl (inr (inr (record {
          at = o.at;
          upload = o.upload;
          number = o.number;
          name_is = o.name_is;
          opened = subst (λ (r : Register). HasOpen r.content o.upload) (m.changes.stays (key_name o.at) differ) o.opened;
        }))))

    -- nothing stands under the name of such a part, and no lane keeps a file of it
    part_not_applied : (upload : VersionId) → number_of_id upload ≡ x.change → Contains state.applied (number_of_id upload) → ⊥
    part_not_applied upload number applied = m.is_new (subst (λ (c : ℕ). Contains state.applied c) number applied)

    part_blank : (n : List ℕ) → IsNewPart n → state.registers n ≡ blank
    part_blank n p = subst (λ (m : List ℕ). state.registers m ≡ blank) (sym p.3) (elim (w.stands.lawful.parts.none_stands p.0 p.1 p.2) [
      | inl none ↦ none
      | inr applied ↦ absurd (part_not_applied p.1 p.4 applied)
    ])

    part_next : (n : List ℕ) → IsNewPart n → (a : Lane) (next : Next) → Contains (old n) a → HasNext a next → ⊥
    part_next n p a next there has = elim (w.stands.uploads p.0 p.1 p.2) [
      | inl blank_lanes ↦
          blank_next next
          (subst (λ (l : Lane). HasNext l next) (blank_lanes a (subst (λ (m : List ℕ). Contains (old m) a) p.3 there)) has)
      | inr applied ↦ part_not_applied p.1 p.4 applied
    ]

    -- what another name has as data it had before
    pub named_elsewhere : (n : List ℕ) (named : NamedData) → bytes_eq name n ≡ false → IsNamed made n named → IsNamed state n named
    named_elsewhere n named differ is =
        let names : NamesData n (state.registers n).content named =
        subst (λ (r : Register). NamesData n r.content named) (m.changes.stays n differ) is.names in
        elim (held_back n is.held) [
          | inl held ↦ record { held = held; names = names }
          | inr part ↦ absurd (no_bytes_data n named (subst (λ (r : Register). NamesData n r.content named) (part_blank n part) names))
        ]

    named_here : (named : NamedData) → IsNamed made name named → NamesData name x.content named
    named_here named is = subst (λ (r : Register). NamesData name r.content named) m.changes.is is.names

    pub written_at : (n : List ℕ) (named : NamedData) → name ≡ n → IsNamed made n named → NamesData name x.content named
    written_at n named same is = named_here named (subst (λ (m : List ℕ). IsNamed made m named) (sym same) is)

    pub named_makes : (n : List ℕ) (named : NamedData) → IsNamed made n named → Was old state Brought n named
    named_makes n named is = by_name name n
        (λ same. subst (λ (m : List ℕ). Was old state Brought m named) same (w.content_was named (written_at n named same is)))
        (λ differ. inl (named_elsewhere n named differ is))

    -- what is coming was coming before, under another name
    pub coming_makes : (n : List ℕ) (named : NamedData) → IsComing new made n named → (bytes_eq name n ≡ false) × IsComing old state n named
    coming_makes n named is = by_name name n
        (λ same. absurd (calm_at n same is.lane is.next is.there is.has is.live))
        (λ differ. elim (held_back n is.held) [
          | inl held ↦ (differ, coming_elsewhere made n named differ (m.changes.stays n differ) held is)
          | inr part ↦ absurd (part_next n part is.lane is.next (subst (λ (l : List Lane). Contains l is.lane) (w.under.stays n differ) is.there) is.has)
        ])

    pub adds_makes :
        (n : List ℕ) (a : Lane) (next : Next) (added : Added) → IsHeld made.registers n → Contains (new n) a → HasNext a next
        → IsLive (new n) (made.registers n).change a next → next.adds ≡ Some added → AddsAreNamed n next.content added
    adds_makes n a next added held there has live adds = by_name name n
        (λ same. absurd (calm_at n same a next there has live))
        (λ differ. elim (held_back n held) [
          | inl before ↦ adds_elsewhere made n a next added differ (m.changes.stays n differ) before there has live adds
          | inr part ↦ absurd (part_next n part a next (subst (λ (l : List Lane). Contains l a) (w.under.stays n differ) there) has)
        ])
