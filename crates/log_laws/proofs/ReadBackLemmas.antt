-- Data that a register names behind a section which changed nothing was named before it, or was coming.
use Rattle.std.proofs.Common.{◌≡◌, ◌⊎◌, ◌∙◌, ℕ, zero, suc, List, [], ◌∷◌, Option, Some, None, Contains, ap, ap₂, inl, inr, refl, subst, sym, arith}
use Rattle.std.specs.Prelude.{MatchOption}
use Rattle.std.proofs.lemmas.Option.{none-some}
use Rattle.audit_trail.specs.declared.entry.Deed.{Deed}
use Rattle.audit_trail.specs.declared.entry.Deed.TheVariants.{Done, Kept, Opened, Refused as TheRefused}
use Rattle.audit_trail.specs.declared.entry.Entry.{Entry}
use Rattle.call_types.specs.declared.act.Brief.{Brief}
use Rattle.call_types.specs.declared.names.Key.{Key}
use Rattle.slot_history.specs.Contents.{NamedData, NamesData}
use Rattle.slot_history.specs.Moving.{Deeds, IsDone, drawn_by}
use Rattle.slot_history.specs.Names.{key_name}
use Rattle.slot_history.specs.Sections.{IsOnItsWay, IsRefusedIn, SectionMoves}
use Rattle.slot_history.specs.Standing.{Flying, Records, Stands, WaitsAs}
use Rattle.slot_history.specs.State.{IsHeld, Register, Registers, State, Waiting}
use Rattle.slot_history.specs.Waiting.{AreLate}
use Rattle.slot_history.proofs.MemberLemmas.{same_or_other}
use Rattle.vote_core.specs.Sound.{IsLive}
use Rattle.slot_core.specs.Turns.{EntryMoves}
use Rattle.slot_data.specs.Live.{IsComing, IsNamed}
use Rattle.receipts.specs.Events.{Event, Shown}
use Rattle.receipts.specs.Events.Event.{BarredFrom, Called, Fed, Told, Turned}
use Rattle.receipts.specs.Paying.{LeavesAll}
use Rattle.op_steps.specs.Leading.{Standing}
use Rattle.op_steps.specs.Moves.{ShowsBy}
use Rattle.op_steps.specs.Notes.{entry_in}
use Rattle.log_laws.specs.Reads.{IsStill, LeavesSlot}
use Rattle.log_laws.proofs.ReadStayLemmas.{SlotMoves, stood_by}
use Rattle.call_types.specs.declared.act.Brief.TheVariants as brief

-- the register of a key names data, or a change on its way there adds it
pub record Names (name : List ℕ) (named : NamedData) (at : Standing) : Type 0 where
  pub key : Key
  pub name_is : name ≡ key_name key
  pub how : IsNamed at.state name named ⊎ IsComing at.records at.state name named

-- a section that wrote no entry moved nothing
none_moves : (slot : ℕ) (entry : Option Entry) (shown : Shown) (from to : Standing) → entry ≡ None
    → EntryMoves slot entry (ShowsBy entry shown) from.records from.state to.records to.state → to ≡ from
none_moves slot None shown from to none moves = ap₂ stood_by moves.0 moves.1
none_moves slot (Some entry) shown from to none moves = absurd cc

pub still_same : (slot : ℕ) (event : Event) (from to : Standing) → IsStill slot event → SlotMoves slot event from to → to ≡ from
still_same slot (Turned k made shown) from to still (inl own) = none_moves slot (entry_in made) shown from to (still own.0) own.1
still_same slot (Turned k made shown) from to still (inr other) = other.1
still_same slot (BarredFrom k why) from to still same = same
still_same slot (Called k made) from to still same = same
still_same slot (Fed bytes cut) from to still same = same
still_same slot (Told telling cut) from to still same = same

-- ---- a deed that leaves all

done_stays : (slot : ℕ) (name : List ℕ) (call reply : Brief) (old new : State) → drawn_by call ≡ None → IsDone slot name call reply old new → new ≡ old
done_stays slot name call (brief.Answer told) old new none (inl makes) = absurd (none-some makes.change (sym none ∙ makes.drawn))
done_stays slot name call (brief.Answer told) old new none (inr finds) = finds.stays
done_stays slot name call (brief.Read at mode pick) old new none done = absurd done
done_stays slot name call (brief.Gather at upload parts) old new none done = absurd done
done_stays slot name call (brief.Change at mode act change now) old new none done = absurd done
done_stays slot name call (brief.Part at upload number part change now) old new none done = absurd done
done_stays slot name call (brief.MakeBucket bucket change now) old new none done = absurd done
done_stays slot name call (brief.SetMode bucket mode change now) old new none done = absurd done

-- nothing was done of its own, and nothing of it took effect
record Left (slot : ℕ) (name : List ℕ) (deed : Deed) : Type 0 where
  stays : (old new : State) → Deeds slot name deed old new → new ≡ old
  none : (p : Waiting) → IsRefusedIn deed p → ⊥

left_by : (slot : ℕ) (name : List ℕ) (deed : Deed) → LeavesAll deed → Left slot name deed
left_by slot name Kept leaves = record { stays = λ old new same. same; none = λ p never. never }
left_by slot name (Done (brief.Read at mode pick) reply) leaves =
    record { stays = λ old new done. done_stays slot name (brief.Read at mode pick) reply old new refl done; none = λ p never. never }
left_by slot name (Done (brief.Gather at upload parts) reply) leaves =
    record { stays = λ old new done. done_stays slot name (brief.Gather at upload parts) reply old new refl done; none = λ p never. never }
left_by slot name (Done (brief.Change at mode act change now) reply) leaves = absurd leaves
left_by slot name (Done (brief.Part at upload number part change now) reply) leaves = absurd leaves
left_by slot name (Done (brief.MakeBucket bucket change now) reply) leaves = absurd leaves
left_by slot name (Done (brief.SetMode bucket mode change now) reply) leaves = absurd leaves
left_by slot name (Done (brief.Answer told) reply) leaves = absurd leaves
left_by slot name (TheRefused change call) leaves = absurd leaves
left_by slot name (Opened term) leaves = absurd leaves

-- ---- what late steps leave under a name

-- what stands there stood there before, or is what a late change made
abbrev Late : List Waiting → List ℕ → Registers → Registers → Type 0
Late lates name old new = (new name ≡ old name) ⊎ ((p : Waiting) × Contains lates p × (p.name ≡ name) × ((new name).content ≡ p.content))

further : (w p : Waiting) (more : List Waiting) → Contains more p → Contains (w ∷ more) p
further w p more (k, low, is) = (suc k, omega (arith, low), is)

late_under : (lates : List Waiting) (old new : State) (name : List ℕ) → AreLate lates old new → Late lates name old.registers new.registers
late_under [] old new name same = inl (ap (λ (s : State). s.registers name) same)
late_under (w ∷ more) old new name (mid, late, rest) = elim (late_under more mid new name rest) [
  | inl same ↦ elim (same_or_other w.name name) [
    | inl own ↦ inr (
      w,
      (zero, omega arith, refl),
      own,
      ap (λ (r : Register). r.content) (same ∙ subst (λ (n : List ℕ). mid.registers n ≡ record { change = w.change; content = w.content }) own late.changes.is),
    )
    | inr other ↦ inl (same ∙ late.changes.stays name other)
  ]
  | inr made ↦ inr (made.0, further w made.0 more made.1, made.2, made.3)
]

-- ---- backwards over a section

module _ (w drives last : ℕ) (flights : List Flying) (records : Records) (old : State) (stands : Stands w drives last flights records old) (name : List ℕ)
    (named : NamedData) (held : IsHeld old.registers name) where
  -- what a change on its way names stands in the register, or the change adds it
  way_names : (p : Waiting) → p.name ≡ name → NamesData name p.content named → IsOnItsWay records old p
      → IsNamed old name named ⊎ IsComing records old name named
  way_names p same names way =
      let there = subst (λ (n : List ℕ). Contains (records n) way.lane) same way.there in
      let live = subst (λ (n : List ℕ). IsLive (records n) (old.registers n).change way.lane way.next) same way.live in
      let given = subst (λ (c : List ℕ). NamesData name c named) way.waits.content_is names in
      elim ((stands.under name held).brings way.lane way.next there way.has live named given) [
        | inl stood ↦ inl (record { held = held; names = stood })
        | inr added ↦ inr (record { held = held; lane = way.lane; there = there; next = way.next; has = way.has; live = live; added = added; names = given })
      ]

  section_back : (slot : ℕ) (entry : Entry) (after_records : Records) (new : State) (w_new last_new : ℕ) (flights_new : List Flying)
      → Stands w_new drives last_new flights_new after_records new → SectionMoves slot entry records old after_records new → LeavesAll entry.deed
      → IsHeld new.registers name → IsNamed new name named ⊎ IsComing after_records new name named → IsNamed old name named ⊎ IsComing records old name named
  section_back slot entry after_records new w_new last_new flights_new stands_new moves leaves held_new is =
      let left = left_by slot entry.name entry.deed leaves in
      let deed : moves.after ≡ moves.before = left.stays moves.before moves.after moves.moves.deed in
      let own : new ≡ moves.after = elim moves.own [ inl same ↦ same | inr late ↦ absurd (left.none late.0 late.1) ] in
      let registers : new.registers name ≡ moves.before.registers name = ap (λ (s : State). s.registers name) (own ∙ deed) in
      elim is [
        | inl is_named ↦ elim (late_under moves.lates old moves.before name moves.late_steps) [
          | inl same ↦ inl (record {
            held = held;
            names = subst (λ (r : Register). NamesData name r.content named) (registers ∙ same) is_named.names;
          })
          | inr made ↦ way_names made.0 made.2 (subst (λ (c : List ℕ). NamesData name c named) (ap (λ (r : Register). r.content) registers ∙ made.3) is_named.names)
              (moves.carried made.0 made.1)
        ]
        | inr coming ↦
            let waits = (stands_new.under name held_new).waits coming.lane coming.next coming.there coming.has coming.live in
            let p = waits.0 in
            let own_name : name ≡ p.name = sym waits.1.name_is in
            let on_way : IsOnItsWay after_records new p = record {
              held = subst (λ (n : List ℕ). IsHeld new.registers n) own_name held_new;
              lane = coming.lane;
              there = subst (λ (n : List ℕ). Contains (after_records n) coming.lane) own_name coming.there;
              next = coming.next;
              has = coming.has;
              live = subst (λ (n : List ℕ). IsLive (after_records n) (new.registers n).change coming.lane coming.next) own_name coming.live;
              waits = subst (λ (n : List ℕ). WaitsAs new n coming.next p) own_name waits.1;
            } in
            elim (moves.rests p on_way) [
              | inl before ↦ way_names p waits.1.name_is (subst (λ (c : List ℕ). NamesData name c named) (sym waits.1.content_is) coming.names) before
              | inr refused ↦ absurd (left.none p refused)
            ]
      ]

-- a key's name is held
pub key_held : (registers : Registers) (name : List ℕ) (key : Key) → name ≡ key_name key → IsHeld registers name
key_held registers name key is = inr (inl (key, is))

module _ (drives w last w_new last_new : ℕ) (flights flights_new : List Flying) (slot : ℕ) (name : List ℕ) (named : NamedData) (from to : Standing)
    (stands : Stands w drives last flights from.records from.state) (stands_new : Stands w_new drives last_new flights_new to.records to.state) where
  entry_back : (entry : Option Entry) (shown : Shown) → MatchOption entry (Unit {0}) (λ made. LeavesAll made.deed)
      → EntryMoves slot entry (ShowsBy entry shown) from.records from.state to.records to.state → Names name named to → Names name named from
  entry_back None shown leaves moves x = subst (λ (s : Standing). Names name named s) (ap₂ stood_by moves.0 moves.1) x
  entry_back (Some entry) shown leaves moves x = record {
    key = x.key;
    name_is = x.name_is;
    how = section_back w drives last flights from.records from.state stands name named (key_held from.state.registers name x.key x.name_is) slot entry to.records to.state
        w_new last_new flights_new stands_new moves.0 leaves (key_held to.state.registers name x.key x.name_is) x.how;
  }

  pub names_back : (event : Event) → LeavesSlot slot event → SlotMoves slot event from to → Names name named to → Names name named from
  names_back (Turned k made shown) leaves (inl own) x = entry_back (entry_in made) shown (leaves own.0) own.1 x
  names_back (Turned k made shown) leaves (inr other) x = subst (λ (s : Standing). Names name named s) other.1 x
  names_back (BarredFrom k why) leaves same x = subst (λ (s : Standing). Names name named s) same x
  names_back (Called k made) leaves same x = subst (λ (s : Standing). Names name named s) same x
  names_back (Fed bytes cut) leaves same x = subst (λ (s : Standing). Names name named s) same x
  names_back (Told telling cut) leaves same x = subst (λ (s : Standing). Names name named s) same x
