-- A change that is applied, and one that begins to wait, leave a lawful state.
use Rattle.std.proofs.Common.{◌≡◌, ◌≢◌, ◌⊎◌, inl, inr, ◌<◌, ℕ, Bool, true, false, List, [], ◌∷◌, map, Contains, refl, sym, ap, subst, ◌∙◌, arith}
use Rattle.std.specs.Str.{bytes_eq}
use Rattle.std.specs.List.{AllByRecursion}
use Rattle.std.proofs.lemmas.Slice.Eq.{bytes_eq-Decides}
use Rattle.stamp_id.specs.Rank.{change_of}
use Rattle.stamp_id.specs.declared.stamp.ChangeId.{ChangeId}
use Rattle.stamp_id.specs.declared.version.VersionId.{VersionId}
use Rattle.call_types.specs.declared.act.Brief.{Brief}
use Rattle.call_types.specs.declared.names.Key.{Key}
use Rattle.call_types.specs.declared.reply.Reply.{Reply}
use Rattle.version_list.specs.State.{AreDistinct}
use Rattle.slot_history.specs.Contents.{HasOpen, number_of_id}
use Rattle.slot_history.specs.Doing.{Does}
use Rattle.slot_history.specs.Moving.{IsIdOf, Makes, Waits}
use Rattle.slot_history.specs.Names.{key_name, part_name}
use Rattle.slot_history.specs.State.{Changes, Register, Registers, State, Waiting, blank}
use Rattle.slot_history.specs.Waiting.{IsLate, IsLawful, OpensItsOwn, WasApplied}
use Rattle.slot_history.proofs.DoesLemmas.{does_opens, does_part}
use Rattle.slot_history.proofs.TakenLemmas.{first_there, left_apart, left_distinct, left_there, rest_there, taken_there, there_cases}

-- the number of a change that waits
abbrev pub number_of : Waiting → ℕ
number_of w = w.change

-- what stands under a name after one register was put
pub under :
    (name : List ℕ) (register : Register) (old new : Registers) → Changes name register old new → (other : List ℕ)
    → ((name ≡ other) × (new other ≡ register)) ⊎ (new other ≡ old other)
under name register old new c other = by (bytes_eq name other) refl
  where
    by : (b : Bool) → bytes_eq name other ≡ b → ((name ≡ other) × (new other ≡ register)) ⊎ (new other ≡ old other)
    by true h = let same = (bytes_eq-Decides name other).0 h in inl (same, subst (λ (n : List ℕ). new n ≡ register) same c.is)
    by false h = inr (c.stays other h)

-- ---- a change is applied

-- a change is applied that is new: what waits afterwards waited before and differs, it opens its own upload at most, and what it puts under the name of
-- a part belongs to an upload that was opened
pub record Applies (name : List ℕ) (change : ℕ) (content : List ℕ) (old new : State) : Type 0 where
  pub changes : Changes name (record { change = change; content = content }) old.registers new.registers
  pub applied : new.applied ≡ change ∷ old.applied
  pub some : 0 < change
  pub fresh : Contains old.applied change → ⊥
  pub waited : (w : Waiting) → Contains new.pending w → Contains old.pending w
  pub apart : (w : Waiting) → Contains new.pending w → w.change ≢ change
  pub differ : AreDistinct (map number_of new.pending)
  pub opens : (at : Key) (upload : VersionId) → name ≡ key_name at → HasOpen content upload
      → HasOpen (old.registers name).content upload ⊎ (number_of_id upload ≡ change)
  pub part : (at : Key) (upload : VersionId) (number : ℕ) → name ≡ part_name at upload number → Contains old.applied (number_of_id upload)

-- what was applied stays so
stays_applied : (change : ℕ) (old new : List ℕ) → new ≡ change ∷ old → (c : ℕ) → Contains old c → Contains new c
stays_applied change old new is c there = subst (λ (l : List ℕ). Contains l c) (sym is) (rest_there change old c there)

-- the change itself was applied now
is_applied : (change : ℕ) (old new : List ℕ) → new ≡ change ∷ old → Contains new change
is_applied change old new is = subst (λ (l : List ℕ). Contains l change) (sym is) (first_there change old)

-- a parent that was applied, or is that of no change
still_applied : (change : ℕ) (old new : State) → new.applied ≡ change ∷ old.applied → (c : ℕ) → WasApplied c old → WasApplied c new
still_applied change old new is c (inl none) = inl none
still_applied change old new is c (inr there) = inr (stays_applied change old.applied new.applied is c there)

-- a number that was applied is not a new one
not_new : (change parent : ℕ) (old : State) → 0 < change → (Contains old.applied change → ⊥) → WasApplied parent old → parent ≢ change
not_new change parent old some fresh (inl none) same = omega arith
not_new change parent old some fresh (inr there) same = fresh (subst (λ (c : ℕ). Contains old.applied c) same there)

-- what waits is not the last change of the name that was changed
pub dead_under :
    (name : List ℕ) (change : ℕ) (content : List ℕ) (old new : State) → Applies name change content old new → (other : List ℕ) (parent : ℕ)
    → WasApplied parent old → parent ≡ (new.registers other).change → parent ≡ (old.registers other).change
dead_under name change content old new a other parent was is = elim (under name _ old.registers new.registers a.changes other) [
  | inl here ↦ absurd (not_new change parent old a.some a.fresh was (is ∙ ap (λ (r : Register). r.change) here.1))
  | inr stays ↦ is ∙ ap (λ (r : Register). r.change) stays
]

-- an upload that is open was opened
applies_opened :
    (name : List ℕ) (change : ℕ) (content : List ℕ) (old new : State) → IsLawful old → Applies name change content old new → (at : Key) (upload : VersionId)
    → HasOpen (new.registers (key_name at)).content upload → Contains new.applied (number_of_id upload)
applies_opened name change content old new l a at upload h =
    let later = stays_applied change old.applied new.applied a.applied (number_of_id upload) in
    elim (under name _ old.registers new.registers a.changes (key_name at)) [
      | inl here ↦ elim (a.opens at upload here.0 (subst (λ (r : Register). HasOpen r.content upload) here.1 h)) [
        | inl before ↦ later (l.opened at upload (subst (λ (n : List ℕ). HasOpen (old.registers n).content upload) here.0 before))
        | inr drawn ↦ subst (λ (c : ℕ). Contains new.applied c) (sym drawn) (is_applied change old.applied new.applied a.applied)
      ]
      | inr stays ↦ later (l.opened at upload (subst (λ (r : Register). HasOpen r.content upload) stays h))
    ]

-- a change that waits opens its own upload at most
applies_opens :
    (name : List ℕ) (change : ℕ) (content : List ℕ) (old new : State) → IsLawful old → Applies name change content old new → (w : Waiting)
    → Contains new.pending w → w.parent ≡ (new.registers w.name).change → OpensItsOwn w new
applies_opens name change content old new l a w there is at upload name_is h =
    let was = l.parents w (a.waited w there) in
    elim (under name _ old.registers new.registers a.changes w.name) [
      | inl here ↦ absurd (not_new change w.parent old a.some a.fresh was (is ∙ ap (λ (r : Register). r.change) here.1))
      | inr stays ↦ elim (l.opens w (a.waited w there) (is ∙ ap (λ (r : Register). r.change) stays) at upload name_is h) [
        | inl before ↦ inl (subst (λ (r : Register). HasOpen r.content upload) (sym stays) before)
        | inr drawn ↦ inr drawn
      ]
    ]

-- the last change of a name was applied
applies_lasts :
    (name : List ℕ) (change : ℕ) (content : List ℕ) (old new : State) → IsLawful old → Applies name change content old new → (other : List ℕ)
    → WasApplied (new.registers other).change new
applies_lasts name change content old new l a other = elim (under name _ old.registers new.registers a.changes other) [
  | inl here ↦ subst (λ (r : Register). WasApplied r.change new) (sym here.1) (inr (is_applied change old.applied new.applied a.applied))
  | inr stays ↦
      subst (λ (r : Register). WasApplied r.change new) (sym stays) (still_applied change old new a.applied (old.registers other).change (l.lasts other))
]

-- nothing stands under the name of a part whose upload was never opened
applies_none_stands :
    (name : List ℕ) (change : ℕ) (content : List ℕ) (old new : State) → IsLawful old → Applies name change content old new
    → (at : Key) (upload : VersionId) (number : ℕ) → (new.registers (part_name at upload number) ≡ blank) ⊎ Contains new.applied (number_of_id upload)
applies_none_stands name change content old new l a at upload number =
    let later = stays_applied change old.applied new.applied a.applied (number_of_id upload) in
    elim (under name _ old.registers new.registers a.changes (part_name at upload number)) [
      | inl here ↦ inr (later (a.part at upload number here.0))
      | inr stays ↦ elim (l.parts.none_stands at upload number) [
        | inl none ↦ inl (stays ∙ none)
        | inr opened ↦ inr (later opened)
      ]
    ]

-- a change that is applied leaves a lawful state
pub applies_lawful : (name : List ℕ) (change : ℕ) (content : List ℕ) (old new : State) → IsLawful old → Applies name change content old new → IsLawful new
applies_lawful name change content old new l a = record {
  once = λ w there done. elim (there_cases change old.applied w.change (subst (λ (xs : List ℕ). Contains xs w.change) a.applied done)) [
    | inl same ↦ a.apart w there (sym same)
    | inr before ↦ l.once w (a.waited w there) before
  ];
  some = λ w there. l.some w (a.waited w there);
  differ = a.differ;
  parents = λ w there. still_applied change old new a.applied w.parent (l.parents w (a.waited w there));
  lasts = applies_lasts name change content old new l a;
  opens = applies_opens name change content old new l a;
  opened = applies_opened name change content old new l a;
  parts = record {
    none_stands = applies_none_stands name change content old new l a;
    none_waits = λ at upload number w there name_is.
        stays_applied change old.applied new.applied a.applied (number_of_id upload) (l.parts.none_waits at upload number w (a.waited w there) name_is);
  };
}

-- a late step applies a change
pub late_applies : (p : Waiting) (old new : State) → IsLawful old → IsLate p old new → Applies p.name p.change p.content old new
late_applies p old new l late =
    let there = taken_there p old.pending new.pending late.waits in
    record {
      changes = late.changes;
      applied = late.applied;
      some = l.some p there;
      fresh = l.once p there;
      waited = left_there p old.pending new.pending late.waits;
      apart = left_apart number_of p old.pending new.pending late.waits l.differ;
      differ = left_distinct number_of p old.pending new.pending late.waits l.differ;
      opens = l.opens p there late.parent;
      part = λ at upload number name_is. l.parts.none_waits at upload number p there name_is;
    }

-- the number of an id's change is above 0
number_counts : (slot : ℕ) (change : ChangeId) (id : VersionId) → IsIdOf slot change id → 0 < change_of change
number_counts slot change id is =
    let term = id.term_counts in
    let same = ap change_of is.change_is in
    omega arith

-- the upload of the id that was drawn has its number
drawn_number : (slot : ℕ) (change : ChangeId) (id upload : VersionId) → IsIdOf slot change id → id ≡ upload → number_of_id upload ≡ change_of change
drawn_number slot change id upload is same = ap number_of_id (sym same) ∙ ap change_of is.change_is

-- what a call does opens its own upload at most
call_opens :
    (slot : ℕ) (registers : Registers) (name : List ℕ) (call : Brief) (change : ChangeId) (id : VersionId) (reply : Reply) (content : List ℕ)
    → IsIdOf slot change id → Does registers name call id reply content → (at : Key) (upload : VersionId) → name ≡ key_name at → HasOpen content upload
    → HasOpen (registers name).content upload ⊎ (number_of_id upload ≡ change_of change)
call_opens slot registers name call change id reply content is does at upload name_is h =
    elim (does_opens registers name call id reply content does at upload name_is h) [
      | inl before ↦ inl before
      | inr same ↦ inr (drawn_number slot change id upload is same)
    ]

-- a call that makes a change applies it
pub makes_applies :
    (slot : ℕ) (name : List ℕ) (call : Brief) (reply : Reply) (old new : State) → IsLawful old → (m : Makes slot name call reply old new)
    → Applies name (change_of m.change) m.content old new
makes_applies slot name call reply old new l m =
    let waited = λ (w : Waiting) (there : Contains new.pending w). subst (λ (ws : List Waiting). Contains ws w) m.pending there in
    record {
      changes = m.changes;
      applied = m.applied;
      some = number_counts slot m.change m.id m.id_is;
      fresh = m.is_new.not_applied;
      waited = waited;
      apart = λ w there same. m.is_new.not_pending w (waited w there) same;
      differ = subst (λ (ws : List Waiting). AreDistinct (map number_of ws)) (sym m.pending) l.differ;
      opens = call_opens slot old.registers name call m.change m.id reply m.content m.id_is m.does;
      part = λ at upload number name_is. l.opened at upload (does_part old.registers name call m.id reply m.content m.does m.changed at upload number name_is);
    }

-- ---- a change begins to wait

-- a state in which one more change waits
abbrev pub waiting_more : State → Waiting → State
waiting_more old w = record { registers = old.registers; pending = w ∷ old.pending; applied = old.applied }

-- a change may wait: it is new, its parent was applied, it opens its own upload at most, and what it would put under the name of a part belongs to an
-- upload that was opened
pub record MayWait (w : Waiting) (old : State) : Type 0 where
  pub some : 0 < w.change
  pub fresh : Contains old.applied w.change → ⊥
  pub apart : (v : Waiting) → Contains old.pending v → v.change ≡ w.change → ⊥
  pub parent : WasApplied w.parent old
  pub opens : OpensItsOwn w old
  pub part : (at : Key) (upload : VersionId) (number : ℕ) → w.name ≡ part_name at upload number → Contains old.applied (number_of_id upload)

-- what holds of the change that begins to wait and of those that waited holds of all that wait
each_waits :
    (P : Waiting → Type 0) (w : Waiting) (old : List Waiting) → P w → ((v : Waiting) → Contains old v → P v) → (v : Waiting)
    → Contains (w ∷ old) v → P v
each_waits P w old first rest v there = elim (there_cases w old v there) [
  | inl same ↦ subst P same first
  | inr before ↦ rest v before
]

-- its number is none of those that waited
number_apart :
    (w : Waiting) (old : List Waiting) → ((v : Waiting) → Contains old v → v.change ≡ w.change → ⊥)
    → AllByRecursion (λ c. w.change ≢ c) (map number_of old)
number_apart w [] apart = tt
number_apart w (v ∷ old) apart = (λ same. apart v (first_there v old) (sym same), number_apart w old (λ u there. apart u (rest_there v old u there)))

-- a change that begins to wait leaves a lawful state
pub waiting_lawful : (w : Waiting) (old : State) → IsLawful old → MayWait w old → IsLawful (waiting_more old w)
waiting_lawful w old l m = record {
  once = each_waits (λ v. Contains old.applied v.change → ⊥) w old.pending m.fresh l.once;
  some = each_waits (λ v. 0 < v.change) w old.pending m.some l.some;
  differ = (number_apart w old.pending m.apart, l.differ);
  parents = each_waits (λ v. WasApplied v.parent old) w old.pending m.parent l.parents;
  lasts = l.lasts;
  opens =
      each_waits (λ v. v.parent ≡ (old.registers v.name).change → OpensItsOwn v old) w old.pending (λ is. m.opens) l.opens;
  opened = l.opened;
  parts = record {
    none_stands = l.parts.none_stands;
    none_waits = λ at upload number.
        each_waits (λ v. v.name ≡ part_name at upload number → Contains old.applied (number_of_id upload)) w old.pending (m.part at upload number)
        (l.parts.none_waits at upload number);
  };
}

-- the change of a call that was refused may wait
pub waits_may :
    (slot : ℕ) (name : List ℕ) (call : Brief) (change : ChangeId) (old new : State) → IsLawful old → (m : Waits slot name call change old new)
    → MayWait m.waiting old
waits_may slot name call change old new l m =
    let w = m.waiting in
    let number : w.change ≡ change_of change = m.change_is in
    let counts = number_counts slot change m.id m.id_is in
    record {
      some = omega arith;
      fresh = λ there. m.is_new.not_applied (subst (λ (c : ℕ). Contains old.applied c) number there);
      apart = λ v there same. m.is_new.not_pending v there (same ∙ number);
      parent = subst (λ (c : ℕ). WasApplied c old) (sym m.parent_is) (l.lasts name);
      opens = λ at upload name_is h.
          elim (call_opens slot old.registers name call change m.id m.reply w.content m.id_is m.does at upload (sym m.name_is ∙ name_is) h) [
            | inl before ↦ inl (subst (λ (n : List ℕ). HasOpen (old.registers n).content upload) (sym m.name_is) before)
            | inr drawn ↦ inr (drawn ∙ sym number)
          ];
      part = λ at upload number name_is.
          l.opened at upload (does_part old.registers name call m.id m.reply w.content m.does m.changed at upload number (sym m.name_is ∙ name_is));
    }

-- the state after it
pub waits_is :
    (slot : ℕ) (name : List ℕ) (call : Brief) (change : ChangeId) (old new : State) → (m : Waits slot name call change old new)
    → new ≡ waiting_more old m.waiting
waits_is slot name call change old new m = λ i. record { registers = m.registers i; pending = m.pending i; applied = m.applied i }

-- a late step leads from a lawful state to a lawful one
pub late_lawful : (p : Waiting) (old new : State) → IsLawful old → IsLate p old new → IsLawful new
late_lawful p old new l late = applies_lawful p.name p.change p.content old new l (late_applies p old new l late)
