-- Runs lead from lawful states to lawful ones, apply each change once, and leave dead changes dead.
use Rattle.std.proofs.Common.{◌≡◌, ◌≢◌, inl, inr, ℕ, List, [], ◌∷◌, ◌++◌, append_assoc, Contains, refl, sym, ap, subst, ◌∙◌}
use Rattle.stamp_id.specs.Rank.{change_of}
use Rattle.stamp_id.specs.declared.stamp.ChangeId.{ChangeId}
use Rattle.call_types.specs.declared.act.Brief.{Brief}
use Rattle.call_types.specs.declared.act.Brief.TheVariants as brief
use Rattle.audit_trail.specs.declared.entry.Deed.{Deed}
use Rattle.audit_trail.specs.declared.entry.Deed.TheVariants.{Done, Refused, Kept, Opened}
use Rattle.audit_trail.specs.declared.entry.Entry.{Entry}
use Rattle.version_list.specs.State.{AreDistinct}
use Rattle.slot_history.specs.Laws.{AppliedOnce, DeadStaysDead, RunsJoin, RunsStayLawful, SectionsRun}
use Rattle.slot_history.specs.Moving.{Deeds, Runs, Waits}
use Rattle.slot_history.specs.Sections.{OwnStep}
use Rattle.slot_history.specs.State.{State, Waiting}
use Rattle.slot_history.specs.Waiting.{AreLate, IsLate, IsLawful, Lates}
use Rattle.slot_history.proofs.LawfulLemmas.{Applies, applies_lawful, dead_under, late_applies, makes_applies}
use Rattle.slot_history.proofs.LawfulLemmas.{waiting_lawful, waiting_more, waits_is, waits_may}
use Rattle.slot_history.proofs.TakenLemmas.{all_items, rest_there, taken_or_left}

-- ---- sections, and runs that join

-- a refused change that took effect is a late step after its deed
own_lates : (deed : Deed) (after new : State) → OwnStep deed after new → Lates after new
own_lates deed after new (inl stays) = ([], stays)
own_lates deed after new (inr own) = (own.0 ∷ [], (new, own.2, refl))

-- a section moves the state, so its entry runs
pub sections_run : SectionsRun
sections_run slot entry records_old records_new old new s = (s.before, s.after, (s.lates, s.late_steps), s.moves, own_lates entry.deed s.after new s.own)

-- late steps join
late_steps_join : (first second : List Waiting) (old mid new : State) → AreLate first old mid → AreLate second mid new → AreLate (first ++ second) old new
late_steps_join [] second old mid new same later = subst (λ (s : State). AreLate second s new) same later
late_steps_join (w ∷ first) second old mid new (next, late, rest) later = (next, late, late_steps_join first second next mid new rest later)

-- and so do any
lates_join : (old mid new : State) → Lates old mid → Lates mid new → Lates old new
lates_join old mid new first second = (first.0 ++ second.0, late_steps_join first.0 second.0 old mid new first.1 second.1)

-- late steps before a run are part of it
lates_run : (slot : ℕ) (entries : List Entry) (old mid new : State) → Lates old mid → Runs slot entries mid new → Runs slot entries old new
lates_run slot [] old mid new first runs = lates_join old mid new first runs
lates_run slot (entry ∷ entries) old mid new first (before, after, lates, moves, rest) =
    (before, after, lates_join old mid before first lates, moves, rest)

-- runs join
pub runs_join : RunsJoin
runs_join slot [] second old mid new first runs = lates_run slot second old mid new first runs
runs_join slot (entry ∷ entries) second old mid new (before, after, lates, moves, rest) runs =
    (before, after, lates, moves, runs_join slot entries second after mid new rest runs)

-- ---- what a lawful state leads to

-- what was applied stays so, in front of it stands what was applied since
abbrev pub Grows : List ℕ → List ℕ → Type 0
Grows old new = (more : List ℕ) × (new ≡ more ++ old)

-- a change waits, and its parent is not its name's last change
abbrev pub IsDead : Waiting → State → Type 0
IsDead p state = Contains state.pending p × (p.parent ≢ (state.registers p.name).change)

-- a state leads to a lawful one, in which what was applied stays so, each change was applied once, and dead changes are dead
pub record Leads (old new : State) : Type 0 where
  pub lawful : IsLawful new
  pub grows : Grows old.applied new.applied
  pub once : AreDistinct old.applied → AreDistinct new.applied
  pub dead : (p : Waiting) → IsDead p old → IsDead p new

-- a state leads to itself
leads_stay : (old new : State) → IsLawful old → new ≡ old → Leads old new
leads_stay old new l same = record {
  lawful = subst IsLawful (sym same) l;
  grows = ([], ap (λ (s : State). s.applied) same);
  once = λ distinct. subst (λ (s : State). AreDistinct s.applied) (sym same) distinct;
  dead = λ p dead. subst (λ (s : State). IsDead p s) (sym same) dead;
}

-- and from one state over another to a third
leads_join : (old mid new : State) → Leads old mid → Leads mid new → Leads old new
leads_join old mid new first second = record {
  lawful = second.lawful;
  grows = (
    second.grows.0 ++ first.grows.0,
    second.grows.1 ∙ ap (λ (xs : List ℕ). second.grows.0 ++ xs) first.grows.1 ∙ sym (append_assoc second.grows.0 first.grows.0 old.applied),
  );
  once = λ distinct. second.once (first.once distinct);
  dead = λ p dead. second.dead p (first.dead p dead);
}

-- where a change is applied, and dead changes go on waiting
applies_leads :
    (name : List ℕ) (change : ℕ) (content : List ℕ) (old new : State) → IsLawful old → Applies name change content old new
    → ((p : Waiting) → IsDead p old → Contains new.pending p) → Leads old new
applies_leads name change content old new l a stays = record {
  lawful = applies_lawful name change content old new l a;
  grows = (change ∷ [], a.applied);
  once = λ distinct.
      subst (λ (xs : List ℕ). AreDistinct xs) (sym a.applied)
      (all_items (λ c. change ≢ c) old.applied (λ c there same. a.fresh (subst (λ (n : ℕ). Contains old.applied n) (sym same) there)), distinct);
  dead = λ p dead. (stays p dead, λ is. dead.1 (dead_under name change content old new a p.name p.parent (l.parents p dead.0) is));
}

-- a dead change goes on waiting when another takes its late step
dead_waits : (q : Waiting) (old new : State) → IsLate q old new → (p : Waiting) → IsDead p old → Contains new.pending p
dead_waits q old new late p dead = elim (taken_or_left q old.pending new.pending late.waits p dead.0) [
  | inl same ↦ absurd (dead.1 (subst (λ (w : Waiting). w.parent ≡ (old.registers w.name).change) same late.parent))
  | inr left ↦ left
]

-- a late step
late_leads : (q : Waiting) (old new : State) → IsLawful old → IsLate q old new → Leads old new
late_leads q old new l late = applies_leads q.name q.change q.content old new l (late_applies q old new l late) (dead_waits q old new late)

-- several
lates_lead : (some : List Waiting) (old new : State) → IsLawful old → AreLate some old new → Leads old new
lates_lead [] old new l same = leads_stay old new l same
lates_lead (w ∷ some) old new l (mid, late, rest) =
    let first = late_leads w old mid l late in
    leads_join old mid new first (lates_lead some mid new first.lawful rest)

-- a change that begins to wait
more_leads : (w : Waiting) (old : State) → IsLawful (waiting_more old w) → Leads old (waiting_more old w)
more_leads w old l = record {
  lawful = l;
  grows = ([], refl);
  once = λ distinct. distinct;
  dead = λ p dead. (rest_there w old.pending p dead.0, dead.1);
}

-- that of a call that was refused
waits_leads :
    (slot : ℕ) (name : List ℕ) (call : Brief) (change : ChangeId) (old new : State) → IsLawful old → Waits slot name call change old new
    → Leads old new
waits_leads slot name call change old new l m =
    subst (λ (s : State). Leads old s) (sym (waits_is slot name call change old new m))
    (more_leads m.waiting old (waiting_lawful m.waiting old l (waits_may slot name call change old new l m)))

-- each deed
deed_leads : (slot : ℕ) (name : List ℕ) (deed : Deed) (old new : State) → IsLawful old → Deeds slot name deed old new → Leads old new
deed_leads slot name (Done call (brief.Answer reply)) old new l (inl m) =
    applies_leads name (change_of m.change) m.content old new l (makes_applies slot name call reply old new l m)
    (λ p dead. subst (λ (ws : List Waiting). Contains ws p) (sym m.pending) dead.0)
deed_leads slot name (Done call (brief.Answer reply)) old new l (inr f) = leads_stay old new l f.stays
deed_leads slot name (Done call (brief.Read at mode pick)) old new l none = absurd none
deed_leads slot name (Done call (brief.Gather at upload parts)) old new l none = absurd none
deed_leads slot name (Done call (brief.Change at mode act change now)) old new l none = absurd none
deed_leads slot name (Done call (brief.Part at upload number part change now)) old new l none = absurd none
deed_leads slot name (Done call (brief.MakeBucket bucket change now)) old new l none = absurd none
deed_leads slot name (Done call (brief.SetMode bucket mode change now)) old new l none = absurd none
deed_leads slot name (Refused change call) old new l m = waits_leads slot name call change old new l m
deed_leads slot name Kept old new l same = leads_stay old new l same
deed_leads slot name (Opened term) old new l same = leads_stay old new l same

-- each run
runs_lead : (slot : ℕ) (entries : List Entry) (old new : State) → IsLawful old → Runs slot entries old new → Leads old new
runs_lead slot [] old new l lates = lates_lead lates.0 old new l lates.1
runs_lead slot (entry ∷ entries) old new l (before, after, lates, moves, rest) =
    let first = lates_lead lates.0 old before l lates.1 in
    let second = deed_leads slot entry.name entry.deed before after first.lawful moves.deed in
    leads_join old before new first (leads_join before after new second (runs_lead slot entries after new second.lawful rest))

-- ---- the laws

pub runs_stay_lawful : RunsStayLawful
runs_stay_lawful slot entries old new l runs = (runs_lead slot entries old new l runs).lawful

pub applied_once : AppliedOnce
applied_once slot entries old new l distinct runs = let leads = runs_lead slot entries old new l runs in (leads.grows, leads.once distinct)

pub dead_stays_dead : DeadStaysDead
dead_stays_dead slot entries old new p l runs there apart = (runs_lead slot entries old new l runs).dead p (there, apart)
