-- Registers that a section leaves as they were, or calm.
use Rattle.std.proofs.Common.{◌≡◌, ◌⊎◌, ◌∙◌, ℕ, List, Option, None, Some, false, bytes_eq, ap, subst, subst₂, sym, refl, inl, inr}
use Rattle.stamp_id.specs.declared.stamp.ChangeId.{ChangeId}
use Rattle.audit_trail.specs.declared.entry.Deed.{Deed}
use Rattle.audit_trail.specs.declared.entry.Deed.TheVariants.{Done, Refused, Kept, Opened}
use Rattle.audit_trail.specs.declared.entry.Entry.{Entry}
use Rattle.vote_core.specs.Calm.{IsCalm}
use Rattle.vote_core.specs.Lane.{Lane}
use Rattle.slot_history.specs.Moving.{drawn_by}
use Rattle.slot_history.specs.Standing.{Records}
use Rattle.slot_history.specs.State.{Register, State}
use Rattle.slot_history.proofs.MemberLemmas.{other_is_other, same_or_other}
use Rattle.slot_core.specs.Calm.{DeedCalms, HasBegun, HasMade, IsBegun, IsCalmUnder, MadeIn, OnlyLooked, SectionCalms, StaysUnder}
use Rattle.slot_core.specs.CommitOutcome.{entry_at}
use Rattle.slot_core.proofs.LaneLemmas.{with_lanes, with_lanes_writes}

-- what nothing was done to
pub all_stays : (records : Records) (state : State) (name : List ℕ) → StaysUnder records state records state name
all_stays records state name = record { lanes = refl; register = refl }

-- what was left as it was twice
pub stays_twice : (records : Records) (state : State) (mid : Records) (between : State) (after : Records) (now : State) (name : List ℕ)
    → StaysUnder records state mid between name → StaysUnder mid between after now name → StaysUnder records state after now name
stays_twice records state mid between after now name first second = record {
  lanes = second.lanes ∙ first.lanes;
  register = second.register ∙ first.register;
}

-- a calm register that was left as it was is calm
pub calm_stays : (w : ℕ) (records : Records) (state : State) (after : Records) (now : State) (name : List ℕ) → StaysUnder records state after now name
    → IsCalmUnder w records state name → IsCalmUnder w after now name
calm_stays w records state after now name same calm =
    subst₂ (λ (l : List Lane) (c : ℕ). IsCalm w l c) (sym same.lanes) (sym (ap (λ (r : Register). r.change) same.register)) calm

-- of lanes under one name that were written, those under another stay
pub wrote_stays : (called : List ℕ) (lanes : List Lane) (records : Records) (state now : State) (name : List ℕ)
    → ((other : List ℕ) → bytes_eq called other ≡ false → now.registers other ≡ state.registers other) → (called ≡ name → ⊥)
    → StaysUnder records state (with_lanes called lanes records) now name
wrote_stays called lanes records state now name others else = elim (same_or_other called name) [
  | inl same ↦ absurd (else same)
  | inr differs ↦ record { lanes = (with_lanes_writes called lanes records).stays name differs; register = others name differs }
]

-- a deed that only looked made no change
pub looked_not_made : (deed : Deed) (change : ChangeId) → OnlyLooked deed → MadeIn change deed → ⊥
looked_not_made (Done call reply) change looked made = absurd (let both : None ≡ Some change = sym looked ∙ made in cc)
looked_not_made (Refused other call) change looked made = made
looked_not_made Kept change looked made = made
looked_not_made (Opened term) change looked made = made

-- a deed that did nothing
pub idle_calms : (w : ℕ) (called : List ℕ) (deed : Deed) (records : Records) (state : State) → OnlyLooked deed
    → DeedCalms w called deed records state records state
idle_calms w called deed records state looked = record {
  made = λ change made. absurd (looked_not_made deed change looked made);
  stays = λ name looks. all_stays records state name;
}

-- a section that wrote no entry
pub none_calms : (w : ℕ) (entry : Option Entry) (records : Records) (state : State) → entry ≡ None → SectionCalms w entry records state records state
none_calms w entry records state none = record {
  made = λ name change made. absurd (subst (λ (e : Option Entry). HasMade e name change) none made);
  stays = λ name calm looks. all_stays records state name;
}

-- a section that only looked
pub look_calms : (w : ℕ) (entry : Option Entry) (told : Entry) (records : Records) (state : State) (after : Records) (now : State) → entry ≡ Some told
    → OnlyLooked told.deed → ((name : List ℕ) → IsCalmUnder w records state name → StaysUnder records state after now name)
    → SectionCalms w entry records state after now
look_calms w entry told records state after now is looked stay = record {
  made = λ name change made.
      let here : HasMade (Some told) name change = subst (λ (e : Option Entry). HasMade e name change) is made in
      absurd (looked_not_made told.deed change looked here.1);
  stays = λ name calm looks. stay name calm;
}

-- a deed, after the completion of what was pending
pub entry_calms : (w ticket : ℕ) (name : List ℕ) (late : Option ChangeId) (deed : Deed) (records : Records) (state : State) (mid : Records) (between : State)
    (after : Records) (now : State) → ((other : List ℕ) → IsCalmUnder w records state other → StaysUnder records state mid between other)
    → DeedCalms w name deed mid between after now → SectionCalms w (Some (entry_at ticket name late deed)) records state after now
entry_calms w ticket name late deed records state mid between after now first d = record {
  made = λ other change made. subst (λ (n : List ℕ). IsCalmUnder w after now n) made.0 (d.made change made.1);
  stays = λ other calm looks. stays_twice records state mid between after now other (first other calm) (d.stays other looks);
}

-- a deed that wasn't refused made a change, or only looked
made_or_looked : (deed : Deed) → (IsBegun deed → ⊥) → ((change : ChangeId) × MadeIn change deed) ⊎ OnlyLooked deed
made_or_looked (Done call reply) none = by (drawn_by call) refl
  where
    by : (drawn : Option ChangeId) → drawn_by call ≡ drawn → ((change : ChangeId) × (drawn_by call ≡ Some change)) ⊎ (drawn_by call ≡ None)
    by None is = inr is
    by (Some change) is = inl (change, is)
made_or_looked (Refused change call) none = absurd (none tt)
made_or_looked Kept none = inr tt
made_or_looked (Opened term) none = inr tt

-- a calm register stays so, by the entry of a section, and one of which a change was made is calm
pub calm_by_entry : (w : ℕ) (entry : Option Entry) (records : Records) (state : State) (after : Records) (now : State) (name : List ℕ)
    → SectionCalms w entry records state after now → IsCalmUnder w records state name → (HasBegun entry name → ⊥) → IsCalmUnder w after now name
calm_by_entry w None records state after now name left calm none = calm_stays w records state after now name (left.stays name calm tt) calm
calm_by_entry w (Some told) records state after now name left calm none = elim (same_or_other told.name name) [
  | inl same ↦ elim (made_or_looked told.deed (λ begun. none (same, begun))) [
    | inl made ↦ left.made name made.0 (same, made.1)
    | inr looked ↦ calm_stays w records state after now name (left.stays name calm (λ is. looked)) calm
  ]
  | inr other ↦ calm_stays w records state after now name (left.stays name calm (λ is. absurd (other_is_other told.name name other is))) calm
]
