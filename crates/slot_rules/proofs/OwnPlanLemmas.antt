-- The plan of a deed, by what is planned of its register and of its own change.
use Rattle.std.proofs.Common.{◌≡◌, ◌≢◌, ◌∙◌, ℕ, List, Option, None, Some, ap, subst, sym, refl}
use Rattle.std.specs.Prelude.{IfSome, unwrap_or}
use Rattle.stamp_id.specs.declared.stamp.ChangeId.{ChangeId}
use Rattle.stamp_id.specs.declared.version.VersionId.{VersionId}
use Rattle.call_types.specs.Refusals.{refusal_of}
use Rattle.call_types.specs.declared.refusal.KeyRefusal.{KeyRefusal}
use Rattle.call_types.specs.declared.reply.Reply.{Reply}
use Rattle.call_types.specs.declared.reply.Reply.TheVariants.{Refused}
use Rattle.register_core.specs.Found.{content_of}
use Rattle.slot_rules.specs.Deeds.{call_of, name_of}
use Rattle.slot_rules.specs.Owning.{IsOwnOf}
use Rattle.slot_rules.specs.Planning.{DoesOver, IsGoneBy, IsPlanned}
use Rattle.slot_rules.specs.Plans.{IsTale, PlansNone, PlansOwn}
use Rattle.slot_rules.specs.declared.commit.Commit.{Commit}
use Rattle.slot_rules.specs.declared.ready.Ready.{Ready}
use Rattle.slot_rules.specs.declared.owning.Own.{Own}
use Rattle.slot_rules.specs.declared.planning.Planned.{Planned}
use Rattle.slot_rules.specs.declared.site.Site.{Site}
use Rattle.slot_rules.specs.declared.telling.Tale.{Tale}

-- what is so of what may be missing is so in other words
if_some : {A : Type 0} (P Q : A → Type 0) (o : Option A) → ((x : A) → P x → Q x) → IfSome o P → IfSome o Q
if_some P Q None words is = tt
if_some P Q (Some x) words is = words x is

-- where another content is planned nothing is refused
not_refused : (refused : Option KeyRefusal) (reply : Reply) (planned : Option (List ℕ)) (content : List ℕ) → planned ≡ Some content
    → IfSome refused (λ why. (reply ≡ Refused (refusal_of why)) × (planned ≡ None)) → refused ≡ None
not_refused None reply planned content is all = refl
not_refused (Some why) reply planned content is all = absurd (let clash : Some content ≡ None = sym is ∙ all.1 in cc)

module _ (ready : Ready) (deed : Commit) (now : ℕ) (id : VersionId) (planned : Planned) (tale : Tale)
    (is : IsPlanned deed now id (content_of ready.looked.base ready.looked.pending) planned)
    (reply : tale.reply ≡ planned.reply) (refused : tale.refused ≡ planned.refused) where
  abbrev found : List ℕ
  found = content_of ready.looked.base ready.looked.pending

  -- a deed that leaves the content
  pub plans_none : planned.content ≡ None → IsTale deed None now tale → PlansNone ready deed now (record { tale = tale; own = None; gone = planned.gone })
  plans_none none told =
      let stays : unwrap_or planned.content found ≡ found = ap (λ (o : Option (List ℕ)). unwrap_or o found) none in
      record {
        tale = told;
        id = id;
        does = subst (λ (r : Reply). DoesOver (name_of deed) found (call_of deed None now) id r found) (sym reply)
            (subst (λ (c : List ℕ). DoesOver (name_of deed) found (call_of deed None now) id planned.reply c) stays (is.does None));
        refused = subst (λ (o : Option KeyRefusal). IfSome o (λ why. tale.reply ≡ Refused (refusal_of why))) (sym refused)
            (if_some (λ why. (planned.reply ≡ Refused (refusal_of why)) × (planned.content ≡ None)) (λ why. tale.reply ≡ Refused (refusal_of why)) planned.refused
            (λ why both. reply ∙ both.0) is.refused);
        gone = subst (λ (l : List VersionId). IsGoneBy deed found found l) (is.none_gone none)
            (subst (λ (c : List ℕ). IsGoneBy deed found c planned.gone.items) stays is.gone);
        none = is.none_gone none;
      }

  -- a deed that leaves another one
  pub plans_own : (site : Site) (last : ℕ) (put : Option VersionId) (content : List ℕ) (own : Own) → planned.content ≡ Some content → IsTale deed (Some id.change) now tale
      → own.change ≡ id.change
      → ((told : Reply) → DoesOver (name_of deed) found (call_of deed (Some id.change) now) id told content → content ≢ found
      → (o : IsOwnOf site last ready deed put now told own) × (o.next.content ≡ content))
      → PlansOwn site last ready deed put now (record { tale = tale; own = Some own; gone = planned.gone }) own
  plans_own site last put content own some told change makes =
      let after : unwrap_or planned.content found ≡ content = ap (λ (o : Option (List ℕ)). unwrap_or o found) some in
      let does : DoesOver (name_of deed) found (call_of deed (Some id.change) now) id tale.reply content =
      subst (λ (r : Reply). DoesOver (name_of deed) found (call_of deed (Some id.change) now) id r content) (sym reply)
      (subst (λ (c : List ℕ). DoesOver (name_of deed) found (call_of deed (Some id.change) now) id planned.reply c) after (is.does (Some id.change))) in
      let changed : content ≢ found = subst (λ (o : Option (List ℕ)). IfSome o (λ new. new ≢ found)) some is.changed in
      let made = makes tale.reply does changed in
      record {
        tale = subst (λ (c : ChangeId). IsTale deed (Some c) now tale) (sym change) told;
        is = made.0;
        served = refused ∙ not_refused planned.refused planned.reply planned.content content some is.refused;
        gone = subst (λ (c : List ℕ). IsGoneBy deed found c planned.gone.items) (after ∙ sym made.1) is.gone;
      }
