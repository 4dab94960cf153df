-- The sections of a slot in the order of their turns, and those of a call.
use Rattle.std.proofs.Common.{◌≡◌, ◌⊎◌, ◌∙◌, ◌+◌, ◌<◌, ◌≤◌, ◌++◌, ℕ, leb, true, false, List, [], ◌∷◌, Option, All, cond, refl, sym, ap, subst, inl, inr, arith}
use Rattle.std.proofs.lemmas.Bool.Decides.{eqb_tells, leb_tells}
use Rattle.std.proofs.lemmas.List.Elements.{All-cons, All-head, All-nil, All-tail}
use Rattle.std.proofs.lemmas.List.Sorted.{All-permutation}
use Rattle.audit_trail.specs.declared.entry.Entry.{Entry}
use Rattle.drive_base.specs.declared.drive.Drive.{Ghosts}
use Rattle.drive_base.specs.declared.plan.SetPlan.{SetPlan}
use Rattle.receipts.specs.Events.{Event, Log}
use Rattle.receipts.specs.Events.Event.{BarredFrom, Called, Fed, Told, Turned}
use Rattle.op_steps.specs.Leading.{WentOn}
use Rattle.op_steps.specs.Leading.{Entered, entered_at, entered_by, entered_in}
use Rattle.op_steps.specs.Notes.{entry_in}
use Rattle.op_steps.specs.Store.{SlotSeen, slot_seen}
use Rattle.op_steps.proofs.StepLemmas.{same_went, went_turn, went_twice}
use Rattle.turn_lock.specs.History.{Follow, IsHistory}
use Rattle.turn_lock.specs.declared.view.Turn.{Turn}
use Rattle.turn_lock.proofs.OrderLemmas.{history_in_order}
use Rattle.store_shared.specs.Among.{seen_in}
use Rattle.store_shared.specs.Sections.{AnswersHaveSections, AreCounted, HasSections, IsSection, SectionsLead, SlotLed, TurnedSection, events_by, turn_by, turned_at, turned_in, turns_by}
use Rattle.store_shared.specs.SharedLaws.{AreTurnsOf, SharedAnswersHaveTurns, TurnsRise}
use Rattle.store_shared.specs.SharedPasses.{pass_at, set_held, shared_holds}
use Rattle.store_shared.specs.Turned.{SlotName, name_of, slot_in, turns_in}
use Rattle.store_shared.specs.declared.shared.TurnedSlot.{TurnedSlot}

module _ {D A : Type 0} (ghosts : Ghosts D) (entries : A → Option (List Entry)) (count : A → ℕ) (k : ℕ) where
  -- what is seen of a slot behind a turn
  abbrev seen : TurnedSlot D A → SlotSeen D
  seen turned = slot_seen entries count (slot_in turned)

  -- the slot went on by these
  abbrev Went : TurnedSlot D A → TurnedSlot D A → List Entered → Type 0
  Went first last run = WentOn ghosts.tells ghosts.files k (seen first) (seen last) run

  -- by one section
  went_section : (s : TurnedSection D A) → IsSection ghosts entries count k s → Went s.turn.from s.turn.to (entered_in k (Turned k s.note s.shown))
  went_section s (set, is) =
      let own = ap (λ (n : SlotName). n.index) is.slot in
      let went = subst (λ i. WentOn ghosts.tells ghosts.files i (seen s.turn.from) (seen s.turn.to) (entered_by (entry_in s.note) s.shown)) own
      (went_turn ghosts (seen s.turn.from) (seen s.turn.to) s.note s.shown is.did.claim is.did.later is.did.disks is.did.disks_after is.did.moves) in
      elim (eqb_tells k k) [
        | inl hit ↦ subst (λ b. Went s.turn.from s.turn.to (cond b (entered_by (entry_in s.note) s.shown) [])) (sym hit.0) went
        | inr miss ↦ absurd (miss.1 refl)
      ]

  -- by sections that follow one another
  went_sections : (first : TurnedSlot D A) (sections : List (TurnedSection D A)) (last : TurnedSlot D A) → All (IsSection ghosts entries count k) sections
      → Follow turn_by first sections last → Went first last (entered_at k (events_by k sections))
  went_sections first [] last all same = same_went ghosts k (seen first) (seen last) (ap seen same)
  went_sections first (s ∷ sections) last all (begins, more) =
      let one = subst (λ f. Went f s.turn.to (entered_in k (Turned k s.note s.shown))) begins
      (went_section s (All-head (IsSection ghosts entries count k) s sections all)) in
      let rest = went_sections s.turn.to sections last (All-tail (IsSection ghosts entries count k) s sections all) more in
      went_twice ghosts k (seen first) (seen s.turn.to) (seen last) (entered_in k (Turned k s.note s.shown))
      (entered_at k (events_by k sections)) one rest

  -- their tickets are the counts of turns at which they were done
  counted : (first : TurnedSlot D A) (sections : List (TurnedSection D A)) (last : TurnedSlot D A) → All (IsSection ghosts entries count k) sections
      → Follow turn_by first sections last → AreCounted (turns_in first) sections (turns_in last)
  counted first [] last all same = ap turns_in (sym same)
  counted first (s ∷ sections) last all (begins, more) =
      let is = (All-head (IsSection ghosts entries count k) s sections all).1 in
      let next : turns_in s.turn.to ≡ turns_in first + 1 = is.did.moves.numbers.turns ∙ ap (λ (t : TurnedSlot D A). turns_in t + 1) begins in (
        sym is.ticket ∙ ap turns_in begins,
        subst (λ n. AreCounted n sections (turns_in last)) next
            (counted s.turn.to sections last (All-tail (IsSection ghosts entries count k) s sections all) more),
      )

  -- those of a history, in the order of its turns
  led : (first last : TurnedSlot D A) (made : List (TurnedSection D A)) → IsHistory turns_in name_of first last (turns_by made)
      → All (IsSection ghosts entries count k) made → SlotLed ghosts entries count k first last made
  led first last made history all =
      let ordered = history_in_order turn_by turns_in name_of first last made history in
      let are = All-permutation (IsSection ghosts entries count k) made ordered.ordered ordered.same all in
      record {
        in_order = ordered;
        are = are;
        counted = counted first ordered.ordered last are ordered.follow;
        went = went_sections first ordered.ordered last are ordered.follow;
      }

  -- the sections of these turns of a log
  pub record SectionsOf (log : Log) (turns : List (Turn (TurnedSlot D A))) : Type 0 where
    pub sections : List (TurnedSection D A)
    pub are : turns ≡ turns_by sections
    pub all : All (IsSection ghosts entries count k) sections
    pub of_log : events_by k sections ≡ turned_at k log

  -- an event that is no section of a slot adds none
  quiet : (event : Event) (log : Log) (turns : List (Turn (TurnedSlot D A))) → turned_in k event ≡ [] → SectionsOf log turns → SectionsOf (event ∷ log) turns
  quiet event log turns none x =
      record { sections = x.sections; are = x.are; all = x.all; of_log = x.of_log ∙ ap (λ l. l ++ turned_at k log) (sym none) }

  sections_of : (set : SetPlan) (log : Log) (turns : List (Turn (TurnedSlot D A))) → AreTurnsOf ghosts entries count set k log turns → SectionsOf log turns
  sections_of set [] turns none = record { sections = []; are = none; all = All-nil (IsSection ghosts entries count k); of_log = refl }
  sections_of set (Turned slot note shown ∷ log) turns (inl (other, more)) =
      let rest = sections_of set log turns more in
      elim (eqb_tells slot k) [
        | inl hit ↦ absurd (other hit.1)
        | inr miss ↦ record {
          sections = rest.sections;
          are = rest.are;
          all = rest.all;
          of_log = rest.of_log ∙ ap (λ b. cond b (Turned slot note shown ∷ []) [] ++ turned_at k log) (sym miss.0);
        }
      ]
  sections_of set (Turned slot note shown ∷ log) turns (inr (own, turn, left, is, section, more)) =
      let rest = sections_of set log left more in
      let made : TurnedSection D A = record { turn = turn; note = note; shown = shown } in
      elim (eqb_tells slot k) [
        | inl hit ↦ record {
          sections = made ∷ rest.sections;
          are = is ∙ ap (λ l. turn ∷ l) rest.are;
          all = All-cons (IsSection ghosts entries count k) made rest.sections (set, section) rest.all;
          of_log = ap (λ l. Turned k note shown ∷ l) rest.of_log ∙ (ap (λ (n : ℕ). Turned n note shown ∷ turned_at k log) (sym own)
              ∙ ap (λ b. cond b (Turned slot note shown ∷ []) [] ++ turned_at k log) (sym hit.0));
        }
        | inr miss ↦ absurd (miss.1 own)
      ]
  sections_of set (BarredFrom slot why ∷ log) turns are = quiet (BarredFrom slot why) log turns refl (sections_of set log turns are)
  sections_of set (Called drive gave ∷ log) turns are = quiet (Called drive gave) log turns refl (sections_of set log turns are)
  sections_of set (Fed bytes cut ∷ log) turns are = quiet (Fed bytes cut) log turns refl (sections_of set log turns are)
  sections_of set (Told telling cut ∷ log) turns are = quiet (Told telling cut) log turns refl (sections_of set log turns are)

-- what is there for each number below this one, as a function of numbers
module _ {X : Type 0} (P : ℕ → X → Type 0) (n : ℕ) (d : X) (there : (k : ℕ) → k < n → (x : X) × P k x) where
  abbrev chosen : (k : ℕ) → ((leb n k ≡ true) × (n ≤ k)) ⊎ ((leb n k ≡ false) × (k < n)) → X
  chosen k (inl far) = d
  chosen k (inr below) = (there k below.1).0

  is_chosen : (k : ℕ) (c : ((leb n k ≡ true) × (n ≤ k)) ⊎ ((leb n k ≡ false) × (k < n))) → k < n → P k (chosen k c)
  is_chosen k (inl far) inside = absurd (let f = far.1 in omega (arith, f, inside))
  is_chosen k (inr below) inside = (there k below.1).1

  pub choose : (f : ℕ → X) × ((k : ℕ) → k < n → P k (f k))
  choose = ((λ k. chosen k (leb_tells n k)), (λ k inside. is_chosen k (leb_tells n k) inside))

module _ {D A : Type 0} (ghosts : Ghosts D) (entries : A → Option (List Entry)) (count : A → ℕ) where
  pub sections_lead : SectionsLead ghosts entries count
  sections_lead k first last made history all = led ghosts entries count k first last made history all

  -- whatever a call is answered, it has its sections in each slot
  pub answers_have_sections : SharedAnswersHaveTurns ghosts entries count → AnswersHaveSections ghosts entries count
  answers_have_sections have task before after body tale result did =
      let has = choose (λ k. HasSections ghosts entries count k did.log (seen_in (pass_at before k)) (seen_in (pass_at after k))) 64 []
      (λ k below.
      let turned = have task before after body tale result did k below in
      let found = sections_of ghosts entries count k (set_held (shared_holds before)) did.log turned.turns turned.of_log in (
        found.sections,
        record {
          turns = turned.has ∙ ap (λ l. (seen_in (pass_at before k)).turns ++ l) found.are;
          rise = subst (λ l. TurnsRise (seen_in (pass_at before k)).seen l (seen_in (pass_at after k)).seen) found.are turned.rise;
          are = found.all;
          of_log = found.of_log;
        },
      )) in
      (has.0, record { did = did; has = has.1 })
