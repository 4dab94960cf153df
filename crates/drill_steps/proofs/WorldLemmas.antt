-- Over moves of a world the data of each slot goes on to hold.
use Rattle.std.proofs.Common.{◌≡◌, ◌∙◌, ℕ, List, [], ◌∷◌, ◌++◌, append-nil, append_assoc, Option, None, Some, inl, inr, refl, sym, ap, subst, arith}
use Rattle.std.proofs.lemmas.Grind.{flat_map-append}
use Rattle.std.proofs.lemmas.List.{map-append}
use Rattle.audit_trail.specs.declared.entry.Entry.{Entry}
use Rattle.desk_base.specs.Telling.{Effect}
use Rattle.drive_base.specs.declared.drive.Drive.{Ghosts}
use Rattle.drive_base.specs.declared.plan.SetPlan.{SetPlan}
use Rattle.receipts.specs.Events.{Log}
use Rattle.slot_data.specs.Disks.{Disks}
use Rattle.slot_core.specs.Views.{SlotNumbers}
use Rattle.op_steps.specs.Claims.{among, no_claim}
use Rattle.log_laws.specs.Coming.{ClaimsCome, ClaimsGo}
use Rattle.op_steps.specs.Holding.{StoreHolds}
use Rattle.log_laws.specs.Laws.{AllHold, LogKeepsData, RanKeepsHistory}
use Rattle.op_steps.specs.Leading.{with_entries}
use Rattle.op_steps.specs.Leading.{Standing, entered_at, entered_in, entries_at, entries_of}
use Rattle.log_laws.specs.Laws.{LeadsJoin, LeadsStay}
use Rattle.op_steps.specs.Steps.{IsSlotAt}
use Rattle.op_steps.specs.Store.{AreInOrder, SlotSeen}
use Rattle.log_laws.specs.StoreTroubles.{ShowsHonestly, TroubleKeepsData}
use Rattle.op_steps.specs.declared.op.Op.{Ghosts as Ops}
use Rattle.drill_steps.specs.Laws.{IsHonestMove, IsHonestRun, WorldHolds, WorldHoldsLater, WorldsHold, log_of}
use Rattle.drill_steps.specs.Worlds.{Ends, Hurts, Move, Moves, Seat, Starts, Steps, World, WorldRan, claims_of, held_at, steps_of, store_with}
use Rattle.drill_steps.specs.Worlds.Move.{Ended, Hurt, Started, Stepped, Struck}
use Rattle.drill_steps.specs.Worlds.Seat.{Leaves, Works}
use Rattle.log_laws.proofs.PlaceLemmas.{slot_at, slot_is_one}
use Rattle.drill_steps.proofs.HonestLemmas.{shows_honestly, struck_order}

-- the claims of seats, of which one is looked at
pub claims_apart : {O T : Type 0} (front : List (Seat O T)) (seat : Seat O T) (rest : List (Seat O T))
    → claims_of (front ++ seat ∷ rest) ≡ among (claims_of front) (held_at seat) (claims_of rest)
claims_apart front seat rest = map-append held_at front (seat ∷ rest)

-- no entries more, and some behind others
with_none : (entries : Option (List Entry)) → entries ≡ with_entries entries []
with_none None = refl
with_none (Some l) = ap Some (sym (append-nil l))

with_more : (entries : Option (List Entry)) (one two : List Entry) → with_entries (with_entries entries one) two ≡ with_entries entries (one ++ two)
with_more None one two = refl
with_more (Some l) one two = ap Some (append_assoc l one two)

-- the entries of a log behind another
entries_join : (k : ℕ) (one two : Log) → entries_at k (one ++ two) ≡ entries_at k one ++ entries_at k two
entries_join k one two = ap entries_of (flat_map-append (entered_in k) one two) ∙ map-append _ (entered_at k one) (entered_at k two)

module _ {D O T : Type 0} (ghosts : Ghosts D) (set : SetPlan) (leads_stay : LeadsStay) where
  -- a world of which the slots stay goes on by no entry
  stays : (unseen : Disks) (at : ℕ → Standing) (old new : World D O T) → new.slots ≡ old.slots → WorldHolds ghosts set unseen at new
      → WorldHoldsLater ghosts set [] unseen at old new
  stays unseen at old new same holds = record {
    later = at;
    lead = λ k. leads_stay set k (at k);
    after = holds;
    audits = λ k was now is_was is_now.
        ap (λ (s : SlotSeen D). s.entries) (slot_is_one old.slots k now was (subst (λ l. IsSlotAt l k now) same is_now) is_was) ∙ with_none was.entries;
    terms = λ k was now is_was is_now.
        ap (λ (s : SlotSeen D). s.numbers.term) (slot_is_one old.slots k now was (subst (λ l. IsSlotAt l k now) same is_now) is_was);
  }

module _ {D O T : Type 0} (ghosts : Ghosts D) (set : SetPlan) (leads_join : LeadsJoin) where
  -- one move after another
  join : (one two : Log) (unseen : Disks) (at : ℕ → Standing) (old mid new : World D O T) (first : WorldHoldsLater ghosts set one unseen at old mid)
      → WorldHoldsLater ghosts set two unseen first.later mid new → WorldHoldsLater ghosts set (one ++ two) unseen at old new
  join one two unseen at old mid new first second = record {
    later = second.later;
    lead = leads_join set one two at first.later second.later first.lead second.lead;
    after = second.after;
    audits = λ k was now is_was is_now.
        let between = slot_at mid.slots k (let same = first.after.order.count in let other = second.after.order.count in let low = is_now.0 in omega (arith, same, other, low)) in
        second.audits k between.0 now between.1 is_now
        ∙ (ap (λ e. with_entries e (entries_at k two)) (first.audits k was between.0 is_was between.1)
        ∙ (with_more was.entries (entries_at k one) (entries_at k two) ∙ ap (λ l. with_entries was.entries l) (sym (entries_join k one two))));
    terms = λ k was now is_was is_now.
        let between = slot_at mid.slots k (let same = first.after.order.count in let other = second.after.order.count in let low = is_now.0 in omega (arith, same, other, low)) in
        second.terms k between.0 now between.1 is_now ∙ first.terms k was between.0 is_was between.1;
  }

module _ {D O T : Type 0} (ghosts : Ghosts D) (takes breaks : Effect T) (ops : Ops O) (set : SetPlan)
    (log_keeps : LogKeepsData ghosts takes breaks) (history : RanKeepsHistory ghosts takes breaks) (comes : ClaimsCome ghosts.tells ghosts.files)
    (goes : ClaimsGo ghosts.tells ghosts.files) (troubled : TroubleKeepsData ghosts) (leads_stay : LeadsStay) (leads_join : LeadsJoin) where
  -- steps of one actor
  stepped : (number : ℕ) (more : Log) (old new : World D O T) (unseen : Disks) (at : ℕ → Standing) → Steps ghosts takes breaks ops set number more old new
      → WorldHolds ghosts set unseen at old → WorldHoldsLater ghosts set more unseen at old new
  stepped number more old new unseen at x holds =
      let before = store_with old x.was x.claim in
      let after = store_with new x.now x.later in
      let apart = claims_apart x.front (Works x.was x.claim x.log) x.rest in
      let claims : StoreHolds ghosts.tells ghosts.files unseen old.slots old.disks (among (claims_of x.front) x.claim (claims_of x.rest)) at =
      subst (λ l. StoreHolds ghosts.tells ghosts.files unseen old.slots old.disks l at) (ap claims_of x.seats_were ∙ apart) holds.holds in
      let all : AllHold ghosts.tells ghosts.files unseen before (claims_of x.front) (claims_of x.rest) at =
      λ k was is. (let h = claims k was is in record { stands = h.stands; holds = h.holds }) in
      let kept = log_keeps set more before after unseen (claims_of x.front) (claims_of x.rest) at holds.order x.in_store x.ran all in
      let went = history set more before after holds.order x.ran in
      let now : StoreHolds ghosts.tells ghosts.files unseen new.slots new.disks (among (claims_of x.front) x.later (claims_of x.rest)) kept.1.later =
      λ k was is. (let h = kept.1.holds k was is in record { stands = h.stands; holds = h.holds }) in
      record {
        later = kept.1.later;
        lead = kept.1.lead;
        after = record {
          order = went.0;
          holds = subst (λ l. StoreHolds ghosts.tells ghosts.files unseen new.slots new.disks l kept.1.later)
              (sym (ap claims_of x.seats_are ∙ claims_apart x.front (Works x.now x.later (x.log ++ more)) x.rest)) now;
        };
        audits = λ k was later is_was is_now. (went.1 k was later is_was is_now).audit;
        terms = λ k was later is_was is_now. (went.1 k was later is_was is_now).term;
      }

  -- a store whose slots and drives stay, with other claims in hand
  others : (old new : World D O T) (unseen : Disks) (at : ℕ → Standing) → new.slots ≡ old.slots → new.disks ≡ old.disks
      → AreInOrder set old.slots old.disks → StoreHolds ghosts.tells ghosts.files unseen old.slots old.disks (claims_of new.seats) at
      → WorldHolds ghosts set unseen at new
  others old new unseen at slots disks order holds = record {
    order = subst (λ d. AreInOrder set new.slots d) (sym disks) (subst (λ s. AreInOrder set s old.disks) (sym slots) order);
    holds = subst (λ d. StoreHolds ghosts.tells ghosts.files unseen new.slots d (claims_of new.seats) at) (sym disks)
        (subst (λ s. StoreHolds ghosts.tells ghosts.files unseen s old.disks (claims_of new.seats) at) (sym slots) holds);
  }

  -- one begins
  started : (number : ℕ) (old new : World D O T) (unseen : Disks) (at : ℕ → Standing) → Starts ops set number old new → WorldHolds ghosts set unseen at old
      → WorldHoldsLater ghosts set [] unseen at old new
  started number old new unseen at x holds =
      let with_one : claims_of new.seats ≡ claims_of old.seats ++ no_claim x.slot ∷ [] =
      ap claims_of x.seats ∙ map-append held_at old.seats (Works x.actor (no_claim x.slot) [] ∷ []) in
      let came = comes unseen old.slots old.disks (claims_of old.seats) [] x.slot at
      (subst (λ l. StoreHolds ghosts.tells ghosts.files unseen old.slots old.disks l at) (sym (append-nil (claims_of old.seats))) holds.holds) in
      stays ghosts set leads_stay unseen at old new x.slots (others old new unseen at x.slots x.disks holds.order
      (subst (λ l. StoreHolds ghosts.tells ghosts.files unseen old.slots old.disks l at) (sym with_one) came))

  -- one ends
  ended : (number : ℕ) (log : Log) (old new : World D O T) (unseen : Disks) (at : ℕ → Standing) → Ends ops set number log old new → WorldHolds ghosts set unseen at old
      → WorldHoldsLater ghosts set [] unseen at old new
  ended number log old new unseen at x holds =
      let claims : StoreHolds ghosts.tells ghosts.files unseen old.slots old.disks (among (claims_of x.front) x.claim (claims_of x.rest)) at =
      subst (λ l. StoreHolds ghosts.tells ghosts.files unseen old.slots old.disks l at)
      (ap claims_of x.was ∙ claims_apart x.front (Works x.actor x.claim log) x.rest) holds.holds in
      let left : StoreHolds ghosts.tells ghosts.files unseen old.slots old.disks (claims_of (x.front ++ (x.place ++ x.rest))) at = elim x.left [
        | inl nothing ↦ subst (λ p. StoreHolds ghosts.tells ghosts.files unseen old.slots old.disks (claims_of (x.front ++ (p ++ x.rest))) at) (sym nothing.1)
            (subst (λ l. StoreHolds ghosts.tells ghosts.files unseen old.slots old.disks l at) (sym (map-append held_at x.front x.rest))
            (goes unseen old.slots old.disks (claims_of x.front) (claims_of x.rest) x.claim.slot at
            (subst (λ c. StoreHolds ghosts.tells ghosts.files unseen old.slots old.disks (among (claims_of x.front) c (claims_of x.rest)) at) nothing.0 claims)))
        | inr behind ↦ subst (λ p. StoreHolds ghosts.tells ghosts.files unseen old.slots old.disks (claims_of (x.front ++ (p ++ x.rest))) at) (sym behind)
            (subst (λ l. StoreHolds ghosts.tells ghosts.files unseen old.slots old.disks l at) (sym (claims_apart x.front (Leaves x.claim) x.rest)) claims)
      ] in
      stays ghosts set leads_stay unseen at old new x.slots (others old new unseen at x.slots x.disks holds.order
      (subst (λ l. StoreHolds ghosts.tells ghosts.files unseen old.slots old.disks l at) (sym (ap claims_of x.now)) left))

  -- trouble
  hurt : (old new : World D O T) (unseen : Disks) (at : ℕ → Standing) → Hurts ghosts old new → ShowsHonestly ghosts set new.slots new.disks
      → WorldHolds ghosts set unseen at old → WorldHoldsLater ghosts set [] unseen at old new
  hurt old new unseen at x honest holds =
      let befell = x.troubled in
      let kept = troubled set old.slots old.disks new.slots new.disks unseen (claims_of old.seats) at holds.order befell honest holds.holds in
      record {
        later = at;
        lead = λ k. leads_stay set k (at k);
        after = record {
          order = struck_order ghosts set old.slots new.slots old.disks new.disks befell holds.order;
          holds = subst (λ s. StoreHolds ghosts.tells ghosts.files unseen new.slots new.disks (claims_of s) at) (sym x.seats) kept;
        };
        audits = λ k was now is_was is_now.
            let s = befell.slots k now is_now in
            s.2.entries ∙ (ap (λ (seen : SlotSeen D). seen.entries) (slot_is_one old.slots k s.0 was s.1 is_was) ∙ with_none was.entries);
        terms = λ k was now is_was is_now.
            let s = befell.slots k now is_now in
            ap (λ (n : SlotNumbers). n.term) s.2.numbers
            ∙ ap (λ (seen : SlotSeen D). seen.numbers.term) (slot_is_one old.slots k s.0 was s.1 is_was);
      }

  -- one move
  moved : (move : Move) (old new : World D O T) (unseen : Disks) (at : ℕ → Standing) → Moves ghosts takes breaks ops set move old new
      → IsHonestMove ghosts set move new → WorldHolds ghosts set unseen at old → WorldHoldsLater ghosts set (steps_of move) unseen at old new
  moved (Started number) old new unseen at x honest holds = started number old new unseen at x holds
  moved (Stepped number more) old new unseen at x honest holds = stepped number more old new unseen at x holds
  moved (Ended number log) old new unseen at x honest holds = ended number log old new unseen at x holds
  moved Struck old new unseen at x honest holds =
      hurt old new unseen at x.trouble (shows_honestly ghosts set old.slots new.slots old.disks new.disks unseen (claims_of old.seats) at x.trouble.troubled x.same
      holds.order holds.holds) holds
  moved Hurt old new unseen at x honest holds = hurt old new unseen at x honest.0 holds

  -- any moves
  worlds_hold : (moves : List Move) (old new : World D O T) (unseen : Disks) (at : ℕ → Standing)
      (ran : WorldRan ghosts takes breaks ops set moves old new) → IsHonestRun ghosts takes breaks ops set moves old new ran
      → WorldHolds ghosts set unseen at old → WorldHoldsLater ghosts set (log_of moves) unseen at old new
  worlds_hold [] old new unseen at same honest holds =
      subst (λ w. WorldHoldsLater ghosts set [] unseen at old w) (sym same) (stays ghosts set leads_stay unseen at old old refl holds)
  worlds_hold (move ∷ moves) old new unseen at (mid, first, more) honest holds =
      let one = moved move old mid unseen at first honest.0 holds in
      join ghosts set leads_join (steps_of move) (log_of moves) unseen at old mid new one (worlds_hold moves mid new unseen one.later more honest.1 one.after)

module _ {D O T : Type 0} (ghosts : Ghosts D) (takes breaks : Effect T) (ops : Ops O) where
  pub worlds_go_on : LogKeepsData ghosts takes breaks → RanKeepsHistory ghosts takes breaks → ClaimsCome ghosts.tells ghosts.files
      → ClaimsGo ghosts.tells ghosts.files → TroubleKeepsData ghosts → LeadsStay → LeadsJoin → WorldsHold ghosts takes breaks ops
  worlds_go_on log_keeps history comes goes troubled leads_stay leads_join set moves old new unseen at ran honest holds =
      worlds_hold ghosts takes breaks ops set log_keeps history comes goes troubled leads_stay leads_join moves old new unseen at ran honest holds
