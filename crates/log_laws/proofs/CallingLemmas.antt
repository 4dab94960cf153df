-- Calls one after another keep the history, the files and the data of every slot.
use Rattle.std.proofs.Common.{◌≡◌, ◌<◌, ◌∙◌, List, [], ◌∷◌, ◌++◌, append-nil, append_assoc, length, slice_index_or, refl, sym, ap, subst, subst₂, inl, inr, arith}
use Rattle.std.proofs.lemmas.Grind.{flat_map-append}
use Rattle.std.proofs.lemmas.List.Elements.{Contains-append_cases, Contains-append_left, Contains-append_right}
use Rattle.drive_base.specs.declared.drive.Drive.{Ghosts}
use Rattle.drive_base.specs.View.{DriveView}
use Rattle.drive_base.specs.declared.plan.SetPlan.{SetPlan}
use Rattle.receipts.specs.Events.{Log}
use Rattle.receipts.specs.Events.Event.{BarredFrom}
use Rattle.log_laws.specs.Calling.{AllWent, CallsKeep, HoldsOn, StoreWent, joined}
use Rattle.op_steps.specs.Going.{CallRan}
use Rattle.op_steps.specs.Claims.{Claim, no_claim}
use Rattle.log_laws.specs.Keeping.{AreLeft}
use Rattle.op_steps.specs.Holding.{StoreHolds}
use Rattle.op_steps.specs.Leading.{WentOn, Entered, entered_at, entered_in}
use Rattle.op_steps.specs.Store.{AreInOrder, SlotSeen, any_effect, store_of}
use Rattle.log_laws.proofs.FileLemmas.{drives_stay, drives_twice, files_keep}
use Rattle.log_laws.proofs.HoldingLemmas.{call_keeps}
use Rattle.log_laws.proofs.ShowingLemmas.{all_lead_join}
use Rattle.op_steps.proofs.LeadingLemmas.{leads_stay}
use Rattle.log_laws.proofs.StepDataLemmas.{step_data}
use Rattle.log_laws.proofs.HistoryLemmas.{history_runs}
use Rattle.op_steps.proofs.StepLemmas.{same_went, went_twice}
use Rattle.log_laws.proofs.PlaceLemmas.{there}

-- what is left over a log is left over a longer one
left_before : (claims : List Claim) (log more : Log) → AreLeft claims log → AreLeft claims (log ++ more)
left_before claims log more are c there = let x = are c there in (x.0, (x.1.0, Contains-append_left log more (BarredFrom c.slot x.1.0) x.1.1))

left_behind : (claims : List Claim) (log more : Log) → AreLeft claims more → AreLeft claims (log ++ more)
left_behind claims log more are c there = let x = are c there in (x.0, (x.1.0, Contains-append_right log more (BarredFrom c.slot x.1.0) x.1.1))

left_join : (one two : List Claim) (log : Log) → AreLeft one log → AreLeft two log → AreLeft (one ++ two) log
left_join one two log first second c there = elim (Contains-append_cases one two c there) [
  | inl a ↦ first c a
  | inr b ↦ second c b
]

module _ {D : Type 0} (ghosts : Ghosts D) (set : SetPlan) where
  -- two logs, one after the other
  joins_went : (log more : Log) (slots mid after : List (SlotSeen D)) → length mid ≡ length slots → AllWent ghosts set log slots mid
      → AllWent ghosts set more mid after → AllWent ghosts set (log ++ more) slots after
  joins_went log more slots mid after same first second k was now is later =
      let inside : k < length mid = (let a = is.0 in omega (arith, a, same)) in
      let middle = slice_index_or mid k was in
      subst (λ (l : List Entered). WentOn ghosts.tells ghosts.files k was now l) (sym (flat_map-append (entered_in k) log more))
      (went_twice ghosts k was middle now (entered_at k log) (entered_at k more) (first k was middle is (there mid k was inside))
      (second k middle now (there mid k was inside) later))

  joins_holds : (log more : Log) (slots mid after : List (SlotSeen D)) (disks mid_disks disks_after : List DriveView) → HoldsOn ghosts set log slots disks mid mid_disks
      → HoldsOn ghosts set more mid mid_disks after disks_after → HoldsOn ghosts set (log ++ more) slots disks after disks_after
  joins_holds log more slots mid after disks mid_disks disks_after first second unseen claims at holds =
      let a = first unseen claims at holds in
      let b = second unseen (claims ++ a.left) a.later a.holds in
      record {
        left = a.left ++ b.left;
        are_left = left_join a.left b.left (log ++ more) (left_before a.left log more a.are_left) (left_behind b.left log more b.are_left);
        later = b.later;
        lead = all_lead_join set log more at a.later b.later a.lead b.lead;
        holds = subst (λ (l : List Claim). StoreHolds ghosts.tells ghosts.files unseen after disks_after l b.later) (append_assoc claims a.left b.left) b.holds;
      }

  -- no call
  none_went : (slots after : List (SlotSeen D)) (disks disks_after : List DriveView) → after ≡ slots → disks_after ≡ disks → AreInOrder set slots disks
      → StoreWent ghosts set [] slots disks after disks_after
  none_went slots after disks disks_after same drives in_order = record {
    in_order = subst₂ (λ s d. AreInOrder set s d) (sym same) (sym drives) in_order;
    slots_went = λ k was now is later. same_went ghosts k was now
        (sym (is.1 was) ∙ (sym (ap (λ (l : List (SlotSeen D)). slice_index_or l k was) same) ∙ later.1 was));
    drives = drives_stay disks disks_after drives;
    holds = λ unseen claims at holds. record {
      left = [];
      are_left = λ c there. absurd (omega (arith, there.1));
      later = at;
      lead = λ k. leads_stay set k (at k);
      holds = subst₂ (λ s d. StoreHolds ghosts.tells ghosts.files unseen s d (claims ++ []) at) (sym same) (sym drives)
          (subst (λ (l : List Claim). StoreHolds ghosts.tells ghosts.files unseen slots disks l at) (sym (append-nil claims)) holds);
    };
  }

  -- one call
  pub one_went : (log : Log) (slots mid : List (SlotSeen D)) (disks mid_disks : List DriveView) → AreInOrder set slots disks → CallRan ghosts set log slots disks mid mid_disks
      → StoreWent ghosts set log slots disks mid mid_disks
  one_went log slots mid disks mid_disks in_order call =
      let old = store_of slots disks (no_claim call.slot) call.feed call.teller in
      let new = store_of mid mid_disks call.left call.feed_after call.teller_after in
      let history = history_runs ghosts any_effect any_effect set log old new in_order call.ran in
      record {
        in_order = history.0;
        slots_went = history.1;
        drives = files_keep ghosts any_effect any_effect set log old new call.ran;
        holds = λ unseen claims at holds. call_keeps ghosts any_effect any_effect (step_data ghosts any_effect any_effect) (history_runs ghosts any_effect any_effect)
            set log old new unseen claims at in_order call.in_store refl call.ran call.lets_go holds;
      }

  -- calls, one after another
  pub calls_keep : CallsKeep ghosts set
  calls_keep [] slots disks after disks_after in_order (same, drives) = none_went slots after disks disks_after same drives in_order
  calls_keep (log ∷ logs) slots disks after disks_after in_order (mid, mid_disks, call, rest) =
      let first = one_went log slots mid disks mid_disks in_order call in
      let later = calls_keep logs mid mid_disks after disks_after first.in_order rest in
      let same : length mid ≡ length slots = first.in_order.count ∙ sym in_order.count in
      record {
        in_order = later.in_order;
        slots_went = joins_went log (joined logs) slots mid after same first.slots_went later.slots_went;
        drives = drives_twice disks mid_disks disks_after first.drives later.drives;
        holds = joins_holds log (joined logs) slots mid after disks mid_disks disks_after first.holds later.holds;
      }
