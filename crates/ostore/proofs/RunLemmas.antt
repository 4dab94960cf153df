-- A slot from its opening to its close.
use Rattle.std.proofs.Common.{◌≡◌, ◌∙◌, ℕ, Bool, List, Option, sym, ap, subst, arith}
use Rattle.audit_trail.specs.declared.entry.Entry.{Entry}
use Rattle.drive_base.specs.Files.{Files}
use Rattle.drive_base.specs.declared.plan.SetPlan.{SetPlan}
use Rattle.slot_core.specs.Opening.{OpenedSlotStands}
use Rattle.slot_core.specs.Standing.{SlotStands}
use Rattle.slot_core.specs.Views.{SlotNumbers, holding_of, numbers_of}
use Rattle.op_steps.specs.Leading.{LeadsTo, entered_at, entries_at, with_entries}
use Rattle.ostore.specs.History.{ClosedSlotRan}

module _ {D A : Type 0} (entries : A → Option (List Entry)) (count : A → ℕ) (tells : D → Bool) (files : D → Files) where
  pub closed_slot : OpenedSlotStands entries count tells files → ClosedSlotRan entries count tells files
  closed_slot opened_stands set term index log was now first last opened went own lanes audit = record {
    audit = ap entries audit ∙ (went.audit ∙ ap (λ e. with_entries e (entries_at index log)) opened.entry);
    runs = λ at begin.
        let r = went.runs at (opened_stands set index term was first at.records at.state opened begin.have begin.stands) in
        let of_set : (numbers_of last).set ≡ set = went.set ∙ ap (λ (n : SlotNumbers). n.set) opened.numbers in
        let few = last.seq_fits in
        record {
          numbers = numbers_of last;
          of_set = of_set;
          of_slot = own;
          of_life = went.term ∙ ap (λ (n : SlotNumbers). n.term) opened.numbers;
          drawn = omega (arith, few);
          flights = (holding_of last).flights;
          later = r.later;
          stands = subst (λ l. SlotStands tells files (numbers_of last) (holding_of last).flights l r.later.records r.later.state) (sym lanes) r.stands;
          leads = subst (λ (s : SetPlan). LeadsTo s index (entered_at index log) at r.later) of_set r.leads;
        };
  }
