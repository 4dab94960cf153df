-- What a section leaves of its slot's history.
use Rattle.std.proofs.Common.{◌≡◌, ◌∙◌, ℕ, List, [], ◌++◌, Option, Some, None, MatchOption, append-nil, append_assoc, refl, sym, ap, subst}
use Rattle.std.proofs.lemmas.List.{map-append}
use Rattle.audit_trail.specs.Entries.{with_entry}
use Rattle.audit_trail.specs.declared.entry.Entry.{Entry}
use Rattle.drive_base.specs.declared.drive.Drive.{Ghosts}
use Rattle.drive_base.specs.View.{DriveView}
use Rattle.drive_base.specs.declared.plan.SetPlan.{SetPlan}
use Rattle.receipts.specs.Events.{Note, Shown}
use Rattle.op_steps.specs.Claims.{Claim}
use Rattle.op_steps.specs.Leading.{WentOn, with_entries, Entered, LeadsTo, Standing, entered_by, entries_of}
use Rattle.op_steps.specs.Moves.{TurnMoves}
use Rattle.op_steps.specs.Notes.{entry_in}
use Rattle.op_steps.specs.Store.{SlotSeen}
use Rattle.op_steps.proofs.LeadingLemmas.{leads_join, leads_stay, leaves_lead}

-- the entries of an audit stay where none is added, and those that are added join
none_added : (entries : Option (List Entry)) → entries ≡ with_entries entries []
none_added None = refl
none_added (Some before) = ap Some (sym (append-nil before))

added_twice : (entries : Option (List Entry)) (one two : List Entry) → with_entries (with_entries entries one) two ≡ with_entries entries (one ++ two)
added_twice None one two = refl
added_twice (Some before) one two = ap Some (append_assoc before one two)

by_entry : (entry : Option Entry) (shown : Shown) (old new : Option (List Entry)) → MatchOption entry (new ≡ old) (λ e. new ≡ with_entry old e)
    → new ≡ with_entries old (entries_of (entered_by entry shown))
by_entry None shown old new same = same ∙ none_added old
by_entry (Some entry) shown old new more = more

module _ {D : Type 0} (ghosts : Ghosts D) where
  -- a slot that nothing was done to
  pub went_none : (slot : ℕ) (was : SlotSeen D) → WentOn ghosts.tells ghosts.files slot was was []
  went_none slot was = record {
    set = refl;
    term = refl;
    audit = none_added was.entries;
    runs = λ at stands. record { later = at; stands = stands; leads = leads_stay was.numbers.set slot at };
  }

  pub same_went : (slot : ℕ) (was now : SlotSeen D) → was ≡ now → WentOn ghosts.tells ghosts.files slot was now []
  same_went slot was now same = subst (λ s. WentOn ghosts.tells ghosts.files slot was s []) same (went_none slot was)

  -- one that went on twice
  pub went_twice : (slot : ℕ) (was mid now : SlotSeen D) (one two : List Entered) → WentOn ghosts.tells ghosts.files slot was mid one
      → WentOn ghosts.tells ghosts.files slot mid now two → WentOn ghosts.tells ghosts.files slot was now (one ++ two)
  went_twice slot was mid now one two first second = record {
    set = second.set ∙ first.set;
    term = second.term ∙ first.term;
    audit = second.audit ∙ (ap (λ (e : Option (List Entry)). with_entries e (entries_of two)) first.audit
        ∙ (added_twice was.entries (entries_of one) (entries_of two)
        ∙ ap (λ (l : List Entry). with_entries was.entries l) (sym (map-append (λ (e : Entered). e.entry) one two))));
    runs = λ at stands.
        let a = first.runs at stands in
        let b = second.runs a.later a.stands in
        record {
          later = b.later;
          stands = b.stands;
          leads = leads_join now.numbers.set slot one two at a.later b.later
              (subst (λ (s : SetPlan). LeadsTo s slot one at a.later) (sym second.set) a.leads) b.leads;
        };
  }

  -- a section
  pub went_turn : (was now : SlotSeen D) (note : Option Note) (shown : Shown) (claim later : Claim) (disks_old disks_new : List DriveView)
      → TurnMoves ghosts was now note shown claim later disks_old disks_new
      → WentOn ghosts.tells ghosts.files was.numbers.index was now (entered_by (entry_in note) shown)
  went_turn was now note shown claim later disks_old disks_new x = record {
    set = x.numbers.set;
    term = x.numbers.term;
    audit = by_entry (entry_in note) shown was.entries now.entries x.audit;
    runs = λ at stands.
        let leaves = x.leaves at.records at.state stands in
        let left : Standing = record { records = leaves.records_after; state = leaves.state_after } in
        record {
          later = left;
          stands = leaves.stands;
          leads = subst (λ (s : SetPlan). LeadsTo s was.numbers.index (entered_by (entry_in note) shown) at left) (sym x.numbers.set)
              (leaves_lead ghosts was now note shown claim later disks_old disks_new at leaves);
        };
  }
