-- Entries that run with what their sections showed run, and part at each section; and so slots are led over one log and then another.
use Rattle.std.proofs.Common.{ℕ, List, [], ◌∷◌, ◌++◌, sym, subst}
use Rattle.std.proofs.lemmas.Grind.{flat_map-append}
use Rattle.drive_base.specs.declared.plan.SetPlan.{SetPlan}
use Rattle.receipts.specs.Events.{Log}
use Rattle.log_laws.specs.Laws.{AllLead}
use Rattle.op_steps.specs.Leading.{Entered, LeadsTo, Standing, entered_at, entered_in}
use Rattle.log_laws.specs.Showing.{ShowingParts, ShowingRuns}
use Rattle.op_steps.proofs.LeadingLemmas.{leads_join}

-- a run parts at each of its sections
pub showing_parts : ShowingParts
showing_parts slot [] e second old new runs = runs
showing_parts slot (x ∷ first) e second old new (before, after, lates, moves, shows, rest) =
    let part = showing_parts slot first e second after new rest in
    (part.0, part.1, (before, after, lates, moves, shows, part.2), part.3, part.4, part.5)

-- the entries of a run, alone, run
pub showing_runs : ShowingRuns
showing_runs slot [] old new lates = lates
showing_runs slot (e ∷ run) old new (before, after, lates, moves, shows, rest) = (before, after, lates, moves, showing_runs slot run after new rest)

-- each slot is led over one log and then another
pub all_lead_join : (set : SetPlan) (one two : Log) (at mid later : ℕ → Standing) → AllLead set one at mid → AllLead set two mid later → AllLead set (one ++ two) at later
all_lead_join set one two at mid later first second slot =
    subst (λ (run : List Entered). LeadsTo set slot run (at slot) (later slot)) (sym (flat_map-append (entered_in slot) one two))
    (leads_join set slot (entered_at slot one) (entered_at slot two) (at slot) (mid slot) (later slot) (first slot) (second slot))
