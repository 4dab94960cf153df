-- Entries run with what their sections showed, those of one log after those of another; and so slots are led by them.
use Rattle.std.proofs.Common.{◌∙◌, ℕ, List, [], ◌∷◌, ◌++◌, Option, Some, None, inl, inr, refl}
use Rattle.audit_trail.specs.declared.entry.Deed.{Deed}
use Rattle.audit_trail.specs.declared.entry.Entry.{Entry}
use Rattle.drive_base.specs.Plan.{write_drives}
use Rattle.drive_base.specs.View.{DriveView}
use Rattle.drive_base.specs.declared.drive.Drive.{Ghosts}
use Rattle.drive_base.specs.declared.plan.SetPlan.{SetPlan}
use Rattle.slot_history.specs.Sections.{OwnStep}
use Rattle.slot_history.specs.Standing.{Records}
use Rattle.slot_history.specs.State.{State}
use Rattle.slot_history.specs.Waiting.{Lates}
use Rattle.slot_history.proofs.RunLemmas.{runs_join}
use Rattle.slot_core.specs.Calm.{IsCalmUnder, SectionCalms}
use Rattle.slot_core.specs.Turns.{EntryMoves}
use Rattle.slot_core.specs.Views.{quorum_of}
use Rattle.slot_core.proofs.CalmingLemmas.{calm_by_entry}
use Rattle.receipts.specs.Events.{Note, Shown}
use Rattle.op_steps.specs.Claims.{Claim}
use Rattle.op_steps.specs.Leading.{Entered, IsCalmAfter, IsCalmBy, LeadsTo, RunsShowing, Standing, entered_by}
use Rattle.op_steps.specs.Moves.{ShowsBy, TurnLeaves}
use Rattle.op_steps.specs.Notes.{entry_in}
use Rattle.op_steps.specs.Store.{SlotSeen}

-- late steps join
lates_join : (slot : ℕ) (old mid new : State) → Lates old mid → Lates mid new → Lates old new
lates_join slot old mid new first second = runs_join slot [] [] old mid new first second

-- late steps before a run are part of it
lates_first : (slot : ℕ) (run : List Entered) (old mid new : State) → Lates old mid → RunsShowing slot run mid new → RunsShowing slot run old new
lates_first slot [] old mid new first runs = lates_join slot old mid new first runs
lates_first slot (e ∷ run) old mid new first (before, after, lates, moves, shows, rest) =
    (before, after, lates_join slot old mid before first lates, moves, shows, rest)

-- runs join
pub showing_joins : (slot : ℕ) (first second : List Entered) (old mid new : State) → RunsShowing slot first old mid → RunsShowing slot second mid new
    → RunsShowing slot (first ++ second) old new
showing_joins slot [] second old mid new first runs = lates_first slot second old mid new first runs
showing_joins slot (e ∷ run) second old mid new (before, after, lates, moves, shows, rest) runs =
    (before, after, lates, moves, shows, showing_joins slot run second after mid new rest runs)

-- a refused change that took effect is a late step after its deed
own_lates : (deed : Deed) (after new : State) → OwnStep deed after new → Lates after new
own_lates deed after new (inl stays) = ([], stays)
own_lates deed after new (inr own) = (own.0 ∷ [], (new, own.2, refl))

-- what the entry of a section moves runs by it, with what the section showed
entry_shows : (slot : ℕ) (entry : Option Entry) (shown : Shown) (records after : Records) (state moved : State)
    → EntryMoves slot entry (ShowsBy entry shown) records state after moved → RunsShowing slot (entered_by entry shown) state moved
entry_shows slot None shown records after state moved x = ([], x.1)
entry_shows slot (Some entry) shown records after state moved x =
    (x.0.before, x.0.after, (x.0.lates, x.0.late_steps), x.0.moves, x.1, own_lates entry.deed x.0.after moved x.0.own)

-- what some entries and then others leave calm
pub calm_joined : (one two : List Entered) (name : List ℕ) (calm : Type 0) → IsCalmBy (one ++ two) name calm → IsCalmBy two name (IsCalmBy one name calm)
calm_joined [] two name calm is = is
calm_joined (e ∷ one) two name calm is = calm_joined one two name (IsCalmAfter e.entry name calm) is

-- they leave it so whatever made it calm at first
pub calm_so : (run : List Entered) (name : List ℕ) (calm other : Type 0) → (calm → other) → IsCalmBy run name calm → IsCalmBy run name other
calm_so [] name calm other so is = so is
calm_so (e ∷ run) name calm other so is = calm_so run name (IsCalmAfter e.entry name calm) (IsCalmAfter e.entry name other)
    (λ after. elim after [ inl made ↦ inl made | inr stays ↦ inr (so stays.0, stays.1) ]) is

-- what one section leaves calm
entry_calm : (w : ℕ) (entry : Option Entry) (shown : Shown) (records : Records) (state : State) (after : Records) (now : State) (name : List ℕ)
    → SectionCalms w entry records state after now → IsCalmBy (entered_by entry shown) name (IsCalmUnder w records state name) → IsCalmUnder w after now name
entry_calm w None shown records state after now name left calm = calm_by_entry w None records state after now name left calm (λ begun. begun)
entry_calm w (Some told) shown records state after now name left calm = elim calm [
  | inl made ↦ left.made name made.0 made.1
  | inr stays ↦ calm_by_entry w (Some told) records state after now name left stays.0 stays.1
]

-- no entry leads a slot on
pub leads_stay : (set : SetPlan) (slot : ℕ) (at : Standing) → LeadsTo set slot [] at at
leads_stay set slot at = record { stay = λ name k out. refl; runs = ([], refl); calm = λ name calm. calm }

-- a slot is led by some entries and then by others
pub leads_join : (set : SetPlan) (slot : ℕ) (one two : List Entered) (was mid now : Standing) → LeadsTo set slot one was mid → LeadsTo set slot two mid now
    → LeadsTo set slot (one ++ two) was now
leads_join set slot one two was mid now first second = record {
  stay = λ name k out. second.stay name k out ∙ first.stay name k out;
  runs = showing_joins slot one two was.state mid.state now.state first.runs second.runs;
  calm = λ name calm. let w = write_drives set.drives set.parity in
      second.calm name (calm_so two name (IsCalmBy one name (IsCalmUnder w was.records was.state name)) (IsCalmUnder w mid.records mid.state name) (first.calm name)
      (calm_joined one two name (IsCalmUnder w was.records was.state name) calm));
}

module _ {D : Type 0} (ghosts : Ghosts D) where
  -- what a section leaves
  pub leaves_lead : (was now : SlotSeen D) (note : Option Note) (shown : Shown) (claim later : Claim) (disks_old disks_new : List DriveView) (at : Standing)
      → (x : TurnLeaves ghosts was now note shown claim later disks_old disks_new at.records at.state)
      → LeadsTo was.numbers.set was.numbers.index (entered_by (entry_in note) shown) at (record { records = x.records_after; state = x.state_after })
  leaves_lead was now note shown claim later disks_old disks_new at x = record {
    stay = x.stay;
    runs = entry_shows was.numbers.index (entry_in note) shown at.records x.records_after at.state x.state_after x.moves;
    calm = λ name calm. entry_calm (quorum_of was.numbers) (entry_in note) shown at.records at.state x.records_after x.state_after name x.calm calm;
  }
