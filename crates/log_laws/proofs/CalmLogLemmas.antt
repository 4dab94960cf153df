-- In the log of a call a look at a register that the entries before it left calm is answered where enough lanes serve.
use Rattle.std.proofs.Common.{◌≡◌, ◌≢◌, ◌<◌, ◌≤◌, ◌∙◌, ℕ, zero, suc, List, [], ◌∷◌, Some, Contains, append-nil, get_or, length, sym, subst, refl, arith}
use Rattle.std.proofs.lemmas.List.{get_or_default}
use Rattle.std.specs.Prelude.{take}
use Rattle.desk_base.specs.Telling.{Effect}
use Rattle.drive_base.specs.DriveSet.{count_in}
use Rattle.drive_base.specs.Plan.{data_drives, write_drives}
use Rattle.drive_base.specs.View.{views}
use Rattle.drive_base.specs.declared.drive.Drive.{Ghosts}
use Rattle.drive_base.specs.declared.plan.SetPlan.{SetPlan}
use Rattle.register_core.specs.declared.faults.QuorumFault.{QuorumFault}
use Rattle.register_core.specs.declared.faults.QuorumFault.TheVariants.{NoMemory}
use Rattle.slot_rules.specs.Rules.{IsRegisterName}
use Rattle.slot_core.specs.Calm.{IsCalmUnder}
use Rattle.slot_core.specs.declared.slot.SlotFault.TheVariants.{Quorum}
use Rattle.receipts.specs.Events.{Event, Log, Note, Shown}
use Rattle.receipts.specs.Events.Event.{Turned}
use Rattle.log_laws.specs.CalmRegisters.{CalmReadsGoOn}
use Rattle.log_laws.specs.Laws.{RanKeepsHistory}
use Rattle.op_steps.specs.Leading.{Entered, IsCalmBy, LeadsTo, Standing, entered_at, entered_in}
use Rattle.op_steps.specs.Notes.{refusal_by}
use Rattle.log_laws.specs.Requests.{ServesAt, StepServes}
use Rattle.op_steps.specs.Serving.{DrivesServe, HasLooked, IsNameOf}
use Rattle.op_steps.specs.Steps.{IsSlotAt, Ran, StepMoves}
use Rattle.op_steps.specs.Store.{AreInOrder, LanesStand, SlotSeen, Store}
use Rattle.op_steps.proofs.LeadingLemmas.{calm_joined, calm_so}
use Rattle.op_steps.proofs.SlotLemmas.{order_set}

-- a slot of a list stands at its place
slot_there : {D : Type 0} (slots : List (SlotSeen D)) (k : ℕ) (d : SlotSeen D) → k < length slots → IsSlotAt slots k (get_or slots k d)
slot_there slots k d inside = (inside, λ other. get_or_default slots k other d inside)

-- how many lanes must take a write
abbrev needed : SetPlan → ℕ
needed set = write_drives set.drives set.parity

module _ {D T : Type 0} (ghosts : Ghosts D) (takes breaks : Effect T) (history : RanKeepsHistory ghosts takes breaks) (set : SetPlan) (lanes k : ℕ) (note : Note)
    (shown : Shown) (name : List ℕ) (named : IsRegisterName name) (looked : HasLooked note.entry name)
    (enough : data_drives set.drives set.parity ≤ count_in lanes set.drives) (fault : QuorumFault) (other : fault ≢ NoMemory)
    (refused : note.refusal ≡ refusal_by (Quorum fault)) where
  -- the section itself
  section_not : (old mid : Store D T) (was : SlotSeen D) (at : Standing) → AreInOrder set old.slots old.disks → IsSlotAt old.slots k was
      → LanesStand ghosts.tells ghosts.files was at.records at.state → (x : StepMoves ghosts takes breaks set (Turned k (Some note) shown) old mid)
      → StepServes ghosts takes breaks set lanes 0 (Turned k (Some note) shown) old mid x → IsCalmUnder (needed set) at.records at.state name → ⊥
  section_not old mid was at order is stands x serve calm =
      let set_is : x.was.numbers.set ≡ set = order_set set old.slots old.disks k x.was order x.is in
      let same : was ≡ x.was = sym (is.1 was) ∙ x.is.1 was in
      x.moves.complete.calm at.records at.state name lanes fault
      (subst (λ (s : SlotSeen D). LanesStand ghosts.tells ghosts.files s at.records at.state) same stands) named
      (subst (λ (s : SetPlan). IsCalmUnder (needed s) at.records at.state name) (sym set_is) calm) looked
      (subst (λ (s : SetPlan). DrivesServe (IsNameOf note.entry) s.out lanes (views ghosts x.was.lanes) (views ghosts x.now.lanes)) (sym set_is) serve.0)
      (subst (λ (s : SetPlan). data_drives s.drives s.parity ≤ count_in lanes s.drives) (sym set_is) enough) other refused

  log_not : (log : Log) (old new : Store D T) (was : SlotSeen D) (at : Standing) → AreInOrder set old.slots old.disks → IsSlotAt old.slots k was
      → LanesStand ghosts.tells ghosts.files was at.records at.state → (ran : Ran ghosts takes breaks set log old new)
      → (there : Contains log (Turned k (Some note) shown)) → ServesAt ghosts takes breaks set lanes 0 log old new ran there.0
      → IsCalmBy (entered_at k (take there.0 log)) name (IsCalmUnder (needed set) at.records at.state name) → ⊥
  log_not [] old new was at order is stands ran (j, inside, e) serve calm = absurd (omega (arith, inside))
  log_not (event ∷ log) old new was at order is stands (mid, step, ran) (zero, inside, e) serve calm =
      let here = subst (λ (v : Event). (s : StepMoves ghosts takes breaks set v old mid) × StepServes ghosts takes breaks set lanes 0 v old mid s) e
      (step, serve) in
      section_not old mid was at order is stands here.0 here.1 calm
  log_not (event ∷ log) old new was at order is stands (mid, step, ran) (suc j, inside, e) serve calm =
      let one = history set (event ∷ []) old mid order (mid, step, refl) in
      let now : SlotSeen D = get_or mid.slots k was in
      let there : IsSlotAt mid.slots k now = slot_there mid.slots k was (let count = one.0.count in let low = is.0 in let had = order.count in omega (arith, count, low, had)) in
      let went = one.1 k was now is there in
      let set_is : now.numbers.set ≡ set = order_set set mid.slots mid.disks k now one.0 there in
      let runs = went.runs at stands in
      let before : Type 0 = IsCalmUnder (needed set) at.records at.state name in
      let after : Type 0 = IsCalmUnder (needed set) runs.later.records runs.later.state name in
      let run : List Entered = entered_in k event in
      let leads = subst (λ (s : SetPlan). LeadsTo s k (entered_at k (event ∷ [])) at runs.later) set_is runs.leads in
      let calmed = λ (so : IsCalmBy run name before). leads.calm name (subst (λ (l : List Entered). IsCalmBy l name before) (sym (append-nil run)) so) in
      log_not log mid new now runs.later one.0 there runs.stands ran (j, omega (arith, inside), e) serve
      (calm_so (entered_at k (take j log)) name (IsCalmBy run name before) after calmed (calm_joined run (entered_at k (take j log)) name before calm))

module _ {D T : Type 0} (ghosts : Ghosts D) (takes breaks : Effect T) where
  pub calm_reads : RanKeepsHistory ghosts takes breaks → CalmReadsGoOn ghosts takes breaks
  calm_reads history set log old new k was at lanes note shown name fault order is stands ran there serve named looked calm enough other refused =
      log_not ghosts takes breaks history set lanes k note shown name named looked enough fault other refused log old new was at order is stands ran there serve calm
