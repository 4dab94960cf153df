-- In a log no section is refused for a fault of a quorum where enough lanes and data drives serve in it.
use Rattle.std.proofs.Common.{◌≡◌, ◌∙◌, ◌<◌, ℕ, zero, suc, List, [], ◌∷◌, Option, Some, Contains, cond, filter, ap, sym, subst, inl, inr, refl, arith}
use Rattle.std.specs.Prelude.{Bool}
use Rattle.std.proofs.lemmas.Bool.Decides.{eqb_tells}
use Rattle.std.proofs.lemmas.List.{get_or_default}
use Rattle.std.proofs.lemmas.List.Elements.{Contains-append_right, filter-append}
use Rattle.audit_trail.specs.declared.entry.Entry.{Entry}
use Rattle.desk_base.specs.Telling.{Effect}
use Rattle.drive_base.specs.View.{views}
use Rattle.drive_base.specs.declared.drive.Drive.{Ghosts}
use Rattle.drive_base.specs.declared.plan.SetPlan.{SetPlan}
use Rattle.vote_core.specs.Lane.{Lane, blank_lane}
use Rattle.register_core.specs.declared.faults.QuorumFault.{QuorumFault}
use Rattle.register_core.specs.declared.faults.QuorumFault.TheVariants.{NoMemory, ReadQuorum, Undecided, WriteQuorum}
use Rattle.slot_data.specs.Disks.{Disks}
use Rattle.slot_core.specs.declared.slot.SlotFault.TheVariants.{Quorum}
use Rattle.slot_core.proofs.SettlingLemmas.{name_held}
use Rattle.receipts.specs.Events.{Event, Log, Note, Shown}
use Rattle.receipts.specs.Events.Event.{Turned}
use Rattle.op_steps.specs.Claims.{Claim, among, claims_at, is_at}
use Rattle.log_laws.specs.Laws.{AllHold, EachStepKeepsData, HoldsAfter, RanKeepsHistory}
use Rattle.op_steps.specs.Leading.{Standing}
use Rattle.op_steps.specs.Notes.{refusal_by}
use Rattle.log_laws.specs.Requests.{HasAllLanes, ServesAt, StepServes}
use Rattle.op_steps.specs.Serving.{AreEnough, DrivesServe, IsManifestName, IsMarkedOn, IsNameOf}
use Rattle.op_steps.specs.Steps.{Ran, StepMoves}
use Rattle.op_steps.specs.Store.{AreInOrder, Store}
use Rattle.op_steps.proofs.SlotLemmas.{order_set}

-- a claim of a slot is among those of the slot
pub own_there : (index : ℕ) (front : List Claim) (claim : Claim) (rest : List Claim) → claim.slot ≡ index → Contains (claims_at index (among front claim rest)) claim
own_there index front claim rest at = subst (λ (l : List Claim). Contains l claim) (sym (filter-append (is_at index) front (claim ∷ rest)))
    (Contains-append_right (filter (is_at index) front) (filter (is_at index) (claim ∷ rest)) claim (elim (eqb_tells claim.slot index) [
      | inl own ↦ subst (λ (b : Bool). Contains (cond b (claim ∷ filter (is_at index) rest) (filter (is_at index) rest)) claim) (sym own.0) (zero, omega arith, refl)
      | inr other ↦ absurd (other.1 at)
    ]))

module _ {D T : Type 0} (ghosts : Ghosts D) (takes breaks : Effect T) (step_law : EachStepKeepsData ghosts takes breaks)
    (history : RanKeepsHistory ghosts takes breaks) (set : SetPlan) (unseen : Disks) (lanes disks : ℕ) where
  module _ (k : ℕ) (note : Note) (shown : Shown) (old mid : Store D T) (front rest : List Claim) (at : ℕ → Standing) (order : AreInOrder set old.slots old.disks)
      (held : AllHold ghosts.tells ghosts.files unseen old front rest at) (x : StepMoves ghosts takes breaks set (Turned k (Some note) shown) old mid) where
    set_is : x.was.numbers.set ≡ set
    set_is = order_set set old.slots old.disks k x.was order x.is

    holds : HoldsAfter ghosts.tells ghosts.files unseen old front rest (at k) x.was
    holds = held k x.was x.is

    -- where all lanes serve the value is marked on one of them
    marked : (entry : Option Entry) → HasAllLanes set lanes entry → IsMarkedOn lanes (at k).records (at k).state entry
    marked Option.None has = has
    marked (Some made) has =
        let register = (at k).records made.name in
        let value = (holds.stands.stands.under made.name (name_held (at k).state.registers made.name has.0)).holds.sound.value in
        let counted = (holds.stands.stands.lawful_under made.name).counted in
        let there = value.top.there in
        let plan = ap (λ (s : SetPlan). s.drives) set_is in
        let inside = there.1 in (
          name_held (at k).state.registers made.name has.0,
          (
            there.0,
            inside,
            has.1 there.0 (omega (arith, inside, counted, plan)),
            ap (λ (a : Lane). a.base.change) (get_or_default register there.0 blank_lane value.lane inside ∙ there.2) ∙ value.carries,
          ),
        )

    enough_by : (fault : QuorumFault) → AreEnough ghosts set lanes disks (HasAllLanes set lanes note.entry) fault
        → AreEnough ghosts x.was.numbers.set lanes disks (IsMarkedOn lanes (at k).records (at k).state note.entry) fault
    enough_by (ReadQuorum whys) enough = subst (λ (s : SetPlan). AreEnough ghosts s lanes disks ⊥ (ReadQuorum whys)) (sym set_is) enough
    enough_by (WriteQuorum whys) enough = subst (λ (s : SetPlan). AreEnough ghosts s lanes disks ⊥ (WriteQuorum whys)) (sym set_is) enough
    enough_by (Undecided j u whys) enough =
        (marked note.entry enough.0, (subst (λ (s : SetPlan). AreEnough ghosts s lanes disks (Unit {0}) (Undecided j u whys)) (sym set_is) (tt, enough.1)).1)
    enough_by NoMemory enough = enough

    section_not : (fault : QuorumFault) → StepServes ghosts takes breaks set lanes disks (Turned k (Some note) shown) old mid x
        → AreEnough ghosts set lanes disks (HasAllLanes set lanes note.entry) fault → note.refusal ≡ refusal_by (Quorum fault) → ⊥
    section_not fault serve enough refused = x.moves.complete.enough (at k).records (at k).state unseen
        (among front old.claim rest) lanes disks fault holds.stands holds.holds
        (subst (λ (s : SetPlan). DrivesServe (IsNameOf note.entry) s.out lanes (views ghosts x.was.lanes) (views ghosts x.now.lanes)) (sym set_is) serve.0)
        (subst (λ (s : SetPlan). DrivesServe IsManifestName s.out disks old.disks x.disks) (sym set_is) serve.1)
        (enough_by fault enough) refused

  pub log_not : (log : Log) (old new : Store D T) (front rest : List Claim) (at : ℕ → Standing) (k : ℕ) (note : Note) (shown : Shown) (fault : QuorumFault)
      → AreInOrder set old.slots old.disks → old.claim.slot < 64 → AllHold ghosts.tells ghosts.files unseen old front rest at
      → (ran : Ran ghosts takes breaks set log old new) → (there : Contains log (Turned k (Some note) shown))
      → ServesAt ghosts takes breaks set lanes disks log old new ran there.0
      → AreEnough ghosts set lanes disks (HasAllLanes set lanes note.entry) fault → note.refusal ≡ refusal_by (Quorum fault) → ⊥
  log_not [] old new front rest at k note shown fault order low held ran (j, inside, e) serve enough refused = absurd (omega (arith, inside))
  log_not (event ∷ log) old new front rest at k note shown fault order low held (mid, step, ran) (zero, inside, e) serve enough refused =
      let here = subst (λ (v : Event). (s : StepMoves ghosts takes breaks set v old mid) × StepServes ghosts takes breaks set lanes disks v old mid s) e (step, serve) in
      section_not k note shown old mid front rest at order held here.0 fault here.1 enough refused
  log_not (event ∷ log) old new front rest at k note shown fault order low held (mid, step, ran) (suc j, inside, e) serve enough refused =
      let first = step_law set event old mid unseen front rest at order low step held in
      let ordered = (history set (event ∷ []) old mid order (mid, step, refl)).0 in
      log_not log mid new front rest first.1.later k note shown fault ordered (subst (λ (n : ℕ). n < 64) (sym first.0) low) first.1.holds ran
      (j, omega (arith, inside), e) serve enough refused
