-- A call of a stage, over a list of drives.
use Rattle.std.proofs.Common.{◌≡◌, ◌<◌, ℕ, List, [], ◌∷◌, ◌++◌, length, inl, inr, subst, arith}
use Rattle.drive_base.specs.Calls.{MadeCall}
use Rattle.drive_base.specs.View.{views}
use Rattle.drive_base.specs.declared.drive.Drive.{Ghosts}
use Rattle.drive_base.specs.declared.plan.SetPlan.{SetPlan}
use Rattle.put_stage.specs.Left.{calls_left}
use Rattle.receipts.specs.Events.{Log}
use Rattle.receipts.specs.Events.Event.{Called}
use Rattle.op_steps.specs.Claims.{Claim}
use Rattle.op_steps.specs.Moves.{CallMoves}
use Rattle.object_ops.specs.Put.{PutAsk}
use Rattle.object_ops.specs.PutStands.{Stages}
use Rattle.object_ops.specs.PutStageCalls.{StepsWork}
use Rattle.object_ops.specs.declared.put_state.Work.{Work}
use Rattle.object_ops.proofs.PutStep.{step_on}

pub steps_so : {D : Type 0} (ghosts : Ghosts D) (ask : PutAsk) (work later : Work) (old new : List D) → length old ≡ ask.set.drives → length new ≡ length old
    → StepsWork ghosts work later old new → (claim : Claim) (log : Log) → Stages ask work claim log
    → (next : Claim) × (k : ℕ) × (made : MadeCall) × Stages ask later next (log ++ Called k made ∷ []) × CallMoves ask.set k made claim next (views ghosts old) (views ghosts new)
steps_so ghosts ask work later [] new counted long steps claim log x = elim steps.once [
  | inl one ↦ let below = subst (λ (p : SetPlan). one.0 < p.drives) x.stage_of.set_is one.1.due.within in absurd (omega (arith, counted, below))
  | inr none ↦ let fewer = subst (λ s. calls_left s < calls_left work.stage) none.1 steps.fewer in absurd (omega (arith, fewer))
]
steps_so ghosts ask work later (o ∷ rest) new counted long steps claim log x = elim steps.once [
  | inl one ↦
      let got = step_on ghosts ask work later o (o ∷ rest) new counted long steps one.0 one.1 claim log x in
      (got.0, one.0, got.1, got.2, got.3)
  | inr none ↦ let fewer = subst (λ s. calls_left s < calls_left work.stage) none.1 steps.fewer in absurd (omega (arith, fewer))
]
