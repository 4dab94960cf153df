-- The events of a log took place, with their causes.
use Rattle.std.proofs.Common.{Some, zero, suc, [], ◌∷◌, MatchOption, ap, refl, subst, arith}
use Rattle.desk_base.specs.Telling.{Effect}
use Rattle.drive_base.specs.View.{view_at}
use Rattle.drive_base.specs.declared.drive.Drive.{Ghosts}
use Rattle.file_access.proofs.SightLemmas.{calls_tell_what_was_so}
use Rattle.receipts.specs.Events.{Event}
use Rattle.receipts.specs.Events.Event.{BarredFrom, Called, Turned}
use Rattle.op_steps.specs.Causes.{RefusalCause}
use Rattle.log_laws.specs.Refusing.{BarsHaveCauses, CallsWereMade, CallsWereSo, EventsTookPlace, RefusalsHaveCauses}
use Rattle.op_steps.specs.Steps.{StepMoves}

module _ {D T : Type 0} (ghosts : Ghosts D) (takes breaks : Effect T) where
  pub events_took_place : EventsTookPlace ghosts takes breaks
  events_took_place set [] old new event ran (j, inside, e) = absurd (omega (arith, inside))
  events_took_place set (first ∷ log) old new event (mid, moves, ran) (zero, inside, e) = record {
    front = [];
    rest = log;
    parts = ap (λ v. v ∷ log) e;
    before = old;
    after = mid;
    led = refl;
    step = subst (λ (v : Event). StepMoves ghosts takes breaks set v old mid) e moves;
    leads_on = ran;
  }
  events_took_place set (first ∷ log) old new event (mid, moves, ran) (suc j, inside, e) =
      let x = events_took_place set log mid new event ran (j, omega (arith, inside), e) in
      record {
        front = first ∷ x.front;
        rest = x.rest;
        parts = ap (λ l. first ∷ l) x.parts;
        before = x.before;
        after = x.after;
        led = (mid, moves, x.led);
        step = x.step;
        leads_on = x.leads_on;
      }

  pub refusals_have : RefusalsHaveCauses ghosts takes breaks
  refusals_have set log old new k note shown why ran there refused =
      let x = events_took_place set log old new (Turned k (Some note) shown) ran there in (
        x,
        subst (λ r. MatchOption r (Unit {0}) (λ w. RefusalCause ghosts w note.entry x.step.was x.step.now x.before.claim x.before.disks x.step.disks)) refused
            x.step.moves.cause,
      )

  pub bars_have : BarsHaveCauses ghosts takes breaks
  bars_have set log old new k why ran there =
      let x = events_took_place set log old new (BarredFrom k why) ran there in (x, x.step.cause)

  pub calls_were_made : CallsWereMade ghosts takes breaks
  calls_were_made set log old new k made ran there =
      let x = events_took_place set log old new (Called k made) ran there in (x, x.step.moves.was_made, x.step.moves.may)

  pub calls_were_so : CallsWereSo ghosts takes breaks
  calls_were_so set log old new k seen ran saw =
      let x = calls_were_made set log old new k saw.made ran saw.called in (
        x.0,
        calls_tell_what_was_so saw.made seen (view_at x.0.before.disks k) (view_at x.0.after.disks k) x.1 saw.tells,
      )
