-- The turns of a log of steps among others, slot by slot.
use Rattle.std.proofs.Common.{◌≡◌, ◌<◌, false, ◌+◌, ◌∙◌, ◌++◌, ℕ, List, [], ◌∷◌, Option, None, get_or, inl, inr, length, set, append-nil, append_assoc, ap, refl, subst, subst₂, sym, arith}
use Rattle.std.proofs.Math.Decide.{ℕ_discrete}
use Rattle.std.proofs.Math.Logic.{dite}
use Rattle.std.proofs.lemmas.List.{get_or-map, get_or-set_other, get_or-set_same, length-map, length-set}
use Rattle.audit_trail.specs.declared.entry.Entry.{Entry}
use Rattle.desk_base.specs.Telling.{Effect}
use Rattle.drive_base.specs.declared.drive.Drive.{Ghosts}
use Rattle.drive_base.specs.declared.plan.SetPlan.{SetPlan}
use Rattle.receipts.specs.Events.{Log}
use Rattle.receipts.specs.Events.Event.{BarredFrom, Called, Fed, Told, Turned}
use Rattle.receipts.specs.declared.barred.Barred.{Barred}
use Rattle.receipts.specs.declared.barred.Barred.TheVariants as barred
use Rattle.op_steps.specs.Claims.{no_claim}
use Rattle.op_steps.specs.Store.{any_effect}
use Rattle.store_shared.specs.Among.{PassSeen, Reach, seen_in}
use Rattle.store_shared.specs.AmongSteps.{PassBarred, RanAmong}
use Rattle.store_shared.specs.Answers.{any_teller}
use Rattle.store_shared.specs.SharedLaws.{HasTurns, SharedAnswersHaveTurns, TurnsRise}
use Rattle.store_shared.specs.SharedPasses.{passes_in, reach_at, set_held, shared_holds}
use Rattle.store_shared.specs.Turned.{name_of}

module _ {D A : Type 0} (ghosts : Ghosts D) (entries : A → Option (List Entry)) (count : A → ℕ) (plan : SetPlan) (k : ℕ) where
  -- a pass that was only refused has made no turn
  turns_stay : (why : Barred) (log : Log) (was mid now : PassSeen D A) → PassBarred why was mid → HasTurns ghosts entries count plan k log mid now → HasTurns ghosts entries count plan k log was now
  turns_stay barred.Spent log was mid now bars x = record {
    turns = x.turns;
    has = x.has ∙ ap (λ (p : PassSeen D A). p.turns ++ x.turns) bars;
    rise = subst (λ (p : PassSeen D A). TurnsRise p.seen x.turns now.seen) bars x.rise;
    of_log = x.of_log;
  }
  turns_stay barred.NoMemory log was mid now bars x = subst (λ p. HasTurns ghosts entries count plan k log p now) bars x

module _ {D A T : Type 0} (ghosts : Ghosts D) (entries : A → Option (List Entry)) (count : A → ℕ) (takes breaks : Effect T) (plan : SetPlan) (k : ℕ) (d : PassSeen D A) where
  pub turns_rise : (log : Log) (old new : Reach D A T) → RanAmong ghosts entries count takes breaks plan log old new → k < length old.slots
      → HasTurns ghosts entries count plan k log (get_or old.slots k d) (get_or new.slots k d)
  turns_rise [] old new ran inside =
      subst (λ (r : Reach D A T). HasTurns ghosts entries count plan k [] (get_or old.slots k d) (get_or r.slots k d)) (sym ran)
      (record { turns = []; has = sym (append-nil (get_or old.slots k d).turns); rise = refl; of_log = refl })
  turns_rise (Turned slot made shown ∷ log) old new (mid, step, ran) inside =
      let passes = ap (λ (r : Reach D A T). r.slots) step.leaves in
      let now : PassSeen D A = record { turns = step.was.turns ++ step.turn ∷ []; seen = step.turn.ticket + 1; spent = false } in
      let long = ap length passes ∙ length-set old.slots slot now in
      let rest = turns_rise log mid new ran (omega (arith, long, inside)) in
      dite (ℕ_discrete slot k)
      (λ same.
      let was : get_or old.slots k d ≡ step.was = ap (λ n. get_or old.slots n d) (sym same) ∙ step.is.1 d in
      let mid_is : get_or mid.slots k d ≡ now = ap (λ p. get_or p k d) passes
      ∙ (ap (λ n. get_or (set old.slots n now) k d) same ∙ get_or-set_same old.slots k now d inside) in
      let later = subst (λ p. HasTurns ghosts entries count plan k log p (get_or new.slots k d)) mid_is rest in
      subst (λ p. HasTurns ghosts entries count plan k (Turned slot made shown ∷ log) p (get_or new.slots k d)) (sym was)
      (record {
        turns = step.turn ∷ later.turns;
        has = later.has ∙ append_assoc step.was.turns (step.turn ∷ []) later.turns;
        rise = (step.comes.later, later.rise);
        of_log = inr (
          same,
          step.turn,
          later.turns,
          refl,
          record {
            slot = subst (λ n. name_of step.turn.from ≡ record { set = plan; index = n }) same step.comes.slot;
            ticket = step.comes.ticket;
            noted = step.moves.note_is;
            did = record { claim = old.claim; later = mid.claim; disks = old.disks; disks_after = step.disks; moves = step.moves };
          },
          later.of_log,
        );
      }))
      (λ other.
      let mid_is : get_or mid.slots k d ≡ get_or old.slots k d = ap (λ p. get_or p k d) passes
      ∙ get_or-set_other old.slots slot k now d (λ e. other (sym e)) in
      let later = subst (λ p. HasTurns ghosts entries count plan k log p (get_or new.slots k d)) mid_is rest in
      record { turns = later.turns; has = later.has; rise = later.rise; of_log = inl (other, later.of_log) })
  turns_rise (BarredFrom slot why ∷ log) old new (mid, step, ran) inside =
      let passes = ap (λ (r : Reach D A T). r.slots) step.leaves in
      let long = ap length passes ∙ length-set old.slots slot step.now in
      let rest = turns_rise log mid new ran (omega (arith, long, inside)) in
      let on = dite (ℕ_discrete slot k)
      (λ same.
      let was : get_or old.slots k d ≡ step.was = ap (λ n. get_or old.slots n d) (sym same) ∙ step.is.1 d in
      let mid_is : get_or mid.slots k d ≡ step.now = ap (λ p. get_or p k d) passes
      ∙ (ap (λ n. get_or (set old.slots n step.now) k d) same ∙ get_or-set_same old.slots k step.now d inside) in
      subst (λ p. HasTurns ghosts entries count plan k log p (get_or new.slots k d)) (sym was)
      (turns_stay ghosts entries count plan k why log step.was step.now (get_or new.slots k d) step.bars
      (subst (λ p. HasTurns ghosts entries count plan k log p (get_or new.slots k d)) mid_is rest)))
      (λ other.
      let mid_is : get_or mid.slots k d ≡ get_or old.slots k d = ap (λ p. get_or p k d) passes
      ∙ get_or-set_other old.slots slot k step.now d (λ e. other (sym e)) in
      subst (λ p. HasTurns ghosts entries count plan k log p (get_or new.slots k d)) mid_is rest) in
      record { turns = on.turns; has = on.has; rise = on.rise; of_log = on.of_log }
  turns_rise (Called drive made ∷ log) old new (mid, step, ran) inside =
      let on = subst (λ p. HasTurns ghosts entries count plan k log (get_or p k d) (get_or new.slots k d)) (ap (λ (r : Reach D A T). r.slots) step.leaves)
      (turns_rise log mid new ran (subst (λ (r : Reach D A T). k < length r.slots) (sym step.leaves) inside)) in
      record { turns = on.turns; has = on.has; rise = on.rise; of_log = on.of_log }
  turns_rise (Fed bytes cut ∷ log) old new (mid, step, ran) inside =
      let on = subst (λ p. HasTurns ghosts entries count plan k log (get_or p k d) (get_or new.slots k d)) (ap (λ (r : Reach D A T). r.slots) step.leaves)
      (turns_rise log mid new ran (subst (λ (r : Reach D A T). k < length r.slots) (sym step.leaves) inside)) in
      record { turns = on.turns; has = on.has; rise = on.rise; of_log = on.of_log }
  turns_rise (Told telling cut ∷ log) old new (mid, step, ran) inside =
      let on = subst (λ p. HasTurns ghosts entries count plan k log (get_or p k d) (get_or new.slots k d)) (ap (λ (r : Reach D A T). r.slots) step.leaves)
      (turns_rise log mid new ran (subst (λ (r : Reach D A T). k < length r.slots) (sym step.leaves) inside)) in
      record { turns = on.turns; has = on.has; rise = on.rise; of_log = on.of_log }

module _ {D A : Type 0} (ghosts : Ghosts D) (entries : A → Option (List Entry)) (count : A → ℕ) where
  -- in each slot the pass of a call has its turns
  pub answers_have_turns : SharedAnswersHaveTurns ghosts entries count
  answers_have_turns task before after body tale result answers k below =
      let was = passes_in before in
      let now = passes_in after in
      let count_was = before.count in
      let count_now = after.count in
      let d = seen_in {D = D} {A = A} None in
      subst₂ (λ p q. HasTurns ghosts entries count (set_held (shared_holds before)) k answers.log p q)
      (get_or-map seen_in was k None d (omega (arith, count_was, below))) (get_or-map seen_in now k None d (omega (arith, count_now, below)))
      (turns_rise ghosts entries count any_effect any_effect (set_held (shared_holds before)) k d answers.log
      (reach_at ghosts before answers.feed (any_teller answers.faults) (no_claim answers.slot))
      (reach_at ghosts after answers.feed_after (any_teller answers.faults_after) answers.left) answers.ran
      (let long = length-map was seen_in in omega (arith, long, count_was, below)))
