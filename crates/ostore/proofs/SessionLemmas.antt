-- A connection over the desk of a store is calls on that store, one after another.
use Rattle.std.proofs.Common.{◌≡◌, ◌<◌, ◌∙◌, ℕ, List, [], ◌∷◌, ◌++◌, Option, Result, length, refl, sym, subst, subst₂, arith}
use Rattle.audit_trail.specs.declared.entry.Entry.{Entry}
use Rattle.call_types.specs.declared.feed.Cut.{Cut}
use Rattle.desk_base.specs.Answering.{Task}
use Rattle.desk_base.specs.Telling.{Telling}
use Rattle.drive_base.specs.View.{DriveView, views}
use Rattle.drive_base.specs.declared.drive.Drive.{Ghosts}
use Rattle.drive_base.specs.declared.plan.SetPlan.{SetPlan}
use Rattle.receipts.specs.Events.{Log}
use Rattle.log_laws.specs.Calling.{CallsKeep, CallsRan}
use Rattle.op_steps.specs.Store.{AreInOrder, SlotSeen, slots_seen}
use Rattle.serve_loop.specs.Deeds.{Wires}
use Rattle.serve_loop.specs.Session.{Session}
use Rattle.serve_loop.specs.declared.ends.ConnectionEnd.{ConnectionEnd}
use Rattle.store_shared.specs.Answers.{PlainAnswers}
use Rattle.store_shared.specs.Laws.{AnswersAreCalls, PassesAreInOrder}
use Rattle.store_shared.specs.Passes.{disks_of, set_of, slots_of}
use Rattle.store_shared.specs.declared.pass.PlainPass.{PlainPass}
use Rattle.store_shared.specs.declared.op_desk.Receipt.{Receipt}
use Rattle.ostore.specs.Logs.{desk_answers, desk_log, pipe_logs}
use Rattle.ostore.proofs.LogLemmas.{leads_session}

-- a store in order is of one set
one_set : {D : Type 0} (one two : SetPlan) (slots : List (SlotSeen D)) (disks : List DriveView) → AreInOrder one slots disks → AreInOrder two slots disks
    → one ≡ two
one_set one two [] disks first second = absurd (let n = first.count in omega (arith, n))
one_set one two (slot ∷ slots) disks first second =
    let inside : 0 < length (slot ∷ slots) = (let n = first.count in omega (arith, n)) in
    sym (first.set_is 0 slot inside) ∙ second.set_is 0 slot inside

-- calls, and more calls behind them
ran_join : {D : Type 0} (ghosts : Ghosts D) (set : SetPlan) (one two : List Log) (slots : List (SlotSeen D)) (disks : List DriveView)
    (mid : List (SlotSeen D)) (mid_disks : List DriveView) (after : List (SlotSeen D)) (after_disks : List DriveView)
    → CallsRan ghosts set one slots disks mid mid_disks → CallsRan ghosts set two mid mid_disks after after_disks
    → CallsRan ghosts set (one ++ two) slots disks after after_disks
ran_join ghosts set [] two slots disks mid mid_disks after after_disks (same, drives) rest =
    subst₂ (λ s d. CallsRan ghosts set two s d after after_disks) same drives rest
ran_join ghosts set (log ∷ one) two slots disks mid mid_disks after after_disks (next, next_disks, call, more) rest =
    (next, next_disks, call, ran_join ghosts set one two next next_disks mid mid_disks after after_disks more rest)

module _ {D A : Type 0} (ghosts : Ghosts D) (entries : A → Option (List Entry)) (count : A → ℕ) where
  -- calls with these logs lead from one pass to another one, of the same set
  pub record Calls (logs : List Log) (old new : PlainPass D A) : Type 0 where
    pub set_is : set_of new ≡ set_of old
    pub ran : CallsRan ghosts (set_of old) logs (slots_seen entries count (slots_of old)) (views ghosts (disks_of old))
        (slots_seen entries count (slots_of new)) (views ghosts (disks_of new))

  -- none lead nowhere
  calls_stay : (pass : PlainPass D A) → Calls [] pass pass
  calls_stay pass = record { set_is = refl; ran = (refl, refl) }

  -- some, and more behind them
  calls_join : (one two : List Log) (old mid new : PlainPass D A) → Calls one old mid → Calls two mid new → Calls (one ++ two) old new
  calls_join one two old mid new first second = record {
    set_is = second.set_is ∙ first.set_is;
    ran = ran_join ghosts (set_of old) one two (slots_seen entries count (slots_of old)) (views ghosts (disks_of old)) (slots_seen entries count (slots_of mid))
        (views ghosts (disks_of mid)) (slots_seen entries count (slots_of new)) (views ghosts (disks_of new)) first.ran
        (subst (λ set. CallsRan ghosts set two (slots_seen entries count (slots_of mid)) (views ghosts (disks_of mid))
        (slots_seen entries count (slots_of new)) (views ghosts (disks_of new))) first.set_is second.ran);
  }

  -- whatever the desk answers is one call
  calls_one : ((set : SetPlan) → CallsKeep ghosts set) → PassesAreInOrder ghosts entries count → AnswersAreCalls ghosts entries count
      → (task : Task) (old new : PlainPass D A) (body : List ℕ) (tale : List Telling) (result : Result Receipt Cut)
      (did : PlainAnswers ghosts entries count task old new body tale result) → Calls (did.log ∷ []) old new
  calls_one keeps passes answers task old new body tale result did =
      let slots = slots_seen entries count (slots_of old) in
      let disks = views ghosts (disks_of old) in
      let slots_after = slots_seen entries count (slots_of new) in
      let disks_after = views ghosts (disks_of new) in
      let ran : CallsRan ghosts (set_of old) (did.log ∷ []) slots disks slots_after disks_after =
      (slots_after, disks_after, answers task old new body tale result did, (refl, refl)) in
      let kept = keeps (set_of old) (did.log ∷ []) slots disks slots_after disks_after (passes old) ran in
      record { set_is = one_set (set_of new) (set_of old) slots_after disks_after (passes new) kept.in_order; ran = ran }

  -- a whole connection
  pub calls_session : ((set : SetPlan) → CallsKeep ghosts set) → PassesAreInOrder ghosts entries count → AnswersAreCalls ghosts entries count
      → (clock : Option ℕ) (old new : PlainPass D A) (end : ConnectionEnd) (before after : Wires)
      (session : Session (desk_answers ghosts entries count) clock old new end before after)
      → Calls (pipe_logs ghosts entries count clock old new end before after session) old new
  calls_session keeps passes answers clock old new end before after session =
      leads_session (desk_answers ghosts entries count) (desk_log ghosts entries count) Calls calls_stay calls_join (calls_one keeps passes answers)
      clock old new end before after session
