-- What a call among others, served by its op, comes to.
use Rattle.std.proofs.Common.{◌≡◌, ◌<◌, ℕ, List, Option, ap, inl, refl, subst, arith}
use Rattle.std.specs.Prelude.{Result}
use Rattle.audit_trail.specs.declared.entry.Entry.{Entry}
use Rattle.call_types.specs.declared.feed.Cut.{Cut}
use Rattle.desk_base.specs.Answering.{CutCause, Serves, Task}
use Rattle.desk_base.specs.Calls.{IsFeedOf}
use Rattle.desk_base.specs.Telling.{Effect}
use Rattle.drive_base.specs.View.{DriveView, views}
use Rattle.drive_base.specs.declared.drive.Drive.{Ghosts}
use Rattle.drive_base.specs.declared.plan.SetPlan.{SetPlan}
use Rattle.receipts.specs.Events.{Log}
use Rattle.op_steps.specs.Claims.{Claim, no_claim}
use Rattle.op_steps.specs.Store.{FeedSeen, TellerSeen, any_effect, store_of}
use Rattle.op_steps.specs.declared.run.Served.{Served}
use Rattle.store_shared.specs.Among.{PassSeen, Reach, passes_seen}
use Rattle.store_shared.specs.AmongSteps.{IsBarredAmong, RanAmong, TurnsAmong}
use Rattle.store_shared.specs.Serving.{AnswersAlone, IsDone, IsReceiptOf, WasServed}
use Rattle.store_shared.specs.SharedAnswers.{SharedAnswers}
use Rattle.store_shared.specs.SharedPasses.{drives_of, passes_in, reach_at, set_held, shared_holds}
use Rattle.store_shared.specs.declared.op_desk.Receipt.{Receipt}
use Rattle.store_shared.specs.declared.shared.SharedPass.{SharedPass}
use Rattle.store_shared.proofs.ServeLemmas.{done_cause, done_serves, op_done}
use Rattle.store_shared.proofs.UnitLemmas.{ran_any, told_ran, unseen}
use Rattle.store_shared.proofs.WireLemmas.{WiresRan, wires, wires_of, wires_ran}

-- a log with some teller is one with a teller of which only the count of faults is seen
pub among_any : {D A T : Type 0} (ghosts : Ghosts D) (entries : A → Option (List Entry)) (count : A → ℕ) (takes breaks : Effect T) (set : SetPlan) (log : Log)
    (old new : Reach D A T) → RanAmong ghosts entries count takes breaks set log old new
    → RanAmong ghosts entries count any_effect any_effect set log (unseen old) (unseen new)
among_any ghosts entries count takes breaks set =
    ran_any takes breaks (λ U. TurnsAmong ghosts entries count set) (λ U. IsBarredAmong) set (λ k made shown old new x. record {
      was = x.was;
      is = x.is;
      turn = x.turn;
      comes = x.comes;
      disks = x.disks;
      moves = x.moves;
      leaves = ap unseen x.leaves;
    }) (λ k why old new x. record { was = x.was; now = x.now; is = x.is; bars = x.bars; leaves = ap unseen x.leaves })

-- and so it is of the set that the op's is
pub among_plan : {D A : Type 0} (ghosts : Ghosts D) (entries : A → Option (List Entry)) (count : A → ℕ) (plan set : SetPlan) → plan ≡ set
    → (log : Log) (old new : Reach D A (Unit {0})) → RanAmong ghosts entries count any_effect any_effect plan log old new
    → RanAmong ghosts entries count any_effect any_effect set log old new
among_plan ghosts entries count plan set same log old new ran = subst (λ p. RanAmong ghosts entries count any_effect any_effect p log old new) same ran

module _ {D A T : Type 0} (ghosts : Ghosts D) (entries : A → Option (List Entry)) (count : A → ℕ) (takes breaks : Effect T) (set : SetPlan)
    (feed feed_after : FeedSeen) (teller teller_after : TellerSeen T) (task : Task) (result : Result Receipt Cut) where
  module _ (passes : List (PassSeen D A)) (disks : List DriveView) (passes_after : List (PassSeen D A)) (disks_after : List DriveView) where
    -- a log leads from these passes and drives to those
    abbrev pub AmongLeads : SetPlan → Log → Claim → Claim → Type 0
    AmongLeads plan log claim later = RanAmong ghosts entries count takes breaks plan log (store_of passes disks claim feed teller)
        (store_of passes_after disks_after later feed_after teller_after)

    shared_wired : (log : Log) (claim later : Claim) → AmongLeads set log claim later → WiresRan takes breaks log (wires feed teller) (wires feed_after teller_after)
    shared_wired log claim later ran = wires_ran takes breaks (TurnsAmong ghosts entries count set) IsBarredAmong set
        (λ k made shown old new x. ap wires_of x.leaves) (λ k why old new x. ap wires_of x.leaves) log (store_of passes disks claim feed teller)
        (store_of passes_after disks_after later feed_after teller_after) ran

    -- a call that its op did is done so
    shared_done : (plan : SetPlan) (served : Served) (slot : ℕ) → plan ≡ set → slot < 64 → WasServed plan task served slot (AmongLeads plan)
        → IsReceiptOf served result → IsDone set task result (AmongLeads set)
    shared_done plan served slot same below done is =
        op_done set task result (AmongLeads set) served slot below (subst (λ p. WasServed p task served slot (AmongLeads p)) same done) is

    -- and has its cause
    pub shared_cause : (plan : SetPlan) (served : Served) (slot : ℕ) → plan ≡ set → slot < 64 → WasServed plan task served slot (AmongLeads plan)
        → IsReceiptOf served result → IsFeedOf feed.view task.call
        → CutCause result feed_after.view feed.faults feed_after.faults teller.faults teller_after.faults
    shared_cause plan served slot same below done is fed =
        done_cause takes breaks set task result (AmongLeads set) feed feed_after teller teller_after shared_wired fed
        (shared_done plan served slot same below done is)

module _ {D A T : Type 0} (ghosts : Ghosts D) (entries : A → Option (List Entry)) (count : A → ℕ) (takes breaks : Effect T)
    (feed feed_after : FeedSeen) (teller teller_after : TellerSeen T) (task : Task) (result : Result Receipt Cut) (before after : SharedPass D A) where
  -- a log leads from the pass before to the pass after
  abbrev Leads : SetPlan → Log → Claim → Claim → Type 0
  Leads plan = AmongLeads ghosts entries count takes breaks (set_held (shared_holds before)) feed feed_after teller teller_after task result
      (passes_seen (passes_in before)) (views ghosts (drives_of before)) (passes_seen (passes_in after)) (views ghosts (drives_of after)) plan

  -- so it is what is asked of the desk
  pub shared_serves : (plan : SetPlan) (served : Served) (slot : ℕ) → plan ≡ set_held (shared_holds before) → slot < 64
      → WasServed plan task served slot (Leads plan) → IsReceiptOf served result
      → Serves takes breaks (λ body tale. SharedAnswers ghosts entries count task before after body tale result) task.call result feed.view feed_after.view
      teller.value teller_after.value
  shared_serves plan served slot same below done is =
      let set = set_held (shared_holds before) in
      let x = shared_done ghosts entries count takes breaks set feed feed_after teller teller_after task result
      (passes_seen (passes_in before)) (views ghosts (drives_of before)) (passes_seen (passes_in after)) (views ghosts (drives_of after))
      plan served slot same below done is in
      done_serves takes breaks set task result (Leads set) feed feed_after teller teller_after
      (shared_wired ghosts entries count takes breaks set feed feed_after teller teller_after task result
      (passes_seen (passes_in before)) (views ghosts (drives_of before)) (passes_seen (passes_in after)) (views ghosts (drives_of after)))
      (λ body tale. SharedAnswers ghosts entries count task before after body tale result) x
      (record {
        slot = x.slot;
        in_store = x.in_store;
        left = x.left;
        log = x.log;
        feed = feed;
        feed_after = feed_after;
        faults = teller.faults;
        faults_after = teller_after.faults;
        ran = among_any ghosts entries count takes breaks set x.log (reach_at ghosts before feed teller (no_claim x.slot))
            (reach_at ghosts after feed_after teller_after x.left) x.ran;
        lets_go = x.lets_go;
        body_is = refl;
        tale_is = refl;
        pays = x.pays;
        notes = x.notes;
      })

module _ {D A : Type 0} (ghosts : Ghosts D) (entries : A → Option (List Entry)) (count : A → ℕ) where
  -- the desk of several callers answers by tellings alone too, and its pass stays
  pub shared_alone : AnswersAlone (λ (pass : SharedPass D A). set_held (shared_holds pass)) (SharedAnswers ghosts entries count)
  shared_alone task pass result log x = record {
    slot = 0;
    in_store = omega arith;
    left = no_claim 0;
    log = log;
    feed = x.feed;
    feed_after = x.feed;
    faults = x.faults;
    faults_after = x.faults_after;
    ran = told_ran (TurnsAmong ghosts entries count (set_held (shared_holds pass))) IsBarredAmong (set_held (shared_holds pass)) (passes_seen (passes_in pass)) (views ghosts (drives_of pass)) (no_claim 0) x.feed
        log x.faults x.faults_after x.told;
    lets_go = inl refl;
    body_is = refl;
    tale_is = refl;
    pays = x.pays;
    notes = x.notes;
  }
