-- A log of the steps of a call on a store, as the desk of one caller has it.
use Rattle.std.proofs.Common.{◌≡◌, ◌<◌, ℕ, List, Option, ap, inl, refl, subst, arith}
use Rattle.std.specs.Prelude.{Result}
use Rattle.audit_trail.specs.declared.entry.Entry.{Entry}
use Rattle.call_types.specs.declared.feed.Cut.{Cut}
use Rattle.desk_base.specs.Answering.{CutCause, Serves, Task}
use Rattle.desk_base.specs.Calls.{IsFeedOf}
use Rattle.desk_base.specs.Telling.{Effect}
use Rattle.drive_base.specs.View.{views}
use Rattle.drive_base.specs.declared.drive.Drive.{Ghosts}
use Rattle.drive_base.specs.declared.plan.SetPlan.{SetPlan}
use Rattle.receipts.specs.Events.{Log}
use Rattle.slot_core.specs.declared.slot.Slot.{Slot}
use Rattle.op_steps.specs.Claims.{Claim, no_claim}
use Rattle.op_steps.specs.Steps.{IsBarred, Ran, Turns}
use Rattle.op_steps.specs.Store.{FeedSeen, Store, TellerSeen, any_effect, slots_seen, store_of}
use Rattle.op_steps.specs.declared.run.Served.{Served}
use Rattle.store_shared.specs.Answers.{PlainAnswers, any_teller}
use Rattle.store_shared.specs.Passes.{disks_of, set_of, slots_of, store_at}
use Rattle.store_shared.specs.Serving.{AnswersAlone, IsDone, IsReceiptOf, WasServed}
use Rattle.store_shared.specs.declared.pass.PlainPass.{PlainPass}
use Rattle.store_shared.specs.declared.op_desk.Receipt.{Receipt}
use Rattle.store_shared.proofs.ServeLemmas.{done_cause, done_serves, op_done}
use Rattle.store_shared.proofs.UnitLemmas.{ran_any, told_ran, unseen}
use Rattle.store_shared.proofs.WireLemmas.{WiresRan, wires, wires_of, wires_ran}

-- a log with some teller is one with a teller of which only the count of faults is seen
pub alone_any : {D T : Type 0} (ghosts : Ghosts D) (takes breaks : Effect T) (set : SetPlan) (log : Log) (old new : Store D T)
    → Ran ghosts takes breaks set log old new → Ran ghosts any_effect any_effect set log (unseen old) (unseen new)
alone_any ghosts takes breaks set = ran_any takes breaks (λ U. Turns ghosts) (λ U. IsBarred) set (λ k made shown old new x. record {
  was = x.was;
  now = x.now;
  is = x.is;
  disks = x.disks;
  moves = x.moves;
  leaves = ap unseen x.leaves;
}) (λ k why old new x. record { was = x.was; is = x.is; cause = x.cause; leaves = ap unseen x.leaves })

module _ {D A T : Type 0} (ghosts : Ghosts D) (entries : A → Option (List Entry)) (count : A → ℕ) (takes breaks : Effect T) (set : SetPlan)
    (feed feed_after : FeedSeen) (teller teller_after : TellerSeen T) (task : Task) (result : Result Receipt Cut) where
  module _ (slots : List (Slot D A)) (data_drives : List D) (slots_after : List (Slot D A)) (drives_after : List D) where
    -- a log leads from these slots and drives to those
    abbrev pub PlainLeads : SetPlan → Log → Claim → Claim → Type 0
    PlainLeads plan log claim later = Ran ghosts takes breaks plan log (store_of (slots_seen entries count slots) (views ghosts data_drives) claim feed teller)
        (store_of (slots_seen entries count slots_after) (views ghosts drives_after) later feed_after teller_after)

    plain_wired : (log : Log) (claim later : Claim) → PlainLeads set log claim later → WiresRan takes breaks log (wires feed teller) (wires feed_after teller_after)
    plain_wired log claim later ran = wires_ran takes breaks (Turns ghosts) IsBarred set (λ k made shown old new x. ap wires_of x.leaves)
        (λ k why old new x. ap wires_of x.leaves) log (store_of (slots_seen entries count slots) (views ghosts data_drives) claim feed teller)
        (store_of (slots_seen entries count slots_after) (views ghosts drives_after) later feed_after teller_after) ran

    -- a call that its op did is done so
    plain_done : (plan : SetPlan) (served : Served) (slot : ℕ) → plan ≡ set → slot < 64 → WasServed plan task served slot (PlainLeads plan)
        → IsReceiptOf served result → IsDone set task result (PlainLeads set)
    plain_done plan served slot same below done is =
        op_done set task result (PlainLeads set) served slot below (subst (λ p. WasServed p task served slot (PlainLeads p)) same done) is

    -- and has its cause
    pub plain_cause : (plan : SetPlan) (served : Served) (slot : ℕ) → plan ≡ set → slot < 64 → WasServed plan task served slot (PlainLeads plan)
        → IsReceiptOf served result → IsFeedOf feed.view task.call
        → CutCause result feed_after.view feed.faults feed_after.faults teller.faults teller_after.faults
    plain_cause plan served slot same below done is fed =
        done_cause takes breaks set task result (PlainLeads set) feed feed_after teller teller_after plain_wired fed (plain_done plan served slot same below done is)

module _ {D A T : Type 0} (ghosts : Ghosts D) (entries : A → Option (List Entry)) (count : A → ℕ) (takes breaks : Effect T)
    (feed feed_after : FeedSeen) (teller teller_after : TellerSeen T) (task : Task) (result : Result Receipt Cut) (before after : PlainPass D A) where
  -- a log leads from the pass before to the pass after
  abbrev Leads : SetPlan → Log → Claim → Claim → Type 0
  Leads plan = PlainLeads ghosts entries count takes breaks (set_of before) feed feed_after teller teller_after task result (slots_of before) (disks_of before)
      (slots_of after) (disks_of after) plan

  -- so it is what is asked of the desk
  pub plain_serves : (plan : SetPlan) (served : Served) (slot : ℕ) → plan ≡ set_of before → slot < 64 → WasServed plan task served slot (Leads plan)
      → IsReceiptOf served result
      → Serves takes breaks (λ body tale. PlainAnswers ghosts entries count task before after body tale result) task.call result feed.view feed_after.view
      teller.value teller_after.value
  plain_serves plan served slot same below done is =
      let set = set_of before in
      let x = plain_done ghosts entries count takes breaks set feed feed_after teller teller_after task result (slots_of before) (disks_of before)
      (slots_of after) (disks_of after) plan served slot same below done is in
      done_serves takes breaks set task result (Leads set) feed feed_after teller teller_after
      (plain_wired ghosts entries count takes breaks set feed feed_after teller teller_after task result (slots_of before) (disks_of before)
      (slots_of after) (disks_of after))
      (λ body tale. PlainAnswers ghosts entries count task before after body tale result) x
      (record {
        slot = x.slot;
        in_store = x.in_store;
        left = x.left;
        log = x.log;
        feed = feed;
        feed_after = feed_after;
        faults = teller.faults;
        faults_after = teller_after.faults;
        ran = alone_any ghosts takes breaks set x.log (store_at ghosts entries count before feed teller (no_claim x.slot))
            (store_at ghosts entries count after feed_after teller_after x.left) x.ran;
        lets_go = x.lets_go;
        body_is = refl;
        tale_is = refl;
        pays = x.pays;
        notes = x.notes;
      })

module _ {D A : Type 0} (ghosts : Ghosts D) (entries : A → Option (List Entry)) (count : A → ℕ) where
  -- so the desk of one caller answers by them, and its pass stays
  pub plain_alone : AnswersAlone (λ (pass : PlainPass D A). set_of pass) (PlainAnswers ghosts entries count)
  plain_alone task pass result log x =
      let store = store_at ghosts entries count pass x.feed (any_teller 0) (no_claim 0) in
      record {
        slot = 0;
        in_store = omega arith;
        left = no_claim 0;
        log = log;
        feed = x.feed;
        feed_after = x.feed;
        faults = x.faults;
        faults_after = x.faults_after;
        ran = told_ran (Turns ghosts) IsBarred (set_of pass) store.slots store.disks (no_claim 0) x.feed log x.faults x.faults_after x.told;
        lets_go = inl refl;
        body_is = refl;
        tale_is = refl;
        pays = x.pays;
        notes = x.notes;
      }
