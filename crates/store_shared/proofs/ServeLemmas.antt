-- A call that was served by its op does what is asked of a desk.
use Rattle.std.proofs.Common.{◌≡◌, ◌<◌, ◌⊎◌, ◌∙◌, ℕ, List, [], ◌∷◌, Some, None, ap, inl, inr, refl, subst, sym, arith}
use Rattle.std.specs.Prelude.{IfOk, Result, Ok, Err}
use Rattle.call_types.specs.declared.feed.Cut.{Cut}
use Rattle.call_types.specs.declared.feed.Cut.TheVariants.{BodyCut, NoMemory, ReadFault, ShardCut, WriteFault}
use Rattle.desk_base.specs.Answering.{CallTells, CutCause, Serves, Task, WasTold}
use Rattle.desk_base.specs.Calls.{IsFeedOf}
use Rattle.desk_base.specs.Telling.{Effect, Telling, TellsAll}
use Rattle.drive_base.specs.declared.plan.SetPlan.{SetPlan}
use Rattle.receipts.specs.Events.{Log, body_of, cuts_of, notes_of, tried_of}
use Rattle.receipts.specs.Paying.{Pays}
use Rattle.receipts.proofs.TriedLemmas.{NoneBroke, pay_is_told, pays_broken, pays_cut, pays_uncut, tried_is_told, unbroken}
use Rattle.op_steps.specs.Claims.{Claim, no_claim}
use Rattle.op_steps.specs.Going.{PaysFor}
use Rattle.op_steps.specs.Notes.{notes_by}
use Rattle.op_steps.specs.Store.{FeedSeen, TellerSeen}
use Rattle.op_steps.specs.declared.run.Served.{Served}
use Rattle.op_steps.proofs.TellLemmas.{none_pays}
use Rattle.store_shared.specs.Answers.{NotesAre, cut_by}
use Rattle.store_shared.specs.Serving.{IsDone, IsReceiptOf, IsToldAlone, WasServed}
use Rattle.store_shared.specs.declared.op_desk.Receipt.{Receipt}
use Rattle.store_shared.proofs.WireLemmas.{NoneFailed, OneFailed, OneEnded, Wires, WiresRan, ended_so, ends_there, gave_all, reads_rise, reads_stay, wires}
use Rattle.store_shared.proofs.WireTellLemmas.{broke_so, told_all, writes_stay}

-- an op that is asked one task pays for any that is equal to it
pub asked_pays : {O E : Type 0} (set_of : O → SetPlan) (asked : O → Task) (op : Result O E) (a b : Task) → a ≡ b → IfOk op (λ o. asked o ≡ a)
    → IfOk op (λ o. PaysFor (set_of o) b (λ cut log. Pays (set_of o) (asked o) cut log))
asked_pays set_of asked (Ok o) a b same is = λ cut log pays. subst (λ task. Pays (set_of o) task cut log) (is ∙ same) pays
asked_pays set_of asked (Err why) a b same is = is

cut_is : (served : Served) (result : Result Receipt Cut) → IsReceiptOf served result → served.cut ≡ cut_by result
cut_is served (Ok receipt) is = is.0
cut_is served (Err why) is = is

notes_are : (served : Served) (result : Result Receipt Cut) (log : Log) → IsReceiptOf served result → notes_by served.stubs.items ≡ notes_of log → NotesAre result log
notes_are served (Ok receipt) log is notes = ap notes_by is.1 ∙ notes
notes_are served (Err why) log is notes = (served.stubs.items, notes)

module _ {T : Type 0} (takes breaks : Effect T) (set : SetPlan) (task : Task) where
  -- all that was tried was told
  told_tried : (log : Log) (old new : Wires T) → WiresRan takes breaks log old new → NoneBroke (cuts_of log)
      → TellsAll takes old.teller.value (tried_of log) new.teller.value
  told_tried log old new ran none =
      subst (λ tale. TellsAll takes old.teller.value tale new.teller.value) (sym (tried_is_told log none)) (told_all takes breaks log old new ran none)

  was_told : (result : Result Receipt Cut) (log : Log) (old new : Wires T) → WiresRan takes breaks log old new → Pays set task (cut_by result) log
      → WasTold takes breaks result old.teller.value (tried_of log) new.teller.value
  was_told (Ok receipt) log old new ran pays = told_tried log old new ran (subst NoneBroke (sym (pays_uncut set task log pays)) tt)
  was_told (Err ReadFault) log old new ran pays =
      let cut = pays_cut set task ReadFault log pays in told_tried log old new ran (subst NoneBroke (sym cut.owes.1) tt)
  was_told (Err (BodyCut read stated)) log old new ran pays =
      let cut = pays_cut set task (BodyCut read stated) log pays in told_tried log old new ran (subst NoneBroke (sym cut.owes.1) tt)
  was_told (Err WriteFault) log old new ran pays =
      let one = pays_broken set task log pays in (broke_so takes breaks one.telling log old new one.last ran).told
  was_told (Err (ShardCut whys)) log old new ran pays =
      let cut = pays_cut set task (ShardCut whys) log pays in told_tried log old new ran (subst NoneBroke (sym cut.owes.uncut) tt)
  was_told (Err NoMemory) log old new ran pays =
      let cut = pays_cut set task NoMemory log pays in told_tried log old new ran (unbroken (cuts_of log) cut.owes.1)

  call_tells : (result : Result Receipt Cut) (log : Log) → Pays set task (cut_by result) log → CallTells task.call result (tried_of log)
  call_tells (Ok receipt) log pays = pay_is_told set task None log pays
  call_tells (Err ReadFault) log pays = pay_is_told set task (Some ReadFault) log pays
  call_tells (Err (BodyCut read stated)) log pays = pay_is_told set task (Some (BodyCut read stated)) log pays
  call_tells (Err WriteFault) log pays = pay_is_told set task (Some WriteFault) log pays
  call_tells (Err (ShardCut whys)) log pays = pay_is_told set task (Some (ShardCut whys)) log pays
  call_tells (Err NoMemory) log pays = pay_is_told set task (Some NoMemory) log pays

  -- neither count moves
  abbrev BothStay : Wires T → Wires T → Type 0
  BothStay old new = (new.feed.faults ≡ old.feed.faults) × (new.teller.faults ≡ old.teller.faults)

  both_stay : (log : Log) (old new : Wires T) → WiresRan takes breaks log old new → NoneFailed (cuts_of log) → NoneBroke (cuts_of log) → BothStay old new
  both_stay log old new ran reads writes = (reads_stay takes breaks log old new ran reads, writes_stay takes breaks log old new ran writes)

  lacks_memory : (log : Log) (old new : Wires T) → WiresRan takes breaks log old new → (cuts_of log ≡ []) ⊎ (cuts_of log ≡ NoMemory ∷ []) → BothStay old new
  lacks_memory log old new ran (inl none) = both_stay log old new ran (subst NoneFailed (sym none) tt) (subst NoneBroke (sym none) tt)
  lacks_memory log old new ran (inr own) = both_stay log old new ran (subst NoneFailed (sym own) tt) (subst NoneBroke (sym own) tt)

  cut_cause : (result : Result Receipt Cut) (log : Log) (old new : Wires T) → WiresRan takes breaks log old new → Pays set task (cut_by result) log
      → IsFeedOf old.feed.view task.call
      → CutCause result new.feed.view old.feed.faults new.feed.faults old.teller.faults new.teller.faults
  cut_cause (Ok receipt) log old new ran pays fed =
      let uncut = pays_uncut set task log pays in both_stay log old new ran (subst NoneFailed (sym uncut) tt) (subst NoneBroke (sym uncut) tt)
  cut_cause (Err ReadFault) log old new ran pays fed =
      let cut = pays_cut set task ReadFault log pays in (
        reads_rise takes breaks log old new ran (subst OneFailed (sym cut.owes.1) tt),
        writes_stay takes breaks log old new ran (subst NoneBroke (sym cut.owes.1) tt),
      )
  cut_cause (Err (BodyCut read stated)) log old new ran pays fed =
      let cut = pays_cut set task (BodyCut read stated) log pays in
      let ended = ended_so takes breaks read stated log old new ran (subst (OneEnded read stated) (sym cut.owes.1) (refl, refl)) in
      let given = (gave_all takes breaks log old new ran).given in
      let none = fed.none_given in
      let all = cut.owes.2 in
      let ends = ends_there read stated new.feed.view ended (omega (arith, given, none, all)) in (
        ends.0,
        ends.1,
        ends.2,
        ends.3,
        reads_stay takes breaks log old new ran (subst NoneFailed (sym cut.owes.1) tt),
        writes_stay takes breaks log old new ran (subst NoneBroke (sym cut.owes.1) tt),
      )
  cut_cause (Err WriteFault) log old new ran pays fed =
      let cut = pays_cut set task WriteFault log pays in
      let one = pays_broken set task log pays in (
        reads_stay takes breaks log old new ran (subst NoneFailed (sym cut.owes.1) tt),
        (broke_so takes breaks one.telling log old new one.last ran).rose,
      )
  cut_cause (Err (ShardCut whys)) log old new ran pays fed =
      let cut = pays_cut set task (ShardCut whys) log pays in
      both_stay log old new ran (subst NoneFailed (sym cut.owes.uncut) tt) (subst NoneBroke (sym cut.owes.uncut) tt)
  cut_cause (Err NoMemory) log old new ran pays fed =
      let cut = pays_cut set task NoMemory log pays in lacks_memory log old new ran cut.owes.1

module _ (set : SetPlan) (task : Task) (result : Result Receipt Cut) (Leads : Log → Claim → Claim → Type 0) where
  -- by its op
  pub op_done : (served : Served) (slot : ℕ) → slot < 64 → WasServed set task served slot Leads → IsReceiptOf served result → IsDone set task result Leads
  op_done served slot below x is = record {
    slot = slot;
    in_store = below;
    left = x.left;
    log = x.log;
    lets_go = x.lets_go;
    pays = subst (λ cut. Pays set task cut x.log) (cut_is served result is) x.owed;
    ran = x.ran;
    notes = notes_are served result x.log is x.notes;
  }

  -- or by tellings alone
  abbrev pub told_done : (log : Log) → IsToldAlone set task result log → Leads log (no_claim 0) (no_claim 0) → IsDone set task result Leads
  told_done log x ran = record {
    slot = 0;
    in_store = omega arith;
    left = no_claim 0;
    log = log;
    lets_go = inl refl;
    pays = x.pays;
    ran = ran;
    notes = x.notes;
  }

-- there was no memory for its op, and nothing was told
pub none_told : (set : SetPlan) (task : Task) (feed : FeedSeen) (faults : ℕ) → IsToldAlone set task (Err NoMemory) []
none_told set task feed faults = record {
  feed = feed;
  faults = faults;
  faults_after = faults;
  told = refl;
  pays = none_pays set task [] refl refl (inl (λ k d l. let below : k < 0 = l in absurd (omega arith)));
  notes = ([], refl);
}

module _ {T : Type 0} (takes breaks : Effect T) (set : SetPlan) (task : Task) (result : Result Receipt Cut) (Leads : Log → Claim → Claim → Type 0)
    (feed feed_after : FeedSeen) (teller teller_after : TellerSeen T)
    (wired : (log : Log) (claim later : Claim) → Leads log claim later → WiresRan takes breaks log (wires feed teller) (wires feed_after teller_after)) where
  -- then it does what is asked of a desk, whose answers are such
  pub done_serves : (Answers : List ℕ → List Telling → Type 0) (x : IsDone set task result Leads) → Answers (body_of x.log) (tried_of x.log)
      → Serves takes breaks Answers task.call result feed.view feed_after.view teller.value teller_after.value
  done_serves Answers x answers =
      let ran = wired x.log (no_claim x.slot) x.left x.ran in
      record {
        body = body_of x.log;
        took = gave_all takes breaks x.log (wires feed teller) (wires feed_after teller_after) ran;
        tale = tried_of x.log;
        told = was_told takes breaks set task result x.log (wires feed teller) (wires feed_after teller_after) ran x.pays;
        whole = call_tells takes breaks set task result x.log x.pays;
        answers = answers;
      }

  -- and has its cause, if it was cut
  pub done_cause : IsFeedOf feed.view task.call → IsDone set task result Leads
      → CutCause result feed_after.view feed.faults feed_after.faults teller.faults teller_after.faults
  done_cause fed x = cut_cause takes breaks set task result x.log (wires feed teller) (wires feed_after teller_after)
      (wired x.log (no_claim x.slot) x.left x.ran) x.pays fed
