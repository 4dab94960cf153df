-- What a PutObject stands for where a section can't be done.
use Rattle.std.proofs.Common.{◌≡◌, ◌⊎◌, ◌∙◌, ℕ, true, false, List, [], ◌∷◌, ◌++◌, Option, Some, length, inl, inr, refl, sym, ap, subst, arith}
use Rattle.std.proofs.lemmas.List.Elements.{Contains-push}
use Rattle.call_types.specs.declared.feed.Cut.{Cut}
use Rattle.call_types.specs.declared.names.Mode.{Mode}
use Rattle.call_types.specs.declared.names.Mode.TheVariants.{Never}
use Rattle.call_types.specs.declared.refusal.Refusal.TheVariants as refusal
use Rattle.call_types.specs.declared.reply.Reply.TheVariants.{Refused}
use Rattle.put_stage.specs.declared.stage.StageNext.{StageNext}
use Rattle.put_stage.specs.declared.stage.StageNext.TheVariants.{Fill, Finish, Step}
use Rattle.slot_core.specs.declared.holding.Flight.{Flight}
use Rattle.receipts.specs.Events.{IsQuiet, Log}
use Rattle.receipts.specs.Events.Event.{BarredFrom}
use Rattle.receipts.specs.Registers.{bucket_slot, key_slot}
use Rattle.receipts.specs.declared.barred.Barred.{Barred}
use Rattle.receipts.specs.declared.barred.Barred.TheVariants as barred
use Rattle.receipts.proofs.GrowLemmas.{quiet_bodies}
use Rattle.op_steps.specs.Claims.{Claim, no_claim}
use Rattle.op_steps.specs.Words.{BarredSo, IsSection}
use Rattle.op_steps.proofs.TellLemmas.{none_pays, none_told}
use Rattle.object_ops.specs.Clearing.{HasNone, with_taken, files_of, ids_of}
use Rattle.op_steps.specs.declared.next.OpNext.TheVariants.{Section}
use Rattle.object_ops.specs.Reading.{HasFound}
use Rattle.object_ops.specs.Put.{PutAsk, step_at, task_of, work_step}
use Rattle.object_ops.specs.PutStands.{HoldsPut, HoldsRest, PutStandsAt, Stages}
use Rattle.object_ops.specs.PutOutcome.{BarredAfter}
use Rattle.object_ops.specs.PutTarget.{key_of}
use Rattle.object_ops.specs.declared.clearing.Clearing.{Clearing}
use Rattle.object_ops.specs.declared.put_state.PutState.{PutState}
use Rattle.object_ops.specs.declared.put_state.PutState.TheVariants as state
use Rattle.object_ops.specs.declared.put_state.Work.{Work}
use Rattle.object_ops.specs.declared.data_files.Removal.{Removal}
use Rattle.object_ops.proofs.PutLogs.{decided_stands}
use Rattle.object_ops.proofs.PutStepClaims.{looked_on}
use Rattle.object_ops.proofs.ReadingBars.{bar_fresh, key_bars, slot_in}
use Rattle.object_ops.proofs.ReadingLook.{bars}
use Rattle.object_ops.proofs.ReadingTell.{fresh_pays, one_all}
use Rattle.object_ops.proofs.TellingLemmas.{pays_on}

module _ (ask : PutAsk) (read : ℕ) where
  abbrev bar : Barred → Log → Log
  bar why log = log ++ BarredFrom (key_slot (key_of ask.target)) why ∷ []

  rest_none : (clearing : Clearing) (claim : Claim) (log : Log) → HasNone clearing → claim ≡ no_claim (key_slot (key_of ask.target)) → HoldsRest (key_slot (key_of ask.target)) clearing claim log
  rest_none clearing claim log none is =
      inl (is ∙ ap (λ (q : List Removal). with_taken (no_claim (key_slot (key_of ask.target))) (ids_of (files_of q))) (sym none.queue))

  -- a put is left listed
  left_held : (clearing : Clearing) (flight : Flight) (claim : Claim) (log : Log) (why : Barred) → HasNone clearing → HoldsPut (key_of ask.target) flight claim
      → HoldsRest (key_slot (key_of ask.target)) clearing claim (bar why log)
  left_held clearing flight claim log why none held = inr (
    none,
    record { slot_is = held.slot_is; none_taken = held.none_taken; why = why; barred = Contains-push log (BarredFrom (key_slot (key_of ask.target)) why) },
  )

  looking_bar : (clearing : Clearing) (later : PutState) (claim : Claim) (why : Barred) → read ≡ 0 → HasNone clearing → claim ≡ no_claim (key_slot (key_of ask.target))
      → BarredAfter state.Looking why read ask.long later
      → PutStandsAt ask read clearing later claim (BarredFrom (bucket_slot (key_of ask.target).bucket) why ∷ [])
  looking_bar clearing later claim barred.Spent zero none is after =
      let log = BarredFrom (bucket_slot (key_of ask.target).bucket) barred.Spent ∷ [] in
      decided_stands ask read clearing (Refused refusal.SeqSpent) later claim log after (omega (arith, zero)) (rest_none clearing claim log none is) (record {
        untold = (bar_fresh (bucket_slot (key_of ask.target).bucket) barred.Spent).untold;
        uncut = refl;
        read_is = sym zero;
        decided = inl (bars (key_of ask.target).bucket);
      })
  looking_bar clearing later claim barred.NoMemory zero none is after =
      let log = BarredFrom (bucket_slot (key_of ask.target).bucket) barred.NoMemory ∷ [] in
      subst (λ s. PutStandsAt ask read clearing s claim log) (sym after)
      (rest_none clearing claim log none is, fresh_pays ask.set (task_of ask) log (bar_fresh (bucket_slot (key_of ask.target).bucket) barred.NoMemory))

  beginning_bar : (clearing : Clearing) (mode : Mode) (later : PutState) (claim : Claim) (log : Log) (why : Barred) → read ≡ 0 → HasNone clearing
      → claim ≡ no_claim (key_slot (key_of ask.target)) → HasFound (key_of ask.target).bucket mode log → BarredAfter (state.Beginning mode) why read ask.long later
      → PutStandsAt ask read clearing later claim (bar why log)
  beginning_bar clearing mode later claim log barred.Spent zero none is found after =
      let bars_so = key_bars (key_of ask.target) mode log (key_slot (key_of ask.target)) barred.Spent found in
      decided_stands ask read clearing (Refused refusal.SeqSpent) later claim (bar barred.Spent log) after (omega (arith, zero))
      (rest_none clearing claim (bar barred.Spent log) none is) (record {
        untold = bars_so.0.untold;
        uncut = bars_so.0.uncut;
        read_is = ap length bars_so.0.untaken ∙ sym zero;
        decided = inr (inl (bars_so.1 refl refl));
      })
  beginning_bar clearing mode later claim log barred.NoMemory zero none is found after =
      subst (λ s. PutStandsAt ask read clearing s claim (bar barred.NoMemory log)) (sym after) (
        rest_none clearing claim (bar barred.NoMemory log) none is,
        fresh_pays ask.set (task_of ask) (bar barred.NoMemory log) (key_bars (key_of ask.target) mode log (key_slot (key_of ask.target)) barred.NoMemory found).0,
      )

  staging_bar : (clearing : Clearing) (work : Work) (later : PutState) (claim : Claim) (log : Log) (why : Barred) → read ≡ ask.long → work.stage.load.left ≡ 0
      → HasNone clearing → Stages ask work claim log → BarredAfter (state.Staging work) why read ask.long later
      → PutStandsAt ask read clearing later claim (bar why log)
  staging_bar clearing work later claim log barred.Spent all whole none s after =
      let looked = looked_on (key_of ask.target).bucket work.mode log (BarredFrom (key_slot (key_of ask.target)) barred.Spent) tt s.looked in
      let body = quiet_bodies log (BarredFrom (key_slot (key_of ask.target)) barred.Spent ∷ []) (one_all IsQuiet (BarredFrom (key_slot (key_of ask.target)) barred.Spent) tt) in
      let long = s.taken.long in
      let same = s.stage_of.long_is in
      decided_stands ask read clearing (Refused refusal.SeqSpent) later claim (bar barred.Spent log) after (omega (arith, all))
      (left_held clearing work.flight claim log barred.Spent none s.held) (record {
        untold = looked.untold;
        uncut = looked.uncut;
        read_is = ap length body ∙ omega (arith, all, whole, long, same);
        decided = inr (inl (record {
          looked = record { look = looked.look; sections = looked.sections; mode = work.mode; finds = looked.finds };
          barred = record { spent = Contains-push log (BarredFrom (key_slot (key_of ask.target)) barred.Spent); told = refl };
        }));
      })
  staging_bar clearing work later claim log barred.NoMemory all whole none s after =
      let looked = looked_on (key_of ask.target).bucket work.mode log (BarredFrom (key_slot (key_of ask.target)) barred.NoMemory) tt s.looked in
      subst (λ t. PutStandsAt ask read clearing t claim (bar barred.NoMemory log)) (sym after) (
        none,
        s.held,
        none_pays ask.set (task_of ask) (bar barred.NoMemory log) looked.uncut (none_told (bar barred.NoMemory log) looked.untold) (inl looked.idle),
      )

  -- any section of it, but the one that takes trash
  pub barred_so : (clearing : Clearing) (one later : PutState) (why : Barred) → ((why_cut : Option Cut) → one ≡ state.Told why_cut → ⊥)
      → ((mode : Mode) → (one ≡ state.Looking) ⊎ (one ≡ state.Beginning mode) → read ≡ 0)
      → ((work : Work) → one ≡ state.Staging work → work.next ≡ Finish → (read ≡ ask.long) × (work.stage.load.left ≡ 0))
      → BarredAfter one why read ask.long later
      → BarredSo (PutStandsAt ask read clearing one) (PutStandsAt ask read clearing later) (step_at (key_of ask.target) clearing one) why
  barred_so clearing state.Looking later why untold zero all after claim log k step x =
      subst (λ l. PutStandsAt ask read clearing later claim (l ++ BarredFrom k why ∷ [])) (sym x.2)
      (subst (λ i. PutStandsAt ask read clearing later claim (BarredFrom i why ∷ [])) (ap slot_in step)
      (looking_bar clearing later claim why (zero Never (inl refl)) x.0 x.1 after))
  barred_so clearing (state.Beginning mode) later why untold zero all after claim log k step x =
      subst (λ i. PutStandsAt ask read clearing later claim (log ++ BarredFrom i why ∷ [])) (ap slot_in step)
      (beginning_bar clearing mode later claim log why (zero mode (inr refl)) x.0 x.1 x.2 after)
  barred_so clearing (state.Staging work) later why untold zero all after claim log k step x =
      let ends = finishes work.next step in
      let whole = all work refl ends.0 in
      subst (λ i. PutStandsAt ask read clearing later claim (log ++ BarredFrom i why ∷ [])) ends.1
      (staging_bar clearing work later claim log why whole.0 whole.1 x.0 x.1 after)
    where
      finishes : (n : StageNext) → work_step (key_slot (key_of ask.target)) n ≡ Section k → (n ≡ Finish) × (key_slot (key_of ask.target) ≡ k)
      finishes Fill is = absurd (subst IsSection (sym is) tt)
      finishes Step is = absurd (subst IsSection (sym is) tt)
      finishes Finish is = (refl, ap slot_in is)
  barred_so clearing (state.Dropping flight why_cut) later why untold zero all after claim log k step x =
      subst (λ i. PutStandsAt ask read clearing later claim (log ++ BarredFrom i why ∷ [])) (ap slot_in step)
      (subst (λ s. PutStandsAt ask read clearing s claim (bar why log)) (sym after) (
        left_held clearing flight claim log why x.0 x.1,
        pays_on ask.set (task_of ask) (Some why_cut) log (BarredFrom (key_slot (key_of ask.target)) why) tt x.2,
      ))
  barred_so clearing (state.Draining reply) later why untold zero all after claim log k step x = absurd (subst IsSection (sym step) tt)
  barred_so clearing (state.Telling reply) later why untold zero all after claim log k step x = absurd (subst IsSection (sym step) tt)
  barred_so clearing (state.Told why_cut) later why untold zero all after claim log k step x = absurd (untold why_cut refl)

  -- no trash is taken
  pub pass_so : (clearing passed : Clearing) (one : PutState) (why_cut : Option Cut) (why : Barred) → one ≡ state.Told why_cut → clearing.takes ≡ true
      → passed.queue.items ≡ clearing.queue.items
      → BarredSo (PutStandsAt ask read clearing one) (PutStandsAt ask read passed one) (step_at (key_of ask.target) clearing one) why
  pass_so clearing passed one why_cut why is takes same claim log k step x =
      let here = subst (λ s. PutStandsAt ask read clearing s claim log) is x in
      subst (λ s. PutStandsAt ask read passed s claim (log ++ BarredFrom k why ∷ [])) (sym is)
      (by here.0, pays_on ask.set (task_of ask) why_cut log (BarredFrom k why) tt here.1)
    where
      by : HoldsRest (key_slot (key_of ask.target)) clearing claim log → HoldsRest (key_slot (key_of ask.target)) passed claim (log ++ BarredFrom k why ∷ [])
      by (inl holds) = inl (holds ∙ ap (λ (q : List Removal). with_taken (no_claim (key_slot (key_of ask.target))) (ids_of (files_of q))) (sym same))
      by (inr (none, left)) = let no : clearing.takes ≡ false = none.takes in absurd cc
