-- The log of a deed after each of its steps.
use Rattle.std.proofs.Common.{◌≡◌, ◌∙◌, ℕ, [], ◌∷◌, ◌++◌, Option, Some, None, Result, Ok, Err, MatchOption, append-nil, length, inl, inr, refl, sym, ap, subst}
use Rattle.call_types.specs.Refusals.{refusal_of}
use Rattle.call_types.specs.declared.act.Act.{Act}
use Rattle.call_types.specs.declared.feed.Cut.{Cut}
use Rattle.call_types.specs.declared.feed.Cut.TheVariants.{NoMemory}
use Rattle.call_types.specs.declared.names.Key.{Key}
use Rattle.call_types.specs.declared.names.Mode.{Mode}
use Rattle.call_types.specs.declared.refusal.KeyRefusal.{KeyRefusal}
use Rattle.call_types.specs.declared.refusal.Refusal.{Refusal}
use Rattle.call_types.specs.declared.reply.Reply.{Reply}
use Rattle.call_types.specs.declared.refusal.Refusal.TheVariants.{SeqSpent}
use Rattle.call_types.specs.declared.reply.Reply.TheVariants.{Found, Refused}
use Rattle.desk_base.specs.Answering.{Task, bytes_after}
use Rattle.desk_base.specs.Telling.{Effect}
use Rattle.desk_base.specs.Telling.Telling.{Head as TheHead}
use Rattle.drive_base.specs.declared.plan.SetPlan.{SetPlan}
use Rattle.slot_rules.specs.declared.commit.Committed.{Committed}
use Rattle.slot_core.specs.CommitCauses.{deed_in}
use Rattle.slot_core.specs.Commits.{SaysCommit}
use Rattle.slot_core.specs.Stubs.{Says, StubOfEntry, entry_of}
use Rattle.slot_core.specs.Views.{SlotNumbers}
use Rattle.slot_core.specs.declared.slot.SlotFault.{SlotFault}
use Rattle.slot_core.specs.declared.slot.SlotFault.TheVariants.{Key as KeyFault}
use Rattle.slot_core.specs.declared.stub.Stub.{Stub}
use Rattle.receipts.specs.Deeds.{DeedOwes}
use Rattle.receipts.specs.Events.{IsQuiet, Log, Note, Shown, body_of}
use Rattle.receipts.specs.Events.Event.{BarredFrom, Told as ToldEvent, Turned}
use Rattle.receipts.specs.Events.Shown.{NoneShown}
use Rattle.receipts.specs.Owes.{OwesReply}
use Rattle.receipts.specs.Paying.{Pays}
use Rattle.receipts.specs.Registers.{bucket_slot, key_slot}
use Rattle.receipts.specs.Spans.{GivesBytes}
use Rattle.receipts.specs.declared.barred.Barred.{Barred}
use Rattle.receipts.specs.declared.barred.Barred.TheVariants as barred
use Rattle.receipts.proofs.JoinLemmas.{bodies_join}
use Rattle.op_steps.specs.BucketLooks.{SaysBucket}
use Rattle.op_steps.specs.Moves.{TellMoves}
use Rattle.op_steps.specs.Notes.{note_of, noted}
use Rattle.op_steps.specs.Ready.{IsReady}
use Rattle.op_steps.specs.Store.{TellerSeen}
use Rattle.op_steps.specs.declared.looking.Looked.{Looked}
use Rattle.op_steps.specs.declared.looking.Looked.TheVariants.{LacksMemory, Refused as RefusedLook, There}
use Rattle.op_steps.proofs.TellLemmas.{cuts_after, told_pays}
use Rattle.object_ops.specs.Deeds.{AfterCommit, AfterLook, HasDone, barred_state, call_of, deed_task, key_deed}
use Rattle.object_ops.specs.KeyDeeds.{act_of}
use Rattle.object_ops.specs.Reading.{HasFound, IsFresh}
use Rattle.object_ops.specs.declared.deed_op.DeedState.{DeedState}
use Rattle.object_ops.specs.declared.deed_op.DeedState.TheVariants.{Committing, Looking, Telling, Told}
use Rattle.object_ops.specs.declared.key_act.KeyAct.{KeyAct}
use Rattle.object_ops.specs.declared.key_act.KeyAct.TheVariants as asks
use Rattle.object_ops.proofs.DueLemmas.{DoneSo}
use Rattle.object_ops.proofs.KeyCommitLemmas.{RefusedSo, changes_so, ends_so, looked_of, refused_commit}
use Rattle.object_ops.proofs.ReadingBars.{bar_fresh, key_bars}
use Rattle.object_ops.proofs.ReadingLook.{AfterLook as LogAfterLook, bars, looks}
use Rattle.object_ops.proofs.ReadingTell.{fresh_pays, one_all, quiet_fresh}
use Rattle.object_ops.proofs.TellingLemmas.{untold_after}

-- ---- the call of a deed, by its act

-- the reply that its deed owes is the one that it owes
owes_of : (set : SetPlan) (at : Key) (ask : KeyAct) (now : ℕ) (reply : Reply) (log : Log) → body_of log ≡ [] → DeedOwes at (act_of ask) now reply log
    → OwesReply set (deed_task at ask now) reply log
owes_of set at (asks.Delete pick) now reply log untaken owes = (ap length untaken, owes)
owes_of set at (asks.Create kind) now reply log untaken owes = inr (ap length untaken, owes)
owes_of set at (asks.Abort upload) now reply log untaken owes = inr (ap length untaken, owes)

-- no bytes are told behind its reply
gives_none : (set : SetPlan) (at : Key) (ask : KeyAct) (reply : Reply) (log : Log)
    → GivesBytes set (call_of at ask) reply [] log × (0 ≡ bytes_after reply (call_of at ask))
gives_none set at (asks.Delete pick) (Found version span id) log = (refl, refl)
gives_none set at (asks.Create kind) (Found version span id) log = (refl, refl)
gives_none set at (asks.Abort upload) (Found version span id) log = (refl, refl)
gives_none set at ask other log = (refl, refl)

module _ (set : SetPlan) (at : Key) (ask : KeyAct) (now : ℕ) where
  abbrev task : Task
  task = deed_task at ask now

  -- what is done
  abbrev act : Act
  act = act_of ask

  -- ---- the bucket's look

  pub look_done : (k : ℕ) (stub : Option Stub) (shown : Shown) (looked : Looked) (state : DeedState) → AfterLook at act looked state
      → SaysBucket at.bucket looked (Turned k (noted stub) shown ∷ []) → HasDone set at act task state (Turned k (noted stub) shown ∷ [])
  look_done k stub shown looked state after says = by state after
    where
      log : Log
      log = Turned k (noted stub) shown ∷ []

      has : (is : Looked) → looked ≡ is → LogAfterLook at.bucket is log
      has is same = subst (λ (l : Looked). LogAfterLook at.bucket l log) same (looks at.bucket looked k stub shown says)

      lacks : (cut : Option Cut) → cut ≡ Some NoMemory → IsFresh log → Pays set task cut log
      lacks cut is fresh = subst (λ (c : Option Cut). Pays set task c log) (sym is) (fresh_pays set task log fresh)

      by : (s : DeedState) → AfterLook at act looked s → HasDone set at act task s log
      by Looking x = absurd x
      by (Committing deed) (mode, is, deed_is) = (mode, deed_is, has (There mode) is)
      by (Telling reply) (why, is, told) =
          let refused = has (RefusedLook why) is in
          record {
            untold = refused.0.untold;
            uncut = refused.0.uncut;
            owed = subst (λ (r : Reply). OwesReply set task r log) (sym told) (owes_of set at ask now (Refused why) log refl (inl refused.1));
          }
      by (Told cut) (cut_is, inl is) = lacks cut cut_is (has LacksMemory is)
      by (Told cut) (cut_is, inr (mode, is)) = lacks cut cut_is (has (There mode) is).fresh

  -- it can't be done
  pub look_barred : (why : Barred) → HasDone set at act task (barred_state why) (BarredFrom (bucket_slot at.bucket) why ∷ [])
  look_barred barred.Spent = record {
    untold = (bar_fresh (bucket_slot at.bucket) barred.Spent).untold;
    uncut = refl;
    owed = owes_of set at ask now (Refused SeqSpent) (BarredFrom (bucket_slot at.bucket) barred.Spent ∷ []) refl (inl (bars at.bucket));
  }
  look_barred barred.NoMemory = fresh_pays set task (BarredFrom (bucket_slot at.bucket) barred.NoMemory ∷ []) (bar_fresh (bucket_slot at.bucket) barred.NoMemory)

  -- ---- the commit

  -- a reply is owed once the commit says how the call ends
  ready_so : (mode : Mode) (reply : Reply) (log : Log) (k : ℕ) (note : Option Note) → HasFound at.bucket mode log
      → DeedOwes at act now reply (log ++ Turned k note NoneShown ∷ []) → IsReady set task reply (log ++ Turned k note NoneShown ∷ [])
  ready_so mode reply log k note found owes = record {
    untold = untold_after log (Turned k note NoneShown) found.fresh.untold tt;
    uncut = cuts_after log (Turned k note NoneShown) found.fresh.uncut;
    owed = owes_of set at ask now reply (log ++ Turned k note NoneShown ∷ [])
        (bodies_join log (Turned k note NoneShown ∷ []) ∙ (append-nil (body_of log) ∙ found.fresh.untaken)) owes;
  }

  -- want of memory leaves no note
  lacks_so : (mode : Mode) (log : Log) (k : ℕ) → HasFound at.bucket mode log → Pays set task (Some NoMemory) (log ++ Turned k None NoneShown ∷ [])
  lacks_so mode log k found = fresh_pays set task (log ++ Turned k None NoneShown ∷ [])
      (quiet_fresh log (Turned k None NoneShown ∷ []) (one_all IsQuiet (Turned k None NoneShown) tt) found.fresh)

  -- it was done
  done_commit : (mode : Mode) (numbers : SlotNumbers) (made : Committed) (stub : Option Stub) (log : Log) → numbers.index ≡ key_slot at
      → HasFound at.bucket mode log → StubOfEntry numbers (Ok made) stub → Says stub (SaysCommit (key_deed at act mode) now (Ok made))
      → DoneSo numbers.index at mode act now made.done (deed_in (entry_of stub))
      → HasDone set at act task (Telling made.done) (log ++ Turned numbers.index (noted stub) NoneShown ∷ [])
  done_commit mode numbers made stub log own found x says done =
      subst (λ (s : Option Stub). HasDone set at act task (Telling made.done) (log ++ Turned numbers.index (noted s) NoneShown ∷ [])) (sym x.1)
      (ready_so mode made.done log numbers.index (Some (note_of x.0)) found
      (inr (inl (ends_so at mode now (λ done. done ≡ act) made.done log numbers.index x.0 (looked_of at.bucket mode log found)
      (inl (changes_so at mode act now numbers own made.done (Ok made) None stub x says done))))))

  -- it was refused
  refused_done : (mode : Mode) (numbers : SlotNumbers) (fault : SlotFault) (stub : Option Stub) (state : DeedState) (log : Log) (own : numbers.index ≡ key_slot at)
      → HasFound at.bucket mode log → AfterCommit (Err fault) state → RefusedSo at mode act now numbers own fault stub
      → HasDone set at act task state (log ++ Turned numbers.index (noted stub) NoneShown ∷ [])
  refused_done mode numbers fault stub state log own found after (inl (is, none)) =
      let told : state ≡ Told (Some NoMemory) = subst (λ (f : SlotFault). AfterCommit (Err f) state) is after in
      subst (λ (t : DeedState). HasDone set at act task t (log ++ Turned numbers.index (noted stub) NoneShown ∷ [])) (sym told)
      (subst (λ (s : Option Stub). Pays set task (Some NoMemory) (log ++ Turned numbers.index (noted s) NoneShown ∷ [])) (sym none)
      (lacks_so mode log numbers.index found))
  refused_done mode numbers fault stub state log own found after (inr (made, some, (why, by, ends))) =
      let told : state ≡ Telling (Refused why) =
      subst (λ (r : Option Refusal). MatchOption r (state ≡ Told (Some NoMemory)) (λ w. state ≡ Telling (Refused w))) by after in
      subst (λ (t : DeedState). HasDone set at act task t (log ++ Turned numbers.index (noted stub) NoneShown ∷ [])) (sym told)
      (subst (λ (s : Option Stub). HasDone set at act task (Telling (Refused why)) (log ++ Turned numbers.index (noted s) NoneShown ∷ [])) (sym some)
      (ready_so mode (Refused why) log numbers.index (Some (note_of made)) found
      (inr (inl (ends_so at mode now (λ done. done ≡ act) (Refused why) log numbers.index made (looked_of at.bucket mode log found) ends)))))

  -- either
  abbrev pub CommitDue : Mode → SlotNumbers → Result Committed SlotFault → Option Stub → Type 0
  CommitDue mode numbers (Ok made) stub = DoneSo numbers.index at mode act now made.done (deed_in (entry_of stub))
  CommitDue mode numbers (Err fault) stub = (why : KeyRefusal) → fault ≡ KeyFault why
      → DoneSo numbers.index at mode act now (Refused (refusal_of why)) (deed_in (entry_of stub))

  pub commit_done : (mode : Mode) (numbers : SlotNumbers) (answer : Result Committed SlotFault) (stub : Option Stub) (state : DeedState) (log : Log)
      → numbers.index ≡ key_slot at → HasFound at.bucket mode log → StubOfEntry numbers answer stub
      → Says stub (SaysCommit (key_deed at act mode) now answer) → CommitDue mode numbers answer stub → AfterCommit answer state
      → HasDone set at act task state (log ++ Turned numbers.index (noted stub) NoneShown ∷ [])
  commit_done mode numbers (Ok made) stub state log own found x says due after =
      subst (λ (t : DeedState). HasDone set at act task t (log ++ Turned numbers.index (noted stub) NoneShown ∷ [])) (sym after)
      (done_commit mode numbers made stub log own found x says due)
  commit_done mode numbers (Err fault) stub state log own found x says due after = refused_done mode numbers fault stub state log own found after
      (refused_commit at mode act now numbers own fault stub x says due)

  -- it can't be done
  pub commit_barred : (mode : Mode) (log : Log) (why : Barred) → HasFound at.bucket mode log
      → HasDone set at act task (barred_state why) (log ++ BarredFrom (key_slot at) why ∷ [])
  commit_barred mode log barred.Spent found =
      let bar = key_bars at mode log (key_slot at) barred.Spent found in
      record {
        untold = bar.0.untold;
        uncut = bar.0.uncut;
        owed = owes_of set at ask now (Refused SeqSpent) (log ++ BarredFrom (key_slot at) barred.Spent ∷ []) bar.0.untaken (inr (inr (bar.1 refl refl)));
      }
  commit_barred mode log barred.NoMemory found =
      fresh_pays set task (log ++ BarredFrom (key_slot at) barred.NoMemory ∷ []) (key_bars at mode log (key_slot at) barred.NoMemory found).0

  -- ---- the reply

  pub tell_done : {T : Type 0} (takes breaks : Effect T) (reply : Reply) (log : Log) (cut : Option Cut) (old new : TellerSeen T)
      → HasDone set at act task (Telling reply) log → TellMoves takes breaks (TheHead reply) cut old new
      → HasDone set at act task (Told cut) (log ++ ToldEvent (TheHead reply) cut ∷ [])
  tell_done takes breaks reply log cut old new ready moves =
      told_pays takes breaks set task reply log cut old new (gives_none set at ask reply []).1 (λ more. (gives_none set at ask reply more).0) ready moves
