-- The section that ends a put, as an op does it: its body is committed, or it is given up.
use Rattle.std.proofs.Common.{◌≡◌, ◌∙◌, ℕ, List, [], ◌∷◌, ◌++◌, Option, Some, None, Result, Ok, Err, MatchOption, length, inl, inr, sym, ap, subst, arith}
use Rattle.call_types.specs.declared.feed.Cut.{Cut}
use Rattle.call_types.specs.declared.feed.Cut.TheVariants as cut
use Rattle.call_types.specs.declared.refusal.Refusal.{Refusal}
use Rattle.call_types.specs.declared.reply.Reply.{Reply}
use Rattle.call_types.specs.declared.reply.Reply.TheVariants.{Refused}
use Rattle.drive_base.specs.View.{DriveView, views}
use Rattle.drive_base.specs.declared.drive.Drive.{Ghosts}
use Rattle.drive_base.specs.declared.plan.SetPlan.{SetPlan}
use Rattle.put_stage.specs.declared.answers.Staged.{Staged}
use Rattle.put_stage.specs.declared.answers.StageFault.{StageFault}
use Rattle.slot_history.specs.Names.{key_name}
use Rattle.slot_rules.specs.declared.commit.Committed.{Committed}
use Rattle.slot_core.specs.CommitCauses.{CommitCause, deed_in}
use Rattle.slot_core.specs.Commits.{SaysCommit}
use Rattle.slot_core.specs.Stubs.{Says, StubOfEntry, entry_of}
use Rattle.slot_core.specs.Views.{SlotNumbers}
use Rattle.slot_core.specs.declared.slot.SlotFault.{SlotFault}
use Rattle.slot_core.specs.declared.holding.Flight.{Flight}
use Rattle.slot_core.specs.declared.stub.Stub.{Stub}
use Rattle.receipts.specs.Events.{IsQuiet, Log, body_of}
use Rattle.receipts.specs.Events.Event.{Turned}
use Rattle.receipts.specs.Events.Shown.{NoneShown}
use Rattle.receipts.specs.Paying.{Pays}
use Rattle.receipts.specs.Registers.{key_slot}
use Rattle.receipts.proofs.GrowLemmas.{quiet_grows}
use Rattle.receipts.proofs.OweLemmas.{call_owes}
use Rattle.op_steps.specs.Claims.{Claim, no_claim}
use Rattle.op_steps.specs.Notes.{note_of, noted}
use Rattle.op_steps.specs.Ready.{IsReady}
use Rattle.op_steps.specs.Store.{SlotSeen}
use Rattle.op_steps.specs.Words.{TurnsSo}
use Rattle.op_steps.proofs.TellLemmas.{cuts_after, none_pays, none_told}
use Rattle.object_ops.specs.Clearing.{HasNone, with_taken, files_of, ids_of}
use Rattle.object_ops.specs.Put.{PutAsk, task_of}
use Rattle.object_ops.specs.PutStands.{HoldsRest, PutStandsAt, Stages}
use Rattle.object_ops.specs.PutOutcome.{AfterCommit, Answers, refusal_of_stage}
use Rattle.object_ops.specs.PutTarget.{deed_of, key_of}
use Rattle.object_ops.specs.declared.clearing.Clearing.{Clearing}
use Rattle.object_ops.specs.declared.put_state.PutState.{PutState}
use Rattle.object_ops.specs.declared.put_state.PutState.TheVariants as state
use Rattle.object_ops.specs.declared.put_state.Work.{Work}
use Rattle.object_ops.specs.declared.data_files.Removal.{Removal}
use Rattle.slot_rules.specs.declared.commit.Commit.{Commit}
use Rattle.body_print.specs.Prints.{HasPrint}
use Rattle.object_ops.proofs.PutTargets.{owes_call}
use Rattle.object_ops.proofs.PutDeeds.{EndsPut, HasStaged, done_ends, puts_so, refused_ends, same_body, turned}
use Rattle.object_ops.proofs.PutStaged.{is_staged}
use Rattle.object_ops.proofs.PutCommits.{PutSays, commit_turn, put_claim}
use Rattle.object_ops.proofs.PutEnds.{DropSays, drop_turn}
use Rattle.object_ops.proofs.PutLogs.{put_agrees, stage_owes}
use Rattle.object_ops.proofs.PutStepClaims.{looked_on}
use Rattle.object_ops.proofs.ReadingTell.{one_all}
use Rattle.object_ops.proofs.TellingLemmas.{pays_on, untold_after}

module _ (ask : PutAsk) (read : ℕ) where
  abbrev Stands : Clearing → PutState → Claim → Log → Type 0
  Stands clearing is claim log = PutStandsAt ask read clearing is claim log

  -- nothing is left to remove once trash is taken next
  rest_begun : (clearing begun : Clearing) (index : ℕ) (log : Log) → HasNone clearing → begun.queue.items ≡ clearing.queue.items → index ≡ key_slot (key_of ask.target)
      → HoldsRest (key_slot (key_of ask.target)) begun (no_claim index) log
  rest_begun clearing begun index log none same own =
      inl (ap no_claim own ∙ ap (λ (q : List Removal). with_taken (no_claim (key_slot (key_of ask.target))) (ids_of (files_of q))) (sym (same ∙ none.queue)))

  -- ---- a put is given up

  pub drop_so : {D T : Type 0} (ghosts : Ghosts D) (clearing begun : Clearing) (one : PutState) (flight : Flight) (why : Cut) (was after : SlotSeen D)
      (answer : Result T SlotFault) (disks : List DriveView) → one ≡ state.Dropping flight why → begun.queue.items ≡ clearing.queue.items
      → was.numbers.index ≡ key_slot (key_of ask.target) → DropSays ghosts was after flight.id answer None
      → TurnsSo ghosts (Stands clearing one) (Stands begun (state.Told (Some why))) None was after disks disks
  drop_so ghosts clearing begun one flight why was after answer disks is same own says claim log x =
      let here = subst (λ (s : PutState). Stands clearing s claim log) is x in
      let mine : claim.slot ≡ was.numbers.index = here.1.slot_is ∙ sym own in (
        no_claim was.numbers.index,
        NoneShown,
        (
          rest_begun clearing begun was.numbers.index (turned was.numbers.index None log) here.0 same own,
          pays_on ask.set (task_of ask) (Some why) log (Turned was.numbers.index None NoneShown) tt here.2,
        ),
        drop_turn ghosts was after (record { id = flight.id; name = key_name (key_of ask.target) }) claim answer disks
            (put_claim (key_of ask.target) flight claim was.numbers.index mine here.1) says,
      )

  -- for what the stage refuses, or for want of memory
  pub refuse_so : {D T : Type 0} (ghosts : Ghosts D) (clearing begun : Clearing) (one : PutState) (work : Work) (why : Refusal) (refused : StageFault)
      (was after : SlotSeen D) (answer : Result T SlotFault) (disks : List DriveView) → one ≡ state.Staging work → read ≡ ask.long → work.stage.load.left ≡ 0
      → begun.queue.items ≡ clearing.queue.items → was.numbers.index ≡ key_slot (key_of ask.target) → refusal_of_stage refused ≡ Some why → Answers work.stage (Err refused)
      → DropSays ghosts was after work.flight.id answer None
      → TurnsSo ghosts (Stands clearing one) (Stands begun (state.Telling (Refused why))) None was after disks disks
  refuse_so ghosts clearing begun one work why refused was after answer disks is all whole same own refuses answers says claim log x =
      let here = subst (λ (s : PutState). Stands clearing s claim log) is x in
      let s = here.1 in
      let event = Turned was.numbers.index None NoneShown in
      let looked = looked_on (key_of ask.target).bucket work.mode log event tt s.looked in
      let mine : claim.slot ≡ was.numbers.index = s.held.slot_is ∙ sym own in
      let long = s.taken.long in
      let same_long = s.stage_of.long_is in (
        no_claim was.numbers.index,
        NoneShown,
        (
          rest_begun clearing begun was.numbers.index (log ++ event ∷ []) here.0 same own,
          record {
            untold = looked.untold;
            uncut = looked.uncut;
            owed = call_owes ask.set (task_of ask).call ask.now (Refused why) log (log ++ event ∷ []) (quiet_grows log (event ∷ []) (one_all IsQuiet event tt))
                (owes_call ask.target ask.set ask.stated ask.long ask.now (Refused why) log (omega (arith, whole, long, same_long))
                (stage_owes ask work claim log why refused s whole refuses answers));
          },
        ),
        drop_turn ghosts was after (record { id = work.flight.id; name = key_name (key_of ask.target) }) claim answer disks
            (put_claim (key_of ask.target) work.flight claim was.numbers.index mine s.held) says,
      )

  pub lacks_so : {D T : Type 0} (ghosts : Ghosts D) (clearing begun : Clearing) (one : PutState) (work : Work)
      (was after : SlotSeen D) (answer : Result T SlotFault) (disks : List DriveView) → one ≡ state.Staging work
      → begun.queue.items ≡ clearing.queue.items → was.numbers.index ≡ key_slot (key_of ask.target) → DropSays ghosts was after work.flight.id answer None
      → TurnsSo ghosts (Stands clearing one) (Stands begun (state.Told (Some cut.NoMemory))) None was after disks disks
  lacks_so ghosts clearing begun one work was after answer disks is same own says claim log x =
      let here = subst (λ (s : PutState). Stands clearing s claim log) is x in
      let s = here.1 in
      let event = Turned was.numbers.index None NoneShown in
      let looked = looked_on (key_of ask.target).bucket work.mode log event tt s.looked in
      let mine : claim.slot ≡ was.numbers.index = s.held.slot_is ∙ sym own in (
        no_claim was.numbers.index,
        NoneShown,
        (
          rest_begun clearing begun was.numbers.index (log ++ event ∷ []) here.0 same own,
          none_pays ask.set (task_of ask) (log ++ event ∷ []) looked.uncut (none_told (log ++ event ∷ []) looked.untold) (inl looked.idle),
        ),
        drop_turn ghosts was after (record { id = work.flight.id; name = key_name (key_of ask.target) }) claim answer disks
            (put_claim (key_of ask.target) work.flight claim was.numbers.index mine s.held) says,
      )

  -- ---- a put is committed

  module _ (work : Work) (staged : Staged) (claim : Claim) (log : Log) (s : Stages ask work claim log) (answers : Answers work.stage (Ok staged))
      (whole : work.stage.load.left ≡ 0) where
    abbrev deed : Commit
    deed = deed_of ask.target work.mode work.flight.id staged

    has_staged : HasStaged ask.set ask.target ask.stated work.mode work.flight.id staged log
    has_staged =
        let b = answers.body (body_of log) s.shards s.taken in
        record {
          agreed = put_agrees ask work claim log staged s answers;
          of_slot = s.held.of_slot;
          looked = s.looked;
          body_staged = is_staged ask work claim log staged s whole answers;
          printed = subst (λ (p : SetPlan). HasPrint p.drives p.parity (body_of log) staged.print) s.stage_of.set_is b.print;
          long = b.long;
          tag = b.etag;
        }

    -- a reply is owed once the commit says how the call ends
    ready_so : (reply : Reply) (k : ℕ) (made : Stub) → k ≡ key_slot (key_of ask.target) → EndsPut ask.target work.mode work.flight.id staged ask.now (note_of made) reply
        → IsReady ask.set (task_of ask) reply (turned k (Some (note_of made)) log)
    ready_so reply k made own ends =
        let body = same_body log k (Some (note_of made)) in
        let long = s.taken.long in
        let same_long = s.stage_of.long_is in
        record {
          untold = untold_after log (Turned k (Some (note_of made)) NoneShown) s.looked.untold tt;
          uncut = cuts_after log (Turned k (Some (note_of made)) NoneShown) s.looked.uncut;
          owed = owes_call ask.target ask.set ask.stated ask.long ask.now reply (turned k (Some (note_of made)) log)
              (ap length body ∙ omega (arith, whole, long, same_long))
              (inr (inl (puts_so ask.target ask.set ask.stated work.mode work.flight.id staged log ask.now reply k made own has_staged ends)));
        }

    -- want of memory leaves no note
    memory_so : (k : ℕ) → Pays ask.set (task_of ask) (Some cut.NoMemory) (turned k None log)
    memory_so k =
        let looked = looked_on (key_of ask.target).bucket work.mode log (Turned k None NoneShown) tt s.looked in
        none_pays ask.set (task_of ask) (turned k None log) looked.uncut (none_told (turned k None log) looked.untold) (inl looked.idle)

    pub commit_stands : {D : Type 0} (ghosts : Ghosts D) (begun : Clearing) (numbers after : SlotNumbers) (answer : Result Committed SlotFault) (stub : Option Stub)
        (later : PutState) (next : Claim) (old new disks disks_after : List D)
        → numbers.index ≡ key_slot (key_of ask.target) → StubOfEntry numbers answer stub → Says stub (SaysCommit deed ask.now answer)
        → CommitCause ghosts numbers after deed (Some work.flight.id) ask.now answer (deed_in (entry_of stub)) old new disks disks_after
        → AfterCommit answer later → ((l : Log) → HoldsRest (key_slot (key_of ask.target)) begun next l)
        → Stands begun later next (turned numbers.index (noted stub) log)
    commit_stands ghosts begun numbers after (Ok made) stub later next old new disks disks_after own x says cause then rest =
        subst (λ (t : PutState). Stands begun t next (turned numbers.index (noted stub) log)) (sym then)
        (subst (λ (b : Option Stub). Stands begun (state.Telling made.done) next (turned numbers.index (noted b) log)) (sym x.1) (
          rest (turned numbers.index (Some (note_of x.0)) log),
          ready_so made.done numbers.index x.0 own
              (done_ends ghosts work.mode work.flight.id staged ask.now numbers after (Some work.flight.id) stub old new disks disks_after
              ask.target made own x says cause),
        ))
    commit_stands ghosts begun numbers after (Err fault) stub later next old new disks disks_after own x says cause then rest =
        elim (refused_ends ghosts work.mode work.flight.id staged ask.now numbers after (Some work.flight.id) stub old new disks disks_after
        ask.target fault own x says cause) [
          | inl memory ↦
              let told : later ≡ state.Told (Some cut.NoMemory) = subst (λ (f : SlotFault). AfterCommit (Err f) later) memory.0 then in
              subst (λ (t : PutState). Stands begun t next (turned numbers.index (noted stub) log)) (sym told)
              (subst (λ (b : Option Stub). Stands begun (state.Told (Some cut.NoMemory)) next (turned numbers.index (noted b) log)) (sym memory.1)
              (rest (turned numbers.index None log), memory_so numbers.index))
          | inr refused ↦
              let why = refused.2.0 in
              let told : later ≡ state.Telling (Refused why) =
              subst (λ (r : Option Refusal). MatchOption r (later ≡ state.Told (Some cut.NoMemory)) (λ w. later ≡ state.Telling (Refused w))) refused.2.1 then in
              subst (λ (t : PutState). Stands begun t next (turned numbers.index (noted stub) log)) (sym told)
              (subst (λ (b : Option Stub). Stands begun (state.Telling (Refused why)) next (turned numbers.index (noted b) log)) (sym refused.1)
              (rest (turned numbers.index (Some (note_of refused.0)) log), ready_so (Refused why) numbers.index refused.0 own refused.2.2))
        ]

  pub commit_so : {D : Type 0} (ghosts : Ghosts D) (clearing begun : Clearing) (one later : PutState) (work : Work) (staged : Staged) (was after : SlotSeen D)
      (answer : Result Committed SlotFault) (stub : Option Stub) (old new : List D) → one ≡ state.Staging work → was.numbers.set ≡ ask.set → work.stage.load.left ≡ 0
      → begun.queue.items ≡ clearing.queue.items → was.numbers.index ≡ key_slot (key_of ask.target) → Answers work.stage (Ok staged)
      → PutSays ghosts was after (deed_of ask.target work.mode work.flight.id staged) ask.now work.flight answer stub old new
      → AfterCommit answer later
      → TurnsSo ghosts (Stands clearing one) (Stands begun later) stub was after (views ghosts old) (views ghosts new)
  commit_so ghosts clearing begun one later work staged was after answer stub old new is set_is whole same own answers says told claim log x =
      let here = subst (λ (s : PutState). Stands clearing s claim log) is x in
      let s = here.1 in
      let mine : claim.slot ≡ was.numbers.index = s.held.slot_is ∙ sym own in (
        no_claim was.numbers.index,
        NoneShown,
        commit_stands work staged claim log s answers whole ghosts begun was.numbers after.numbers answer stub later (no_claim was.numbers.index) was.lanes after.lanes old new own
            says.turns.stub_is says.says says.cause told (λ l. rest_begun clearing begun was.numbers.index l here.0 same own),
        commit_turn ghosts was after ask work.flight work.stage staged work.mode ask.now answer stub old new claim (body_of log) s.shards set_is mine s.stage_of s.taken
            whole answers s.held s.claims says,
      )
