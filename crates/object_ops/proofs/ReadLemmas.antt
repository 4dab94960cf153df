-- The sections of a HeadObject and a GetObject, and a telling that no bytes follow, as an op does them.
use Rattle.std.proofs.Common.{◌≡◌, ◌<◌, ◌⊎◌, ◌∙◌, ℕ, Bool, true, false, List, [], ◌∷◌, ◌++◌, Option, Some, None, Result, Ok, Err, IfOk, length, inl, inr, ap, refl, subst, sym, arith}
use Rattle.call_types.specs.declared.feed.Cut.{Cut}
use Rattle.call_types.specs.declared.feed.Cut.TheVariants.{NoMemory}
use Rattle.call_types.specs.declared.names.Key.{Key}
use Rattle.call_types.specs.declared.names.Mode.{Mode}
use Rattle.call_types.specs.declared.names.Pick.{Pick}
use Rattle.call_types.specs.declared.names.RangeAsk.{RangeAsk}
use Rattle.call_types.specs.declared.names.VersionName.{VersionName}
use Rattle.call_types.specs.declared.refusal.Refusal.{Refusal}
use Rattle.call_types.specs.declared.refusal.Refusal.TheVariants.{InvalidRange, PreconditionFailed, SeqSpent}
use Rattle.call_types.specs.declared.reply.Reply.{Reply}
use Rattle.call_types.specs.declared.reply.Reply.TheVariants as reply_of
use Rattle.call_types.specs.declared.version.Version.{Version}
use Rattle.desk_base.specs.Answering.{Task}
use Rattle.desk_base.specs.Telling.{Effect}
use Rattle.desk_base.specs.Telling.Telling.{Head as TheHead}
use Rattle.drive_base.specs.View.{DriveView, views}
use Rattle.drive_base.specs.declared.drive.Drive.{Ghosts}
use Rattle.drive_base.specs.declared.plan.SetPlan.{SetPlan}
use Rattle.fault_base.specs.declared.memory.NoMemory.{NoMemory as NoRoom}
use Rattle.slot_core.specs.Sections.{SaysRead}
use Rattle.slot_core.specs.Stubs.{Says}
use Rattle.slot_core.specs.declared.slot.SlotFault.{SlotFault}
use Rattle.slot_core.specs.declared.holding.Pin.{Pin}
use Rattle.slot_core.specs.declared.read_plan.ReadStart.{ReadStart}
use Rattle.slot_core.specs.declared.stub.Stub.{Stub}
use Rattle.receipts.specs.Events.{IsQuiet, Log}
use Rattle.receipts.specs.Events.Event.{BarredFrom, Turned}
use Rattle.receipts.specs.Events.Shown.{NoneShown}
use Rattle.receipts.specs.Paying.{Pays}
use Rattle.receipts.specs.Reading.{ConditionFails, EndsBeforeRead, GetIsTold, HeadIsTold, ReadsKey, is_met}
use Rattle.receipts.specs.Registers.{bucket_register, bucket_slot, key_slot}
use Rattle.receipts.specs.Spans.{whole_of}
use Rattle.receipts.specs.declared.barred.Barred.{Barred}
use Rattle.receipts.specs.declared.barred.Barred.TheVariants as barred
use Rattle.receipts.proofs.PayLemmas.{quiet_pays}
use Rattle.receipts.proofs.RegisterLemmas.{key_slot_below}
use Rattle.op_steps.specs.BucketLooks.{LooksSo}
use Rattle.op_steps.specs.Claims.{Claim, no_claim}
use Rattle.op_steps.specs.Moves.{TellMoves, TurnMoves}
use Rattle.op_steps.specs.Notes.{noted}
use Rattle.op_steps.specs.Ready.{IsReady}
use Rattle.op_steps.specs.Store.{SlotSeen, TellerSeen}
use Rattle.op_steps.specs.Words.{BarredSo, IsSection, LetsGo, TellsSo, TurnsSo}
use Rattle.op_steps.specs.declared.looking.Look.{Look}
use Rattle.op_steps.specs.declared.looking.Looked.{Looked}
use Rattle.op_steps.specs.declared.looking.Looked.TheVariants as looked_of
use Rattle.object_ops.specs.Read.{Fetches, IsBare, Looks, Plans, ReadStands, barred_after, ending_of, step_of}
use Rattle.object_ops.specs.ReadStands.{Begins, IsNewRead, StandsFor, read_task, task_by}
use Rattle.object_ops.specs.Reading.{HasPin, HoldsNone, HoldsPin, HoldsStart, IsFresh, IsPinClaim, pinned_claim}
use Rattle.object_ops.specs.ReadingPlan.{IsEmpty, IsInvalid, IsOfAsk, IsToldAlone, IsUnread, PlansSo, StartsSo}
use Rattle.object_ops.specs.ReadingTold.{HasTold}
use Rattle.object_ops.specs.declared.read_op.ReadOp.{ReadOp}
use Rattle.object_ops.specs.declared.read_outcome.Begun.{Begun}
use Rattle.op_steps.proofs.TellLemmas.{told_pays}
use Rattle.object_ops.specs.declared.read_op.ReadKind.{ReadKind}
use Rattle.object_ops.specs.declared.read_op.ReadKind.TheVariants as asks
use Rattle.object_ops.specs.declared.read_op.ReadState.{ReadState}
use Rattle.object_ops.specs.declared.read_op.ReadState.TheVariants.{Beginning, Ending, Fetching, Giving, Looking, Over, Telling}
use Rattle.object_ops.specs.declared.reading.Reading.{Reading}
use Rattle.object_ops.specs.declared.reading.Planned.{Planned}
use Rattle.object_ops.specs.declared.reading.Planned.TheVariants as planned_of
use Rattle.object_ops.specs.declared.reading.Started.{Started}
use Rattle.object_ops.specs.declared.reading.Started.TheVariants as started_of
use Rattle.object_ops.proofs.ReadingBars.{bar_fresh, bar_lets_go, key_bars, slot_in}
use Rattle.object_ops.proofs.ReadingCalls.{logged_all}
use Rattle.object_ops.proofs.ReadingLook.{AfterLook, bars, looks}
use Rattle.object_ops.proofs.ReadingPays.{head_owed, ready}
use Rattle.object_ops.proofs.ReadingSpans.{none_logged, none_of_version}
use Rattle.object_ops.proofs.ReadingStart.{AfterStart, IsDueBy, RefusesRead, starts}
use Rattle.object_ops.proofs.ReadingTell.{fresh_pays, one_all}
use Rattle.object_ops.proofs.ReadingTurn.{BeginSays, EndSays, begin_turn, end_turn}

-- what is told of what the read of a key was replied
abbrev IsToldSo : SetPlan → Key → Pick → ReadKind → Option (List ℕ) → Reply → Log → Type 0
IsToldSo set at pick asks.Head matches reply log = HeadIsTold at pick matches reply log
IsToldSo set at pick (asks.Get ask) matches reply log = GetIsTold set at pick ask matches reply log

module _ (set : SetPlan) (at : Key) (pick : Pick) (matches : Option (List ℕ)) (now : ℕ) where
  -- a reply is owed
  owes : (kind : ReadKind) (reply : Reply) (log : Log) → IsFresh log → EndsBeforeRead at reply log ⊎ IsToldSo set at pick kind matches reply log
      → IsReady set (task_by at pick kind matches now) reply log
  owes asks.Head reply log fresh owed = record { untold = fresh.untold; uncut = fresh.uncut; owed = (ap length fresh.untaken, owed) }
  owes (asks.Get ask) reply log fresh owed = ready set at pick ask matches now reply log fresh owed

  -- a refusal of the read is told as it is
  told_refused : (kind : ReadKind) (why : Refusal) (log : Log) → ReadsKey at pick (reply_of.Refused why) log
      → IsToldSo set at pick kind matches (reply_of.Refused why) log
  told_refused asks.Head why log reads = record { whole = reply_of.Refused why; reads = reads; tells = refl }
  told_refused (asks.Get ask) why log reads = record { whole = reply_of.Refused why; reads = reads; tells = refl }

  module _ (version : Version) (id : Option VersionName) (told : Reply) (log : Log) (fresh : IsFresh log)
      (reads : ReadsKey at pick (reply_of.Found version (whole_of version) id) log) where
    -- so is that of a condition that fails
    told_unmet : (kind : ReadKind) → ConditionFails matches version told → IsToldSo set at pick kind matches told log
    told_unmet asks.Head fails = record { whole = reply_of.Found version (whole_of version) id; reads = reads; tells = inl fails }
    told_unmet (asks.Get ask) fails = record { whole = reply_of.Found version (whole_of version) id; reads = reads; tells = inl fails }

    module _ (met : is_met matches version.what ≡ true) where
      -- a HeadObject is told the version with its whole body
      whole_bare : told ≡ reply_of.Found version (whole_of version) id → IsBare set (task_by at pick asks.Head matches now) told log
      whole_bare is = subst (λ r. IsBare set (task_by at pick asks.Head matches now) r log) (sym is) (record {
        ready = owes asks.Head (reply_of.Found version (whole_of version) id) log fresh
            (inr (record { whole = reply_of.Found version (whole_of version) id; reads = reads; tells = inr (met, refl) }));
        none_after = refl;
        gives = λ more. refl;
      })

      -- a GetObject is told that its range is invalid
      invalid_bare : (ask : RangeAsk) → IsInvalid version ask told → IsBare set (task_by at pick (asks.Get ask) matches now) told log
      invalid_bare ask x = subst (λ r. IsBare set (task_by at pick (asks.Get ask) matches now) r log) (sym x.told) (record {
        ready = ready set at pick ask matches now (reply_of.Refused (InvalidRange x.invalid.0)) log fresh (inr (record {
          whole = reply_of.Found version (whole_of version) id;
          reads = reads;
          tells = inr (met, inr (record { invalid = x.invalid; plans = x.plans; told = refl }));
        }));
        none_after = refl;
        gives = λ more. refl;
      })

      -- or the head of an empty span
      empty_bare : (ask : RangeAsk) → IsEmpty version id ask told → IsBare set (task_by at pick (asks.Get ask) matches now) told log
      empty_bare ask x = subst (λ r. IsBare set (task_by at pick (asks.Get ask) matches now) r log) (sym x.told) (record {
        ready = head_owed set at pick ask matches now version x.span id [] log x.plans (record { fresh = fresh; reads = reads; met = met; none = refl });
        none_after = sym x.empty;
        gives = λ more. none_of_version set version.what x.span x.wanted more x.is_wanted;
      })

      alone_bare : (kind : ReadKind) → IsToldAlone kind version id told → IsBare set (task_by at pick kind matches now) told log
      alone_bare asks.Head is = whole_bare is
      alone_bare (asks.Get ask) (inl invalid) = invalid_bare ask invalid
      alone_bare (asks.Get ask) (inr empty) = empty_bare ask empty

      -- a reading of which nothing is read
      unread : (kind : ReadKind) (r : Reading) → IsOfAsk set kind version id r → IsUnread r
          → Fetches set (task_by at pick kind matches now) at pick kind (Some r) log
      unread asks.Head r is x = absurd is
      unread (asks.Get ask) r is x = record {
        version = version;
        id = id;
        of_span = is;
        told = record { before = []; since = [] };
        given = [];
        account = x.none;
        all_logged = none_logged log;
        logged = logged_all (record { before = []; since = [] }) log refl (none_logged log);
        counted = omega (arith, x.left);
        more = omega (arith, x.left, x.some);
        some = λ told. absurd (not_both r.told x.untold told);
        has_told = subst (λ t. HasTold set (task_by at pick (asks.Get ask) matches now) at pick version r.span id t [] log) (sym x.untold)
            (record { fresh = fresh; reads = reads; met = met; none = refl });
      }
        where
          is_false : Bool → Type 0
          is_false true = ⊥
          is_false false = Unit {0}

          not_both : (b : Bool) → b ≡ false → b ≡ true → ⊥
          not_both b off on = subst is_false (sym off ∙ on) tt

module _ (set : SetPlan) (at : Key) (pick : Pick) (kind : ReadKind) (matches : Option (List ℕ)) (now : ℕ) where
  abbrev task : Task
  task = task_by at pick kind matches now

  abbrev Stands : ReadState → Option Pin → Option Reading → Claim → Log → Type 0
  Stands state pin reading claim log = ReadStands set task at pick kind state pin reading claim log

  holds_none : (pin : Option Pin) (claim : Claim) → HoldsNone (key_slot at) pin claim → HoldsPin (key_slot at) pin claim
  holds_none pin claim none = subst (λ p. HoldsPin (key_slot at) p claim) (sym none.0) none.1

  lets_go : (claim : Claim) (log : Log) → claim ≡ no_claim (key_slot at) → LetsGo claim log
  lets_go claim log none = inl (subst (λ (c : Claim). c ≡ no_claim c.slot) (sym none) refl)

  -- a refusal is told alone
  refusal_bare : (why : Refusal) (log : Log) → IsFresh log
      → EndsBeforeRead at (reply_of.Refused why) log ⊎ IsToldSo set at pick kind matches (reply_of.Refused why) log → IsBare set task (reply_of.Refused why) log
  refusal_bare why log fresh owed = record { ready = owes set at pick matches now kind (reply_of.Refused why) log fresh owed; none_after = refl; gives = λ more. refl }

  -- after the look
  look_stands : (looked : Looked) (later : ReadState) (pin : Option Pin) (reading : Option Reading) (claim : Claim) (log : Log) → Looks looked later
      → HoldsNone (key_slot at) pin claim → AfterLook at.bucket looked log → Stands later pin reading claim log
  look_stands (looked_of.There mode) later pin reading claim log is none x = subst (λ s. Stands s pin reading claim log) (sym is) (none, x)
  look_stands (looked_of.Refused why) later pin reading claim log is none x = subst (λ s. Stands s pin reading claim log) (sym is)
      (holds_none pin claim none, refusal_bare why log x.0 (inl (inl x.1)))
  look_stands looked_of.LacksMemory later pin reading claim log is none x = subst (λ s. Stands s pin reading claim log) (sym is)
      (lets_go claim log none.1, fresh_pays set task log x)

  -- ---- after the begin of the read

  unmet_bare : (version : Version) (id : Option VersionName) (told : Reply) (log : Log) → IsFresh log
      → ReadsKey at pick (reply_of.Found version (whole_of version) id) log → ConditionFails matches version told → IsBare set task told log
  unmet_bare version id told log fresh reads x = subst (λ r. IsBare set task r log) (sym x.told)
      (refusal_bare PreconditionFailed log fresh (inr (told_unmet set at pick matches now version id (reply_of.Refused PreconditionFailed) log fresh reads kind
      (record { unmet = x.unmet; told = refl }))))

  -- what was planned
  plan_stands : (version : Version) (id : Option VersionName) (made : Planned) (later : ReadState) (pin : Pin) (reading : Option Reading) (claim : Claim) (log : Log)
      → PlansSo set version id kind matches made → Plans made later reading → IsPinClaim (key_slot at) pin claim → IsFresh log
      → ReadsKey at pick (reply_of.Found version (whole_of version) id) log → Stands later (Some pin) reading claim log
  plan_stands version id (planned_of.Tells told) later pin reading claim log (inl unmet) is holds fresh reads =
      subst (λ s. Stands s (Some pin) reading claim log) (sym is.0) (holds, unmet_bare version id told log fresh reads unmet)
  plan_stands version id (planned_of.Tells told) later pin reading claim log (inr alone) is holds fresh reads =
      subst (λ s. Stands s (Some pin) reading claim log) (sym is.0)
      (holds, alone_bare set at pick matches now version id told log fresh reads alone.0 kind alone.1)
  plan_stands version id (planned_of.Reads r) later pin reading claim log so is holds fresh reads =
      subst (λ s. Stands s (Some pin) reading claim log) (sym is.0)
      (subst (λ o. Stands Fetching (Some pin) o claim log) (sym is.1)
      (holds, unread set at pick matches now version id (reply_of.Found version (whole_of version) id) log fresh reads so.0 kind r so.1 so.2))
  plan_stands version id planned_of.LacksMemory later pin reading claim log so is holds fresh reads =
      subst (λ s. Stands s (Some pin) reading claim log) (sym is.0) (holds, fresh_pays set task log fresh)

  -- a refusal of the read
  refused_owed : (why : Refusal) (log : Log) → RefusesRead at pick why log
      → EndsBeforeRead at (reply_of.Refused why) log ⊎ IsToldSo set at pick kind matches (reply_of.Refused why) log
  refused_owed why log (inl before) = inl before
  refused_owed why log (inr reads) = inr (told_refused set at pick matches now kind why log reads)

  start_stands : (started : Started) (answer : Result ReadStart SlotFault) (mode : Mode) (begun : Begun) (claim : Claim) (log : Log)
      → Begins set kind matches started begun → StartsSo mode answer started → HoldsStart (key_slot at) answer claim → AfterStart at pick started log
      → Stands begun.state begun.pin begun.reading claim log
  start_stands (started_of.Found version id own) (Ok start) mode begun claim log is so holds x =
      subst (λ p. Stands begun.state p begun.reading claim log) (sym is.0)
      (plan_stands version id is.1.0 begun.state own begun.reading claim log is.1.1 is.1.2 (subst (λ p. IsPinClaim (key_slot at) p claim) (sym so.2) holds) x.0 x.1)
  start_stands (started_of.Found version id own) (Err fault) mode begun claim log is so holds x = absurd so
  start_stands (started_of.Refused why) (Ok start) mode begun claim log is so holds x = absurd so
  start_stands (started_of.Refused why) (Err fault) mode begun claim log is so holds x =
      subst (λ s. Stands s begun.pin begun.reading claim log) (sym is.1)
      (subst (λ p. HoldsPin (key_slot at) p claim) (sym is.0) holds, refusal_bare why log x.0 (refused_owed why log x.1))
  start_stands started_of.LacksMemory (Ok start) mode begun claim log is so holds x = absurd so
  start_stands started_of.LacksMemory (Err fault) mode begun claim log is so holds x =
      subst (λ s. Stands s begun.pin begun.reading claim log) (sym is.1) (lets_go claim log holds, fresh_pays set task log x)

  -- ---- a section that can't be done

  pub barred_so : (state : ReadState) (pin : Option Pin) (reading : Option Reading) (why : Barred)
      → BarredSo (ReadStands set task at pick kind state pin reading) (ReadStands set task at pick kind (barred_after state why) pin reading) (step_of state at) why
  barred_so Looking pin reading barred.Spent claim log k next x = (
    holds_none pin claim x.0,
    subst (λ l. IsBare set task (reply_of.Refused SeqSpent) (l ++ BarredFrom k barred.Spent ∷ [])) (sym x.1)
        (subst (λ i. IsBare set task (reply_of.Refused SeqSpent) (BarredFrom i barred.Spent ∷ [])) (ap slot_in next)
        (refusal_bare SeqSpent _ (bar_fresh (bucket_slot at.bucket) barred.Spent) (inl (inl (bars at.bucket))))),
  )
  barred_so Looking pin reading barred.NoMemory claim log k next x = (
    lets_go claim _ x.0.1,
    subst (λ l. Pays set task (Some NoMemory) (l ++ BarredFrom k barred.NoMemory ∷ [])) (sym x.1)
        (fresh_pays set task (BarredFrom k barred.NoMemory ∷ []) (bar_fresh k barred.NoMemory)),
  )
  barred_so (Beginning mode) pin reading barred.Spent claim log k next x = (
    holds_none pin claim x.0,
    let bar = key_bars at mode log k barred.Spent x.1 in
        refusal_bare SeqSpent _ bar.0 (inl (inr (inr (bar.1 refl (ap slot_in next))))),
  )
  barred_so (Beginning mode) pin reading barred.NoMemory claim log k next x = (
    lets_go claim _ x.0.1,
    let bar = key_bars at mode log k barred.NoMemory x.1 in
        fresh_pays set task _ bar.0,
  )
  barred_so (Telling reply) pin reading why claim log k next x = absurd (subst IsSection (sym next) tt)
  barred_so Fetching pin reading why claim log k next x = absurd (subst IsSection (sym next) tt)
  barred_so Giving pin reading why claim log k next x = absurd (subst IsSection (sym next) tt)
  barred_so (Ending cut) pin reading why claim log k next x = (
    bar_lets_go (key_slot at) k pin claim log why (ap slot_in next) x.0,
    quiet_pays set task cut log (BarredFrom k why ∷ []) (one_all IsQuiet (BarredFrom k why) tt) x.1,
  )
  barred_so (Over cut) pin reading why claim log k next x = absurd (subst IsSection (sym next) tt)

  -- ---- a telling that no bytes follow

  tell_stands : (pin : Option Pin) (reading : Option Reading) (cut : Option Cut) (claim : Claim) (log : Log) → HoldsPin (key_slot at) pin claim → Pays set task cut log
      → Stands (ending_of pin cut) pin reading claim log
  tell_stands None reading cut claim log holds pays = (lets_go claim log holds, pays)
  tell_stands (Some pin) reading cut claim log holds pays = (holds, pays)

  pub tell_so : {T : Type 0} (takes breaks : Effect T) (reply : Reply) (pin : Option Pin) (reading : Option Reading) (cut : Option Cut) (old new : TellerSeen T)
      → TellMoves takes breaks (TheHead reply) cut old new
      → TellsSo takes breaks (ReadStands set task at pick kind (Telling reply) pin reading) (ReadStands set task at pick kind (ending_of pin cut) pin reading) old new
  tell_so takes breaks reply pin reading cut old new moves claim log x = (
    TheHead reply,
    cut,
    tell_stands pin reading cut claim _ x.0
        (told_pays takes breaks set task reply log cut old new x.1.none_after x.1.gives x.1.ready moves),
    moves,
  )

  -- ---- the sections

  module _ {D : Type 0} (ghosts : Ghosts D) (was after : SlotSeen D) where
    -- the look
    pub look_so : (name : List ℕ) (pin : Option Pin) (reading : Option Reading) (state later : ReadState) (look : Look) (old new : List DriveView) → state ≡ Looking
        → was.numbers.index ≡ bucket_slot at.bucket → name ≡ bucket_register at.bucket → LooksSo ghosts name was after look old new
        → Looks look.looked later
        → TurnsSo ghosts (ReadStands set task at pick kind state pin reading) (ReadStands set task at pick kind later pin reading) look.stub was after old new
    look_so name pin reading state later look old new is index named says goes claim log y =
        let x = subst (λ s. Stands s pin reading claim log) is y in (
          claim,
          says.shown,
          subst (λ l. Stands later pin reading claim (l ++ Turned was.numbers.index (noted look.stub) says.shown ∷ [])) (sym x.1)
              (look_stands look.looked later pin reading claim _ goes x.0
              (looks at.bucket look.looked was.numbers.index look.stub says.shown (says.says at.bucket named index))),
          says.turns claim,
        )

  module _ {D : Type 0} (ghosts : Ghosts D) (was after : SlotSeen D) where
    -- the begin of the read
    pub begin_so : (mode : Mode) (held : Option Pin) (reading : Option Reading) (state : ReadState) (begun : Begun) (answer : Result ReadStart SlotFault)
        (started : Started) (stub : Option Stub) (old new : List D) → state ≡ Beginning mode → was.numbers.index ≡ key_slot at
        → BeginSays ghosts was after at mode pick answer stub old new
        → Says stub (SaysRead at mode pick answer) → IsDueBy mode pick answer → StartsSo mode answer started → Begins set kind matches started begun
        → TurnsSo ghosts (ReadStands set task at pick kind state held reading)
        (ReadStands set task at pick kind begun.state begun.pin begun.reading) stub was after (views ghosts old) (views ghosts new)
    begin_so mode held reading state begun answer started stub old new is index says said due so goes claim log y =
        let x = subst (λ s. Stands s held reading claim log) is y in
        let turn = begin_turn ghosts was after at mode pick answer stub old new says in (
          turn.0,
          NoneShown,
          start_stands started answer mode begun turn.0 _ goes so (subst (λ i. HoldsStart i answer turn.0) index turn.1)
              (starts at mode pick was.numbers log x.1 index answer stub started says.turns.stub_is said due so),
          subst (λ c. TurnMoves ghosts was after (noted stub) NoneShown c turn.0 (views ghosts old) (views ghosts new))
              (ap no_claim index ∙ sym x.0.1) turn.2,
        )

  module _ {D T : Type 0} (ghosts : Ghosts D) (was after : SlotSeen D) where
    -- the end of the read
    pub end_so : (cut : Option Cut) (pin : Pin) (held left : Option Pin) (reading : Option Reading) (state : ReadState) (answer : Result T SlotFault) (stub : Option Stub)
        (disks : List DriveView)
        → state ≡ Ending cut → held ≡ Some pin → was.numbers.index ≡ key_slot at → stub ≡ None → EndSays ghosts was after pin.ticket answer stub
        → TurnsSo ghosts (ReadStands set task at pick kind state held reading) (ReadStands set task at pick kind (Over cut) left reading) stub was after disks disks
    end_so cut pin held left reading state answer stub disks is held_is index none says claim log y =
        let x = subst (λ p. HasPin (key_slot at) p claim × Pays set task cut log) held_is (subst (λ s. Stands s held reading claim log) is y) in
        let says_none : EndSays ghosts was after x.0.pinned.ticket answer None =
        subst (λ t. EndSays ghosts was after t answer None) (sym x.0.ticket) (subst (λ s. EndSays ghosts was after pin.ticket answer s) none says) in (
          no_claim (key_slot at),
          NoneShown,
          subst (λ s. Stands (Over cut) left reading (no_claim (key_slot at)) (log ++ Turned was.numbers.index (noted s) NoneShown ∷ [])) (sym none)
              (inl refl, quiet_pays set task cut log (Turned was.numbers.index None NoneShown ∷ []) (one_all IsQuiet (Turned was.numbers.index None NoneShown) tt) x.1),
          subst (λ s. TurnMoves ghosts was after (noted s) NoneShown claim (no_claim (key_slot at)) disks disks) (sym none)
              (subst (λ c. TurnMoves ghosts was after None NoneShown c (no_claim (key_slot at)) disks disks)
              (ap (λ i. pinned_claim i x.0.pinned) index ∙ sym x.0.claim_is)
              (subst (λ i. TurnMoves ghosts was after None NoneShown (pinned_claim was.numbers.index x.0.pinned) (no_claim i) disks disks) index
              (end_turn ghosts was after x.0.pinned answer disks x.0.purpose says_none))),
        )

-- what an op stands for that has done nothing yet
abbrev pub StandsAtFirst : ReadOp → Type 0
StandsAtFirst op = (slot : ℕ) × (slot < 64) × StandsFor op (no_claim slot) []

pub begins : (set : SetPlan) (at : Key) (pick : Pick) (kind : ReadKind) (matches : Option (List ℕ)) (now : ℕ) (result : Result ReadOp NoRoom)
    → IfOk result (IsNewRead set at pick kind matches now) → IfOk result StandsAtFirst
begins set at pick kind matches now (Ok op) is = (
  key_slot op.at,
  key_slot_below op.at,
  subst (λ state. ReadStands op.set (read_task op) op.at op.pick op.kind state op.pin op.reading (no_claim (key_slot op.at)) []) (sym is.state_is) ((is.pin_is, refl), refl),
)
begins set at pick kind matches now (Err fault) is = tt
