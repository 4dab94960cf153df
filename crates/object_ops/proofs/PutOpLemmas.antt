-- The steps of a PutObject, as an op does them.
use Rattle.std.proofs.Common.{◌≡◌, ◌⊎◌, ◌∙◌, ◌<◌, ◌+◌, ℕ, true, false, List, [], ◌∷◌, ◌++◌, Option, Some, None, Result, Ok, Err, IfOk, append-nil, length, replicate, slice_index_or, inl, inr, refl, sym, ap, subst, subst₂, arith}
use Rattle.std.specs.Int.{IsBitSet}
use Rattle.std.proofs.lemmas.List.{get_or-replicate}
use Rattle.std.proofs.lemmas.List.Elements.{Contains-append_left}
use Rattle.call_types.specs.declared.feed.Cut.{Cut}
use Rattle.call_types.specs.declared.names.Mode.{Mode}
use Rattle.fault_base.specs.declared.memory.NoMemory.{NoMemory}
use Rattle.call_types.specs.declared.reply.Reply.{Reply}
use Rattle.desk_base.specs.Telling.{Effect}
use Rattle.desk_base.specs.Telling.Telling.{Head as TheHead}
use Rattle.drive_base.specs.View.{DriveView, views}
use Rattle.drive_base.specs.declared.drive.Drive.{Ghosts}
use Rattle.drive_base.specs.declared.plan.SetPlan.{SetPlan}
use Rattle.put_stage.specs.TakenBodies.{HasTaken}
use Rattle.put_stage.specs.Work.{AtWork, why_at}
use Rattle.slot_history.specs.Names.{key_name}
use Rattle.slot_history.specs.Standing.{Flying}
use Rattle.slot_core.specs.Stubs.{StubOfNone}
use Rattle.slot_core.specs.Views.{SlotNumbers}
use Rattle.slot_core.specs.declared.slot.SlotFault.{SlotFault}
use Rattle.slot_core.specs.declared.holding.Flight.{Flight}
use Rattle.slot_core.specs.declared.stub.Stub.{Stub}
use Rattle.receipts.specs.Events.{Event, IsQuiet, Log, Shown, body_of, calls_at}
use Rattle.receipts.specs.Events.Event.{BarredFrom, Called, Fed, Told as ToldEvent, Turned}
use Rattle.receipts.specs.Events.Shown.{NoneShown}
use Rattle.receipts.specs.Letters.{StageLetter}
use Rattle.receipts.specs.Paying.{Pays}
use Rattle.receipts.specs.Registers.{bucket_register, bucket_slot, key_slot}
use Rattle.receipts.proofs.JoinLemmas.{bodies_join, calls_join}
use Rattle.receipts.proofs.RegisterLemmas.{key_slot_below}
use Rattle.put_stage.specs.CallsSoFar.{CalledSo}
use Rattle.drive_base.specs.Trail.{DriveCall}
use Rattle.op_steps.specs.BucketLooks.{LooksSo}
use Rattle.op_steps.specs.Claims.{Claim, no_claim}
use Rattle.op_steps.specs.Moves.{FeedMoves, TellMoves, TurnMoves}
use Rattle.op_steps.specs.Notes.{noted}
use Rattle.op_steps.specs.Store.{FeedSeen, SlotSeen, TellerSeen}
use Rattle.op_steps.specs.Words.{CallsOne, CallsSo, FeedsSo, TellsSo, TurnsSo}
use Rattle.op_steps.specs.declared.looking.Look.{Look}
use Rattle.op_steps.proofs.TellLemmas.{told_pays}
use Rattle.object_ops.specs.Clearing.{HasNone, RemovesOne, TakesTrash, files_left, with_taken, AreDue, files_of, ids_of}
use Rattle.object_ops.specs.Reading.{HasFound}
use Rattle.object_ops.specs.Put.{PutAsk, left_at, task_of}
use Rattle.object_ops.specs.PutStands.{IsNewPut, ClaimsSo, HasLookedAt, HoldsPut, HoldsRest, IsSamePut, PutStands, PutStandsAt, Stages, ask_of, no_cells}
use Rattle.object_ops.specs.PutTarget.{key_of, register_of}
use Rattle.object_ops.specs.declared.put_target.PutTarget.{PutTarget}
use Rattle.object_ops.specs.declared.put_op.PutOp.{PutOp}
use Rattle.object_ops.specs.PutStageCalls.{BeginsStage, BeginsWork, StepsWork, FillsTo, feed_cut}
use Rattle.object_ops.specs.PutOutcome.{AfterLook}
use Rattle.object_ops.specs.declared.clearing.Clearing.{Clearing}
use Rattle.object_ops.specs.declared.put_state.PutState.{PutState}
use Rattle.object_ops.specs.declared.put_state.PutState.TheVariants as state
use Rattle.object_ops.specs.declared.put_state.Work.{Work}
use Rattle.object_ops.specs.declared.data_files.Removal.{Removal}
use Rattle.object_ops.proofs.PutTargets.{gives_none, none_after}
use Rattle.object_ops.proofs.PutBegins.{BeginSays, begin_turn, first_claim, first_staging}
use Rattle.object_ops.specs.declared.put_stage_calls.PutFed.{PutFed}
use Rattle.object_ops.proofs.PutLogs.{cut_pays, fill_on, look_stands}
use Rattle.object_ops.proofs.PutHolders.{out_or_used}
use Rattle.object_ops.proofs.PutStepClaims.{looked_on}
use Rattle.object_ops.proofs.PutSteps.{steps_so}
use Rattle.object_ops.proofs.RemovalLemmas.{removal_is_call}
use Rattle.object_ops.proofs.TellingLemmas.{pays_on}
use Rattle.object_ops.proofs.ReadingTell.{fresh_pays, one_all, quiet_fresh}
use Rattle.object_ops.proofs.KeyCommitLemmas.{looked_of}

module _ (ask : PutAsk) (read : ℕ) where
  -- an op in this state
  abbrev pub Stands : Clearing → PutState → Claim → Log → Type 0
  Stands clearing is claim log = PutStandsAt ask read clearing is claim log

  stands_at : (clearing : Clearing) (one is : PutState) (claim : Claim) (log : Log) → one ≡ is → Stands clearing one claim log → Stands clearing is claim log
  stands_at clearing one is claim log same x = subst (λ (s : PutState). Stands clearing s claim log) same x

  -- nothing is left to remove
  pub rest_none : (clearing : Clearing) (claim : Claim) (log : Log) → HasNone clearing → claim ≡ no_claim (key_slot (key_of ask.target)) → HoldsRest (key_slot (key_of ask.target)) clearing claim log
  rest_none clearing claim log none is =
      inl (is ∙ ap (λ (q : List Removal). with_taken (no_claim (key_slot (key_of ask.target))) (ids_of (files_of q))) (sym none.queue))

  -- the look at the bucket
  pub look_so : {D : Type 0} (ghosts : Ghosts D) (clearing : Clearing) (one later : PutState) (name : List ℕ) (was after : SlotSeen D) (look : Look)
      (old new : List DriveView) → one ≡ state.Looking → read ≡ 0 → name ≡ bucket_register (key_of ask.target).bucket → was.numbers.index ≡ bucket_slot (key_of ask.target).bucket
      → LooksSo ghosts name was after look old new → AfterLook look.looked ask.long later
      → TurnsSo ghosts (Stands clearing one) (Stands clearing later) look.stub was after old new
  look_so ghosts clearing one later name was after look old new is zero named index looks next claim log x =
      let here = stands_at clearing one state.Looking claim log is x in
      let event = Turned was.numbers.index (noted look.stub) looks.shown in (
        claim,
        looks.shown,
        subst₂ (λ (n : ℕ) (l : Log). PutStandsAt ask n clearing later claim (l ++ event ∷ [])) (sym zero) (sym here.2)
            (look_stands ask clearing was.numbers.index look.stub looks.shown look.looked later claim next (looks.says (key_of ask.target).bucket named index)
            (here.0, here.1, refl) (rest_none clearing claim (event ∷ []) here.0 here.1)),
        looks.turns claim,
      )

  -- ---- the begin of the put

  -- the stage has done nothing yet
  first_stages : (mode : Mode) (flight : Flight) (work : Work) (k : ℕ) (log : Log) → BeginsStage ask.set (register_of ask.target) ask.long ask.stated mode flight work
      → HasFound (key_of ask.target).bucket mode log → HoldsPut (key_of ask.target) flight (first_claim (key_slot (key_of ask.target)) (record { id = flight.id; name = key_name (key_of ask.target) }))
      → Stages ask work (first_claim (key_slot (key_of ask.target)) (record { id = flight.id; name = key_name (key_of ask.target) })) (log ++ Turned k None NoneShown ∷ [])
  first_stages mode flight work k log begins found held =
      let claim = first_claim (key_slot (key_of ask.target)) (record { id = flight.id; name = key_name (key_of ask.target) }) in
      let event = Turned k None NoneShown in
      let load = begins.stage.load in
      let body : body_of (log ++ event ∷ []) ≡ [] = bodies_join log (event ∷ []) ∙ (append-nil (body_of log) ∙ found.fresh.untaken) in
      let shards : List (List (List ℕ)) = replicate ask.set.drives [] in
      let one : (j : ℕ) → j < ask.set.drives → slice_index_or shards j [] ≡ [] = λ j low. get_or-replicate ask.set.drives j [] [] low in
      record {
        looked = looked_on (key_of ask.target).bucket work.mode log event tt (subst (λ (m : Mode). HasLookedAt (key_of ask.target).bucket m log) (sym begins.mode_is)
            (looked_of (key_of ask.target).bucket mode log found));
        held = subst (λ (f : Flight). HoldsPut (key_of ask.target) f claim) (sym begins.flight_is) held;
        stage_of = record {
          set_is = load.set_is;
          id_is = load.id_is ∙ sym (ap (λ (f : Flight). f.id) begins.flight_is);
          name_is = load.name_is;
          stated_is = load.stated_is;
          long_is = load.length_is;
        };
        shards = shards;
        taken = subst (λ (b : List ℕ). HasTaken work.stage.load b shards) (sym body) load.taken;
        letters = λ j below. first_letter j below;
        called = λ j below.
            let low = subst (λ (p : SetPlan). j < p.drives) (sym load.set_is) below in
            subst₂ (λ (b : List (List ℕ)) (calls : List DriveCall). CalledSo work.stage j b calls) (sym (one j below))
            (sym (calls_join j log (event ∷ []) ∙ (append-nil (calls_at j log) ∙ found.uncalled j))) (begins.stage.uncalled j low);
        claims = subst (λ (f : Flight). ClaimsSo work.stage shards f.id claim) (sym begins.flight_is) (
          first_staging flight.id,
          refl,
          inr (record {
            id_is = refl;
            works = λ j below used. record {
              cells = no_cells;
              is = refl;
              at_work = subst (λ (b : List (List ℕ)). AtWork work.stage (Some b) j no_cells no_cells) (sym (one j (subst (λ (p : SetPlan). j < p.drives) load.set_is below)))
                  (begins.stage.fresh j no_cells below (record { manifest = refl; shard = refl }));
            };
          }),
        );
      }
    where
      first_letter : (j : ℕ) → j < ask.set.drives → StageLetter ask.set work.flight.id (log ++ Turned k None NoneShown ∷ []) j (why_at work.stage j)
      first_letter j below =
          let set_is = begins.stage.load.set_is in
          let low = subst (λ (p : SetPlan). j < p.drives) (sym set_is) below in
          elim (out_or_used ask.set.out j) [
            | inl out ↦ subst (StageLetter ask.set work.flight.id (log ++ Turned k None NoneShown ∷ []) j)
                (sym (begins.stage.letters.out j low (subst (λ (p : SetPlan). IsBitSet p.out j) (sym set_is) out))) out
            | inr used ↦ subst (StageLetter ask.set work.flight.id (log ++ Turned k None NoneShown ∷ []) j)
                (sym (begins.stage.letters.in_use j low (subst (λ (p : SetPlan). IsBitSet p.out j → ⊥) (sym set_is) used))) used
          ]

  -- it began
  pub begun_so : {D : Type 0} (ghosts : Ghosts D) (clearing : Clearing) (one later : PutState) (mode : Mode) (flight : Flight) (was after : SlotSeen D)
      (disks : List DriveView) → one ≡ state.Beginning mode → was.numbers.index ≡ key_slot (key_of ask.target) → BeginSays ghosts was after (key_of ask.target) (Ok flight) None
      → BeginsWork ask.set (register_of ask.target) ask.long ask.stated mode flight later
      → TurnsSo ghosts (Stands clearing one) (Stands clearing later) None was after disks disks
  begun_so ghosts clearing one later mode flight was after disks is own says next claim log x =
      let here = stands_at clearing one (state.Beginning mode) claim log is x in
      let f : Flying = record { id = flight.id; name = key_name (key_of ask.target) } in
      let turn = begin_turn ghosts was after (key_of ask.target) flight disks own says in
      let held = subst (λ i. HoldsPut (key_of ask.target) flight (first_claim i f)) own turn.0 in (
        first_claim was.numbers.index f,
        NoneShown,
        subst (λ i. Stands clearing later (first_claim i f) (log ++ Turned was.numbers.index None NoneShown ∷ [])) (sym own) (by later next here.0 here.2 held),
        subst (λ (c : Claim). TurnMoves ghosts was after None NoneShown c (first_claim was.numbers.index f) disks disks)
            (sym (here.1 ∙ ap no_claim (sym own))) turn.1,
      )
    where
      by : (s : PutState) → BeginsWork ask.set (register_of ask.target) ask.long ask.stated mode flight s → HasNone clearing → HasFound (key_of ask.target).bucket mode log
          → HoldsPut (key_of ask.target) flight (first_claim (key_slot (key_of ask.target)) (record { id = flight.id; name = key_name (key_of ask.target) }))
          → Stands clearing s (first_claim (key_slot (key_of ask.target)) (record { id = flight.id; name = key_name (key_of ask.target) })) (log ++ Turned was.numbers.index None NoneShown ∷ [])
      by state.Looking b none found held = absurd b
      by (state.Beginning other) b none found held = absurd b
      by (state.Staging work) b none found held = (none, first_stages mode flight work was.numbers.index log b found held)
      by (state.Dropping other why) (same, memory) none found held = (
        none,
        subst (λ (f : Flight). HoldsPut (key_of ask.target) f (first_claim (key_slot (key_of ask.target)) (record { id = flight.id; name = key_name (key_of ask.target) }))) (sym same) held,
        subst (λ (w : Cut). Pays ask.set (task_of ask) (Some w) (log ++ Turned was.numbers.index None NoneShown ∷ [])) (sym memory)
            (fresh_pays ask.set (task_of ask) (log ++ Turned was.numbers.index None NoneShown ∷ [])
            (quiet_fresh log (Turned was.numbers.index None NoneShown ∷ []) (one_all IsQuiet (Turned was.numbers.index None NoneShown) tt) found.fresh)),
      )
      by (state.Draining reply) b none found held = absurd b
      by (state.Telling reply) b none found held = absurd b
      by (state.Told why) b none found held = absurd b

  -- ---- bytes of the body

  -- what a take of bytes gives
  abbrev Fills : Clearing → Claim → Log → ℕ → FeedSeen → FeedSeen → PutState → Type 0
  Fills clearing claim log taken old new s = (bytes : List ℕ) × (why : Option Cut) × PutStandsAt ask taken clearing s claim (log ++ Fed bytes why ∷ []) × FeedMoves bytes why old new

  -- the stage is filled
  pub fill_so : (clearing : Clearing) (one : PutState) (work : Work) (fed : PutFed) (old new : FeedSeen) → one ≡ state.Staging work
      → work.stage.load.left + read ≡ ask.long → old.view.given ≡ read → old.view.stated ≡ ask.long → FillsTo work fed.state old new
      → FeedsSo (Stands clearing one) (PutStandsAt ask fed.read clearing fed.state) old new
  fill_so clearing one work fed old new is counted given stated fills claim log x =
      let here = stands_at clearing one (state.Staging work) claim log is x in
      by fed.state refl fills here.0 here.1
    where
      body_long : Stages ask work claim log → length (body_of log) ≡ old.view.given
      body_long s = (let long = s.taken.long in let same = s.stage_of.long_is in omega (arith, long, same, counted, given))

      by : (s : PutState) → fed.state ≡ s → FillsTo work s old new → HasNone clearing → Stages ask work claim log
          → (bytes : List ℕ) × (why : Option Cut) × PutStandsAt ask fed.read clearing fed.state claim (log ++ Fed bytes why ∷ []) × FeedMoves bytes why old new
      by state.Looking same f none s = absurd f
      by (state.Beginning mode) same f none s = absurd f
      by (state.Staging later) same f none s = subst (Fills clearing claim log fed.read old new) (sym same) (f.bytes, None, (none, fill_on ask work later claim log old new f s), f.moves)
      by (state.Dropping flight why) same (flight_is, kind, (bytes, moves)) none s = subst (Fills clearing claim log fed.read old new) (sym same) (
        bytes,
        feed_cut why,
        (
          none,
          subst (λ (g : Flight). HoldsPut (key_of ask.target) g claim) (sym flight_is) s.held,
          cut_pays ask log bytes why old new s.looked.untold s.looked.uncut s.looked.idle (body_long s) stated moves kind,
        ),
        moves,
      )
      by (state.Draining told) same f none s = absurd f
      by (state.Telling told) same f none s = absurd f
      by (state.Told why) same f none s = absurd f

  -- ---- a call of a drive for the stage

  pub work_so : {D : Type 0} (ghosts : Ghosts D) (clearing : Clearing) (one : PutState) (work later : Work) (old new : List D) → one ≡ state.Staging work
      → length old ≡ ask.set.drives → length new ≡ length old → StepsWork ghosts work later old new
      → CallsSo (Stands clearing one) (Stands clearing (state.Staging later)) ask.set (views ghosts old) (views ghosts new)
  work_so ghosts clearing one work later old new is counted long steps claim log x =
      let here = stands_at clearing one (state.Staging work) claim log is x in
      let got = steps_so ghosts ask work later old new counted long steps claim log here.1 in
      inl (got.0, got.1, got.2, (here.0, got.3), got.4)

  -- ---- the telling

  pub left_on : (slot : ℕ) (clearing : Clearing) (claim : Claim) (log : Log) (event : Event) → HoldsRest slot clearing claim log → HoldsRest slot clearing claim (log ++ event ∷ [])
  left_on slot clearing claim log event (inl is) = inl is
  left_on slot clearing claim log event (inr (none, left)) = inr (
    none,
    record {
      slot_is = left.slot_is;
      none_taken = left.none_taken;
      why = left.why;
      barred = Contains-append_left log (event ∷ []) (BarredFrom slot left.why) left.barred;
    },
  )

  pub tell_so : {T : Type 0} (takes breaks : Effect T) (clearing : Clearing) (one : PutState) (reply : Reply) (why : Option Cut) (old new : TellerSeen T)
      → one ≡ state.Telling reply → TellMoves takes breaks (TheHead reply) why old new
      → TellsSo takes breaks (Stands clearing one) (Stands clearing (state.Told why)) old new
  tell_so takes breaks clearing one reply why old new is moves claim log x =
      let here = stands_at clearing one (state.Telling reply) claim log is x in (
        TheHead reply,
        why,
        (
          left_on (key_slot (key_of ask.target)) clearing claim log (ToldEvent (TheHead reply) why) here.0,
          told_pays takes breaks ask.set (task_of ask) reply log why old new (none_after ask.target ask.stated ask.long reply) (gives_none ask.target ask.set ask.stated ask.long reply) here.1 moves,
        ),
        moves,
      )

  -- ---- the trash

  pub clear_so : {D : Type 0} (ghosts : Ghosts D) (clearing cleared : Clearing) (one : PutState) (why : Option Cut) (was after : SlotSeen D)
      (disks : List DriveView) → one ≡ state.Told why → clearing.takes ≡ true → was.numbers.index ≡ key_slot (key_of ask.target) → TakesTrash ghosts was after (files_left cleared)
      → TurnsSo ghosts (Stands clearing one) (Stands cleared one) None was after disks disks
  clear_so ghosts clearing cleared one why was after disks is takes own taking claim log x =
      let here = stands_at clearing one (state.Told why) claim log is x in
      let event = Turned was.numbers.index None NoneShown in
      by here.0 here.1
    where
      by : HoldsRest (key_slot (key_of ask.target)) clearing claim log → Pays ask.set (task_of ask) why log
          → (later : Claim) × (shown : Shown) × Stands cleared one later (log ++ Turned was.numbers.index None shown ∷ [])
          × TurnMoves ghosts was after None shown claim later disks disks
      by (inl holds) pays = (
        with_taken claim (ids_of (files_left cleared)),
        NoneShown,
        subst (λ (s : PutState). Stands cleared s (with_taken claim (ids_of (files_left cleared))) (log ++ Turned was.numbers.index None NoneShown ∷ [])) (sym is) (
          inl (ap (λ (c : Claim). with_taken c (ids_of (files_left cleared))) holds),
          pays_on ask.set (task_of ask) why log (Turned was.numbers.index None NoneShown) tt pays,
        ),
        taking claim disks (ap (λ (c : Claim). c.slot) holds ∙ sym own),
      )
      by (inr (none, left)) pays = let no : clearing.takes ≡ false = none.takes in absurd cc

  pub remove_so : (clearing cleared : Clearing) (one : PutState) (why : Option Cut) (old new : List DriveView) → one ≡ state.Told why
      → AreDue ask.set (key_slot (key_of ask.target)) (files_left clearing) → (step : RemovesOne (files_left clearing) (files_left cleared) old new)
      → CallsSo (Stands clearing one) (Stands cleared one) ask.set old new
  remove_so clearing cleared one why old new is due step claim log x =
      let here = stands_at clearing one (state.Told why) claim log is x in
      by here.0 here.1
    where
      by : HoldsRest (key_slot (key_of ask.target)) clearing claim log → Pays ask.set (task_of ask) why log
          → CallsOne (Stands cleared one) ask.set claim log old new ⊎ (Stands cleared one claim log × (new ≡ old))
      by (inl holds) pays =
          let own : claim.slot ≡ key_slot (key_of ask.target) = ap (λ (c : Claim). c.slot) holds in
          let taken : claim.taken ≡ ids_of (files_left clearing) = ap (λ (c : Claim). c.taken) holds in inl (
            with_taken claim (ids_of (files_left cleared)),
            step.file.drive,
            step.made,
            subst (λ (s : PutState). Stands cleared s (with_taken claim (ids_of (files_left cleared))) (log ++ Called step.file.drive step.made ∷ [])) (sym is) (
              inl (ap (λ (c : Claim). with_taken c (ids_of (files_left cleared))) holds),
              pays_on ask.set (task_of ask) why log (Called step.file.drive step.made) tt pays,
            ),
            removal_is_call ask.set (key_slot (key_of ask.target)) (files_left clearing) (files_left cleared) old new claim due own taken step,
          )
      by (inr (none, left)) pays =
          let nothing : files_left clearing ≡ [] = ap files_of none.queue in
          let long = ap length (sym nothing ∙ step.first) in
          absurd (omega (arith, long))

-- an op of the same call stands for the same
pub same_ask : (old new : PutOp) → IsSamePut old new → ask_of new ≡ ask_of old
same_ask old new x = λ i. record { set = x.set i; target = x.target i; stated = x.stated i; long = x.long i; now = x.now i }

pub stands_on : (old new : PutOp) (clearing : Clearing) (s : PutState) → IsSamePut old new → new.read ≡ old.read
    → PutStandsAt (ask_of old) old.read clearing s ≡ PutStandsAt (ask_of new) new.read clearing s
stands_on old new clearing s same read = λ i. PutStandsAt (sym (same_ask old new same) i) (sym read i) clearing s

pub lefts_on : (old new : PutOp) (clearing : Clearing) (s : PutState) → IsSamePut old new → new.read ≡ old.read
    → left_at new.set new.long new.read clearing s ≡ left_at old.set old.long old.read clearing s
lefts_on old new clearing s same read = λ i. left_at (same.set i) (same.long i) (read i) clearing s

-- a put that is given up has no stub
pub no_stub : (numbers : SlotNumbers) (answer : Result (Unit {0}) SlotFault) (stub : Option Stub) → answer ≡ Ok tt → StubOfNone numbers answer stub → stub ≡ None
no_stub numbers answer stub done is = subst (λ (a : Result (Unit {0}) SlotFault). StubOfNone numbers a stub) done is

-- an op that has done nothing yet stands for the empty log
pub begins : (set : SetPlan) (target : PutTarget) (stated : Option (List ℕ)) (long now : ℕ) (result : Result PutOp NoMemory)
    → IfOk result (IsNewPut set target stated long now) → IfOk result (λ op. (slot : ℕ) × (slot < 64) × PutStands op (no_claim slot) [])
begins set target stated long now (Ok op) is = (
  key_slot (key_of op.target),
  key_slot_below (key_of op.target),
  subst (λ (s : PutState). PutStandsAt (ask_of op) op.read op.clearing s (no_claim (key_slot (key_of op.target))) []) (sym is.state_is) (is.none, refl, refl),
)
begins set target stated long now (Err fault) is = tt
