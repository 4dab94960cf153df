-- One call of a stage, as a step of a put.
use Rattle.std.proofs.Common.{◌≡◌, ◌≢◌, ◌∙◌, ◌<◌, ℕ, Bool, IsTrue, List, [], ◌∷◌, ◌++◌, Some, append-nil, cond, false, length, nat_eq, slice_index_or, true, inl, inr, refl, sym, ap, subst, subst₂, arith}
use Rattle.std.specs.Prelude.{Result, Ok, Err}
use Rattle.std.specs.Int.{IsBitSet}
use Rattle.std.proofs.lemmas.Bool.Decides.{eqb_tells}
use Rattle.std.proofs.lemmas.Bool.{cases_Bool}
use Rattle.std.proofs.lemmas.List.{get_or-set_same}
use Rattle.call_types.specs.declared.names.Mode.{Mode}
use Rattle.call_types.specs.declared.why.Why.{Why}
use Rattle.call_types.specs.declared.why.Why.TheVariants.{Good, Lacks}
use Rattle.call_types.specs.declared.why.FileKind.TheVariants.{Manifest as ManifestKind, Shard as ShardKind}
use Rattle.drive_base.specs.Calls.{MadeCall, WasMade}
use Rattle.drive_base.specs.View.{DriveView, view_at, views}
use Rattle.drive_base.specs.declared.drive.Drive.{Ghosts}
use Rattle.drive_base.specs.declared.plan.SetPlan.{SetPlan}
use Rattle.drive_base.proofs.ViewLemmas.{length-views}
use Rattle.body_print.specs.Names.{manifest_name}
use Rattle.file_access.specs.Trails.{AnswerOf}
use Rattle.put_stage.specs.Calls.{CallsDue}
use Rattle.put_stage.specs.CallsSoFar.{CalledSo}
use Rattle.put_stage.proofs.SoFarLemmas.{step_calls_elsewhere, step_calls_so}
use Rattle.put_stage.specs.Cells.{DataCells, Spares, data_of}
use Rattle.put_stage.specs.Steps.{IsAfter, LetterOf, Stepped}
use Rattle.put_stage.specs.TakenBodies.{HasTaken, manifest_in}
use Rattle.put_stage.specs.StripeBlocks.{block_at}
use Rattle.put_stage.specs.Work.{AtWork, HasBy, due_at, why_at}
use Rattle.put_stage.specs.declared.stage.Load.{Load}
use Rattle.put_stage.proofs.StepLemmas.{other_why, works_on_others}
use Rattle.stamp_id.specs.declared.version.VersionId.{VersionId}
use Rattle.slot_history.specs.Names.{key_name}
use Rattle.slot_history.specs.Standing.{Flying}
use Rattle.slot_core.specs.Views.{last_of}
use Rattle.slot_core.specs.declared.holding.Flight.{Flight}
use Rattle.slot_data.specs.Disks.{Disks, Keeps, kept_on}
use Rattle.slot_data.specs.Holding.{Holding}
use Rattle.receipts.specs.Events.{IsQuiet, Log, body_of, calls_at}
use Rattle.receipts.specs.Events.Event.{Called}
use Rattle.receipts.specs.Letters.{IsInUse, StageLetter}
use Rattle.receipts.proofs.GrowLemmas.{quiet_bodies}
use Rattle.receipts.proofs.JoinLemmas.{calls_join}
use Rattle.op_steps.specs.Claims.{Claim, DataHolds, DisksTell, Expected, IsExpected, IsMet, Staging, among, disks_of}
use Rattle.op_steps.specs.Moves.{CallMoves, ClaimStays, KeepsData, SaysUnwritten, SlotKept}
use Rattle.op_steps.proofs.ClaimLemmas.{claim_stays}
use Rattle.object_ops.specs.Put.{PutAsk}
use Rattle.object_ops.specs.PutStands.{ClaimsSo, ClaimsStage, HasLookedAt, HasWorked, HoldsPut, IsStageOf, Stages, no_cells}
use Rattle.object_ops.specs.PutStageCalls.{StepsWork}
use Rattle.object_ops.specs.PutTarget.{key_of}
use Rattle.object_ops.specs.declared.put_state.Work.{Work}
use Rattle.object_ops.proofs.PutCalls.{due_may, letter_grows, made_by, new_letter, step_was_made, unwritten_lacks}
use Rattle.object_ops.proofs.PutCells.{same_cells}
use Rattle.object_ops.proofs.PutDisks.{WritesUnder, kept_then}
use Rattle.object_ops.proofs.PutMine.{met_mine}
use Rattle.object_ops.proofs.PutPlaces.{is_made, work_manifest}
use Rattle.object_ops.proofs.PutWrites.{IsMade, IsNone, IsPut, ManifestMoves, elsewhere, here, kept_so, own_part}
use Rattle.object_ops.proofs.ReadingTell.{one_all}
use Rattle.object_ops.proofs.PutStepClaims.{with_stage, drive_blocks, expected_here, expected_other, expected_then, goes_with, held_with, other_apart, other_id, stage_same, some_staging, some_flying, looked_on, seen_old, seen_new, seen_same}

module _ {D : Type 0} (ghosts : Ghosts D) (ask : PutAsk) (work later : Work) (o : D) (old new : List D) (counted : length old ≡ ask.set.drives)
    (long : length new ≡ length old) (steps : StepsWork ghosts work later old new) (k : ℕ)
    (one : Stepped ghosts k work.stage later.stage old new) (claim : Claim) (log : Log) (x : Stages ask work claim log) where
  abbrev id : VersionId
  id = work.flight.id

  abbrev flying : Flying
  flying = record { id = id; name = key_name (key_of ask.target) }

  abbrev before : DriveView
  before = view_at (views ghosts old) k

  abbrev after : DriveView
  after = view_at (views ghosts new) k

  inside : k < ask.set.drives
  inside = subst (λ (s : SetPlan). k < s.drives) x.stage_of.set_is one.due.within

  low : k < length old
  low = omega (arith, counted, inside)

  in_use : IsBitSet ask.set.out k → ⊥
  in_use = subst (λ (s : SetPlan). IsBitSet s.out k → ⊥) x.stage_of.set_is one.in_use

  letter : LetterOf one.answer (due_at work.stage k) before.tells (data_of id before.files) before.count after.count
  letter =
      subst (λ (y : VersionId). LetterOf one.answer (due_at work.stage k) before.tells (data_of y before.files) before.count after.count) x.stage_of.id_is
      (subst₂ (λ (a b : DriveView). LetterOf one.answer (due_at work.stage k) a.tells (data_of work.stage.load.names.id a.files) a.count b.count)
      (sym (seen_old ghosts o old new long k low)) (sym (seen_new ghosts o old new long k low)) (one.letter o))

  pub called : CallsDue work.stage.load k (due_at work.stage k) one.answer before after
  called =
      subst₂ (CallsDue work.stage.load k (due_at work.stage k) one.answer) (sym (seen_old ghosts o old new long k low)) (sym (seen_new ghosts o old new long k low))
      (one.called o)

  abbrev made : MadeCall
  made = made_by work.stage.load k (due_at work.stage k) one.answer before after called

  made_so : WasMade made before after
  made_so = step_was_made work.stage.load k (due_at work.stage k) one.answer before after called

  spares : IsTrue before.tells → Spares id before.files after.files
  spares =
      subst (λ (y : VersionId). IsTrue before.tells → Spares y before.files after.files) x.stage_of.id_is
      (subst₂ (λ (a b : DriveView). IsTrue a.tells → Spares work.stage.load.names.id a.files b.files)
      (sym (seen_old ghosts o old new long k low)) (sym (seen_new ghosts o old new long k low)) (one.spares o))

  others : (other : ℕ) → other ≢ k → view_at (views ghosts new) other ≡ view_at (views ghosts old) other
  others other apart = seen_same ghosts o old new long other (one.others other o apart)

  pub writes : WritesUnder ask.set id k (views ghosts old) (views ghosts new)
  writes = record {
    inside = inside;
    in_use = in_use;
    made = made;
    was_made = made_so;
    spares = spares;
    long = length-views ghosts new ∙ (long ∙ sym (length-views ghosts old));
    others = others;
  }

  -- the stage goes on for the same put, with the same bytes
  pub stage_on : IsStageOf ask later.flight later.stage
  stage_on = stage_same ask work.flight later.flight work.stage later.stage steps.load steps.flight_is x.stage_of

  pub taken_on : HasTaken later.stage.load (body_of (log ++ Called k made ∷ [])) x.shards
  taken_on = subst₂ (λ (l : Load) (body : List ℕ). HasTaken l body x.shards) (sym steps.load)
      (sym (quiet_bodies log (Called k made ∷ []) (one_all IsQuiet (Called k made) tt))) x.taken

  -- what the letter is after a call that failed
  why_set : (why : Why) → one.answer ≡ Err why → why_at later.stage k ≡ why
  why_set why is =
      let there : k < length work.stage.whys = omega (arith, work.stage.letters, one.due.within) in
      ap (λ (all : List Why). slice_index_or all k Good) (subst (λ a. IsAfter a k work.stage later.stage) is one.stage).0
      ∙ get_or-set_same work.stage.whys k why Good there

  -- letters: that of the call, and those of before
  letters_on : (j : ℕ) → j < ask.set.drives → StageLetter ask.set later.flight.id (log ++ Called k made ∷ []) j (why_at later.stage j)
  letters_on j below = subst (λ (f : Flight). StageLetter ask.set f.id (log ++ Called k made ∷ []) j (why_at later.stage j)) (sym steps.flight_is)
      (elim (eqb_tells j k) [
        | inl same ↦ subst (λ i. StageLetter ask.set id (log ++ Called k made ∷ []) i (why_at later.stage i)) (sym same.1) (by one.answer refl)
        | inr apart ↦ subst (λ (w : Why). StageLetter ask.set id (log ++ Called k made ∷ []) j w)
            (sym (other_why one.answer k j work.stage later.stage apart.1 one.stage))
            (letter_grows ask.set id log (Called k made ∷ []) j (why_at work.stage j) (x.letters j below))
      ])
    where
      by : (answer : Result (Unit {0}) Why) → one.answer ≡ answer → StageLetter ask.set id (log ++ Called k made ∷ []) k (why_at later.stage k)
      by (Ok done) is =
          let stays : why_at later.stage k ≡ why_at work.stage k = ap (λ (all : List Why). slice_index_or all k Good)
          (subst (λ a. IsAfter a k work.stage later.stage) is one.stage).0 in
          subst (λ (w : Why). StageLetter ask.set id (log ++ Called k made ∷ []) k w) (sym stays)
          (letter_grows ask.set id log (Called k made ∷ []) k (why_at work.stage k) (x.letters k inside))
      by (Err why) is =
          subst₂ (λ (w : Why) (y : VersionId). StageLetter ask.set y (log ++ Called k made ∷ []) k w) (sym (why_set why is)) x.stage_of.id_is
          (new_letter ask.set work.stage.load k (due_at work.stage k) made called.answer log in_use called.is_due why before.tells (data_of id before.files)
          (subst (λ a. AnswerOf a called.answer) is called.answered)
          (subst (λ a. LetterOf a (due_at work.stage k) before.tells (data_of id before.files) before.count after.count) is letter))

  -- so are the calls of each drive
  called_on : (j : ℕ) → j < ask.set.drives → CalledSo later.stage j (slice_index_or x.shards j []) (calls_at j (log ++ Called k made ∷ []))
  called_on j below = elim (eqb_tells k j) [
    | inl same ↦ subst (λ i. CalledSo later.stage i (slice_index_or x.shards i []) (calls_at i (log ++ Called k made ∷ []))) same.1
        (subst (CalledSo later.stage k (slice_index_or x.shards k [])) (sym (calls_join k log (Called k made ∷ []) ∙ ap (λ l. calls_at k log ++ l) (one_call k true (subst (λ i. nat_eq k i ≡ true) (sym same.1) same.0))))
        (step_calls_so work.stage later.stage k one.answer made.call called.answer (slice_index_or x.shards k []) (calls_at k log) steps.load one.due one.placed
        one.stage called.is_due called.answered (drive_blocks work.stage.load (body_of log) x.shards k one.due.within x.taken) (x.called k inside)))
    | inr apart ↦ subst (CalledSo later.stage j (slice_index_or x.shards j []))
        (sym (calls_join j log (Called k made ∷ []) ∙ (ap (λ l. calls_at j log ++ l) (one_call j false apart.0) ∙ append-nil (calls_at j log))))
        (step_calls_elsewhere work.stage later.stage k j one.answer (slice_index_or x.shards j []) (calls_at j log) steps.load one.stage (λ is. apart.1 (sym is))
        (x.called j below))
  ]
    where
      one_call : (i : ℕ) (b : Bool) → nat_eq k i ≡ b → calls_at i (Called k made ∷ []) ≡ cond b (made.call ∷ []) [] ++ []
      one_call i b is = ap (λ c. cond c (made.call ∷ []) [] ++ []) is

  -- all but its claim
  pub stages_on : (next : Claim) → HoldsPut (key_of ask.target) work.flight next → ClaimsSo later.stage x.shards id next → Stages ask later next (log ++ Called k made ∷ [])
  stages_on next held claims = record {
    looked = subst (λ (m : Mode). HasLookedAt (key_of ask.target).bucket m (log ++ Called k made ∷ [])) (sym steps.mode_is)
        (looked_on (key_of ask.target).bucket work.mode log (Called k made) tt x.looked);
    held = subst (λ (f : Flight). HoldsPut (key_of ask.target) f next) (sym steps.flight_is) held;
    stage_of = stage_on;
    shards = x.shards;
    taken = taken_on;
    letters = letters_on;
    called = called_on;
    claims = subst (λ (f : Flight). ClaimsSo later.stage x.shards f.id next) (sym steps.flight_is) claims;
  }

  -- the claim with another stage
  restaged : (staging : Staging) → ClaimStays claim (with_stage claim staging)
  restaged staging = record { slot = refl; flight = refl; pin = refl; taken = λ own there. there }

  -- all but what is held
  pub calls_on : (next : Claim) → ClaimStays claim next
      → ((unseen : Disks) (front rest : List Claim) (own : SlotKept) → SaysUnwritten made → own.numbers.index ≡ claim.slot
      → KeepsData ask.set unseen (views ghosts old) (among front claim rest) own → ⊥)
      → ((unseen : Disks) (front rest : List Claim) (own slot : SlotKept) → own.numbers.index ≡ claim.slot
      → KeepsData ask.set unseen (views ghosts old) (among front claim rest) own → KeepsData ask.set unseen (views ghosts old) (among front claim rest) slot
      → DataHolds slot.numbers slot.holding unseen (views ghosts new) (among front next rest) slot.records slot.state)
      → CallMoves ask.set k made claim next (views ghosts old) (views ghosts new)
  calls_on next same written holds = record {
    within = (let viewed = length-views ghosts old in omega (arith, viewed, low));
    in_use = in_use;
    was_made = made_so;
    may = due_may work.stage.load k (due_at work.stage k) called.answer called.call claim flying x.held.flight_is
        x.stage_of.id_is called.is_due;
    long = writes.long;
    others = others;
    claims = same;
    written = written;
    holds = holds;
  }

  -- ---- a claim that no store meets

  unmet : (unseen : Disks) (front rest : List Claim) (own : SlotKept) (staging : Staging) → claim.stage ≡ Some staging → own.numbers.index ≡ claim.slot
      → KeepsData ask.set unseen (views ghosts old) (among front claim rest) own
      → (staging.id ≡ id) × DisksTell ask.set (views ghosts old)
      × ((j : ℕ) → j < ask.set.drives → (IsBitSet ask.set.out j → ⊥) → IsExpected (staging.expected j) (data_of staging.id (view_at (views ghosts old) j).files))
  unmet unseen front rest own staging staged mine kept =
      let met = met_mine own.numbers.set own.numbers.index (last_of own.numbers) own.holding unseen (views ghosts old) front rest claim
      flying own.records own.state (sym mine) x.held.flight_is x.held.none_known kept.holds in
      let put = met.staged staging staged in (
        put.2 ∙ ap (λ (f : Flying). f.id) (some_flying put.0 flying (sym put.1 ∙ x.held.flight_is)),
        subst (λ (s : SetPlan). DisksTell s (views ghosts old)) kept.set_is kept.holds.tell,
        subst (λ (s : SetPlan). (j : ℕ) → j < s.drives → (IsBitSet s.out j → ⊥)
            → IsExpected (staging.expected j) (data_of staging.id (view_at (views ghosts old) j).files)) kept.set_is (met.works staging staged),
      )

  -- what a step of it gives
  abbrev pub Steps : Type 0
  Steps = (next : Claim) × (call : MadeCall) × Stages ask later next (log ++ Called k call ∷ [])
      × CallMoves ask.set k call claim next (views ghosts old) (views ghosts new)

  -- a claim that no store meets may become any
  never_on : (next : Claim) → ClaimStays claim next → ((unseen : Disks) (front rest : List Claim) (own : SlotKept) → own.numbers.index ≡ claim.slot
      → KeepsData ask.set unseen (views ghosts old) (among front claim rest) own → ⊥)
      → CallMoves ask.set k made claim next (views ghosts old) (views ghosts new)
  never_on next same never = calls_on next same (λ unseen front rest own says mine kept. never unseen front rest own mine kept)
      (λ unseen front rest own slot mine kept other. absurd (never unseen front rest own mine kept))

  void_step : (staging : Staging) → claim.stage ≡ Some staging → staging.id ≢ id → Steps
  void_step staging staged apart = (
    claim,
    made,
    stages_on claim x.held (staging, staged, inl apart),
    never_on claim (claim_stays claim) (λ unseen front rest own mine kept. apart (unmet unseen front rest own staging staged mine kept).0),
  )

  -- what is expected of the drive that was called isn't there, or it tells nothing
  lost_step : (staging : Staging) → claim.stage ≡ Some staging → (worked : HasWorked work.stage x.shards k (staging.expected k))
      → (IsTrue before.tells → data_of id before.files ≡ worked.cells → ⊥) → Steps
  lost_step staging staged worked lost =
      let void : Staging = record { id = other_id id; expected = staging.expected } in (
        with_stage claim void,
        made,
        stages_on (with_stage claim void) (held_with (key_of ask.target) work.flight claim void x.held) (void, refl, inl (other_apart id)),
        never_on (with_stage claim void) (restaged void) (λ unseen front rest own mine kept.
            let u = unmet unseen front rest own staging staged mine kept in
            lost (u.1.tell k inside in_use)
            (subst (λ (y : VersionId). data_of y before.files ≡ worked.cells) u.0
            (subst (λ (e : Expected). IsExpected e (data_of staging.id before.files)) worked.is (u.2 k inside in_use)))),
      )

  -- it is there
  module _ (staging : Staging) (staged : claim.stage ≡ Some staging) (claims : ClaimsStage work.stage x.shards id staging)
      (told : IsTrue before.tells) (worked : HasWorked work.stage x.shards k (staging.expected k)) (matched : data_of id before.files ≡ worked.cells) where
    abbrev now : DataCells
    now = data_of id after.files

    abbrev mine : List (List ℕ)
    mine = slice_index_or x.shards k []

    at_new : AtWork later.stage (Some mine) k no_cells now
    at_new =
        subst₂ (λ (y : VersionId) (v : DriveView). AtWork later.stage (Some mine) k no_cells (data_of y v.files)) x.stage_of.id_is
        (sym (seen_new ghosts o old new long k low))
        (steps.works k o (Some mine) no_cells one.due.within
        (drive_blocks work.stage.load (body_of log) x.shards k one.due.within x.taken)
        (subst (λ (v : DriveView). IsTrue v.tells) (seen_old ghosts o old new long k low) told)
        (subst₂ (λ (y : VersionId) (v : DriveView). AtWork work.stage (Some mine) k no_cells (data_of y v.files)) (sym x.stage_of.id_is)
        (seen_old ghosts o old new long k low) (subst (AtWork work.stage (Some mine) k no_cells) (sym matched) worked.at_work)))

    abbrev anew : Staging
    anew = record { id = staging.id; expected = expected_then k now staging.expected }

    abbrev next : Claim
    next = with_stage claim anew

    claims_on : ClaimsStage later.stage x.shards id anew
    claims_on = record {
      id_is = claims.id_is;
      works = λ j below used. elim (eqb_tells j k) [
        | inl same ↦ subst (λ i. HasWorked later.stage x.shards i (anew.expected i)) (sym same.1) (record { cells = now; is = expected_here k now staging.expected; at_work = at_new })
        | inr apart ↦
            let had = claims.works j (subst (λ (l : Load). j < l.set.drives) steps.load below) (subst (λ (l : Load). IsInUse l.set j) steps.load used) in
            record {
              cells = had.cells;
              is = expected_other k j now staging.expected apart.1 ∙ had.is;
              at_work = works_on_others one.answer k j work.stage later.stage (Some (slice_index_or x.shards j [])) no_cells had.cells apart.1 one.stage steps.load
                  had.at_work;
            }
      ];
    }

    -- what the call leaves of the manifest
    moves : (s : SetPlan) (unseen : Disks) → DisksTell s (views ghosts old) → WritesUnder s id k (views ghosts old) (views ghosts new)
        → ManifestMoves ask.target id (kept_on (disks_of unseen s.out (views ghosts old)) k (manifest_name id))
        (kept_on (disks_of unseen s.out (views ghosts new)) k (manifest_name id))
    moves s unseen tell wrote =
        let kept = ap (λ n. n (manifest_name id)) (kept_then s unseen id k (views ghosts old) (views ghosts new) tell wrote) in
        elim (work_manifest later.stage mine k now at_new) [
          | inl none ↦ IsNone (kept ∙ none)
          | inr placed ↦
              let body = body_of (log ++ Called k made ∷ []) in
              let m = manifest_in later.stage.load body x.shards in
              IsPut m
              (subst (λ (f : Flight). IsMade ask.target f.id m) steps.flight_is (is_made ask later.flight later.stage body x.shards stage_on taken_on placed.0))
              (kept ∙ (placed.1 ∙ ap (λ (b : List ℕ). Some b) (taken_on.made placed.0).manifest))
        ]

    -- its own claim is met
    met_next : (s : SetPlan) (holding : Holding) (unseen : Disks) → IsMet s holding unseen (views ghosts old) claim
        → IsMet s holding unseen (views ghosts new) next
    met_next s holding unseen met = record {
      flight = met.flight;
      pin = met.pin;
      staged = λ given is.
          let put = met.staged staging staged in
          (put.0, put.1, ap (λ (y : Staging). y.id) (sym (some_staging anew given is)) ∙ put.2);
      works = λ given is j below used.
          subst (λ (y : Staging). IsExpected (y.expected j) (data_of y.id (view_at (views ghosts new) j).files)) (some_staging anew given is)
          (elim (eqb_tells j k) [
            | inl same ↦ subst (λ i. IsExpected (anew.expected i) (data_of staging.id (view_at (views ghosts new) i).files)) (sym same.1)
                (subst (λ (e : Expected). IsExpected e (data_of staging.id after.files)) (sym (expected_here k now staging.expected))
                (ap (λ (y : VersionId). data_of y after.files) claims.id_is))
            | inr apart ↦ subst₂ (λ (e : Expected) (v : DriveView). IsExpected e (data_of staging.id v.files)) (sym (expected_other k j now staging.expected apart.1)) (sym (others j apart.1))
                (met.works staging staged j below used)
          ]);
      known = met.known;
      unwritten = met.unwritten;
    }

    -- the data of each slot goes on to hold
    holds_on : (unseen : Disks) (front rest : List Claim) (own slot : SlotKept) → own.numbers.index ≡ claim.slot
        → KeepsData ask.set unseen (views ghosts old) (among front claim rest) own → KeepsData ask.set unseen (views ghosts old) (among front claim rest) slot
        → DataHolds slot.numbers slot.holding unseen (views ghosts new) (among front next rest) slot.records slot.state
    holds_on unseen front rest own slot of_own kept_own kept =
        let wrote_own = subst (λ (s : SetPlan). WritesUnder s id k (views ghosts old) (views ghosts new)) (sym kept_own.set_is) writes in
        let wrote = subst (λ (s : SetPlan). WritesUnder s id k (views ghosts old) (views ghosts new)) (sym kept.set_is) writes in
        elim (eqb_tells claim.slot slot.numbers.index) [
          | inl same ↦
              here slot.numbers slot.holding slot.records slot.state unseen front rest claim next ask.target flying k (views ghosts old) (views ghosts new) same.1
              x.held.flight_is refl x.held.none_known (goes_with claim anew) wrote (moves slot.numbers.set unseen kept.holds.tell wrote) kept.stands kept.holds
              (met_next slot.numbers.set slot.holding unseen
              (met_mine slot.numbers.set slot.numbers.index (last_of slot.numbers) slot.holding unseen (views ghosts old) front rest claim flying slot.records slot.state
              same.1 x.held.flight_is x.held.none_known kept.holds))
          | inr other ↦
              elsewhere slot.numbers slot.holding slot.records slot.state unseen front rest claim next ask.target flying k (views ghosts old) (views ghosts new) other.1
              (goes_with claim anew) (x.held.of_slot ∙ sym x.held.slot_is) wrote
              (λ m other_part keeps has.
              let set_same : slot.numbers.set ≡ own.numbers.set = kept.set_is ∙ sym kept_own.set_is in
              let keeps_own = subst (λ (s : SetPlan). Keeps s (disks_of unseen s.out (views ghosts new)) id m) set_same keeps in
              elim (kept_so own.numbers.set unseen ask.target id k (views ghosts old) (views ghosts new) kept_own.holds.tell wrote_own
              (moves own.numbers.set unseen kept_own.holds.tell wrote_own) m keeps_own) [
                | inl was ↦ kept_own.holds.stands.files.of_slot id other_part (x.held.of_slot ∙ (sym x.held.slot_is ∙ sym of_own))
                    (record { manifest = m; kept = was; part = has }) ∙ of_own
                | inr made ↦ ap (λ (y : VersionId). y.slot) (own_part m id other_part made.single has) ∙ (x.held.of_slot ∙ sym x.held.slot_is)
              ])
              kept.stands kept.holds
        ]

    lacking : (why : Why) → one.answer ≡ Err why
        → (HasBy why (due_at later.stage k) (block_at k later.stage.load.window) later.stage.load.made.manifest.items (Some mine) no_cells now → ⊥) → ⊥
    lacking why is empty =
        empty (subst (λ (w : Why). HasBy w (due_at later.stage k) (block_at k later.stage.load.window) later.stage.load.made.manifest.items (Some mine) no_cells now)
        (why_set why is) at_new.has)

    -- a drive that tells has what was written
    never_says : SaysUnwritten made → ⊥
    never_says says = elim (unwritten_lacks work.stage.load k (due_at work.stage k) one.answer before after called before.tells (data_of id before.files) letter says) [
      | inl manifest ↦ lacking (Lacks ManifestKind) manifest (λ has. has)
      | inr shard ↦ lacking (Lacks ShardKind) shard (λ has. has)
    ]

    met_step : Steps
    met_step = (
      next,
      made,
      stages_on next (held_with (key_of ask.target) work.flight claim anew x.held) (anew, refl, inr claims_on),
      calls_on next (restaged anew) (λ unseen front rest own says of_own kept_own. never_says says) holds_on,
    )

  pub step_on : Steps
  step_on = by x.claims
    where
      by : ClaimsSo work.stage x.shards id claim → Steps
      by (staging, staged, inl apart) = void_step staging staged apart
      by (staging, staged, inr claims) =
          let worked = claims.works k one.due.within one.in_use in
          elim (cases_Bool before.tells) [
            | inr silent ↦ lost_step staging staged worked (λ told matched. absurd cc)
            | inl told ↦ elim (same_cells (data_of id before.files) worked.cells) [
              | inl matched ↦ met_step staging staged claims told worked matched
              | inr apart ↦ lost_step staging staged worked (λ tells matched. apart matched)
            ]
          ]
