-- A PutObject that has done nothing yet.
-- What a PutObject stands for: its claim and its log, by how far it is.
use Rattle.std.specs.Prelude.{◌≡◌, ◌≤◌, ℕ, List, Option, length, ◌≢◌, ◌⊎◌, ◌<◌, [], ◌∷◌, All, Contains, Some, None, slice_index_or, string_bytes}
use Rattle.desk_base.specs.Calls.{IsKey, most_body, longest_kind}
use Rattle.desk_base.specs.declared.call.Call.{Call}
use Rattle.desk_base.specs.declared.call.Call.TheVariants.{Put}
use Rattle.drive_base.specs.declared.plan.SetPlan.{SetPlan}
use Rattle.object_ops.specs.Clearing.{HasNone, files_left, with_taken, ids_of}
use Rattle.object_ops.specs.declared.put_op.PutOp.{PutOp}
use Rattle.object_ops.specs.declared.put_state.PutState.TheVariants.{Looking}
use Rattle.object_ops.specs.declared.put_target.PutTarget.{PutTarget}
use Rattle.body_print.specs.Plans.{data_plan}
use Rattle.call_types.specs.declared.names.Key.{Key}
use Rattle.call_types.specs.declared.names.Mode.{Mode}
use Rattle.call_types.specs.declared.reply.Reply.{Reply}
use Rattle.put_stage.specs.CallsSoFar.{CalledSo}
use Rattle.put_stage.specs.Cells.{DataCells}
use Rattle.put_stage.specs.StagedBodies.{Succeeds}
use Rattle.put_stage.specs.TakenBodies.{HasTaken}
use Rattle.put_stage.specs.Work.{AtWork, why_at}
use Rattle.put_stage.specs.declared.stage.Stage.{Stage}
use Rattle.put_stage.specs.declared.stage.StageNext.TheVariants.{Finish}
use Rattle.slot_core.specs.declared.holding.Flight.{Flight}
use Rattle.slot_history.specs.Names.{key_name}
use Rattle.stamp_id.specs.declared.version.VersionId.{VersionId}
use Rattle.receipts.specs.Committing.{KeyIsBarred}
use Rattle.receipts.specs.Events.{IsUntold, Log, Section, body_of, calls_at, cuts_of, sections_of}
use Rattle.receipts.specs.Events.Event.{BarredFrom}
use Rattle.receipts.specs.Letters.{IsInUse, StageLetter}
use Rattle.receipts.specs.Looks.{EndsAtLook, FindsBucket}
use Rattle.receipts.specs.Paying.{ChangesNothing, Pays}
use Rattle.receipts.specs.Putting.{PutIsNotBegun}
use Rattle.receipts.specs.Registers.{key_slot}
use Rattle.receipts.specs.declared.barred.Barred.{Barred}
use Rattle.op_steps.specs.Claims.{Claim, Expected, Staging, no_claim}
use Rattle.op_steps.specs.Claims.Expected.{Exactly}
use Rattle.op_steps.specs.Ready.{IsReady}
use Rattle.op_steps.specs.declared.next.OpNext.{OpNext}
use Rattle.object_ops.specs.Reading.{HasFound}
use Rattle.object_ops.specs.Put.{PutAsk, left_at, step_at, task_of}
use Rattle.object_ops.specs.PutTarget.{key_of, register_of}
use Rattle.object_ops.specs.declared.clearing.Clearing.{Clearing}
use Rattle.object_ops.specs.declared.put_state.PutState.{PutState}
use Rattle.object_ops.specs.declared.put_state.PutState.TheVariants as state
use Rattle.object_ops.specs.declared.put_state.Work.{Work}

-- a call is a lawful PutObject
abbrev pub IsPut : Call → Type 0
IsPut (Put at kind md5 long) = IsKey at × (length kind ≤ longest_kind) × (long ≤ most_body)
IsPut other = ⊥

-- an op of a put of this target, made in this second
pub record IsNewPut (set : SetPlan) (target : PutTarget) (stated : Option (List ℕ)) (long now : ℕ) (op : PutOp) : Type 0 where
  pub set_is : op.set ≡ set
  pub target_is : op.target ≡ target
  pub stated_is : op.md5 ≡ stated
  pub long_is : op.long ≡ long
  pub now_is : op.now ≡ now
  pub none_read : op.read ≡ 0
  pub state_is : op.state ≡ Looking
  pub none : HasNone op.clearing

-- nothing under the names of an id
abbrev pub no_cells : DataCells
no_cells = record { manifest = None; shard = None; loose_manifest = None; loose_shard = None }

-- the put of a flight is held, with no pin, nothing that was taken, and no data that is known
pub record HoldsPut (at : Key) (flight : Flight) (claim : Claim) : Type 0 where
  pub slot_is : claim.slot ≡ key_slot at
  pub of_slot : flight.id.slot ≡ key_slot at
  pub flight_is : claim.flight ≡ Some (record { id = flight.id; name = key_name at })
  pub pinless : claim.pin ≡ None
  pub none_taken : claim.taken ≡ []
  pub none_known : claim.known ≡ []

-- a drive is expected to have exactly what the stage left there, where nothing was under the names when it began
pub record HasWorked (stage : Stage) (shards : List (List (List ℕ))) (k : ℕ) (expected : Expected) : Type 0 where
  pub cells : DataCells
  pub is : expected ≡ Exactly cells
  pub at_work : AtWork stage (Some (slice_index_or shards k [])) k no_cells cells

-- a stage is claimed: each drive in use has what it left there; or another stage than that of the flight is, which no store meets
pub record ClaimsStage (stage : Stage) (shards : List (List (List ℕ))) (id : VersionId) (staging : Staging) : Type 0 where
  pub id_is : staging.id ≡ id
  pub works : (k : ℕ) → k < stage.load.set.drives → IsInUse stage.load.set k → HasWorked stage shards k (staging.expected k)

abbrev pub ClaimsSo : Stage → List (List (List ℕ)) → VersionId → Claim → Type 0
ClaimsSo stage shards id claim = (staging : Staging) × (claim.stage ≡ Some staging)
    × ((staging.id ≢ id) ⊎ ClaimsStage stage shards id staging)

-- a stage is of a put: of the plan of its data, its flight's id, its target's register, and of what is stated of its body
pub record IsStageOf (ask : PutAsk) (flight : Flight) (stage : Stage) : Type 0 where
  pub set_is : stage.load.set ≡ data_plan ask.set flight.id
  pub id_is : stage.load.names.id ≡ flight.id
  pub name_is : string_bytes stage.load.name ≡ register_of ask.target
  pub stated_is : stage.load.stated ≡ ask.stated
  pub long_is : stage.load.long ≡ ask.long

-- the look at the bucket is the one section that has a note so far, it changed nothing, and nothing was told or failed
pub record HasLookedAt (bucket : List ℕ) (mode : Mode) (log : Log) : Type 0 where
  pub untold : All IsUntold log
  pub uncut : cuts_of log ≡ []
  pub idle : All ChangesNothing (sections_of log)
  pub look : Section
  pub sections : sections_of log ≡ look ∷ []
  pub finds : FindsBucket bucket mode look

-- the body so far is staged: its bytes are those of the log, and so are the letters of the drives and the calls that were made of them
pub record Stages (ask : PutAsk) (work : Work) (claim : Claim) (log : Log) : Type 0 where
  pub looked : HasLookedAt (key_of ask.target).bucket work.mode log
  pub held : HoldsPut (key_of ask.target) work.flight claim
  pub stage_of : IsStageOf ask work.flight work.stage
  pub shards : List (List (List ℕ))
  pub taken : HasTaken work.stage.load (body_of log) shards
  pub letters : (k : ℕ) → k < ask.set.drives → StageLetter ask.set work.flight.id log k (why_at work.stage k)
  pub called : (k : ℕ) → k < ask.set.drives → CalledSo work.stage k (slice_index_or shards k []) (calls_at k log)
  pub claims : ClaimsSo work.stage shards work.flight.id claim

-- what the sections so far decide, whatever the body
abbrev pub IsDecided : Key → Reply → Log → Type 0
IsDecided at reply log = EndsAtLook at.bucket reply log ⊎ KeyIsBarred at reply log ⊎ PutIsNotBegun at reply log

-- and a part of the body was taken
pub record Drains (ask : PutAsk) (read : ℕ) (reply : Reply) (log : Log) : Type 0 where
  pub untold : All IsUntold log
  pub uncut : cuts_of log ≡ []
  pub read_is : length (body_of log) ≡ read
  pub decided : IsDecided (key_of ask.target) reply log

-- what is held once no stage is at work: the ids whose files are to be removed; or a put of which a section could not be done
pub record IsLeft (slot : ℕ) (claim : Claim) (log : Log) : Type 0 where
  pub slot_is : claim.slot ≡ slot
  pub none_taken : claim.taken ≡ []
  pub why : Barred
  pub barred : Contains log (BarredFrom slot why)

abbrev pub HoldsRest : ℕ → Clearing → Claim → Log → Type 0
HoldsRest slot clearing claim log = (claim ≡ with_taken (no_claim slot) (ids_of (files_left clearing)))
    ⊎ (HasNone clearing × IsLeft slot claim log)

-- which claim and log it may have
abbrev pub PutStandsAt : PutAsk → ℕ → Clearing → PutState → Claim → Log → Type 0
PutStandsAt ask read clearing state.Looking claim log = HasNone clearing × (claim ≡ no_claim (key_slot (key_of ask.target))) × (log ≡ [])
PutStandsAt ask read clearing (state.Beginning mode) claim log = HasNone clearing × (claim ≡ no_claim (key_slot (key_of ask.target))) × HasFound (key_of ask.target).bucket mode log
PutStandsAt ask read clearing (state.Staging work) claim log = HasNone clearing × Stages ask work claim log
PutStandsAt ask read clearing (state.Dropping flight cut) claim log = HasNone clearing × HoldsPut (key_of ask.target) flight claim × Pays ask.set (task_of ask) (Some cut) log
PutStandsAt ask read clearing (state.Draining reply) claim log = HoldsRest (key_slot (key_of ask.target)) clearing claim log × Drains ask read reply log
PutStandsAt ask read clearing (state.Telling reply) claim log = HoldsRest (key_slot (key_of ask.target)) clearing claim log × IsReady ask.set (task_of ask) reply log
PutStandsAt ask read clearing (state.Told cut) claim log = HoldsRest (key_slot (key_of ask.target)) clearing claim log × Pays ask.set (task_of ask) cut log

-- what an op was asked
abbrev pub ask_of : PutOp → PutAsk
ask_of op = record { set = op.set; target = op.target; stated = op.md5; long = op.long; now = op.now }

abbrev pub PutStands : PutOp → Claim → Log → Type 0
PutStands op claim log = PutStandsAt (ask_of op) op.read op.clearing op.state claim log

abbrev pub step_of : PutOp → OpNext
step_of op = step_at (key_of op.target) op.clearing op.state

abbrev pub left_of : PutOp → ℕ
left_of op = left_at op.set op.long op.read op.clearing op.state

-- the section that commits comes next: the stage of the body is over, and all is staged
abbrev pub IsAtCommit : PutOp → Type 0
IsAtCommit op = (work : Work) × (op.state ≡ state.Staging work) × (work.next ≡ Finish) × Succeeds work.stage

-- a step leaves what it was asked, and where
pub record IsSamePut (old new : PutOp) : Type 0 where
  pub set : new.set ≡ old.set
  pub target : new.target ≡ old.target
  pub stated : new.md5 ≡ old.md5
  pub long : new.long ≡ old.long
  pub now : new.now ≡ old.now
