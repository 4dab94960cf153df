-- A put under way: how its stage begins, and does the calls of drives.
-- How a PutObject takes the bytes of its body.
use Rattle.std.specs.Prelude.{◌≡◌, ℕ, ◌<◌, ◌≤◌, List, length, slice_index_or, Option, Result, Ok, Err, ◌⊎◌, [], Some, None}
use Rattle.body_print.specs.Plans.{data_plan}
use Rattle.call_types.specs.declared.feed.Cut.TheVariants.{NoMemory}
use Rattle.call_types.specs.declared.names.Mode.{Mode}
use Rattle.drive_base.specs.declared.drive.Drive.{Ghosts}
use Rattle.drive_base.specs.declared.plan.SetPlan.{SetPlan}
use Rattle.put_stage.specs.Loads.{BeginsBody}
use Rattle.put_stage.specs.Left.{calls_left}
use Rattle.put_stage.specs.Steps.{StepWorks, StepsOnce}
use Rattle.put_stage.specs.declared.stage.Stage.{Stage}
use Rattle.slot_core.specs.declared.slot.SlotFault.{SlotFault}
use Rattle.slot_core.specs.declared.holding.Flight.{Flight}
use Rattle.object_ops.specs.PutOutcome.{RefusedBegin, OwesNext}
use Rattle.object_ops.specs.declared.put_state.PutState.{PutState}
use Rattle.object_ops.specs.declared.put_state.PutState.TheVariants.{Beginning, Draining, Dropping, Looking, Staging, Telling, Told}
use Rattle.object_ops.specs.declared.put_state.Work.{Work}
use Rattle.call_types.specs.declared.feed.Cut.{Cut}
use Rattle.call_types.specs.declared.feed.Cut.TheVariants as cut
use Rattle.call_types.specs.declared.reply.Reply.{Reply}
use Rattle.put_stage.specs.TakenBodies.{Filled}
use Rattle.put_stage.specs.declared.stage.StageNext.TheVariants as next
use Rattle.put_stage.specs.declared.answers.StageFault.{StageFault}
use Rattle.put_stage.specs.declared.answers.StageFault.TheVariants as fault
use Rattle.op_steps.specs.Moves.{FeedMoves}
use Rattle.op_steps.specs.Store.{FeedSeen}
use Rattle.object_ops.specs.declared.put_stage_calls.PutFed.{PutFed}

-- that of a flight, in a bucket of this mode, with this stage of its body
pub record IsWorkOf (mode : Mode) (flight : Flight) (stage : Stage) (work : Work) : Type 0 where
  pub mode_is : work.mode ≡ mode
  pub flight_is : work.flight ≡ flight
  pub stage_is : work.stage ≡ stage

-- a put begins with its flight: its stage has done nothing yet, or it is given up for want of memory
pub record BeginsStage (set : SetPlan) (register : List ℕ) (long : ℕ) (stated : Option (List ℕ)) (mode : Mode) (flight : Flight) (work : Work) : Type 0 where
  pub mode_is : work.mode ≡ mode
  pub flight_is : work.flight ≡ flight
  pub stage : BeginsBody (data_plan set flight.id) flight.id register long stated work.stage

abbrev pub BeginsWork : SetPlan → List ℕ → ℕ → Option (List ℕ) → Mode → Flight → PutState → Type 0
BeginsWork set register long stated mode flight Looking = ⊥
BeginsWork set register long stated mode flight (Beginning other) = ⊥
BeginsWork set register long stated mode flight (Staging work) = BeginsStage set register long stated mode flight work
BeginsWork set register long stated mode flight (Dropping other cut) = (other ≡ flight) × (cut ≡ NoMemory)
BeginsWork set register long stated mode flight (Draining reply) = ⊥
BeginsWork set register long stated mode flight (Telling reply) = ⊥
BeginsWork set register long stated mode flight (Told cut) = ⊥

-- the begin of a put leads on, by its answer
abbrev pub BeginsTo : SetPlan → List ℕ → ℕ → Option (List ℕ) → Mode → Result Flight SlotFault → PutState → Type 0
BeginsTo set register long stated mode (Ok flight) state = BeginsWork set register long stated mode flight state
BeginsTo set register long stated mode (Err fault) state = RefusedBegin fault long state

-- its stage did one call of a drive
pub record StepsWork {D : Type 0} (ghosts : Ghosts D) (work later : Work) (old new : List D) : Type 0 where
  pub mode_is : later.mode ≡ work.mode
  pub flight_is : later.flight ≡ work.flight
  pub once : StepsOnce ghosts work.stage later.stage old new
  pub works : StepWorks ghosts work.stage later.stage old new
  pub load : later.stage.load ≡ work.stage.load
  pub tells : (k : ℕ) (d : D) → k < length old → ghosts.tells (slice_index_or new k d) ≡ ghosts.tells (slice_index_or old k d)
  pub counts : (k : ℕ) (d : D) → k < length old → ghosts.count (slice_index_or old k d) ≤ ghosts.count (slice_index_or new k d)
  pub fewer : calls_left later.stage < calls_left work.stage

-- why a call is cut whose fill was refused
abbrev pub stage_cut : StageFault → ℕ → ℕ → Cut
stage_cut fault.BodyCut read long = cut.BodyCut read long
stage_cut fault.ReadFault read long = cut.ReadFault
stage_cut fault.NoMemory read long = cut.NoMemory
stage_cut (fault.WriteQuorum whys) read long = cut.NoMemory
stage_cut (fault.BadDigest stated computed) read long = cut.NoMemory

-- what its feed failed for: want of memory is no failure of the feed
abbrev pub feed_cut : Cut → Option Cut
feed_cut cut.ReadFault = Some cut.ReadFault
feed_cut (cut.BodyCut read stated) = Some (cut.BodyCut read stated)
feed_cut cut.WriteFault = None
feed_cut (cut.ShardCut whys) = None
feed_cut cut.NoMemory = None

-- a call is cut for its feed, or for want of memory
abbrev pub IsFeedCut : Cut → Type 0
IsFeedCut why = (why ≡ cut.NoMemory) ⊎ (feed_cut why ≡ Some why)

-- a stage took these bytes more
pub record FillsOn (work later : Work) (old new : FeedSeen) : Type 0 where
  pub mode_is : later.mode ≡ work.mode
  pub flight_is : later.flight ≡ work.flight
  pub bytes : List ℕ
  pub filled : Filled work.stage later.stage bytes
  pub moves : FeedMoves bytes None old new
  pub fewer : calls_left later.stage < calls_left work.stage

-- after a fill: the stage goes on, or the put is given up, for the failure of the feed or for want of memory
abbrev pub FillsTo : Work → PutState → FeedSeen → FeedSeen → Type 0
FillsTo work (Staging later) old new = FillsOn work later old new
FillsTo work (Dropping flight why) old new = (flight ≡ work.flight) × IsFeedCut why × ((bytes : List ℕ) × FeedMoves bytes (feed_cut why) old new)
FillsTo work Looking old new = ⊥
FillsTo work (Beginning mode) old new = ⊥
FillsTo work (Draining told) old new = ⊥
FillsTo work (Telling told) old new = ⊥
FillsTo work (Told why) old new = ⊥

-- after bytes of no use were taken: the reply is nearer, or the call is cut for the failure of the feed
pub record DrainsOn (told : Reply) (read long : ℕ) (fed : PutFed) (old new : FeedSeen) : Type 0 where
  pub owes : OwesNext told fed.read long fed.state
  pub more : read < fed.read
  pub within : fed.read ≤ long
  pub bytes : List ℕ
  pub moves : FeedMoves bytes None old new

abbrev pub DrainsTo : Reply → ℕ → ℕ → PutFed → FeedSeen → FeedSeen → Type 0
DrainsTo told read long fed old new = DrainsOn told read long fed old new
    ⊎ ((why : Cut) × (fed.state ≡ Told (Some why)) × FeedMoves [] (Some why) old new)

-- what a take of bytes does, where some are due
abbrev pub FeedsTo : PutState → ℕ → ℕ → PutFed → FeedSeen → FeedSeen → Type 0
FeedsTo Looking read long fed old new = Unit {0}
FeedsTo (Beginning mode) read long fed old new = Unit {0}
FeedsTo (Staging work) read long fed old new = work.next ≡ next.Fill → FillsTo work fed.state old new
FeedsTo (Dropping flight why) read long fed old new = Unit {0}
FeedsTo (Draining told) read long fed old new = DrainsTo told read long fed old new
FeedsTo (Telling told) read long fed old new = Unit {0}
FeedsTo (Told why) read long fed old new = Unit {0}
