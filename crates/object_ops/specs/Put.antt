-- How far a PutObject is, what comes next, and how much is left.
use Rattle.std.specs.Prelude.{ℕ, ◌+◌, ◌-◌, ◌*◌, List, Option, None}
use Rattle.call_types.specs.declared.feed.Cut.{Cut}
use Rattle.call_types.specs.declared.names.Key.{Key}
use Rattle.desk_base.specs.Answering.{Task}
use Rattle.drive_base.specs.declared.plan.SetPlan.{SetPlan}
use Rattle.put_stage.specs.Left.{calls_left}
use Rattle.put_stage.specs.declared.stage.StageNext.{StageNext}
use Rattle.put_stage.specs.declared.stage.StageNext.TheVariants as stage
use Rattle.receipts.specs.Registers.{bucket_slot, key_slot}
use Rattle.op_steps.specs.declared.next.OpNext.{OpNext}
use Rattle.op_steps.specs.declared.next.OpNext.TheVariants as next
use Rattle.object_ops.specs.Clearing.{left_of as left_to_clear, next_of}
use Rattle.object_ops.specs.PutTarget.{call_of}
use Rattle.object_ops.specs.declared.clearing.Clearing.{Clearing}
use Rattle.object_ops.specs.declared.put_state.PutState.{PutState}
use Rattle.object_ops.specs.declared.put_state.PutState.TheVariants.{Beginning, Draining, Dropping, Looking, Staging, Telling, Told}
use Rattle.object_ops.specs.declared.put_target.PutTarget.{PutTarget}

-- what a put was asked, on a store over this set, in this second
pub record PutAsk : Type 0 where
  pub set : SetPlan
  pub target : PutTarget
  pub stated : Option (List ℕ)
  pub long : ℕ
  pub now : ℕ

abbrev pub task_of : PutAsk → Task
task_of ask = record { call = call_of ask.target ask.stated ask.long; now = ask.now }

-- the length of the body, by how many bytes were taken of it: none before its stage begins, and then those that its stage has
abbrev pub long_by : ℕ → ℕ → PutState → ℕ
long_by long read Looking = long + read
long_by long read (Beginning mode) = long + read
long_by long read (Staging work) = work.stage.load.left + read
long_by long read (Dropping flight cut) = long
long_by long read (Draining reply) = long
long_by long read (Telling reply) = long
long_by long read (Told cut) = long

-- how much of the body there is at least: where it is drained, one byte more than was taken
abbrev pub reach_by : ℕ → PutState → ℕ
reach_by read Looking = 0
reach_by read (Beginning mode) = 0
reach_by read (Staging work) = 0
reach_by read (Dropping flight cut) = 0
reach_by read (Draining reply) = read + 1
reach_by read (Telling reply) = 0
reach_by read (Told cut) = 0

-- how many drives its stage is over, on a store of so many
abbrev pub drives_by : ℕ → PutState → ℕ
drives_by drives Looking = drives
drives_by drives (Beginning mode) = drives
drives_by drives (Staging work) = work.stage.load.set.drives
drives_by drives (Dropping flight cut) = drives
drives_by drives (Draining reply) = drives
drives_by drives (Telling reply) = drives
drives_by drives (Told cut) = drives

-- what comes next
abbrev pub work_step : ℕ → StageNext → OpNext
work_step slot stage.Fill = next.Feed
work_step slot stage.Step = next.Data
work_step slot stage.Finish = next.Section slot

abbrev pub step_at : Key → Clearing → PutState → OpNext
step_at at clearing Looking = next.Section (bucket_slot at.bucket)
step_at at clearing (Beginning mode) = next.Section (key_slot at)
step_at at clearing (Staging work) = work_step (key_slot at) work.next
step_at at clearing (Dropping flight cut) = next.Section (key_slot at)
step_at at clearing (Draining reply) = next.Feed
step_at at clearing (Telling reply) = next.Tell
step_at at clearing (Told cut) = next_of (key_slot at) clearing

-- how many fills and calls a stage of a body makes at most
abbrev pub most_calls : SetPlan → ℕ → ℕ
most_calls set long = long * (7 * set.drives + 1) + 7 * set.drives

-- how much is left. Once its put has ended trash is taken
abbrev pub left_at : SetPlan → ℕ → ℕ → Clearing → PutState → ℕ
left_at set long read clearing Looking = left_to_clear set clearing + 32 * set.drives + 5 + most_calls set long
left_at set long read clearing (Beginning mode) = left_to_clear set clearing + 32 * set.drives + 4 + most_calls set long
left_at set long read clearing (Staging work) = left_to_clear set clearing + 32 * set.drives + 3 + calls_left work.stage
left_at set long read clearing (Dropping flight cut) = left_to_clear set clearing + 32 * set.drives + 2
left_at set long read clearing (Draining reply) = left_to_clear set clearing + 1 + (long - read)
left_at set long read clearing (Telling reply) = left_to_clear set clearing + 1
left_at set long read clearing (Told cut) = left_to_clear set clearing

-- why it was cut
abbrev pub cut_of : PutState → Option Cut
cut_of Looking = None
cut_of (Beginning mode) = None
cut_of (Staging work) = None
cut_of (Dropping flight cut) = None
cut_of (Draining reply) = None
cut_of (Telling reply) = None
cut_of (Told cut) = cut
