-- What a HeadObject and a GetObject stand for, how they begin, and how far they are after their steps.
use Rattle.std.specs.Prelude.{◌≡◌, ℕ, List, Option, None, Bool, true, false, Some, nat_lt, if◌then◌else◌}
use Rattle.call_types.specs.declared.names.Key.{Key}
use Rattle.call_types.specs.declared.names.Pick.{Pick}
use Rattle.desk_base.specs.Calls.{IsKey}
use Rattle.desk_base.specs.declared.call.Call.{Call}
use Rattle.drive_base.specs.declared.plan.SetPlan.{SetPlan}
use Rattle.object_ops.specs.declared.read_op.ReadKind.{ReadKind}
use Rattle.object_ops.specs.declared.read_op.ReadKind.TheVariants as asks
use Rattle.object_ops.specs.declared.read_op.ReadOp.{ReadOp}
use Rattle.object_ops.specs.declared.read_op.ReadState.TheVariants.{Looking, Ending, Fetching, Giving, Over, Telling}
use Rattle.desk_base.specs.Answering.{Task}
use Rattle.desk_base.specs.declared.call.Call.TheVariants as call
use Rattle.receipts.specs.Events.{Log}
use Rattle.op_steps.specs.Claims.{Claim}
use Rattle.object_ops.specs.Read.{ReadStands, Plans}
use Rattle.call_types.specs.declared.feed.Cut.{Cut}
use Rattle.call_types.specs.declared.feed.Cut.TheVariants.{NoMemory}
use Rattle.call_types.specs.declared.reply.Reply.TheVariants as reply
use Rattle.object_ops.specs.ReadingPlan.{PlansSo}
use Rattle.object_ops.specs.declared.read_outcome.Begun.{Begun}
use Rattle.object_ops.specs.declared.read_op.ReadState.{ReadState}
use Rattle.object_ops.specs.declared.reading.Planned.{Planned}
use Rattle.object_ops.specs.declared.reading.Started.{Started}
use Rattle.object_ops.specs.declared.reading.Started.TheVariants.{Found, LacksMemory, Refused}

-- a call is a HeadObject or a GetObject of a key
abbrev pub IsRead : Call → Type 0
IsRead (call.Head at pick matches) = IsKey at
IsRead (call.Get at pick ask matches) = IsKey at
IsRead other = ⊥

-- an op that asks this of a key, made in this second
pub record IsNewRead (set : SetPlan) (at : Key) (pick : Pick) (kind : ReadKind) (matches : Option (List ℕ)) (now : ℕ) (op : ReadOp) : Type 0 where
  pub set_is : op.set ≡ set
  pub at_is : op.at ≡ at
  pub pick_is : op.pick ≡ pick
  pub kind_is : op.kind ≡ kind
  pub matches_is : op.matches ≡ matches
  pub now_is : op.now ≡ now
  pub state_is : op.state ≡ Looking
  pub pin_is : op.pin ≡ None
  pub reading_is : op.reading ≡ None

-- the call that asks this of a key
abbrev pub call_by : Key → Pick → ReadKind → Option (List ℕ) → Call
call_by at pick asks.Head matches = call.Head at pick matches
call_by at pick (asks.Get ask) matches = call.Get at pick ask matches

abbrev pub task_by : Key → Pick → ReadKind → Option (List ℕ) → ℕ → Task
task_by at pick kind matches now = record { call = call_by at pick kind matches; now = now }

-- what an op was asked
abbrev pub read_task : ReadOp → Task
read_task op = task_by op.at op.pick op.kind op.matches op.now

abbrev pub StandsFor : ReadOp → Claim → Log → Type 0
StandsFor op claim log = ReadStands op.set (read_task op) op.at op.pick op.kind op.state op.pin op.reading claim log

-- it goes on for the same call
pub record StaysRead (old new : ReadOp) : Type 0 where
  pub set_is : new.set ≡ old.set
  pub at_is : new.at ≡ old.at
  pub pick_is : new.pick ≡ old.pick
  pub kind_is : new.kind ≡ old.kind
  pub matches_is : new.matches ≡ old.matches
  pub now_is : new.now ≡ old.now

-- after the begin of its read: what was planned for the version that was found, with its pin
abbrev pub Begins : SetPlan → ReadKind → Option (List ℕ) → Started → Begun → Type 0
Begins set kind matches (Found version id pin) begun =
    (begun.pin ≡ Some pin) × ((made : Planned) × PlansSo set version id kind matches made × Plans made begun.state begun.reading)
Begins set kind matches (Refused why) begun = (begun.pin ≡ None) × (begun.state ≡ Telling (reply.Refused why)) × (begun.reading ≡ None)
Begins set kind matches LacksMemory begun = (begun.pin ≡ None) × (begun.state ≡ Over (Some NoMemory)) × (begun.reading ≡ None)

-- after the head or a piece was told: the piece comes next, or a call of a data drive, or nothing
abbrev pub told_state : ℕ → Bool → Option Cut → ReadState
told_state left was_told (Some cut) = Ending (Some cut)
told_state left false None = Giving
told_state left true None = if nat_lt 0 left then Fetching else Ending None
