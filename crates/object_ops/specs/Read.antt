-- What a HeadObject and a GetObject do.
use Rattle.std.specs.Prelude.{◌≡◌, ◌+◌, ◌*◌, ◌^◌, ℕ, Bool, true, false, [], Option, Some, None, if◌then◌else◌}
use Rattle.call_types.specs.declared.feed.Cut.{Cut}
use Rattle.call_types.specs.declared.feed.Cut.TheVariants.{NoMemory, ShardCut}
use Rattle.call_types.specs.declared.names.Key.{Key}
use Rattle.call_types.specs.declared.names.Pick.{Pick}
use Rattle.call_types.specs.declared.refusal.Refusal.TheVariants.{SeqSpent, ShardQuorum}
use Rattle.call_types.specs.declared.reply.Reply.{Reply}
use Rattle.call_types.specs.declared.reply.Reply.TheVariants as reply
use Rattle.desk_base.specs.Answering.{Task, bytes_after}
use Rattle.drive_base.specs.declared.plan.SetPlan.{SetPlan}
use Rattle.slot_core.specs.declared.holding.Pin.{Pin}
use Rattle.receipts.specs.Events.{Log}
use Rattle.receipts.specs.Paying.{Pays}
use Rattle.receipts.specs.Registers.{bucket_slot, key_slot}
use Rattle.receipts.specs.Spans.{GivesBytes}
use Rattle.receipts.specs.declared.barred.Barred.{Barred}
use Rattle.receipts.specs.declared.barred.Barred.TheVariants as barred
use Rattle.op_steps.specs.Claims.{Claim}
use Rattle.op_steps.specs.Ready.{IsReady}
use Rattle.op_steps.specs.Words.{LetsGo}
use Rattle.op_steps.specs.declared.next.OpNext.{OpNext}
use Rattle.op_steps.specs.declared.next.OpNext.TheVariants as next
use Rattle.op_steps.specs.declared.looking.Looked.{Looked}
use Rattle.op_steps.specs.declared.looking.Looked.TheVariants as looked
use Rattle.object_ops.specs.Reading.{HasFound, HasPin, HoldsNone, HoldsPin}
use Rattle.object_ops.specs.ReadingTold.{IsFetching, IsGiving}
use Rattle.object_ops.specs.declared.read_op.ReadKind.{ReadKind}
use Rattle.object_ops.specs.declared.read_op.ReadKind.TheVariants as asks
use Rattle.object_ops.specs.declared.read_op.ReadState.{ReadState}
use Rattle.object_ops.specs.declared.read_op.ReadState.TheVariants.{Beginning, Ending, Fetching, Giving, Looking, Over, Telling}
use Rattle.object_ops.specs.declared.reading.Reading.{Reading}
use Rattle.object_ops.specs.declared.reading.Stepped.{Stepped}
use Rattle.object_ops.specs.declared.reading.Stepped.TheVariants as stepped
use Rattle.object_ops.specs.declared.reading.Planned.{Planned}
use Rattle.object_ops.specs.declared.reading.Planned.TheVariants as planned

-- what comes next
abbrev pub step_of : ReadState → Key → OpNext
step_of Looking at = next.Section (bucket_slot at.bucket)
step_of (Beginning mode) at = next.Section (key_slot at)
step_of (Telling told) at = next.Tell
step_of Fetching at = next.Data
step_of Giving at = next.Tell
step_of (Ending cut) at = next.Section (key_slot at)
step_of (Over cut) at = next.Done

-- how much is left of a reading: for each call that may be made, its call and two tellings
abbrev pub left_in : Option Reading → ℕ
left_in None = 3
left_in (Some reading) = 3 * reading.calls + 3

abbrev pub left_to_tell : Option Reading → ℕ
left_to_tell None = 5
left_to_tell (Some reading) = 3 * reading.calls + (if reading.told then 4 else 5)

-- how much is left
abbrev pub left_of : ReadState → Option Reading → ℕ
left_of Looking reading = 3 * 2 ^ 64 + 9
left_of (Beginning mode) reading = 3 * 2 ^ 64 + 8
left_of (Telling told) reading = 2
left_of Fetching reading = left_in reading
left_of Giving reading = left_to_tell reading
left_of (Ending cut) reading = 1
left_of (Over cut) reading = 0

-- why it was cut
abbrev pub cut_of : ReadState → Option Cut
cut_of Looking = None
cut_of (Beginning mode) = None
cut_of (Telling told) = None
cut_of Fetching = None
cut_of Giving = None
cut_of (Ending cut) = cut
cut_of (Over cut) = cut

-- how far it is where a section can't be done before anything is told
abbrev pub barred_state : Barred → ReadState
barred_state barred.Spent = Telling (reply.Refused SeqSpent)
barred_state barred.NoMemory = Over (Some NoMemory)

-- and where any section can't be done: the end of a read goes without it
abbrev pub barred_after : ReadState → Barred → ReadState
barred_after Looking why = barred_state why
barred_after (Beginning mode) why = barred_state why
barred_after (Telling told) why = barred_state why
barred_after Fetching why = barred_state why
barred_after Giving why = barred_state why
barred_after (Ending cut) why = Over cut
barred_after (Over cut) why = barred_state why

-- after the look
abbrev pub Looks : Looked → ReadState → Type 0
Looks (looked.There mode) state = state ≡ Beginning mode
Looks (looked.Refused why) state = state ≡ Telling (reply.Refused why)
Looks looked.LacksMemory state = state ≡ Over (Some NoMemory)

-- after what was planned for a version that was found
abbrev pub Plans : Planned → ReadState → Option Reading → Type 0
Plans (planned.Tells told) state reading = (state ≡ Telling told) × (reading ≡ None)
Plans (planned.Reads made) state reading = (state ≡ Fetching) × (reading ≡ Some made)
Plans planned.LacksMemory state reading = (state ≡ Ending (Some NoMemory)) × (reading ≡ None)

-- after a step of its reading: letters are a refusal, or a cut once the head is told
abbrev pub fetched_state : Stepped → Bool → ReadState
fetched_state stepped.Goes told = Fetching
fetched_state stepped.Gives told = Giving
fetched_state (stepped.Refused whys) true = Ending (Some (ShardCut whys))
fetched_state (stepped.Refused whys) false = Telling (reply.Refused (ShardQuorum whys))
fetched_state stepped.LacksMemory told = Ending (Some NoMemory)

-- after a telling: a read that has a pin ends
abbrev pub ending_of : Option Pin → Option Cut → ReadState
ending_of None cut = Over cut
ending_of (Some pin) cut = Ending cut

-- whether it has the pin of a read
abbrev pub needs_pin : ReadState → Bool
needs_pin Looking = false
needs_pin (Beginning mode) = false
needs_pin (Telling told) = false
needs_pin Fetching = true
needs_pin Giving = true
needs_pin (Ending cut) = true
needs_pin (Over cut) = false

-- and there is none
abbrev pub lacks_pin : ReadState → Option Pin → Bool
lacks_pin state None = needs_pin state
lacks_pin state (Some pin) = false

-- a reply that no bytes follow is owed
pub record IsBare (set : SetPlan) (task : Task) (told : Reply) (log : Log) : Type 0 where
  pub ready : IsReady set task told log
  pub none_after : 0 ≡ bytes_after told task.call
  pub gives : (more : Log) → GivesBytes set task.call told [] more

-- a piece of a GetObject's span is due, and a HeadObject has none
abbrev pub Fetches : SetPlan → Task → Key → Pick → ReadKind → Option Reading → Log → Type 0
Fetches set task at pick asks.Head reading log = ⊥
Fetches set task at pick (asks.Get ask) None log = ⊥
Fetches set task at pick (asks.Get ask) (Some r) log = IsFetching set task at pick ask r log

-- or it is at hand
abbrev pub Gives : SetPlan → Task → Key → Pick → ReadKind → Option Reading → Log → Type 0
Gives set task at pick asks.Head reading log = ⊥
Gives set task at pick (asks.Get ask) None log = ⊥
Gives set task at pick (asks.Get ask) (Some r) log = IsGiving set task at pick ask r log

-- which claim and log it may have, by how far it is
abbrev pub ReadStands : SetPlan → Task → Key → Pick → ReadKind → ReadState → Option Pin → Option Reading → Claim → Log → Type 0
ReadStands set task at pick kind Looking pin reading claim log = HoldsNone (key_slot at) pin claim × (log ≡ [])
ReadStands set task at pick kind (Beginning mode) pin reading claim log = HoldsNone (key_slot at) pin claim × HasFound at.bucket mode log
ReadStands set task at pick kind (Telling told) pin reading claim log = HoldsPin (key_slot at) pin claim × IsBare set task told log
ReadStands set task at pick kind Fetching pin reading claim log = HasPin (key_slot at) pin claim × Fetches set task at pick kind reading log
ReadStands set task at pick kind Giving pin reading claim log = HasPin (key_slot at) pin claim × Gives set task at pick kind reading log
ReadStands set task at pick kind (Ending cut) pin reading claim log = HasPin (key_slot at) pin claim × Pays set task cut log
ReadStands set task at pick kind (Over cut) pin reading claim log = LetsGo claim log × Pays set task cut log
