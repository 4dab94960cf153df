-- What is done for what the begin of a read answers: a version, a condition and a range come to a reply or to a reading.
use Rattle.std.specs.Prelude.{◌≡◌, Some, Result, Ok, Err, ◌⊎◌, ◌<◌, ◌^◌, ℕ, List, true, false, [], Option, None}
use Rattle.call_types.specs.Refusals.{refusal_of}
use Rattle.call_types.specs.declared.names.Mode.{Mode}
use Rattle.call_types.specs.declared.refusal.Refusal.{Refusal}
use Rattle.slot_core.specs.declared.slot.SlotFault.{SlotFault}
use Rattle.slot_core.specs.declared.slot.SlotFault.TheVariants.{AuditFailed, Key, NoMemory, NotInFlight, Quorum, SeqSpent}
use Rattle.slot_core.specs.declared.read_plan.ReadStart.{ReadStart}
use Rattle.version_list.specs.Step.{told}
use Rattle.receipts.specs.Looks.{IsOfSection}
use Rattle.op_steps.specs.Notes.{refusal_by}
use Rattle.object_ops.specs.declared.reading.Started.{Started}
use Rattle.object_ops.specs.declared.reading.Started.TheVariants as started
use Rattle.body_print.specs.Plans.{data_plan}
use Rattle.call_types.specs.declared.names.RangeAsk.{RangeAsk}
use Rattle.call_types.specs.declared.names.Span.{Span}
use Rattle.call_types.specs.declared.names.VersionName.{VersionName}
use Rattle.call_types.specs.declared.refusal.Refusal.TheVariants as refusal
use Rattle.call_types.specs.declared.reply.Reply.{Reply}
use Rattle.call_types.specs.declared.reply.Reply.TheVariants.{Found, Refused}
use Rattle.call_types.specs.declared.version.Version.{Version}
use Rattle.drive_base.specs.declared.plan.SetPlan.{SetPlan}
use Rattle.get_read.specs.Readers.{IsAccountOf}
use Rattle.get_read.specs.declared.state.Asked.{Asked}
use Rattle.span_plan.specs.Span.{Plans}
use Rattle.span_plan.specs.declared.ranges.InvalidRange.{InvalidRange}
use Rattle.receipts.specs.Letters.{Wanted}
use Rattle.receipts.specs.Reading.{ConditionFails, IsWanted, is_met}
use Rattle.receipts.specs.Spans.{body_length, whole_of}
use Rattle.object_ops.specs.declared.read_op.ReadKind.{ReadKind}
use Rattle.object_ops.specs.declared.read_op.ReadKind.TheVariants as asks
use Rattle.object_ops.specs.declared.reading.Reading.{Reading}
use Rattle.object_ops.specs.declared.reading.Planned.{Planned}
use Rattle.object_ops.specs.declared.reading.Planned.TheVariants.{LacksMemory, Reads, Tells}

-- a refusal is one of a section
abbrev pub IsOfFault : SlotFault → Refusal → Type 0
IsOfFault fault why = (refusal_by fault ≡ Some why) × IsOfSection why

-- or that of the state of a key
abbrev pub RefusesSo : SlotFault → Refusal → Type 0
RefusesSo (Key refusal) why = why ≡ refusal_of refusal
RefusesSo (Quorum fault) why = IsOfFault (Quorum fault) why
RefusesSo SeqSpent why = IsOfFault SeqSpent why
RefusesSo (AuditFailed before after) why = IsOfFault (AuditFailed before after) why
RefusesSo NoMemory why = IsOfFault NoMemory why
RefusesSo (NotInFlight id) why = IsOfFault (NotInFlight id) why

-- by its answer, in a bucket of this mode: the version with the name that a reply tells, and the pin; or why it was refused
abbrev pub StartsSo : Mode → Result ReadStart SlotFault → Started → Type 0
StartsSo mode (Ok start) (started.Found version id pin) = (version ≡ start.version) × (id ≡ told mode start.version.id) × (pin ≡ start.pin)
StartsSo mode (Ok start) (started.Refused why) = ⊥
StartsSo mode (Ok start) started.LacksMemory = ⊥
StartsSo mode (Err fault) (started.Found version id pin) = ⊥
StartsSo mode (Err fault) (started.Refused why) = RefusesSo fault why
StartsSo mode (Err fault) started.LacksMemory = Unit {0}

-- how many drives a reading is over: those of its set, or of this one where there is none
abbrev pub drives_of : SetPlan → Option Reading → ℕ
drives_of set None = set.drives
drives_of set (Some reading) = reading.reader.asked.wanted.set.drives

-- what a reader is asked for, as what is wanted of a version
abbrev pub wanted_by : Asked → Wanted
wanted_by asked = record { id = asked.id; print = asked.wanted.print; reach = asked.wanted.reach }

-- the range is invalid
pub record IsInvalid (version : Version) (ask : RangeAsk) (reply : Reply) : Type 0 where
  pub invalid : InvalidRange
  pub plans : Plans (body_length version.what) ask (Err invalid)
  pub told : reply ≡ Refused (refusal.InvalidRange invalid.0)

-- the span is empty
pub record IsEmpty (version : Version) (id : Option VersionName) (ask : RangeAsk) (reply : Reply) : Type 0 where
  pub span : Span
  pub plans : Plans (body_length version.what) ask (Ok span)
  pub empty : span.length ≡ 0
  pub wanted : Wanted
  pub is_wanted : IsWanted version.what span wanted
  pub told : reply ≡ Found version span id

-- a reading is of a span that the range gives of a version, by the plan of its data
pub record IsOfSpan (set : SetPlan) (ask : RangeAsk) (version : Version) (id : Option VersionName) (reading : Reading) : Type 0 where
  pub plans : Plans (body_length version.what) ask (Ok reading.span)
  pub reply_is : reading.reply ≡ Found version reading.span id
  pub wanted : IsWanted version.what reading.span (wanted_by reading.reader.asked)
  pub set_is : reading.reader.asked.wanted.set ≡ data_plan set reading.reader.asked.id
  pub span_is : reading.reader.asked.span ≡ reading.span

-- nothing of it was read or told
pub record IsUnread (reading : Reading) : Type 0 where
  pub some : 0 < reading.span.length
  pub left : reading.left ≡ reading.span.length
  pub few : reading.calls < 2 ^ 64
  pub untold : reading.told ≡ false
  pub none : IsAccountOf reading.reader (record { before = []; since = [] }) []

-- a reply that no bytes follow, of a version that meets the condition: the version with its whole body to a HeadObject
abbrev pub IsToldAlone : ReadKind → Version → Option VersionName → Reply → Type 0
IsToldAlone asks.Head version id reply = reply ≡ Found version (whole_of version) id
IsToldAlone (asks.Get ask) version id reply = IsInvalid version ask reply ⊎ IsEmpty version id ask reply

-- a reading is of what is asked
abbrev pub IsOfAsk : SetPlan → ReadKind → Version → Option VersionName → Reading → Type 0
IsOfAsk set asks.Head version id reading = ⊥
IsOfAsk set (asks.Get ask) version id reading = IsOfSpan set ask version id reading

-- a reply that no bytes follow, or a reading, or nothing for want of memory. The range is looked at only where the condition holds
abbrev pub PlansSo : SetPlan → Version → Option VersionName → ReadKind → Option (List ℕ) → Planned → Type 0
PlansSo set version id kind matches (Tells reply) =
    ConditionFails matches version reply ⊎ ((is_met matches version.what ≡ true) × IsToldAlone kind version id reply)
PlansSo set version id kind matches (Reads reading) =
    (is_met matches version.what ≡ true) × IsOfAsk set kind version id reading × IsUnread reading
PlansSo set version id kind matches LacksMemory = Unit {0}
