-- Which bytes a reply with a body gives.
use Rattle.std.specs.Prelude.{◌≡◌, ◌⊎◌, ℕ, ◌+◌, List, [], length, take, drop}
use Rattle.body_print.specs.Plans.{data_plan}
use Rattle.body_print.specs.Prints.{HasPrint}
use Rattle.call_types.specs.declared.names.Span.{Span}
use Rattle.call_types.specs.declared.reply.Reply.{Reply}
use Rattle.call_types.specs.declared.reply.Reply.TheVariants.{Found}
use Rattle.call_types.specs.declared.version.Version.{Version}
use Rattle.call_types.specs.declared.version.What.{What}
use Rattle.call_types.specs.declared.version.What.TheVariants.{Marker, Object}
use Rattle.desk_base.specs.declared.call.Call.{Call}
use Rattle.desk_base.specs.declared.call.Call.TheVariants.{Get}
use Rattle.drive_base.specs.declared.plan.SetPlan.{SetPlan}
use Rattle.receipts.specs.Clashes.{ClashIn}
use Rattle.receipts.specs.Events.{Log}

-- the length of a version's body, 0 for a marker
abbrev pub body_length : What → ℕ
body_length Marker = 0
body_length (Object data_id print size md5 parts upload kind) = size

-- the whole body of a version
abbrev pub whole_of : Version → Span
whole_of v = record { at = 0; length = body_length v.what }

-- bytes are the first ones of the span of every body with the print, or there is a clash
abbrev pub AreOfSpan : SetPlan → List ℕ → Span → List ℕ → Log → Type 0
AreOfSpan set print span bytes log = (body : List ℕ) → HasPrint (data_plan set print).drives (data_plan set print).parity body print
    → (bytes ≡ take (length bytes) (drop span.at (take (span.at + span.length) body))) ⊎ ClashIn set body print log

-- bytes are of the span of a version's body; a marker has none
abbrev pub AreOfVersion : SetPlan → What → Span → List ℕ → Log → Type 0
AreOfVersion set Marker span bytes log = ⊥
AreOfVersion set (Object data_id print size md5 parts upload kind) span bytes log = AreOfSpan set print span bytes log

-- the bytes that are told behind the head of a reply: those of the version's span for a call that gives its body, and none else
abbrev pub GivesFound : SetPlan → Call → Version → Span → List ℕ → Log → Type 0
GivesFound set (Get at pick ask matches) version span bytes log = AreOfVersion set version.what span bytes log
GivesFound set other version span bytes log = bytes ≡ []

abbrev pub GivesBytes : SetPlan → Call → Reply → List ℕ → Log → Type 0
GivesBytes set call (Found version span id) bytes log = GivesFound set call version span bytes log
GivesBytes set call other bytes log = bytes ≡ []
