-- What is seen of an intake, of a teller, and of the wires between them and the outside.
use Rattle.io_base.specs.declared.sink.Sink.{Ghosts as SinkGhosts}
use Rattle.io_base.specs.declared.source.Source.{Ghosts as SourceGhosts}
use Rattle.http_wire.specs.Answers.{Wired}
use Rattle.http_wire.specs.Seen.{seen}
use Rattle.http_wire.specs.Taking.{SourceView, source_view}
use Rattle.serve_loop.specs.Deeds.{Wires, wires}
use Rattle.serve_loop.specs.Intakes.{unread_of}
use Rattle.serve_loop.specs.Sending.{sink_view}
use Rattle.serve_loop.specs.Replies.{Told}
use Rattle.serve_loop.specs.declared.intake.Intake.{Intake}
use Rattle.serve_loop.specs.declared.replies.ReplyTeller.{ReplyTeller}

-- the wire of an intake, without its source
abbrev pub wire_of : {S : Type 0} {source : SourceGhosts S} → Intake S source → Wired
wire_of intake = seen intake.wire

-- its source
abbrev pub from_of : {S : Type 0} {source : SourceGhosts S} → Intake S source → SourceView
from_of {S} {source} intake = source_view source intake.wire.source

-- its source with what waits, which was not read yet
abbrev pub unread : {S : Type 0} {source : SourceGhosts S} → Intake S source → SourceView
unread intake = unread_of (wire_of intake) (from_of intake)

-- what is seen of a teller
abbrev pub told_of : {R T : Type 0} → SinkGhosts T → ReplyTeller R T → Told
told_of sink t = record {
  reply = record { head = t.head.now; call = t.call.now; now = t.now; close = t.close; waits = t.waits };
  sink = sink_view sink t.sink.now;
  held = t.held.now.items;
}

-- the wires between two requests: what waits counts as not taken
abbrev pub open_wires : {S T : Type 0} (source : SourceGhosts S) → SinkGhosts T → Intake S source → T → Wires
open_wires source sink intake to = wires (unread intake) (sink_view sink to) (source.faults intake.wire.source) (sink.faults to)

-- the wires between a source and a sink
abbrev pub wires_of : {S T : Type 0} → SourceGhosts S → SinkGhosts T → S → T → Wires
wires_of source sink from to = wires (source_view source from) (sink_view sink to) (source.faults from) (sink.faults to)

-- the wires at an end: what waits was taken
abbrev pub shut_wires : {S T : Type 0} (source : SourceGhosts S) → SinkGhosts T → Intake S source → T → Wires
shut_wires source sink intake to = wires_of source sink intake.wire.source to
