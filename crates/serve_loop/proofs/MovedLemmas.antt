-- Moves of the wires, put together.
use Rattle.std.proofs.Common.{◌≤◌, ℕ, List, [], ◌++◌, ap, ◌∙◌, arith, append_assoc}
use Rattle.std.specs.Io.KnownBytes.{prepend_known, append_known}
use Rattle.http_wire.specs.Taking.{SourceView, Taken}
use Rattle.http_wire.proofs.SourceLemmas.{taken_none}
use Rattle.serve_loop.specs.Deeds.{CountsStay, Moved, Wires, wires}
use Rattle.serve_loop.specs.Sending.{Sent, SinkView}
use Rattle.serve_loop.specs.Session.{CountsSo}
use Rattle.serve_loop.specs.declared.ends.ConnectionEnd.{ConnectionEnd}
use Rattle.serve_loop.specs.declared.ends.ConnectionEnd.TheVariants.{Over, Closed, InputCut, ReadFault, WriteFault, ReplyCut, NoMemory}
use Rattle.serve_loop.proofs.IntakeLemmas.{prepend_both}
use Rattle.serve_loop.proofs.SentLemmas.{append_both, sent_none, since_both}

-- bytes that were taken of the source, and others that were sent to the sink
pub moved_of : (taken given : List ℕ) (source after : SourceView) (sink sink_after : SinkView) (reads reads_after writes writes_after : ℕ)
    → Taken taken source after → Sent given sink sink_after → reads ≤ reads_after → writes ≤ writes_after
    → Moved taken given (wires source sink reads writes) (wires after sink_after reads_after writes_after)
moved_of taken given source after sink sink_after reads reads_after writes writes_after took gave read wrote =
    record { took = took.left; takes = took.takes; gave = gave.given; gives = gave.gives; reads = read; writes = wrote }

-- nothing moved
pub moved_none : (source : SourceView) (sink : SinkView) (reads writes : ℕ) → Moved [] [] (wires source sink reads writes) (wires source sink reads writes)
moved_none source sink reads writes =
    moved_of [] [] source source sink sink reads reads writes writes (taken_none source) (sent_none sink) (omega arith) (omega arith)

-- one move behind another
pub moved_later : (taken more given others : List ℕ) (a b c : Wires) → Moved taken given a b → Moved more others b c → Moved (taken ++ more) (given ++ others) a c
moved_later taken more given others a b c first second = record {
  took = first.took ∙ ap (prepend_known taken) second.took ∙ prepend_both taken more c.left;
  takes = second.takes ∙ ap (λ l. l ++ more) first.takes ∙ append_assoc _ taken more;
  gave = second.gave ∙ ap (λ g. append_known g others) first.gave ∙ append_both a.given given others;
  gives = since_both given others a.gives b.gives c.gives first.gives second.gives;
  reads = omega (arith, first.reads, second.reads);
  writes = omega (arith, first.writes, second.writes);
}

-- counts that stay, and then do what an end says
pub counts_later : (end : ConnectionEnd) (a b c : Wires) → CountsStay a b → CountsSo end b c → CountsSo end a c
counts_later Over a b c stay so = (so.0 ∙ stay.0, so.1 ∙ stay.1)
counts_later Closed a b c stay so = (so.0 ∙ stay.0, so.1 ∙ stay.1)
counts_later InputCut a b c stay so = (so.0 ∙ stay.0, so.1 ∙ stay.1)
counts_later ReadFault a b c stay so = so ∙ stay.1
counts_later WriteFault a b c stay so = so ∙ stay.0
counts_later (ReplyCut whys) a b c stay so = (so.0 ∙ stay.0, so.1 ∙ stay.1)
counts_later NoMemory a b c stay so = (so.0 ∙ stay.0, so.1 ∙ stay.1)

-- they are the same whatever waits of the source
pub counts_alike : (end : ConnectionEnd) (before : Wires) (source other : SourceView) (sink : SinkView) (reads writes : ℕ)
    → CountsSo end before (wires source sink reads writes) → CountsSo end before (wires other sink reads writes)
counts_alike Over before source other sink reads writes so = so
counts_alike Closed before source other sink reads writes so = so
counts_alike InputCut before source other sink reads writes so = so
counts_alike ReadFault before source other sink reads writes so = so
counts_alike WriteFault before source other sink reads writes so = so
counts_alike (ReplyCut whys) before source other sink reads writes so = so
counts_alike NoMemory before source other sink reads writes so = so
