use Rattle.serve_loop.specs.Sending.{sink_view}
use Rattle.ostore.proofs.SurveyLemmas.{surveyed}
use Rattle.ostore.proofs.surveying.status.Goals as goal

pub returns : goal.returns
returns g c = λ left takes read_faults.
    surveyed g.D.Drive c.args.rig c.with.result c.requires.row c.index_mut.result.now c.as_mut_slice.result.now c.tell-status.new.disks c.tell-status.result
    left takes (sink_view g.K.Sink c.args.sink.now) (sink_view g.K.Sink c.tell-status.new.sink)
    read_faults (g.K.Sink.faults c.args.sink.now) (g.K.Sink.faults c.tell-status.new.sink)
    c.requires.rows c.index_mut.ensures.value c.as_mut_slice.ensures.value c.tell-status.auto.disks
    c.with.ensures.status c.with.ensures.rig c.with.ensures.opening c.with.ensures.line c.with.ensures.starved
    c.tell-status.ensures.only c.tell-status.ensures.told
