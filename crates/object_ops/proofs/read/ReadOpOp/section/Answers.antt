use Rattle.std.proofs.Common.{◌∙◌, ap, subst, sym}
use Rattle.std.proofs.lemmas.Str.{IsUtf8-had}
use Rattle.drive_base.specs.View.{views}
use Rattle.slot_core.specs.Stubs.{StubOfNone, completed_by}
use Rattle.slot_core.specs.Views.{lanes_of, numbers_of}
use Rattle.op_steps.specs.Store.{slot_seen}
use Rattle.object_ops.specs.Read.{needs_pin}
use Rattle.object_ops.proofs.ReadLeft.{at_begin, at_end, at_look, begins_left, has_pin, looks_left}
use Rattle.object_ops.proofs.ReadLemmas.{begin_so, end_so, look_so}
use Rattle.object_ops.proofs.ReadingStart.{due_by}
use Rattle.object_ops.proofs.read.ReadOpOp.section.Goals as goal

-- the look
pub returns-in-Looking-clause-left : goal.returns-in-Looking-clause-left
returns-in-Looking-clause-left g c = looks_left c.args.self.now.state c.look_at_bucket-look.result.looked c.looked_state.result c.args.self.now.reading c.in-Looking.is
    c.looked_state.ensures

pub returns-in-Looking-clause-turns : goal.returns-in-Looking-clause-turns
returns-in-Looking-clause-turns g c =
    let op = c.args.self.now in
    let D = g.D.Drive in
    look_so op.set op.at op.pick op.kind op.matches op.now D (slot_seen g.A.Audit.entries g.A.Audit.count c.args.slot.now)
    (slot_seen g.A.Audit.entries g.A.Audit.count c.look_at_bucket-look.new.slot) c.as_str.result.now op.pin op.reading op.state c.looked_state.result
    c.look_at_bucket-look.result (views D c.args.disks.now) (views D c.look_at_bucket-look.new.disks) c.in-Looking.is
    (at_look op.at op.state _ c.in-Looking.is c.requires.next) (c.as_str.ensures.value ∙ op.named) c.look_at_bucket-look.ensures.looks c.looked_state.ensures

pub look_at_bucket-look-requires-clause-named : goal.look_at_bucket-look-requires-clause-named
look_at_bucket-look-requires-clause-named g c = (c.args.self.now.at.bucket, c.as_str.ensures.value ∙ c.args.self.now.named)

-- the begin of the read
pub returns-in-Beginning-clause-left : goal.returns-in-Beginning-clause-left
returns-in-Beginning-clause-left g c =
    let op = c.args.self.now in
    rw (c.go_to.ensures, c.put_in.ensures) (begins_left op.set op.kind op.matches op.state op.reading c.in-Beginning.mode c.started_of.result c.begun_of-begun.result
    c.in-Beginning.is c.begun_of-begun.ensures.begins)

pub returns-in-Beginning-clause-turns : goal.returns-in-Beginning-clause-turns
returns-in-Beginning-clause-turns g c =
    let op = c.args.self.now in
    let D = g.D.Drive in
    let mode = c.in-Beginning.mode in
    let read = c.begin_read-turn.ensures in
    let turn = c.begin_read-turn.result in
    rw (c.go_to.ensures, c.put_in.ensures) (begin_so op.set op.at op.pick op.kind op.matches op.now D (slot_seen g.A.Audit.entries g.A.Audit.count c.args.slot.now)
    (slot_seen g.A.Audit.entries g.A.Audit.count c.begin_read-turn.new.self) mode op.pin op.reading op.state c.begun_of-begun.result
    turn.answer c.started_of.result turn.stub c.args.disks.now c.begin_read-turn.new.disks c.in-Beginning.is
    (at_begin op.at op.state mode _ c.in-Beginning.is c.requires.next)
    (record {
      turns = read.turns;
      says = read.says;
      holds = read.holds;
      cause = read.cause;
      leaves = read.leaves;
      read = read.disks_read;
    })
    read.says
    (due_by D (numbers_of c.args.slot.now) (numbers_of c.begin_read-turn.new.self) op.at mode op.pick turn.answer (completed_by turn.stub)
    (lanes_of c.args.slot.now) (lanes_of c.begin_read-turn.new.self) c.args.disks.now c.begin_read-turn.new.disks read.cause)
    c.started_of.ensures c.begun_of-begun.ensures.begins)

pub begin_read-turn-requires-clause-bucket : goal.begin_read-turn-requires-clause-bucket
begin_read-turn-requires-clause-bucket g c = IsUtf8-had c.args.self.now.at.bucket c.args.self.now.bucket_text

pub begin_read-turn-requires-clause-key : goal.begin_read-turn-requires-clause-key
begin_read-turn-requires-clause-key g c = IsUtf8-had c.args.self.now.at.key c.args.self.now.key_text

-- the end of the read, which has its pin
pub returns-in-None-clause-numbers : goal.returns-in-None-clause-numbers
returns-in-None-clause-numbers g c =
    let op = c.args.self.now in
    absurd (has_pin op.state op.pin op.held (ap needs_pin c.in-Ending.is) (sym c.pin_out.ensures ∙ c.in-None.is))

pub returns-in-None-clause-turns : goal.returns-in-None-clause-turns
returns-in-None-clause-turns g c =
    let op = c.args.self.now in
    absurd (has_pin op.state op.pin op.held (ap needs_pin c.in-Ending.is) (sym c.pin_out.ensures ∙ c.in-None.is))

pub returns-in-Some-clause-turns : goal.returns-in-Some-clause-turns
returns-in-Some-clause-turns g c =
    let op = c.args.self.now in
    let D = g.D.Drive in
    let ended = c.end_read.ensures in
    let turn = c.end_read.result in
    let none = subst (λ a. StubOfNone (numbers_of c.args.slot.now) a turn.stub) ended.done ended.turns.stub_is in
    end_so op.set op.at op.pick op.kind op.matches op.now D (slot_seen g.A.Audit.entries g.A.Audit.count c.args.slot.now)
    (slot_seen g.A.Audit.entries g.A.Audit.count c.end_read.new.self) c.in-Ending.cut c.in-Some.pin op.pin op.pin op.reading op.state turn.answer turn.stub
    (views D c.args.disks.now) c.in-Ending.is (sym c.pin_out.ensures ∙ c.in-Some.is) (at_end op.at op.state c.in-Ending.cut _ c.in-Ending.is c.requires.next) none
    (record { turns = ended.turns; holds = ended.holds; leaves = ended.leaves })
