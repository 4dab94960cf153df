use Rattle.std.proofs.Common.{◌∙◌, ◌<◌, ◌^◌, ℕ, List, length, sym, subst, arith}
use Rattle.std.proofs.lemmas.Str.{IsUtf8-had}
use Rattle.std.specs.Prelude.{IsUtf8}
use Rattle.call_types.specs.declared.names.Key.{Key}
use Rattle.slot_core.specs.Sections.{PutHolds}
use Rattle.slot_core.specs.Views.{holding_of, numbers_of}
use Rattle.op_steps.specs.Store.{slot_seen}
use Rattle.object_ops.specs.PutStands.{ask_of}
use Rattle.object_ops.specs.PutStageCalls.{BeginsTo}
use Rattle.object_ops.specs.PutTarget.{key_of}
use Rattle.object_ops.proofs.PutRefused.{begin_so}
use Rattle.object_ops.proofs.PutLefts.{begin_to_left, none_read_yet}
use Rattle.object_ops.proofs.PutSound.{begin_sound}
use Rattle.object_ops.proofs.put_op.PutOp.begin.Goals as goal

pub begin_put-answer-requires-clause-bucket : goal.begin_put-answer-requires-clause-bucket
begin_put-answer-requires-clause-bucket g c =
    subst (λ (k : Key). IsUtf8 k.bucket) (sym c.key.ensures) (IsUtf8-had (key_of c.args.self.now.target).bucket c.args.self.now.bucket_text)

pub begin_put-answer-requires-clause-key : goal.begin_put-answer-requires-clause-key
begin_put-answer-requires-clause-key g c =
    subst (λ (k : Key). IsUtf8 k.key) (sym c.key.ensures) (IsUtf8-had (key_of c.args.self.now.target).key c.args.self.now.key_text)

pub begun-state-requires-clause-short : goal.begun-state-requires-clause-short
begun-state-requires-clause-short g c =
    let op = c.args.self.now in
    subst (λ (l : List ℕ). length l < 2 ^ 16) (sym (c.as_str.ensures.value ∙ op.registered)) (omega (arith, op.register_short))

pub returns-clause-turns : goal.returns-clause-turns
returns-clause-turns g c = λ disks long.
    let op = c.args.self.now in
    let turn = c.begin_put-answer in
    let holds = subst (λ (k : Key). PutHolds (numbers_of c.args.slot.now) (numbers_of turn.new.self) k turn.result.answer (holding_of c.args.slot.now)
    (holding_of turn.new.self)) c.key.ensures turn.ensures.holds in
    rw c.go_to.ensures (begin_so (ask_of op) op.read g.D.Drive op.clearing op.state c.begun-state.result c.args.mode turn.result.answer turn.result.stub
    (slot_seen g.A.Audit.entries g.A.Audit.count c.args.slot.now) (slot_seen g.A.Audit.entries g.A.Audit.count turn.new.self) disks c.requires.state
    (none_read_yet op.long op.read op.state c.args.mode c.requires.state op.counted) c.requires.next
    (record { turns = turn.ensures.turns; spent = turn.ensures.spent.0; holds = holds; leaves = turn.ensures.leaves })
    (subst (λ r. BeginsTo op.set r op.long op.md5 c.args.mode turn.result.answer c.begun-state.result) (c.as_str.ensures.value ∙ op.registered) c.begun-state.ensures))

pub returns-clause-left : goal.returns-clause-left
returns-clause-left g c =
    let op = c.args.self.now in
    rw c.go_to.ensures (begin_to_left op.set c.as_str.result.now op.long op.read op.md5 op.clearing op.state c.begun-state.result c.args.mode c.begin_put-answer.result.answer c.requires.state
    (none_read_yet op.long op.read op.state c.args.mode c.requires.state op.counted) c.begun-state.ensures)

pub invariant_of-self-clause-counted : goal.invariant_of-self-clause-counted
invariant_of-self-clause-counted g c =
    let op = c.args.self.now in
    rw c.go_to.ensures ((begin_sound op.set c.as_str.result.now op.long op.read op.md5 c.args.mode c.begin_put-answer.result.answer c.begun-state.result
    (none_read_yet op.long op.read op.state c.args.mode c.requires.state op.counted) c.begun-state.ensures).counted)

pub invariant_of-self-clause-reached : goal.invariant_of-self-clause-reached
invariant_of-self-clause-reached g c =
    let op = c.args.self.now in
    rw c.go_to.ensures ((begin_sound op.set c.as_str.result.now op.long op.read op.md5 c.args.mode c.begin_put-answer.result.answer c.begun-state.result
    (none_read_yet op.long op.read op.state c.args.mode c.requires.state op.counted) c.begun-state.ensures).reached)

pub invariant_of-self-clause-over : goal.invariant_of-self-clause-over
invariant_of-self-clause-over g c =
    let op = c.args.self.now in
    rw c.go_to.ensures ((begin_sound op.set c.as_str.result.now op.long op.read op.md5 c.args.mode c.begin_put-answer.result.answer c.begun-state.result
    (none_read_yet op.long op.read op.state c.args.mode c.requires.state op.counted) c.begun-state.ensures).over)
