use Rattle.std.proofs.Common.{◌∙◌, ◌<◌, List, Some, ap, sym, subst}
use Rattle.std.proofs.lemmas.Str.{IsUtf8-had}
use Rattle.call_types.specs.declared.feed.Cut.TheVariants.{NoMemory}
use Rattle.call_types.specs.declared.reply.Reply.TheVariants.{Refused}
use Rattle.drive_base.specs.View.{views}
use Rattle.op_steps.specs.Store.{slot_seen}
use Rattle.op_steps.specs.Words.{TurnsSo}
use Rattle.object_ops.specs.Put.{left_at}
use Rattle.object_ops.specs.PutStands.{PutStands, PutStandsAt, ask_of}
use Rattle.receipts.specs.Registers.{key_slot}
use Rattle.object_ops.specs.PutOutcome.{Ends}
use Rattle.object_ops.specs.Clearing.{AreDue, files_of}
use Rattle.object_ops.specs.PutTarget.{key_of}
use Rattle.object_ops.specs.declared.data_files.Removal.{Removal}
use Rattle.object_ops.specs.declared.put_state.PutState.TheVariants.{Telling, Told}
use Rattle.object_ops.proofs.PutAnswers.{drop_says, end_commits, end_gives_up, end_lacks, finishing, lawful_end, named_end, no_part_end, short_end}
use Rattle.object_ops.proofs.PutLefts.{all_read, committed_left, over_left, staging_over}
use Rattle.object_ops.proofs.PutOpLemmas.{lefts_on, no_stub}
use Rattle.object_ops.proofs.PutSound.{commit_sound}
use Rattle.object_ops.proofs.put_op.PutOp.end.Goals as goal

pub end_of-requires : goal.end_of-requires
end_of-requires g c = finishing c.args.self.now.state c.in-Staging.work c.requires.state (sym c.moved_out.ensures.out ∙ c.in-Staging.is)

pub commit-turn-requires-clause-named : goal.commit-turn-requires-clause-named
commit-turn-requires-clause-named g c =
    let out = c.moved_out.new.self in
    named_end out.target c.in-Staging.work c.id.result c.in-Commits.deed
    (subst (Ends out.target c.in-Staging.work.mode c.id.result c.in-Staging.work.stage) c.in-Commits.is c.end_of.ensures)
    (IsUtf8-had (key_of out.target).bucket out.bucket_text) (IsUtf8-had (key_of out.target).key out.key_text)

pub commit-turn-requires-clause-no_part : goal.commit-turn-requires-clause-no_part
commit-turn-requires-clause-no_part g c =
    let out = c.moved_out.new.self in
    no_part_end out.target c.in-Staging.work c.id.result c.in-Commits.deed
    (subst (Ends out.target c.in-Staging.work.mode c.id.result c.in-Staging.work.stage) c.in-Commits.is c.end_of.ensures)

pub commit-turn-requires-clause-lawful : goal.commit-turn-requires-clause-lawful
commit-turn-requires-clause-lawful g c =
    let out = c.moved_out.new.self in
    lawful_end out.target c.in-Staging.work c.id.result c.in-Commits.deed
    (subst (Ends out.target c.in-Staging.work.mode c.id.result c.in-Staging.work.stage) c.in-Commits.is c.end_of.ensures) out.kind_short

pub commit-turn-requires-clause-short : goal.commit-turn-requires-clause-short
commit-turn-requires-clause-short g c =
    let out = c.moved_out.new.self in
    short_end out.target c.in-Staging.work c.id.result c.in-Commits.deed
    (subst (Ends out.target c.in-Staging.work.mode c.id.result c.in-Staging.work.stage) c.in-Commits.is c.end_of.ensures) out.register_short

pub returns-in-Commits-clause-turns : goal.returns-in-Commits-clause-turns
returns-in-Commits-clause-turns g c =
    let op = c.args.self.now in
    let out = c.moved_out.new.self in
    let work = c.in-Staging.work in
    let is = sym c.moved_out.ensures.out ∙ c.in-Staging.is in
    let turn = c.commit-turn in
    let commit = c.commit-turn.ensures in
    rw c.go_to.ensures (end_commits op out c.begin.new.self work is (finishing op.state work c.requires.state is)
    (c.begin.ensures.queue ∙ ap (λ k. k.queue.items) c.moved_out.ensures.clearing) c.moved_out.ensures.same c.moved_out.ensures.read g.D.Drive c.id.result
    c.in-Commits.deed turn.result.answer turn.result.stub c.put_committed.result (slot_seen g.A.Audit.entries g.A.Audit.count c.args.slot.now)
    (slot_seen g.A.Audit.entries g.A.Audit.count turn.new.self) c.args.disks.now turn.new.disks c.id.ensures c.requires.slot_set c.requires.next
    (subst (Ends out.target work.mode c.id.result work.stage) c.in-Commits.is c.end_of.ensures)
    (record {
      turns = commit.turns;
      says = commit.says;
      holds = commit.holds;
      checks = commit.checks;
      leaves = commit.leaves;
      read = commit.disks_read;
      cause = commit.cause;
    })
    c.put_committed.ensures)

pub returns-in-Commits-clause-left : goal.returns-in-Commits-clause-left
returns-in-Commits-clause-left g c =
    let op = c.args.self.now in
    let out = c.moved_out.new.self in
    let same = c.begin.ensures.queue ∙ ap (λ k. k.queue.items) c.moved_out.ensures.clearing in
    rw c.go_to.ensures (subst (λ n. n < left_at op.set op.long op.read op.clearing op.state)
    (sym (lefts_on op out c.begin.new.self c.put_committed.result c.moved_out.ensures.same c.moved_out.ensures.read))
    (staging_over op.set op.long op.read op.clearing c.begin.new.self op.state c.put_committed.result c.in-Staging.work
    (sym c.moved_out.ensures.out ∙ c.in-Staging.is)
    (over_left op.set op.long op.read op.clearing c.begin.new.self c.put_committed.result c.begin.ensures.takes same
    (committed_left op.set op.long op.read c.begin.new.self c.commit-turn.result.answer c.put_committed.result c.put_committed.ensures))))

pub returns-in-GivesUp-clause-turns : goal.returns-in-GivesUp-clause-turns
returns-in-GivesUp-clause-turns g c =
    let op = c.args.self.now in
    let out = c.moved_out.new.self in
    let work = c.in-Staging.work in
    let is = sym c.moved_out.ensures.out ∙ c.in-Staging.is in
    let may = finishing op.state work c.requires.state is in
    let drop = c.drop_put.ensures in
    let was = slot_seen g.A.Audit.entries g.A.Audit.count c.args.slot.now in
    let after = slot_seen g.A.Audit.entries g.A.Audit.count c.drop_put.new.self in
    let none = no_stub was.numbers c.drop_put.result.answer c.drop_put.result.stub drop.done drop.turns.stub_is in
    let D = g.D.Drive in
    rw c.go_to-in-GivesUp.ensures (subst (λ s. TurnsSo D (PutStands op) (PutStandsAt (ask_of out) out.read c.begin.new.self (Telling (Refused c.in-GivesUp.why))) s was after
    (views D c.args.disks.now) (views D c.args.disks.now)) (sym none)
    (end_gives_up op out c.begin.new.self work is may (c.begin.ensures.queue ∙ ap (λ k. k.queue.items) c.moved_out.ensures.clearing) c.moved_out.ensures.same c.moved_out.ensures.read D c.id.result c.in-GivesUp.why c.drop_put.result.answer was after (views D c.args.disks.now)
    (all_read op.long op.read op.state work is op.counted may.whole) c.requires.next
    (subst (Ends out.target work.mode c.id.result work.stage) c.in-GivesUp.is c.end_of.ensures) (drop_says D was after work.flight.id c.drop_put.result.answer c.drop_put.result.stub none (record { turns = drop.turns; holds = drop.holds; leaves = drop.leaves }))))

pub returns-in-LacksMemory-clause-turns : goal.returns-in-LacksMemory-clause-turns
returns-in-LacksMemory-clause-turns g c =
    let op = c.args.self.now in
    let out = c.moved_out.new.self in
    let work = c.in-Staging.work in
    let is = sym c.moved_out.ensures.out ∙ c.in-Staging.is in
    let may = finishing op.state work c.requires.state is in
    let drop = c.drop_put-in-LacksMemory.ensures in
    let was = slot_seen g.A.Audit.entries g.A.Audit.count c.args.slot.now in
    let after = slot_seen g.A.Audit.entries g.A.Audit.count c.drop_put-in-LacksMemory.new.self in
    let none = no_stub was.numbers c.drop_put-in-LacksMemory.result.answer c.drop_put-in-LacksMemory.result.stub drop.done drop.turns.stub_is in
    let D = g.D.Drive in
    rw c.go_to-in-LacksMemory.ensures (subst (λ s. TurnsSo D (PutStands op) (PutStandsAt (ask_of out) out.read c.begin.new.self (Told (Some NoMemory))) s was after
    (views D c.args.disks.now) (views D c.args.disks.now)) (sym none)
    (end_lacks op out c.begin.new.self work is may (c.begin.ensures.queue ∙ ap (λ k. k.queue.items) c.moved_out.ensures.clearing) c.moved_out.ensures.same c.moved_out.ensures.read D c.drop_put-in-LacksMemory.result.answer was after (views D c.args.disks.now) c.requires.next (drop_says D was after work.flight.id c.drop_put-in-LacksMemory.result.answer c.drop_put-in-LacksMemory.result.stub none (record { turns = drop.turns; holds = drop.holds; leaves = drop.leaves }))))

pub invariant_of-self-clause-counted : goal.invariant_of-self-clause-counted
invariant_of-self-clause-counted g c =
    let out = c.moved_out.new.self in
    rw c.go_to.ensures ((commit_sound out.long out.read out.set.drives c.commit-turn.result.answer c.put_committed.result c.put_committed.ensures).counted)

pub invariant_of-self-clause-reached : goal.invariant_of-self-clause-reached
invariant_of-self-clause-reached g c =
    let out = c.moved_out.new.self in
    rw c.go_to.ensures ((commit_sound out.long out.read out.set.drives c.commit-turn.result.answer c.put_committed.result c.put_committed.ensures).reached)

pub invariant_of-self-clause-over : goal.invariant_of-self-clause-over
invariant_of-self-clause-over g c =
    let out = c.moved_out.new.self in
    rw c.go_to.ensures ((commit_sound out.long out.read out.set.drives c.commit-turn.result.answer c.put_committed.result c.put_committed.ensures).over)

pub invariant_of-self-clause-due : goal.invariant_of-self-clause-due
invariant_of-self-clause-due g c =
    let out = c.moved_out.new.self in
    subst (λ (q : List Removal). AreDue out.set (key_slot (key_of out.target)) (files_of q)) (sym c.begin.ensures.queue) out.due

pub invariant_of-self-in-GivesUp-clause-due : goal.invariant_of-self-in-GivesUp-clause-due
invariant_of-self-in-GivesUp-clause-due g c =
    let out = c.moved_out.new.self in
    subst (λ (q : List Removal). AreDue out.set (key_slot (key_of out.target)) (files_of q)) (sym c.begin.ensures.queue) out.due

pub invariant_of-self-in-LacksMemory-clause-due : goal.invariant_of-self-in-LacksMemory-clause-due
invariant_of-self-in-LacksMemory-clause-due g c =
    let out = c.moved_out.new.self in
    subst (λ (q : List Removal). AreDue out.set (key_slot (key_of out.target)) (files_of q)) (sym c.begin.ensures.queue) out.due
