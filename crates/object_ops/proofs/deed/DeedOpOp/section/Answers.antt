use Rattle.std.proofs.Common.{◌∙◌}
use Rattle.std.proofs.lemmas.Str.{IsUtf8-had}
use Rattle.drive_base.specs.View.{views}
use Rattle.op_steps.specs.Store.{slot_seen}
use Rattle.object_ops.specs.KeyDeeds.{act_of}
use Rattle.object_ops.proofs.DeedOpLemmas.{at_bucket, at_key, clear_so, commit_so, look_so, told_trash}
use Rattle.object_ops.proofs.KeyDeedLemmas.{can_commit, of_no_part}
use Rattle.object_ops.proofs.LeftLemmas.{clear_left, commit_left, look_left}
use Rattle.object_ops.proofs.deed.DeedOpOp.section.Goals as goal

-- the look
pub returns-in-Looking-clause-turns : goal.returns-in-Looking-clause-turns
returns-in-Looking-clause-turns g c =
    let op = c.args.self.now in
    look_so op.set op.at op.ask op.now g.D.Drive op.clearing op.state c.after_look.result c.as_str.result.now
    (slot_seen g.A.Audit.entries g.A.Audit.count c.args.slot.now) (slot_seen g.A.Audit.entries g.A.Audit.count c.look_at_bucket-look.new.slot)
    c.look_at_bucket-look.result (views g.D.Drive c.args.disks.now) (views g.D.Drive c.look_at_bucket-look.new.disks) c.in-Looking.is
    (c.as_str.ensures.value ∙ op.named) (at_bucket op.at op.clearing op.state _ c.in-Looking.is c.requires.next) c.look_at_bucket-look.ensures.looks
    c.after_look.ensures

pub returns-in-Looking-clause-left : goal.returns-in-Looking-clause-left
returns-in-Looking-clause-left g c =
    let op = c.args.self.now in
    look_left op.set op.at (act_of op.ask) op.clearing op.state c.after_look.result c.look_at_bucket-look.result.looked c.in-Looking.is c.after_look.ensures

pub look_at_bucket-look-requires-clause-named : goal.look_at_bucket-look-requires-clause-named
look_at_bucket-look-requires-clause-named g c = (c.args.self.now.at.bucket, c.as_str.ensures.value ∙ c.args.self.now.named)

pub after_look-requires-clause-bucket : goal.after_look-requires-clause-bucket
after_look-requires-clause-bucket g c = IsUtf8-had c.args.self.now.at.bucket c.args.self.now.bucket_text

pub after_look-requires-clause-key : goal.after_look-requires-clause-key
after_look-requires-clause-key g c = IsUtf8-had c.args.self.now.at.key c.args.self.now.key_text

-- the commit
pub returns-in-Committing-clause-turns : goal.returns-in-Committing-clause-turns
returns-in-Committing-clause-turns g c =
    let op = c.args.self.now in
    let commit = c.commit-turn.ensures in
    let fits = (can_commit c.in-Committing.deed).2 in
    commit_so op.set op.at op.ask op.now g.D.Drive op.clearing c.begin.new.self op.state c.after_commit.result c.in-Committing.deed
    (slot_seen g.A.Audit.entries g.A.Audit.count c.args.slot.now) (slot_seen g.A.Audit.entries g.A.Audit.count c.commit-turn.new.self)
    c.commit-turn.result.answer c.commit-turn.result.stub c.args.disks.now c.commit-turn.new.disks c.in-Committing.is c.begin.ensures.queue
    (at_key op.at op.clearing op.state c.in-Committing.deed _ c.in-Committing.is c.requires.next)
    (record {
      fits = fits;
      turns = commit.turns;
      says = commit.says;
      holds = commit.holds;
      checks = commit.checks;
      cause = commit.cause;
      leaves = commit.leaves fits;
      read = commit.disks_read;
    })
    c.after_commit.ensures

pub returns-in-Committing-clause-left : goal.returns-in-Committing-clause-left
returns-in-Committing-clause-left g c =
    let op = c.args.self.now in
    commit_left op.set op.clearing c.begin.new.self op.state c.after_commit.result c.in-Committing.deed c.commit-turn.result.answer c.in-Committing.is
    c.begin.ensures.takes c.begin.ensures.queue c.after_commit.ensures

pub commit-turn-requires-clause-no_part : goal.commit-turn-requires-clause-no_part
commit-turn-requires-clause-no_part g c = of_no_part c.in-Committing.deed

pub commit-turn-requires-clause-lawful : goal.commit-turn-requires-clause-lawful
commit-turn-requires-clause-lawful g c = (can_commit c.in-Committing.deed).0

pub commit-turn-requires-clause-named : goal.commit-turn-requires-clause-named
commit-turn-requires-clause-named g c = (can_commit c.in-Committing.deed).1

-- the trash
pub returns-in-Told-clause-turns : goal.returns-in-Told-clause-turns
returns-in-Told-clause-turns g c =
    let op = c.args.self.now in
    clear_so op.set op.at op.ask op.now g.D.Drive op.clearing c.take.new.self op.state c.in-Told.field-0
    (slot_seen g.A.Audit.entries g.A.Audit.count c.args.slot.now) (slot_seen g.A.Audit.entries g.A.Audit.count c.take.new.slot) (views g.D.Drive c.args.disks.now)
    c.in-Told.is (told_trash op.at op.clearing op.state c.in-Told.field-0 _ c.in-Told.is c.requires.next).1 c.take.ensures.trash

pub returns-in-Told-clause-left : goal.returns-in-Told-clause-left
returns-in-Told-clause-left g c =
    let op = c.args.self.now in
    clear_left op.set op.clearing c.take.new.self op.state c.in-Told.field-0 c.in-Told.is
    (told_trash op.at op.clearing op.state c.in-Told.field-0 _ c.in-Told.is c.requires.next).0 c.take.ensures.takes c.take.ensures.few
