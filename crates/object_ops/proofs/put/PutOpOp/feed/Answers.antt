use Rattle.std.proofs.Common.{◌∙◌, ◌<◌, sym, subst}
use Rattle.op_steps.specs.Words.{FeedsSo}
use Rattle.object_ops.specs.Put.{left_at}
use Rattle.object_ops.specs.PutStands.{PutStands, ask_of}
use Rattle.object_ops.specs.PutTarget.{key_of}
use Rattle.object_ops.proofs.PutTargets.{call_long}
use Rattle.object_ops.proofs.PutFeeds.{feed_left, feed_so}
use Rattle.op_steps.specs.Store.{FeedSeen}
use Rattle.object_ops.proofs.PutTurns.{counted_on, feeds_on, left_now, reached_on, stands_now}
use Rattle.object_ops.proofs.put.PutOpOp.feed.Goals as goal

pub fed-state-requires-clause-counted : goal.fed-state-requires-clause-counted
fed-state-requires-clause-counted g c =
    counted_on c.args.self.now c.moved_out-state.new.self c.moved_out-state.result c.moved_out-state.ensures.out c.moved_out-state.ensures.same
    c.moved_out-state.ensures.read

pub fed-state-requires-clause-reached : goal.fed-state-requires-clause-reached
fed-state-requires-clause-reached g c =
    reached_on c.args.self.now c.moved_out-state.new.self c.moved_out-state.result c.moved_out-state.ensures.out c.moved_out-state.ensures.same
    c.moved_out-state.ensures.read

pub fed-state-requires-clause-stated : goal.fed-state-requires-clause-stated
fed-state-requires-clause-stated g c =
    let op = c.args.self.now in
    c.requires.stated ∙ (call_long op.target op.md5 op.long ∙ sym c.moved_out-state.ensures.same.long)

pub returns-clause-feeds : goal.returns-clause-feeds
returns-clause-feeds g c next =
    let op = c.args.self.now in
    let out = c.moved_out-state.new.self in
    let m = c.moved_out-state.ensures in
    let fed = c.fed-state.result in
    let F = g.F.Feed in
    let old : FeedSeen = record { view = F.seen c.args.feed.now; faults = F.faults c.args.feed.now } in
    let new : FeedSeen = record { view = F.seen c.fed-state.new.feed; faults = F.faults c.fed-state.new.feed } in
    subst (λ P. FeedsSo (PutStands op) P old new) (stands_now op out fed.read fed.state m.same m.clearing)
    (feed_so (ask_of op) op.read op.clearing op.state fed old new next op.counted c.requires.given (c.requires.stated ∙ call_long op.target op.md5 op.long) c.fed-state.ensures.given
    (feeds_on op out c.moved_out-state.result fed old new m.out m.same m.read c.fed-state.ensures.feeds))

pub returns-clause-left : goal.returns-clause-left
returns-clause-left g c next =
    let op = c.args.self.now in
    let out = c.moved_out-state.new.self in
    let m = c.moved_out-state.ensures in
    let fed = c.fed-state.result in
    let F = g.F.Feed in
    let old : FeedSeen = record { view = F.seen c.args.feed.now; faults = F.faults c.args.feed.now } in
    let new : FeedSeen = record { view = F.seen c.fed-state.new.feed; faults = F.faults c.fed-state.new.feed } in
    subst (λ n. n < left_at op.set op.long op.read op.clearing op.state) (sym (left_now op out fed.read fed.state m.same m.clearing))
    (feed_left op.set (key_of op.target) op.long op.read op.clearing op.state fed old new next
    (feeds_on op out c.moved_out-state.result fed old new m.out m.same m.read c.fed-state.ensures.feeds))
