use Rattle.std.proofs.Common.{◌∙◌, subst, sym}
use Rattle.bucket_ops.specs.Changes.{AfterDocument}
use Rattle.bucket_ops.proofs.FeedLemmas.{cut_any, is_whole, last_any}
use Rattle.bucket_ops.proofs.change.ChangeOpOp.feed.Goals as goal

pub returns-then-is_some-clause-feeds : goal.returns-then-is_some-clause-feeds
returns-then-is_some-clause-feeds g c next =
    let op = c.args.self.now in
    rw c.replace.ensures.after (cut_any op.set op.sets_mode op.document c.take-cut.new.self op.bucket op.now op.state _ _ next c.take-cut.result
    (sym c.is_some.ensures ∙ c.if-is_some.true) c.take-cut.ensures.takes c.take-cut.ensures.fed)

pub returns-then-is_whole-clause-feeds : goal.returns-then-is_whole-clause-feeds
returns-then-is_whole-clause-feeds g c next =
    let op = c.args.self.now in
    let new = c.take-cut.new.self in
    rw c.replace-then-is_whole.ensures.after (last_any op.set op.sets_mode op.document new op.bucket op.now op.state _ _ next c.take-cut.result c.after_document-state.result
    (sym c.is_some.ensures ∙ c.if-is_some.false) c.take-cut.ensures.takes (is_whole new.taken _ (sym c.is_whole.ensures ∙ c.if-is_whole.true))
    (subst (λ bytes. AfterDocument op.bucket bytes c.after_document-state.result) c.as_slice.ensures c.after_document-state.ensures))
