use Rattle.std.proofs.Common.{sym, ◌∙◌}
use Rattle.bucket_book.proofs.ContentLemmas.{empty_only}
use Rattle.bucket_book.proofs.content.read.Goals as goal

pub returns-then-is_empty-clause-only : goal.returns-then-is_empty-clause-only
returns-then-is_empty-clause-only c = empty_only c.args.content.now (sym c.is_empty.ensures ∙ c.if-is_empty.true)
