use Rattle.std.proofs.Common.{sym, ◌∙◌}
use Rattle.upload_book.proofs.ContentLemmas.{read_only, none_only}
use Rattle.upload_book.proofs.content.read.Goals as goal

pub returns-in-Ok-clause-only : goal.returns-in-Ok-clause-only
returns-in-Ok-clause-only c = read_only c.args.content.now c.in-Ok.field-0 (sym c.is_empty.ensures ∙ c.if-is_empty.false) c.in-Ok.ensures.only

pub returns-in-Err-At-clause-only : goal.returns-in-Err-At-clause-only
returns-in-Err-At-clause-only c =
    let answers = rw c.in-Err-At.field-0-is at c.in-Err-At.ensures in
    none_only c.args.content.now (sym c.is_empty.ensures ∙ c.if-is_empty.false) answers.only
