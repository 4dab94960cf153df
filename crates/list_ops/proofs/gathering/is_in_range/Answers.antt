use Rattle.std.proofs.Common.{◌≡◌, false, sym, subst, ◌∙◌}
use Rattle.receipts.specs.Pages.{begins_with}
use Rattle.list_ops.specs.Names.{front}
use Rattle.list_ops.proofs.FindLemmas.{begins_first, begins_neither}
use Rattle.list_ops.proofs.gathering.is_in_range.Goals as goal

pub returns-then-starts_with : goal.returns-then-starts_with
returns-then-starts_with c =
    let name = c.args.name.now in
    begins_first c.as_bytes-begin.result.now c.as_slice.result.now (front c.args.target.now.bucket) c.args.target.now.ask.prefix name
    (c.as_bytes-begin.ensures.value ∙ c.args.target.now.begins) c.as_slice.ensures (sym c.starts_with.ensures.value ∙ c.if-starts_with.true)
    c.starts_with-then-starts_with.result c.starts_with-then-starts_with.ensures.value

pub returns-else-starts_with : goal.returns-else-starts_with
returns-else-starts_with c =
    let is = c.as_bytes-begin.ensures.value ∙ c.args.target.now.begins in
    c.if-starts_with.false ∙ begins_neither (front c.args.target.now.bucket) c.args.target.now.ask.prefix c.args.name.now
    (subst (λ begin. begins_with begin c.args.name.now ≡ false) is (sym c.starts_with.ensures.value ∙ c.if-starts_with.false))
