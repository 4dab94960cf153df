use Rattle.std.proofs.Common.{◌≡◌, ◌++◌, true, get_or, sym, ap, ◌∙◌}
use Rattle.s3_reply.specs.Escaping.{is_plain, escaped_byte}
use Rattle.s3_reply.proofs.EscapedLemmas.{longer, no_run, plain_byte}
use Rattle.s3_reply.proofs.escaping.push_reserved.Goals as goal

pub returns-then-is_plain-clause-written : goal.returns-then-is_plain-clause-written
returns-then-is_plain-clause-written c =
    let same : is_plain (get_or c.args.text.now c.args.k 0) ≡ true = sym c.is_plain.ensures ∙ c.if-is_plain.true in
    longer c.args.out.now.items c.args.text.now c.args.from c.args.k (escaped_byte (get_or c.args.text.now c.args.k 0)) c.requires.order c.requires.within
    (plain_byte (get_or c.args.text.now c.args.k 0) same)

pub returns-clause-written : goal.returns-clause-written
returns-clause-written c =
    no_run c.push_reference.new.out.items c.args.text.now c.args.k ∙ c.in_ok-push_reference.ensures
    ∙ ap (λ t. t ++ escaped_byte (get_or c.args.text.now c.args.k 0)) c.in_ok-extend_from_slice.ensures.items
