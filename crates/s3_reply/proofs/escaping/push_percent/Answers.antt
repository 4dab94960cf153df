use Rattle.std.proofs.Common.{◌≡◌, ◌++◌, true, false, get_or, sym, ap, ◌∙◌}
use Rattle.s3_reply.specs.Escaping.{is_kept, url_byte}
use Rattle.s3_reply.proofs.EscapedLemmas.{longer, no_run, kept_byte, coded_byte}
use Rattle.s3_reply.proofs.escaping.push_percent.Goals as goal

pub returns-then-is_kept-clause-written : goal.returns-then-is_kept-clause-written
returns-then-is_kept-clause-written c =
    let same : is_kept (get_or c.args.name.now c.args.k 0) ≡ true = sym c.is_kept.ensures ∙ c.if-is_kept.true in
    longer c.args.out.now.items c.args.name.now c.args.from c.args.k (url_byte (get_or c.args.name.now c.args.k 0)) c.requires.order c.requires.within
    (kept_byte (get_or c.args.name.now c.args.k 0) same)

pub returns-clause-written : goal.returns-clause-written
returns-clause-written c =
    let coded : is_kept (get_or c.args.name.now c.args.k 0) ≡ false = sym c.is_kept.ensures ∙ c.if-is_kept.false in
    no_run c.push_percent_byte.new.out.items c.args.name.now c.args.k ∙ c.in_ok-push_percent_byte.ensures
    ∙ ap (λ t. c.extend_from_slice.new.self.items ++ t) (sym (coded_byte (get_or c.args.name.now c.args.k 0) coded))
    ∙ ap (λ t. t ++ url_byte (get_or c.args.name.now c.args.k 0)) c.in_ok-extend_from_slice.ensures.items
