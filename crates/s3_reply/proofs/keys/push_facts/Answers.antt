use Rattle.std.proofs.Common.{◌++◌, sym, ap, ◌∙◌}
use Rattle.s3_reply.proofs.Chains.{after}
use Rattle.s3_reply.proofs.RowLemmas.{facts_text}
use Rattle.s3_reply.proofs.keys.push_facts.Goals as goal

pub returns : goal.returns
returns c =
    after c.args.out.now.items c.push_bytes.new.out.items c.push_bytes-6.new.out.items _ _ c.in_ok-push_bytes.ensures (after c.push_bytes.new.out.items c.push_bytes-2.new.out.items c.push_bytes-6.new.out.items _ _ (rw c.timestamp.ensures.text at c.in_ok-push_bytes-2.ensures) (after c.push_bytes-2.new.out.items c.push_bytes-3.new.out.items c.push_bytes-6.new.out.items _ _ c.in_ok-push_bytes-3.ensures (after c.push_bytes-3.new.out.items c.push_bytes-4.new.out.items c.push_bytes-6.new.out.items _ _ (rw c.tag_digits.ensures.text at c.in_ok-push_bytes-4.ensures) (after c.push_bytes-4.new.out.items c.push_parts.new.out.items c.push_bytes-6.new.out.items _ _ c.in_ok-push_parts.ensures (after c.push_parts.new.out.items c.push_bytes-5.new.out.items c.push_bytes-6.new.out.items _ _ c.in_ok-push_bytes-5.ensures (after c.push_bytes-5.new.out.items c.push_digits.new.out.items c.push_bytes-6.new.out.items _ _ c.in_ok-push_digits.ensures c.in_ok-push_bytes-6.ensures))))))
    ∙ ap (λ t. c.args.out.now.items ++ t) (sym (facts_text c.args.modified c.args.length c.args.etag (rw c.timestamp.ensures.text at c.timestamp.ensures.plain) (rw c.tag_digits.ensures.text at c.tag_digits.ensures.plain)))
