use Rattle.std.proofs.Common.{◌++◌, sym, ap, ◌∙◌}
use Rattle.s3_reply.proofs.Chains.{after}
use Rattle.s3_reply.specs.Documents.{listed_name, object_content, object_facts}
use Rattle.s3_reply.specs.Escaping.{escaped}
use Rattle.s3_reply.specs.Xml.{leaf, printed, joined}
use Rattle.s3_reply.proofs.RowLemmas.{object_joined}
use Rattle.s3_reply.proofs.keys.push_object.Goals as goal

pub returns : goal.returns
unfolding object_content leaf
returns c =
    after c.args.out.now.items c.push_bytes.new.out.items c.push_bytes-3.new.out.items _ _ c.in_ok-push_bytes.ensures (after c.push_bytes.new.out.items c.push_listed.new.out.items c.push_bytes-3.new.out.items _ _ c.in_ok-push_listed.ensures (after c.push_listed.new.out.items c.push_bytes-2.new.out.items c.push_bytes-3.new.out.items _ _ c.in_ok-push_bytes-2.ensures (after c.push_bytes-2.new.out.items c.push_facts.new.out.items c.push_bytes-3.new.out.items _ _ c.in_ok-push_facts.ensures c.in_ok-push_bytes-3.ensures)))
    ∙ ap (λ t. c.args.out.now.items ++ t) (sym (object_joined (escaped (listed_name c.args.encoded c.args.key.now)) (printed (joined (object_facts c.args.modified c.args.length c.args.etag)))))
