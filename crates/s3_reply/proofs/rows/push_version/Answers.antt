use Rattle.std.proofs.Common.{◌++◌, [], sym, ap, ◌∙◌}
use Rattle.s3_reply.specs.Documents.{listed_version, object_facts, version_names}
use Rattle.s3_reply.specs.Words.{name_text}
use Rattle.s3_reply.proofs.Chains.{after, joined-append}
use Rattle.s3_reply.proofs.rows.push_version.Goals as goal

pub returns : goal.returns
unfolding listed_version
returns c =
    let inner = after c.push_open.new.out.items c.push_names.new.out.items c.push_facts.new.out.items _ _ c.in_ok-push_names.ensures c.in_ok-push_facts.ensures
    ∙ ap (λ t. c.push_open.new.out.items ++ t) (sym (joined-append (version_names c.args.encoded c.args.key.now (name_text c.args.id) c.args.latest []) (object_facts c.args.modified c.args.length c.args.etag))) in
    after c.args.out.now.items c.push_open.new.out.items c.push_close.new.out.items _ _ c.in_ok-push_open.ensures (after c.push_open.new.out.items c.push_facts.new.out.items c.push_close.new.out.items _ _ inner c.in_ok-push_close.ensures)
