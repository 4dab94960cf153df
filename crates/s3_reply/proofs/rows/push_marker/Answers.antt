use Rattle.std.proofs.Common.{◌++◌, [], ◌∷◌, sym, ap, codes, ◌∙◌}
use Rattle.s3_reply.specs.Documents.{listed_marker, version_names}
use Rattle.s3_reply.specs.Words.{name_text}
use Rattle.s3_reply.specs.Dates.{timestamp}
use Rattle.s3_reply.specs.Xml.{leaf}
use Rattle.s3_reply.proofs.Chains.{after, joined-append, last}
use Rattle.s3_reply.proofs.rows.push_marker.Goals as goal

pub returns : goal.returns
unfolding listed_marker
returns c =
    let inner = after c.push_open.new.out.items c.push_names.new.out.items c.push_moment.new.out.items _ _ c.in_ok-push_names.ensures (last c.push_names.new.out.items c.push_moment.new.out.items _ c.in_ok-push_moment.ensures)
    ∙ ap (λ t. c.push_open.new.out.items ++ t) (sym (joined-append (version_names c.args.encoded c.args.key.now (name_text c.args.id) c.args.latest []) (leaf (codes "LastModified") (timestamp c.args.modified) ∷ []))) in
    after c.args.out.now.items c.push_open.new.out.items c.push_close.new.out.items _ _ c.in_ok-push_open.ensures (after c.push_open.new.out.items c.push_moment.new.out.items c.push_close.new.out.items _ _ inner c.in_ok-push_close.ensures)
