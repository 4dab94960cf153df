use Rattle.std.proofs.Common.{◌++◌, sym, ap, ◌∙◌}
use Rattle.s3_reply.proofs.Chains.{after, chain4, space_text}
use Rattle.s3_reply.specs.Documents.{root_open}
use Rattle.s3_reply.proofs.documents.push_root.Goals as goal

pub returns : goal.returns
unfolding root_open
returns c =
    let space = c.in_ok-push_bytes-3.ensures ∙ ap (λ t. c.push_bytes-2.new.out.items ++ t) (sym space_text) in
    let tag = chain4 c.push_declaration.new.out.items c.push_bytes.new.out.items c.push_bytes-2.new.out.items c.push_bytes-3.new.out.items c.push_bytes-4.new.out.items _ _ _ _ c.in_ok-push_bytes.ensures c.in_ok-push_bytes-2.ensures space c.in_ok-push_bytes-4.ensures in
    after c.args.out.now.items c.push_declaration.new.out.items c.push_bytes-4.new.out.items _ _ c.in_ok-push_declaration.ensures tag
