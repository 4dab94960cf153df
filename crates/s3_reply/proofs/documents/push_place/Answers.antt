use Rattle.s3_reply.proofs.Chains.{after, text4}
use Rattle.s3_reply.specs.Xml.{leaf}
use Rattle.s3_reply.proofs.documents.push_place.Goals as goal

pub returns : goal.returns
unfolding leaf
returns c =
    let place = text4 c.push_open.new.out.items c.push_text.new.out.items c.push_text-2.new.out.items c.push_text-3.new.out.items c.push_text-4.new.out.items _ _ _ _ c.in_ok-push_text.ensures (rw c.as_slice.ensures at c.in_ok-push_text-2.ensures) c.in_ok-push_text-3.ensures (rw c.as_slice-2.ensures at c.in_ok-push_text-4.ensures) in
    after c.args.out.now.items c.push_open.new.out.items c.push_close.new.out.items _ _ c.in_ok-push_open.ensures (after c.push_open.new.out.items c.push_text-4.new.out.items c.push_close.new.out.items _ _ place c.in_ok-push_close.ensures)
