use Rattle.s3_reply.proofs.Chains.{last, rooted}
use Rattle.s3_reply.proofs.documents.push_mode.Goals as goal

pub returns : goal.returns
returns c =
    let inner = last c.push_root.new.out.items c.push_mode_status.new.out.items _ c.in_ok-push_mode_status.ensures in
    rooted c.args.out.now.items c.push_root.new.out.items c.push_mode_status.new.out.items c.push_close.new.out.items _ _ c.in_ok-push_root.ensures inner c.in_ok-push_close.ensures
