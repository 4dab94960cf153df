use Rattle.s3_reply.proofs.Chains.{after, last, chain3}
use Rattle.s3_reply.proofs.heading.push_head.Goals as goal

pub returns : goal.returns
returns c =
    let lines = after c.push_status_line.new.out.items c.push_date.new.out.items c.push_version_id.new.out.items _ _ c.in_ok-push_date.ensures (after c.push_date.new.out.items c.push_connection.new.out.items c.push_version_id.new.out.items _ _ c.in_ok-push_connection.ensures (after c.push_connection.new.out.items c.push_content_length.new.out.items c.push_version_id.new.out.items _ _ (rw (c.is_silent.ensures, c.as_u16.ensures.value, c.reply_status-status.ensures, c.requires) at c.in_ok-push_content_length.ensures) (after c.push_content_length.new.out.items c.push_content_type.new.out.items c.push_version_id.new.out.items _ _ (rw c.requires at c.in_ok-push_content_type.ensures) (after c.push_content_type.new.out.items c.push_content_range.new.out.items c.push_version_id.new.out.items _ _ c.in_ok-push_content_range.ensures (after c.push_content_range.new.out.items c.push_allow.new.out.items c.push_version_id.new.out.items _ _ c.in_ok-push_allow.ensures (after c.push_allow.new.out.items c.push_location.new.out.items c.push_version_id.new.out.items _ _ c.in_ok-push_location.ensures (after c.push_location.new.out.items c.push_last_modified.new.out.items c.push_version_id.new.out.items _ _ c.in_ok-push_last_modified.ensures (after c.push_last_modified.new.out.items c.push_etag.new.out.items c.push_version_id.new.out.items _ _ c.in_ok-push_etag.ensures (after c.push_etag.new.out.items c.push_accept_ranges.new.out.items c.push_version_id.new.out.items _ _ c.in_ok-push_accept_ranges.ensures (after c.push_accept_ranges.new.out.items c.push_delete_marker.new.out.items c.push_version_id.new.out.items _ _ c.in_ok-push_delete_marker.ensures (last c.push_delete_marker.new.out.items c.push_version_id.new.out.items _ c.in_ok-push_version_id.ensures))))))))))) in
    chain3 c.args.out.now.items c.push_status_line.new.out.items c.push_version_id.new.out.items c.push_bytes.new.out.items _ _ _ (rw c.reply_status-status.ensures at c.in_ok-push_status_line.ensures) lines c.in_ok-push_bytes.ensures
