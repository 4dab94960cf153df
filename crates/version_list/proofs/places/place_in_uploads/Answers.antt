use Rattle.std.proofs.Common.{sym, ap, ◌∙◌, length, arith}
use Rattle.stamp_id.specs.VersionId.{id_bytes}
use Rattle.version_list.specs.Rows.{upload_row}
use Rattle.version_list.proofs.PlaceLemmas.{parts_of_upload, upload_parts-bytes, upload_at, upload_past, place_next, place_here}
use Rattle.version_list.proofs.places.place_in_uploads.Goals as goal

pub returns-then-eq : goal.returns-then-eq
returns-then-eq c =
    let u = c.upload-item.result in
    let next = c.loop-upload.next in
    sym (place_here parts_of_upload c.args.uploads.now c.loop-upload.upload-index u next next (id_bytes c.args.id) _ c.loop-upload-test.true
    c.upload-item.is (upload_at u c.args.id next (sym c.eq.ensures ∙ c.if-eq.true)) c.loop-upload.invariant.found)

pub loop-upload-preserved : goal.loop-upload-preserved
loop-upload-preserved c =
    let u = c.upload-item.result in
    let next = c.loop-upload.next in
    record {
      near = omega (arith, c.loop-upload.invariant.near, c.upload_size-next.ensures.bound);
      found =
          place_next parts_of_upload c.args.uploads.now c.loop-upload.upload-index u next c.upload_size-next.result (id_bytes c.args.id) _
          c.loop-upload-test.true c.upload-item.is (c.upload_size-next.ensures.value ∙ ap length (sym (upload_parts-bytes (upload_row u))))
          (upload_past u c.args.id next (sym c.eq.ensures ∙ c.if-eq.false)) c.loop-upload.invariant.found;
    }
