use Rattle.std.proofs.Common.{◌≡◌, None, sym, ap, ◌∙◌, length, arith}
use Rattle.stamp_id.specs.VersionId.{id_bytes}
use Rattle.version_list.specs.Places.{place_from}
use Rattle.version_list.specs.Rows.{version_row}
use Rattle.version_list.proofs.PlaceLemmas.{parts_of_version, version_parts-bytes, place_next, none_there}
use Rattle.version_list.proofs.places.place_in_versions.Goals as goal

pub loop-version-preserved : goal.loop-version-preserved
loop-version-preserved c =
    let v = c.version-item.result in
    let id = id_bytes c.args.id in
    let none : place_from c.loop-version.next id (parts_of_version v) ≡ None =
    none_there c.place_in_version-place.result (place_from c.loop-version.next id (parts_of_version v)) c.place_in_version-place.ensures
    (sym c.is_some.ensures ∙ c.if-is_some.false) in
    record {
      near = omega (arith, c.loop-version.invariant.near, c.version_size-next.ensures.bound);
      found =
          place_next parts_of_version c.args.versions.now c.loop-version.version-index v c.loop-version.next c.version_size-next.result id _
          c.loop-version-test.true c.version-item.is (c.version_size-next.ensures.value ∙ ap length (sym (version_parts-bytes (version_row v)))) none
          c.loop-version.invariant.found;
    }
