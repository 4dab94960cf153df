use Rattle.std.proofs.Common.{◌≡◌, ◌+◌, Some, None, sym, subst, ◌∙◌}
use Rattle.stamp_id.specs.VersionId.{id_bytes}
use Rattle.version_list.specs.Places.{object_parts, place_from}
use Rattle.version_list.specs.Rows.{object_row}
use Rattle.version_list.specs.State.{IsCanonicalWhat}
use Rattle.version_list.proofs.PlaceLemmas.{data_place, upload_place, no_place}
use Rattle.version_list.proofs.places.place_in_what.Goals as goal

pub returns-then-eq : goal.returns-then-eq
returns-then-eq c =
    let o = c.in-Object in
    subst (λ w. Some c.args.at ≡ place_from c.args.at (id_bytes c.args.id) (object_parts (object_row w))) (sym o.is)
    (sym (data_place o.data_id o.print o.length o.md5 o.parts o.upload o.kind c.args.id c.args.at (sym c.eq.ensures ∙ c.if-eq.true)))

pub returns-then-is_made_by : goal.returns-then-is_made_by
returns-then-is_made_by c =
    let o = c.in-Object in
    let sizes = subst IsCanonicalWhat o.is c.requires.canonical in
    subst (λ w. Some (c.args.at + 74) ≡ place_from c.args.at (id_bytes c.args.id) (object_parts (object_row w))) (sym o.is)
    (sym (upload_place o.data_id o.print o.length o.md5 o.parts o.upload o.kind c.args.id c.args.at sizes.print_sized sizes.md5_sized
    (sym c.eq.ensures ∙ c.if-eq.false) (sym c.is_made_by.ensures ∙ c.if-is_made_by.true)))

pub returns-else-is_made_by : goal.returns-else-is_made_by
returns-else-is_made_by c =
    let o = c.in-Object in
    let sizes = subst IsCanonicalWhat o.is c.requires.canonical in
    subst (λ w. None ≡ place_from c.args.at (id_bytes c.args.id) (object_parts (object_row w))) (sym o.is)
    (sym (no_place o.data_id o.print o.length o.md5 o.parts o.upload o.kind c.args.id c.args.at sizes.print_sized sizes.md5_sized
    (sym c.eq.ensures ∙ c.if-eq.false) (sym c.is_made_by.ensures ∙ c.if-is_made_by.false)))
