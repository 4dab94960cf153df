use Rattle.std.proofs.Common.{Some, sym, ◌∙◌}
use Rattle.stamp_id.specs.VersionId.{id_bytes}
use Rattle.version_list.proofs.PlaceLemmas.{place_in_first, place_in_second, answer_named}
use Rattle.version_list.proofs.places.place_of_id.Goals as goal

pub returns-in-Some-clause-value : goal.returns-in-Some-clause-value
returns-in-Some-clause-value c =
    let found = rw c.as_slice-versions.ensures at c.place_in_versions.ensures in
    sym (place_in_first (id_bytes c.args.id) c.args.state.now c.in-Some.place c.requires (sym found ∙ c.in-Some.is))

pub returns-in-Some-clause-named : goal.returns-in-Some-clause-named
returns-in-Some-clause-named c =
    let found = rw c.as_slice-versions.ensures at c.place_in_versions.ensures in
    answer_named c.args.id c.args.state.now (Some c.in-Some.place) c.requires
    (sym (place_in_first (id_bytes c.args.id) c.args.state.now c.in-Some.place c.requires (sym found ∙ c.in-Some.is)))

pub returns-in_err-place-in-None-clause-value : goal.returns-in_err-place-in-None-clause-value
returns-in_err-place-in-None-clause-value c =
    let none = rw c.as_slice-versions.ensures at c.place_in_versions.ensures in
    let size = rw c.as_slice-versions.ensures at c.versions_size.ensures.value in
    let found = rw c.as_slice.ensures at c.place_in_uploads.ensures in
    c.from_residual.ensures ∙ sym c.in_err-place-in-None.was ∙ found
    ∙ sym (place_in_second (id_bytes c.args.id) c.args.state.now c.versions_size.result c.requires (sym none ∙ c.in-None.is) size)

pub returns-in_err-place-in-None-clause-named : goal.returns-in_err-place-in-None-clause-named
returns-in_err-place-in-None-clause-named c =
    let none = rw c.as_slice-versions.ensures at c.place_in_versions.ensures in
    let size = rw c.as_slice-versions.ensures at c.versions_size.ensures.value in
    let found = rw c.as_slice.ensures at c.place_in_uploads.ensures in
    answer_named c.args.id c.args.state.now c.from_residual.result c.requires
    (c.from_residual.ensures ∙ sym c.in_err-place-in-None.was ∙ found
    ∙ sym (place_in_second (id_bytes c.args.id) c.args.state.now c.versions_size.result c.requires (sym none ∙ c.in-None.is) size))

pub returns-in_ok-place-in-None-clause-value : goal.returns-in_ok-place-in-None-clause-value
returns-in_ok-place-in-None-clause-value c =
    let none = rw c.as_slice-versions.ensures at c.place_in_versions.ensures in
    let size = rw c.as_slice-versions.ensures at c.versions_size.ensures.value in
    let found = rw c.as_slice.ensures at c.place_in_uploads.ensures in
    sym c.in_ok-place-in-None.was ∙ found
    ∙ sym (place_in_second (id_bytes c.args.id) c.args.state.now c.versions_size.result c.requires (sym none ∙ c.in-None.is) size)

pub returns-in_ok-place-in-None-clause-named : goal.returns-in_ok-place-in-None-clause-named
returns-in_ok-place-in-None-clause-named c =
    let none = rw c.as_slice-versions.ensures at c.place_in_versions.ensures in
    let size = rw c.as_slice-versions.ensures at c.versions_size.ensures.value in
    let found = rw c.as_slice.ensures at c.place_in_uploads.ensures in
    answer_named c.args.id c.args.state.now (Some c.in_ok-place-in-None.place) c.requires
    (sym c.in_ok-place-in-None.was ∙ found
    ∙ sym (place_in_second (id_bytes c.args.id) c.args.state.now c.versions_size.result c.requires (sym none ∙ c.in-None.is) size))
