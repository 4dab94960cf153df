use Rattle.std.proofs.Common.{◌+◌, sym, ap, ◌∙◌, arith}
use Rattle.version_list.proofs.SizeLemmas.{object_size, version_bytes-size}
use Rattle.version_list.proofs.sizes.version_size.Goals as goal

pub returns-in-Marker-clause-value : goal.returns-in-Marker-clause-value
returns-in-Marker-clause-value c = sym (version_bytes-size c.args.version.now c.requires.what ∙ ap (λ w. 25 + object_size w) c.in-Marker.is)

pub returns-in-Object-clause-value : goal.returns-in-Object-clause-value
returns-in-Object-clause-value c =
    let size = version_bytes-size c.args.version.now c.requires.what ∙ ap (λ w. 25 + object_size w) c.in-Object.is in
    rw c.as_slice.ensures (omega (arith, size))
