-- The upload that a call names.
use Rattle.std.specs.Prelude.{Option, unwrap_or}
use Rattle.std.proofs.Common.{arith}
use Rattle.stamp_id.specs.declared.stamp.Ballot.{Ballot}
use Rattle.stamp_id.specs.declared.stamp.ChangeId.{ChangeId}
use Rattle.stamp_id.specs.declared.version.VersionId.{VersionId}

-- an id that no slot ever draws: a section begins at a number of 2^62 - 16,384 at the latest, and draws three at most
abbrev pub nobody : VersionId
nobody =
    let ballot : Ballot = record { term = 1; seq = 4611686018427387903; term_fits = omega arith; seq_fits = omega arith } in
    let change : ChangeId = record { 0 = ballot } in
    record { change = change; slot = 0; slot_fits = omega arith; term_counts = omega arith; seq_counts = omega arith }

-- the upload of this id, and nobody's where a call's text was no id
abbrev pub upload_of : Option VersionId → VersionId
upload_of upload = unwrap_or upload nobody
