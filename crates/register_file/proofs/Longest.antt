-- A record whose file is the longest that its contents allow.
use Rattle.std.proofs.Common.{◌≡◌, ℕ, ◌+◌, ◌*◌, List, length, replicate, Some, refl, sym, ◌∙◌, arith}
use Rattle.std.proofs.Math.Nat.{min-eq_left}
use Rattle.std.proofs.lemmas.List.{length-replicate}
use Rattle.seal_file.proofs.SealedLemmas.{length-sealed}
use Rattle.stamp_id.specs.declared.stamp.Ballot.{Ballot}
use Rattle.stamp_id.specs.declared.stamp.ChangeId.{ChangeId}
use Rattle.stamp_id.specs.declared.version.VersionId.{VersionId}
use Rattle.register_file.specs.declared.record.RegFile.{RegFile}
use Rattle.register_file.specs.declared.record.Next.{Next}
use Rattle.register_file.specs.declared.record.Adds.{Adds}
use Rattle.register_file.specs.Lengths.{ContentsFit, SomeFileIsAsLong}
use Rattle.register_file.specs.Record.{IsCanonical}
use Rattle.register_file.specs.Spelling.{spelling, register_kind, file_of}
use Rattle.register_file.proofs.Sizes.{adds_size, next_size, spelling_size}

abbrev first_ballot : Ballot
first_ballot = record { term = 1; seq = 1; term_fits = omega arith; seq_fits = omega arith }

abbrev first_change : ChangeId
first_change = record { 0 = first_ballot }

abbrev first_id : VersionId
first_id = record { change = first_change; slot = 0; slot_fits = omega arith; term_counts = omega arith; seq_counts = omega arith }

abbrev adds_with : List ℕ → Adds
adds_with print = record { id = first_id; print = print }

abbrev next_with : List ℕ → List ℕ → Next
next_with content print = record { ballot = first_ballot; change = first_change; parent = first_change; adds = Some (adds_with print); content = content }

-- the record of two such contents that adds data of such a print
abbrev file_with : List ℕ → List ℕ → RegFile
file_with content print = record { base = record { ballot = first_ballot; change = first_change; content = content }; next = Some (next_with content print) }

as_long : (content print : List ℕ) → length print ≡ 32 → length (file_of (file_with content print)) ≡ 175 + 2 * length content
as_long content print sized =
    let file = file_with content print in
    omega (arith, length-sealed register_kind (spelling file), spelling_size file, next_size (next_with content print), adds_size (adds_with print) sized)

pub longest_is_reached : SomeFileIsAsLong
longest_is_reached most fits =
    let content : List ℕ = replicate most 0 in
    let print : List ℕ = replicate 32 0 in
    let size : length content ≡ most = length-replicate {A = ℕ} most 0 in
    let sized : length print ≡ 32 = length-replicate {A = ℕ} 32 0 in
    let file = file_with content print in
    let canonical : IsCanonical file = record { base = omega (arith, size, fits); next = record { parent = refl; adds = sized; content = omega (arith, size, fits) } } in
    let short : ContentsFit most file = record { base = omega (arith, size); next = omega (arith, size) } in
    let whole : length (file_of file) ≡ 175 + 2 * most = omega (arith, as_long content print sized, size) in
    (file, canonical, short, whole ∙ sym (min-eq_left (omega arith)))
