-- From what a file is to what a drive gave.
use Rattle.std.proofs.Common.{◌≡◌, ◌+◌, ◌∙◌, ◌++◌, length, arith}
use Rattle.std.proofs.lemmas.List.{length-append}
use Rattle.sha2.proofs.Facts256.{length-sha256}
use Rattle.sha2.specs.Sha256.{sha256}
use Rattle.manifest_file.specs.Spelling.{file_of, manifest_kind, spelling}
use Rattle.manifest_file.specs.declared.manifest.Manifest.{Manifest as ManifestRecord}

-- the length of a manifest's file
pub length-file_of : (m : ManifestRecord) → length (file_of m) ≡ length (spelling m) + 36
length-file_of m =
    length-append manifest_kind (spelling m ++ sha256 (manifest_kind ++ spelling m))
    ∙ omega (arith, length-append (spelling m) (sha256 (manifest_kind ++ spelling m)), length-sha256 (manifest_kind ++ spelling m))
