-- From what a file is to what a data drive gave.
use Rattle.std.proofs.Common.{◌≡◌, ℕ, ◌+◌, ◌∙◌, ◌++◌, length, ap, subst, arith}
use Rattle.std.specs.Prelude.{Bool, Result, Ok, Err}
use Rattle.std.proofs.lemmas.List.{length-append}
use Rattle.sha2.proofs.Facts256.{length-sha256}
use Rattle.sha2.specs.Sha256.{sha256}
use Rattle.call_types.specs.declared.why.Why.{Why}
use Rattle.call_types.specs.declared.why.Why.TheVariants.{Good}
use Rattle.drive_base.specs.Files.{Files}
use Rattle.drive_base.specs.declared.plan.SetPlan.{SetPlan}
use Rattle.file_access.specs.declared.fault.FetchFault.{FetchFault}
use Rattle.file_access.specs.declared.fault.FetchFault.TheVariants.{Because}
use Rattle.register_file.specs.declared.record.Adds.{Adds}
use Rattle.register_core.specs.Manifests.{ManifestLetter, ReadsManifest}
use Rattle.manifest_file.specs.Spelling.{file_of, manifest_kind, spelling}
use Rattle.manifest_file.specs.declared.manifest.Manifest.{Manifest as ManifestRecord}

-- the length of a manifest's file
pub length-file_of : (m : ManifestRecord) → length (file_of m) ≡ length (spelling m) + 36
length-file_of m =
    length-append manifest_kind (spelling m ++ sha256 (manifest_kind ++ spelling m))
    ∙ omega (arith, length-append (spelling m) (sha256 (manifest_kind ++ spelling m)), length-sha256 (manifest_kind ++ spelling m))

-- a drive whose manifest verifies has a good letter
pub letter_ok : {T : Type 0} (set : SetPlan) (adds : Adds) (out : Type 0) (result : Result T FetchFault) (value : T) (tells : Bool) (files : Files)
    (old new : ℕ) → result ≡ Ok value → ReadsManifest set adds out result tells files old new → ManifestLetter set adds Good out tells files old new
letter_ok {T} set adds out result value tells files old new is reads =
    subst (λ (r : Result T FetchFault). ReadsManifest set adds out r tells files old new) is reads

-- any other drive has its cause
pub letter_err : {T : Type 0} (set : SetPlan) (adds : Adds) (out : Type 0) (result : Result T FetchFault) (fault : FetchFault) (why : Why) (tells : Bool)
    (files : Files) (old new : ℕ) → result ≡ Err fault → fault ≡ Because why → ReadsManifest set adds out result tells files old new
    → ManifestLetter set adds why out tells files old new
letter_err {T} set adds out result fault why tells files old new is because reads =
    subst (λ (r : Result T FetchFault). ReadsManifest set adds out r tells files old new) (is ∙ ap (λ (f : FetchFault). Err f) because) reads
