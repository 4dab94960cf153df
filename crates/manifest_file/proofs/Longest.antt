-- A manifest whose file is the longest.
use Rattle.std.proofs.Common.{◌≡◌, ℕ, zero, suc, ◌+◌, ◌*◌, ◌^◌, ◌<◌, ◌≤◌, [], length, replicate, ap, ◌∙◌, arith}
use Rattle.std.specs.List.{AllByRecursion}
use Rattle.std.proofs.lemmas.List.{length-replicate}
use Rattle.seal_file.proofs.SealedLemmas.{length-sealed}
use Rattle.sha2.specs.Sha256.{sha256}
use Rattle.stamp_id.specs.declared.stamp.Ballot.{Ballot}
use Rattle.stamp_id.specs.declared.version.VersionId.{VersionId}
use Rattle.manifest_file.specs.declared.manifest.Manifest.{Manifest}
use Rattle.manifest_file.specs.declared.manifest.ManifestPart.{ManifestPart}
use Rattle.manifest_file.specs.Canonical.{IsRoot, IsCanonicalPart, IsCanonical}
use Rattle.manifest_file.specs.Spelling.{manifest_kind, spelling}
use Rattle.manifest_file.specs.Table.{SomeManifestIsAsLong}
use Rattle.manifest_file.proofs.RootLemmas.{sha256_is_root}
use Rattle.manifest_file.proofs.Sizes.{manifest_size}

all_same : {A : Type 0} (P : A → Type 0) (a : A) → P a → (n : ℕ) → AllByRecursion P (replicate n a)
all_same P a h zero = tt
all_same P a h (suc n) = (h, all_same P a h n)

first_ballot : Ballot
first_ballot = record { term = 1; seq = 1; term_fits = omega arith; seq_fits = omega arith }

first_id : VersionId
unfolding first_ballot
first_id = record { change = record { 0 = first_ballot }; slot = 0; slot_fits = omega arith; term_counts = omega arith; seq_counts = omega arith }

abbrev part_with : ℕ → ManifestPart
part_with drives = record { id = first_id; length = 0; roots = replicate drives (sha256 []) }

part_is_canonical : (drives : ℕ) → IsCanonicalPart drives (part_with drives)
part_is_canonical drives = record {
  size = omega arith;
  counted = length-replicate drives (sha256 []);
  roots = all_same IsRoot (sha256 []) (sha256_is_root []) drives;
}

-- the manifest of a name of so many bytes, and so many parts on so many drives
abbrev manifest_with : ℕ → ℕ → ℕ → Manifest
manifest_with n drives count = record { name = replicate n 0; drives = drives; parity = 0; parts = replicate count (part_with drives) }

as_long : (n drives count longest : ℕ) → n < 2 ^ 16 → drives ≤ 16 → 1 ≤ count → count ≤ 10000 → 43 + n + (24 + 32 * drives) * count ≡ longest → SomeManifestIsAsLong longest
as_long n drives count longest n_fits drives_fit some few is =
    let m = manifest_with n drives count in
    let name = length-replicate {A = ℕ} n 0 in
    let parts = length-replicate count (part_with drives) in
    let canonical : IsCanonical m = record {
      name = omega (arith, name, n_fits);
      drives = omega (arith, drives_fit);
      parity = omega arith;
      some = omega (arith, parts, some);
      few = omega (arith, parts, few);
      parts = all_same (IsCanonicalPart drives) (part_with drives) (part_is_canonical drives) count;
    } in
    let size : length (spelling m) ≡ 7 + n + (24 + 32 * drives) * count =
    manifest_size m canonical ∙ ap (λ (k : ℕ). 7 + k + (24 + 32 * drives) * length m.parts) name ∙ ap (λ (k : ℕ). 7 + n + (24 + 32 * drives) * k) parts in
    (m, canonical, drives_fit, omega (arith, size, length-sealed manifest_kind (spelling m), is))

pub longest_is_reached : SomeManifestIsAsLong 5425578
longest_is_reached = as_long 65535 16 10000 5425578 (omega arith) (omega arith) (omega arith) (omega arith) (omega arith)
