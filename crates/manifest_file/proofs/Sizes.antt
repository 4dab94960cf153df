-- How many bytes a manifest's spelling has.
use Rattle.std.proofs.Common.{◌≡◌, ℕ, suc, ◌+◌, ◌*◌, ◌^◌, ◌<◌, ◌≤◌, List, [], ◌∷◌, ◌++◌, length, refl, arith, mul-le-mul}
use Rattle.std.specs.Prelude.{map}
use Rattle.std.specs.List.{AllByRecursion, flat_map}
use Rattle.std.specs.Int.{w8, w16, w64}
use Rattle.std.proofs.lemmas.List.{length-append, append-nil}
use Rattle.std.proofs.lemmas.List.Concat.{flat_map-cons}
use Rattle.stamp_id.specs.VersionId.{id_bytes}
use Rattle.stamp_id.proofs.IdLemmas.{length-id_bytes}
use Rattle.field_reader.specs.Spelling.{number_bytes}
use Rattle.seal_file.proofs.SealedLemmas.{length-sealed}
use Rattle.manifest_file.specs.declared.manifest.Manifest.{Manifest}
use Rattle.manifest_file.specs.declared.manifest.ManifestPart.{ManifestPart}
use Rattle.manifest_file.specs.Canonical.{IsRoot, IsCanonicalPart, IsCanonical}
use Rattle.manifest_file.specs.Rows.{part_row}
use Rattle.manifest_file.specs.Spelling.{roots_bytes, part_bytes, manifest_kind, spelling}
use Rattle.manifest_file.specs.Table.{ManifestsAreNoLonger}

roots_size : (rs : List (List ℕ)) → AllByRecursion IsRoot rs → length (roots_bytes rs) ≡ 32 * length rs
roots_size [] all = refl
roots_size (r ∷ rs) all =
    let here : length r ≡ 32 = all.0.0 in
    let others = roots_size rs all.1 in
    rw (flat_map-cons (λ (root : List ℕ). root) r rs) (omega (arith, length-append r (roots_bytes rs), here, others))

part_size : (drives : ℕ) (p : ManifestPart) → IsCanonicalPart drives p → length (part_bytes (part_row p)) ≡ 24 + 32 * drives
unfolding number_bytes
part_size drives p h =
    let id = length-id_bytes p.id in
    let counted = h.counted in
    let roots = roots_size p.roots h.roots in
    let whole = length-append (id_bytes p.id) (number_bytes w64 p.length ++ roots_bytes p.roots) in
    rw (append-nil (roots_bytes p.roots)) (omega (arith, whole, id, counted, roots))

one_more : (k n a b : ℕ) → a ≡ k → b ≡ k * n → a + b ≡ k * suc n
one_more k n a b e f = grind arith

parts_size : (drives : ℕ) (ps : List ManifestPart) → AllByRecursion (IsCanonicalPart drives) ps → length (flat_map part_bytes (map part_row ps)) ≡ (24 + 32 * drives) * length ps
parts_size drives [] all = omega arith
parts_size drives (p ∷ ps) all =
    let first = part_size drives p all.0 in
    let others = parts_size drives ps all.1 in
    let whole = length-append (part_bytes (part_row p)) (flat_map part_bytes (map part_row ps)) in
    rw (flat_map-cons part_bytes (part_row p) (map part_row ps), whole) (one_more (24 + 32 * drives) (length ps) _ _ first others)

pub manifest_size : (m : Manifest) → IsCanonical m → length (spelling m) ≡ 7 + length m.name + (24 + 32 * m.drives) * length m.parts
unfolding number_bytes
manifest_size m h =
    let parts = parts_size m.drives m.parts h.parts in
    let behind = number_bytes w8 m.drives ++ (number_bytes w8 m.parity ++ (number_bytes w16 (length (map part_row m.parts)) ++ flat_map part_bytes (map part_row m.parts))) in
    let whole = length-append m.name behind in
    rw (append-nil (flat_map part_bytes (map part_row m.parts))) (omega (arith, whole, parts))

-- as many roots as a set has drives
part_short : (drives : ℕ) → drives ≤ 16 → 24 + 32 * drives ≤ 536
part_short drives few = omega arith

-- the longest file
pub no_longer : ManifestsAreNoLonger 5425578
no_longer m h set =
    let sealed = length-sealed manifest_kind (spelling m) in
    let size = manifest_size m h in
    let name = h.name in
    let parts : (24 + 32 * m.drives) * length m.parts ≤ 536 * 10000 = mul-le-mul (part_short m.drives set) h.few in
    omega arith
