-- The manifest of a body that is one part is canonical, and the parts of a canonical one have a number of bytes that fits.
use Rattle.std.proofs.Common.{◌≡◌, ℕ, ◌+◌, ◌*◌, ◌^◌, ◌<◌, ◌≤◌, ◌∙◌, List, [], ◌∷◌, length, take, slice_index_or, subst, sym, ap, arith, refl}
use Rattle.std.specs.Prelude.{false, map, sum_by}
use Rattle.std.specs.List.{AllByRecursion}
use Rattle.std.proofs.lemmas.List.{length-map}
use Rattle.std.proofs.lemmas.List.Sums.{sum_by-cons, sum_by_more_le}
use Rattle.stamp_id.specs.declared.version.VersionId.{VersionId}
use Rattle.drive_base.specs.declared.plan.SetPlan.{SetPlan}
use Rattle.manifest_file.proofs.RootLemmas.{sha256_is_root}
use Rattle.manifest_file.specs.Canonical.{IsCanonical, IsCanonicalPart, IsRoot}
use Rattle.manifest_file.specs.declared.manifest.Manifest.{Manifest}
use Rattle.manifest_file.specs.declared.manifest.ManifestPart.{ManifestPart}
use Rattle.shard_file.specs.Shards.{root_of, table_of}
use Rattle.manifest_file.specs.Print.{cut_of, print_of_parts}
use Rattle.manifest_file.specs.Spelling.{file_of}
use Rattle.md5.specs.Md5.{md5}
use Rattle.sha2.specs.Sha256.{sha256}
use Rattle.std.specs.String.{string_bytes}
use Rattle.put_stage.specs.StripeBlocks.{all_bytes}
use Rattle.put_stage.specs.TakenBodies.{IsMadeOf}
use Rattle.put_stage.specs.declared.stage.Load.{Load}
use Rattle.put_stage.specs.declared.stage.Made.{Made}
use Rattle.put_stage.specs.Manifests.{part_size}
use Rattle.put_stage.specs.Outcomes.{manifest_of}

-- parts have at most 5 GiB each
parts_are_short : (drives : ℕ) (parts : List ManifestPart) → AllByRecursion (IsCanonicalPart drives) parts
    → sum_by part_size parts ≤ length parts * 5368709120
parts_are_short drives [] all = omega arith
parts_are_short drives (part ∷ parts) all =
    let cons = sum_by-cons part_size part parts in
    let rest = parts_are_short drives parts all.1 in
    let size : part.length ≤ 5368709120 = all.0.size in
    omega (arith, cons, rest, size)

-- there are at most 10,000 of them
total_fits : (manifest : Manifest) → IsCanonical manifest → sum_by part_size manifest.parts < 2 ^ 64
total_fits manifest is =
    let short = parts_are_short manifest.drives manifest.parts is.parts in
    let few = is.few in
    omega (arith, short, few)

-- the bytes of the parts so far and of the next one fit
pub next_fits : (manifest : Manifest) (parts : List ManifestPart) (i total : ℕ) (part : ManifestPart) → IsCanonical manifest
    → parts ≡ manifest.parts → i < length parts → total ≡ sum_by part_size (take i parts) → part ≡ slice_index_or parts i part
    → total + part.length < 2 ^ 64
next_fits manifest parts i total part is same low so at =
    let within = sum_by_more_le part_size parts i part low in
    let size : part.length ≡ part_size (slice_index_or parts i part) = ap part_size at in
    let all : sum_by part_size parts ≡ sum_by part_size manifest.parts = ap (sum_by part_size) same in
    let fits = total_fits manifest is in
    omega (arith, within, size, all, so, fits)

-- digests are roots
digests_are_roots : (tables : List (List ℕ)) → AllByRecursion IsRoot (map sha256 tables)
digests_are_roots [] = tt
digests_are_roots (table ∷ tables) = (sha256_is_root table, digests_are_roots tables)

-- the manifest of a body that is one part, with the roots of these digest tables, one for each drive, is canonical
pub canonical_of_tables : (set : SetPlan) (id : VersionId) (name : List ℕ) (size : ℕ) (tables roots : List (List ℕ)) (m : Manifest)
    → m ≡ manifest_of set id name size roots → length name < 2 ^ 16 → size ≤ 5368709120 → roots ≡ map sha256 tables → length tables ≡ set.drives → IsCanonical m
canonical_of_tables set id name size tables roots m is short few roots_are counted =
    let part : IsCanonicalPart set.drives (record { id = id; length = size; roots = roots }) = record {
      size = few;
      counted = ap length roots_are ∙ length-map tables sha256 ∙ counted;
      roots = subst (AllByRecursion IsRoot) (sym roots_are) (digests_are_roots tables);
    } in
    let made : IsCanonical (manifest_of set id name size roots) = record {
      name = short;
      drives = omega arith;
      parity = omega arith;
      some = omega arith;
      few = omega arith;
      parts = (part, tt);
    } in
    subst IsCanonical (sym is) made

-- and so is the manifest of a load of a body, with the roots of its digest tables
pub canonical_of_load : (load : Load) (name : List ℕ) (tables roots : List (List ℕ)) (m : Manifest) → load.alone ≡ false
    → name ≡ string_bytes load.name → tables ≡ all_bytes load.tables.items → roots ≡ map sha256 tables
    → m ≡ manifest_of load.set load.names.id name load.long roots → IsCanonical m
canonical_of_load load name tables roots m of_body named same roots_are is =
    let short : length name < 2 ^ 16 = subst (λ (text : List ℕ). length text < 2 ^ 16) (sym named) load.short_name in
    let counted : length (all_bytes load.tables.items) ≡ load.set.drives = length-map load.tables.items _ ∙ load.tables_of_all in
    canonical_of_tables load.set load.names.id name load.long tables roots m is short (load.few of_body) roots_are (ap length same ∙ counted)

-- the roots of shards that have these tables
pub roots_of_tables : (shards : List (List (List ℕ))) → map sha256 (map table_of shards) ≡ map root_of shards
roots_of_tables [] = refl
roots_of_tables (shard ∷ shards) = ap (λ (rest : List (List ℕ)). root_of shard ∷ rest) (roots_of_tables shards)

-- what is made of a body that is whole
pub is_made : (load : Load) (body : List ℕ) (shards : List (List (List ℕ))) (m : Manifest) (made : Made)
    → m ≡ manifest_of load.set load.names.id (string_bytes load.name) (length body) (map root_of shards)
    → made.manifest.items ≡ file_of m → made.print ≡ print_of_parts m.drives m.parity (map cut_of m.parts) → made.etag ≡ md5 body → IsMadeOf load body shards made
is_made load body shards m made is file print etag = record {
  manifest = file ∙ ap file_of is;
  print = print ∙ ap (λ (x : Manifest). print_of_parts x.drives x.parity (map cut_of x.parts)) is;
  etag = etag;
}
