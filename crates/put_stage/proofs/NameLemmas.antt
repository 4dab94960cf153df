-- The names of the files of an id are short.
use Rattle.std.proofs.Common.{◌≡◌, ℕ, ◌≤◌, List, length, ap, arith}
use Rattle.hex.specs.Hex.{lower_digits}
use Rattle.hex.proofs.HexLemmas.{length-encode_with}
use Rattle.stamp_id.specs.VersionId.{id_bytes}
use Rattle.stamp_id.specs.declared.version.VersionId.{VersionId}
use Rattle.stamp_id.proofs.IdLemmas.{length-id_bytes}
use Rattle.body_print.specs.Names.{manifest_name, shard_name}

pub short_manifest : (id : VersionId) (name : List ℕ) → name ≡ manifest_name id → length name ≤ 1129
short_manifest id name is =
    let named : length name ≡ length (manifest_name id) = ap length is in
    let two = length-encode_with lower_digits (id_bytes id) in
    let sixteen = length-id_bytes id in
    omega (arith, named, two, sixteen)

pub short_shard : (id : VersionId) (name : List ℕ) → name ≡ shard_name id → length name ≤ 1129
short_shard id name is =
    let named : length name ≡ length (shard_name id) = ap length is in
    let two = length-encode_with lower_digits (id_bytes id) in
    let sixteen = length-id_bytes id in
    omega (arith, named, two, sixteen)

pub ruleset short_names = (short_manifest, short_shard)
