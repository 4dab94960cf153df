-- The manifest of a body that is whole.
use Rattle.std.proofs.Common.{◌≡◌, ◌∙◌, ℕ, List, ap, length, map}
use Rattle.std.specs.String.{string_bytes}
use Rattle.sha2.specs.Sha256.{sha256}
use Rattle.shard_file.specs.Shards.{root_of}
use Rattle.put_stage.specs.StripeBlocks.{all_bytes}
use Rattle.put_stage.specs.Outcomes.{manifest_of}
use Rattle.put_stage.proofs.ManifestLemmas.{canonical_of_load, is_made, roots_of_tables}
use Rattle.put_stage.proofs.manifests.conclude.Goals as goal

pub write-requires : goal.write-requires
write-requires c = canonical_of_load c.args.load.now c.as_str-name.result.now (all_bytes c.as_slice.result.now) c.in_ok-roots.roots.items c.in_ok-manifest.manifest c.requires
    c.as_str-name.ensures.value (ap (λ files. all_bytes files) c.as_slice.ensures.value) c.in_ok-roots.ensures c.in_ok-manifest.ensures

pub print_of-requires : goal.print_of-requires
print_of-requires c = canonical_of_load c.args.load.now c.as_str-name.result.now (all_bytes c.as_slice.result.now) c.in_ok-roots.roots.items c.in_ok-manifest.manifest c.requires
    c.as_str-name.ensures.value (ap (λ files. all_bytes files) c.as_slice.ensures.value) c.in_ok-roots.ensures c.in_ok-manifest.ensures

pub returns : goal.returns
returns c = λ body shards long tag are tables_are.
    let load = c.args.load.now in
    let set = load.set in
    let id = load.names.id in
    let roots : c.in_ok-roots.roots.items ≡ map root_of shards =
    c.in_ok-roots.ensures ∙ ap (λ files. map sha256 (all_bytes files)) c.as_slice.ensures.value
    ∙ ap (λ (tables : List (List ℕ)). map sha256 tables) tables_are ∙ roots_of_tables shards in
    let is : c.in_ok-manifest.manifest ≡ manifest_of set id (string_bytes load.name) (length body) (map root_of shards) =
    c.in_ok-manifest.ensures
    ∙ ap (λ (text : List ℕ). manifest_of set id text load.long c.in_ok-roots.roots.items) c.as_str-name.ensures.value
    ∙ ap (λ (size : ℕ). manifest_of set id (string_bytes load.name) size c.in_ok-roots.roots.items) long
    ∙ ap (λ (all : List (List ℕ)). manifest_of set id (string_bytes load.name) (length body) all) roots in
    is_made load body shards c.in_ok-manifest.manifest _ is c.in_ok-write.ensures c.print_of.ensures tag
