use Rattle.std.proofs.Common.{rules, ◌≡◌, ◌<◌, ◌*◌, ◌∙◌, ℕ, List, [], length, slice_index_or, map, ap, sym, arith}
use Rattle.std.proofs.lemmas.List.{get_or-map}
use Rattle.sha2.specs.Sha256.{sha256}
use Rattle.shard_file.proofs.Pieces.{get_or-pieces, length-pieces}
use Rattle.shard_file.specs.Stripes.{piece, pieces}
use Rattle.get_read.proofs.window.Window.verifies.Goals as goal

pub returns : goal.returns
returns c = λ yes k low.
    let w = c.args.self.now in
    let n = length w.rows.items * w.count in
    let long : length c.block_digests.new.digests ≡ n = search rules in
    let hashed : c.block_digests.new.digests ≡ map sha256 (pieces w.size n w.bytes.items) = search rules in
    let told : piece 32 w.stored.items k ≡ slice_index_or c.block_digests.new.digests k [] =
    ap (λ (b : List ℕ). piece 32 b k) (sym c.as_slice-2.ensures.value) ∙ c.are_stored.ensures yes k (omega (arith, long, low)) in
    let inside : k < length (pieces w.size n w.bytes.items) = omega (arith, low, length-pieces w.size n w.bytes.items) in
    told ∙ ap (λ (d : List (List ℕ)). slice_index_or d k []) hashed ∙ get_or-map sha256 (pieces w.size n w.bytes.items) k [] [] inside
    ∙ ap sha256 (get_or-pieces w.size n w.bytes.items k [] low)
