-- A block that is rebuilt from blocks of a stripe is the stripe's.
use Rattle.std.proofs.Common.{◌≡◌, ℕ, ◌+◌, ◌*◌, ◌<◌, ◌∙◌, List, [], length, slice_index, slice_index_or, drop, map, ap, sym, arith}
use Rattle.std.proofs.Math.Nat.{mul_comm}
use Rattle.std.proofs.lemmas.Grind.{same_number_lists}
use Rattle.std.proofs.lemmas.List.{get_or-drop, get_or-map, get_or-take, get_or_default}
use Rattle.poly_code.proofs.CodewordLemmas.{codewords_agree, column-at}
use Rattle.poly_code.specs.Columns.{byte_of_block}
use Rattle.shard_file.specs.Stripes.{block_size, piece}
use Rattle.body_print.specs.Laws.{AnyBlocksGiveEach}

-- byte k of piece i is byte k of block i
byte_of_piece : (size k i : ℕ) (bytes : List ℕ) → k < size → byte_of_block size k bytes i ≡ slice_index (piece size bytes i) k
byte_of_piece size k i bytes low =
    ap (λ (m : ℕ). slice_index bytes (m + k)) (mul_comm i size)
    ∙ sym (get_or-drop (size * i) bytes k 0)
    ∙ sym (get_or-take size (drop (size * i) bytes) k 0 low)

-- what is rebuilt from a stripe's blocks at d rows is the stripe's block
pub rebuilt_block : AnyBlocksGiveEach
rebuilt_block n d size which rows bytes out stripe shards most count within distinct low is long are same code =
    let block = slice_index_or shards which [] in
    let block_long : length block ≡ block_size d (length stripe) = are.sizes which [] (omega (arith, are.count)) in
    same_number_lists out block (long ∙ is ∙ sym block_long)
    (λ k below.
    let inside : k < size = omega (arith, long) in
    let at : List ℕ → ℕ = λ (b : List ℕ). slice_index b k in
    let word = code k inside in
    let agree : word.codeword ≡ map at shards =
    codewords_agree n d rows word.codeword (map at shards) most count within distinct word.is_codeword (are.columns k (omega (arith, is)))
    (λ i x fits.
    let row = slice_index rows i in
    let first : i < d = omega (arith, count) in
    let low_row : row < n = within i 0 fits in
    ap (λ (r : ℕ). slice_index word.codeword r) (get_or_default rows i x 0 fits)
    ∙ word.at_rows i fits
    ∙ column-at d size k bytes i first
    ∙ byte_of_piece size k i bytes inside
    ∙ ap at (same i first)
    ∙ sym (get_or-map at shards row [] 0 (omega (arith, are.count, low_row)))
    ∙ ap (λ (r : ℕ). slice_index (map at shards) r) (sym (get_or_default rows i x 0 fits))) in
    sym word.at_which ∙ ap (λ (c : List ℕ). slice_index c which) agree
    ∙ get_or-map at shards which [] 0 (omega (arith, are.count)))
