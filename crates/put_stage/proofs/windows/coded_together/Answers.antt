-- Whole stripes, coded side by side.
use Rattle.std.proofs.Common.{◌≡◌, ◌∙◌, ℕ, ◌+◌, ◌-◌, ◌*◌, ◌/◌, ◌<◌, ◌≤◌, List, ap, arith, drop, length, map, refl, sym, take, ◌++◌}
use Rattle.std.proofs.lemmas.List.{take_all, take_at}
use Rattle.sha2.specs.Sha256.{sha256}
use Rattle.shard_file.specs.Stripes.{block_size, pieces, stripe_size}
use Rattle.put_stage.specs.Windows.{data_runs}
use Rattle.put_stage.proofs.WindowLemmas.{coded_runs, runs_long}
use Rattle.put_stage.proofs.windows.coded_together.Goals as goal

pub block_digests-requires : goal.block_digests-requires
block_digests-requires c =
    let block = c.block_len-block.result in
    let count = length c.args.bytes.now / stripe_size in
    let n = c.args.set.now.drives in
    let counted : length c.as_mut_slice-2.result.now ≡ count * n = omega (arith, c.in_ok-digests.ensures.len, c.as_mut_slice-2.ensures.len) in
    let turned : count * block * n ≡ block * (count * n) = omega arith in
    let product : block * length c.as_mut_slice-2.result.now ≡ block * (count * n) = ap (λ (m : ℕ). block * m) counted in
    omega (arith, turned, product, c.as_slice.ensures.len, c.in_ok-resize.ensures.len)

pub returns : goal.returns
returns c =
    let set = c.args.set.now in
    let n = set.drives in
    let d = n - set.parity in
    let bytes = c.args.bytes.now in
    let count = c.requires.whole.0 in
    let block = c.block_len-block.result in
    let b = block_size d stripe_size in
    let width = length bytes / stripe_size * block in
    let sum : d + set.parity ≡ n = omega arith in
    let some : 0 < d = omega arith in
    let counted : length bytes / stripe_size ≡ count = omega (arith, c.requires.whole.1) in
    let wide : width ≡ b * count = ap (λ (m : ℕ). m * block) counted ∙ ap (λ (m : ℕ). count * m) c.block_len-block.ensures.size ∙ omega arith in
    let runs = data_runs d count bytes in
    let held : c.add_data.new.into.items ≡ runs =
    c.in_ok-add_data.ensures
    ∙ ap (λ (none : List ℕ). none ++ data_runs d (length bytes / stripe_size) bytes) c.in_ok-blocks.ensures.items
    ∙ ap (λ (m : ℕ). data_runs d m bytes) counted in
    let runs_are_long : length runs ≡ width * d = runs_long d count bytes some c.requires.whole.1 ∙ ap (λ (m : ℕ). m * d) (sym wide) in
    let spread : width * (d + set.parity) ≡ width * n = ap (λ (m : ℕ). width * m) sum in
    let parts : width * (d + set.parity) ≡ width * d + width * set.parity = omega arith in
    let fits : length c.add_data.new.into.items ≤ width * n = omega (arith, ap (length {A = ℕ}) held, runs_are_long, spread, parts) in
    let front : List ℕ = take (width * d) c.as_mut_slice.result.now in
    let front_is : front ≡ runs =
    ap (take {A = ℕ} (width * d)) (c.as_mut_slice.ensures.value ∙ c.in_ok-resize.ensures.items)
    ∙ front_of c.add_data.new.into.items runs _ (width * d) (width * n) held runs_are_long fits in
    let out = c.add_parity.ensures.parity in
    let held_long : length c.add_parity.new.blocks ≡ c.resize.new.self.len = omega (arith, c.as_mut_slice.ensures.len) in
    let blocks = take_at c.add_parity.new.blocks (drop (length c.add_parity.new.blocks) c.resize.new.self.items) c.resize.new.self.len held_long ∙ c.add_parity.ensures.blocks in
    let digests_long : length c.block_digests.new.digests ≡ c.in_ok-digests.digests.len = omega (arith, c.as_mut_slice-2.ensures.len) in
    let lanes : length c.as_mut_slice-2.result.now ≡ count * n =
    omega (arith, c.in_ok-digests.ensures.len, c.as_mut_slice-2.ensures.len, ap (λ (m : ℕ). m * n) counted) in
    coded_runs n d set.parity count width bytes front out _ sum some c.requires.whole.1 wide front_is counted refl blocks c.add_parity.ensures.long
    c.add_parity.ensures.columns
    (take_at c.block_digests.new.digests (drop (length c.block_digests.new.digests) c.in_ok-digests.digests.items) c.in_ok-digests.digests.len digests_long
    ∙ c.block_digests.ensures
    ∙ ap (λ (m : ℕ). map sha256 (pieces block m c.as_slice.result.now)) lanes
    ∙ ap (λ (m : ℕ). map sha256 (pieces m (count * n) c.as_slice.result.now)) c.block_len-block.ensures.size
    ∙ ap (λ (all : List ℕ). map sha256 (pieces b (count * n) all)) c.as_slice.ensures.value)
  where
    front_of : (first runs more : List ℕ) (long all : ℕ) → first ≡ runs → length runs ≡ long → length first ≤ all → take long (take all first ++ more) ≡ runs
    front_of first runs more long all is sized fits =
        ap (λ (bytes : List ℕ). take long (bytes ++ more)) (take_all all first fits ∙ is) ∙ take_at runs more long sized
