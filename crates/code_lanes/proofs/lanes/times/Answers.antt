use Rattle.std.proofs.Common.{◌≡◌, ℕ, ◌+◌, ◌/◌, ◌%◌, ◌^◌, List, length, get_or, replicate, ap, arith, bit_and, bit_xor}
use Rattle.std.proofs.lemmas.Nat.{and_mask}
use Rattle.std.specs.Simd.Lanes.{zip2}
use Rattle.code_lanes.specs.Lanes.{HasLanes}
use Rattle.code_lanes.proofs.LaneLemmas.{HasLanes-splat, HasLanes-is, HasLanes-of, SwzOk-halves, HasLanes-look_up, lane_byte}
use Rattle.code_lanes.proofs.TableLemmas.{looked_up}
use Rattle.code_lanes.proofs.lanes.times.Goals as goal

low : (v : List ℕ) → length v ≡ 32 → HasLanes (zip2 bit_and v (replicate 32 15)) (λ k. get_or v k 0 % 16)
low v long = HasLanes-is _ _ (HasLanes-splat bit_and v 15 long) (λ k l. and_mask (get_or v k 0) 4)

high : (v : List ℕ) → length v ≡ 32 → HasLanes (zip2 (λ a b. a / 2 ^ b) v (replicate 32 4)) (λ k. get_or v k 0 / 16)
high v long = HasLanes-splat (λ a b. a / 2 ^ b) v 4 long

pub swizzle-low : goal.swizzle-low
swizzle-low c = SwzOk-halves _ _ (low c.args.v c.fits-v.0) (λ k l. omega arith)

pub swizzle-high : goal.swizzle-high
swizzle-high c = SwzOk-halves _ _ (high c.args.v c.fits-v.0) (λ k l. omega (arith, lane_byte c.args.v c.fits-v.0 c.fits-v.1 k l))

pub returns : goal.returns
returns c element is =
    let v = c.args.v in
    let table = c.args.table.now in
    let first : HasLanes c.half.result (λ k. get_or table (k % 16) 0) = HasLanes-is _ _ c.half.ensures (λ k l. ap (λ j. get_or table j 0) (omega arith)) in
    let lows = HasLanes-look_up _ _ (low v c.fits-v.0) (λ k l. omega arith) (λ n. get_or table n 0) first in
    let highs = HasLanes-look_up _ _ (high v c.fits-v.0) (λ k l. omega (arith, lane_byte v c.fits-v.0 c.fits-v.1 k l)) (λ n. get_or table (16 + n) 0) c.half-2.ensures in
    HasLanes-is _ _ (HasLanes-of bit_xor _ _ lows highs) (λ k l. looked_up element table (get_or v k 0) is (lane_byte v c.fits-v.0 c.fits-v.1 k l))
