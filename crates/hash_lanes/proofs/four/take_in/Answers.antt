use Rattle.std.proofs.Common.{◌≡◌, ℕ, List, ◌+◌, ◌-◌, ◌*◌, ◌∙◌, take, drop, arith, refl}
use Rattle.sha2.specs.Sha256.{hash_after}
use Rattle.sha2.proofs.Absorbing256.{hash_after_next}
use Rattle.hash_lanes.specs.Lanes.{lane, one_of}
use Rattle.hash_lanes.proofs.LaneLemmas.{one_of_map}
use Rattle.hash_lanes.proofs.four.take_in.Goals as goal

pub chunks-init : goal.chunks-init
unfolding hash_after
chunks-init c j low = refl

pub chunks-preserved : goal.chunks-preserved
chunks-preserved c j low =
    let i = c.chunks.i in
    let width : 64 * i + 64 - 64 * i ≡ 64 = omega arith in
    let place : 64 * i ≡ i * 64 = omega arith in
    let chunk : List ℕ → List ℕ = λ m. take (64 * i + 64 - 64 * i) (drop (64 * i) m) in
    let parts = one_of_map chunk c.args.a.now c.args.b.now c.args.c.now c.args.d.now j low in
    let message = one_of c.args.a.now c.args.b.now c.args.c.now c.args.d.now j in
    let next = hash_after_next (lane j c.args.hash.now) message i in
    c.compress.ensures j low ∙ rw (parts, width, place, c.chunks.invariant j low, next) refl
