use Rattle.std.proofs.Common.{◌≡◌, ◌-◌, ◌+◌, ℕ, length, subst, arith}
use Rattle.get_read.specs.Blocks.{AreSifted}
use Rattle.get_read.proofs.SiftLemmas.{digest_now, sifted_none}
use Rattle.get_read.proofs.blocks.keep_verified.Goals as goal

pub loop-place-init : goal.loop-place-init
loop-place-init c =
    let blocks = c.args.found.now in
    let all : length blocks.rows.items ≡ c.len-place.result = omega arith in
    record {
      within = omega arith;
      sifted = subst (λ (n : ℕ). AreSifted c.args.size n blocks blocks c.args.whys.now c.args.whys.now) all
          (sifted_none c.args.size blocks c.args.whys.now c.requires.at_hand);
    }

pub compare-requires-clause-computed : goal.compare-requires-clause-computed
compare-requires-clause-computed c =
    let before : c.loop-place.place ≡ (c.loop-place.place - 1) + 1 = omega arith in
    digest_now c.args.size (c.loop-place.place - 1) c.args.found.now c.loop-place.found c.args.whys.now c.loop-place.whys c.args.digests.now
    (subst (λ (n : ℕ). AreSifted c.args.size n c.args.found.now c.loop-place.found c.args.whys.now c.loop-place.whys) before c.loop-place.invariant.sifted)
    c.requires.digests
