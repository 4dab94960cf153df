use Rattle.std.proofs.Common.{◌≡◌, ◌∙◌, length, ap, subst, sym, arith}
use Rattle.get_read.specs.Blocks.{AreSifted}
use Rattle.get_read.specs.declared.blocks.Blocks.{Blocks}
use Rattle.get_read.proofs.AtHandLemmas.{sifted_below, sifted_untried}
use Rattle.get_read.proofs.state.StripeWork.judge.Goals as goal

pub returns-then-are_enough-clause-judges : goal.returns-then-are_enough-clause-judges
returns-then-are_enough-clause-judges c =
    let old = c.args.self.now in
    let found = c.replace-found.result in
    let same : found ≡ c.are_enough.new.found = c.replace-found.ensures.value in
    let sifted : AreSifted old.size 0 old.found found old.whys c.are_enough.new.whys =
    subst (λ (b : Blocks). AreSifted old.size 0 old.found b old.whys c.are_enough.new.whys) (sym same) (c.are_enough.ensures.verified c.if-are_enough.true) in (
      found,
      sifted,
      ap (λ (b : Blocks). length b.rows.items) same ∙ c.are_enough.ensures.enough c.if-are_enough.true ∙ c.read_quorum-wanted.ensures.quorum,
      (c.in_ok-bytes.ensures.long, c.in_ok-bytes.ensures.stripe),
      ap (λ (b : Blocks). b.rows.items) c.replace-found.ensures.after ∙ c.no_blocks.ensures.rows,
    )

pub invariant_of-self-then-self-set : goal.invariant_of-self-then-self-set
invariant_of-self-then-self-set c =
    let old = c.args.self.now in
    let next = c.are_enough.new.found in
    let letters = c.are_enough.new.whys in
    let sifted = c.are_enough.ensures.sifted in
    record {
      at_hand = sifted.1.at_hand;
      below = sifted_below old.size sifted.0 old.tried old.found next old.whys letters sifted.1 old.below;
      untried = sifted_untried old.size sifted.0 old.tried old.found next old.whys letters sifted.1 old.below old.untried;
    }

pub returns-clause-judges : goal.returns-clause-judges
returns-clause-judges c =
    let old = c.args.self.now in
    let fewer = c.are_enough.ensures.fewer c.if-are_enough.false in (
      c.are_enough.new.found,
      c.are_enough.new.whys,
      c.are_enough.ensures.sifted,
      c.sift.ensures,
      omega (arith, c.sift.ensures.fewer, fewer, c.read_quorum-wanted.ensures.quorum),
      omega arith,
    )
