use Rattle.std.proofs.Common.{rules, ◌≡◌, ◌∷◌, [], ◌++◌, arith}
use Rattle.get_read.proofs.AtHandLemmas.{at_hand_added, rows_below}
use Rattle.get_read.proofs.SearchLemmas.{passes_good}
use Rattle.get_read.proofs.state.StripeWork.add.Goals as goal

pub returns-clause-letters : goal.returns-clause-letters
returns-clause-letters c =
    let old = c.args.self.now in
    passes_good c.args.set.now old.tried c.past_out-self.result old.whys c.past_out-self.new.whys c.requires.tried c.requires.letters (old.untried old.tried (omega arith)) c.past_out-self.ensures

pub invariant_of-self-2 : goal.invariant_of-self-2
invariant_of-self-2 c =
    let old = c.args.self.now in
    let next = c.add_block.new.found in
    let block = c.args.fetched.now.block.items in
    let rows : next.rows.items ≡ old.found.rows.items ++ old.tried ∷ [] = search rules in
    let stored : next.stored.items ≡ old.found.stored.items ++ c.args.fetched.now.stored ∷ [] = search rules in
    let bytes : next.bytes.items ≡ old.found.bytes.items ++ block = search rules in
    let over = c.past_out-self.ensures in
    record {
      below = λ k d low. omega (arith, over.least, rows_below old.tried old.found next rows old.below k d low);
      untried = over.untried;
      at_hand = at_hand_added old.size old.tried old.found next old.whys c.past_out-self.new.whys c.args.fetched.now.stored block rows stored bytes c.requires.size old.at_hand old.below
          (omega (arith, c.requires.tried, c.requires.letters)) over.counted over.before (old.untried old.tried (omega arith));
    }
