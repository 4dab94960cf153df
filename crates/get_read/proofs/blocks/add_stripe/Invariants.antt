use Rattle.std.proofs.Common.{◌≡◌, ◌+◌, ◌*◌, ◌++◌, length, take}
use Rattle.std.specs.List.{concat}
use Rattle.get_read.specs.Stripes.{EachStripeOf}
use Rattle.get_read.proofs.blocks.add_stripe.Given as goal

-- the body has gained the blocks so far, and they are the data blocks of a stripe that has the blocks at hand
abbrev pub invariant-loop-which : goal.invariant-loop-which
invariant-loop-which l = record {
  long : length l.body.items ≡ length l.initial.body.items + l.which * l.size;
  kept : take (length l.initial.body.items) l.body.items ≡ l.initial.body.items;
  front : EachStripeOf l.set l.size l.long l.blocks (λ _ shards. l.body.items ≡ l.initial.body.items ++ concat (take l.which shards));
}
