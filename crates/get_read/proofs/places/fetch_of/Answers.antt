use Rattle.get_read.proofs.HeldLemmas.{stripe_begun, stripe_ends, fresh_few, fresh_letters}
use Rattle.get_read.proofs.places.fetch_of.Goals as goal

pub invariant_of-result-clause-begun : goal.invariant_of-result-clause-begun
invariant_of-result-clause-begun c = stripe_begun c.args.part.begin c.args.at c.stripe_at-work.result.stripe c.requires.is.begun c.stripe_at-work.ensures.stripe

pub invariant_of-result-clause-in_stripe : goal.invariant_of-result-clause-in_stripe
invariant_of-result-clause-in_stripe c = stripe_ends c.args.part.begin c.args.at c.stripe_at-work.result.stripe c.stripe_at-work.ensures.stripe

pub invariant_of-result-clause-size : goal.invariant_of-result-clause-size
invariant_of-result-clause-size c = c.stripe_at-work.ensures.size

pub invariant_of-result-clause-few : goal.invariant_of-result-clause-few
invariant_of-result-clause-few c = c.stripe_at-work.ensures.letters.most

pub invariant_of-result-clause-next_in_use : goal.invariant_of-result-clause-next_in_use
invariant_of-result-clause-next_in_use c = c.stripe_at-work.ensures.letters.in_use

pub invariant_of-result-clause-letters : goal.invariant_of-result-clause-letters
invariant_of-result-clause-letters c = fresh_letters c.args.asked.wanted.set _ _ c.stripe_at-work.ensures.letters

pub invariant_of-result-clause-fewer : goal.invariant_of-result-clause-fewer
invariant_of-result-clause-fewer c = fresh_few c.args.asked.wanted.set c.stripe_at-work.result.found c.stripe_at-work.ensures.none
