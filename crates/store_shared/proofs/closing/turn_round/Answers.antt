use Rattle.std.proofs.Common.{◌∙◌, ap, reverse}
use Rattle.store_shared.proofs.OrderLemmas.{whole_slice}
use Rattle.store_shared.proofs.closing.turn_round.Goals as goal

pub returns-clause-items : goal.returns-clause-items
returns-clause-items g c =
    whole_slice c.reverse.new.self c.args.items.now.items c.args.items.now.len (c.reverse.ensures.len ∙ c.as_mut_slice.ensures.len)
    ∙ (c.reverse.ensures.after ∙ ap reverse c.as_mut_slice.ensures.value)
