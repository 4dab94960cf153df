use Rattle.std.proofs.Common.{◌≡◌, ◌∙◌, ◌++◌, ap, reverse, subst}
use Rattle.std.proofs.lemmas.List.{reverse-reverse}
use Rattle.store_shared.specs.Closing.{ShutBehind}
use Rattle.store_shared.proofs.pass.NotOpened.into_parts.Goals as goal

pub returns-clause-slots : goal.returns-clause-slots
returns-clause-slots g c =
    let left = c.args.self.parts.slots.items in
    let moved : c.move_each.new.home.items ≡ left = c.move_each.ensures.items ∙ (ap (λ l. l ++ reverse c.turn_round.new.items.items) c.requires.none
    ∙ (ap reverse c.turn_round.ensures.items ∙ reverse-reverse left)) in
    subst (λ l. ShutBehind (reverse c.args.self.slots.items) l c.close_each.new.home.items) moved c.close_each.ensures
