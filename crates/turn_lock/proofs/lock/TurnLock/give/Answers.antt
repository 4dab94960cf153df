use Rattle.std.proofs.Common.{rules, refl, ap, ◌∙◌, ◌∷◌, [], None, arith, ne_eqb}
use Rattle.std.proofs.lemmas.List.{map-append}
use Rattle.turn_lock.specs.History.{tickets}
use Rattle.turn_lock.specs.Passes.{this_turn}
use Rattle.turn_lock.proofs.Moves.{advances, ended}
use Rattle.turn_lock.proofs.lock.TurnLock.give.Goals as goal

pub store-requires : goal.store-requires
store-requires g c = let held = c.args.held in (
  search rules,
  search rules,
  advances g.T.Turned.turn g.T.Turned.name c.args.self.now.table.shared.key.value _ _ _ held.seat.me.0 held.lent.value held.value None held.seat.me.1 held.ticket _ c.exchange-was.ensures.3
      held.in_turn.2 held.in_turn.0 held.in_turn.1 refl c.requires.1 c.requires.2,
)

pub invariant_of-result : goal.invariant_of-result
invariant_of-result g c = let held = c.args.held in
    let e = ended held.seat.me c.exchange-was.new.seat.me c.store.new.seat.me (this_turn held) _ c.exchange-was.ensures.3 held.in_turn.0 held.in_turn.1 held.in_turn.2 c.store.ensures.2 in record {
      some_part = held.some_part;
      view_is = (ap (λ m. m.0.parts) e ∙ held.view_is.0, ap (λ m. m.0.seen) e, ap (λ m. m.0.looked) e ∙ held.view_is.1);
      at_rest = (ap (λ m. m.0.ticket) e, ap (λ m. m.0.lent) e, ap (λ m. m.1) e);
    }

pub returns : goal.returns
returns g c = let held = c.args.held in
    let e = ended held.seat.me c.exchange-was.new.seat.me c.store.new.seat.me (this_turn held) _ c.exchange-was.ensures.3 held.in_turn.0 held.in_turn.1 held.in_turn.2 c.store.ensures.2 in record {
      pass = ((c.store.ensures.0 ∙ c.exchange-was.ensures.0 ∙ c.requires.0.0, ap (λ m. m.0.of) e ∙ c.requires.0.1), refl, refl, ne_eqb held.ticket 18446744073709551615 (λ h. omega (arith, held.not_last)));
      drawn = ap (λ m. tickets m.0.done) e ∙ map-append (λ t. t.ticket) held.seat.me.0.done (this_turn held ∷ []);
      turns = ap (λ m. m.0.done) e;
    }
