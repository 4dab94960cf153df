use Rattle.std.proofs.Common.{arith, sym, ◌≡◌, ◌∙◌}
use Rattle.std.proofs.lemmas.Bool.{eqb-true}
use Rattle.std.proofs.lemmas.Option.{none-some}
use Rattle.turn_lock.proofs.Moves.{closes, closes_with}
use Rattle.turn_lock.proofs.lock.TurnLock.close.Goals as goal

pub unreachable-requires : goal.unreachable-requires
unreachable-requires g c = let pass = c.args.pass in
    let t = closes g.T.Turned.turn g.T.Turned.name c.args.self.table.shared.key.value pass.seat.id pass.seat.me.0 _ _ c.take.result
    (omega (arith, c.if-pass-all.false, pass.some_part.1, pass.view_is.0)) pass.at_rest.0 pass.at_rest.1 c.close_with-closed.ensures.values.2 c.take.ensures.value in
    none-some t.0 (sym c.in_default.is ∙ t.1)

pub returns-clause-ok : goal.returns-clause-ok
returns-clause-ok g c = let pass = c.args.pass in
    let t = closes g.T.Turned.turn g.T.Turned.name c.args.self.table.shared.key.value pass.seat.id pass.seat.me.0 _ _ c.take.result
    (omega (arith, c.if-pass-all.false, pass.some_part.1, pass.view_is.0)) pass.at_rest.0 pass.at_rest.1 c.close_with-closed.ensures.values.2 c.take.ensures.value in
    let w = closes_with g.T.Turned.turn g.T.Turned.name c.args.self.table.shared.key.value pass.seat.me.0 c.take.result c.in-Some.value c.in-Some.is t in
    (omega (arith, c.if-pass-all.false, pass.some_part.1), w.0, omega (arith, w.1, pass.view_is.1))

pub returns-clause-drawn : goal.returns-clause-drawn
returns-clause-drawn g c = let pass = c.args.pass in
    let t = closes g.T.Turned.turn g.T.Turned.name c.args.self.table.shared.key.value pass.seat.id pass.seat.me.0 _ _ c.take.result
    (omega (arith, c.if-pass-all.false, pass.some_part.1, pass.view_is.0)) pass.at_rest.0 pass.at_rest.1 c.close_with-closed.ensures.values.2 c.take.ensures.value in
    (closes_with g.T.Turned.turn g.T.Turned.name c.args.self.table.shared.key.value pass.seat.me.0 c.take.result c.in-Some.value c.in-Some.is t).2.once

pub returns-clause-history : goal.returns-clause-history
returns-clause-history g c = let pass = c.args.pass in
    let t = closes g.T.Turned.turn g.T.Turned.name c.args.self.table.shared.key.value pass.seat.id pass.seat.me.0 _ _ c.take.result
    (omega (arith, c.if-pass-all.false, pass.some_part.1, pass.view_is.0)) pass.at_rest.0 pass.at_rest.1 c.close_with-closed.ensures.values.2 c.take.ensures.value in
    (closes_with g.T.Turned.turn g.T.Turned.name c.args.self.table.shared.key.value pass.seat.me.0 c.take.result c.in-Some.value c.in-Some.is t).2

pub returns-clause-spent : goal.returns-clause-spent
returns-clause-spent g c spent = let pass = c.args.pass in
    let t = closes g.T.Turned.turn g.T.Turned.name c.args.self.table.shared.key.value pass.seat.id pass.seat.me.0 _ _ c.take.result
    (omega (arith, c.if-pass-all.false, pass.some_part.1, pass.view_is.0)) pass.at_rest.0 pass.at_rest.1 c.close_with-closed.ensures.values.2 c.take.ensures.value in
    let w = closes_with g.T.Turned.turn g.T.Turned.name c.args.self.table.shared.key.value pass.seat.me.0 c.take.result c.in-Some.value c.in-Some.is t in
    let at_last : pass.looked ≡ 18446744073709551615 = eqb-true pass.looked 18446744073709551615 spent in
    omega (arith, w.3, pass.view_is.2, at_last)
