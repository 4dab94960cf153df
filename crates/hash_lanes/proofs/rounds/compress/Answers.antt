use Rattle.std.proofs.Common.{◌≡◌, ◌*◌, ap, arith, refl}
use Rattle.sha2.specs.Sha256.{add_state, compress, rounds}
use Rattle.sha2.proofs.Schedule256.{IsRoundsAt_at}
use Rattle.hash_lanes.specs.Lanes.{lane, one_of}
use Rattle.hash_lanes.proofs.rounds.compress.Goals as goal

pub turns-init : goal.turns-init
unfolding rounds
turns-init c j low =
    let chunk = one_of c.args.a.now c.args.b.now c.args.c.now c.args.d.now j in
    let window = c.first_window-window.ensures j low in
    (window, c.sixteen_rounds-v.ensures j chunk (lane j c.args.hash.now) low window refl)

pub turns-preserved : goal.turns-preserved
turns-preserved c j low =
    let chunk = one_of c.args.a.now c.args.b.now c.args.c.now c.args.d.now j in
    let held = c.turns.invariant j low in
    let window = c.next_window.ensures j chunk low held.0 in
    let after = c.sixteen_rounds-v-in-turns.ensures j chunk _ low window held.1 in
    IsRoundsAt_at chunk _ _ _ _ _ (omega arith) (window, after)

pub returns : goal.returns
unfolding compress
returns c j low =
    let done : 16 * c.turns.turn ≡ 64 = omega (arith, c.turns.auto.turn-end (omega arith)) in
    let held = (c.turns.invariant j low).1 in
    rw (
      c.add.ensures j low,
      c.add-2.ensures j low,
      c.add-3.ensures j low,
      c.add-4.ensures j low,
      c.add-5.ensures j low,
      c.add-6.ensures j low,
      c.add-7.ensures j low,
      c.add-8.ensures j low,
    ) (ap (add_state (lane j c.args.hash.now)) (rw done at held))
