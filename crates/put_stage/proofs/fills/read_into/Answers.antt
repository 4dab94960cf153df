-- What a read that is refused took.
use Rattle.std.proofs.Common.{◌+◌, ◌≤◌, length, arith}
use Rattle.std.proofs.lemmas.Result.{err_from_is_err_and}
use Rattle.put_stage.proofs.FillLemmas.{gave_more}
use Rattle.put_stage.proofs.fills.read_into.Goals as goal

pub returns-in_err-take_piece-clause-gave : goal.returns-in_err-take_piece-clause-gave
returns-in_err-take_piece-clause-gave g c =
    let F = g.F.Feed in
    let p = err_from_is_err_and c.from_residual.result c.from_residual.ensures.1 in
    let fits : length c.loop-into.into.items + c.min.result ≤ c.args.count = omega arith in
    rw p.1 (gave_more c.loop-into.into.items c.min.result c.args.count c.args.left.now c.loop-into.left c.take_piece.new.left
    (F.seen c.args.feed.now) (F.seen c.loop-into.feed) (F.seen c.take_piece.new.feed)
    c.loop-into.invariant.gave c.loop-into.invariant.left c.in_err-take_piece.ensures.more fits)
