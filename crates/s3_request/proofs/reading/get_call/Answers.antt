use Rattle.std.proofs.Common.{ap, sym, ◌∙◌}
use Rattle.std.specs.Prelude.{Ok, codes}
use Rattle.http_wire.specs.Names.{value_of}
use Rattle.desk_base.specs.declared.call.Call.TheVariants as call
use Rattle.s3_request.specs.Arguments.{range_of}
use Rattle.s3_request.specs.Refusing.{and_then}
use Rattle.s3_request.specs.Reads.{with_pick}
use Rattle.s3_request.proofs.ReadingLemmas.{passes}
use Rattle.s3_request.proofs.reading.get_call.Goals as goal

pub returns-in_ok-matches-in-Ok : goal.returns-in_ok-matches-in-Ok
returns-in_ok-matches-in-Ok c = λ limit.
    let lines = c.args.head.now.lines in
    ap (λ r. and_then r (λ pick. Ok (call.Get c.args.at pick (range_of (value_of lines (codes "if-range")) (value_of lines (codes "range"))) (value_of lines (codes "if-match"))))) c.in-Ok.ensures
    ∙ ap (λ a. Ok (call.Get c.args.at c.in-Ok.pick a (value_of lines (codes "if-match")))) (sym c.range_of.ensures)
    ∙ ap (λ m. Ok (call.Get c.args.at c.in-Ok.pick c.range_of.result m)) (sym c.in_ok-matches-in-Ok.ensures)

pub returns-in-Err : goal.returns-in-Err
returns-in-Err c = λ limit. passes (with_pick c.args.query.now) _ c.in-Err.fault c.in-Err.ensures
