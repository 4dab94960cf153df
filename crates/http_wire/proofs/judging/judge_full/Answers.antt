use Rattle.std.proofs.Common.{sym, arith, subst, take, drop, inr, take-append-drop, length-take-le}
use Rattle.http_wire.specs.Heads.{HasLine65}
use Rattle.http_wire.proofs.LimitLemmas.{line_65-append, exceeds_line_65, none_in_front}
use Rattle.http_wire.proofs.judging.judge_full.Goals as goal

pub slice_bounds-parse-length : goal.slice_bounds-parse-length
slice_bounds-parse-length c = sym (length-take-le 65535 c.args.bytes.now (omega (arith, c.requires.full)))

pub returns-in-Open : goal.returns-in-Open
returns-in-Open c = inr (record { full = c.requires.full; none = c.requires.none; goes_on = c.in-Open.ensures.1 })

pub unreachable-requires : goal.unreachable-requires
unreachable-requires c =
    none_in_front 65535 c.args.bytes.now c.requires.none c.in-Whole.ensures.1.0 _ c.in-Whole.ensures.1.1.reads

pub unreachable-requires-in-Crowded : goal.unreachable-requires-in-Crowded
unreachable-requires-in-Crowded c =
    let bytes = c.args.bytes.now in
    c.requires.lines (subst HasLine65 (take-append-drop 65535 bytes)
    (line_65-append (take 65535 bytes) (drop 65535 bytes) (exceeds_line_65 (take 65535 bytes) c.in-Crowded.ensures)))
