use Rattle.std.proofs.lemmas.Bool.{iff_false}
use Rattle.http_wire.proofs.LimitLemmas.{never_in_front, none_if_never}
use Rattle.http_wire.proofs.judging.judge_refused.Goals as goal

pub returns-then-bytes-lt-MOST_BYTES : goal.returns-then-bytes-lt-MOST_BYTES
returns-then-bytes-lt-MOST_BYTES c = record {
  never = never_in_front c.args.bytes.now c.if-bytes-lt-MOST_BYTES.true c.requires.never;
  lines = iff_false c.has_line_65.ensures c.if-has_line_65.false;
}

pub judge_full-requires-clause-none : goal.judge_full-requires-clause-none
judge_full-requires-clause-none c = none_if_never c.args.bytes.now c.requires.never
