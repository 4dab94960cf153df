use Rattle.std.proofs.Common.{ℕ, List, subst}
use Rattle.http_wire.specs.Heads.{IsJudged}
use Rattle.http_wire.proofs.judging.judge_first.Goals as goal

pub returns : goal.returns
returns c = subst (λ (t : List ℕ). IsJudged t c.judge.new.headers c.judge.result) c.first_bytes.ensures.first c.judge.ensures
