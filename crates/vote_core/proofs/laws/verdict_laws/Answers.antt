use Rattle.vote_core.proofs.Judging.{settled_value, pending_found}
use Rattle.vote_core.proofs.VerdictLemmas.{one_verdict}
use Rattle.vote_core.proofs.laws.verdict_laws.Goals as goal

pub returns-clause-one : goal.returns-clause-one
returns-clause-one c = one_verdict

pub returns-clause-settled : goal.returns-clause-settled
returns-clause-settled c = λ w d last change content lanes rows lane quorums holds shown rule.
    settled_value w d last change content lanes rows lane rule.2.0 (record { quorums = quorums; holds = holds; shown = shown; enough = rule.0 }) rule.1 rule.2.1 rule.2.2

pub returns-clause-pending : goal.returns-clause-pending
returns-clause-pending c = λ w d last change content lanes rows base_lane lane k u quorums holds shown rule.
    pending_found w d last change content lanes rows base_lane lane (record { quorums = quorums; holds = holds; shown = shown; enough = rule.0 }) rule.1 rule.2 rule.3
