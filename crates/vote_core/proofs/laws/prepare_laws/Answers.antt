use Rattle.vote_core.proofs.Forwarding.{forward_keeps}
use Rattle.vote_core.proofs.Preparing.{prepare_keeps}
use Rattle.vote_core.proofs.laws.prepare_laws.Goals as goal

pub returns-clause-own : goal.returns-clause-own
returns-clause-own c = prepare_keeps

pub returns-clause-forward : goal.returns-clause-forward
returns-clause-forward c = forward_keeps
