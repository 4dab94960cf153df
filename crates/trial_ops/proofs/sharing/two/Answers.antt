use denote.Param.Send.{arg_send, param_send}
use Rattle.trial_ops.proofs.SendLemmas.{memory_send}
use Rattle.trial_ops.proofs.sharing.two.Goals as goal

pub crosses-requires-send-D : goal.crosses-requires-send-D
crosses-requires-send-D g c κs within = search (param_send, arg_send, memory_send) depth 200 fits 200000
