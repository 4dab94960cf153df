use denote.Param.Send.{arg_send, param_send, sendable}
use Rattle.std.proofs.Crossing.{crosses}
use Rattle.trial_drives.proofs.SendLemmas.{memory_send, shared_send}
use Rattle.trial_drives.proofs.shared_rows.Ways.append_by_two.Goals as goal

pub join-requires-send-F : goal.join-requires-send-F
join-requires-send-F g c κs within = search (param_send, arg_send, sendable, crosses, memory_send, shared_send) depth 200 fits 200000
