use denote.Param.Send.{arg_send, param_send}
use Rattle.trial_drives.proofs.SendLemmas.{memory_send}
use Rattle.trial_drives.proofs.memory_rows.fresh.Goals as goal

pub sent-requires-send-T : goal.sent-requires-send-T
sent-requires-send-T c κs = search (param_send, arg_send, memory_send) depth 10
