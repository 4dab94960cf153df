use denote.Param.Send.{arg_send, param_send, sendable}
use Rattle.std.proofs.Crossing.{crosses}
use Rattle.ostore.proofs.WaySendLemmas.{memory_door_send, memory_send, shared_send}
use Rattle.ostore.proofs.tests.serving.doors_are_served_until_they_fail_or_are_over.Goals as goal

pub serve-ended-requires-send-D : goal.serve-ended-requires-send-D
serve-ended-requires-send-D g c κs = search (param_send, arg_send, sendable, crosses, memory_send, shared_send) depth 200 fits 200000

pub serve-ended-requires-send-O : goal.serve-ended-requires-send-O
serve-ended-requires-send-O g c κs = search (param_send, arg_send, sendable, crosses, memory_door_send) depth 200 fits 200000
