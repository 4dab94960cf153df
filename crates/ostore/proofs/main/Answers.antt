use denote.Param.Send.{arg_send, param_send, sendable}
use Rattle.std.proofs.Common.{sym}
use Rattle.std.proofs.Crossing.{crosses}
use Rattle.ostore.proofs.FitsLemmas.{fits_words}
use Rattle.ostore.proofs.ServingLemmas.{says_of}
use Rattle.ostore.proofs.WaySendLemmas.{folder_send, memory_send, system_send}
use Rattle.ostore.proofs.main.Goals as goal

pub run_over-requires-clause-fits : goal.run_over-requires-clause-fits
run_over-requires-clause-fits g c κs =
    fits_words c.as_slice-words.result.now c.in-Ok.field-0.plan c.in-Ok-memory_rig.rig
    (says_of c.in-Ok.field-0.words.items c.as_slice-words.result.now c.in-Ok.field-0.plan (sym c.as_slice-words.ensures.value) c.in-Ok.ensures)
    c.in-Ok-memory_rig.ensures.rig

pub run_over-requires-in-Ok-folder_rig-clause-fits : goal.run_over-requires-in-Ok-folder_rig-clause-fits
run_over-requires-in-Ok-folder_rig-clause-fits g c κs =
    fits_words c.as_slice-words.result.now c.in-Ok.field-0.plan c.in-Ok-folder_rig.rig
    (says_of c.in-Ok.field-0.words.items c.as_slice-words.result.now c.in-Ok.field-0.plan (sym c.as_slice-words.ensures.value) c.in-Ok.ensures)
    c.in-Ok-folder_rig.ensures.rig

pub run_over-requires-send-D : goal.run_over-requires-send-D
run_over-requires-send-D g c κs = search (param_send, arg_send, sendable, crosses, memory_send) depth 200 fits 200000

pub run_over-requires-in-Ok-folder_rig-send-D : goal.run_over-requires-in-Ok-folder_rig-send-D
run_over-requires-in-Ok-folder_rig-send-D g c κs = search (param_send, arg_send, sendable, crosses, folder_send, system_send) depth 200 fits 200000
