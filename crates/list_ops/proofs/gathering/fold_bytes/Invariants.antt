use Rattle.std.proofs.Common.{◌≡◌, ◌<◌, take}
use Rattle.std.specs.Prelude.{fold}
use Rattle.slot_history.specs.Names.{slot_step}
use Rattle.list_ops.proofs.gathering.fold_bytes.Given as goal

-- the slot is that of the bytes so far
abbrev pub invariant-loop-byte : goal.invariant-loop-byte
invariant-loop-byte l = (l.slot ≡ fold slot_step l.fn.slot (take l.byte-index l.bytes)) × (l.slot < 64)
