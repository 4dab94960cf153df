-- A drive in memory may go to another thread with its trail, and so may a way to a drive that is shared.
use denote.RattleType.{RattleType}
use denote.Param.Send.{IsSend, sendable}
use Rattle.std.proofs.Crossing.{crosses}
use Rattle.std.proofs.MapsCrossing.{crosses as maps_crosses}
use Rattle.ghost_note.proofs.note.Note.TheSendSync.{the_send as note_send}
use Rattle.drive_file.specs.contracts.shared.SharedDrive as Shared
use Rattle.drive_memory.specs.contracts.drive.MemDrive as Memory

pub memory_send : IsSend Memory.the_row
memory_send = search (sendable, crosses, maps_crosses, note_send) depth 200 fits 200000

pub shared_send : (R D : RattleType) → IsSend R → IsSend D → IsSend (Shared.the_row R D)
shared_send R D r d = search (sendable, crosses, note_send) depth 200 fits 200000
