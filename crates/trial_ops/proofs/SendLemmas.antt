-- A drive in memory may go to another thread with its trail.
use denote.Param.Send.{IsSend, sendable}
use Rattle.std.proofs.Crossing.{crosses}
use Rattle.std.proofs.MapsCrossing.{crosses as maps_crosses}
use Rattle.ghost_note.proofs.note.Note.TheSendSync.{the_send as note_send}
use Rattle.drive_memory.specs.contracts.drive.MemDrive as Memory

pub memory_send : IsSend Memory.the_row
memory_send = search (sendable, crosses, maps_crosses, note_send) depth 200 fits 200000
