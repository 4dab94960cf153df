-- What a run sends to other threads: ways to drives that are shared, drives in memory and over folders, and doors. Each has notes of what was asked of it,
-- which may go with it.
use denote.RattleType.{RattleType}
use denote.Param.Send.{IsSend, sendable}
use Rattle.std.proofs.Crossing.{crosses}
use Rattle.std.proofs.MapsCrossing.{crosses as maps_crosses}
use Rattle.drive_file.specs.contracts.drive.FileDrive as Folder
use Rattle.drive_file.specs.contracts.shared.SharedDrive as Shared
use Rattle.drive_file.specs.contracts.system.SystemFolder as System
use Rattle.drive_memory.specs.contracts.drive.MemDrive as Memory
use Rattle.ghost_note.proofs.note.Note.TheSendSync.{the_send as note_send}
use Rattle.io_base.specs.contracts.memory_door.MemDoor as MemoryDoor
use Rattle.io_base.specs.contracts.memory_sink.MemSink as MemorySink
use Rattle.io_base.specs.contracts.memory_source.MemSource as MemorySource
use Rattle.io_base.specs.contracts.tcp_door.TcpDoor as Door

pub shared_send : (R D : RattleType) → IsSend R → IsSend D → IsSend (Shared.the_row R D)
shared_send R D r d = search (sendable, crosses, maps_crosses, note_send) depth 200 fits 200000

pub memory_send : IsSend Memory.the_row
memory_send = search (sendable, crosses, maps_crosses, note_send) depth 200 fits 200000

pub system_send : (R : RattleType) → IsSend R → IsSend (System.the_row R)
system_send R r = search (sendable, crosses, maps_crosses, note_send) depth 200 fits 200000

pub folder_send : (F : RattleType) → IsSend F → IsSend (Folder.the_row F)
folder_send F f = search (sendable, crosses, maps_crosses, note_send) depth 200 fits 200000

pub door_send : (R : RattleType) → IsSend R → IsSend (Door.the_row R)
door_send R r = search (sendable, crosses, maps_crosses, note_send) depth 200 fits 200000

source_send : IsSend MemorySource.the_row
source_send = search (sendable, crosses, maps_crosses, note_send) depth 200 fits 200000

sink_send : IsSend MemorySink.the_row
sink_send = search (sendable, crosses, maps_crosses, note_send) depth 200 fits 200000

pub memory_door_send : IsSend MemoryDoor.the_row
memory_door_send = search (sendable, crosses, maps_crosses, source_send, sink_send) depth 200 fits 200000
