-- The passes of a shared desk may go to other threads, and the desk may be shared by them.
use denote.RattleType.{RattleType}
use denote.Param.Send.{IsSend, IsSync, sendable}
use denote.Param.SendFields.{declared_send, declared_sync}
use Rattle.std.proofs.Crossing.{crosses}
use Rattle.atomic_table.proofs.shared.Seat.TheSendSync.{the_send as seat_send}
use Rattle.atomic_table.proofs.send_lease.SendLease.TheSendSync.{the_sync as lease_sync}
use Rattle.atomic_table.proofs.shared.Shared.TheSendSync.{the_sync as shared_sync}
use Rattle.audit_trail.specs.declared.audit.Audit.{Ghosts as AuditGhosts}
use Rattle.drive_base.specs.declared.drive.Drive.{Ghosts}
use Rattle.slot_core.specs.contracts.slot.Slot as Slot
use Rattle.turn_lock.specs.contracts.pass.Pass as Pass
use Rattle.store_shared.specs.contracts.shared.TurnedSlot as Turned
use Rattle.store_shared.specs.contracts.shared.SharedDesk as Desk
use Rattle.store_shared.specs.contracts.shared.SharedPass as Way

pub slot_send : (D A : RattleType) → IsSend D → IsSend A → IsSend (Slot.the_row D A)
slot_send D A d a = search (sendable, crosses) depth 200 fits 200000

pub turned_send : (D A : RattleType) → IsSend D → IsSend A → IsSend (Turned.the_row D A)
turned_send D A d a = search (sendable, crosses, slot_send) depth 200 fits 200000

pub pass_send : (T : RattleType) → IsSend T → IsSend (Pass.the_row T)
pass_send T t = search (sendable, crosses, seat_send) depth 200 fits 200000

pub way_send : (D A : RattleType) → IsSend D → IsSend A → IsSend (Way.the_row D A)
way_send D A d a = search (sendable, crosses, pass_send, turned_send) depth 200 fits 200000

pub desk_sync : (R D A G : RattleType) (drive : Ghosts D.Denot) (audit : AuditGhosts A.Denot) → IsSync R → IsSend D → IsSend A → IsSync G
    → IsSync (Desk.the_row R D A G drive audit)
desk_sync R D A G drive audit r d a g = declared_sync (Desk.the_type R D A G drive audit) (
  search (sendable, crosses) depth 200 fits 200000,
  (
    search (sendable, crosses) depth 200 fits 200000,
    (
      search (sendable, crosses, turned_send, shared_sync, lease_sync) depth 200 fits 200000,
      (
        search (sendable, crosses) depth 200 fits 200000,
        (
          search (sendable, crosses, slot_send) depth 200 fits 200000,
          tt,
        ),
      ),
    ),
  ),
)
