-- A work may go to another thread where its runtime, its pass and its door may, and its desk and its clock may be shared.
use denote.RattleType.{RattleType}
use denote.Ref.{NamedLft}
use denote.Param.Send.{IsSend, IsSync, sendable}
use denote.Param.SendFields.{declared_send}
use Rattle.std.proofs.Crossing.{crosses}
use Rattle.desk_base.specs.declared.desk.Desk.{Ghosts as DeskGhosts}
use Rattle.io_base.specs.declared.clock.Clock.{Ghosts as ClockGhosts}
use Rattle.io_base.specs.declared.door.Door.{Ghosts as DoorGhosts}
use Rattle.io_base.specs.declared.sink.Sink.{Ghosts as SinkGhosts}
use Rattle.io_base.specs.declared.source.Source.{Ghosts as SourceGhosts}
use Rattle.serve_loop.specs.contracts.works.ServeWork.{the_row, the_type}

pub work_send : (ℓ : NamedLft) (R K O C P X S T : RattleType) (desk : DeskGhosts K.Denot P.Denot X.Denot) (door : DoorGhosts O.Denot S.Denot T.Denot)
    (source : SourceGhosts S.Denot) (sink : SinkGhosts T.Denot) (clock : ClockGhosts C.Denot)
    → IsSend R → IsSync K → IsSend O → IsSync C → IsSend P → IsSend (the_row ℓ R K O C P X S T desk door source sink clock)
work_send ℓ R K O C P X S T desk door source sink clock r k o c p =
    declared_send (the_type ℓ R K O C P X S T desk door source sink clock)
    (search (sendable, crosses), (search (sendable, crosses), (search (sendable, crosses), (search (sendable, crosses), (search (sendable, crosses), (search (sendable, crosses), (search (sendable, crosses), (search (sendable, crosses), (search (sendable, crosses), (search (sendable, crosses), tt))))))))))
