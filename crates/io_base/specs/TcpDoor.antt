-- What a `TcpDoor` does at an `accept`.
use Rattle.std.specs.Prelude.{Bool, true, false, Option, None, Some}
use Rattle.std.specs.declared.io.ErrorKind.{ErrorKind}
use Rattle.std.specs.declared.io.ErrorKind.TheVariants as kind
use Rattle.io_base.specs.declared.tcp_door.Step.{Step}
use Rattle.io_base.specs.declared.tcp_door.Step.TheVariants as step
use Rattle.io_base.specs.declared.tcp_door.TcpDoor.{TcpDoor}

-- there is something
abbrev pub is_there : {X : Type 0} → Option X → Bool
is_there None = false
is_there (Some _) = true

-- whether the door listens at all: it is no closed one
abbrev pub door_listens : {R : Type 0} → TcpDoor R → Bool
door_listens d = is_there d.listener

-- what follows where an `accept` failed: what can't get better ends the door, a peer that is gone and a call that was
-- interrupted cost no time, and all else is rested for
abbrev pub accept_step : ErrorKind → Step
accept_step kind.InvalidInput = step.End
accept_step kind.Unsupported = step.End
accept_step kind.PermissionDenied = step.End
accept_step kind.Interrupted = step.Retry
accept_step kind.ConnectionAborted = step.Retry
accept_step kind.ConnectionReset = step.Retry
accept_step _ = step.Rest
