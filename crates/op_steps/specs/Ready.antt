-- When the reply of a call may be told.
use Rattle.std.specs.Prelude.{◌≡◌, [], All}
use Rattle.call_types.specs.declared.reply.Reply.{Reply}
use Rattle.desk_base.specs.Answering.{Task}
use Rattle.drive_base.specs.declared.plan.SetPlan.{SetPlan}
use Rattle.receipts.specs.Events.{IsUntold, Log, cuts_of}
use Rattle.receipts.specs.Owes.{OwesReply}

-- a reply is owed, and nothing was told or failed
pub record IsReady (set : SetPlan) (task : Task) (reply : Reply) (log : Log) : Type 0 where
  pub untold : All IsUntold log
  pub uncut : cuts_of log ≡ []
  pub owed : OwesReply set task reply log
