-- What stays untold, and what stays paid.
use Rattle.std.proofs.Common.{[], ◌∷◌, ◌++◌, All, Option}
use Rattle.std.proofs.lemmas.List.Elements.{All-append}
use Rattle.call_types.specs.declared.feed.Cut.{Cut}
use Rattle.desk_base.specs.Answering.{Task}
use Rattle.drive_base.specs.declared.plan.SetPlan.{SetPlan}
use Rattle.receipts.specs.Events.{Event, IsQuiet, IsUntold, Log}
use Rattle.receipts.specs.Paying.{Pays}
use Rattle.receipts.proofs.PayLemmas.{quiet_pays}
use Rattle.object_ops.proofs.ReadingTell.{one_all}

-- a log in which nothing was told goes on so
pub untold_after : (log : Log) (event : Event) → All IsUntold log → IsUntold event → All IsUntold (log ++ event ∷ [])
untold_after log event none one = All-append IsUntold log (event ∷ []) none (one_all IsUntold event one)

-- what is paid stays paid over a quiet event
pub pays_on : (set : SetPlan) (task : Task) (cut : Option Cut) (log : Log) (event : Event) → IsQuiet event → Pays set task cut log
    → Pays set task cut (log ++ event ∷ [])
pays_on set task cut log event quiet pays = quiet_pays set task cut log (event ∷ []) (one_all IsQuiet event quiet) pays
