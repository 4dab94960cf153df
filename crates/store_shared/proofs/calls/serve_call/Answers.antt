use Rattle.std.proofs.Common.{ap, sym}
use Rattle.desk_base.specs.Answering.{Task}
use Rattle.desk_base.specs.declared.call.Call.{Call}
use Rattle.desk_base.specs.declared.call.Call.TheVariants.{ListBuckets}
use Rattle.store_shared.proofs.ServeLemmas.{asked_pays}
use Rattle.store_shared.proofs.calls.serve_call.Goals as goal

pub serve-requires-clause-pays : goal.serve-requires-clause-pays
serve-requires-clause-pays g c =
    let at_now : Call → Task = (λ call. record { call = call; now = c.args.now }) in
    asked_pays _ _ c.new-op.result (at_now ListBuckets) (at_now c.args.call.now) (ap at_now (sym c.in-ListBuckets.is)) c.new-op.ensures.task
