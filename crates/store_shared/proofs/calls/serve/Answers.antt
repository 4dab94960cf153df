use Rattle.std.proofs.Common.{[], refl}
use Rattle.std.specs.Prelude.{Err}
use Rattle.call_types.specs.declared.feed.Cut.TheVariants.{NoMemory}
use Rattle.desk_base.specs.Answering.{Task}
use Rattle.op_steps.specs.Store.{FeedSeen, teller_of}
use Rattle.store_shared.proofs.ServeLemmas.{done_serves, none_told, told_done}
use Rattle.store_shared.proofs.WireLemmas.{WiresRan, wires}
use Rattle.store_shared.proofs.calls.serve.Goals as goal

pub returns-in-Err-clause-serves : goal.returns-in-Err-clause-serves
returns-in-Err-clause-serves g c =
    let task : Task = record { call = c.args.call.now; now = c.args.now } in
    let set = g.S.OpDesk.set (g.S.OpDesk.holds c.args.pass.now) in
    let feed : FeedSeen = record { view = g.F.Feed.seen c.args.feed.now; faults = g.F.Feed.faults c.args.feed.now } in
    let teller = teller_of c.args.teller.now (g.T.Teller.faults c.args.teller.now) in
    let alone = none_told set task feed teller.faults in
    done_serves g.T.Teller.takes g.T.Teller.breaks set task (Err NoMemory)
    (λ log claim later. WiresRan g.T.Teller.takes g.T.Teller.breaks log (wires feed teller) (wires feed teller)) feed feed teller teller
    (λ log claim later ran. ran)
    (λ body tale. g.S.OpDesk.answers c.args.desk.now task c.args.pass.now c.args.pass.now body tale (Err NoMemory))
    (told_done set task (Err NoMemory) (λ log claim later. WiresRan g.T.Teller.takes g.T.Teller.breaks log (wires feed teller) (wires feed teller)) [] alone refl)
    (c.told_alone.ensures task c.args.pass.now (Err NoMemory) [] alone)
