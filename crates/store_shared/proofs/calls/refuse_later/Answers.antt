use Rattle.std.proofs.Common.{[], ◌∷◌}
use Rattle.call_types.specs.declared.refusal.Refusal.TheVariants.{NotImplemented}
use Rattle.call_types.specs.declared.reply.Reply.TheVariants.{Refused}
use Rattle.desk_base.specs.Answering.{Task}
use Rattle.desk_base.specs.Telling.Telling.{Head as TheHead}
use Rattle.receipts.specs.Events.Event.{Told}
use Rattle.op_steps.specs.Store.{FeedSeen, teller_of}
use Rattle.store_shared.specs.Answers.{cut_by}
use Rattle.store_shared.proofs.LaterLemmas.{later_told, later_wired}
use Rattle.store_shared.proofs.ServeLemmas.{done_cause, done_serves, told_done}
use Rattle.store_shared.proofs.WireLemmas.{WiresRan, wires}
use Rattle.store_shared.proofs.calls.refuse_later.Goals as goal

pub returns-clause-serves : goal.returns-clause-serves
returns-clause-serves g c =
    let task : Task = record { call = c.args.call.now; now = c.args.now } in
    let set = g.S.OpDesk.set (g.S.OpDesk.holds c.args.pass.now) in
    let result = c.tell_later.result in
    let feed : FeedSeen = record { view = g.F.Feed.seen c.args.feed.now; faults = g.F.Feed.faults c.args.feed.now } in
    let old = teller_of c.args.teller.now (g.T.Teller.faults c.args.teller.now) in
    let new = teller_of c.tell_later.new.teller (g.T.Teller.faults c.tell_later.new.teller) in
    let log = Told (TheHead (Refused NotImplemented)) (cut_by result) ∷ [] in
    let alone = later_told g.T.Teller.takes g.T.Teller.breaks set task result feed old new c.requires.later c.tell_later.ensures in
    done_serves g.T.Teller.takes g.T.Teller.breaks set task result
    (λ log claim later. WiresRan g.T.Teller.takes g.T.Teller.breaks log (wires feed old) (wires feed new)) feed feed old new
    (λ log claim later ran. ran)
    (λ body tale. g.S.OpDesk.answers c.args.desk.now task c.args.pass.now c.args.pass.now body tale result)
    (told_done set task result (λ log claim later. WiresRan g.T.Teller.takes g.T.Teller.breaks log (wires feed old) (wires feed new)) log alone
    (later_wired g.T.Teller.takes g.T.Teller.breaks result feed old new c.tell_later.ensures))
    (c.told_alone.ensures task c.args.pass.now result log alone)

pub returns-clause-cause : goal.returns-clause-cause
returns-clause-cause g c =
    let task : Task = record { call = c.args.call.now; now = c.args.now } in
    let set = g.S.OpDesk.set (g.S.OpDesk.holds c.args.pass.now) in
    let result = c.tell_later.result in
    let feed : FeedSeen = record { view = g.F.Feed.seen c.args.feed.now; faults = g.F.Feed.faults c.args.feed.now } in
    let old = teller_of c.args.teller.now (g.T.Teller.faults c.args.teller.now) in
    let new = teller_of c.tell_later.new.teller (g.T.Teller.faults c.tell_later.new.teller) in
    let log = Told (TheHead (Refused NotImplemented)) (cut_by result) ∷ [] in
    let alone = later_told g.T.Teller.takes g.T.Teller.breaks set task result feed old new c.requires.later c.tell_later.ensures in
    done_cause g.T.Teller.takes g.T.Teller.breaks set task result
    (λ log claim later. WiresRan g.T.Teller.takes g.T.Teller.breaks log (wires feed old) (wires feed new)) feed feed old new
    (λ log claim later ran. ran) c.requires.feed
    (told_done set task result (λ log claim later. WiresRan g.T.Teller.takes g.T.Teller.breaks log (wires feed old) (wires feed new)) log alone
    (later_wired g.T.Teller.takes g.T.Teller.breaks result feed old new c.tell_later.ensures))
