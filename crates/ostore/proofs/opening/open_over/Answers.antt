use Rattle.std.proofs.Common.{refl, arith}
use Rattle.ostore.proofs.ShutLemmas.{few_back, shop_of, shut_of}
use Rattle.ostore.proofs.opening.open_over.Goals as goal

pub handed_back-requires-clause-few : goal.handed_back-requires-clause-few
handed_back-requires-clause-few g c =
    let few = few_back g.D.Drive g.A.Audit.entries g.A.Audit.count c.args.away.set c.args.parts c.in-Err.back c.requires.count c.in-Err.ensures in
    omega (arith, few)

pub returns-in-Ok : goal.returns-in-Ok
returns-in-Ok g c = λ rig same are.
    shop_of g.D.Drive g.A.Audit.entries g.A.Audit.count c.args.away.set rig c.args.parts same are
    (record { pass = c.in-Ok.pass; away = c.args.away }) c.in-Ok.ensures c.requires.away refl

pub returns-in-Err : goal.returns-in-Err
returns-in-Err g c = λ rig same are.
    shut_of g.D.Drive g.A.Audit.entries g.A.Audit.count c.args.away.set rig c.args.parts same are c.in-Err.back c.handed_back.result
    c.handed_back.ensures c.in-Err.ensures
