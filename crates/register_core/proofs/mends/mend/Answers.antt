use Rattle.std.proofs.Common.{refl, arith}
use Rattle.register_core.proofs.KeepLemmas.{mend_keeps, mends, wrote_as}
use Rattle.register_core.proofs.mends.mend.Goals as goal

pub returns-clause-outcome : goal.returns-clause-outcome
returns-clause-outcome g c =
    let D : Type 0 = g.row.D.Denot in
    let draft = c.args.draft.now in
    let wrote = wrote_as {D = D} g.D.Drive refl c.as_str.ensures.value c.as_slice.ensures.value c.all_good-all.ensures
    c.write_each-whys.ensures.wrote in
    mends {D = D} g.D.Drive draft c.args.out c.args.term c.args.count.now c.write_each-whys.new.count
    (record { lanes = c.count_written.result; whys = c.write_each-whys.result }) c.args.lanes.now c.write_each-whys.new.lanes c.requires.drives wrote c.count_written.ensures

pub returns-clause-keeps : goal.returns-clause-keeps
returns-clause-keeps g c base unknown recorded ends tell unused are =
    let D : Type 0 = g.row.D.Denot in
    let draft = c.args.draft.now in
    let wrote = wrote_as {D = D} g.D.Drive refl c.as_str.ensures.value c.as_slice.ensures.value c.all_good-all.ensures
    c.write_each-whys.ensures.wrote in
    mend_keeps {D = D} g.D.Drive c.place_laws.ensures.left c.mend_law.ensures c.calm_laws.ensures.mend
    c.number_laws.ensures.mend draft c.args.out unknown c.args.term c.args.count.now c.write_each-whys.new.count base
    (record { lanes = c.count_written.result; whys = c.write_each-whys.result }) c.args.lanes.now c.write_each-whys.new.lanes recorded
    (omega (arith, wrote.few, c.requires.room, c.requires.drives)) ends wrote tell unused are
