use Rattle.std.proofs.Common.{◌∙◌, refl, subst, sym}
use Rattle.io_base.specs.Spawner.{spawner_faults}
use Rattle.store_shared.specs.SharedPasses.{drives_of}
use Rattle.ostore.specs.Sharing.{AreShared}
use Rattle.store_shared.proofs.OrderLemmas.{whole_slice}
use Rattle.ostore.proofs.ServingLemmas.{doors_come_back, rows_to, served_end, shares_back, shares_disks, unserved_end, without_error}
use Rattle.ostore.proofs.serving.serve_store.Goals as goal

pub returns-then-is_err-clause-end : goal.returns-then-is_err-clause-end
returns-then-is_err-clause-end g c =
    unserved_end g.row.R.Denot g.row.G.Denot g.D.Drive g.D.Share.root g.A.Audit.entries g.A.Audit.count g.O.Door g.O.In.Source g.O.Out.Sink
    (g.C.Clock.moment c.args.clock.now) c.args.clock.now c.args.parts _ c.args.doors (spawner_faults c.args.spawner.now) c.unserved.result
    (shares_disks g.D.Drive g.D.Share.root c.args.parts _ c.as_mut_slice.result.now c.share_each.new.disks refl refl c.as_mut_slice.ensures.value
    (whole_slice c.share_each.new.disks c.args.parts.disks.items c.args.parts.disks.len (c.share_each.ensures.each.long ∙ c.as_mut_slice.ensures.len))
    c.share_each.ensures.each)
    c.unserved.ensures.parts c.unserved.ensures.status c.unserved.ensures.starved c.unserved.ensures.doors

pub returns-in_default-clause-end : goal.returns-in_default-clause-end
returns-in_default-clause-end g c =
    unserved_end g.row.R.Denot g.row.G.Denot g.D.Drive g.D.Share.root g.A.Audit.entries g.A.Audit.count g.O.Door g.O.In.Source g.O.Out.Sink
    (g.C.Clock.moment c.args.clock.now) c.args.clock.now c.args.parts _ c.args.doors (spawner_faults c.args.spawner.now) c.unserved-in_default.result
    (shares_disks g.D.Drive g.D.Share.root c.args.parts _ c.as_mut_slice.result.now c.share_each.new.disks refl refl c.as_mut_slice.ensures.value
    (whole_slice c.share_each.new.disks c.args.parts.disks.items c.args.parts.disks.len (c.share_each.ensures.each.long ∙ c.as_mut_slice.ensures.len))
    c.share_each.ensures.each)
    c.unserved-in_default.ensures.parts c.unserved-in_default.ensures.status c.unserved-in_default.ensures.starved c.unserved-in_default.ensures.doors

pub serve_doors-end-requires-clause-rows : goal.serve_doors-end-requires-clause-rows
serve_doors-end-requires-clause-rows g c κs within =
    rows_to g.D.Drive g.D.Share.root c.as_slice.result.now (drives_of c.in-Ok.pass) c.in-Some.rows.items (c.as_slice.ensures.value ∙ sym c.in-Ok.ensures.ok.drives)
    c.in-Some.ensures.rows

pub returns-in-Ok-clause-end : goal.returns-in-Ok-clause-end
returns-in-Ok-clause-end g c =
    served_end g.row.R.Denot g.row.G.Denot g.D.Drive g.D.Share.root g.A.Audit.entries g.A.Audit.count g.O.Door g.O.In.Source g.O.Out.Sink
    (g.C.Clock.moment c.args.clock.now) c.args.clock.now c.args.parts _ c.args.doors.items (spawner_faults c.args.spawner.now)
    (spawner_faults c.serve_doors-end.new.spawner) c.close_desk.result
    (shares_disks g.D.Drive g.D.Share.root c.args.parts _ c.as_mut_slice.result.now c.share_each.new.disks refl refl c.as_mut_slice.ensures.value
    (whole_slice c.share_each.new.disks c.args.parts.disks.items c.args.parts.disks.len (c.share_each.ensures.each.long ∙ c.as_mut_slice.ensures.len))
    c.share_each.ensures.each)
    (subst (λ l. AreShared g.D.Drive l)
    (sym (whole_slice c.share_each.new.disks c.args.parts.disks.items c.args.parts.disks.len (c.share_each.ensures.each.long ∙ c.as_mut_slice.ensures.len)))
    (without_error c.share_each.result c.if-is_err.ensures.value c.share_each.ensures.all))
    (record {
      desk = c.in-Ok.desk;
      first = c.in-Ok.pass;
      made = c.in-Ok.ensures.ok;
      whole = c.serve_doors-end.result.whole;
      status = c.serve_doors-end.result.status;
      starved = c.serve_doors-end.result.starved;
      starved_is = c.close_desk.ensures.starved;
      served = doors_come_back c.in-Ok.desk g.D.Drive g.D.Share.root g.A.Audit.entries g.A.Audit.count g.O.Door g.O.In.Source g.O.Out.Sink
          (g.C.Clock.moment c.args.clock.now) c.args.clock.now c.in-Ok.pass c.serve_doors-end.result.whole c.args.doors.items c.serve_doors-end.result.doors c.close_desk.result.doors
          c.serve_doors-end.result.status c.serve_doors-end.result.starved (spawner_faults c.args.spawner.now) (spawner_faults c.serve_doors-end.new.spawner) (sym c.close_desk.ensures.doors)
          c.serve_doors-end.ensures.served;
      closed = c.close_desk.ensures.closed;
    })

pub returns-in-Err-clause-end : goal.returns-in-Err-clause-end
returns-in-Err-clause-end g c =
    unserved_end g.row.R.Denot g.row.G.Denot g.D.Drive g.D.Share.root g.A.Audit.entries g.A.Audit.count g.O.Door g.O.In.Source g.O.Out.Sink
    (g.C.Clock.moment c.args.clock.now) c.args.clock.now c.args.parts c.in-Err.parts c.args.doors (spawner_faults c.args.spawner.now) c.unserved-in-Err.result
    (shares_back g.D.Drive g.D.Share.root c.args.parts _ c.in-Err.parts
    (shares_disks g.D.Drive g.D.Share.root c.args.parts _ c.as_mut_slice.result.now c.share_each.new.disks refl refl c.as_mut_slice.ensures.value
    (whole_slice c.share_each.new.disks c.args.parts.disks.items c.args.parts.disks.len (c.share_each.ensures.each.long ∙ c.as_mut_slice.ensures.len))
    c.share_each.ensures.each)
    c.in-Err.ensures.err.0)
    c.unserved-in-Err.ensures.parts c.unserved-in-Err.ensures.status c.unserved-in-Err.ensures.starved c.unserved-in-Err.ensures.doors
