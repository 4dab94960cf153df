use Rattle.std.proofs.Common.{◌≡◌, ◌∙◌, sym}
use Rattle.store_shared.specs.SharedPasses.{set_held, shared_holds}
use Rattle.store_shared.proofs.SharedLemmas.{among_any, among_plan}
use Rattle.store_shared.proofs.shared.SharedDesk.finish.Goals as goal

pub finish_on-requires-clause-fits : goal.finish_on-requires-clause-fits
finish_on-requires-clause-fits g c =
    record { set_is = c.requires.set ∙ c.requires.fits.set; count = c.args.pass.now.count; locks = c.requires.fits.locks }

pub finish_on-requires-clause-feed : goal.finish_on-requires-clause-feed
finish_on-requires-clause-feed g c = record { stated = sym c.requires.stated; given = sym c.requires.taken }

pub returns-clause-done : goal.returns-clause-done
returns-clause-done g c = λ slot below holds.
    let x = c.finish_on.ensures.done slot holds in
    let same : g.O.Op.set c.args.op.now ≡ set_held (shared_holds c.args.pass.now) = c.requires.set in
    record {
      slot = slot;
      in_store = below;
      left = x.left;
      log = x.log;
      feed = _;
      feed_after = _;
      owed = x.owed;
      ran = among_plan g.D.Drive g.A.Audit.entries g.A.Audit.count (g.O.Op.set c.args.op.now) (set_held (shared_holds c.args.pass.now)) same x.log _ _
          (among_any g.D.Drive g.A.Audit.entries g.A.Audit.count _ _ (g.O.Op.set c.args.op.now) x.log _ _ x.ran);
      lets_go = x.lets_go;
      notes = x.notes;
    }
