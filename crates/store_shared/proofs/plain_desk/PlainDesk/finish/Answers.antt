use Rattle.std.proofs.Common.{◌∙◌, ap, subst, sym}
use Rattle.drive_base.specs.View.{views}
use Rattle.drive_base.specs.declared.plan.SetPlan.{SetPlan}
use Rattle.op_steps.specs.Going.{CallRan}
use Rattle.op_steps.specs.Store.{slots_seen}
use Rattle.store_shared.specs.Passes.{SlotsFit, disks_of, set_of, slots_of}
use Rattle.store_shared.proofs.PlainLemmas.{alone_any}
use Rattle.store_shared.proofs.OrderLemmas.{fit_count, fit_index, fit_set, slots_fit}
use Rattle.store_shared.proofs.plain_desk.PlainDesk.finish.Goals as goal

pub finish_on-requires-clause-fits : goal.finish_on-requires-clause-fits
finish_on-requires-clause-fits g c =
    let pass = c.args.pass.now in
    subst (λ plan. SlotsFit plan (slots_seen g.A.Audit.entries g.A.Audit.count (slots_of pass))) (sym c.requires.set)
    (slots_fit g.A.Audit.entries g.A.Audit.count (set_of pass) (slots_of pass) pass.count pass.index pass.of_set)

pub finish_on-requires-clause-disks : goal.finish_on-requires-clause-disks
finish_on-requires-clause-disks g c = c.args.pass.now.drives ∙ ap (λ s. s.drives) (sym c.requires.set)

pub finish_on-requires-clause-feed : goal.finish_on-requires-clause-feed
finish_on-requires-clause-feed g c = record { stated = sym c.requires.stated; given = sym c.requires.taken }

pub invariant_of-pass-clause-count : goal.invariant_of-pass-clause-count
invariant_of-pass-clause-count g c =
    fit_count g.A.Audit.entries g.A.Audit.count (g.O.Op.set c.args.op.now) c.finish_on.new.slots.items c.finish_on.ensures.fits

pub invariant_of-pass-clause-index : goal.invariant_of-pass-clause-index
invariant_of-pass-clause-index g c =
    fit_index g.A.Audit.entries g.A.Audit.count (g.O.Op.set c.args.op.now) c.finish_on.new.slots.items c.finish_on.ensures.fits

pub invariant_of-pass-clause-of_set : goal.invariant_of-pass-clause-of_set
invariant_of-pass-clause-of_set g c = λ k d inside.
    fit_set g.A.Audit.entries g.A.Audit.count (g.O.Op.set c.args.op.now) c.finish_on.new.slots.items c.finish_on.ensures.fits k d inside ∙ c.requires.set

pub invariant_of-pass-clause-drives : goal.invariant_of-pass-clause-drives
invariant_of-pass-clause-drives g c = c.finish_on.ensures.disks ∙ c.args.pass.now.drives

pub returns-clause-done : goal.returns-clause-done
returns-clause-done g c = λ slot below holds.
    let x = c.finish_on.ensures.done slot holds in
    record {
      log = x.log;
      owed = x.owed;
      ran = subst (λ (plan : SetPlan). CallRan g.D.Drive plan x.log (slots_seen g.A.Audit.entries g.A.Audit.count (slots_of c.args.pass.now))
          (views g.D.Drive (disks_of c.args.pass.now)) (slots_seen g.A.Audit.entries g.A.Audit.count c.finish_on.new.slots.items)
          (views g.D.Drive c.finish_on.new.disks.items)) c.requires.set (record {
            slot = slot;
            in_store = below;
            left = x.left;
            feed = _;
            feed_after = _;
            teller = _;
            teller_after = _;
            ran = alone_any g.D.Drive _ _ (g.O.Op.set c.args.op.now) x.log _ _ x.ran;
            lets_go = x.lets_go;
          });
      notes = x.notes;
    }
