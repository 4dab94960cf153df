use Rattle.std.proofs.Common.{◌∙◌, refl, subst, sym}
use Rattle.drive_base.specs.declared.plan.SetPlan.{SetPlan}
use Rattle.get_read.specs.Readers.{Begins}
use Rattle.object_ops.proofs.ReadingPlan.{empty_so, reads_so, wanted_so}
use Rattle.object_ops.proofs.reading.planned_of.Goals as goal

pub returns-then-span-eq0 : goal.returns-then-span-eq0
returns-then-span-eq0 c = empty_so c.args.set.now c.args.version c.args.id c.args.kind.now c.in-Get.ask c.args.matches.now _ c.in-Get.is c.in-Object.is
    (sym c.meets.ensures ∙ c.if-not-meets.false) c.in-Ok.span
    (wanted_so c.in-Object.data_id c.in-Object.print c.in-Ok.span) c.in-Ok.ensures c.if-span-eq0.true (refl, refl, refl)

pub returns-in-Ok-new : goal.returns-in-Ok-new
returns-in-Ok-new c =
    let begins = subst (λ (s : SetPlan). Begins s c.in-Object.print c.in-Object.data_id c.in-Ok.span c.in-Ok-new.reader) c.data_plan-body_plan.ensures
    c.in-Ok-new.ensures in
    reads_so c.args.set.now c.args.version c.args.id c.args.kind.now c.in-Get.ask c.args.matches.now _ c.in-Get.is c.in-Object.is (sym c.meets.ensures ∙ c.if-not-meets.false)
    c.in-Object.data_id c.in-Object.print c.in-Ok.span c.in-Ok-new.reader c.in-Ok.ensures c.if-span-eq0.false begins
    (begins.id_is, begins.print_is, begins.reach_is)
