use Rattle.std.proofs.Common.{◌≡◌, ◌∙◌, subst, sym, ap}
use Rattle.drive_base.specs.View.{views}
use Rattle.op_steps.specs.Store.{slot_seen}
use Rattle.op_steps.specs.Words.{TurnsSo}
use Rattle.bucket_ops.specs.Lists.{ListStands, list_step}
use Rattle.bucket_ops.specs.declared.list_state.ListState.TheVariants.{Looking, Paging}
use Rattle.bucket_ops.proofs.ListStepLemmas.{are_listed, look_so, names_so}
use Rattle.bucket_ops.proofs.list.ListOpOp.section.Goals as goal

pub returns-in-Paging-clause-turns : goal.returns-in-Paging-clause-turns
returns-in-Paging-clause-turns g c =
    let op = c.args.self.now in
    let work = c.in-Paging.work in
    let list = c.list_names-turn.ensures in
    let was = slot_seen g.A.Audit.entries g.A.Audit.count c.args.slot.now in
    let after = slot_seen g.A.Audit.entries g.A.Audit.count c.list_names-turn.new.self in
    let state_is : op.state ≡ Paging work = sym c.replace.ensures.value ∙ c.in-Paging.is in
    rw c.replace-in-Paging.ensures.after (subst (λ state. TurnsSo g.D.Drive (ListStands op.set op.now state) (ListStands op.set op.now c.after_names-state.result)
    c.list_names-turn.result.stub was after (views g.D.Drive c.args.disks.now) (views g.D.Drive c.args.disks.now)) (sym state_is)
    (names_so g.D.Drive op.set op.now work c.after_names-state.result c.as_str.result.now was after c.list_names-turn.result.answer c.list_names-turn.result.stub
    c.args.disks.now c.names_law.ensures (sym (ap list_step state_is) ∙ c.requires.next) c.as_str.ensures.value
    (record { turns = list.turns; says = list.says; holds = list.holds; lists = list.lists; leaves = list.leaves })
    (are_listed g.D.Drive _ _ c.list_names-turn.result.answer _ _ list.lists) c.after_names-state.ensures.after))

pub returns-in-Looking-clause-turns : goal.returns-in-Looking-clause-turns
returns-in-Looking-clause-turns g c =
    let op = c.args.self.now in
    let work = c.in-Looking.work in
    let wanted = c.in-Looking.wanted in
    let peek = c.peek-turn.ensures in
    let was = slot_seen g.A.Audit.entries g.A.Audit.count c.args.slot.now in
    let after = slot_seen g.A.Audit.entries g.A.Audit.count c.peek-turn.new.self in
    let state_is : op.state ≡ Looking work wanted = sym c.replace.ensures.value ∙ c.in-Looking.is in
    rw c.replace-in-Looking.ensures.after (subst (λ state. TurnsSo g.D.Drive (ListStands op.set op.now state) (ListStands op.set op.now c.after_look-state.result)
    c.peek-turn.result.stub was after (views g.D.Drive c.args.disks.now) (views g.D.Drive c.peek-turn.new.disks)) (sym state_is)
    (look_so g.D.Drive c.row_laws.ensures.injective op.set op.now work wanted c.after_look-state.result c.as_str-in-Looking.result.now was after c.peek-turn.result.answer
    c.peek-turn.result.stub c.args.disks.now c.peek-turn.new.disks c.look_law.ensures (sym (ap list_step state_is) ∙ c.requires.next)
    c.as_str-in-Looking.ensures.value
    (record {
      turns = peek.turns;
      says = peek.says;
      holds = peek.holds;
      cause = peek.cause;
      leaves = peek.leaves;
      read = peek.disks_read;
    })
    c.after_look-state.ensures.after))
