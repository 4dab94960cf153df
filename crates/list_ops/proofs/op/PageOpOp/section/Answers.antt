use Rattle.std.proofs.Common.{◌≡◌, ◌∙◌, subst, sym, ap, refl}
use Rattle.drive_base.specs.View.{views}
use Rattle.list_page.specs.Asks.{rule_of}
use Rattle.op_steps.specs.Store.{slot_seen}
use Rattle.op_steps.specs.Words.{TurnsSo}
use Rattle.list_ops.specs.Lists.{PageStands, page_step}
use Rattle.list_ops.specs.OpStands.{op_task}
use Rattle.list_ops.specs.declared.page_state.PageState.TheVariants.{Asking, Looking, Viewing}
use Rattle.list_ops.proofs.StepLemmas.{are_listed, look_so, names_so, view_so}
use Rattle.list_ops.proofs.op.PageOpOp.section.Goals as goal

pub returns-in-Looking-clause-turns : goal.returns-in-Looking-clause-turns
returns-in-Looking-clause-turns g c =
    let op = c.args.self.now in
    let rule = rule_of op.target.ask in
    let bucket = op.target.bucket in
    let look = c.look_at_bucket-look in
    let was = slot_seen g.A.Audit.entries g.A.Audit.count c.args.slot.now in
    let after = slot_seen g.A.Audit.entries g.A.Audit.count look.new.slot in
    let state_is : op.state ≡ Looking = sym c.replace.ensures.value ∙ c.in-Looking.is in
    rw c.replace-in-Looking.ensures.after (subst (λ state. TurnsSo g.D.Drive (PageStands op.set (op_task op) rule bucket state)
    (PageStands op.set (op_task op) rule bucket c.after_look-state.result) look.result.stub was after (views g.D.Drive c.args.disks.now)
    (views g.D.Drive look.new.disks)) (sym state_is)
    (look_so op.set (op_task op) rule bucket g.D.Drive c.after_look-state.result c.as_str.result.now was after look.result _ _
    c.page_laws.ensures.first c.page_laws.ensures.first_in_range (sym (ap (page_step bucket) state_is) ∙ c.requires.next)
    (c.as_str.ensures.value ∙ op.named) look.ensures.looks c.after_look-state.ensures.after))

pub returns-in-Asking-clause-turns : goal.returns-in-Asking-clause-turns
returns-in-Asking-clause-turns g c =
    let op = c.args.self.now in
    let rule = rule_of op.target.ask in
    let bucket = op.target.bucket in
    let work = c.in-Asking.work in
    let list = c.list_names-turn.ensures in
    let was = slot_seen g.A.Audit.entries g.A.Audit.count c.args.slot.now in
    let after = slot_seen g.A.Audit.entries g.A.Audit.count c.list_names-turn.new.self in
    let state_is : op.state ≡ Asking work = sym c.replace.ensures.value ∙ c.in-Asking.is in
    rw c.replace-in-Asking.ensures.after (subst (λ state. TurnsSo g.D.Drive (PageStands op.set (op_task op) rule bucket state)
    (PageStands op.set (op_task op) rule bucket c.after_names-state.result) c.list_names-turn.result.stub was after (views g.D.Drive c.args.disks.now)
    (views g.D.Drive c.args.disks.now)) (sym state_is)
    (names_so op.set (op_task op) rule bucket g.D.Drive work c.after_names-state.result c.as_str-in-Asking.result.now work.most was after
    c.list_names-turn.result.answer c.list_names-turn.result.stub c.args.disks.now c.names_law.ensures (sym (ap (page_step bucket) state_is) ∙ c.requires.next)
    c.as_str-in-Asking.ensures.value refl
    (record { turns = list.turns; says = list.says; holds = list.holds; lists = list.lists; leaves = list.leaves })
    (are_listed g.D.Drive _ _ _ c.list_names-turn.result.answer _ _ list.lists) c.after_names-state.ensures.after))

pub returns-in-Viewing-clause-turns : goal.returns-in-Viewing-clause-turns
returns-in-Viewing-clause-turns g c =
    let op = c.args.self.now in
    let rule = rule_of op.target.ask in
    let bucket = op.target.bucket in
    let work = c.in-Viewing.work in
    let wanted = c.in-Viewing.wanted in
    let peek = c.peek-turn.ensures in
    let was = slot_seen g.A.Audit.entries g.A.Audit.count c.args.slot.now in
    let after = slot_seen g.A.Audit.entries g.A.Audit.count c.peek-turn.new.self in
    let state_is : op.state ≡ Viewing work wanted = sym c.replace.ensures.value ∙ c.in-Viewing.is in
    rw c.replace-in-Viewing.ensures.after (subst (λ state. TurnsSo g.D.Drive (PageStands op.set (op_task op) rule bucket state)
    (PageStands op.set (op_task op) rule bucket c.after_view-state.result) c.peek-turn.result.stub was after (views g.D.Drive c.args.disks.now)
    (views g.D.Drive c.peek-turn.new.disks)) (sym state_is)
    (view_so op.set (op_task op) rule bucket g.D.Drive work wanted c.after_view-state.result c.as_str-in-Viewing.result.now was after c.peek-turn.result.answer
    c.peek-turn.result.stub c.args.disks.now c.peek-turn.new.disks c.page_laws.ensures.on_time c.look_law.ensures
    (sym (ap (page_step bucket) state_is) ∙ c.requires.next) c.as_str-in-Viewing.ensures.value
    (record {
      turns = peek.turns;
      says = peek.says;
      holds = peek.holds;
      cause = peek.cause;
      leaves = peek.leaves;
      read = peek.disks_read;
    })
    c.after_view-state.ensures.after))
