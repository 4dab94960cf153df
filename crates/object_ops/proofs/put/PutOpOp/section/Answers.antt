use Rattle.std.proofs.Common.{◌≡◌, sym, subst}
use Rattle.receipts.specs.Registers.{key_slot}
use Rattle.op_steps.specs.Words.{IsSection}
use Rattle.op_steps.specs.declared.next.OpNext.TheVariants.{Section}
use Rattle.object_ops.specs.Put.{step_at}
use Rattle.object_ops.specs.PutTarget.{key_of}
use Rattle.object_ops.proofs.PutLefts.{section_ends}
use Rattle.object_ops.proofs.put.PutOpOp.section.Goals as goal

pub end-requires-clause-state : goal.end-requires-clause-state
end-requires-clause-state g c =
    let op = c.args.self.now in
    let work = c.in-Staging.field-0 in
    let step = subst (λ s. step_at (key_of op.target) op.clearing s ≡ Section c.args.slot.now.site.index) c.in-Staging.is c.requires.next in
    (work, c.in-Staging.is, section_ends (key_slot (key_of op.target)) work.next (subst IsSection (sym step) tt))
