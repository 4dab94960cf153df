use Rattle.std.proofs.Common.{rules, ◌≡◌, inl, inr, refl, ◌∙◌}
use Rattle.std.specs.Int.{IsBitSet}
use Rattle.object_ops.specs.Clearing.{files_of}
use Rattle.object_ops.proofs.CallLemmas.{drive_more}
use Rattle.object_ops.proofs.clearing.push_files.Goals as goal
use Rattle.object_ops.proofs.clearing.push_files.Goals.{then-not-is_out+in_ok-name+in_ok-push_back, else-not-is_out}

pub loop-drive-preserved : goal.loop-drive-preserved
loop-drive-preserved c =
    let set = c.args.set.now in
    let k = c.loop-drive.drive in
    elim c.if-not-is_out.branch [
      | then-not-is_out+in_ok-name+in_ok-push_back w ↦
          let in_use : IsBitSet set.out k → ⊥ = search rules in
          let same : c.if-not-is_out.removals.items ≡ w.push_back.new.self.items = cc in
          drive_more set c.args.id c.args.kind k (files_of c.args.removals.now.items) c.loop-drive.removals.items c.if-not-is_out.removals.items (inr in_use)
          c.loop-drive.invariant (λ out. absurd (in_use out)) (λ used. (_, same ∙ w.in_ok-push_back.ensures.items, refl, refl, refl))
      | else-not-is_out w ↦
          let out : IsBitSet set.out k = search rules in
          let same : c.if-not-is_out.removals.items ≡ c.loop-drive.removals.items = cc in
          drive_more set c.args.id c.args.kind k (files_of c.args.removals.now.items) c.loop-drive.removals.items c.if-not-is_out.removals.items (inl out)
          c.loop-drive.invariant (λ is. same) (λ used. absurd (used out))
    ]
