use Rattle.std.proofs.Common.{◌≡◌, ◌∙◌, ◌+◌, ◌++◌, [], ◌∷◌, length, ap}
use Rattle.std.proofs.lemmas.List.{length-append}
use Rattle.ostore.specs.Locked.{FailsUnlocked}
use Rattle.ostore.proofs.RigLemmas.{all_pushed}
use Rattle.ostore.proofs.folders.row.Goals as goal

pub loop-index-preserved : goal.loop-index-preserved
loop-index-preserved g c =
    let old = c.loop-index.row.items in
    let is : c.push.new.self.items ≡ old ++ c.in_ok-drive.drive ∷ [] = c.in_ok-push.ensures.items in
    record {
      count = ap length is ∙ (length-append old _ ∙ ap (λ n. n + 1) c.loop-index.invariant.count);
      locked = all_pushed (FailsUnlocked c.args.is_locked) old _ c.push.new.self.items is c.loop-index.invariant.locked c.in_ok-drive.ensures;
    }
