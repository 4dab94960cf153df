use Rattle.std.proofs.Common.{◌≡◌, ◌∙◌, ◌+◌, ◌++◌, [], ◌∷◌, length, ap}
use Rattle.std.proofs.lemmas.List.{length-append}
use Rattle.ostore.specs.Locked.{LanesFailUnlocked}
use Rattle.ostore.specs.Rigs.{HasLanes}
use Rattle.ostore.proofs.RigLemmas.{all_pushed}
use Rattle.ostore.proofs.folders.file_slots.Goals as goal

pub loop-slot-preserved : goal.loop-slot-preserved
loop-slot-preserved g c =
    let old = c.loop-slot.slots.items in
    let is : c.push.new.self.items ≡ old ++ c.in_ok-parts.parts ∷ [] = c.in_ok-push.ensures.items in
    record {
      count = ap length is ∙ (length-append old _ ∙ ap (λ n. n + 1) c.loop-slot.invariant.count);
      lanes = all_pushed (HasLanes c.args.drives) old _ c.push.new.self.items is c.loop-slot.invariant.lanes c.in_ok-parts.ensures.lanes;
      locked = all_pushed (LanesFailUnlocked c.args.is_locked) old _ c.push.new.self.items is c.loop-slot.invariant.locked c.in_ok-parts.ensures.locked;
    }
