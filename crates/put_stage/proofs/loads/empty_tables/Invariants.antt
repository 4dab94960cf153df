use Rattle.std.proofs.Common.{◌≡◌, [], replicate}
use Rattle.put_stage.specs.StripeBlocks.{all_bytes}
use Rattle.put_stage.proofs.loads.empty_tables.Given as goal

abbrev pub invariant-loop-made : goal.invariant-loop-made
invariant-loop-made l = all_bytes l.tables.items ≡ replicate l.made []
