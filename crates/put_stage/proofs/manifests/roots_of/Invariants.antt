use Rattle.std.proofs.Common.{◌≡◌, map, take}
use Rattle.sha2.specs.Sha256.{sha256}
use Rattle.put_stage.specs.StripeBlocks.{all_bytes}
use Rattle.put_stage.proofs.manifests.roots_of.Given as goal

abbrev pub invariant-loop-table : goal.invariant-loop-table
invariant-loop-table l = l.roots.items ≡ map sha256 (all_bytes (take l.table-index l.tables))
