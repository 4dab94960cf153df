use Rattle.std.proofs.Common.{rules}
use Rattle.drive_memory.proofs.StopLemmas.{stopped_files}
use Rattle.drive_memory.proofs.loose.stop.Goals as goal

pub returns : goal.returns
returns c = stopped_files c.args.files.now c.retain.new.self _ c.retain.ensures.was_ordered _ (λ k v b w f' t. search rules) c.retain.ensures.filtered
