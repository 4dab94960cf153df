use Rattle.std.proofs.Common.{rules}
use Rattle.drive_memory.specs.MemDrive.{files_of}
use Rattle.drive_memory.specs.Does.{SyncDoes}
use Rattle.drive_memory.specs.Exact.{ChangesExactly}
use Rattle.drive_memory.proofs.ExactLemmas.{counts_changes}
use Rattle.drive_memory.proofs.FilesLemmas.{AnyLoose-same}
use Rattle.drive_memory.proofs.drive.MemDrive.ask_sync.Goals as goal

pub returns-in_default-clause-files : goal.returns-in_default-clause-files
returns-in_default-clause-files c = AnyLoose-same (files_of c.args.self.now) (files_of c.meet.new.self) c.args.loose.now (search rules)

-- what the call does and when it fails
exact : (c : goal.After-settle) → ChangesExactly (λ done. SyncDoes (files_of c.args.self.now) c.args.loose.now done (files_of c.settle.new.self)) c.args.self.now c.settle.result c.settle.new.self
exact c = search rules

pub returns-clause-count : goal.returns-clause-count
returns-clause-count c = counts_changes (λ done. SyncDoes (files_of c.args.self.now) c.args.loose.now done (files_of c.settle.new.self)) c.args.self.now c.settle.new.self c.settle.result (exact c)
