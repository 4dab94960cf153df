use Rattle.std.proofs.Common.{rules, inl}
use Rattle.drive_memory.specs.MemDrive.{files_of}
use Rattle.drive_memory.specs.Does.{RenameDoes}
use Rattle.drive_memory.specs.Exact.{ChangesExactly}
use Rattle.drive_memory.proofs.ExactLemmas.{counts_changes, rename_leaves}
use Rattle.drive_memory.proofs.FilesLemmas.{AnyLoose-same}
use Rattle.drive_memory.proofs.drive.MemDrive.ask_rename.Goals as goal

pub returns-in_default-clause-files : goal.returns-in_default-clause-files
returns-in_default-clause-files c = inl (AnyLoose-same (files_of c.args.self.now) (files_of c.meet.new.self) c.args.loose.now (search rules))

-- what the call does and when it fails
exact : (c : goal.After-settle) → ChangesExactly (λ done. RenameDoes (files_of c.args.self.now) c.args.loose.now c.args.name.now done (files_of c.settle.new.self)) c.args.self.now c.settle.result c.settle.new.self
exact c = search rules

pub returns-clause-count : goal.returns-clause-count
returns-clause-count c = counts_changes (λ done. RenameDoes (files_of c.args.self.now) c.args.loose.now c.args.name.now done (files_of c.settle.new.self)) c.args.self.now c.settle.new.self c.settle.result (exact c)

pub returns-clause-files : goal.returns-clause-files
returns-clause-files c = rename_leaves c.args.self.now c.settle.new.self c.args.loose.now c.args.name.now c.settle.result (exact c)
