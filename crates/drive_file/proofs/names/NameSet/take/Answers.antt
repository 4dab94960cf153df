use Rattle.std.proofs.Common.{None}
use Rattle.drive_memory.proofs.NameLemmas.{get_by_text-updates}
use Rattle.drive_file.proofs.names.NameSet.take.Goals as goal

pub returns : goal.returns
returns c = get_by_text-updates c.args.self.now.names c.remove.new.self c.args.name.now None c.remove.ensures.updates
