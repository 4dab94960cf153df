use Rattle.std.proofs.Common.{None}
use Rattle.drive_memory.proofs.NameLemmas.{get_by_text-updates}
use Rattle.drive_memory.proofs.maps.take.Goals as goal

pub returns-clause-rest : goal.returns-clause-rest
returns-clause-rest g c = get_by_text-updates c.args.map.now c.remove.new.self c.args.name.now None c.remove.ensures.updates
