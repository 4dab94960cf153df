use Rattle.std.proofs.Common.{◌∙◌, Some, sym, ap}
use Rattle.register_file.specs.declared.record.Next.{Next}
use Rattle.register_core.proofs.FoundLemmas.{found_is}
use Rattle.register_core.proofs.looks.next_on.Goals as goal

pub returns-clause-next : goal.returns-clause-next
returns-clause-next c = (
  c.in-Some.file,
  found_is c.args.files.now c.args.lane c.requires.1.0 c.index-files-lane.result c.in-Some.file c.requires.1.1 c.index-files-lane.is c.in-Some.is,
  c.in-Some-next.is ∙ ap (λ (next : Next). Some next) (sym c.in_ok-copy_next-in-Some-next.ensures),
)
