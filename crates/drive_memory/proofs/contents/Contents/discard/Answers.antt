use Rattle.std.proofs.Common.{ap, sym, None}
use Rattle.std.specs.Option.{option_map}
use Rattle.drive_memory.specs.Contents.{held_files}
use Rattle.drive_memory.specs.Maps.{loose_file, kept_files, shown_files}
use Rattle.drive_memory.proofs.FilesLemmas.{files_at, files-with_loose}
use Rattle.drive_memory.proofs.contents.Contents.discard.Goals as goal

pub returns-in_default : goal.returns-in_default
unfolding held_files
returns-in_default c = (
  ap (option_map loose_file) (sym c.in_default.ensures.value),
  ap (λ f. files_at (kept_files c.args.self.now.placed) (shown_files c.args.self.now.placed) (λ q. option_map loose_file (f q))) c.in_default.ensures.absent,
)

pub returns : goal.returns
unfolding held_files
returns c = (
  (loose_file c.in-Some.field-0, ap (option_map loose_file) (sym c.in-Some.ensures.value)),
  files-with_loose c.args.self.now.placed c.args.self.now.loose c.take.new.map c.args.loose.now None c.take.ensures.rest,
)
