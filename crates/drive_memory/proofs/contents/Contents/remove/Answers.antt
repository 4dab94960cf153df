use Rattle.std.proofs.Common.{ap, sym, None}
use Rattle.std.specs.Option.{option_map}
use Rattle.drive_memory.specs.Contents.{held_files}
use Rattle.drive_memory.specs.Maps.{loose_files, kept_bytes, shown_bytes}
use Rattle.drive_memory.proofs.FilesLemmas.{files_at, files-with_both}
use Rattle.drive_memory.proofs.contents.Contents.remove.Goals as goal

pub returns-in_default : goal.returns-in_default
unfolding held_files
returns-in_default c = (
  ap (option_map shown_bytes) (sym c.in_default.ensures.value),
  ap (λ f. files_at (λ q. option_map kept_bytes (f q)) (λ q. option_map shown_bytes (f q)) (loose_files c.args.self.now.loose)) c.in_default.ensures.absent,
)

pub returns : goal.returns
unfolding held_files
returns c = (
  (shown_bytes c.in-Some.field-0, ap (option_map shown_bytes) (sym c.in-Some.ensures.value)),
  files-with_both c.args.self.now.placed c.args.self.now.loose c.take.new.map c.args.name.now None c.take.ensures.rest,
)
