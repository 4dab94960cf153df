use Rattle.std.proofs.Common.{map, string_bytes}
use Rattle.std.specs.BTreeMap.{get_by_text}
use Rattle.drive_base.proofs.PageLemmas.{shown_images}
use Rattle.drive_base.specs.declared.drive.TheConstants.{LONGEST_NAME}
use Rattle.drive_memory.specs.Contents.{held_files}
use Rattle.drive_memory.specs.Maps.{shown_bytes}
use Rattle.drive_memory.proofs.contents.Contents.names.Goals as goal

pub returns-clause-shown : goal.returns-clause-shown
unfolding held_files
returns-clause-shown c =
    shown_images shown_bytes (get_by_text c.args.self.now.placed) c.args.from.now c.args.most LONGEST_NAME (map string_bytes c.in_ok-names.names.items) c.in_ok-names.ensures.shown
