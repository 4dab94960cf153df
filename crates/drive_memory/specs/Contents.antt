-- What a memory drive holds.
use Rattle.drive_base.specs.Files.{Files}
use Rattle.drive_memory.specs.Maps.{loose_files, kept_files, shown_files}
use Rattle.drive_memory.specs.declared.contents.Contents.{Contents}

-- the files of a drive's two maps
unfoldable pub held_files : Contents → Files
held_files contents = record { kept = kept_files contents.placed; shown = shown_files contents.placed; loose = loose_files contents.loose }
