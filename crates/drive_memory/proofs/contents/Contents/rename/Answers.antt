use Rattle.std.proofs.Common.{ap, sym, ◌∙◌, None}
use Rattle.std.specs.Option.{option_map}
use Rattle.drive_memory.specs.Contents.{held_files}
use Rattle.drive_memory.specs.Maps.{loose_file, loose_files, kept_bytes, kept_files, shown_bytes, shown_files}
use Rattle.drive_memory.proofs.FilesLemmas.{files_at, files-with_loose, files-renamed}
use Rattle.drive_memory.proofs.ResultLemmas.{after_err, after_ok}
use Rattle.drive_memory.proofs.contents.Contents.rename.Goals as goal

pub returns-in_default : goal.returns-in_default
unfolding held_files
returns-in_default c = (
  ap (option_map loose_file) (sym c.in_default.ensures.value),
  ap (λ f. files_at (kept_files c.args.self.now.placed) (shown_files c.args.self.now.placed) (λ q. option_map loose_file (f q))) c.in_default.ensures.absent,
)

pub returns-then-is_err : goal.returns-then-is_err
unfolding held_files
returns-then-is_err c =
    let same = after_err c.put.result (sym c.is_err.ensures.value ∙ c.if-is_err.true) c.put.ensures.err in (
      (loose_file c.in-Some.file, ap (option_map loose_file) (sym c.in-Some.ensures.value)),
      ap (λ f. files_at (λ q. option_map kept_bytes (f q)) (λ q. option_map shown_bytes (f q)) (loose_files c.take.new.map)) same
          ∙ files-with_loose c.args.self.now.placed c.args.self.now.loose c.take.new.map c.args.loose.now None c.take.ensures.rest,
    )

pub returns : goal.returns
unfolding held_files
returns c = (
  loose_file c.in-Some.file,
  ap (option_map loose_file) (sym c.in-Some.ensures.value),
  files-renamed c.args.self.now.placed c.put.new.map c.args.self.now.loose c.take.new.map c.args.loose.now c.args.name.now c.in-Some.file c.new-file.result c.into_placed.result.items
      c.take.ensures.rest c.new-file.ensures.kept c.new-file.ensures.shown c.into_placed.ensures (after_ok c.put.result (sym c.is_err.ensures.value ∙ c.if-is_err.false) c.put.ensures.ok),
)
