use Rattle.std.proofs.Common.{rules, ℕ, List, Some, None, false, ap, ◌∙◌}
use Rattle.std.specs.BTreeMap.{get_by_text}
use Rattle.std.specs.Option.{option_map}
use Rattle.drive_base.specs.Files.{LooseFile, with_name}
use Rattle.drive_memory.specs.Maps.{loose_file}
use Rattle.drive_memory.specs.declared.loose.Loose.{Loose}
use Rattle.drive_memory.proofs.NameLemmas.{get_by_text-updates, loose_files-kept, loose_files-appended}
use Rattle.drive_memory.proofs.ResultLemmas.{on_err}
use Rattle.drive_memory.proofs.loose.append.Goals as goal

pub returns-in_err-add-clause-err : goal.returns-in_err-add-clause-err
returns-in_err-add-clause-err c = on_err c.from_residual.result
    (loose_files-kept c.args.files.now (c.get_mut.follows.lender c.add.new.self) c.args.name.now c.in-Some.file.now c.add.new.self c.in-Some.ensures.value c.in_err-add.ensures.err
    (get_by_text-updates c.args.files.now (c.get_mut.follows.lender c.add.new.self) c.args.name.now (Some c.add.new.self) ((c.get_mut.follows.holds c.add.new.self).3 (search rules))))

pub returns-in-Some-clause-ok : goal.returns-in-Some-clause-ok
returns-in-Some-clause-ok c =
    loose_files-appended c.args.files.now (c.get_mut.follows.lender c.add.new.self) c.args.name.now c.args.bytes.now (Some c.in-Some.file.now) c.add.new.self c.in-Some.ensures.value c.in_ok-add.ensures.ok
    (get_by_text-updates c.args.files.now (c.get_mut.follows.lender c.add.new.self) c.args.name.now (Some c.add.new.self) ((c.get_mut.follows.holds c.add.new.self).3 (search rules)))

pub returns-in_err-put-clause-err : goal.returns-in_err-put-clause-err
returns-in_err-put-clause-err c = on_err c.from_residual-in_err-put.result
    (ap (λ f (q : List ℕ). option_map loose_file (f q)) (c.in_err-put.ensures.err ∙ ap (λ m. get_by_text m) c.get_mut.follows.holds-at-none))

pub returns-clause-ok : goal.returns-clause-ok
returns-clause-ok c =
    let made : Loose = record { bytes = c.in_ok-from_slice.field-0; synced = false } in
    loose_files-appended c.args.files.now c.put.new.map c.args.name.now c.args.bytes.now None made c.in_default.ensures.value
    (ap (λ bytes. let file : LooseFile = record { bytes = bytes; synced = false } in file) c.in_ok-from_slice.ensures.items)
    (c.in_ok-put.ensures.ok ∙ ap (λ m. with_name (get_by_text m) c.args.name.now (Some made)) c.get_mut.follows.holds-at-none)
