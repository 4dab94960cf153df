use Rattle.std.proofs.Common.{rules, Some, true, sym, ap}
use Rattle.std.specs.Option.{option_map}
use Rattle.drive_memory.specs.Maps.{loose_file}
use Rattle.drive_memory.specs.declared.loose.Loose.{Loose}
use Rattle.drive_memory.proofs.NameLemmas.{get_by_text-updates, loose_files-with}
use Rattle.drive_memory.proofs.loose.sync.Goals as goal

pub returns-in-Some-clause-there : goal.returns-in-Some-clause-there
returns-in-Some-clause-there c =
    let written : Loose = record { bytes = c.in-Some.file.now.bytes; synced = true } in (
      loose_file c.in-Some.file.now,
      sym (ap (option_map loose_file) c.in-Some.ensures.value),
      loose_files-with c.args.files.now (c.get_mut.follows.lender written) c.args.name.now (Some written)
          (get_by_text-updates c.args.files.now (c.get_mut.follows.lender written) c.args.name.now (Some written)
          ((c.get_mut.follows.holds written).3 (search rules))),
    )
