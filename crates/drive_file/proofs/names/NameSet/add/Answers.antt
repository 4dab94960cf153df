use Rattle.std.proofs.Common.{◌≡◌, Some, subst, ℕ, List}
use Rattle.std.specs.BTreeMap.{get_by_text}
use Rattle.std.specs.String.{string_bytes}
use Rattle.drive_base.specs.Files.{with_name}
use Rattle.drive_memory.proofs.NameLemmas.{get_by_text-updates}
use Rattle.drive_file.proofs.names.NameSet.add.Goals as goal

pub returns-clause-ok : goal.returns-clause-ok
returns-clause-ok c =
    let P : List ℕ → Type 0 = λ (bytes : List ℕ). get_by_text c.insert.new.self ≡ with_name (get_by_text c.args.self.now.names) bytes (Some tt) in
    subst P c.in_ok-name.ensures.ok
    (get_by_text-updates c.args.self.now.names c.insert.new.self (string_bytes c.in_ok-name.name) (Some tt) c.in_ok-insert.ensures.updates)
