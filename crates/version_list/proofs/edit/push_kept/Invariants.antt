use Rattle.std.proofs.Common.{◌≡◌, ◌++◌, take}
use Rattle.version_list.specs.Naming.{kept}
use Rattle.version_list.proofs.edit.push_kept.Given as goal

abbrev pub invariant-loop-version : goal.invariant-loop-version
invariant-loop-version l = l.list.items ≡ l.initial.list.items ++ kept l.goes (take l.version-index l.versions)
