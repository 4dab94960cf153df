-- Contents and their rule.
use Rattle.std.specs.Prelude.{◌≡◌, ℕ, Option, Some, None, Result, Ok, Err}
use Rattle.register_core.specs.declared.content.ContentFault.{ContentFault}
use Rattle.register_core.specs.declared.content.ContentFault.TheVariants.{At, NoMemory}

-- what checking a content answers, by where it first breaks the rule
abbrev pub IsChecked : {T : Type 0} → Option ℕ → Result T ContentFault → Type 0
IsChecked fault (Ok _) = fault ≡ None
IsChecked fault (Err (At place)) = fault ≡ Some place
IsChecked fault (Err NoMemory) = Unit {0}
