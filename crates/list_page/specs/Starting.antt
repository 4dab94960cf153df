-- From which key on a listing looks for keys.
use Rattle.std.specs.Prelude.{ℕ, if◌then◌else◌, List, Option, Some, None}
use Rattle.receipts.specs.Pages.{PageRule, begins_with, is_before}

-- a start that begins with the prefix, or else the prefix
abbrev pub start_of : List ℕ → Option (List ℕ) → List ℕ
start_of prefix None = prefix
start_of prefix (Some start) = if begins_with prefix start then start else prefix

-- the later of two texts
abbrev pub later_of : List ℕ → List ℕ → List ℕ
later_of a b = if is_before a b then b else a

-- no wanted key stands before this one
abbrev pub first_key : PageRule → List ℕ
first_key rule = later_of (start_of rule.prefix rule.key_after) (start_of rule.prefix rule.name_after)
