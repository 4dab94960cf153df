use Rattle.std.proofs.Common.{◌≡◌, ℕ, ◌<◌, false, drop}
use Rattle.receipts.specs.Pages.{begins_with}
use Rattle.list_page.proofs.grouping.up_to.Given as goal

-- at no place before this one does the delimiter stand
abbrev pub invariant-loop-at : goal.invariant-loop-at
invariant-loop-at l = (k : ℕ) → k < l.at → begins_with l.delimiter (drop k l.text) ≡ false
