use Rattle.std.proofs.Common.{◌≡◌, ◌++◌, drop}
use Rattle.receipts.specs.Pages.{all_rows}
use Rattle.list_page.proofs.rowing.add_all.Given as goal

-- with the rows that are left the rows are those that are wanted
abbrev pub invariant-loop-place : goal.invariant-loop-place
invariant-loop-place l = l.rows.items ++ drop l.place (all_rows l.key l.versions) ≡ l.initial.rows.items ++ drop l.left_out (all_rows l.key l.versions)
