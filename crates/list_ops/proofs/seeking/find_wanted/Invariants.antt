use Rattle.std.proofs.Common.{drop, map}
use Rattle.std.specs.Prelude.{string_bytes}
use Rattle.list_page.specs.Asks.{rule_of}
use Rattle.list_ops.specs.Seeking.{PassesTo}
use Rattle.list_ops.specs.Sheets.{sheet_of}
use Rattle.list_ops.proofs.seeking.find_wanted.Given as goal

-- the names before the place are passed over
abbrev pub invariant-loop-place : goal.invariant-loop-place
invariant-loop-place l = PassesTo (rule_of l.target.ask) l.target.bucket (sheet_of l.work) (drop l.place (map string_bytes l.work.found.items))
