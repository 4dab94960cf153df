use Rattle.std.proofs.Common.{arith}
use Rattle.code_lanes.proofs.rows.load_four.Goals as goal

pub returns : goal.returns
returns c count low = record {
  first = c.load_row.ensures count (omega arith);
  second = c.load_row-2.ensures count (omega arith);
  third = c.load_row-3.ensures count (omega arith);
  fourth = c.load_row-4.ensures count (omega arith);
}
