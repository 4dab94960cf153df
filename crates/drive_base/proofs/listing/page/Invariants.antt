use Rattle.std.proofs.Common.{string_bytes, ◌≡◌, map, filter, length, ◌≤◌}
use Rattle.drive_base.specs.declared.drive.TheConstants.{LONGEST_NAME}
use Rattle.drive_base.proofs.PageLemmas.{is_short, names_seen}
use Rattle.drive_base.proofs.listing.page.Given as goal

-- the names so far are the short ones of the keys so far
abbrev pub invariant-loop-name : goal.invariant-loop-name
invariant-loop-name g l = record {
  listed : map string_bytes l.names.items ≡ filter (is_short LONGEST_NAME) (names_seen l.yielded);
  few : length l.names.items ≤ l.most;
}
