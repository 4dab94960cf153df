use Rattle.std.proofs.Common.{◌≡◌, drop, map}
use Rattle.upload_book.specs.Gathering.{listed_number, is_rising_above}
use Rattle.upload_book.proofs.gathering.are_listed_rising.Given as goal

-- the parts that are left rise where all do
abbrev pub invariant-loop-listed_part : goal.invariant-loop-listed_part
invariant-loop-listed_part l = is_rising_above l.before (map listed_number (drop l.listed_part-index l.listed)) ≡ is_rising_above 0 (map listed_number l.listed)
