use Rattle.std.proofs.Common.{◌≡◌, drop, map}
use Rattle.upload_book.specs.Gathering.{number_of, is_rising_above}
use Rattle.upload_book.proofs.gathering.are_rising.Given as goal

-- the parts that are left rise where all do
abbrev pub invariant-loop-part : goal.invariant-loop-part
invariant-loop-part l = is_rising_above l.before (map number_of (drop l.part-index l.parts)) ≡ is_rising_above 0 (map number_of l.parts)
