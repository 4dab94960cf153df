-- Lemmas on counts that rose, over several calls.
use Rattle.std.proofs.Common.{◌≤◌, ℕ, arith}
use Rattle.fault_base.specs.Counts.{Rose}

-- a count that rose in an earlier call
pub Rose-kept : (first mid last : ℕ) → Rose first mid → mid ≤ last → Rose first last
Rose-kept first mid last rose kept = grind (arith, rose, kept)

-- a count that rose in a later call
pub Rose-later : (first mid last : ℕ) → first ≤ mid → Rose mid last → Rose first last
Rose-later first mid last kept rose = grind (arith, rose, kept)
