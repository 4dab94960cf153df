use Rattle.std.proofs.Common.{◌<◌, ◌≤◌, ℕ, None, slice_index_or}
use Rattle.store_shared.specs.Parting.{parts_in}
use Rattle.store_shared.specs.SharedPasses.{passes_hold}
use Rattle.store_shared.proofs.closing.lacks_any.Given as goal

-- of the first locks all parts are here
abbrev pub invariant-loop-pass : goal.invariant-loop-pass
invariant-loop-pass g l = (k : ℕ) → k < l.pass-index → 65536 ≤ parts_in (slice_index_or (passes_hold l.passes) k None)
