use Rattle.bucket_ops.specs.Seeking.{ArePassed}
use Rattle.bucket_ops.proofs.seeking.find_wanted.Given as goal

-- the names before the place are passed over
abbrev pub invariant-loop-place : goal.invariant-loop-place
invariant-loop-place l = ArePassed l.slot l.from l.names l.at l.place
