-- What a `SystemClock` reads.
use Rattle.io_base.specs.declared.clock.SystemClock.{SystemClock}

-- the runtime that it was made over
abbrev pub clock_runtime : {R : Type 0} → SystemClock R → R
clock_runtime c = c.rt
