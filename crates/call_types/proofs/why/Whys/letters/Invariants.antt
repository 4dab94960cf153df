use Rattle.std.proofs.Common.{◌≡◌, take}
use Rattle.call_types.specs.Letters.{letters_of}
use Rattle.call_types.proofs.why.Whys.letters.Given as goal

abbrev pub invariant-loop-k : goal.invariant-loop-k
invariant-loop-k l = take l.k l.place ≡ letters_of (take l.k l.self)
