use Rattle.std.proofs.Common.{sym, arith}
use Rattle.std.proofs.lemmas.Bool.{iff_false}
use Rattle.s3_request.proofs.DigitLemmas.{all_digits, not_digits}
use Rattle.s3_request.proofs.arguments.are_digits.Goals as goal

pub returns-then-not-is_digit : goal.returns-then-not-is_digit
returns-then-not-is_digit c =
    sym (not_digits c.args.text.now c.loop-byte.byte-index c.loop-byte-test.true (iff_false c.is_digit.ensures c.if-not-is_digit.true))

pub returns : goal.returns
returns c = sym (all_digits c.args.text.now (λ i inside. c.loop-byte.invariant i (omega arith)))
