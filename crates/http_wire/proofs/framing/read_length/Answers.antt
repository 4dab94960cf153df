use borrow.Author.Count.{below_more}
use Rattle.std.proofs.Common.{◌∙◌, sym, ap, arith, rules}
use Rattle.std.specs.Str.Parse.{digits_value}
use Rattle.std.proofs.lemmas.List.{take_all}
use Rattle.http_wire.proofs.FramingLemmas.{digit_more, too_large}
use Rattle.http_wire.proofs.framing.read_length.Goals as goal

pub returns-in-None : goal.returns-in-None
returns-in-None c = λ n. too_large c.args.value.now c.loop-byte.byte-index c.loop-byte.length n c.loop-byte-test.true c.loop-byte.invariant.1 c.in-None.ensures

pub loop-byte-preserved : goal.loop-byte-preserved
loop-byte-preserved c = (
  below_more _ _ c.loop-byte.invariant.0 c.in-Some.ensures.0,
  c.in-Some.ensures.1 ∙ digit_more c.args.value.now c.loop-byte.byte-index c.loop-byte.length c.loop-byte-test.true c.in-Some.ensures.0 c.loop-byte.invariant.1,
  c.in-Some.ensures.2,
)

pub returns : goal.returns
returns c = record {
  some = search rules;
  digits = λ k below. c.loop-byte.invariant.0 k (omega arith);
  number = sym (c.loop-byte.invariant.1 ∙ ap (digits_value 10) (take_all c.loop-byte.byte-index c.args.value.now c.loop-byte-test.false));
  fits = c.loop-byte.invariant.2;
}
