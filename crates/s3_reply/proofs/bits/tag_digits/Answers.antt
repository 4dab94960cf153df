use Rattle.std.proofs.Common.{ap, ◌∙◌, arith}
use Rattle.std.specs.List.{list_all}
use Rattle.s3_reply.specs.Escaping.{is_plain}
use Rattle.s3_reply.proofs.PlainLemmas.{hex_plain}
use Rattle.s3_reply.proofs.bits.tag_digits.Goals as goal

pub returns-clause-plain : goal.returns-clause-plain
returns-clause-plain c =
    ap (list_all is_plain) (rw c.unwrap.ensures at c.encode_to_slice.ensures.written) ∙ hex_plain c.args.md5.now (λ i. omega (arith, c.fits-md5 i))
