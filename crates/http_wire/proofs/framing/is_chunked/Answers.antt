use Rattle.std.proofs.Common.{inl, inr}
use Rattle.std.proofs.lemmas.Bool.{iff_false}
use Rattle.http_wire.proofs.framing.is_chunked.Goals as goal

pub returns : goal.returns
returns c = (
  λ yes. inr (inr (c.is_streamed.ensures.0 yes)),
  λ is. elim is [
    | inl coding ↦ absurd (iff_false c.has_coding.ensures c.if-has_coding.false coding)
    | inr chunks ↦ elim chunks [
      | inl chunk ↦ absurd (iff_false c.has_aws_chunks.ensures c.if-has_aws_chunks.false chunk)
      | inr streamed ↦ c.is_streamed.ensures.1 streamed
    ]
  ],
)
