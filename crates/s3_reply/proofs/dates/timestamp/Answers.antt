use Rattle.std.proofs.Common.{ap, ◌∙◌}
use Rattle.std.specs.List.{list_all}
use Rattle.s3_reply.specs.Dates.{timestamp_of}
use Rattle.s3_reply.specs.Escaping.{is_plain}
use Rattle.s3_reply.proofs.DateLemmas.{stamp_from}
use Rattle.s3_reply.proofs.PlainLemmas.{stamp_plain}
use Rattle.s3_reply.proofs.dates.timestamp.Goals as goal

pub returns-clause-text : goal.returns-clause-text
returns-clause-text c = rw c.month_digits.ensures (stamp_from c.date_of.result c.to_bytes.result c.to_bytes.ensures ∙ ap timestamp_of c.date_of.ensures)

pub returns-clause-plain : goal.returns-clause-plain
returns-clause-plain c =
    rw c.month_digits.ensures (ap (list_all is_plain) (stamp_from c.date_of.result c.to_bytes.result c.to_bytes.ensures) ∙ stamp_plain c.date_of.result)
