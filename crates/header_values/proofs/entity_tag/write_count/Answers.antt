use Rattle.std.proofs.Common.{◌+◌, ◌-◌, length, ◌∙◌, arith}
use Rattle.header_values.proofs.TextLemmas.{counted}
use Rattle.header_values.proofs.entity_tag.write_count.Goals as goal

pub returns-clause-written : goal.returns-clause-written
returns-clause-written c =
    counted c.args.parts c.args.place.now c.as_bytes-digits.result.now c.copy_from_slice.new.self (1 + length c.as_bytes-digits.result.now - 1)
    c.if-parts-eq0.false (omega (arith, c.requires)) (c.as_bytes-digits.ensures.value ∙ c.format.ensures.text) c.copy_from_slice.ensures.after
