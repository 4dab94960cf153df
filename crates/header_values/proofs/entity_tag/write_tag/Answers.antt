use Rattle.std.proofs.Common.{arith}
use Rattle.header_values.proofs.TextLemmas.{text_written}
use Rattle.header_values.proofs.entity_tag.write_tag.Goals as goal

pub returns : goal.returns
returns c =
    text_written c.args.md5.now c.encode_to_slice.new.output c.args.place.now c.write_count-count.new.place c.args.parts c.write_count-count.result
    c.told-md5 (rw c.unwrap.ensures at c.encode_to_slice.ensures.written) (omega (arith, c.write_count-count.ensures.kept, c.write_count-count.ensures.short)) c.write_count-count.ensures.written
