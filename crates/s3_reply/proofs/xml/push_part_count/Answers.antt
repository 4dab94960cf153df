use Rattle.std.proofs.Common.{sym}
use Rattle.std.proofs.lemmas.List.{append-nil}
use Rattle.s3_reply.proofs.EscapedLemmas.{escaped_nil}
use Rattle.s3_reply.proofs.Chains.{after_text, none_counted, counted}
use Rattle.s3_reply.proofs.xml.push_part_count.Goals as goal

pub returns-then-parts-eq0 : goal.returns-then-parts-eq0
returns-then-parts-eq0 c = rw (none_counted c.args.parts c.if-parts-eq0.true, escaped_nil) (sym (append-nil c.args.out.now.items))

pub returns : goal.returns
returns c = rw (counted c.args.parts c.if-parts-eq0.false) (after_text c.args.out.now.items c.push_text.new.out.items c.push_decimal.new.out.items _ _ c.in_ok-push_text.ensures c.in_ok-push_decimal.ensures)
