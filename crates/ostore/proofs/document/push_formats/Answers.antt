use Rattle.std.specs.String.{string_bytes}
use Rattle.ostore.proofs.DocumentLemmas.{push_more}
use Rattle.ostore.proofs.document.push_formats.Goals as goal

pub loop-index-preserved : goal.loop-index-preserved
loop-index-preserved c =
    push_more c.args.formats.now c.loop-index.index _ (string_bytes c.args.text.now) (string_bytes c.loop-index.text) (string_bytes c.push_format.new.text)
    c.loop-index-test.true c.loop-index.invariant c.in_ok-push_format.ensures
