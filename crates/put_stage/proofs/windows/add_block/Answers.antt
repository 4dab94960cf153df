-- A block of a stripe, filled up with zeros.
use Rattle.std.proofs.Common.{◌+◌, ◌-◌, arith}
use Rattle.std.specs.Vec.{vec_len}
use Rattle.put_stage.proofs.RunLemmas.{block_added}
use Rattle.put_stage.proofs.windows.add_block.Goals as goal

pub returns : goal.returns
returns c =
    let into = c.args.into.now in
    let size = c.block_len-size.result in
    block_added (c.args.set.now.drives - c.args.set.now.parity) c.args.drive size c.min-from.result c.min-to.result (vec_len c.extend_from_slice.new.self) (c.len.result + size)
    c.args.stripe.now into.items c.extend_from_slice.new.self.items c.resize.new.self.items (omega arith) c.requires.low (omega arith)
    (omega (arith, c.min-from.ensures)) (omega (arith, c.min-to.ensures)) c.in_ok-extend_from_slice.ensures.items (omega arith) (omega arith) c.in_ok-resize.ensures.items
