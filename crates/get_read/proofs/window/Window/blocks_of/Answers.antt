use Rattle.std.proofs.Common.{◌≡◌, ◌<◌, ◌+◌, ◌-◌, ◌*◌, ◌∙◌, ℕ, length, take, drop, ap, refl, arith}
use Rattle.get_read.specs.Windows.{run_block}
use Rattle.get_read.proofs.WindowLemmas.{piece_full, row_added, row_long, run_below, run_inside, sliced}
use Rattle.get_read.proofs.window.Window.blocks_of.Goals as goal

pub overflow_mul-from-in-loop-row : goal.overflow_mul-from-in-loop-row
overflow_mul-from-in-loop-row c =
    let w = c.args.self.now in
    let within = run_inside c.loop-row.row (length w.rows.items) c.args.stripe w.count w.size (omega arith) c.requires in
    omega (arith, within, w.long)

pub overflow_add-from-in-loop-row : goal.overflow_add-from-in-loop-row
overflow_add-from-in-loop-row c =
    let w = c.args.self.now in
    let within = run_inside c.loop-row.row (length w.rows.items) c.args.stripe w.count w.size (omega arith) c.requires in
    omega (arith, within, w.long)

pub slice_bounds-extend_from_slice-end : goal.slice_bounds-extend_from_slice-end
slice_bounds-extend_from_slice-end c =
    let w = c.args.self.now in
    let within = run_inside c.loop-row.row (length w.rows.items) c.args.stripe w.count w.size (omega arith) c.requires in
    omega (arith, within, w.long, c.as_slice.ensures.len)

pub loop-row-preserved : goal.loop-row-preserved
loop-row-preserved c =
    let w = c.args.self.now in
    let row = c.loop-row.row in
    let n = length w.rows.items in
    let low : row < n = omega arith in
    let k = row * w.count + c.args.stripe in
    let block : take (k * w.size + w.size - k * w.size) (drop (k * w.size) c.as_slice.result.now) ≡ run_block w row c.args.stripe =
    sliced w.size k (k * w.size) c.as_slice.result.now w.bytes.items refl c.as_slice.ensures.value in
    let inside : k < n * w.count = omega (arith, run_below row n c.args.stripe w.count low c.requires) in
    let long : length (take (k * w.size + w.size - k * w.size) (drop (k * w.size) c.as_slice.result.now)) ≡ w.size =
    ap (length {A = ℕ}) block ∙ piece_full w.size (n * w.count) k w.bytes.items w.long inside in
    let joined = c.in_ok-extend_from_slice.ensures.items in
    record {
      long = row_long w.size row c.loop-row.bytes.items _ c.extend_from_slice.new.self.items c.loop-row.invariant.long long joined;
      are = row_added w.size row c.loop-row.bytes.items _ c.extend_from_slice.new.self.items (λ j. run_block w j c.args.stripe) c.loop-row.invariant.long long joined
          c.loop-row.invariant.are block;
    }
