use Rattle.std.proofs.Common.{rules, ◌≡◌, ◌<◌, ◌≤◌, ◌∙◌, ◌++◌, ℕ, List, [], length, slice_index, slice_index_or, take, drop, ap, sym, subst, arith}
use Rattle.std.proofs.lemmas.List.{append-nil, take_all}
use Rattle.std.proofs.Math.ListN.{drop_of_length-le}
use Rattle.drive_base.specs.Plan.{data_drives}
use Rattle.poly_code.specs.Codeword.{IsOfCodeword}
use Rattle.poly_code.specs.Columns.{column}
use Rattle.shard_file.specs.Stripes.{block_size}
use Rattle.body_print.proofs.RebuildLemmas.{rebuilt_block}
use Rattle.get_read.proofs.blocks.add_data_block.Goals as goal

-- the block that was rebuilt is that of the stripe
pub returns-clause-block : goal.returns-clause-block
returns-clause-block c = λ ok stripe shards is are same.
    let d = data_drives c.args.set.now.drives c.args.set.now.parity in
    let n = c.args.set.now.drives in
    let size = c.args.size in
    let which = c.args.which in
    let rows = c.args.blocks.now.rows.items in
    let bytes = c.args.blocks.now.bytes.items in
    let new = c.rebuild.new.out in
    let slot : length c.as_mut_slice.result.now ≡ size = search rules in
    let made : length new ≡ size = search rules in
    let rows_are : c.as_slice-2.result.now ≡ rows = search rules in
    let bytes_are : c.as_slice-3.result.now ≡ bytes = search rules in
    let out = c.in_ok-out.out in
    let long : length out.items ≡ size = search rules in
    let past : drop (length new) out.items ≡ [] = drop_of_length-le out.items (omega (arith, made, long)) in
    let full : length new ≤ out.len = omega (arith, made, long, out.ok) in
    let slice : c.as_slice-4.result.now ≡ new =
    c.as_slice-4.ensures.value ∙ ap (λ (rest : List ℕ). take out.len (new ++ rest)) past
    ∙ ap (λ (all : List ℕ). take out.len all) (append-nil new) ∙ take_all out.len new full in
    let code : (k : ℕ) → k < size → IsOfCodeword n d rows (column d size k bytes) which (slice_index new k) =
    subst (λ (b : List ℕ). (k : ℕ) → k < size → IsOfCodeword n d rows (column d size k b) which (slice_index new k)) bytes_are
    (subst (λ (r : List ℕ). (k : ℕ) → k < size → IsOfCodeword n d r (column d size k c.as_slice-3.result.now) which (slice_index new k)) rows_are
    (subst (λ (w : ℕ). (k : ℕ) → k < w → IsOfCodeword n d c.as_slice-2.result.now (column d w k c.as_slice-3.result.now) which (slice_index new k)) slot
    c.rebuild.ensures)) in
    let block : new ≡ slice_index_or shards which [] =
    rebuilt_block n d size which rows bytes new stripe shards (omega arith) c.requires.blocks.rows c.requires.blocks.below c.requires.blocks.distinct (omega arith)
    (c.requires.blocks.fits ∙ ap (block_size d) (sym is)) made are (λ j below. same j (omega (arith, below, c.requires.blocks.rows))) code in
    c.in_ok-extend_from_slice.ensures.items ∙ ap (λ (rest : List ℕ). c.args.body.now.items ++ rest) (slice ∙ block)
