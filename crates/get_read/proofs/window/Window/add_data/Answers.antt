use Rattle.std.proofs.Common.{rules, ◌≡◌, ◌<◌, ◌≤◌, ◌+◌, ◌-◌, ◌*◌, ◌∙◌, ◌++◌, ℕ, List, [], length, slice_index_or, take, drop, ap, refl, sym, arith}
use Rattle.std.specs.List.{concat}
use Rattle.std.proofs.Math.Seq.{take-append-add}
use Rattle.std.proofs.lemmas.List.{append_assoc, length-append, length-take, take-append-le, take-take}
use Rattle.drive_base.specs.Plan.{data_drives}
use Rattle.shard_file.proofs.ShardLemmas.{concat-take_more}
use Rattle.shard_file.proofs.StripeLemmas.{blocks_reach, data_blocks_are_the_stripe}
use Rattle.shard_file.specs.Stripes.{block_size, stripe_size}
use Rattle.get_read.specs.Windows.{run_block}
use Rattle.get_read.proofs.WindowLemmas.{piece_full, run_below, run_inside, sliced}
use Rattle.get_read.proofs.window.Window.add_data.Goals as goal

pub overflow_mul-from-in-loop-row : goal.overflow_mul-from-in-loop-row
overflow_mul-from-in-loop-row c =
    let w = c.args.self.now in
    let within = run_inside c.loop-row.row (length w.rows.items) c.args.stripe w.count w.size (omega arith) c.requires.stripe in
    omega (arith, within, w.long)

pub overflow_add-from-in-loop-row : goal.overflow_add-from-in-loop-row
overflow_add-from-in-loop-row c =
    let w = c.args.self.now in
    let within = run_inside c.loop-row.row (length w.rows.items) c.args.stripe w.count w.size (omega arith) c.requires.stripe in
    omega (arith, within, w.long)

pub slice_bounds-extend_from_slice-end : goal.slice_bounds-extend_from_slice-end
slice_bounds-extend_from_slice-end c =
    let w = c.args.self.now in
    let within = run_inside c.loop-row.row (length w.rows.items) c.args.stripe w.count w.size (omega arith) c.requires.stripe in
    omega (arith, within, w.long, c.as_slice.ensures.len)

pub loop-row-preserved : goal.loop-row-preserved
loop-row-preserved c =
    let w = c.args.self.now in
    let row = c.loop-row.row in
    let n = length w.rows.items in
    let inv = c.loop-row.invariant in
    let old = c.args.body.now.items in
    let begun = c.loop-row.body.items in
    let new = c.extend_from_slice.new.self.items in
    let low : row < n = omega arith in
    let k = row * w.count + c.args.stripe in
    let cut : List ℕ = take (k * w.size + w.size - k * w.size) (drop (k * w.size) c.as_slice.result.now) in
    let block : cut ≡ run_block w row c.args.stripe = sliced w.size k (k * w.size) c.as_slice.result.now w.bytes.items refl c.as_slice.ensures.value in
    let inside : k < n * w.count = omega (arith, run_below row n c.args.stripe w.count low c.requires.stripe) in
    let cut_long : length cut ≡ w.size = ap (length {A = ℕ}) block ∙ piece_full w.size (n * w.count) k w.bytes.items w.long inside in
    let joined : new ≡ begun ++ cut = c.in_ok-extend_from_slice.ensures.items in
    let longer : length new ≡ length begun + length cut = ap (length {A = ℕ}) joined ∙ length-append begun cut in
    let next : (row + 1) * w.size ≡ row * w.size + w.size = omega arith in
    record {
      long = omega (arith, longer, cut_long, inv.long, next);
      kept = ap (take (length old)) joined ∙ take-append-le (length old) begun cut (omega (arith, inv.long)) ∙ inv.kept;
      front = λ stripe shards is are each.
          joined ∙ ap (λ (b : List ℕ). begun ++ b) (block ∙ each row low ∙ ap (λ (r : ℕ). slice_index_or shards r []) (c.requires.own row low))
          ∙ ap (λ (b : List ℕ). b ++ slice_index_or shards row []) (inv.front stripe shards is are each)
          ∙ append_assoc old (concat (take row shards)) (slice_index_or shards row [])
          ∙ ap (λ (rest : List ℕ). old ++ rest) (sym (concat-take_more shards row (omega (arith, are.count))));
    }

pub returns : goal.returns
returns c =
    let d = data_drives c.args.set.now.drives c.args.set.now.parity in
    let old = c.args.body.now.items in
    let inv = c.loop-row.invariant in
    let body = c.loop-row.body.items in
    let all : c.loop-row.row ≡ d = search rules in
    let begin : c.len.result ≡ length old = search rules in
    let made : c.loop-row.row * c.args.self.now.size ≡ d * block_size d stripe_size = ap (λ (m : ℕ). m * c.args.self.now.size) all ∙ ap (λ (m : ℕ). d * m) c.requires.size in
    let reach : stripe_size ≤ d * block_size d stripe_size = blocks_reach d stripe_size (omega arith) in
    record {
      long = ap (length {A = ℕ}) c.truncate.ensures.items ∙ length-take (c.len.result + 1048576) body ∙ omega (arith, inv.long, made, reach, begin);
      kept = ap (take (length old)) c.truncate.ensures.items ∙ take-take (length old) (c.len.result + 1048576) body (omega (arith, begin)) ∙ inv.kept;
      stripe = λ stripe shards is are each.
          let gives : body ≡ old ++ concat (take d shards) = inv.front stripe shards is are each ∙ ap (λ (m : ℕ). old ++ concat (take m shards)) all in
          c.truncate.ensures.items
          ∙ ap (λ (m : ℕ). take (m + 1048576) body) begin
          ∙ ap (λ (bytes : List ℕ). take (length old + 1048576) bytes) gives
          ∙ take-append-add old (concat (take d shards)) 1048576
          ∙ ap (λ (m : ℕ). old ++ take m (concat (take d shards))) (sym is)
          ∙ ap (λ (blocks : List (List ℕ)). old ++ take (length stripe) (concat blocks)) are.front
          ∙ ap (λ (bytes : List ℕ). old ++ bytes) (data_blocks_are_the_stripe d stripe (omega arith));
    }
