-- The digests of one table more.
use Rattle.std.proofs.Common.{◌≡◌, ◌∙◌, ◌+◌, ◌*◌, ◌<◌, ◌++◌, ℕ, List, ap, arith, drop, length, slice_index_or, sym, take}
use Rattle.std.specs.List.{concat}
use Rattle.std.proofs.Math.Seq.{drop-drop}
use Rattle.std.proofs.lemmas.List.Concat.{concat_is}
use Rattle.put_stage.specs.StripeBlocks.{all_bytes}
use Rattle.put_stage.proofs.FillLemmas.{digests_added, others_stay}
use Rattle.put_stage.proofs.fills.add_digests.Goals as goal

pub loop-table-preserved : goal.loop-table-preserved
loop-table-preserved c =
    let i = c.loop-table.table-index in
    let count = c.args.count in
    let digests = c.args.digests.now in
    let low : i < length c.loop-table.tables = omega arith in
    let of : ℕ → List ℕ = λ (k : ℕ). concat (take count (drop (count * k) digests)) in
    let next : count * i + count ≡ count * (i + 1) = omega arith in
    let joined : c.extend_from_slice.new.self.items ≡ (slice_index_or c.loop-table.tables i c.table-item.result).items ++ of i =
    c.in_ok-extend_from_slice.ensures.items
    ∙ ap (λ (bytes : List ℕ). (slice_index_or c.loop-table.tables i c.table-item.result).items ++ bytes)
    (c.as_flattened.ensures.value ∙ sym (concat_is c.split_at.result.0.now) ∙ ap concat (c.split_at.ensures.front ∙ ap (take count) c.loop-table.invariant.rest)) in
    record {
      rest = c.split_at.ensures.back ∙ ap (drop count) c.loop-table.invariant.rest ∙ drop-drop count (count * i) digests ∙ ap (λ (m : ℕ). drop m digests) next;
      added = digests_added c.loop-table.tables (all_bytes c.args.tables.now) of i c.table-item.result c.extend_from_slice.new.self low joined
          c.loop-table.invariant.added c.loop-table.invariant.others;
      others = others_stay c.loop-table.tables (all_bytes c.args.tables.now) of i c.table-item.result c.extend_from_slice.new.self c.loop-table.invariant.others;
    }
