use Rattle.std.proofs.Common.{ap, ◌∙◌, refl, arith, length, slice_index}
use Rattle.code_lanes.specs.Sums.{sum_at}
use Rattle.code_lanes.proofs.SumLemmas.{stored_next}
use Rattle.code_lanes.proofs.twin.two_sums_into.Goals as goal

pub loop-index-preserved : goal.loop-index-preserved
loop-index-preserved c =
    let first = c.args.first.now in
    let second = c.args.second.now in
    let width = length c.args.out.now in
    let blocks = c.args.blocks.now in
    record {
      first = λ k low within.
          ap (λ xs. slice_index xs k) c.store.ensures
          ∙ stored_next width c.loop-index.index c.saturating_sub-at.result c.loop-index.out c.two_strips-strips.result.0 (sum_at first width blocks)
          (omega arith) (omega arith) c.saturating_sub-at.ensures (c.two_strips-strips.ensures.first first c.sum_tables_of-tables.ensures refl)
          c.loop-index.invariant.first k low within;
      second = λ k low within.
          ap (λ xs. slice_index xs k) c.store-in-loop-index.ensures
          ∙ stored_next width c.loop-index.index c.saturating_sub-at.result c.loop-index.other c.two_strips-strips.result.1 (sum_at second width blocks)
          (omega arith) (omega arith) c.saturating_sub-at.ensures (c.two_strips-strips.ensures.second second c.sum_tables_of-others.ensures c.requires.second)
          c.loop-index.invariant.second k low within;
    }
