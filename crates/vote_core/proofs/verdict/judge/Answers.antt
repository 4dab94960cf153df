use Rattle.std.proofs.Common.{◌-◌, ap, arith, ◌∙◌}
use Rattle.std.proofs.lemmas.List.{get_or_read}
use Rattle.vote_core.proofs.VerdictLemmas.{settled, pending}
use Rattle.vote_core.specs.Row.{next_change}
use Rattle.vote_core.specs.Verdict.{holders}
use Rattle.vote_core.specs.declared.row.Row.TheVariants.{Bad}
use Rattle.vote_core.proofs.verdict.judge.Goals as goal

pub returns-then-is_settled : goal.returns-then-is_settled
returns-then-is_settled c =
    let rows = c.args.rows.now in
    let base = get_or_read rows _ _ (c.greatest_base-base_lane.ensures.0) c.index-rows-base_lane.is Bad in
    let next = get_or_read rows _ _ (c.greatest_next-lane.ensures.0) c.index-rows-lane-2.is Bad in
    let counted = get_or_read rows _ _ (c.greatest_next-lane.ensures.0) c.index-rows-lane.is Bad in
    let held = c.count_holders-k.ensures.count ∙ ap (λ x. holders x rows) (c.next_change.ensures ∙ ap next_change counted) in (
      omega arith,
      c.greatest_base-base_lane.ensures,
      (
        c.greatest_next-lane.result,
        c.greatest_next-lane.ensures,
        settled _ _ _ (c.args.set.now.drives - c.count_good-good.result) rows _ _ _ _ base next c.write_quorum.ensures.quorum held (omega arith)
            c.if-is_settled.ensures,
      ),
    )

pub returns : goal.returns
returns c =
    let rows = c.args.rows.now in
    let base = get_or_read rows _ _ (c.greatest_base-base_lane.ensures.0) c.index-rows-base_lane.is Bad in
    let next = get_or_read rows _ _ (c.greatest_next-lane.ensures.0) c.index-rows-lane-2.is Bad in
    let counted = get_or_read rows _ _ (c.greatest_next-lane.ensures.0) c.index-rows-lane.is Bad in
    let held = c.count_holders-k.ensures.count ∙ ap (λ x. holders x rows) (c.next_change.ensures ∙ ap next_change counted) in (
      omega arith,
      c.greatest_base-base_lane.ensures,
      c.greatest_next-lane.ensures,
      pending _ _ _ (c.args.set.now.drives - c.count_good-good.result) rows _ _ _ _ base next c.write_quorum.ensures.quorum held (omega arith)
          c.if-is_settled.ensures,
      held,
      omega arith,
    )
