use Rattle.std.proofs.Common.{◌∙◌, ◌+◌, ◌++◌, ◌∷◌, drop, sym, ap}
use Rattle.std.specs.Prelude.{◌==◌}
use Rattle.receipts.specs.Pages.{all_rows, row_of}
use Rattle.list_page.proofs.AddLemmas.{row_added, row_at}
use Rattle.list_page.proofs.rowing.add_all.Goals as goal

pub loop-place-preserved : goal.loop-place-preserved
loop-place-preserved c =
    let all = all_rows c.args.key.now c.args.versions.now in
    let row_is = c.in_ok-row.ensures ∙ ap (row_of c.args.key.now (c.loop-place.place == 0)) c.index-versions-place.is in
    ap (λ rows. rows ++ drop (c.loop-place.place + 1) all) c.in_ok-push.ensures.items
    ∙ row_added c.loop-place.rows.items c.in_ok-row.row (drop c.loop-place.place all) (drop (c.loop-place.place + 1) all)
    (c.args.rows.now.items ++ drop c.args.left_out all) c.loop-place.invariant
    (row_at c.args.key.now c.args.versions.now c.loop-place.place c.index-versions-place.result c.loop-place-test.true
    ∙ ap (λ row. row ∷ drop (c.loop-place.place + 1) all) (sym row_is))
