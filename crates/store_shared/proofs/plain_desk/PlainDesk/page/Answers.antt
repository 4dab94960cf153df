use Rattle.std.proofs.Common.{◌<◌, ◌∙◌, inr, length, refl, sym, arith}
use Rattle.std.proofs.lemmas.List.{get_or_default}
use Rattle.store_shared.proofs.plain_desk.PlainDesk.page.Goals as goal

pub returns-clause-pages : goal.returns-clause-pages
returns-clause-pages g c =
    let pass = c.args.pass.now in
    let counted = pass.count in
    let low = c.requires in
    let below : c.args.slot < length pass.slots.items = omega (arith, counted, low) in
    let says = c.list_names.ensures in
    inr (record {
      was = c.index_mut.result.now;
      now = c.list_names.new.self;
      is = λ d. get_or_default pass.slots.items c.args.slot d c.index_mut.result.now below ∙ sym c.index_mut.ensures.value;
      lists = record {
        turns = says.turns;
        says = says.says;
        holds = says.holds;
        leaves = says.leaves;
        lists = says.lists;
        files = says.files;
        lanes = says.lanes;
        out = says.out;
      };
      stays = refl;
    })
