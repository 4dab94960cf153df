use Rattle.std.proofs.Common.{◌≡◌, ◌+◌, ◌*◌, ◌<◌, ◌∙◌, ap, sym, length, get_or, arith}
use Rattle.std.proofs.lemmas.List.Edits.{get_or-between}
use Rattle.gf256.specs.Polynomial.{value_at}
use Rattle.poly_code.specs.Columns.{byte_of_block}
use Rattle.poly_code.proofs.Differences.{are_rows}
use Rattle.poly_code.proofs.CodewordLemmas.{rebuilt}
use Rattle.drive_base.specs.Plan.{data_drives}
use Rattle.poly_code.proofs.code.rebuild.Goals as goal

pub returns : goal.returns
returns c = λ k lt.
    rebuilt c.args.set.drives (data_drives c.args.set.drives c.args.set.parity) (length c.args.out.now) k c.args.which _ c.args.rows.now c.args.have.now
    (are_rows c.args.rows.now (λ i. omega (arith, c.type_inv.rows i)) c.requires.distinct)
    c.requires.count c.requires.below c.requires.which
    (λ i. omega (arith, c.type_inv.have i))
    (c.fill_block.ensures k lt)

pub returns-in-Some : goal.returns-in-Some
returns-in-Some c = λ k lt.
    let rows = c.args.rows.now in
    let have = c.args.have.now in
    let width = length c.args.out.now in
    let index = c.in-Some.index in
    let at_hand : (index < length rows) × (get_or rows index 0 ≡ c.args.which) = c.in-Some.ensures in
    let copied : get_or c.copy_from_slice.new.self k 0 ≡ byte_of_block width k have index =
    ap (λ xs. get_or xs k 0) c.copy_from_slice.ensures.after ∙ get_or-between have (index * width) (index * width + width) k 0 (omega arith) in
    rebuilt c.args.set.drives (data_drives c.args.set.drives c.args.set.parity) width k c.args.which _ rows have
    (are_rows rows (λ i. omega (arith, c.type_inv.rows i)) c.requires.distinct)
    c.requires.count c.requires.below c.requires.which
    (λ i. omega (arith, c.type_inv.have i))
    (λ p elements count through. copied ∙ sym (through index at_hand.0) ∙ ap (λ x. value_at p x) at_hand.1)
