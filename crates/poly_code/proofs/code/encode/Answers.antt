use Rattle.std.proofs.Common.{◌≡◌, ℕ, ◌*◌, ◌/◌, length, take, sym, ◌∙◌, ap, arith}
use Rattle.poly_code.specs.declared.code.TheConstants.{ROWS}
use Rattle.poly_code.proofs.BlockLemmas.{width_is, length-data_rows, data_rows-distinct}
use Rattle.poly_code.proofs.CodewordLemmas.{encoded_values}
use Rattle.poly_code.proofs.FoldWeights.{folded_values}
use Rattle.poly_code.proofs.code.encode.Goals as goal

pub fill_blocks-requires-clause-distinct : goal.fill_blocks-requires-clause-distinct
fill_blocks-requires-clause-distinct c = data_rows-distinct c.read_quorum-data_blocks.result (omega arith)

pub fill_blocks-requires-clause-have : goal.fill_blocks-requires-clause-have
fill_blocks-requires-clause-have c =
    let data_blocks : ℕ = c.read_quorum-data_blocks.result in
    let parity : ℕ = c.args.set.parity in
    let width : ℕ = length c.args.out.now / parity in
    let given : ℕ = c.requires.0 in
    let same : width ≡ given = width_is (length c.args.out.now) parity given c.args.set.some_parity c.requires.1.1 in
    let rows : length (take data_blocks ROWS) ≡ data_blocks = length-data_rows data_blocks (omega arith) in
    c.requires.1.0 ∙ ap (λ d. d * given) (sym c.read_quorum-data_blocks.ensures.quorum) ∙ ap (λ w. data_blocks * w) (sym same) ∙
    ap (λ d. d * width) (sym rows)

pub fill_blocks-requires-clause-out : goal.fill_blocks-requires-clause-out
fill_blocks-requires-clause-out c =
    let parity : ℕ = c.args.set.parity in
    let same : length c.args.out.now / parity ≡ c.requires.0 =
    width_is (length c.args.out.now) parity c.requires.0 c.args.set.some_parity c.requires.1.1 in
    c.requires.1.1 ∙ ap (λ w. parity * w) (sym same)

pub returns : goal.returns
returns c =
    encoded_values c.args.set.drives c.read_quorum-data_blocks.result c.args.set.parity c.requires.0 c.args.blocks.now c.fill_blocks.new.out
    (length c.args.out.now) c.read_quorum-data_blocks.ensures.quorum (omega arith) (omega arith) (omega arith)
    c.args.set.some_parity c.requires.1.0 c.requires.1.1 (λ i. omega (arith, c.type_inv.blocks i)) c.fill_blocks.ensures

pub returns-then-is_foldable : goal.returns-then-is_foldable
returns-then-is_foldable c =
    encoded_values c.args.set.drives c.read_quorum-data_blocks.result c.args.set.parity c.requires.0 c.args.blocks.now c.fold_into.new.out
    (length c.args.out.now) c.read_quorum-data_blocks.ensures.quorum (omega arith) (omega arith) (omega arith)
    c.args.set.some_parity c.requires.1.0 c.requires.1.1 (λ i. omega (arith, c.type_inv.blocks i))
    (folded_values c.read_quorum-data_blocks.result c.args.set.parity (length c.args.out.now / c.args.set.parity) c.args.blocks.now c.fold_into.new.out
    (sym c.is_foldable.ensures ∙ c.if-is_foldable.true) (omega arith) (λ i. omega (arith, c.type_inv.blocks i)) c.fold_into.ensures)
