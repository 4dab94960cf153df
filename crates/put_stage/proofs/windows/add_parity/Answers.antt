-- The parity behind the data blocks.
use Rattle.std.proofs.Common.{◌≡◌, ◌∙◌, ℕ, ◌+◌, ◌-◌, ◌*◌, List, ◌++◌, ap, arith, length, subst, take}
use Rattle.poly_code.specs.Codeword.{Codeword}
use Rattle.poly_code.specs.Columns.{column}
use Rattle.put_stage.proofs.CodingLemmas.{turned}
use Rattle.put_stage.proofs.windows.add_parity.Goals as goal

pub encode-requires : goal.encode-requires
encode-requires c =
    let size = c.args.size in
    let set = c.args.set.now in
    let d = set.drives - set.parity in
    let swapped : size * c.read_quorum.result ≡ d * size = turned size c.read_quorum.result d c.read_quorum.ensures.quorum in
    let whole : size * (c.read_quorum.result + set.parity) ≡ size * set.drives = ap (λ (m : ℕ). size * m) c.read_quorum.ensures.sum in
    (size, (omega (arith, c.split_at_mut-data.ensures.front_len, swapped), omega (arith, c.split_at_mut-data.ensures.back_len, whole, c.requires)))

pub returns : goal.returns
returns c =
    let size = c.args.size in
    let set = c.args.set.now in
    let d = set.drives - set.parity in
    let front = c.split_at_mut-data.result.0.now in
    let out = c.encode.new.out in
    let swapped : size * c.read_quorum.result ≡ d * size = turned size c.read_quorum.result d c.read_quorum.ensures.quorum in
    let whole : size * (c.read_quorum.result + set.parity) ≡ size * set.drives = ap (λ (m : ℕ). size * m) c.read_quorum.ensures.sum in
    let front_long : length front ≡ d * size = omega (arith, c.split_at_mut-data.ensures.front_len, swapped) in
    let front_is : front ≡ take (size * d) c.args.blocks.now =
    c.split_at_mut-data.ensures.front ∙ ap (λ (m : ℕ). take (size * m) c.args.blocks.now) c.read_quorum.ensures.quorum in
    record {
      parity = out;
      long = omega (arith, c.split_at_mut-data.ensures.back_len, whole, c.requires);
      blocks = ap (λ (bytes : List ℕ). bytes ++ out) front_is;
      columns = λ k low. subst (λ (bytes : List ℕ). Codeword set.drives d (column d size k bytes ++ column set.parity size k out)) front_is (c.encode.ensures size front_long k low);
    }
