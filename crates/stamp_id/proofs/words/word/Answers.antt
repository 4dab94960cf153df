use Rattle.std.proofs.Common.{rules, ◌≡◌, ℕ, ◌<◌, length, get_or, sym}
use Rattle.std.proofs.lemmas.Nat.{be_bytes_8}
use Rattle.stamp_id.proofs.words.word.Goals as goal

pub returns-clause-spelled : goal.returns-clause-spelled
returns-clause-spelled c =
    let len : length c.args.bytes ≡ 8 = search rules in
    let fits : (i : ℕ) → get_or c.args.bytes i 0 < 256 = λ i. search rules in
    sym (be_bytes_8 c.args.bytes c.from_be_bytes.result len fits c.from_be_bytes.ensures)
