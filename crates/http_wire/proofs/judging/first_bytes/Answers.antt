use Rattle.std.proofs.Common.{◌≡◌, ℕ, length, take, min, ap, ◌∙◌, arith}
use Rattle.std.proofs.lemmas.List.{take_min}
use Rattle.http_wire.proofs.judging.first_bytes.Goals as goal

pub returns-clause-first : goal.returns-clause-first
returns-clause-first c =
    let bytes = c.args.bytes.now in
    let most : c.min.result ≡ min 65536 (length bytes) = omega arith in
    ap (λ (n : ℕ). take n bytes) most ∙ take_min 65536 bytes
