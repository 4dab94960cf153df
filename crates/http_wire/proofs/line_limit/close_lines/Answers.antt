use Rattle.std.proofs.Common.{ℕ, List, [], ◌∷◌, ◌++◌, length, drop, ap, ◌∙◌, arith, length-append, length-drop}
use Rattle.std.proofs.lemmas.List.{take_more_set, take_at}
use Rattle.http_wire.proofs.line_limit.close_lines.Goals as goal

pub returns : goal.returns
returns c =
    let n = length c.args.lines.now in
    let front = c.copy_from_slice.new.self in
    let rest = drop n c.args.text.now in
    let same = c.copy_from_slice.ensures.after in
    take_more_set (front ++ rest) n 10 (omega (arith, length-append front rest, ap length same, length-drop n c.args.text.now))
    ∙ ap (λ (t : List ℕ). t ++ 10 ∷ []) (take_at front rest n (ap length same) ∙ same)
