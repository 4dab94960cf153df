use Rattle.std.proofs.Common.{◌≤◌, List, length, ℕ, subst}
use Rattle.drill_script.specs.Limits.{most_bytes}
use Rattle.drill_script.specs.Reader.{Progress}
use Rattle.drill_script.proofs.ReaderLemmas.{ends_line}
use Rattle.drill_script.proofs.script.ScriptReader.end_line.Goals as goal

pub returns : goal.returns
returns c = λ bytes read.
    let judged = c.in_ok-judge.ensures in
    let mid = subst (λ (r : Progress). length r.line ≤ most_bytes) c.self.view_is c.self.invariant.1 in
    let short = subst (λ (line : List ℕ). length line ≤ most_bytes) judged.line mid in
    ends_line bytes c.args.self.now c.judge.new.self _ _ read c.requires.reads short c.requires.few judged c.self.view_is c.clear.ensures.items
