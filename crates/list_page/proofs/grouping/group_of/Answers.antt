use Rattle.std.proofs.Common.{◌∙◌, ◌≤◌, ◌+◌, length, take, Some, sym, ap, arith}
use Rattle.std.proofs.lemmas.List.{length-take-le}
use Rattle.list_page.proofs.GroupLemmas.{group_taken}
use Rattle.list_page.specs.Asks.{rule_of}
use Rattle.list_page.proofs.grouping.group_of.Goals as goal

pub slice_bounds-result-end : goal.slice_bounds-result-end
slice_bounds-result-end c =
    let taken = group_taken (rule_of c.args.ask.now) c.args.key.now c.in-Some.tail.now c.requires c.in-Some.ensures in
    let inside : c.len.result + length c.in-Some.tail.now ≤ length c.args.key.now = omega (arith, c.len.ensures, taken.0) in
    sym (length-take-le (c.len.result + length c.in-Some.tail.now) c.args.key.now inside)

pub returns-in-Some : goal.returns-in-Some
returns-in-Some c =
    let taken = group_taken (rule_of c.args.ask.now) c.args.key.now c.in-Some.tail.now c.requires c.in-Some.ensures in
    c.in-Some.ensures ∙ ap Some (sym (ap (λ n. take (n + length c.in-Some.tail.now) c.args.key.now) c.len.ensures ∙ taken.1))
