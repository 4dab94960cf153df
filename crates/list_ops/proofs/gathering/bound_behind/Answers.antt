use Rattle.std.proofs.Common.{◌≤◌, length, map, Some, sym, ap, ◌∙◌, arith}
use Rattle.std.specs.Prelude.{string_bytes, option_map}
use Rattle.std.proofs.lemmas.List.{length-map}
use Rattle.receipts.specs.Pages.{begins_with}
use Rattle.list_page.specs.Asks.{rule_of}
use Rattle.list_ops.specs.Sheets.{lesser, range}
use Rattle.list_ops.proofs.FindLemmas.{inside_bound, last_string, outside_bound}
use Rattle.list_ops.proofs.gathering.bound_behind.Goals as goal

pub returns-then-not-is_in_range : goal.returns-then-not-is_in_range
returns-then-not-is_in_range c =
    let rule = rule_of c.args.target.now.ask in
    let bucket = c.args.target.now.bucket in
    let names = c.args.names.now in
    let last = c.in-Some.last.now in
    let long = length-map names string_bytes in
    let few = c.if-names-most.false in
    let full : c.args.most ≤ length (map string_bytes names) = omega (arith, long, few) in
    outside_bound rule bucket c.args.most (map string_bytes names) (option_map string_bytes c.args.bound) full (string_bytes last)
    (last_string names last (sym c.in-Some.ensures.value))
    (ap (begins_with (range rule bucket)) (sym c.as_bytes.ensures.value) ∙ sym c.if-not-is_in_range.ensures)

pub returns : goal.returns
returns c =
    let rule = rule_of c.args.target.now.ask in
    let bucket = c.args.target.now.bucket in
    let names = c.args.names.now in
    let last = c.in-Some.last.now in
    let bound = option_map string_bytes c.args.bound in
    let long = length-map names string_bytes in
    let few = c.if-names-most.false in
    let full : c.args.most ≤ length (map string_bytes names) = omega (arith, long, few) in
    ap Some (c.in_ok-bound.ensures ∙ ap (lesser bound) c.as_str.ensures.value)
    ∙ inside_bound rule bucket c.args.most (map string_bytes names) bound full (string_bytes last) (last_string names last (sym c.in-Some.ensures.value))
    (ap (begins_with (range rule bucket)) (sym c.as_bytes.ensures.value) ∙ sym c.if-not-is_in_range.ensures)
