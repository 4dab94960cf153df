use Rattle.std.proofs.Common.{◌≤◌, ◌++◌, length, map, refl, ap, ap₂, subst, ◌∙◌, arith}
use Rattle.std.specs.Prelude.{filter, option_map, string_bytes}
use Rattle.std.proofs.lemmas.List.{length-map}
use Rattle.list_page.specs.Asks.{rule_of}
use Rattle.list_ops.specs.Sheets.{AsksOn, bound_after, is_found, sheet_of}
use Rattle.list_ops.proofs.GatherLemmas.{gathered}
use Rattle.list_ops.proofs.after.after_page.Goals as goal

pub returns-clause-after : goal.returns-clause-after
returns-clause-after c =
    let rule = rule_of c.args.target.now.ask in
    let bucket = c.args.target.now.bucket in
    let work = c.args.work in
    let old = map string_bytes work.found.items in
    let names_are = c.into_vec-names.ensures in
    let long = length-map work.found.items string_bytes in
    let reached = work.reached in
    let inside : work.at ≤ length old = omega (arith, long, reached) in
    subst (λ sheet. AsksOn rule bucket sheet c.ask_on.result)
    (gathered rule bucket (sheet_of work) work.at old (map string_bytes c.keep_found.new.found.items) (map string_bytes c.args.names)
    (option_map string_bytes c.in-Ok.bound) inside refl
    (c.in-Ok.ensures ∙ ap₂ (λ names bound. bound_after rule bucket work.most (map string_bytes names) (option_map string_bytes bound))
    (c.as_slice.ensures.value ∙ names_are) c.take-bound.ensures.value)
    (c.in-Ok-keep_found.ensures.keeps ∙ ap (λ names. old ++ filter (is_found rule bucket work.slot) (map string_bytes names)) names_are))
    c.ask_on.ensures.asks
