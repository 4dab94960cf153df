use Rattle.std.proofs.Common.{rules, ◌++◌, map, ap, ◌∙◌}
use Rattle.std.specs.Prelude.{string_bytes}
use Rattle.std.proofs.lemmas.Fn.{filter_same}
use Rattle.std.proofs.lemmas.List.{map-append}
use Rattle.list_page.specs.Asks.{rule_of}
use Rattle.list_ops.specs.Sheets.{is_found}
use Rattle.list_ops.proofs.FindLemmas.{filter_bytes}
use Rattle.list_ops.proofs.gathering.keep_found.Goals as goal

pub returns-clause-keeps : goal.returns-clause-keeps
returns-clause-keeps c =
    let test = is_found (rule_of c.args.target.now.ask) c.args.target.now.bucket c.args.slot in
    let old = c.args.found.now.items in
    let kept = filter_same _ (λ name. test (string_bytes name)) _ (λ x b f' k. search rules) _ _ c.retain.ensures.filtered in
    ap (map string_bytes) c.in_ok-append.ensures.items ∙ (map-append string_bytes old c.retain.new.self.items
    ∙ ap (λ l. map string_bytes old ++ l) (ap (map string_bytes) kept ∙ filter_bytes test c.args.names.items))
