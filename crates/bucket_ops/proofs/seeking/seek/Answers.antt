use Rattle.std.proofs.Common.{Some, None, string_bytes, subst, subst₂}
use Rattle.bucket_ops.specs.Seeking.{Finds, FindsBefore, sheet_of}
use Rattle.bucket_ops.proofs.SeekLemmas.{ends_sought, goes_to_look, passes_all}
use Rattle.bucket_ops.proofs.seeking.seek.Goals as goal

pub returns-in-Ok-Some-clause-sought : goal.returns-in-Ok-Some-clause-sought
returns-in-Ok-Some-clause-sought c =
    let work = c.args.work in
    let there = c.in-Ok-Some in
    let finds : Finds work.slot c.as_str.result.now c.as_slice.result.now work.at (Some (there.at, there.wanted)) =
    subst (Finds work.slot c.as_str.result.now c.as_slice.result.now work.at) there.field-0-is there.ensures in
    goes_to_look work.slot (string_bytes work.from) work.names.items work.at work.rows.items there.at there.wanted
    (subst₂ (λ from names. FindsBefore work.slot from names work.at there.at there.wanted) c.as_str.ensures.value c.as_slice.ensures.value finds)

pub returns-in-Ok-None-clause-sought : goal.returns-in-Ok-None-clause-sought
returns-in-Ok-None-clause-sought c =
    let work = c.args.work in
    let none = c.in-Ok-None in
    let finds : Finds work.slot c.as_str.result.now c.as_slice.result.now work.at None =
    subst (Finds work.slot c.as_str.result.now c.as_slice.result.now work.at) none.field-0-is none.ensures in
    ends_sought (sheet_of work) c.next_page.result
    (passes_all work.slot (string_bytes work.from) work.names.items work.at work.rows.items
    (subst₂ (λ from names. Finds work.slot from names work.at None) c.as_str.ensures.value c.as_slice.ensures.value finds)) c.next_page.ensures.ends
