use Rattle.std.proofs.Common.{◌<◌, length, subst, sym, arith}
use Rattle.std.specs.Prelude.{MatchOption}
use Rattle.list_page.specs.Asks.{rule_of}
use Rattle.list_ops.specs.Seeking.{IsWanted}
use Rattle.list_ops.specs.Sheets.{IsPassed, sheet_of}
use Rattle.list_ops.proofs.PlaceLemmas.{ends_beyond, finds, name_at, passes_on}
use Rattle.list_ops.proofs.seeking.find_wanted.Goals as goal

pub returns-then-not-is_within : goal.returns-then-not-is_within
returns-then-not-is_within c =
    let work = c.args.work.now in
    let place = c.loop-place.place in
    let test = c.loop-place-test.true in
    let end = c.len-place-end.ensures in
    let inside : place < length work.found.items = omega (arith, test, end) in
    let at = name_at work.found.items place c.index.result.now c.as_str-name.result.now inside c.index.ensures c.as_str-name.ensures.value in
    ends_beyond (rule_of c.args.target.now.ask) c.args.target.now.bucket work place c.as_str-name.result.now at c.loop-place.invariant (sym c.if-not-is_within.ensures)

pub returns-in-Some : goal.returns-in-Some
returns-in-Some c =
    let rule = rule_of c.args.target.now.ask in
    let bucket = c.args.target.now.bucket in
    let work = c.args.work.now in
    let place = c.loop-place.place in
    let test = c.loop-place-test.true in
    let end = c.len-place-end.ensures in
    let inside : place < length work.found.items = omega (arith, test, end) in
    let text = c.as_str-name.result.now in
    let at = name_at work.found.items place c.index.result.now text inside c.index.ensures c.as_str-name.ensures.value in
    let wanted = subst (λ found. MatchOption found (IsPassed rule bucket (sheet_of work) text) (IsWanted rule bucket (sheet_of work) text)) c.in-Some.is
    c.in_ok-wanted.ensures in
    finds rule bucket work place text at c.loop-place.invariant c.in-Some.wanted inside (sym c.if-not-is_within.ensures) wanted

pub loop-place-preserved : goal.loop-place-preserved
loop-place-preserved c =
    let rule = rule_of c.args.target.now.ask in
    let bucket = c.args.target.now.bucket in
    let work = c.args.work.now in
    let place = c.loop-place.place in
    let test = c.loop-place-test.true in
    let end = c.len-place-end.ensures in
    let inside : place < length work.found.items = omega (arith, test, end) in
    let text = c.as_str-name.result.now in
    let at = name_at work.found.items place c.index.result.now text inside c.index.ensures c.as_str-name.ensures.value in
    let passed = subst (λ found. MatchOption found (IsPassed rule bucket (sheet_of work) text) (IsWanted rule bucket (sheet_of work) text)) c.in_default.is
    c.in_ok-wanted.ensures in
    passes_on rule bucket work place text at c.loop-place.invariant passed
