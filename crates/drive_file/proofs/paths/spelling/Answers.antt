use Rattle.std.proofs.Common.{ℕ, List, subst, ◌≤◌, length, ◌<◌, sym, arith, string_bytes}
use Rattle.drive_file.proofs.PathLemmas.{cut_group, last_group}
use Rattle.drive_file.proofs.paths.spelling.Goals as goal

pub loop-rest-preserved : goal.loop-rest-preserved
loop-rest-preserved c =
    let long : 100 < length c.loop-rest.rest.now = omega (arith, c.loop-rest-test.true) in
    let cut = cut_group c.loop-rest.invariant.groups c.loop-rest.rest.now (string_bytes c.loop-rest.text) long c.loop-rest.invariant.enough in
    let back = c.split_at.ensures.back in
    let front = c.split_at.ensures.front in
    let digits = c.in_ok-encode.ensures in
    let value = c.as_str.ensures.value in
    let first = c.in_ok-push_str.ensures.bytes in
    let second = c.in_ok-push_str-2.ensures.bytes in
    let was = c.loop-rest.invariant.written in
    record {
      groups = cut.0;
      enough = subst (λ (rest : List ℕ). length rest ≤ cut.0) (sym back) cut.1;
      written = let written = cut.2 in cc;
    }

pub returns : goal.returns
returns c =
    let short = last_group c.loop-rest.invariant.groups c.loop-rest.rest.now (omega (arith, c.loop-rest-test.false)) in
    let digits = c.in_ok-encode-2.ensures in
    let value = c.as_str-2.ensures.value in
    let last = c.in_ok-push_str-3.ensures.bytes in
    let was = c.loop-rest.invariant.written in
    cc
