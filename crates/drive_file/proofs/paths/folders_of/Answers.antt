use Rattle.std.proofs.Common.{◌<◌, ◌≤◌, ◌++◌, ℕ, List, ap, arith, length, map, string_bytes, subst, sym, ◌∙◌}
use Rattle.std.proofs.lemmas.List.{append-nil, map-append}
use Rattle.drive_file.proofs.FolderLemmas.{cut_folder, inner_last}
use Rattle.drive_file.proofs.paths.folders_of.Goals as goal

pub loop-rest-preserved : goal.loop-rest-preserved
loop-rest-preserved c =
    let long : 100 < length c.loop-rest.rest.now = omega (arith, c.loop-rest-test.true) in
    let cut = cut_folder c.loop-rest.invariant.groups (string_bytes c.loop-rest.text) c.loop-rest.rest.now (map string_bytes c.loop-rest.folders.items)
    long c.loop-rest.invariant.enough in
    let back = c.split_at.ensures.back in
    let front = c.split_at.ensures.front in
    let digits = c.in_ok-encode.ensures in
    let value = c.as_str.ensures.value in
    let first = c.in_ok-push_str-2.ensures.bytes in
    let second = c.in_ok-push_str-3.ensures.bytes in
    let copied = c.in_ok-from_str.ensures in
    let pushed = c.in_ok-push.ensures.items in
    let third = c.in_ok-push_str-4.ensures.bytes in
    let was = c.loop-rest.invariant.listed in
    record {
      groups = cut.0;
      enough = subst (λ (rest : List ℕ). length rest ≤ cut.0) (sym back) cut.1;
      listed = let listed = cut.2 in grind (arith, map-append);
    }

pub returns : goal.returns
returns c =
    let none = inner_last c.loop-rest.invariant.groups (string_bytes c.loop-rest.text) c.loop-rest.rest.now (omega (arith, c.loop-rest-test.false)) in
    let listed = map string_bytes c.loop-rest.folders.items in
    sym (append-nil listed) ∙ ap (λ (rest : List (List ℕ)). listed ++ rest) (sym none) ∙ c.loop-rest.invariant.listed
