use Rattle.std.proofs.Common.{◌≤◌, length, drop, map, refl, sym, ap, subst}
use Rattle.std.specs.Prelude.{string_bytes}
use Rattle.std.specs.List.Sorted.{IsPermutation, IsSorted}
use Rattle.drive_base.specs.Names.{byte_order}
use Rattle.list_ops.proofs.PlaceLemmas.{left_in, permutes, sorted_bytes}
use Rattle.list_ops.proofs.seeking.sort_found.Goals as goal

pub returns-clause-sorts : goal.returns-clause-sorts
returns-clause-sorts c =
    let work = c.args.work.now in
    let old = c.deref_mut.result.now in
    let new = c.sort_unstable.new.self in
    let is = c.deref_mut.ensures.value in
    let inside : work.at ≤ length old = subst (λ items. work.at ≤ length items) (sym is) work.reached in
    let left = sym (left_in work.at old new inside work.found is c.sort_unstable.ensures.len) in
    record {
      sorted = subst (IsSorted byte_order) left (sorted_bytes new c.sort_unstable.ensures.sorted);
      permutes = subst (IsPermutation (drop work.at (map string_bytes work.found.items))) left
          (subst (λ l. IsPermutation l (map string_bytes new)) (ap (λ items. drop work.at (map string_bytes items)) is)
          (permutes work.at old new inside c.sort_unstable.ensures.permutation));
      same = refl;
    }
