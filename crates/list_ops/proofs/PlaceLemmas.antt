-- The names that are passed over, place by place, and the names in their order.
use Rattle.std.proofs.Common.{◌≡◌, ℕ, ◌+◌, ◌-◌, ◌<◌, ◌≤◌, true, false, List, [], ◌∷◌, ◌++◌, length, map, drop, take, Some, sym, ap, ap₂, subst, suc, ◌∙◌, append_assoc, append-nil, arith, drop-cons, length-append, length-drop, length-take-le, take_all, drop_of_length-le}
use Rattle.std.specs.Prelude.{Vec, slice_index_or, string_bytes, String}
use Rattle.std.specs.Vec.{with_items}
use Rattle.std.specs.List.{drop-map}
use Rattle.std.specs.List.Sorted.{IsPermutation, IsSorted}
use Rattle.std.proofs.Math.Seq.{drop-append_seam}
use Rattle.std.proofs.lemmas.List.{get_or-map, length-map, map-append, with_items_is}
use Rattle.std.proofs.lemmas.List.Elements.{All-push}
use Rattle.std.proofs.lemmas.List.Sorted.{IsPermutation-map}
use borrow.Rule.Slice.PartMut.{post_of}
use Rattle.drive_base.specs.Names.{byte_order}
use Rattle.receipts.specs.Pages.{PageRule}
use Rattle.list_ops.specs.Seeking.{FindsNext, IsWanted, PassesTo}
use Rattle.list_ops.specs.Sheets.{EndsRound, IsPassed, is_within, sheet_of}
use Rattle.list_ops.specs.declared.page_state.Wanted.{Wanted}
use Rattle.list_ops.specs.declared.page_state.Work.{Work}

-- the names from a place on begin with the one at the place
pub name_at : {Y : Type 0} (items : List (String Y)) (place : ℕ) (name : String Y) (text : List ℕ) → place < length items → name ≡ slice_index_or items place name
    → text ≡ string_bytes name → drop place (map string_bytes items) ≡ text ∷ drop (place + 1) (map string_bytes items)
name_at items place name text inside is text_is =
    let long = length-map items string_bytes in
    let next : suc place ≡ place + 1 = omega arith in
    let value = get_or-map string_bytes items place name (string_bytes name) inside in
    drop-cons (map string_bytes items) place (string_bytes name) (omega (arith, inside, long))
    ∙ ap₂ (λ n m. n ∷ drop m (map string_bytes items)) ((value ∙ ap string_bytes (sym is)) ∙ sym text_is) next

module _ (rule : PageRule) (bucket : List ℕ) (work : Work) (place : ℕ) (text : List ℕ)
    (at : drop place (map string_bytes work.found.items) ≡ text ∷ drop (place + 1) (map string_bytes work.found.items))
    (to : PassesTo rule bucket (sheet_of work) (drop place (map string_bytes work.found.items))) where
  abbrev pub after : List (List ℕ)
  after = drop (place + 1) (map string_bytes work.found.items)

  parts_at : (sheet_of work).left ≡ to.passed ++ text ∷ after
  parts_at = to.parts ∙ ap (λ l. to.passed ++ l) at

  -- the name at the place is passed over too
  pub passes_on : IsPassed rule bucket (sheet_of work) text → PassesTo rule bucket (sheet_of work) after
  passes_on passed = record {
    passed = to.passed ++ text ∷ [];
    parts = parts_at ∙ sym (append_assoc to.passed (text ∷ []) after);
    are_passed = All-push (IsPassed rule bucket (sheet_of work)) to.passed text to.are_passed passed;
  }

  -- it isn't within the bound
  pub ends_beyond : is_within (sheet_of work).bound text ≡ false → EndsRound rule bucket (sheet_of work)
  ends_beyond outside = record {
    passed = to.passed;
    rest = text ∷ after;
    parts = parts_at;
    are_passed = to.are_passed;
    beyond = λ name more is. subst (λ n. is_within (sheet_of work).bound n ≡ false) (ap (λ l. slice_index_or l 0 text) is) outside;
  }

  -- its key is looked at next
  pub finds : (wanted : Wanted) → place < length work.found.items → is_within (sheet_of work).bound text ≡ true
      → IsWanted rule bucket (sheet_of work) text wanted → FindsNext rule bucket work (place + 1, wanted)
  finds wanted inside within is = record {
    inside = omega (arith, inside);
    goes = record {
      passed = to.passed;
      name = text;
      parts = parts_at;
      are_passed = to.are_passed;
      within = within;
      behind = is.behind;
      fresh = is.fresh;
      name_is = is.name_is;
      at_is = is.at_is;
      slot_is = is.slot_is;
      same = ap (λ n. record (sheet_of work) { left = after; last = Some n }) is.name_is;
    };
  }

-- what is left once the part from a place on is in its order
module _ {Y : Type 0} (at : ℕ) (old sorted : List (String Y)) (inside : at ≤ length old) where
  abbrev pub part : List (String Y)
  part = take (length old - at) (drop at old)

  part_is : part ≡ drop at old
  part_is = let long = length-drop at old in take_all (length old - at) (drop at old) (omega (arith, long))

  none_behind : post_of at (length old - at) old ≡ []
  none_behind = let long = length-drop at old in drop_of_length-le (drop at old) (omega (arith, long))

  pub left_is : drop at (map string_bytes (take at old ++ (sorted ++ post_of at (length old - at) old))) ≡ map string_bytes sorted
  left_is =
      let front = take at old in
      let long = length-take-le at old inside in
      let as_map = length-map front string_bytes in
      let seam : drop (length (map string_bytes front)) (map string_bytes front ++ map string_bytes sorted) ≡ map string_bytes sorted
      = drop-append_seam (map string_bytes front) (map string_bytes sorted) in
      ap (λ l. drop at (map string_bytes (front ++ l))) (ap (λ l. sorted ++ l) none_behind ∙ append-nil sorted)
      ∙ (ap (drop at) (map-append string_bytes front sorted)
      ∙ subst (λ n. drop n (map string_bytes front ++ map string_bytes sorted) ≡ map string_bytes sorted) (as_map ∙ long) seam)

  -- so it is in a vector that was written over
  pub left_in : {Z : Type 0} (found : Vec (String Y) Z) → old ≡ found.items → length sorted ≡ length part
      → drop at (map string_bytes (with_items found (take at old ++ (sorted ++ post_of at (length old - at) old))).items) ≡ map string_bytes sorted
  left_in found is same =
      let behind = post_of at (length old - at) old in
      let all = take at old ++ (sorted ++ behind) in
      let parts = length-append (take at old) (sorted ++ behind) in
      let ends = length-append sorted behind in
      let none = ap length none_behind in
      let front = length-take-le at old inside in
      let rest = ap length part_is in
      let long = length-drop at old in
      let items = ap length is in
      let len = found.ok.0 in
      let whole : length all ≡ found.len = omega (arith, parts, ends, none, front, rest, long, items, len, same, inside) in
      ap (λ l. drop at (map string_bytes l)) (with_items_is found all whole) ∙ left_is

  pub permutes : IsPermutation part sorted → IsPermutation (drop at (map string_bytes old)) (map string_bytes sorted)
  permutes h = subst (λ l. IsPermutation l (map string_bytes sorted)) (sym (drop-map string_bytes at old))
      (IsPermutation-map string_bytes (drop at old) sorted (subst (λ l. IsPermutation l sorted) part_is h))

-- strings in their order are so by their bytes
pub sorted_bytes : {Y : Type 0} (items : List (String Y)) → IsSorted (λ a b. byte_order (string_bytes a) (string_bytes b)) items
    → IsSorted byte_order (map string_bytes items)
sorted_bytes [] h k d low high = absurd (omega (arith, high))
sorted_bytes {Y} (o ∷ items) h k d low high =
    let long = length-map (o ∷ items) string_bytes in
    let first = get_or-map string_bytes (o ∷ items) k o d (omega (arith, high, long)) in
    let second = get_or-map string_bytes (o ∷ items) (k + 1) o d (omega (arith, high, long)) in
    rw first (rw second (h k o low (omega (arith, high, long))))
