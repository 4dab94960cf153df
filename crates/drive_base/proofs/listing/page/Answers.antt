use Rattle.std.proofs.Common.{◌<◌, length, arith, map, string_bytes, inl, inr, sym, ◌∙◌}
use Rattle.std.proofs.lemmas.List.{length-map}
use Rattle.std.proofs.lemmas.Map.Iter.{rest_so_far}
use Rattle.std.specs.BTreeMap.{get_by_text}
use Rattle.std.specs.Map.Iter.{deref_pair}
use Rattle.drive_base.specs.declared.drive.TheConstants.{LONGEST_NAME}
use Rattle.drive_base.specs.Names.{IsPage, ListsShown}
use Rattle.drive_base.proofs.PageLemmas.{page_of_keys, passed_over}
use Rattle.drive_base.proofs.listing.page.Goals as goal
use Rattle.drive_base.proofs.listing.page.Given as given

-- the page is full
full : (g : given.Over) (c : goal.Then-len-most g) → IsPage c.args.from.now c.args.most LONGEST_NAME (map string_bytes c.loop-name.names.items) × ListsShown (get_by_text c.args.files.now) c.args.from.now c.args.most LONGEST_NAME (map string_bytes c.loop-name.names.items)
full g c = page_of_keys c.args.files.now c.range-name-items.ensures.ordered c.in_ok-start.start c.args.from.now c.in_ok-start.ensures.ok c.args.most LONGEST_NAME c.loop-name.yielded c.loop-name.name-iterator
    (map string_bytes c.loop-name.names.items)
    (sym (c.into_iter-name-iterator.ensures.into_iter_gives ∙ c.range-name-items.ensures.between tt) ∙ rest_so_far deref_pair c.loop-name.yielded c.into_iter-name-iterator.result c.loop-name.name-iterator c.loop-name.yielded_by)
    c.loop-name.invariant.listed
    (omega (arith, length-map c.loop-name.names.items string_bytes))
    (inr (omega (arith, length-map c.loop-name.names.items string_bytes)))

-- all names were seen
whole : (g : given.Over) (c : goal.In-None g) → IsPage c.args.from.now c.args.most LONGEST_NAME (map string_bytes c.loop-name.names.items) × ListsShown (get_by_text c.args.files.now) c.args.from.now c.args.most LONGEST_NAME (map string_bytes c.loop-name.names.items)
whole g c = page_of_keys c.args.files.now c.range-name-items.ensures.ordered c.in_ok-start.start c.args.from.now c.in_ok-start.ensures.ok c.args.most LONGEST_NAME c.loop-name.yielded c.loop-name.name-iterator
    (map string_bytes c.loop-name.names.items)
    (sym (c.into_iter-name-iterator.ensures.into_iter_gives ∙ c.range-name-items.ensures.between tt) ∙ rest_so_far deref_pair c.loop-name.yielded c.into_iter-name-iterator.result c.loop-name.name-iterator c.loop-name.yielded_by)
    c.loop-name.invariant.listed
    (omega (arith, length-map c.loop-name.names.items string_bytes))
    (inl c.in-None.ensures.steps.0)

pub returns-then-len-most-clause-page : goal.returns-then-len-most-clause-page
returns-then-len-most-clause-page g c = (full g c).0

pub returns-then-len-most-clause-shown : goal.returns-then-len-most-clause-shown
returns-then-len-most-clause-shown g c = (full g c).1

pub returns-clause-page : goal.returns-clause-page
returns-clause-page g c = (whole g c).0

pub returns-clause-shown : goal.returns-clause-shown
returns-clause-shown g c = (whole g c).1

pub loop-name-preserved : goal.loop-name-preserved
loop-name-preserved g c =
    let long : LONGEST_NAME < length (string_bytes c.in-Some.name.now) = omega (arith, c.in-Some.name.now.bytes.ok) in
    record {
      listed = c.loop-name.invariant.listed ∙ sym (passed_over LONGEST_NAME c.loop-name.yielded (c.in-Some.name, c.in-Some.field-0-1) long);
      few = c.loop-name.invariant.few;
    }
