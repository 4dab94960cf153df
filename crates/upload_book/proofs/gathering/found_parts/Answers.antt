use Rattle.std.proofs.Common.{List, ◌++◌, take, sym, ap, ◌∙◌, arith}
use Rattle.std.specs.Option.{option_to_list}
use Rattle.call_types.specs.declared.version.PartRecord.{PartRecord}
use Rattle.upload_book.specs.declared.gathering.ListedPart.{ListedPart}
use Rattle.upload_book.specs.Gathering.{parts_of}
use Rattle.upload_book.proofs.GatherLemmas.{more_parts}
use Rattle.upload_book.proofs.gathering.found_parts.Goals as goal

pub loop-listed_part-preserved : goal.loop-listed_part-preserved
loop-listed_part-preserved c =
    let listed = c.args.listed.now in
    let at = c.loop-listed_part.listed_part-index in
    let one = c.listed_part-item.result in
    c.in_ok-push_found.ensures
    ∙ ap (λ (ps : List PartRecord). ps ++ option_to_list one.found) c.loop-listed_part.invariant
    ∙ ap (λ (l : ListedPart). parts_of (take at listed) ++ option_to_list l.found) c.listed_part-item.is
    ∙ sym (more_parts listed at one (omega (arith, c.loop-listed_part-test.true)))
