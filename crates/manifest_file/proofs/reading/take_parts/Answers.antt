use Rattle.std.proofs.Common.{◌≡◌, ◌∷◌, [], ◌++◌, ap}
use Rattle.std.specs.Prelude.{map}
use Rattle.std.specs.Global.{Vec}
use Rattle.std.proofs.lemmas.Result.{err_from_is_err_and}
use Rattle.std.proofs.lemmas.List.{map_push}
use Rattle.field_reader.proofs.Series.{begins, goes_on, stops, is_done}
use Rattle.manifest_file.specs.declared.manifest.ManifestPart.{ManifestPart}
use Rattle.manifest_file.specs.Rows.{part_row}
use Rattle.manifest_file.specs.Layout.{part, parts}
use Rattle.manifest_file.proofs.reading.take_parts.Goals as goal

pub loop-init : goal.loop-init
unfolding parts
loop-init c =
    let none : map part_row c.new-parts.result.items ≡ [] = ap (λ ps. map part_row ps) c.new-parts.ensures.items in
    begins (λ before. part c.args.drives) _ c.args.count c.args.fields.now none

pub returns-in_err-part : goal.returns-in_err-part
returns-in_err-part c =
    let p = err_from_is_err_and c.from_residual.result c.from_residual.ensures.1 in
    let after = c.take_part.new.fields in
    rw (p.1, p.2) (stops part_row (λ (ps : Vec ManifestPart). map part_row ps.items) c.in_err-part.field-0.0 after after (λ before. part c.args.drives) (map part_row c.loop.parts.items)
    c.args.count c.loop.counter c.loop.fields (parts c.args.drives c.args.count c.args.fields.now) c.loop-test.true c.in_err-part.ensures c.loop.invariant)

pub loop-preserved : goal.loop-preserved
loop-preserved c =
    let row = part_row c.in_ok-part.part in
    let front = map part_row c.loop.parts.items in
    let items : map part_row c.push.new.self.items ≡ front ++ row ∷ [] = rw c.in_ok-push.ensures.items (map_push part_row c.loop.parts.items c.in_ok-part.part) in
    rw items (goes_on (λ before. part c.args.drives) front c.args.count c.loop.counter c.loop.fields row c.take_part.new.fields (parts c.args.drives c.args.count c.args.fields.now) c.loop-test.true c.in_ok-part.ensures c.loop.invariant)

pub returns : goal.returns
returns c = is_done (λ before. part c.args.drives) (map part_row c.loop.parts.items) c.args.count c.loop.counter c.loop.fields (parts c.args.drives c.args.count c.args.fields.now) c.loop-test.false c.loop.invariant
