use Rattle.std.proofs.Common.{ℕ, List}
use Rattle.std.specs.Global.{Vec}
use Rattle.std.proofs.lemmas.Result.{err_from_is_err_and}
use Rattle.field_reader.specs.declared.fault.ReadFault.TheVariants.{At}
use Rattle.field_reader.specs.Format.{Format, field}
use Rattle.field_reader.proofs.Series.{begins, goes_on, stops, is_done}
use Rattle.manifest_file.specs.Layout.{roots}
use Rattle.manifest_file.proofs.reading.take_roots.Goals as goal

abbrev root : List (List ℕ) → Format (List ℕ)
root before = field 32

pub loop-init : goal.loop-init
unfolding roots
loop-init c = begins root _ c.args.drives c.args.fields.now c.new-roots.ensures.items

pub returns-in_err-root : goal.returns-in_err-root
returns-in_err-root c =
    let p = err_from_is_err_and c.from_residual.result c.from_residual.ensures.1 in
    let after = c.take_bytes.new.self in
    rw (p.1, p.2) (stops (λ (bytes : List ℕ). bytes) (λ (rs : Vec (List ℕ)). rs.items) (At c.in_err-root.field-0.0.0) after after root c.loop.roots.items
    c.args.drives c.loop.counter c.loop.fields (roots c.args.drives c.args.fields.now) c.loop-test.true c.in_err-root.ensures.taken c.loop.invariant)

pub loop-preserved : goal.loop-preserved
loop-preserved c =
    let items = c.in_ok-push.ensures.items in
    rw items (goes_on root c.loop.roots.items c.args.drives c.loop.counter c.loop.fields c.in_ok-root.root c.take_bytes.new.self (roots c.args.drives c.args.fields.now) c.loop-test.true c.in_ok-root.ensures.taken c.loop.invariant)

pub returns : goal.returns
returns c = is_done root c.loop.roots.items c.args.drives c.loop.counter c.loop.fields (roots c.args.drives c.args.fields.now) c.loop-test.false c.loop.invariant
