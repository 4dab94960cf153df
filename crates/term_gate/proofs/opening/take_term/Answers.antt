use Rattle.std.proofs.Common.{◌<◌, ◌∙◌, ◌+◌, ◌^◌, refl, arith}
use Rattle.drive_base.specs.View.{views}
use Rattle.drive_base.proofs.ViewLemmas.{length-views}
use Rattle.term_gate.proofs.OpenLemmas.{term_written}
use Rattle.term_gate.proofs.opening.take_term.Goals as goal

pub returns-then-count-write_quorum : goal.returns-then-count-write_quorum
returns-then-count-write_quorum g c =
    let D = g.D.Drive in
    let below : c.args.top + 1 < 2 ^ 48 = omega arith in
    let written = term_written c.args.set.now c.args.top c.args.out c.write_formats-whys.result c.good_mask.result c.from_mask-taken.result c.count.result
    (views D c.args.disks.now) (views D c.write_formats-whys.new.disks) (length-views D c.args.disks.now ∙ c.requires.drives) below
    c.write_formats-whys.ensures c.good_mask.ensures c.from_mask-taken.ensures c.count.ensures.value in
    (c.count.result, written, omega (arith, c.write_quorum.ensures.quorum))

pub returns : goal.returns
returns g c =
    let D = g.D.Drive in
    let below : c.args.top + 1 < 2 ^ 48 = omega arith in
    let written = term_written c.args.set.now c.args.top c.args.out c.write_formats-whys.result c.good_mask.result c.from_mask-taken.result c.count.result
    (views D c.args.disks.now) (views D c.write_formats-whys.new.disks) (length-views D c.args.disks.now ∙ c.requires.drives) below
    c.write_formats-whys.ensures c.good_mask.ensures c.from_mask-taken.ensures c.count.ensures.value in
    (c.write_formats-whys.result, c.count.result, written, omega (arith, c.write_quorum.ensures.quorum), refl, refl)
