use Rattle.std.proofs.Common.{◌≡◌, length, sym, ◌∙◌, arith}
use Rattle.drive_base.proofs.ViewLemmas.{at_each_view, length-views}
use Rattle.term_gate.specs.Reading.{why_at}
use Rattle.term_gate.specs.Writing.{DriveIsWritten, file_for}
use Rattle.term_gate.proofs.writing.write_formats.Goals as goal

pub returns : goal.returns
returns g c =
    let D = g.D.Drive in
    let old = c.args.disks.now in
    let now = c.loop-index.disks in
    let inv = c.loop-index.invariant in
    let same : length now ≡ length old = omega arith in
    let all : c.loop-index.index ≡ length old = omega arith in
    let seen = length-views D old in
    record {
      lettered = inv.long ∙ sym c.requires.drives ∙ sym seen;
      canonical = λ k lt. c.requires.files.canonical k (omega (arith, lt, seen, c.requires.drives));
      drives = at_each_view D (λ k. DriveIsWritten (file_for c.args.set.now k c.args.term) c.args.term c.args.passed c.args.other k
          (why_at c.loop-index.whys k)) old now same
          (λ k d below. inv.each k d (omega (arith, below, all)));
    }
