use Rattle.std.proofs.Common.{◌∙◌, List, Option, sym, subst}
use Rattle.drive_base.specs.View.{views}
use Rattle.drive_base.proofs.ViewLemmas.{length-views}
use Rattle.term_gate.specs.Opening.{Follows}
use Rattle.term_gate.specs.Reading.{AreRead}
use Rattle.term_gate.specs.declared.record.Format.{Format as DriveFormat}
use Rattle.term_gate.proofs.OpenLemmas.{answer_fresh, follows_opens}
use Rattle.term_gate.proofs.opening.open_set.Goals as goal

pub returns-clause-outcome : goal.returns-clause-outcome
returns-clause-outcome g c =
    let D = g.D.Drive in
    let old = views D c.args.disks.now in
    let mid = views D c.read_formats.new.disks in
    let new = views D c.go_on.new.disks in
    let formats = c.as_slice-formats.result.now in
    let whys = c.in_ok-reading.reading.whys in
    let all : Follows c.args.set c.go_on.result old new = record {
      formats = formats;
      whys = whys;
      top = c.top_of-top.result;
      mid = mid;
      read = record {
        read = subst (λ (fs : List (Option DriveFormat)). AreRead fs whys old mid) (sym c.as_slice-formats.ensures.value) c.in_ok-reading.ensures.read;
        own = c.in_ok-check_set.ensures;
        top_is = c.top_of-top.ensures;
      };
      goes_on = c.go_on.ensures;
    } in
    follows_opens c.args.set c.go_on.result old new all

pub returns-clause-fresh : goal.returns-clause-fresh
returns-clause-fresh g c =
    let D = g.D.Drive in
    let old = views D c.args.disks.now in
    let mid = views D c.read_formats.new.disks in
    let new = views D c.go_on.new.disks in
    let formats = c.as_slice-formats.result.now in
    let whys = c.in_ok-reading.reading.whys in
    let all : Follows c.args.set c.go_on.result old new = record {
      formats = formats;
      whys = whys;
      top = c.top_of-top.result;
      mid = mid;
      read = record {
        read = subst (λ (fs : List (Option DriveFormat)). AreRead fs whys old mid) (sym c.as_slice-formats.ensures.value) c.in_ok-reading.ensures.read;
        own = c.in_ok-check_set.ensures;
        top_is = c.top_of-top.ensures;
      };
      goes_on = c.go_on.ensures;
    } in
    answer_fresh c.args.set c.go_on.result old new c.args.set.enough_drives c.args.set.half_at_most (length-views D c.args.disks.now ∙ c.requires) all
