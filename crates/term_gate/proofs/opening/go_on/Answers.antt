use Rattle.std.proofs.Common.{inl, inr}
use Rattle.term_gate.proofs.OpenLemmas.{is_making, none_lacks}
use Rattle.term_gate.proofs.opening.go_on.Goals as goal
use Rattle.term_gate.proofs.opening.go_on.Goals.{else-top-eq0-via-then-top-eq0+else-count-gt0, else-top-eq0-via-else-top-eq0}

pub returns-then-count-gt0 : goal.returns-then-count-gt0
returns-then-count-gt0 g c = inl (
  is_making c.args.whys.now c.args.top c.absent_of-absent.result c.count.result c.args.set.now.drives c.absent_of-absent.ensures c.count.ensures.value
      c.if-count-gt0.true c.if-top-eq0.true,
  c.open_new.ensures,
)

pub returns : goal.returns
returns g c = inr (
  λ making. elim c.else-top-eq0.branch [
    | else-top-eq0-via-then-top-eq0+else-count-gt0 w ↦
        none_lacks c.args.whys.now c.args.top c.absent_of-absent.result w.count.result c.args.set.now.drives c.absent_of-absent.ensures c.requires.letters
        w.count.ensures.value w.if-count-gt0.false making
    | else-top-eq0-via-else-top-eq0 w ↦ w.if-top-eq0.false making.0
  ],
  c.open_again.ensures,
)
