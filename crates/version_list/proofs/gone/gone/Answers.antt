use Rattle.std.proofs.Common.{ap, sym, ◌∙◌}
use Rattle.version_list.proofs.GoneLemmas.{gone_more, gone_same}
use Rattle.version_list.proofs.gone.gone.Goals as goal
use Rattle.version_list.proofs.gone.gone.Goals.{then-is_named+in_ok-push_gone, else-is_named}

pub loop-version-preserved : goal.loop-version-preserved
loop-version-preserved c =
    elim c.if-is_named.branch [
      | then-is_named+in_ok-push_gone w ↦
          gone_more c.loop-version.bytes.items c.if-is_named.bytes.items c.args.old.now c.args.new.now c.loop-version.version-index
          c.version-item.result c.loop-version-test.true c.version-item.is c.loop-version.invariant
          (ap (λ b. b.items) w.bytes-is ∙ w.in_ok-push_gone.ensures)
      | else-is_named w ↦
          gone_same c.if-is_named.bytes.items c.args.old.now c.args.new.now c.requires.0 c.args.goes c.loop-version.version-index
          c.version-item.result c.loop-version-test.true c.version-item.is c.requires.1 (sym c.is_named.ensures ∙ w.if-is_named.false)
          (ap (λ b. b.items) w.bytes-is ∙ c.loop-version.invariant)
    ]
