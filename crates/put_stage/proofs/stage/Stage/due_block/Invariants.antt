use Rattle.std.proofs.Common.{◌≡◌, ◌<◌, ℕ, false}
use Rattle.put_stage.specs.Dues.{is_block}
use Rattle.put_stage.specs.Steps.{Serves}
use Rattle.put_stage.specs.Work.{due_at}
use Rattle.put_stage.proofs.stage.Stage.due_block.Given as goal

-- on no drive so far that serves a block is due
abbrev pub invariant-loop-index : goal.invariant-loop-index
invariant-loop-index l = (j : ℕ) → j < l.index → Serves l.self j → is_block (due_at l.self j) ≡ false
