use Rattle.std.proofs.Common.{◌≡◌, ◌<◌, ℕ, true}
use Rattle.put_stage.specs.Dues.{is_nothing}
use Rattle.put_stage.specs.Steps.{Serves}
use Rattle.put_stage.specs.Work.{due_at}
use Rattle.put_stage.proofs.stage.Stage.due_later.Given as goal

-- on no drive so far that serves a call is left
abbrev pub invariant-loop-index : goal.invariant-loop-index
invariant-loop-index l = (j : ℕ) → j < l.index → Serves l.self j → is_nothing (due_at l.self j) ≡ true
