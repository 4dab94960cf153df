use Rattle.std.proofs.Common.{rules, refl, ℕ, ◌∙◌, List, length, take, ap, sym, arith, subst, length-append}
use Rattle.http_wire.specs.declared.judging.Judged.TheVariants.{Whole}
use Rattle.http_wire.specs.Heads.{IsJudged, IsOpen, IsBad, IsTooLong}
use Rattle.http_wire.proofs.ArrivalLemmas.{came_none, came_more, came_still, came_nothing, rose_since, open_short, open_whole}
use Rattle.http_wire.proofs.arrival.await_head.Goals as goal

pub pieces-init : goal.pieces-init
pieces-init g c = (came_none _ _, search rules, c.requires)

pub returns-in-Whole-clause-arrives : goal.returns-in-Whole-clause-arrives
returns-in-Whole-clause-arrives g c = (
  subst (λ (t : List ℕ). IsJudged (take 65536 t) c.judge_first.new.headers (Whole c.in-Whole.spans)) c.bytes.ensures c.in-Whole.ensures,
  c.pieces.invariant.1,
)

pub returns-in-Bad-clause-arrives : goal.returns-in-Bad-clause-arrives
returns-in-Bad-clause-arrives g c =
    (subst (λ (t : List ℕ). IsBad (take 65536 t)) c.bytes.ensures c.in-Bad.ensures, c.pieces.invariant.1)

pub returns-in-Long-clause-arrives : goal.returns-in-Long-clause-arrives
returns-in-Long-clause-arrives g c =
    (subst (λ (t : List ℕ). IsTooLong (take 65536 t)) c.bytes.ensures c.in-Long.ensures, c.pieces.invariant.1)

pub take_piece-requires : goal.take_piece-requires
take_piece-requires g c =
    open_short c.pieces.window (subst (λ (t : List ℕ). IsOpen (take 65536 t)) c.bytes.ensures c.in-Open.ensures)

pub returns-in-Ended-clause-came : goal.returns-in-Ended-clause-came
returns-in-Ended-clause-came g c =
    came_more _ c.pieces.window _ _ _ _ 0 c.pieces.invariant.0
    (subst (λ (t : List ℕ). IsOpen (take 65536 t)) c.bytes.ensures c.in-Open.ensures) c.in-Ended.ensures.0

pub returns-in-Ended-clause-arrives : goal.returns-in-Ended-clause-arrives
returns-in-Ended-clause-arrives g c =
    let ended = c.in-Ended.ensures in
    let was_open = open_whole c.pieces.window (subst (λ (t : List ℕ). IsOpen (take 65536 t)) c.bytes.ensures c.in-Open.ensures) in
    (subst IsOpen (sym (came_nothing c.pieces.window _ _ _ ended.0)) was_open, ended.0.ends refl, ended.1 ∙ c.pieces.invariant.1)

pub returns-in-Failed-clause-came : goal.returns-in-Failed-clause-came
returns-in-Failed-clause-came g c =
    came_still _ c.pieces.window _ _ _ _ c.pieces.invariant.0 c.in-Failed.ensures.0 c.in-Failed.ensures.1

pub returns-in-Failed-clause-arrives : goal.returns-in-Failed-clause-arrives
returns-in-Failed-clause-arrives g c =
    let failed = c.in-Failed.ensures in
    let was_open = open_whole c.pieces.window (subst (λ (t : List ℕ). IsOpen (take 65536 t)) c.bytes.ensures c.in-Open.ensures) in
    (subst IsOpen (sym failed.0) was_open, rose_since _ _ _ c.pieces.invariant.1 failed.2)

pub pieces-smaller : goal.pieces-smaller
pieces-smaller g c =
    let came = c.in-Came.ensures in
    let short = open_short c.pieces.window (subst (λ (t : List ℕ). IsOpen (take 65536 t)) c.bytes.ensures c.in-Open.ensures) in
    omega (arith, short, came.2, came.1.size, ap length came.1.new_is, length-append c.pieces.window came.1.piece)

pub pieces-preserved : goal.pieces-preserved
pieces-preserved g c =
    let came = c.in-Came.ensures in (
      came_more _ c.pieces.window _ _ _ _ came.0 c.pieces.invariant.0
          (subst (λ (t : List ℕ). IsOpen (take 65536 t)) c.bytes.ensures c.in-Open.ensures) came.1,
      came.3 ∙ c.pieces.invariant.1,
      omega (arith, c.judge_first.auto.headers, c.pieces.invariant.2),
    )
