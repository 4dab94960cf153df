-- The term of a set that was opened.
use Rattle.std.proofs.Common.{◌<◌, ◌≤◌, ◌^◌, ℕ, List, inl, inr, subst, arith}
use Rattle.std.specs.Prelude.{Result, Ok, Err}
use Rattle.call_types.specs.declared.why.Why.{Why}
use Rattle.drive_base.specs.View.{DriveView}
use Rattle.drive_base.specs.declared.plan.SetPlan.{SetPlan}
use Rattle.term_gate.specs.Opening.{GoesOnFrom, IsMadeAndOpened, IsOpenedOrNot, Opens, TakesTerm}
use Rattle.term_gate.specs.declared.opening.Opened.{Opened}
use Rattle.term_gate.specs.declared.refusal.OpenRefusal.{OpenRefusal}

-- a term fits: it is at least 1, and below 2^48
pub record TermFits (term : ℕ) : Type 0 where
  pub least : 1 ≤ term
  pub most : term < 2 ^ 48

abbrev is_opened : Result Opened OpenRefusal → Type 0
is_opened (Ok opened) = Unit {0}
is_opened (Err why) = ⊥

taken_fits : (set : SetPlan) (top out : ℕ) (opened : Opened) (old new : List DriveView) → TakesTerm set top out (Ok opened) old new → TermFits opened.term
taken_fits set top out opened old new (whys, taken, written, enough, is, out_is) =
    let below = written.below in record { least = omega (arith, is); most = omega (arith, is, below) }

made_fits : (set : SetPlan) (whys : List Why) (opened : Opened) (old new : List DriveView) → IsMadeAndOpened set whys (Ok opened) old new → TermFits opened.term
made_fits set whys opened old new (inl (mid, written, made, good, takes)) = taken_fits set 0 0 opened mid new takes
made_fits set whys opened old new (inr (inl (told, refused, unmade))) = absurd (subst is_opened refused tt)
made_fits set whys opened old new (inr (inr (lacks, same))) = absurd (subst is_opened lacks tt)

again_fits : (set : SetPlan) (whys : List Why) (top : ℕ) (opened : Opened) (old new : List DriveView) → IsOpenedOrNot set whys top (Ok opened) old new
    → TermFits opened.term
again_fits set whys top opened old new (good, counted, inl (enough, (out, absent, takes))) = taken_fits set top out opened old new takes
again_fits set whys top opened old new (good, counted, inr (few, refused, same)) = absurd (subst is_opened refused tt)

goes_fits : (set : SetPlan) (whys : List Why) (top : ℕ) (opened : Opened) (old new : List DriveView) → GoesOnFrom set whys top (Ok opened) old new
    → TermFits opened.term
goes_fits set whys top opened old new (inl (being, made)) = made_fits set whys opened old new made
goes_fits set whys top opened old new (inr (other, again)) = again_fits set whys top opened old new again

pub term_fits : (set : SetPlan) (opened : Opened) (old new : List DriveView) → Opens set (Ok opened) old new → TermFits opened.term
term_fits set opened old new x = goes_fits set x.whys x.top opened x.mid new x.goes_on
