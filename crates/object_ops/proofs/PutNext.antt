-- What comes next for a stage, where it is known that something does.
use Rattle.std.proofs.Common.{◌≡◌, ◌⊎◌, ◌∙◌, ◌<◌, ℕ, true, false, List, Option, Some, None, inl, inr, refl, sym, subst, arith}
use Rattle.std.proofs.lemmas.Bool.{cases_Bool, cases_lt}
use Rattle.std.proofs.lemmas.Grind.{not_there}
use Rattle.put_stage.specs.Dues.{is_block, is_nothing}
use Rattle.put_stage.specs.Steps.{HasDone, IsDue, IsNext, MayFill, MayFinish}
use Rattle.put_stage.specs.Work.{Disagrees, due_at}
use Rattle.put_stage.specs.declared.stage.Stage.{Stage}
use Rattle.put_stage.specs.declared.stage.StageNext.{StageNext}
use Rattle.put_stage.specs.declared.stage.StageNext.TheVariants.{Fill, Finish, Step}
use Rattle.object_ops.proofs.PutCells.{same_text}

-- what falls at each call falls at the next one
pub due_falls : (stage : Stage) (next : StageNext) (less more : ℕ) → ∥ IsNext stage next ∥₁ → next ≡ Step → ((k : ℕ) → IsDue stage k → less < more) → less < more
due_falls stage next less more there is falls = elim (cases_lt less more) [
  | inl low ↦ low
  | inr high ↦ absurd (not_there (subst (λ (n : StageNext). ∥ IsNext stage n ∥₁) is there) (λ due.
      let low = falls due.0 due.1 in absurd (omega (arith, low, high))))
]

-- ---- the answer stands

unfinished : (stage : Stage) → ∥ MayFinish stage ∥₁ → MayFinish stage
unfinished stage there = elim (cases_lt 0 stage.load.left) [
  | inl some ↦ absurd (not_there there (λ may. let whole = may.whole in absurd (omega (arith, some, whole))))
  | inr none ↦
      let whole : stage.load.left ≡ 0 = omega (arith, none) in
      record { whole = whole; over = by stage.load.stated refl whole }
]
  where
    done : (Disagrees stage.load → ⊥) → HasDone stage
    done agrees k below serves = elim (cases_Bool (is_nothing (due_at stage k))) [
      | inl nothing ↦ nothing
      | inr other ↦ absurd (not_there there (λ may. elim may.over [
        | inl differs ↦ agrees differs
        | inr all ↦ let nothing : is_nothing (due_at stage k) ≡ true = all k below serves in absurd cc
      ]))
    ]

    by : (stated : Option (List ℕ)) → stage.load.stated ≡ stated → stage.load.left ≡ 0 → Disagrees stage.load ⊎ HasDone stage
    by None is whole = inr (done (λ differs. let wrong : None ≡ Some differs.1.0 = sym is ∙ differs.1.1 in absurd cc))
    by (Some given) is whole = elim (same_text given stage.load.made.etag) [
      | inl same ↦ inr (done (λ differs. differs.1.2 (given_is differs.1.0 given (sym differs.1.1 ∙ is) ∙ same)))
      | inr apart ↦ inl (whole, (given, is, apart))
    ]
      where
        given_is : (a b : List ℕ) → Some a ≡ Some b → a ≡ b
        given_is a b e = cc

pub may_finish : (stage : Stage) (next : StageNext) → ∥ IsNext stage next ∥₁ → next ≡ Finish → MayFinish stage
may_finish stage next there is = unfinished stage (subst (λ (n : StageNext). ∥ IsNext stage n ∥₁) is there)

-- ---- bytes may be taken

pub may_fill : (stage : Stage) (next : StageNext) → ∥ IsNext stage next ∥₁ → next ≡ Fill → MayFill stage
may_fill stage next there is =
    let here : ∥ MayFill stage ∥₁ = subst (λ (n : StageNext). ∥ IsNext stage n ∥₁) is there in
    record {
      some = elim (cases_lt 0 stage.load.left) [
        | inl some ↦ some
        | inr none ↦ absurd (not_there here (λ may. let some = may.some in absurd (omega (arith, none, some))))
      ];
      appended = λ k below serves. elim (cases_Bool (is_block (due_at stage k))) [
        | inr other ↦ other
        | inl block ↦ absurd (not_there here (λ may. let other : is_block (due_at stage k) ≡ false = may.appended k below serves in absurd cc))
      ];
    }
