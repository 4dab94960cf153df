use Rattle.std.proofs.Common.{refl, ℕ}
use Rattle.std.proofs.lemmas.Result.{IfErr-weaker}
use Rattle.s3_docs.specs.Machine.{State, Holder, Inside, Inner}
use Rattle.s3_docs.specs.Reads.{Stops, Opens}
use Rattle.s3_docs.proofs.elements.inner_tag.Goals as goal

pub returns-clause-stops : goal.returns-clause-stops
returns-clause-stops c =
    IfErr-weaker c.open_tag.result
    (λ (left : ℕ). (gap next : State) → Opens gap next → Stops gap c.args.text.now left)
    (λ (left : ℕ). (holder : Holder) → Stops (Inside holder) c.args.text.now left)
    (λ left stop holder. stop (Inside holder) (Inner holder) (refl, refl, λ b. refl)) c.open_tag.ensures.stops
