use Rattle.std.proofs.Common.{refl, ℕ, List}
use Rattle.std.proofs.lemmas.Result.{IfErr-weaker}
use Rattle.call_types.specs.declared.version.PartRef.{PartRef}
use Rattle.s3_docs.specs.Machine.{State, Between, Tag}
use Rattle.s3_docs.specs.Reads.{Stops, Opens}
use Rattle.s3_docs.proofs.complete.part_tag.Goals as goal

pub returns-clause-stops : goal.returns-clause-stops
returns-clause-stops c =
    IfErr-weaker c.open_tag.result
    (λ (left : ℕ). (gap next : State) → Opens gap next → Stops gap c.args.text.now left)
    (λ (left : ℕ). (parts : List PartRef) → Stops (Between parts) c.args.text.now left)
    (λ left stop parts. stop (Between parts) (Tag parts) (refl, refl, λ b. refl)) c.open_tag.ensures.stops
