use Rattle.std.proofs.Common.{◌∙◌, refl, ℕ}
use Rattle.std.proofs.lemmas.Result.{IfErr-weaker}
use Rattle.s3_docs.specs.Machine.{Holder, Digits, Awaiting, PartNumber}
use Rattle.s3_docs.specs.Reads.{Stops}
use Rattle.s3_docs.proofs.ValueLemmas.{awaiting_number}
use Rattle.s3_docs.proofs.values.number.Goals as goal

pub returns-clause-stops : goal.returns-clause-stops
returns-clause-stops c =
    IfErr-weaker c.digits.result (λ (left : ℕ). (holder : Holder) → Stops (Digits holder 0 0) c.skip_blanks.result.now left)
    (λ (left : ℕ). (holder : Holder) → Stops (Awaiting holder PartNumber) c.args.text.now left)
    (λ left stop holder.
    c.skip_blanks.ensures.reads (Awaiting holder PartNumber) refl
    ∙ awaiting_number holder c.skip_blanks.result.now c.skip_blanks.ensures.no_blank ∙ stop holder)
    c.digits.ensures.stops
