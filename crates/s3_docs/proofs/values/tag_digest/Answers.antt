use Rattle.std.proofs.Common.{◌≡◌, ◌∙◌, sym, refl, ℕ, []}
use Rattle.std.proofs.lemmas.Result.{IfErr-weaker, IfOk-weaker}
use Rattle.s3_docs.specs.Machine.{Holder, Quotation, quote_text, Bare, Hex, Awaiting, ETag}
use Rattle.s3_docs.specs.Reads.{Stops}
use Rattle.s3_docs.proofs.ValueLemmas.{awaiting_hex}
use Rattle.s3_docs.proofs.values.tag_digest.Goals as goal

pub returns-in-len1-up-clause-reads : goal.returns-in-len1-up-clause-reads
returns-in-len1-up-clause-reads c =
    let value = c.skip_blanks-value.result.now in
    let bare = λ (holder : Holder). c.skip_blanks-value.ensures.reads (Awaiting holder ETag) refl
    ∙ awaiting_hex holder value c.skip_blanks-value.ensures.no_blank c.in-len1-up.len_at_least (sym c.is_hex_digit.ensures ∙ c.if-is_hex_digit.true) in
    IfOk-weaker c.quoted_digest-in-len1-up.result _ _ (λ found reads holder. bare holder ∙ reads holder Bare refl) c.quoted_digest-in-len1-up.ensures.reads

pub returns-in-len1-up-clause-stops : goal.returns-in-len1-up-clause-stops
returns-in-len1-up-clause-stops c =
    let value = c.skip_blanks-value.result.now in
    let bare = λ (holder : Holder). c.skip_blanks-value.ensures.reads (Awaiting holder ETag) refl
    ∙ awaiting_hex holder value c.skip_blanks-value.ensures.no_blank c.in-len1-up.len_at_least (sym c.is_hex_digit.ensures ∙ c.if-is_hex_digit.true) in
    IfErr-weaker c.quoted_digest-in-len1-up.result
    (λ (left : ℕ). (holder : Holder) (quotation : Quotation) → quote_text quotation ≡ [] → Stops (Hex holder quotation []) value left)
    (λ (left : ℕ). (holder : Holder) → Stops (Awaiting holder ETag) c.args.text.now left)
    (λ left stops holder. bare holder ∙ stops holder Bare refl) c.quoted_digest-in-len1-up.ensures.stops
