use Rattle.std.proofs.Common.{◌≡◌, ap, sym, ◌∙◌, Result, Ok, Err, IfOk, refl, not, true≢false}
use Rattle.std.proofs.lemmas.Bool.{not-false}
use Rattle.std.proofs.lemmas.Bool.Decides.{Decides-eqb}
use Rattle.std.proofs.lemmas.Slice.Eq.{slice_eq-Decides}
use Rattle.uuid.specs.Text.{hyphenated_text, lower, parsed}
use Rattle.uuid.proofs.RoundTrips.{parse_gives}
use Rattle.stamp_id.specs.VersionId.{id_bytes, id_text}
use Rattle.stamp_id.proofs.IdLemmas.{parsed-id_text}
use Rattle.stamp_id.proofs.version.VersionId.parse.Goals as goal

-- what follows of each value follows of the value in an `Ok`
ok_follows : {A E : Type 0} (P Q : A → Type 0) (r : Result A E) → ((a : A) → P a → Q a) → IfOk r P → IfOk r Q
ok_follows P Q (Ok a) follows holds = follows a holds
ok_follows P Q (Err e) follows holds = holds

-- `uuid` reads the text of an id
pub returns-in-Err-clause-reads : goal.returns-in-Err-clause-reads
returns-in-Err-clause-reads c = λ v same.
    let read = parse_gives c.parse_str.result c.args.text.now (id_bytes v) c.parse_str.ensures.ok c.parse_str.ensures.bytes
    (parsed-id_text v ∙ ap parsed (sym same)) in
    absurd (cc (c.in-Err.is, read))

-- and writes it again as it was
pub returns-then-ne-clause-reads : goal.returns-then-ne-clause-reads
unfolding id_text
returns-then-ne-clause-reads c = λ v same.
    let text = c.args.text.now in
    let canonical = c.encode_lower-canonical.result.now in
    let read = parse_gives c.parse_str.result text (id_bytes v) c.parse_str.ensures.ok c.parse_str.ensures.bytes
    (parsed-id_text v ∙ ap parsed (sym same)) in
    let uuid : c.in-Ok.uuid ≡ id_bytes v = cc (c.in-Ok.is, read) in
    let written : canonical ≡ id_text v =
    c.encode_lower-canonical.ensures.text ∙ ap (hyphenated_text lower) (c.hyphenated.ensures ∙ uuid) in
    let equal = (slice_eq-Decides Decides-eqb text canonical _ refl).1 (same ∙ sym written) in
    absurd (true≢false (sym c.if-ne.true ∙ c.ne.ensures ∙ ap not equal))

-- a text that is written again as it was is its bytes' text
pub returns-clause-ok : goal.returns-clause-ok
unfolding id_text
returns-clause-ok c =
    let text = c.args.text.now in
    let canonical = c.encode_lower-canonical.result.now in
    let equal = (slice_eq-Decides Decides-eqb text canonical _ refl).0 (not-false _ (sym c.ne.ensures ∙ c.if-ne.false)) in
    let written : text ≡ hyphenated_text lower c.into_bytes.result =
    equal ∙ c.encode_lower-canonical.ensures.text ∙ ap (hyphenated_text lower) (c.hyphenated.ensures ∙ sym c.into_bytes.ensures) in
    ok_follows (λ v. c.into_bytes.result ≡ id_bytes v) (λ v. text ≡ id_text v) c.from_bytes.result
    (λ v bytes. written ∙ ap (hyphenated_text lower) bytes) c.from_bytes.ensures.ok

pub returns-clause-reads : goal.returns-clause-reads
returns-clause-reads c = λ v same.
    let read = parse_gives c.parse_str.result c.args.text.now (id_bytes v) c.parse_str.ensures.ok c.parse_str.ensures.bytes
    (parsed-id_text v ∙ ap parsed (sym same)) in
    let uuid : c.in-Ok.uuid ≡ id_bytes v = cc (c.in-Ok.is, read) in
    c.from_bytes.ensures.reads v (c.into_bytes.ensures ∙ uuid)
