use Rattle.std.proofs.Common.{rules, ◌≡◌, ◌<◌, length, ap, sym, ◌∙◌, arith, not, refl, true≢false}
use Rattle.std.proofs.lemmas.Bool.{not-false}
use Rattle.std.proofs.lemmas.Bool.Decides.{Decides-eqb}
use Rattle.std.proofs.lemmas.Slice.Eq.{slice_eq-Decides}
use Rattle.sha2.specs.Sha256.{sha256}
use Rattle.seal_file.proofs.SealedLemmas.{length-sealed, sealed-injective, sealed-parts, digest_of-right}
use Rattle.seal_file.proofs.sealing.unseal.Goals as goal

-- a file has 36 bytes
pub returns-in_default-clause-opens : goal.returns-in_default-clause-opens
returns-in_default-clause-opens c = λ body same.
    let whole = length-sealed c.args.kind body in
    let long = ap length same in
    let short : length c.args.bytes.now < 32 = search rules in
    omega arith

pub returns-in_default-split_first_chunk-clause-opens :
    goal.returns-in_default-split_first_chunk-clause-opens
returns-in_default-split_first_chunk-clause-opens c = λ body same.
    let four : length c.args.kind ≡ 4 = search rules in
    let whole = length-sealed c.args.kind body in
    let long = ap length same in
    let short : length c.in-Some.content.now < 4 = search rules in
    let content = c.in-Some.ensures.cases.2 in
    omega arith

-- and its digest is right
pub returns-then-ne-clause-opens : goal.returns-then-ne-clause-opens
returns-then-ne-clause-opens c = λ body same.
    let stored = c.in-Some.stored.now in
    let computed = c.digest-computed.result in
    let parts = c.in-Some.ensures.cases in
    let right : stored ≡ computed =
    parts.1 ∙ digest_of-right c.args.kind body c.args.bytes.now same ∙ sym (c.digest-computed.ensures ∙ ap sha256 parts.0) in
    let equal = (slice_eq-Decides Decides-eqb stored computed _ refl).1 right in
    true≢false (sym c.if-ne.true ∙ c.ne.ensures ∙ ap not equal)

-- the parts are those of a file
pub returns-clause-outcome : goal.returns-clause-outcome
returns-clause-outcome c =
    let stored = c.in-Some.stored.now in
    let computed = c.digest-computed.result in
    let parts = c.in-Some.ensures.cases in
    let front = c.in-Some-split_first_chunk.ensures.cases in
    let right : stored ≡ computed =
    (slice_eq-Decides Decides-eqb stored computed _ refl).0 (not-false _ (sym c.ne.ensures ∙ c.if-ne.false)) in
    let same_kind : c.in-Some-split_first_chunk.found.now ≡ c.args.kind = search rules in
    sealed-parts c.args.kind c.args.bytes.now c.in-Some.content.now stored c.in-Some-split_first_chunk.found.now
    c.in-Some-split_first_chunk.body.now parts.0 parts.1 front.0 front.1 (right ∙ c.digest-computed.ensures) same_kind

-- a file has one body
pub returns-clause-opens : goal.returns-clause-opens
returns-clause-opens c = λ body same.
    (sealed-injective c.args.kind c.args.kind c.in-Some-split_first_chunk.body.now body refl
    (sym (returns-clause-outcome c) ∙ same)).1
