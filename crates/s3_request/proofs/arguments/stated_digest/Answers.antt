use Rattle.std.proofs.Common.{◌≡◌, ℕ, List, length, ap, sym, ◌∙◌, eq-eqb}
use Rattle.std.specs.Prelude.{Result, Ok, Err, cond}
use Rattle.std.proofs.lemmas.Bool.{ne_eqb}
use Rattle.base64.specs.declared.decode.DecodeError.{DecodeError}
use Rattle.call_types.specs.declared.refusal.Refusal.TheVariants.{InvalidDigest}
use Rattle.s3_request.specs.Arguments.{digest_in, stated_digest}
use Rattle.s3_request.proofs.arguments.stated_digest.Goals as goal

digest_found : (r : Result (List ℕ) DecodeError) (bytes digest : List ℕ) → r ≡ Ok bytes → length bytes ≡ 16 → digest ≡ bytes → digest_in r ≡ Ok digest
digest_found r bytes digest is long same =
    ap digest_in is ∙ (ap (λ b. cond b (Ok bytes) (Err InvalidDigest)) (eq-eqb (length bytes) 16 long) ∙ ap Ok (sym same))

digest_other : (r : Result (List ℕ) DecodeError) (bytes : List ℕ) → r ≡ Ok bytes → (length bytes ≡ 16 → ⊥) → digest_in r ≡ Err InvalidDigest
digest_other r bytes is other =
    ap digest_in is ∙ ap (λ b. cond b (Ok bytes) (Err InvalidDigest)) (ne_eqb (length bytes) 16 other)

pub returns-in-Some : goal.returns-in-Some
unfolding stated_digest
returns-in-Some c =
    digest_found _ c.in-Ok.bytes.items c.in-Some.digest c.in-Ok.ensures.ok (ap length (sym c.deref.ensures.value) ∙ c.in-Some.ensures.0)
    (c.in-Some.ensures.1 ∙ c.deref.ensures.value)

pub returns-in-Ok : goal.returns-in-Ok
unfolding stated_digest
returns-in-Ok c =
    digest_other _ c.in-Ok.bytes.items c.in-Ok.ensures.ok (λ long. c.in-None.ensures (ap length c.deref.ensures.value ∙ long))

pub returns : goal.returns
unfolding stated_digest
returns c = ap digest_in (rw c.in-Err-DecodeError.field-0-is at c.in-Err-DecodeError.ensures.err)
