-- Sealed files: what they are made of, that they are one to one with their bodies, and that an answer of
-- `unseal` is the only one.
use Rattle.std.proofs.Common.{◌≡◌, ℕ, ◌+◌, ◌-◌, List, ◌++◌, length, take, drop, Result, Ok, Err, IsOkAnd, refl, sym, ap, ap₂, ◌∙◌, subst, arith, length-append, append_assoc}
use Rattle.std.proofs.lemmas.List.{take_at, drop_at, take-append-drop}
use Rattle.std.specs.Borrow.{Bor}
use Rattle.sha2.specs.Sha256.{sha256}
use Rattle.sha2.proofs.Facts256.{length-sha256}
use Rattle.seal_file.specs.declared.damage.Damage.{Damage}
use Rattle.seal_file.specs.declared.damage.Damage.TheVariants.{Short, Digest, Kind, Spelling, Long}
use Rattle.seal_file.specs.Sealing.{sealed, content_of, digest_of, IsDamage, Unseals}

-- a file is 32 bytes longer than its kind and its body
pub length-sealed : (kind body : List ℕ) → length (sealed kind body) ≡ length kind + length body + 32
length-sealed kind body =
    omega (arith, length-append (kind ++ body) (sha256 (kind ++ body)), length-append kind body, length-sha256 (kind ++ body))

-- what stands before the digest
pub content_of-sealed : (kind body : List ℕ) → content_of (sealed kind body) ≡ kind ++ body
content_of-sealed kind body =
    let whole = length-sealed kind body in
    let parts = length-append kind body in
    take_at (kind ++ body) (sha256 (kind ++ body)) (length (sealed kind body) - 32) (omega arith)

-- the digest
pub digest_of-sealed : (kind body : List ℕ) → digest_of (sealed kind body) ≡ sha256 (kind ++ body)
digest_of-sealed kind body =
    let whole = length-sealed kind body in
    let parts = length-append kind body in
    drop_at (kind ++ body) (sha256 (kind ++ body)) (length (sealed kind body) - 32) (omega arith)

-- files of kinds of one length are equal only where their kinds and their bodies are
pub sealed-injective : (kind other a b : List ℕ) → length kind ≡ length other → sealed kind a ≡ sealed other b
    → (kind ≡ other) × (a ≡ b)
sealed-injective kind other a b same_length same =
    let content : kind ++ a ≡ other ++ b = sym (content_of-sealed kind a) ∙ ap content_of same ∙ content_of-sealed other b in (
      sym (take_at kind a (length kind) refl) ∙ ap (take (length kind)) content ∙ take_at other b (length kind) (sym same_length),
      sym (drop_at kind a (length kind) refl) ∙ ap (drop (length kind)) content ∙ drop_at other b (length kind) (sym same_length),
    )

-- a file of a kind has no damage
pub no_damage : (kind body : List ℕ) (damage : Damage) → length kind ≡ 4 → IsDamage kind (sealed kind body) damage → ⊥
no_damage kind body (Short n) four damaged =
    let whole = length-sealed kind body in
    let short = damaged.0 in
    absurd (omega arith)
no_damage kind body (Digest stored computed) four damaged =
    damaged.1 (damaged.2 ∙ digest_of-sealed kind body ∙ ap sha256 (sym (content_of-sealed kind body)) ∙ sym damaged.3)
no_damage kind body (Kind found) four damaged =
    let front : take 4 (sealed kind body) ≡ kind =
    ap (take 4) (append_assoc kind body (sha256 (kind ++ body))) ∙ take_at kind (body ++ sha256 (kind ++ body)) 4 four in
    damaged.2 (damaged.3 ∙ front)
no_damage kind body (Spelling at) four damaged = damaged
no_damage kind body (Long n) four damaged = damaged

-- what is opened as a body is one, and what has a damage is refused with it
pub unseals-sealed : (kind body : List ℕ) (answer : Result (Bor (List ℕ)) Damage) → length kind ≡ 4
    → Unseals kind (sealed kind body) answer → IsOkAnd answer (λ found. found.now ≡ body)
unseals-sealed kind body (Ok found) four unseals = sym (sealed-injective kind kind body found.now refl unseals).1
unseals-sealed kind body (Err damage) four unseals = absurd (no_damage kind body damage four unseals)

-- bytes have one first damage
pub damages-same : (kind bytes : List ℕ) (d e : Damage) → IsDamage kind bytes d → IsDamage kind bytes e → d ≡ e
damages-same kind bytes (Short n) (Short m) p q = ap Short (p.1 ∙ sym q.1)
damages-same kind bytes (Short n) (Digest s c) p q = let a = p.0 in let b = q.0 in absurd (omega arith)
damages-same kind bytes (Short n) (Kind k) p q = let a = p.0 in let b = q.0 in absurd (omega arith)
damages-same kind bytes (Digest s c) (Short m) p q = let a = p.0 in let b = q.0 in absurd (omega arith)
damages-same kind bytes (Digest s c) (Digest t d) p q = ap₂ Digest (p.2 ∙ sym q.2) (p.3 ∙ sym q.3)
damages-same kind bytes (Digest s c) (Kind k) p q = absurd (p.1 (p.2 ∙ q.1 ∙ sym p.3))
damages-same kind bytes (Kind k) (Short m) p q = let a = p.0 in let b = q.0 in absurd (omega arith)
damages-same kind bytes (Kind k) (Digest t d) p q = absurd (q.1 (q.2 ∙ p.1 ∙ sym q.3))
damages-same kind bytes (Kind k) (Kind l) p q = ap Kind (p.3 ∙ sym q.3)
damages-same kind bytes (Spelling n) e p q = absurd p
damages-same kind bytes (Long n) e p q = absurd p
damages-same kind bytes d (Spelling n) p q = absurd q
damages-same kind bytes d (Long n) p q = absurd q

-- bytes with a damage are refused with it
pub unseals-damaged : (kind bytes : List ℕ) (answer : Result (Bor (List ℕ)) Damage) (damage : Damage) → length kind ≡ 4
    → Unseals kind bytes answer → IsDamage kind bytes damage → answer ≡ Err damage
unseals-damaged kind bytes (Ok found) damage four unseals damaged =
    absurd (no_damage kind found.now damage four (subst (λ (file : List ℕ). IsDamage kind file damage) unseals damaged))
unseals-damaged kind bytes (Err other) damage four unseals damaged = ap Err (damages-same kind bytes other damage unseals damaged)

-- bytes whose parts are right are a file
pub sealed-parts : (kind bytes content stored found body : List ℕ) → content ≡ content_of bytes → stored ≡ digest_of bytes
    → found ≡ take 4 content → body ≡ drop 4 content → stored ≡ sha256 content → found ≡ kind → bytes ≡ sealed kind body
sealed-parts kind bytes content stored found body content_is stored_is found_is body_is right same_kind =
    let whole : content ++ stored ≡ bytes = ap₂ (λ a b. a ++ b) content_is stored_is ∙ take-append-drop (length bytes - 32) bytes in
    let parts : kind ++ body ≡ content = ap₂ (λ a b. a ++ b) (sym same_kind ∙ found_is) body_is ∙ take-append-drop 4 content in
    sym whole ∙ ap₂ (λ a b. a ++ b) (sym parts) (right ∙ ap sha256 (sym parts))

-- the digest of a file is right
pub digest_of-right : (kind body bytes : List ℕ) → bytes ≡ sealed kind body → digest_of bytes ≡ sha256 (content_of bytes)
digest_of-right kind body bytes same =
    ap digest_of same ∙ digest_of-sealed kind body ∙ ap sha256 (sym (ap content_of same ∙ content_of-sealed kind body))
