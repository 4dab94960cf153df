-- What a sealed file is, and what can be wrong with bytes that are none.
use Rattle.std.specs.Prelude.{◌≡◌, ◌≢◌, ℕ, ◌-◌, ◌<◌, ◌≤◌, List, ◌++◌, length, take, drop, Result, Ok, Err}
use Rattle.std.specs.Borrow.{Bor}
use Rattle.sha2.specs.Sha256.{sha256}
use Rattle.seal_file.specs.declared.damage.Damage.{Damage}
use Rattle.seal_file.specs.declared.damage.Damage.TheVariants.{Short, Digest, Kind, Spelling, Long}

-- the bytes of the file of a kind and a body: both, and the SHA-256 of both together
abbrev pub sealed : List ℕ → List ℕ → List ℕ
sealed kind body = kind ++ body ++ sha256 (kind ++ body)

-- all bytes but the last 32
abbrev pub content_of : List ℕ → List ℕ
content_of bytes = take (length bytes - 32) bytes

-- the last 32 bytes
abbrev pub digest_of : List ℕ → List ℕ
digest_of bytes = drop (length bytes - 32) bytes

-- the first damage of bytes that are no sealed file of a kind: they are too short for a kind and a digest,
-- else their digest is wrong, else their kind is another
abbrev pub IsDamage : List ℕ → List ℕ → Damage → Type 0
IsDamage kind bytes (Short n) = (length bytes < 36) × (n ≡ length bytes)
IsDamage kind bytes (Digest stored computed) = (36 ≤ length bytes) × (stored ≢ computed)
    × (stored ≡ digest_of bytes) × (computed ≡ sha256 (content_of bytes))
IsDamage kind bytes (Kind found) = (36 ≤ length bytes) × (digest_of bytes ≡ sha256 (content_of bytes))
    × (found ≢ kind) × (found ≡ take 4 bytes)
IsDamage kind bytes (Spelling at) = ⊥
IsDamage kind bytes (Long n) = ⊥

-- what opening bytes as a file of a kind answers: the body that they seal, or their first damage
abbrev pub Unseals : List ℕ → List ℕ → Result (Bor (List ℕ)) Damage → Type 0
Unseals kind bytes (Ok body) = bytes ≡ sealed kind body.now
Unseals kind bytes (Err damage) = IsDamage kind bytes damage

-- a file has one body
abbrev pub SealedIsInjective : Type 0
SealedIsInjective = (kind a b : List ℕ) → sealed kind a ≡ sealed kind b → a ≡ b
