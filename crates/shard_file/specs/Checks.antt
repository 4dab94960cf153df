-- What the check of a block answers.
use Rattle.std.specs.Prelude.{◌≡◌, ◌≢◌, ℕ, List, Result, Ok, Err}
use Rattle.sha2.specs.Sha256.{sha256}
use Rattle.seal_file.specs.declared.damage.Damage.{Damage}
use Rattle.seal_file.specs.declared.damage.Damage.TheVariants.{Short, Digest, Kind, Spelling, Long}

-- a block is intact where the stored digest is its SHA-256; else both digests are told
abbrev pub Checks : {T : Type 0} → List ℕ → List ℕ → Result T Damage → Type 0
Checks stored block (Ok _) = stored ≡ sha256 block
Checks stored block (Err (Short _)) = ⊥
Checks stored block (Err (Digest told computed)) = (told ≡ stored) × (computed ≡ sha256 block) × (stored ≢ sha256 block)
Checks stored block (Err (Kind _)) = ⊥
Checks stored block (Err (Spelling _)) = ⊥
Checks stored block (Err (Long _)) = ⊥
