-- Each digest of SHA-256 is a root.
use Rattle.std.proofs.Common.{ℕ, zero, suc, List}
use Rattle.std.specs.Int.{w32}
use Rattle.std.specs.Prelude.{slice_index}
use Rattle.field_reader.specs.Spelling.{IsBytes, number_bytes}
use Rattle.sealed_record.proofs.ByteLemmas.{bytes-none, bytes-append, bytes-w32}
use Rattle.sha2.specs.Sha256.{digest_bytes, final_hash, initial_hash_256, sha256}
use Rattle.sha2.proofs.Facts256.{length-sha256}
use Rattle.manifest_file.specs.Canonical.{IsRoot}

words_are_bytes : (h : List ℕ) (n : ℕ) → IsBytes (digest_bytes h n)
unfolding digest_bytes number_bytes
words_are_bytes h zero = bytes-none
words_are_bytes h (suc n) = bytes-append (digest_bytes h n) (number_bytes w32 (slice_index h n)) (words_are_bytes h n) (bytes-w32 (slice_index h n))

pub sha256_is_bytes : (text : List ℕ) → IsBytes (sha256 text)
unfolding sha256
sha256_is_bytes text = words_are_bytes (final_hash initial_hash_256 text) 8

pub sha256_is_root : (text : List ℕ) → IsRoot (sha256 text)
sha256_is_root text = (length-sha256 text, sha256_is_bytes text)
