-- From the chunks that a hash value takes in to the digest of a message.
use Rattle.std.proofs.Common.{◌≡◌, ℕ, zero, suc, ◌+◌, ◌-◌, ◌*◌, ◌/◌, ◌%◌, ◌^◌, ◌≤◌, List, ◌∷◌, ◌++◌, length, take, drop, replicate, slice_set, refl, sym, ap, ◌∙◌, arith, length-append, length-drop}
use Rattle.std.proofs.Math.Seq.{drop-append-add, set-append_seam, take-append-add}
use Rattle.std.proofs.lemmas.List.{append_assoc, drop-replicate, length-replicate, length-take-le, take-append-drop, take-replicate}
use Rattle.std.proofs.lemmas.Slice.{take-put_mid}
use Rattle.std.specs.Int.{w64, to_be_bytes}
use Rattle.sha2.specs.Sha256.{digest_bytes, final_hash, hash_after, initial_hash_256, padded_message, padding, sha256}
use Rattle.sha2.proofs.Absorbing256.{hash_after-append, hash_after_next}
use Rattle.hash_lanes.specs.Padding.{end_length, end_of}
use borrow.Rule.Slice.PartMut.{put_mid}

-- the first n chunks of m and then k chunks of e are the first n + k chunks of both together
pub hash_after_more : (h m e : List ℕ) (n k : ℕ) → n * 64 ≤ length m
    → hash_after (hash_after h m n) e k ≡ hash_after h (take (n * 64) m ++ e) (n + k)
unfolding hash_after
hash_after_more h m e n zero fits =
    let front = take (n * 64) m in
    let long : length front ≡ n * 64 = length-take-le (n * 64) m fits in
    let whole : front ++ drop (n * 64) m ≡ m = take-append-drop (n * 64) m in
    let before : hash_after h (front ++ drop (n * 64) m) n ≡ hash_after h front n =
    hash_after-append h front (drop (n * 64) m) n (omega arith) in
    let after : hash_after h (front ++ e) n ≡ hash_after h front n = hash_after-append h front e n (omega arith) in
    let none : n + 0 ≡ n = omega arith in
    rw (none, after) (rw whole at before)
hash_after_more h m e n (suc k) fits =
    let front = take (n * 64) m in
    let long : length front ≡ n * 64 = length-take-le (n * 64) m fits in
    let count : n + suc k ≡ n + k + 1 = omega arith in
    let place : (n + k) * 64 ≡ length front + k * 64 = omega arith in
    let chunk : drop ((n + k) * 64) (front ++ e) ≡ drop (k * 64) e = rw place (drop-append-add front e (k * 64)) in
    rw (count, hash_after_next h (front ++ e) (n + k), chunk, hash_after_more h m e n k fits) refl

-- a message's whole chunks, and then its end, make its hash value
pub final_hash_from : (h m e first last : List ℕ) (k : ℕ) → first ≡ hash_after h m (length m / 64)
    → e ≡ end_of m → k ≡ length e / 64 → last ≡ hash_after first e k → last ≡ final_hash h m
final_hash_from h m e first last k taken end count more =
    let n = length m / 64 in
    let fits : n * 64 ≤ length m = omega arith in
    let spelled : take (n * 64) m ++ e ≡ padded_message m =
    rw end (sym (append_assoc (take (n * 64) m) (drop (n * 64) m) (padding (length m)))
    ∙ ap (λ (x : List ℕ). x ++ padding (length m)) (take-append-drop (n * 64) m)) in
    let long : length (take (n * 64) m) + length e ≡ length (padded_message m) =
    sym (length-append (take (n * 64) m) e) ∙ ap length spelled in
    let front : length (take (n * 64) m) ≡ n * 64 = length-take-le (n * 64) m fits in
    let all : n + k ≡ length (padded_message m) / 64 = omega arith in
    rw (more, taken, hash_after_more h m e n k fits, spelled, all) refl

-- the bytes that are left, a bit 1, zeros and the length are a message's end
pub end_of_from : (m copied chunks ys : List ℕ) (end k r : ℕ) → r ≡ length m % 64 → end ≡ end_length (length m)
    → copied ≡ drop (length m / 64 * 64) m → chunks ≡ slice_set (copied ++ drop r (replicate 128 0)) r 0x80
    → ys ≡ to_be_bytes w64 (length m * 8 % 2 ^ 64)
    → take (end_length (length m)) (put_mid (end - 8) k chunks ys) ≡ end_of m
end_of_from m copied chunks ys end k r er eend ecopied echunks eys =
    let rest = drop (length m / 64 * 64) m in
    let z = (119 - length m % 64) % 64 in
    let long : length rest ≡ r = omega (arith, length-drop (length m / 64 * 64) m) in
    let one : 128 - r ≡ suc (127 - r) = omega arith in
    let mark : ℕ = 0x80 in
    let none : ℕ = 0 in
    let zeros : replicate (128 - r) none ≡ none ∷ replicate (127 - r) none = rw one refl in
    let marked : chunks ≡ rest ++ mark ∷ replicate (127 - r) none =
    echunks ∙ rw (ecopied, drop-replicate r 128 none, zeros) (ap (λ (i : ℕ). slice_set (rest ++ none ∷ replicate (127 - r) none) i mark) (sym long))
    ∙ set-append_seam rest none (replicate (127 - r) none) mark in
    let total : length chunks ≡ 128 =
    omega (arith, ap length marked, length-append rest (mark ∷ replicate (127 - r) none), length-replicate (127 - r) none) in
    let eight : length ys ≡ 8 = rw eys refl in
    let place : end - 8 ≡ length rest + suc z = omega arith in
    let front : take (end - 8) chunks ≡ rest ++ (mark ∷ replicate z none) =
    rw (marked, place, take-append-add rest (mark ∷ replicate (127 - r) none) (suc z), take-replicate z (127 - r) none (omega arith)) refl in
    let split : take end (put_mid (end - 8) k chunks ys) ≡ take (end - 8) chunks ++ ys =
    take-put_mid (end - 8) k chunks ys end (omega arith) (omega arith) in
    rw (← eend, split, front, append_assoc, eys) refl

-- how long a message's end is
pub length-end_of : (m : List ℕ) → length (end_of m) ≡ end_length (length m)
length-end_of m =
    let rest = drop (length m / 64 * 64) m in
    let zeros : List ℕ = replicate ((119 - length m % 64) % 64) 0 in
    let size = to_be_bytes w64 (length m * 8 % 2 ^ 64) in
    let eight : length size ≡ 8 = refl in
    omega (
      arith,
      length-append rest (0x80 ∷ zeros ++ size),
      length-drop (length m / 64 * 64) m,
      length-append (0x80 ∷ zeros) size,
      length-replicate {A = ℕ} ((119 - length m % 64) % 64) 0,
    )

-- the digest of a message m that is as long as a, from the two calls that take in its whole chunks and its end
pub sha256_from : (a m x first middle last digest : List ℕ) (end chunks : ℕ) → length m ≡ length a → end ≡ end_length (length a)
    → chunks ≡ end_length (length a) / 64 → first ≡ initial_hash_256 → middle ≡ hash_after first m (length a / 64)
    → take (end_length (length m)) x ≡ end_of m → last ≡ hash_after middle (take end x) chunks → digest ≡ digest_bytes last 8
    → digest ≡ sha256 m
unfolding sha256
sha256_from a m x first middle last digest end chunks long ends count starts taken is_end more spelled =
    let whole : middle ≡ hash_after initial_hash_256 m (length m / 64) = rw (taken, starts, long) refl in
    let rest : take end x ≡ end_of m = rw (ends, ← long) is_end in
    let chunks_of : chunks ≡ length (take end x) / 64 = omega (arith, ap length rest, length-end_of m, ap end_length long) in
    rw (spelled, final_hash_from initial_hash_256 m (take end x) middle last chunks whole rest chunks_of more) refl
