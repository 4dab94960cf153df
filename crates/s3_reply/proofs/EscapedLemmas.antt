-- Escaped texts, piece by piece.
use Rattle.std.proofs.Common.{◌≡◌, ℕ, ◌+◌, ◌-◌, ◌<◌, ◌≤◌, true, false, List, [], ◌∷◌, ◌++◌, length, take, drop, get_or, refl, sym, ap, ◌∙◌, arith, append_assoc, length-drop}
use Rattle.std.proofs.lemmas.List.{append-nil, take_more, get_or-drop, take_all}
use Rattle.std.proofs.lemmas.List.Concat.{flat_map-append}
use Rattle.percent_encoding.specs.Percent.{percent_encode_byte}
use Rattle.s3_reply.specs.Escaping.{escaped, escaped_byte, is_plain, is_kept, url_byte, url_encoded}

-- nothing is written as nothing
pub escaped_nil : escaped [] ≡ []
unfolding escaped
escaped_nil = refl

-- one byte
pub escaped_one : (b : ℕ) → escaped (b ∷ []) ≡ escaped_byte b
unfolding escaped
escaped_one b = append-nil (escaped_byte b)

-- a text and what follows it
pub escaped-append : (xs ys : List ℕ) → escaped (xs ++ ys) ≡ escaped xs ++ escaped ys
unfolding escaped
escaped-append xs ys = flat_map-append escaped_byte xs ys

-- one byte more
pub escaped_more : (xs : List ℕ) (k : ℕ) → k < length xs → escaped (take (k + 1) xs) ≡ escaped (take k xs) ++ escaped_byte (get_or xs k 0)
escaped_more xs k low =
    ap escaped (take_more xs k 0 low) ∙ escaped-append (take k xs) (get_or xs k 0 ∷ []) ∙ ap (λ t. escaped (take k xs) ++ t) (escaped_one (get_or xs k 0))

-- the same of percent-encoded names
pub url_more : (xs : List ℕ) (k : ℕ) → k < length xs → url_encoded (take (k + 1) xs) ≡ url_encoded (take k xs) ++ url_byte (get_or xs k 0)
unfolding url_encoded
url_more xs k low =
    ap url_encoded (take_more xs k 0 low) ∙ flat_map-append url_byte (take k xs) (get_or xs k 0 ∷ [])
    ∙ ap (λ t. url_encoded (take k xs) ++ t) (append-nil (url_byte (get_or xs k 0)))

pub url_nil : url_encoded [] ≡ []
unfolding url_encoded
url_nil = refl

-- a run that begins at `from` and goes one byte further
pub run_more : (xs : List ℕ) (from k : ℕ) → from ≤ k → k < length xs → take (k + 1 - from) (drop from xs) ≡ take (k - from) (drop from xs) ++ get_or xs k 0 ∷ []
run_more xs from k low high =
    let n : k + 1 - from ≡ (k - from) + 1 = omega arith in
    let at : get_or (drop from xs) (k - from) 0 ≡ get_or xs k 0 = get_or-drop from xs (k - from) 0 ∙ ap (λ i. get_or xs i 0) (omega arith) in
    rw n (take_more (drop from xs) (k - from) 0 (simp length-drop (omega arith)) ∙ ap (λ b. take (k - from) (drop from xs) ++ b ∷ []) at)

-- the run up to the end
pub run_end : (xs : List ℕ) (from k : ℕ) → length xs ≤ k → take (k - from) (drop from xs) ≡ drop from xs
run_end xs from k end = take_all (k - from) (drop from xs) (simp length-drop (omega arith))

-- a byte that stands for itself
pub plain_byte : (b : ℕ) → is_plain b ≡ true → escaped_byte b ≡ b ∷ []
plain_byte b plain = rw plain

pub kept_byte : (b : ℕ) → is_kept b ≡ true → url_byte b ≡ b ∷ []
kept_byte b kept = rw kept

-- a byte that is percent-encoded
pub coded_byte : (b : ℕ) → is_kept b ≡ false → url_byte b ≡ percent_encode_byte b
coded_byte b coded = rw coded

-- a run that goes one byte further, for a byte that is written as itself
pub longer : (out xs : List ℕ) (from k : ℕ) (piece : List ℕ) → from ≤ k → k < length xs → piece ≡ get_or xs k 0 ∷ [] → out ++ take (k + 1 - from) (drop from xs) ≡ (out ++ take (k - from) (drop from xs)) ++ piece
longer out xs from k piece low high same =
    ap (λ t. out ++ t) (run_more xs from k low high ∙ ap (λ t. take (k - from) (drop from xs) ++ t) (sym same))
    ∙ sym (append_assoc out (take (k - from) (drop from xs)) piece)

-- no run is left behind its end
pub no_run : (out xs : List ℕ) (k : ℕ) → out ++ take (k + 1 - (k + 1)) (drop (k + 1) xs) ≡ out
no_run out xs k = let none : k + 1 - (k + 1) ≡ 0 = omega arith in ap (λ n. out ++ take n (drop (k + 1) xs)) none ∙ append-nil out

-- what was written so far, and one piece more
pub further : (f : ℕ → List ℕ) (whole : List ℕ → List ℕ) (now old next xs : List ℕ) (k : ℕ) → whole (take (k + 1) xs) ≡ whole (take k xs) ++ f (get_or xs k 0) → now ≡ old ++ whole (take k xs) → next ≡ now ++ f (get_or xs k 0) → next ≡ old ++ whole (take (k + 1) xs)
further f whole now old next xs k more was is =
    is ∙ ap (λ t. t ++ f (get_or xs k 0)) was ∙ append_assoc old (whole (take k xs)) (f (get_or xs k 0)) ∙ ap (λ t. old ++ t) (sym more)
