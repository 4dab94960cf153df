-- Lemmas on what a writer has got, where it tells that.
use Rattle.std.proofs.Common.{◌≡◌, ◌-◌, ◌+◌, ℕ, List, length, take, drop, ◌++◌, subst, sym, ap, ◌∙◌, arith}
use Rattle.std.proofs.lemmas.List.{take_all, length-drop}
use Rattle.std.proofs.Math.Seq.{take-add}
use Rattle.std.proofs.KnownBytes.{Appends-trans}
use Rattle.std.specs.Io.KnownBytes.{Appends}
use Rattle.std.specs.Prelude.{Option}

-- the slice from an index on is what is left after a drop
pub slice_from : (bytes : List ℕ) (done : ℕ) → take (length bytes - done) (drop done bytes) ≡ drop done bytes
slice_from bytes done = take_all _ (drop done bytes) (omega (arith, length-drop done bytes))

-- a piece more of the bytes was written
pub Appends-piece : (a b c : Option (List ℕ)) (bytes : List ℕ) (done n : ℕ) → Appends a b (take done bytes)
    → Appends b c (take n (take (length bytes - done) (drop done bytes))) → Appends a c (take (done + n) bytes)
Appends-piece a b c bytes done n before piece =
    subst (Appends a c) (ap (λ xs. take done bytes ++ take n xs) (slice_from bytes done) ∙ sym (take-add done n bytes))
    (Appends-trans a b c _ _ before piece)
