-- Lemmas on one take, and on several, one after the other.
use Rattle.std.proofs.Common.{◌≡◌, ℕ, List, [], ◌++◌, None, Some, IfSome, length, take, drop, min, refl, sym, ap, subst, append-nil, ◌∙◌, arith, append_assoc, take-append-drop}
use Rattle.std.specs.Prelude.{Option}
use Rattle.std.specs.Io.KnownBytes.{prepend_known, IsAtEnd}
use Rattle.std.proofs.lemmas.List.{take-append-le, take-take, length-take, drop_all}
use Rattle.io_base.specs.Source.{TookFront}

-- bytes copied from the front of what is left are taken, where the copy is as long as both allow
pub TookFront-copied : (left before into : List ℕ) (n : ℕ) → n ≡ min (length before) (length left)
    → into ≡ take n left ++ drop n before → length into ≡ length before → TookFront n into (Some left) (Some (drop n left))
TookFront-copied left before into n count copied room =
    let long : length (take n left) ≡ n = length-take n left ∙ omega (arith, count) in
    let front : take n into ≡ take n left =
    ap (take n) copied ∙ take-append-le n (take n left) (drop n before) (omega (arith, long)) ∙ take-take n n left (omega arith) in
    record {
      fits = omega (arith, count, room);
      bytes = ap Some (sym (take-append-drop n left) ∙ ap (λ xs. xs ++ drop n left) (sym front));
      ends = λ zero some. drop_all n left (omega (arith, count, room, zero, some));
    }

-- nothing was taken
pub prepend_known-nil : (old : Option (List ℕ)) → old ≡ prepend_known [] old
prepend_known-nil None = refl
prepend_known-nil (Some rest) = refl

-- what two takes gave, one after the other, is what one take of both would give
pub prepend_known-joined : (old mid new : Option (List ℕ)) (xs ys : List ℕ) → old ≡ prepend_known xs mid
    → mid ≡ prepend_known ys new → old ≡ prepend_known (xs ++ ys) new
prepend_known-joined old mid None xs ys first second = first ∙ ap (prepend_known xs) second
prepend_known-joined old mid (Some rest) xs ys first second =
    first ∙ ap (prepend_known xs) second ∙ ap Some (sym (append_assoc xs ys rest))

-- what was taken from a source that has ended is all that it had
pub prepend_known-ended : (old new : Option (List ℕ)) (bytes : List ℕ) → old ≡ prepend_known bytes new
    → IsAtEnd new → IfSome old (λ all. all ≡ bytes)
prepend_known-ended old None bytes taken ended = subst (λ o. IfSome o (λ all. all ≡ bytes)) (sym taken) tt
prepend_known-ended old (Some rest) bytes taken ended =
    subst (λ o. IfSome o (λ all. all ≡ bytes)) (sym taken) (ap (λ xs. bytes ++ xs) ended ∙ append-nil bytes)
