-- Lemmas on several gives, one after the other.
use Rattle.std.proofs.Common.{◌≡◌, ◌+◌, ℕ, List, [], ◌++◌, None, Some, length, take, refl, sym, ap, ◌∙◌, arith, append_assoc, append-nil, length-append}
use Rattle.std.proofs.Math.Seq.{take-append-add}
use Rattle.std.specs.Prelude.{Option}
use Rattle.std.specs.Io.KnownBytes.{append_known}
use Rattle.io_base.specs.Sink.{GaveFront}

-- nothing was given
pub append_known-nil : (old : Option (List ℕ)) → old ≡ append_known old []
append_known-nil None = refl
append_known-nil (Some all) = ap Some (sym (append-nil all))

-- what two gives added, one after the other, is what one give of both would add
pub append_known-joined : (old mid new : Option (List ℕ)) (xs ys : List ℕ) → mid ≡ append_known old xs
    → new ≡ append_known mid ys → new ≡ append_known old (xs ++ ys)
append_known-joined None mid new xs ys first second = second ∙ ap (λ o. append_known o ys) first
append_known-joined (Some all) mid new xs ys first second =
    second ∙ ap (λ o. append_known o ys) first ∙ ap Some (append_assoc all xs ys)

-- a give that failed after others added a front part of all their bytes
pub GaveFront-joined : (old mid new : Option (List ℕ)) (xs ys : List ℕ) → mid ≡ append_known old xs
    → GaveFront ys mid new → GaveFront (xs ++ ys) old new
GaveFront-joined old mid new xs ys first second = record {
  count = length xs + second.count;
  within = omega (arith, second.within, length-append xs ys);
  front = append_known-joined old mid new xs (take second.count ys) first second.front
      ∙ ap (append_known old) (sym (take-append-add xs ys second.count));
}
