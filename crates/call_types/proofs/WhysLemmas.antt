-- The array of a `Whys` and the list that it shows.
use Rattle.std.proofs.Common.{◌≡◌, ℕ, ◌+◌, ◌-◌, ◌<◌, ◌≤◌, List, ◌++◌, length, replicate, take, set, refl, sym, ap, ◌∙◌, arith, length-set}
use Rattle.std.proofs.lemmas.List.{take-replicate, replicate-append-replicate, set-append_left}
use Rattle.std.proofs.Math.Seq.{take-append_seam}
use Rattle.call_types.specs.declared.why.Why.{Why}
use Rattle.call_types.specs.declared.why.Why.TheVariants.{Good}
use Rattle.call_types.specs.declared.why.Whys.TheInside.{Inside}
use Rattle.call_types.specs.Whys.{IsOneForEach, shown_whys, length-shown_whys}

-- an array of `Good` shows `Good` for each drive
pub shown_whys-good : (n : ℕ) → n ≤ 16 → take n (replicate 16 Good) ≡ replicate n Good
shown_whys-good n most = take-replicate n 16 Good most

pub IsOneForEach-good : (n : ℕ) → 1 ≤ n → n ≤ 16 → IsOneForEach record { whys = replicate 16 Good; count = n }
IsOneForEach-good n least most =
    let total : n + (16 - n) ≡ 16 = omega arith in
    record {
      places = refl;
      least = least;
      most = most;
      rest =
          sym (ap (λ xs. xs ++ replicate (16 - n) Good) (shown_whys-good n most) ∙ replicate-append-replicate n (16 - n) Good ∙ ap (λ k. replicate k Good) total);
    }

-- a write in the part that is shown is a write of the shown list
array-set :
    (shown rest : List Why) (i : ℕ) (w : Why) → i < length shown
    → take (length shown) (set (shown ++ rest) i w) ≡ set shown i w
array-set shown rest i w below =
    let moved : set (shown ++ rest) i w ≡ set shown i w ++ rest = set-append_left shown rest i w below in
    let same : length (set shown i w) ≡ length shown = length-set shown i w in
    ap (take (length shown)) moved ∙ ap (λ k. take k (set shown i w ++ rest)) (sym same) ∙ take-append_seam (set shown i w) rest

-- the list that is shown after a write
pub shown_whys-set :
    (a : Inside) → IsOneForEach a → (i : ℕ) (w : Why) → i < length (shown_whys a)
    → take a.count (set a.whys i w) ≡ set (shown_whys a) i w
shown_whys-set a fits i w below =
    let n : length (shown_whys a) ≡ a.count = length-shown_whys a fits in
    ap (λ xs. take a.count (set xs i w)) fits.rest ∙ ap (λ k. take k (set (shown_whys a ++ replicate (16 - a.count) Good) i w)) (sym n)
    ∙ array-set (shown_whys a) (replicate (16 - a.count) Good) i w below

pub IsOneForEach-set :
    (a : Inside) → IsOneForEach a → (i : ℕ) (w : Why) → i < length (shown_whys a)
    → IsOneForEach record { whys = set a.whys i w; count = a.count }
IsOneForEach-set a fits i w below = record {
  places = length-set a.whys i w ∙ fits.places;
  least = fits.least;
  most = fits.most;
  rest =
      ap (λ xs. set xs i w) fits.rest ∙ set-append_left (shown_whys a) (replicate (16 - a.count) Good) i w below
      ∙ ap (λ xs. xs ++ replicate (16 - a.count) Good) (sym (shown_whys-set a fits i w below));
}
