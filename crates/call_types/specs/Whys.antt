-- The values of a list of `Why`s, one for each drive of a set.
use Rattle.std.specs.Prelude.{◌≡◌, ◌-◌, ◌≤◌, List, ◌++◌, length, replicate, take}
use Rattle.call_types.specs.declared.why.Why.{Why}
use Rattle.call_types.specs.declared.why.Why.TheVariants.{Good}
use Rattle.call_types.specs.declared.why.Whys.TheInside.{Inside}
use Rattle.std.proofs.Common.{arith}
use Rattle.std.proofs.lemmas.List.{length-take-le}

-- the `Why`s of the drives, the first `count` of the array
abbrev pub shown_whys : Inside → List Why
shown_whys a = take a.count a.whys

-- the array has 16 places, 1 to 16 of them in use, and `Good` in the rest
pub record IsOneForEach (a : Inside) : Type 0 where
  pub places : length a.whys ≡ 16
  pub least : 1 ≤ a.count
  pub most : a.count ≤ 16
  pub rest : a.whys ≡ take a.count a.whys ++ replicate (16 - a.count) Good

-- the array that shows these `Why`s
abbrev pub fields_of_whys : List Why → Inside
fields_of_whys shown = record { whys = shown ++ replicate (16 - length shown) Good; count = length shown }

-- as many are shown as are in use
pub length-shown_whys : (a : Inside) → IsOneForEach a → length (shown_whys a) ≡ a.count
length-shown_whys a fits = length-take-le a.count a.whys (omega (arith, fits.places, fits.most))

-- the array is what its shown list makes of it
pub fields_of_whys-shown_whys : (a : Inside) → IsOneForEach a → fields_of_whys (shown_whys a) ≡ a
fields_of_whys-shown_whys a fits = rw (length-shown_whys a fits, ← fits.rest)
