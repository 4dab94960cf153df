-- Which drives of a set served.
use Rattle.std.specs.Prelude.{◌≡◌, ◌↔◌, ◌<◌, ◌^◌, ℕ, Bool, true, false, List, length, slice_index_or}
use Rattle.std.specs.Int.{IsBitSet}
use Rattle.std.specs.List.{count_by}
use Rattle.call_types.specs.declared.why.FileKind.TheVariants.{Format}
use Rattle.call_types.specs.declared.why.Why.{Why}
use Rattle.call_types.specs.declared.why.Why.TheVariants.{Good, Failed, Damaged, Behind, Lacks}

-- whether a drive served
abbrev pub is_good : Why → Bool
is_good Good = true
is_good (Failed _ _) = false
is_good (Damaged _) = false
is_good (Behind _) = false
is_good (Lacks _) = false

-- how many drives served
abbrev pub good_count : List Why → ℕ
good_count whys = count_by is_good whys

-- the bits of a mask say of each drive whether it served
pub record IsGoodMask (whys : List Why) (mask : ℕ) : Type 0 where
  pub bits : (k : ℕ) → k < length whys → IsBitSet mask k ↔ (slice_index_or whys k (Lacks Format) ≡ Good)
  pub none_else : mask < 2 ^ length whys
