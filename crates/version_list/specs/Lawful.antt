-- Which acts are done, and the sizes that the types of their fields give.
use Rattle.std.specs.Prelude.{◌≡◌, ℕ, ◌<◌, ◌≤◌, ◌^◌, length, List}
use Rattle.call_types.specs.declared.act.Act.{Act}
use Rattle.call_types.specs.declared.act.Act.TheVariants as act
use Rattle.version_list.specs.Limits.{most_parts}
use Rattle.version_list.specs.State.{IsKind}

-- A content type has at most 255 bytes, and a Complete has 1 to 10,000 parts.
abbrev pub IsLawful : Act → Type 0
IsLawful (act.Put data_id print size md5 kind) = IsKind kind
IsLawful (act.Delete pick) = Unit {0}
IsLawful (act.Create kind) = IsKind kind
IsLawful (act.Complete upload parts data_id print size md5) = (1 ≤ parts) × (parts ≤ most_parts)
IsLawful (act.Abort upload) = Unit {0}

-- The print has 32 bytes and the MD5 16, and the numbers fit.
pub record AreSized (print : List ℕ) (size : ℕ) (md5 : List ℕ) (parts : ℕ) : Type 0 where
  pub print_sized : length print ≡ 32
  pub size_fits : size < 2 ^ 64
  pub md5_sized : length md5 ≡ 16
  pub parts_fit : parts < 2 ^ 16

-- the same of what an act brings
abbrev pub IsSized : Act → Type 0
IsSized (act.Put data_id print size md5 kind) = AreSized print size md5 0
IsSized (act.Delete pick) = Unit {0}
IsSized (act.Create kind) = Unit {0}
IsSized (act.Complete upload parts data_id print size md5) = AreSized print size md5 parts
IsSized (act.Abort upload) = Unit {0}
