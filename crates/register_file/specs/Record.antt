-- Which records are canonical.
use Rattle.std.specs.Prelude.{◌≡◌, ℕ, ◌<◌, ◌^◌, List, length}
use Rattle.sealed_record.specs.Fields.{IfThere}
use Rattle.stamp_id.specs.declared.stamp.ChangeId.{ChangeId}
use Rattle.register_file.specs.declared.record.RegFile.{RegFile}
use Rattle.register_file.specs.declared.record.Next.{Next}
use Rattle.register_file.specs.declared.record.Adds.{Adds}

-- A content's length fits four bytes.
abbrev pub IsContent : List ℕ → Type 0
IsContent content = length content < 2 ^ 32

-- A print is a SHA-256.
abbrev pub AddsPrint : Adds → Type 0
AddsPrint adds = length adds.print ≡ 32

-- what may follow a base of this change: a change whose parent it is
pub record IsCanonicalNext (change : ChangeId) (next : Next) : Type 0 where
  pub parent : next.parent ≡ change
  pub adds : IfThere AddsPrint next.adds
  pub content : IsContent next.content

-- A record that is written: the next's parent is the base's change, and each content's length fits its field. That
-- the term of each ballot is below 2^48 and its sequence number below 2^62 is in the type of ballots.
pub record IsCanonical (file : RegFile) : Type 0 where
  pub base : IsContent file.base.content
  pub next : IfThere (IsCanonicalNext file.base.change) file.next
