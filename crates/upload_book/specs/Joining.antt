-- What the parts of an upload make together (Amazon S3, CompleteMultipartUpload).
use Rattle.std.specs.Prelude.{◌≡◌, ℕ, ◌-◌, ◌^◌, min, List, length, sum_by}
use Rattle.std.specs.List.{flat_map}
use Rattle.md5.specs.Md5.{md5}
use Rattle.call_types.specs.declared.version.PartRecord.{PartRecord}
use Rattle.upload_book.specs.declared.joining.Joined.{Joined}

-- the sum of the parts' lengths, which stands still at the last value of 64 bits
abbrev pub joined_length : List PartRecord → ℕ
joined_length parts = min (sum_by (λ (p : PartRecord). p.length) parts) (2 ^ 64 - 1)

-- the MD5s of the parts, joined
abbrev pub joined_md5s : List PartRecord → List ℕ
joined_md5s parts = flat_map (λ (p : PartRecord). p.md5) parts

-- the length, the MD5 of the parts' MD5s, and the number of parts
pub record Joins (parts : List PartRecord) (joined : Joined) : Type 0 where
  pub size : joined.length ≡ joined_length parts
  pub md5 : joined.etag.md5 ≡ md5 (joined_md5s parts)
  pub count : joined.etag.parts ≡ length parts
