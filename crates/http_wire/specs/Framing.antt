-- What the header lines of a head say of its body.
use Rattle.std.specs.Prelude.{◌≡◌, ◌+◌, ◌<◌, ◌≤◌, ◌⊎◌, ◌^◌, ℕ, List, length, take, codes, slice_index, slice_range}
use Rattle.std.specs.Str.Parse.{digits_value}
use Rattle.http_wire.specs.Names.{Lines, line, IsNamed, NoneNamed, IsFirst}

-- a decimal digit
abbrev pub IsDigit : ℕ → Type 0
IsDigit b = (48 ≤ b) × (b ≤ 57)

-- the value is one digit or more, which write the number n, and it fits 64 bits
pub record ReadsLength (value : List ℕ) (n : ℕ) : Type 0 where
  pub some : 0 < length value
  pub digits : (k : ℕ) → k < length value → IsDigit (slice_index value k)
  pub number : digits_value 10 value ≡ n
  pub fits : n < 2 ^ 64

-- "Content-Length"
abbrev pub content_length : List ℕ
content_length = codes "content-length"

-- each line of Content-Length says n, and without such a line n is 0
pub record SaysLength (lines : Lines) (n : ℕ) : Type 0 where
  pub each : (k : ℕ) → k < length lines → IsNamed content_length (line lines k).0 → ReadsLength (line lines k).1 n
  pub missing : NoneNamed content_length lines → n ≡ 0

-- a line of Content-Length says no number, or two say different ones
abbrev pub SaysNoLength : Lines → Type 0
SaysNoLength lines = (n : ℕ) → ¬ (SaysLength lines n)

-- "aws-chunked" stands in the value, without regard to case
abbrev pub HasAwsChunked : List ℕ → Type 0
HasAwsChunked value =
    (i : ℕ) × (i + 11 ≤ length value) × IsNamed (codes "aws-chunked") (slice_range value i (i + 11))

-- the value begins with "STREAMING-"
abbrev pub IsStreaming : List ℕ → Type 0
IsStreaming value = take 10 value ≡ codes "STREAMING-"

-- the body is not as many bytes as its length says: it has a transfer coding, or chunks inside
abbrev pub IsChunked : Lines → Type 0
IsChunked lines =
    ((i : ℕ) × IsFirst (codes "transfer-encoding") lines i)
    ⊎ (((i : ℕ) × IsFirst (codes "content-encoding") lines i × HasAwsChunked (line lines i).1)
    ⊎ ((i : ℕ) × IsFirst (codes "x-amz-content-sha256") lines i × IsStreaming (line lines i).1))
