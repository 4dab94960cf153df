-- What the bytes at hand are: a whole head, the beginning of one, or neither. The grammar of heads is the parser's.
use Rattle.std.specs.Prelude.{◌≡◌, ◌<◌, ◌≤◌, ◌⊎◌, ℕ, false, List, [], ◌∷◌, ◌++◌, length, take, drop}
use Rattle.httparse.specs.Grammar.{RequestHead, ReadsRequest, print_request, HasNoRequest, NeverHasRequest, MayBecomeRequest, lf, print_end}
use Rattle.httparse.specs.Pieces.{is_newline}
use Rattle.httparse.specs.Spans.{IsRequestAt, IsRequestOf, IsRequestWithin, RequestExceeds}
use Rattle.httparse.specs.declared.spans.HeaderSpan.{HeaderSpan}
use Rattle.http_wire.specs.declared.judging.Judged.{Judged}
use Rattle.http_wire.specs.declared.judging.Judged.TheVariants.{Whole, Open, Bad, Long}
use Rattle.http_wire.specs.declared.judging.Parsed.{Parsed}
use Rattle.http_wire.specs.declared.judging.Parsed.TheVariants as parsed

-- how many bytes a head may have
abbrev pub most_bytes : ℕ
most_bytes = 65536

-- how many header lines a head may have
abbrev pub most_lines : ℕ
most_lines = 64

-- the text is the head h, which keeps both limits, and then after
pub record BeginsHead (text : List ℕ) (h : RequestHead) (after : List ℕ) : Type 0 where
  pub reads : ReadsRequest text h after
  pub bytes : length (print_request h) ≤ most_bytes
  pub lines : length h.fields ≤ most_lines

-- the whole text is a head that has as many header lines as it may have
pub record IsFullHead (text : List ℕ) : Type 0 where
  pub head : RequestHead
  pub reads : ReadsRequest text head []
  pub lines : length head.fields ≡ most_lines

-- the text is all lines of a head that has 64 header lines, but for the empty one, then a byte that begins one line
-- more, and then the rest
pub record HasLine65 (text : List ℕ) : Type 0 where
  pub front : List ℕ
  pub byte : ℕ
  pub rest : List ℕ
  pub text_is : text ≡ front ++ byte ∷ rest
  pub full : IsFullHead (front ++ print_end lf)
  pub last : full.head.last ≡ lf
  pub more : is_newline byte ≡ false

-- the text holds no whole head, and a head may still begin with it
pub record IsOpen (text : List ℕ) : Type 0 where
  pub short : length text < most_bytes
  pub none : HasNoRequest text
  pub goes_on : MayBecomeRequest text
  pub lines : ¬ (HasLine65 text)

-- no head begins with the first bytes of the text, and neither limit was reached before that showed
pub record IsBad (text : List ℕ) : Type 0 where
  pub never : NeverHasRequest (take 65535 text)
  pub lines : ¬ (HasLine65 text)

-- as many bytes as a head may have hold none, and before the last of them a head might still have begun with them
pub record FillsUp (text : List ℕ) : Type 0 where
  pub full : length text ≡ most_bytes
  pub none : HasNoRequest text
  pub goes_on : MayBecomeRequest (take 65535 text)

-- a limit was reached
abbrev pub IsTooLong : List ℕ → Type 0
IsTooLong text = HasLine65 text ⊎ FillsUp text

-- what `judge` answers of a text of at most 65,536 bytes
abbrev pub IsJudged : List ℕ → List HeaderSpan → Judged → Type 0
IsJudged text headers (Whole spans) =
    IsRequestWithin text headers spans
    × ((h : RequestHead) × BeginsHead text h (drop spans.len text) × IsRequestAt text headers spans h)
IsJudged text headers Open = IsOpen text
IsJudged text headers Bad = IsBad text
IsJudged text headers Long = IsTooLong text

-- what `parse` answers of a text
abbrev pub IsParsed : List ℕ → List HeaderSpan → Parsed → Type 0
IsParsed text headers (parsed.Whole spans) = IsRequestWithin text headers spans × IsRequestOf text headers spans
IsParsed text headers parsed.Open = HasNoRequest text × MayBecomeRequest text
IsParsed text headers parsed.Refused = NeverHasRequest text
IsParsed text headers parsed.Crowded = RequestExceeds most_lines text
