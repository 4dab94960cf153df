-- What a script's reader holds.
use Rattle.std.specs.Prelude.{◌≡◌, ◌≢◌, ◌⊎◌, ◌↔◌, ◌+◌, ℕ, Bool, true, false, List, [], ◌∷◌, ◌++◌, All, length, Option, Some, None, MatchOption}
use Rattle.drill_script.specs.Lines.{IsWord, Fits, words_of, spelling}
use Rattle.drill_script.specs.Scripts.{IsBegun, IsEvent, IsNoFeed, IsOver, IsSetLine, StaysBad, drives_of, feeds, script_text}
use Rattle.drill_script.specs.declared.line.Line.{Line}

-- the lines so far, the bytes of the line that hasn't ended, how many lines have ended, the number of the first bad line, and whether nothing more is read
pub record Progress : Type 0 where
  pub lines : List Line
  pub line : List ℕ
  pub ended : ℕ
  pub bad : Option ℕ
  pub over : Bool

-- a line may stand behind others as the set line or as an event
abbrev pub MayFollow : List Line → Line → Type 0
MayFollow [] line = IsSetLine line
MayFollow (first ∷ events) line = IsEvent (drives_of first) line

-- bytes spell a line that may stand behind others
pub record SpellsNext (before : List Line) (bytes : List ℕ) (line : Line) : Type 0 where
  pub words : All IsWord (words_of line)
  pub fits : Fits line
  pub follows : MayFollow before line
  pub are : bytes ≡ spelling line

-- what a reader of one line answers
abbrev pub ReadsNext : List Line → List ℕ → Option Line → Type 0
ReadsNext before bytes None = (line : Line) → SpellsNext before bytes line → ⊥
ReadsNext before bytes (Some line) = SpellsNext before bytes line

-- no bytes, or bytes that end with an LF
abbrev pub AreEnded : List ℕ → Type 0
AreEnded bytes = (bytes ≡ []) ⊎ ((before : List ℕ) × (bytes ≡ before ++ 10 ∷ []))

-- bytes end in a line that hasn't ended, behind so many that have
pub record EndsIn (bytes line : List ℕ) (ended : ℕ) : Type 0 where
  pub front : List ℕ
  pub ended_there : AreEnded front
  pub are : bytes ≡ front ++ line
  pub lacks_feed : All IsNoFeed line
  pub count : feeds front ≡ ended

-- bytes are good lines, and then these
pub record AreGood (bytes : List ℕ) (lines : List Line) (line : List ℕ) (ended : ℕ) : Type 0 where
  pub begun : IsBegun lines
  pub are : bytes ≡ script_text lines ++ line
  pub count : length lines ≡ ended

-- a reader was given these bytes; it reads on exactly where they don't end reading
pub record HasRead (bytes : List ℕ) (reader : Progress) : Type 0 where
  pub ends : reader.over ≡ false → EndsIn bytes reader.line reader.ended
  pub over : (reader.over ≡ true) ↔ IsOver bytes
  pub known : reader.over ≡ true → reader.bad ≢ None
  pub state : MatchOption reader.bad (AreGood bytes reader.lines reader.line reader.ended) (StaysBad bytes)

-- the number of the first bad line, where a line turns out to be bad
abbrev pub first_bad : Option ℕ → ℕ → Option ℕ
first_bad None number = Some number
first_bad (Some first) number = Some first

-- a line is one line more, or bad
abbrev pub Weighed : List Line → List ℕ → ℕ → List Line → Option ℕ → Type 0
Weighed lines bytes number more None = (line : Line) × (more ≡ lines ++ line ∷ []) × SpellsNext lines bytes line
Weighed lines bytes number more (Some bad) = (bad ≡ number) × ((line : Line) → SpellsNext lines bytes line → ⊥)

-- a line that ended is one line more, or the first bad one, unless there is one already
pub record Judged (old new : Progress) : Type 0 where
  pub line : new.line ≡ old.line
  pub ended : new.ended ≡ old.ended
  pub over : new.over ≡ old.over
  pub state : MatchOption old.bad (Weighed old.lines old.line (old.ended + 1) new.lines new.bad) (λ first. new.bad ≡ Some first)
