-- Scripts, the bytes that spell them, and the first line that is none.
use Rattle.std.specs.Prelude.{◌≡◌, ◌≢◌, ◌⊎◌, ◌+◌, ◌<◌, ◌≤◌, ℕ, List, [], ◌∷◌, ◌++◌, All, length, ⊤, Result, Ok, Err}
use Rattle.std.specs.List.{flat_map, count_by}
use Rattle.std.specs.Prelude.{◌==◌}
use Rattle.drill_script.specs.Limits.{most_lines, most_bytes, most_key, most_fill}
use Rattle.drill_script.specs.Lines.{IsWord, Fits, words_of, spelling}
use Rattle.drill_script.specs.declared.fault.ScriptFault.{ScriptFault}
use Rattle.drill_script.specs.declared.fault.ScriptFault.TheVariants.{BadLine, NoMemory}
use Rattle.drill_script.specs.declared.line.Line.{Line}
use Rattle.drill_script.specs.declared.line.Line.TheVariants.{Set, Put, Fill, Get, GetVersion, Range, Delete, DeleteVersion, Go, Run, UpTo, Lose, Back, Hurt, Fuse, Stop}

-- ---- lines of a script

-- a line makes a set of 4 to 16 drives, of which 1 to half are parity
abbrev pub IsSetLine : Line → Type 0
IsSetLine (Set drives parity mode) = (4 ≤ drives) × (drives ≤ 16) × (1 ≤ parity) × (parity + parity ≤ drives)
IsSetLine line = ⊥

-- the number of drives of the set that a line makes
abbrev pub drives_of : Line → ℕ
drives_of (Set drives parity mode) = drives
drives_of line = 0

-- a key isn't too long
abbrev pub IsKey : List ℕ → Type 0
IsKey key = length key ≤ most_key

-- a line is an event in a set of so many drives
abbrev pub IsEvent : ℕ → Line → Type 0
IsEvent drives (Set _ _ _) = ⊥
IsEvent drives (Put actor key body) = IsKey key
IsEvent drives (Fill actor key size) = IsKey key × (size ≤ most_fill)
IsEvent drives (Get actor key) = IsKey key
IsEvent drives (GetVersion actor key id) = IsKey key
IsEvent drives (Range actor key from to) = IsKey key
IsEvent drives (Delete actor key) = IsKey key
IsEvent drives (DeleteVersion actor key id) = IsKey key
IsEvent drives (Go actor) = ⊤
IsEvent drives (Run actor) = ⊤
IsEvent drives (UpTo actor) = ⊤
IsEvent drives (Lose index) = index < drives
IsEvent drives (Back index) = index < drives
IsEvent drives (Hurt index name place) = index < drives
IsEvent drives (Fuse index calls late) = index < drives
IsEvent drives Stop = ⊤

-- the words of a line are words, its numbers fit their types, and its text isn't too long
pub record IsSound (line : Line) : Type 0 where
  pub words : All IsWord (words_of line)
  pub fits : Fits line
  pub short : length (spelling line) ≤ most_bytes

-- a line is sound, and an event in a set of so many drives
abbrev pub IsEventLine : ℕ → Line → Type 0
IsEventLine drives line = IsSound line × IsEvent drives line

-- lines are a script: the first makes the set, and the others are events in it
abbrev pub IsScript : List Line → Type 0
IsScript [] = ⊥
IsScript (first ∷ events) = IsSound first × IsSetLine first × All (IsEventLine (drives_of first)) events × (length events < most_lines)

-- ---- the bytes of a script

-- the text of a line with its LF
abbrev pub line_text : Line → List ℕ
line_text line = spelling line ++ 10 ∷ []

-- the text of lines
abbrev pub script_text : List Line → List ℕ
script_text lines = flat_map line_text lines

-- bytes spell a script
pub record Spells (bytes : List ℕ) (lines : List Line) : Type 0 where
  pub script : IsScript lines
  pub are : bytes ≡ script_text lines

-- lines are a script, or none yet
abbrev pub IsBegun : List Line → Type 0
IsBegun lines = (lines ≡ []) ⊎ IsScript lines

-- the first line that is none is the one of this number: as many lines of a script stand before it as can, and either something stands behind them, or
-- there is no line at all
pub record IsFirstBad (bytes : List ℕ) (number : ℕ) : Type 0 where
  pub before : List Line
  pub rest : List ℕ
  pub begun : IsBegun before
  pub are : bytes ≡ script_text before ++ rest
  pub left : (rest ≢ []) ⊎ (before ≡ [])
  pub none : (line : Line) (more : List ℕ) → IsScript (before ++ line ∷ []) → rest ≢ line_text line ++ more
  pub at : number ≡ length before + 1

-- what a reader of bytes answers; for want of memory it owes nothing
abbrev pub Reads : {A : Type 0} → (A → List Line) → List ℕ → Result A ScriptFault → Type 0
Reads items bytes (Ok lines) = Spells bytes (items lines)
Reads items bytes (Err (BadLine number)) = IsFirstBad bytes number
Reads items bytes (Err NoMemory) = ⊤

-- ---- where reading may end

-- a byte is no LF
abbrev pub IsNoFeed : ℕ → Type 0
IsNoFeed byte = byte ≢ 10

-- how many line feeds bytes have
abbrev pub feeds : List ℕ → ℕ
feeds bytes = count_by (λ byte. byte == 10) bytes

-- bytes have a line that is too long
pub record HasLongLine (bytes : List ℕ) : Type 0 where
  pub front : List ℕ
  pub run : List ℕ
  pub back : List ℕ
  pub are : bytes ≡ front ++ (run ++ back)
  pub lacks_feed : All IsNoFeed run
  pub long : most_bytes < length run

-- bytes have a line more than a script may have
pub record HasManyLines (bytes : List ℕ) : Type 0 where
  pub front : List ℕ
  pub byte : ℕ
  pub back : List ℕ
  pub are : bytes ≡ front ++ (byte ∷ back)
  pub many : most_lines ≤ feeds front

-- no script begins with these bytes, whatever follows, and the number of its first bad line is known: they have a line that is too long, or one line too
-- many
abbrev pub IsOver : List ℕ → Type 0
IsOver bytes = HasLongLine bytes ⊎ HasManyLines bytes

-- the first bad line is the one of this number, whatever follows
abbrev pub StaysBad : List ℕ → ℕ → Type 0
StaysBad bytes number = (more : List ℕ) → IsFirstBad (bytes ++ more) number

-- ---- laws

-- bytes spell one script at most
abbrev pub SpellOne : Type 0
SpellOne = (bytes : List ℕ) (one other : List Line) → Spells bytes one → Spells bytes other → one ≡ other

-- bytes that spell a script have no first bad line
abbrev pub NoneIsBad : Type 0
NoneIsBad = (bytes : List ℕ) (lines : List Line) (number : ℕ) → Spells bytes lines → IsFirstBad bytes number → ⊥

-- bytes have one first bad line at most
abbrev pub OneIsFirst : Type 0
OneIsFirst = (bytes : List ℕ) (one other : ℕ) → IsFirstBad bytes one → IsFirstBad bytes other → one ≡ other
