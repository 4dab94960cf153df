-- What `next_head` and `body` answer.
use Rattle.std.specs.Prelude.{◌≡◌, ◌-◌, ◌<◌, ◌≤◌, ◌⊎◌, ℕ, List, [], ◌++◌, length, take, drop, Option, Some, None, Result, Ok, Err}
use Rattle.fault_base.specs.Counts.{Rose}
use Rattle.httparse.specs.Grammar.{RequestHead}
use Rattle.httparse.specs.declared.spans.HeaderSpan.{HeaderSpan}
use Rattle.http_wire.specs.declared.fault.WireFault.{WireFault}
use Rattle.http_wire.specs.declared.fault.WireFault.TheVariants.{BadHead, HeadTooLong, ChunkedBody, BodyCut, ReadFault, NoMemory}
use Rattle.http_wire.specs.declared.arrival.Arrival.{Arrival}
use Rattle.http_wire.specs.declared.arrival.Arrival.TheVariants as arrival
use Rattle.http_wire.specs.declared.arrival.Piece.{Piece}
use Rattle.http_wire.specs.declared.arrival.Piece.TheVariants as taken
use Rattle.http_wire.specs.declared.judging.Judged.TheVariants as judged
use Rattle.http_wire.specs.declared.reading.Reading.{Reading}
use Rattle.http_wire.specs.declared.reading.Reading.TheVariants as reading
use Rattle.http_wire.specs.Heads.{most_bytes, BeginsHead, IsOpen, IsBad, IsTooLong, IsJudged}
use Rattle.http_wire.specs.Framing.{SaysLength, SaysNoLength, IsChunked}
use Rattle.http_wire.specs.Parts.{HeadParts, parts_of}
use Rattle.http_wire.specs.Taking.{CameBehind, HasEnded, SourceView, Taken, TakenNone}

-- the last bytes of the text came in one piece, when those before it were open
pub record LastPiece (before text : List ℕ) : Type 0 where
  pub asked : List ℕ
  pub last : List ℕ
  pub text_is : text ≡ asked ++ last
  pub reached : length before ≤ length asked
  pub was_open : IsOpen asked
  pub most : length last ≤ most_bytes

-- the text is what waited and what came behind it, and it came only because what was there before did not decide
pub record Came (before text : List ℕ) (source after : SourceView) : Type 0 where
  pub piece : List ℕ
  pub text_is : text ≡ before ++ piece
  pub took : Taken piece source after
  pub asked : (piece ≡ []) ⊎ LastPiece before text

-- what one take comes to: before and after it what waits, what is seen of the source, and the count of faults
abbrev pub TakesPiece : Piece → (old new : List ℕ) (source after : SourceView) (faults faults_after : ℕ) → Type 0
TakesPiece taken.Came old new source after faults faults_after =
    (n : ℕ) × CameBehind n old new source after × (0 < n) × (faults_after ≡ faults)
TakesPiece taken.Ended old new source after faults faults_after =
    CameBehind 0 old new source after × (faults_after ≡ faults)
TakesPiece taken.Failed old new source after faults faults_after =
    (new ≡ old) × TakenNone source after × Rose faults faults_after

-- what decides of a text
abbrev pub ahead : List ℕ → List ℕ
ahead text = take most_bytes text

-- why no more was taken: old and new are the counts of faults, after is what is seen of the source then
abbrev pub Arrives : Arrival → List ℕ → List HeaderSpan → SourceView → ℕ → ℕ → Type 0
Arrives (arrival.Whole spans) text headers after old new =
    IsJudged (ahead text) headers (judged.Whole spans) × (new ≡ old)
Arrives arrival.Bad text headers after old new = IsBad (ahead text) × (new ≡ old)
Arrives arrival.Long text headers after old new = IsTooLong (ahead text) × (new ≡ old)
Arrives arrival.Ended text headers after old new = IsOpen text × HasEnded after × (new ≡ old)
Arrives arrival.Failed text headers after old new = IsOpen text × Rose old new

-- a wire: the bytes that came and wait, the stated length of the last head's body, how much of it was not read yet,
-- and the refusal that it gives for good
pub record Wired : Type 0 where
  pub waits : List ℕ
  pub stated : ℕ
  pub body_left : ℕ
  pub refused : Option WireFault

-- the text begins with the head, whose body has n bytes, and what is behind it waits
pub record GivesHead (head : HeadParts) (n : ℕ) (text waits : List ℕ) : Type 0 where
  pub tree : RequestHead
  pub begins : BeginsHead text tree waits
  pub parts : head ≡ parts_of tree
  pub length_is : SaysLength head.lines n
  pub plain : ¬ (IsChunked head.lines)

-- the text begins with the head, which has len bytes
pub record IsHeadOf (head : HeadParts) (text : List ℕ) (len : ℕ) : Type 0 where
  pub tree : RequestHead
  pub begins : BeginsHead text tree (drop len text)
  pub parts : head ≡ parts_of tree
  pub fits : len ≤ length text

-- the text begins with a head whose Content-Length is none
pub record HasNoLength (text : List ℕ) : Type 0 where
  pub tree : RequestHead
  pub after : List ℕ
  pub begins : BeginsHead text tree after
  pub says : SaysNoLength (parts_of tree).lines

-- the text begins with a head whose body comes in chunks, and whose Content-Length is right
pub record HasChunks (text : List ℕ) : Type 0 where
  pub tree : RequestHead
  pub after : List ℕ
  pub begins : BeginsHead text tree after
  pub stated : ℕ
  pub says : SaysLength (parts_of tree).lines stated
  pub chunked : IsChunked (parts_of tree).lines

-- why a head is refused: old and new are the counts of faults, after is what is seen of the source then
abbrev pub Refuses : WireFault → List ℕ → SourceView → ℕ → ℕ → Type 0
Refuses BadHead text after old new = (IsBad (ahead text) ⊎ HasNoLength text) × (new ≡ old)
Refuses HeadTooLong text after old new = IsTooLong (ahead text) × (new ≡ old)
Refuses ChunkedBody text after old new = HasChunks text × (new ≡ old)
Refuses (BodyCut read stated) text after old new =
    IsOpen text × HasEnded after × (0 < length text) × (read ≡ length text) × (stated ≡ 0) × (new ≡ old)
Refuses ReadFault text after old new = IsOpen text × Rose old new
Refuses NoMemory text after old new = new ≡ old

-- what a head at the front of the text comes to
abbrev pub TakesHead : Reading → List ℕ → List ℕ → Type 0
TakesHead (reading.Whole head n) text waits = GivesHead head n text waits
TakesHead reading.End text waits = ⊥
TakesHead (reading.Refused BadHead) text waits = HasNoLength text × (waits ≡ text)
TakesHead (reading.Refused ChunkedBody) text waits = HasChunks text × (waits ≡ text)
TakesHead (reading.Refused NoMemory) text waits = waits ≡ text
TakesHead (reading.Refused _) text waits = ⊥

-- what the end of the source behind so many bytes comes to
abbrev pub EndsAfter : Reading → ℕ → Type 0
EndsAfter (reading.Whole head n) waiting = ⊥
EndsAfter reading.End waiting = waiting ≡ 0
EndsAfter (reading.Refused fault) waiting = (fault ≡ BodyCut waiting 0) × (0 < waiting)

-- what the text that came comes to: after is what is seen of the source then
abbrev pub Decides : Reading → (text waits : List ℕ) → SourceView → (faults faults_after : ℕ) → Type 0
Decides (reading.Whole head n) text waits after faults faults_after = GivesHead head n text waits × (faults_after ≡ faults)
Decides reading.End text waits after faults faults_after =
    (text ≡ []) × (waits ≡ []) × HasEnded after × (faults_after ≡ faults)
Decides (reading.Refused fault) text waits after faults faults_after =
    Refuses fault text after faults faults_after × (waits ≡ text)

-- what was read, of the bytes that waited and those that were taken
pub record ReadsNext
    (result : Reading) (before waits : List ℕ) (source after : SourceView) (faults faults_after : ℕ) : Type 0 where
  pub text : List ℕ
  pub came : Came before text source after
  pub decides : Decides result text waits after faults faults_after

-- the wire after a head, after the end, and after a refusal
abbrev pub Leaves : Result (Option HeadParts) WireFault → Wired → (Reading → Type 0) → Type 0
Leaves (Ok (Some head)) new Reads =
    Reads (reading.Whole head new.stated) × (new.body_left ≡ new.stated) × (new.refused ≡ None)
Leaves (Ok None) new Reads = Reads reading.End × (new.body_left ≡ 0) × (new.refused ≡ None)
Leaves (Err fault) new Reads = Reads (reading.Refused fault) × (new.body_left ≡ 0) × (new.refused ≡ Some fault)

-- what `next_head` answers of a wire that has refused nothing
abbrev pub Answers : Result (Option HeadParts) WireFault → List ℕ → (source after : SourceView) → Wired → (faults faults_after : ℕ) → Type 0
Answers result before source after new faults faults_after =
    Leaves result new (λ reads. ReadsNext reads before new.waits source after faults faults_after)

-- n bytes were brought to the front of the buffer: of those that waited, or where none did by one take
pub record BringsFront
    (n : ℕ) (into old new : List ℕ) (source after : SourceView) (faults faults_after : ℕ) : Type 0 where
  pub fits : n ≤ length into
  pub piece : List ℕ
  pub joined : old ++ piece ≡ take n into ++ new
  pub took : Taken piece source after
  pub asked : (piece ≡ []) ⊎ ((old ≡ []) × (piece ≡ take n into))
  pub ends : n ≡ 0 → (old ≡ []) × (new ≡ []) × HasEnded after
  pub counted : faults_after ≡ faults

-- what `bring` does
abbrev pub Brings : {E : Type 0} → Result ℕ E → (into old new : List ℕ) (source after : SourceView) (faults faults_after : ℕ) → Type 0
Brings (Ok n) into old new source after faults faults_after = BringsFront n into old new source after faults faults_after
Brings (Err _) into old new source after faults faults_after =
    (old ≡ []) × (new ≡ []) × TakenNone source after × Rose faults faults_after

-- n bytes of the body were given, none only where there is no room or nothing of it is left
pub record GivesPart
    (n : ℕ) (into : List ℕ) (old new : Wired) (source after : SourceView) (faults faults_after : ℕ) : Type 0 where
  pub fits : n ≤ length into
  pub within : n ≤ old.body_left
  pub left_now : new.body_left ≡ old.body_left - n
  pub piece : List ℕ
  pub joined : old.waits ++ piece ≡ take n into ++ new.waits
  pub took : Taken piece source after
  pub asked : (piece ≡ []) ⊎ ((old.waits ≡ []) × (piece ≡ take n into))
  pub ends : n ≡ 0 → (length into ≡ 0) ⊎ (old.body_left ≡ 0)
  pub still : n ≡ 0 → after ≡ source
  pub stated : new.stated ≡ old.stated
  pub passes : new.refused ≡ None
  pub counted : faults_after ≡ faults

-- a body is refused only where there is room in the buffer, nothing waits, and some of it is left
pub record CutsBody (fault : WireFault) (into : List ℕ) (old new : Wired) : Type 0 where
  pub room : 0 < length into
  pub waits : (old.waits ≡ []) × (new.waits ≡ [])
  pub some : 0 < old.body_left
  pub kept : (new.body_left ≡ old.body_left) × (new.stated ≡ old.stated)
  pub refused : new.refused ≡ Some fault

-- what `body` answers of a wire that has refused nothing
abbrev pub GivesBody : Result ℕ WireFault → List ℕ → Wired → Wired → SourceView → SourceView → ℕ → ℕ → Type 0
GivesBody (Ok n) into old new source after faults faults_after = GivesPart n into old new source after faults faults_after
GivesBody (Err (BodyCut read stated)) into old new source after faults faults_after =
    CutsBody (BodyCut read stated) into old new × (read ≡ old.stated - old.body_left) × (stated ≡ old.stated)
    × TakenNone source after × HasEnded after × (faults_after ≡ faults)
GivesBody (Err ReadFault) into old new source after faults faults_after =
    CutsBody ReadFault into old new × TakenNone source after × Rose faults faults_after
GivesBody (Err _) into old new source after faults faults_after = ⊥
