-- What a client asked of the store and of its connection (RFC 9110, sections 7.6.1 and 10.1.1; RFC 9112, section 9.6), and the text of the answer.
use Rattle.std.specs.Prelude.{◌≡◌, ◌⊎◌, ◌+◌, ◌≤◌, ◌==◌, ◌||◌, ◌&&◌, nat_lt, if◌then◌else◌, ℕ, Bool, true, false, not, cond, IsTrue, List, [], ◌∷◌, ◌++◌, codes, length, take, drop, slice_range, Option, Some, None, Ok, Err}
use Rattle.std.specs.List.{flat_map}
use Rattle.httparse.specs.Grammar.{RequestHead, IsRequestHead, print_request}
use Rattle.http_wire.specs.Answers.{ahead, HasNoLength, HasChunks}
use Rattle.http_wire.specs.Framing.{IsChunked, SaysLength}
use Rattle.http_wire.specs.Heads.{IsBad, IsTooLong, most_bytes, most_lines}
use Rattle.http_wire.specs.Names.{IsNamed, has_name, value_of}
use Rattle.http_wire.specs.Parts.{HeadParts, parts_of}
use Rattle.call_types.specs.declared.refusal.Refusal.{Refusal}
use Rattle.call_types.specs.declared.refusal.Refusal.TheVariants.{BadHead, HeadTooLong, ChunkedBody, NoLength, EntityTooLarge}
use Rattle.desk_base.specs.Calls.{most_body}
use Rattle.desk_base.specs.Telling.{Telling}
use Rattle.desk_base.specs.Telling.Telling.{Head, Piece}
use Rattle.desk_base.specs.declared.call.Call.{Call}
use Rattle.s3_request.specs.Reads as reads
use Rattle.s3_reply.specs.Replies.{reply_bytes}
use Rattle.serve_loop.specs.declared.manner.Manner.{Manner}
use Rattle.serve_loop.specs.declared.manner.Manner.TheVariants.{Stays, ClientCloses, ServerCloses}

-- ---- what a head asks of its connection

-- a space or a tab
abbrev pub is_blank : ℕ → Bool
is_blank byte = byte == 32 || byte == 9

-- a token ends before this part of a list: its first byte that is no blank is a comma, if there is one
abbrev pub ends_token : List ℕ → Bool
ends_token [] = true
ends_token (byte ∷ after) = if is_blank byte then ends_token after else byte == 44

-- only blanks stand behind the last comma, where a byte follows
abbrev pub stays_fresh : Bool → ℕ → Bool
stays_fresh fresh byte = byte == 44 || fresh && is_blank byte

-- the same at the end of a part of a list, where it held before
abbrev pub is_fresh_after : Bool → List ℕ → Bool
is_fresh_after fresh [] = fresh
is_fresh_after fresh (byte ∷ part) = is_fresh_after (stays_fresh fresh byte) part

-- a token begins behind this part of a list: only blanks stand behind its last comma
abbrev pub begins_token : List ℕ → Bool
begins_token before = is_fresh_after true before

-- the token `close`, without regard to case, stands at place i of a list with commas between its tokens
pub record ClosesAt (value : List ℕ) (i : ℕ) : Type 0 where
  pub fits : i + 5 ≤ length value
  pub named : IsNamed (codes "close") (slice_range value i (i + 5))
  pub begins : IsTrue (begins_token (take i value))
  pub ends : IsTrue (ends_token (drop (i + 5) value))

-- the list has that token
abbrev pub ListsClose : List ℕ → Type 0
ListsClose value = (i : ℕ) × ClosesAt value i

-- the first Connection line has it
abbrev pub SaysClose : HeadParts → Type 0
SaysClose head = (value : List ℕ) × (value_of head.lines (codes "connection") ≡ Some value) × ListsClose value

-- the client asks to close: by HTTP/1.0, or by the token
abbrev pub AsksClose : HeadParts → Type 0
AsksClose head = (head.minor ≡ 0) ⊎ SaysClose head

-- the first Expect line awaits 100 Continue
abbrev pub is_awaited : Option (List ℕ) → Bool
is_awaited None = false
is_awaited (Some value) = has_name (codes "100-continue") value

-- 100 Continue is awaited before a body of so many bytes: by HTTP/1.1 alone, and where there are some
abbrev pub expects_continue : HeadParts → ℕ → Bool
expects_continue head size = head.minor == 1 && nat_lt 0 size && is_awaited (value_of head.lines (codes "expect"))

-- the server closes after this refusal and leaves its body unread: none is stated, or it is too long
abbrev pub leaves_body : Refusal → Bool
leaves_body NoLength = true
leaves_body EntityTooLarge = true
leaves_body other = false

-- ---- what a client asked

-- what a client asked: bytes that are no head which is served, for this reason; or a head and the length of its body, with the refusal of its call
-- or with its call
pub data Ask : Type 0 where
  unread : Refusal → Ask
  refused : HeadParts → ℕ → Refusal → Ask
  asked : HeadParts → ℕ → Call → Ask

-- the head, where one was read
abbrev pub head_of : Ask → Option HeadParts
head_of (unread why) = None
head_of (refused head size why) = Some head
head_of (asked head size call) = Some head

-- the call, where one was read
abbrev pub call_of : Ask → Option Call
call_of (unread why) = None
call_of (refused head size why) = None
call_of (asked head size call) = Some call

-- how many bytes of a body are read: all that the head states, but where the server leaves the body unread
abbrev pub size_of : Ask → ℕ
size_of (unread why) = 0
size_of (refused head size why) = cond (leaves_body why) 0 size
size_of (asked head size call) = size

-- the bytes are one head within both limits, with these parts, and its body has so many bytes and comes in no chunks
pub record IsHead (front : List ℕ) (head : HeadParts) (size : ℕ) : Type 0 where
  pub tree : RequestHead
  pub grammar : IsRequestHead tree
  pub is : front ≡ print_request tree
  pub bytes : length (print_request tree) ≤ most_bytes
  pub lines : length tree.fields ≤ most_lines
  pub parts : head ≡ parts_of tree
  pub states : SaysLength head.lines size
  pub plain : ¬ (IsChunked head.lines)

-- why bytes are no head that is served
abbrev pub IsUnread : Refusal → List ℕ → Type 0
IsUnread BadHead front = IsBad (ahead front) ⊎ HasNoLength front
IsUnread HeadTooLong front = IsTooLong (ahead front)
IsUnread ChunkedBody front = HasChunks front
IsUnread other front = ⊥

-- what the bytes ask: the call of a head, or its refusal, is that of `s3_request` under the limit for bodies
abbrev pub Asks : Ask → List ℕ → Type 0
Asks (unread why) front = IsUnread why front
Asks (refused head size why) front = IsHead front head size × (reads.call_of head most_body ≡ Err why)
Asks (asked head size call) front = IsHead front head size × (reads.call_of head most_body ≡ Ok call)

-- the server closes after it: no head was read, or its body is left unread
abbrev pub ends_wire : Ask → Bool
ends_wire (unread why) = true
ends_wire (refused head size why) = leaves_body why
ends_wire (asked head size call) = false

-- the number of the last request that is served on one connection, from 0
abbrev pub last_number : ℕ
last_number = 999999

-- the server closes after the request of this number
abbrev pub ServerParts : ℕ → Ask → Type 0
ServerParts number ask = (number ≡ last_number) ⊎ IsTrue (ends_wire ask)

-- the client asks to close
abbrev pub ClientParts : Ask → Type 0
ClientParts (unread why) = ⊥
ClientParts (refused head size why) = AsksClose head
ClientParts (asked head size call) = AsksClose head

-- what becomes of the connection after the request of this number
abbrev pub IsManner : ℕ → Ask → Manner → Type 0
IsManner number ask Stays = ¬ (ServerParts number ask) × ¬ (ClientParts ask)
IsManner number ask ClientCloses = ¬ (ServerParts number ask) × ClientParts ask
IsManner number ask ServerCloses = ServerParts number ask

-- whether the connection closes
abbrev pub closes : Manner → Bool
closes Stays = false
closes ClientCloses = true
closes ServerCloses = true

-- what goes out before the body is read, where the client awaits it
abbrev pub greeting : Bool → List ℕ
greeting expected = cond expected (codes "HTTP/1.1 100 Continue\r\n\r\n") []

abbrev pub continue_of : Ask → List ℕ
continue_of (unread why) = []
continue_of (refused head size why) = greeting (not (leaves_body why) && expects_continue head size)
continue_of (asked head size call) = greeting (expects_continue head size)

-- the text of what is told: that of a reply's head and document, or a piece of its body as it is
abbrev pub telling_text : Option HeadParts → Option Call → ℕ → Bool → Telling → List ℕ
telling_text head call now close (Head reply) = reply_bytes (record { head = head; call = call; reply = reply }) now close
telling_text head call now close (Piece bytes) = bytes

-- that of several things, one behind the other
abbrev pub tale_text : Option HeadParts → Option Call → ℕ → Bool → List Telling → List ℕ
tale_text head call now close tale = flat_map (telling_text head call now close) tale

-- a request with its answer: what was asked, the bytes of the head and what was read of the body, the moment, what becomes of the connection, and
-- what was told
pub record Exchange : Type 0 where
  pub ask : Ask
  pub front : List ℕ
  pub body : List ℕ
  pub now : ℕ
  pub manner : Manner
  pub tale : List Telling

-- the bytes of the request
abbrev pub bytes_of : Exchange → List ℕ
bytes_of x = x.front ++ x.body

-- the text of the reply alone
abbrev pub reply_of : Exchange → List ℕ
reply_of x = tale_text (head_of x.ask) (call_of x.ask) x.now (closes x.manner) x.tale

-- all that goes out
abbrev pub text_of : Exchange → List ℕ
text_of x = continue_of x.ask ++ reply_of x

-- those of several exchanges
abbrev pub all_bytes : List Exchange → List ℕ
all_bytes [] = []
all_bytes (x ∷ xs) = bytes_of x ++ all_bytes xs

abbrev pub all_texts : List Exchange → List ℕ
all_texts [] = []
all_texts (x ∷ xs) = text_of x ++ all_texts xs
