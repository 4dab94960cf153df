-- What a desk is asked, what it tells, and why a call is cut.
use Rattle.std.specs.Prelude.{◌≡◌, ◌⊎◌, ℕ, ◌<◌, ◌≤◌, List, [], ◌∷◌, ◌++◌, length, map, Result, Ok, Err}
use Rattle.std.specs.List.{concat}
use Rattle.fault_base.specs.Counts.{Rose}
use Rattle.call_types.specs.Feeds.{FeedEnded, FeedView, Gave}
use Rattle.call_types.specs.declared.feed.Cut.{Cut}
use Rattle.call_types.specs.declared.feed.Cut.TheVariants.{ReadFault, BodyCut, WriteFault, ShardCut, NoMemory}
use Rattle.call_types.specs.declared.reply.Reply.{Reply}
use Rattle.call_types.specs.declared.reply.Reply.TheVariants.{Found}
use Rattle.desk_base.specs.Telling.{Effect, Telling, TellsAll}
use Rattle.desk_base.specs.Telling.Telling.{Head as TheHead, Piece}
use Rattle.desk_base.specs.declared.call.Call.{Call}
use Rattle.desk_base.specs.declared.call.Call.TheVariants.{Get}

-- a call, and the Unix second at which it is made
pub record Task : Type 0 where
  pub call : Call
  pub now : ℕ

-- how many bytes of a version a call gives: GetObject alone gives its body
abbrev pub given_of : Call → ℕ → ℕ
given_of (Get at pick ask matches) count = count
given_of other count = 0

-- how many bytes of a body follow the head of a reply
abbrev pub bytes_after : Reply → Call → ℕ
bytes_after (Found version span id) call = given_of call span.length
bytes_after other call = 0

-- a reply with its body, piece by piece
abbrev pub tale_of : Reply → List (List ℕ) → List Telling
tale_of reply pieces = TheHead reply ∷ map Piece pieces

-- what was told of a reply when its call was cut: nothing, or its head and some of its body
abbrev pub TellsPart : Call → List Telling → Type 0
TellsPart call tale = (tale ≡ []) ⊎ ((reply : Reply) × (pieces : List (List ℕ)) × (length (concat pieces) ≤ bytes_after reply call)
    × (tale ≡ tale_of reply pieces))

-- what a call tells, by how it ends: a reply with its whole body, or the head and less than its whole body, or what was told when it was cut
abbrev pub CallTells : {T : Type 0} → Call → Result T Cut → List Telling → Type 0
CallTells call (Ok _) tale = (reply : Reply) × (pieces : List (List ℕ)) × (length (concat pieces) ≡ bytes_after reply call)
    × (tale ≡ tale_of reply pieces)
CallTells call (Err (ShardCut _)) tale = (reply : Reply) × (pieces : List (List ℕ)) × (length (concat pieces) < bytes_after reply call)
    × (tale ≡ tale_of reply pieces)
CallTells call (Err other) tale = TellsPart call tale

-- a teller was told these things, and took all but the last, in the midst of which its sink failed
pub record BreaksLast {T : Type 0} (takes breaks : Effect T) (old : T) (tale : List Telling) (new : T) : Type 0 where
  pub earlier : List Telling
  pub last : Telling
  pub are : tale ≡ earlier ++ last ∷ []
  pub mid : T
  pub took : TellsAll takes old earlier mid
  pub broke : breaks mid last new

-- what a teller was told by a call, by how it ends: all was taken, but for what the call was cut in by a fault of the sink
abbrev pub WasTold : {T U : Type 0} → Effect T → Effect T → Result U Cut → T → List Telling → T → Type 0
WasTold takes breaks (Ok _) old tale new = TellsAll takes old tale new
WasTold takes breaks (Err ReadFault) old tale new = TellsAll takes old tale new
WasTold takes breaks (Err (BodyCut _ _)) old tale new = TellsAll takes old tale new
WasTold takes breaks (Err WriteFault) old tale new = BreaksLast takes breaks old tale new
WasTold takes breaks (Err (ShardCut _)) old tale new = TellsAll takes old tale new
WasTold takes breaks (Err NoMemory) old tale new = TellsAll takes old tale new

-- why a call was cut, with the counts of faults of the feed and of the teller: the feed's rose, its source met its end before the stated length,
-- or the teller's rose; no other count moves
abbrev pub CutCause : {T : Type 0} → Result T Cut → FeedView → ℕ → ℕ → ℕ → ℕ → Type 0
CutCause (Ok _) feed read_old read_new write_old write_new = (read_new ≡ read_old) × (write_new ≡ write_old)
CutCause (Err ReadFault) feed read_old read_new write_old write_new = Rose read_old read_new × (write_new ≡ write_old)
CutCause (Err (BodyCut read stated)) feed read_old read_new write_old write_new = (read ≡ feed.given) × (stated ≡ feed.stated) × (feed.given < feed.stated)
    × FeedEnded feed × (read_new ≡ read_old) × (write_new ≡ write_old)
CutCause (Err WriteFault) feed read_old read_new write_old write_new = (read_new ≡ read_old) × Rose write_old write_new
CutCause (Err (ShardCut _)) feed read_old read_new write_old write_new = (read_new ≡ read_old) × (write_new ≡ write_old)
CutCause (Err NoMemory) feed read_old read_new write_old write_new = (read_new ≡ read_old) × (write_new ≡ write_old)

-- what a call does: the bytes of its body that it took, all that it told, the failed telling included, and what both come to
pub record Serves {T U : Type 0} (takes breaks : Effect T) (Answers : List ℕ → List Telling → Type 0) (call : Call) (result : Result U Cut)
    (feed feed_after : FeedView) (old new : T) : Type 0 where
  pub body : List ℕ
  pub took : Gave body feed feed_after
  pub tale : List Telling
  pub told : WasTold takes breaks result old tale new
  pub whole : CallTells call result tale
  pub answers : Answers body tale
