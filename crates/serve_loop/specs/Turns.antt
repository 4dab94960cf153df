-- What one request leads to.
use Rattle.std.specs.Prelude.{◌≡◌, ◌⊎◌, ◌+◌, ◌<◌, ◌≤◌, ℕ, Bool, List, [], ◌∷◌, ◌++◌, length, Option, Some, Result, Ok, Err}
use Rattle.fault_base.specs.Counts.{Rose}
use Rattle.call_types.specs.declared.feed.Cut.{Cut}
use Rattle.call_types.specs.declared.feed.Cut.TheVariants as cut
use Rattle.call_types.specs.declared.refusal.Refusal.{Refusal}
use Rattle.call_types.specs.declared.refusal.Refusal.TheVariants as refusal
use Rattle.call_types.specs.declared.reply.Reply.TheVariants.{Refused}
use Rattle.desk_base.specs.Answering.{Task}
use Rattle.desk_base.specs.Telling.{Telling}
use Rattle.desk_base.specs.Telling.Telling.{Head}
use Rattle.desk_base.specs.declared.call.Call.{Call}
use Rattle.http_wire.specs.Answers.{Wired}
use Rattle.http_wire.specs.Parts.{HeadParts}
use Rattle.http_wire.specs.Taking.{HasEnded, SourceView, Taken}
use Rattle.http_wire.specs.declared.fault.WireFault.{WireFault}
use Rattle.http_wire.specs.declared.fault.WireFault.TheVariants as fault
use Rattle.serve_loop.specs.Deeds.{Wires, CountsStay, Moved, Answered, CameTo, IsCutBy, IsCutOff, IsFront, IsMade, IsServed, MetEnd, TellsShort}
use Rattle.serve_loop.specs.Exchanges.{Ask, asked, Exchange, bytes_of, size_of, tale_text, text_of}
use Rattle.serve_loop.specs.Intakes.{PassedOver, PassedPart, CutsOver, unread_of}
use Rattle.serve_loop.specs.Sending.{Sent, SentFront}
use Rattle.serve_loop.specs.Session.{CountsSo, EndsSo}
use Rattle.serve_loop.specs.Replies.{Told}
use Rattle.serve_loop.specs.declared.ends.ConnectionEnd.{ConnectionEnd}
use Rattle.serve_loop.specs.declared.ends.ConnectionEnd.TheVariants.{Over, Closed, InputCut, ReadFault, WriteFault, ReplyCut, NoMemory}
use Rattle.serve_loop.specs.declared.ends.Turn.{Turn}
use Rattle.serve_loop.specs.declared.ends.Turn.TheVariants as turn
use Rattle.serve_loop.specs.declared.manner.Manner.{Manner}
use Rattle.serve_loop.specs.declared.manner.Manner.TheVariants.{Stays, ClientCloses, ServerCloses}

-- the end that a cut leads to
abbrev pub end_for : Cut → ConnectionEnd
end_for cut.ReadFault = ReadFault
end_for (cut.BodyCut read stated) = InputCut
end_for cut.WriteFault = WriteFault
end_for (cut.ShardCut whys) = ReplyCut whys
end_for cut.NoMemory = NoMemory

-- the refusal of bytes that are no head which is served, or else the end of a connection whose next head can't be read
abbrev pub unread_for : WireFault → Result Refusal ConnectionEnd
unread_for fault.BadHead = Ok refusal.BadHead
unread_for fault.HeadTooLong = Ok refusal.HeadTooLong
unread_for fault.ChunkedBody = Ok refusal.ChunkedBody
unread_for (fault.BodyCut read stated) = Err InputCut
unread_for fault.ReadFault = Err ReadFault
unread_for fault.NoMemory = Err NoMemory

-- what becomes of a connection behind a reply that was given
abbrev pub turn_after : Manner → Turn
turn_after Stays = turn.Answered
turn_after ClientCloses = turn.Ended Over
turn_after ServerCloses = turn.Ended Closed

-- what an exchange leads to
abbrev pub turn_for : {U : Type 0} → Result U Cut → Manner → Turn
turn_for (Ok _) manner = turn_after manner
turn_for (Err why) manner = turn.Ended (end_for why)

-- the rest of a body was read, and then what was held back of a reply was given
abbrev pub Finishes : {U : Type 0} → Result U Cut → (old new : Wired) → (source after : SourceView) → (reads reads_after : ℕ)
    → (told told_after : Told) → (writes writes_after : ℕ) → Type 0
Finishes (Ok _) old new source after reads reads_after told told_after writes writes_after =
    PassedOver old new source after reads reads_after × Sent told.held told.sink told_after.sink × (writes_after ≡ writes)
Finishes (Err cut.WriteFault) old new source after reads reads_after told told_after writes writes_after =
    PassedOver old new source after reads reads_after × SentFront told.held told.sink told_after.sink × Rose writes writes_after
Finishes (Err cut.ReadFault) old new source after reads reads_after told told_after writes writes_after =
    PassedPart old new source after × Rose reads reads_after × (told_after.sink ≡ told.sink) × (writes_after ≡ writes)
Finishes (Err (cut.BodyCut _ _)) old new source after reads reads_after told told_after writes writes_after =
    PassedPart old new source after × HasEnded (unread_of new after) × (reads_after ≡ reads) × (told_after.sink ≡ told.sink) × (writes_after ≡ writes)
Finishes (Err (cut.ShardCut _)) old new source after reads reads_after told told_after writes writes_after = ⊥
Finishes (Err cut.NoMemory) old new source after reads reads_after told told_after writes writes_after = ⊥

-- a call was cut, and what was held back of a reply was given where its body was cut
abbrev pub BreaksOff : {U : Type 0} → Cut → Result U Cut → (told told_after : Told) → (writes writes_after : ℕ) → Type 0
BreaksOff (cut.ShardCut whys) (Ok _) told told_after writes writes_after = ⊥
BreaksOff (cut.ShardCut whys) (Err why) told told_after writes writes_after =
    ((why ≡ cut.ShardCut whys) × Sent told.held told.sink told_after.sink × (writes_after ≡ writes))
    ⊎ ((why ≡ cut.WriteFault) × SentFront told.held told.sink told_after.sink × Rose writes writes_after)
BreaksOff other (Ok _) told told_after writes writes_after = ⊥
BreaksOff other (Err why) told told_after writes writes_after = (why ≡ other) × (told_after.sink ≡ told.sink) × (writes_after ≡ writes)

-- the body waits for a call that takes one, and was read before a call that takes none
pub record IsReady (long stated : ℕ) (old new : Wired) (source after : SourceView) (reads reads_after : ℕ) : Type 0 where
  pub rest : List ℕ
  pub took : Taken rest (unread_of old source) (unread_of new after)
  pub all : length rest + new.body_left ≡ old.body_left
  pub states : stated ≡ long
  pub fresh : new.body_left ≡ long
  pub one : (rest ≡ []) ⊎ (long ≡ 0)
  pub counted : reads_after ≡ reads

abbrev pub Readies : {U : Type 0} → Result U Cut → (long stated : ℕ) → (old new : Wired) → (source after : SourceView) → (reads reads_after : ℕ) → Type 0
Readies (Ok _) long stated old new source after reads reads_after = IsReady long stated old new source after reads reads_after
Readies (Err why) long stated old new source after reads reads_after = CutsOver why old new source after reads reads_after

-- a reply to a call, and how much of a body was still to be read
pub record Asking : Type 0 where
  pub head : HeadParts
  pub call : Call
  pub now : ℕ
  pub close : Bool
  pub long : ℕ

-- the text of what was told
abbrev pub asking_text : Asking → List Telling → List ℕ
asking_text asking tale = tale_text (Some asking.head) (Some asking.call) asking.now asking.close tale

-- what was given of the reply where the call was cut, and why
abbrev pub AskCutSo : Cut → Asking → List Telling → (read out : List ℕ) → Wires → Wires → Type 0
AskCutSo (cut.BodyCut _ _) asking tale read out old new = (length read < asking.long) × MetEnd new × (out ≡ [])
AskCutSo cut.ReadFault asking tale read out old new = Rose old.read_faults new.read_faults × IsFront out (asking_text asking tale)
AskCutSo cut.WriteFault asking tale read out old new = Rose old.write_faults new.write_faults × IsFront out (asking_text asking tale)
AskCutSo (cut.ShardCut _) asking tale read out old new =
    TellsShort (asked asking.head asking.long asking.call) tale × (length read ≡ asking.long) × (out ≡ asking_text asking tale)
AskCutSo cut.NoMemory asking tale read out old new = IsFront out (asking_text asking tale)

-- the rest of a request, behind its head
abbrev pub rest_of : Ask → (now : ℕ) → Manner → (body : List ℕ) → (tale : List Telling) → Exchange
rest_of ask now manner body tale = record { ask = ask; front = []; body = body; now = now; manner = manner; tale = tale }

-- the rest of a request was read, and all that goes out was given
pub record IsWhole (x : Exchange) (before after : Wires) : Type 0 where
  pub whole : length x.body ≡ size_of x.ask
  pub moved : Moved x.body (text_of x) before after
  pub still : CountsStay before after

-- the rest of a request was cut
pub record IsShort (why : Cut) (x : Exchange) (before after : Wires) : Type 0 where
  pub out : List ℕ
  pub cut_off : IsCutOff why x [] out before after
  pub moved : Moved x.body out before after
  pub counts : CountsSo (end_for why) before after

-- a refusal of the server's, behind what was read of the body
abbrev pub refusal_rest : Ask → Refusal → (now : ℕ) → Manner → (body : List ℕ) → Exchange
refusal_rest ask why now manner body = rest_of ask now manner body (Head (Refused why) ∷ [])

-- a refusal of the server's was given, or cut
abbrev pub RefuseGoes : {U : Type 0} → Result U Cut → Ask → Refusal → (now : ℕ) → Manner → (before after : Wires) → Type 0
RefuseGoes (Ok _) ask why now manner before after = (body : List ℕ) × IsWhole (refusal_rest ask why now manner body) before after
RefuseGoes (Err cut) ask why now manner before after = (body : List ℕ) × IsShort cut (refusal_rest ask why now manner body) before after

-- the next request may be read
abbrev pub OnAnswered : Turn → Type 0 → Type 0
OnAnswered turn.Answered holds = holds
OnAnswered (turn.Ended end) holds = Unit {0}

module _ {M R : Type 0} (answers : Task → M → M → List ℕ → List Telling → Result R Cut → Type 0) where
  -- the desk was asked, and its reply was given behind all of the body
  pub record AsksWell (asking : Asking) (old new : M) (before after : Wires) : Type 0 where
    pub read : List ℕ
    pub tale : List Telling
    pub receipt : R
    pub served : IsServed answers asking.call asking.now read tale (Ok receipt) old new
    pub whole : length read ≡ asking.long
    pub moved : Moved read (asking_text asking tale) before after
    pub still : CountsStay before after

  -- the desk was asked, and the reply was cut
  pub record AsksShort (why : Cut) (asking : Asking) (old new : M) (before after : Wires) : Type 0 where
    pub read : List ℕ
    pub tale : List Telling
    pub part : length read ≤ asking.long
    pub came : ((receipt : R) × IsServed answers asking.call asking.now read tale (Ok receipt) old new)
        ⊎ ((cut : Cut) × IsCutBy why cut × IsServed answers asking.call asking.now read tale (Err cut) old new)
    pub out : List ℕ
    pub silent : length read < asking.long → out ≡ []
    pub cause : AskCutSo why asking tale read out before after
    pub moved : Moved read out before after
    pub counts : CountsSo (end_for why) before after

  -- what the asking of a desk comes to
  abbrev pub AskGoes : {U : Type 0} → Result U Cut → Asking → (old new : M) → (before after : Wires) → Type 0
  AskGoes (Ok _) asking old new before after = AsksWell asking old new before after
  AskGoes (Err why) asking old new before after = AsksShort why asking old new before after

  -- the rest of a request, whose head was read: its answer was made and given, or it was cut
  abbrev pub Goes : {U : Type 0} → Result U Cut → Ask → (now : ℕ) → Manner → (old new : M) → (before after : Wires) → Type 0
  Goes (Ok _) ask now manner old new before after = (body : List ℕ) × (tale : List Telling)
      × IsMade answers ask now body tale old new × IsWhole (rest_of ask now manner body tale) before after
  Goes (Err why) ask now manner old new before after = (body : List ℕ) × (tale : List Telling)
      × CameTo answers why (rest_of ask now manner body tale) old new × IsShort why (rest_of ask now manner body tale) before after

  -- an answer, behind which the next request may be read; `front` are the bytes of the request that were read before
  pub record TurnAnswers (clock : Option ℕ) (number : ℕ) (front : List ℕ) (old new : M) (before after : Wires) : Type 0 where
    pub x : Exchange
    pub answered : Answered answers clock number old x new
    pub stays : x.manner ≡ Stays
    pub part : List ℕ
    pub is : bytes_of x ≡ front ++ part
    pub moved : Moved part (text_of x) before after
    pub still : CountsStay before after

  -- the end of the connection, in this request
  pub record TurnEnds (clock : Option ℕ) (end : ConnectionEnd) (number : ℕ) (front : List ℕ) (old new : M) (before after : Wires) : Type 0 where
    pub taken : List ℕ
    pub part : List ℕ
    pub is : taken ≡ front ++ part
    pub out : List ℕ
    pub moved : Moved part out before after
    pub counts : CountsSo end before after
    pub ends : EndsSo answers clock end number old new taken out before after

  -- What one request leads to: `going` are the wires where the next may be read, and `shut` those at an end.
  abbrev pub Turns : Option ℕ → Turn → (number : ℕ) → (front : List ℕ) → (old new : M) → (before going shut : Wires) → Type 0
  Turns clock turn.Answered number front old new before going shut = TurnAnswers clock number front old new before going
  Turns clock (turn.Ended end) number front old new before going shut = TurnEnds clock end number front old new before shut
