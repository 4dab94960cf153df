-- What is done for a request, over any desk.
use Rattle.std.specs.Prelude.{◌≡◌, ◌⊎◌, ◌<◌, ◌≤◌, ℕ, true, List, [], ◌∷◌, ◌++◌, length, take, Option, IfSome, Result, Ok, Err}
use Rattle.std.specs.Io.KnownBytes.{prepend_known, append_known, IsAtEnd}
use Rattle.std.specs.List.{concat}
use Rattle.fault_base.specs.Counts.{Rose}
use Rattle.call_types.specs.declared.feed.Cut.{Cut}
use Rattle.call_types.specs.declared.feed.Cut.TheVariants.{ReadFault, BodyCut, WriteFault, ShardCut, NoMemory}
use Rattle.call_types.specs.declared.reply.Reply.{Reply}
use Rattle.call_types.specs.declared.reply.Reply.TheVariants.{Refused}
use Rattle.desk_base.specs.Answering.{CallTells, Task, bytes_after, tale_of}
use Rattle.desk_base.specs.Telling.{Telling}
use Rattle.desk_base.specs.Telling.Telling.{Head}
use Rattle.desk_base.specs.declared.call.Call.{Call}
use Rattle.serve_loop.specs.Exchanges.{Ask, unread, refused, asked, Asks, Exchange, IsManner, continue_of, size_of, text_of}
use Rattle.serve_loop.specs.Sending.{SentSince, SinkView}
use Rattle.http_wire.specs.Taking.{SourceView, took_none}
use Rattle.io_base.specs.Clock.{year_10000}
use Rattle.io_base.specs.Trail.{GiveCall, TakeCall, obtained}

-- what the source and the sink show: what of the source was not taken, what was given to the sink, told or not, both counts of faults, and the
-- takes and the gives that were asked of them, the newest first
pub record Wires : Type 0 where
  pub left : Option (List ℕ)
  pub given : Option (List ℕ)
  pub read_faults : ℕ
  pub write_faults : ℕ
  pub takes : List TakeCall
  pub gives : List GiveCall

-- wires, from what they show
abbrev pub wires : SourceView → SinkView → ℕ → ℕ → Wires
wires source sink read_faults write_faults = record {
  left = source.left;
  given = sink.given;
  read_faults = read_faults;
  write_faults = write_faults;
  takes = source.takes;
  gives = sink.gives;
}

-- bytes went from the source, which are those that its takes answered, other bytes to the sink, which its gives sent, and no count fell
pub record Moved (taken given : List ℕ) (old new : Wires) : Type 0 where
  pub took : old.left ≡ prepend_known taken new.left
  pub takes : obtained new.takes ≡ obtained old.takes ++ taken
  pub gave : new.given ≡ append_known old.given given
  pub gives : SentSince given old.gives new.gives
  pub reads : old.read_faults ≤ new.read_faults
  pub writes : old.write_faults ≤ new.write_faults

-- both counts of faults stay
abbrev pub CountsStay : Wires → Wires → Type 0
CountsStay old new = (new.read_faults ≡ old.read_faults) × (new.write_faults ≡ old.write_faults)

-- the source met its end: no byte is left, as far as it tells, and of its takes into a buffer with room the newest that did not fail answered that no
-- byte comes
pub record MetEnd (now : Wires) : Type 0 where
  pub left : IsAtEnd now.left
  pub takes : took_none now.takes ≡ true

-- bytes are a front of a text
abbrev pub IsFront : List ℕ → List ℕ → Type 0
IsFront out text = (n : ℕ) × (out ≡ take n text)

-- the end that a call may be cut with where the exchange ends by this cut: the same, or a cut body whose front then could not be given
abbrev pub IsCutBy : Cut → Cut → Type 0
IsCutBy WriteFault why = (why ≡ WriteFault) ⊎ ((whys : _) × (why ≡ ShardCut whys))
IsCutBy cut why = why ≡ cut

-- a call was told a reply with less than its whole body
abbrev pub TellsShort : Ask → List Telling → Type 0
TellsShort (unread why) tale = ⊥
TellsShort (refused head size why) tale = ⊥
TellsShort (asked head size call) tale = (reply : Reply) × (pieces : List (List ℕ)) × (length (concat pieces) < bytes_after reply call) × (tale ≡ tale_of reply pieces)

-- what was given of the answer where the exchange was cut, and why; behind a body that was cut no byte was taken
abbrev pub CutSo : Cut → Exchange → (ahead out : List ℕ) → Wires → Wires → Type 0
CutSo (BodyCut _ _) x ahead out old new = (length x.body < size_of x.ask) × (ahead ≡ []) × MetEnd new × (out ≡ continue_of x.ask)
CutSo ReadFault x ahead out old new = Rose old.read_faults new.read_faults × IsFront out (text_of x)
CutSo WriteFault x ahead out old new = Rose old.write_faults new.write_faults × IsFront out (text_of x)
CutSo (ShardCut _) x ahead out old new = TellsShort x.ask x.tale × (length x.body ≡ size_of x.ask) × (out ≡ text_of x)
CutSo NoMemory x ahead out old new = IsFront out (text_of x)

-- what holds of each exchange: the bytes of its head ask this, the clock gave its moment, and what becomes of the connection follows
pub record IsExchange (clock : Option ℕ) (number : ℕ) (x : Exchange) : Type 0 where
  pub asks : Asks x.ask x.front
  pub moment : IfSome clock (λ told. x.now ≡ told)
  pub range : x.now < year_10000
  pub manner : IsManner number x.ask x.manner

-- a request was cut: so much was given of its answer, for this cause; `ahead` are bytes that were taken behind it
pub record IsCutOff (cut : Cut) (x : Exchange) (ahead out : List ℕ) (before after : Wires) : Type 0 where
  pub part : length x.body ≤ size_of x.ask
  pub silent : length x.body < size_of x.ask → IsFront out (continue_of x.ask)
  pub cause : CutSo cut x ahead out before after

-- M are the moments of what is served, R the receipts; `answers` is what a desk does
module _ {M R : Type 0} (answers : Task → M → M → List ℕ → List Telling → Result R Cut → Type 0) where
  -- the desk was asked once: it took a front of the body, told this, and answered so
  pub record IsServed (call : Call) (now : ℕ) (body : List ℕ) (tale : List Telling) (result : Result R Cut) (old new : M) : Type 0 where
    pub taken : List ℕ
    pub rest : List ℕ
    pub are : body ≡ taken ++ rest
    pub whole : CallTells call result tale
    pub did : answers (record { call = call; now = now }) old new taken tale result

  -- the answer was made: by the desk, once, or as a refusal of the server's, which moves nothing
  abbrev pub IsMade : Ask → (now : ℕ) → (body : List ℕ) → (tale : List Telling) → (old new : M) → Type 0
  IsMade (unread why) now body tale old new = (tale ≡ Head (Refused why) ∷ []) × (new ≡ old)
  IsMade (refused head size why) now body tale old new = (tale ≡ Head (Refused why) ∷ []) × (new ≡ old)
  IsMade (asked head size call) now body tale old new = (receipt : R) × IsServed call now body tale (Ok receipt) old new

  -- the desk's call was cut
  abbrev pub IsCut : Cut → Ask → (now : ℕ) → (body : List ℕ) → (tale : List Telling) → (old new : M) → Type 0
  IsCut cut (unread why) now body tale old new = ⊥
  IsCut cut (refused head size why) now body tale old new = ⊥
  IsCut cut (asked head size call) now body tale old new = (why : Cut) × IsCutBy cut why × IsServed call now body tale (Err why) old new

  -- how far a request came that was cut: nothing was told and nothing moved, or the answer was made, or the desk's call was cut
  abbrev pub CameTo : Cut → Exchange → M → M → Type 0
  CameTo cut x old new = ((x.tale ≡ []) × (new ≡ old)) ⊎ (IsMade x.ask x.now x.body x.tale old new ⊎ IsCut cut x.ask x.now x.body x.tale old new)

  -- a request was answered: its body was read to its end, and the answer was made
  pub record Answered (clock : Option ℕ) (number : ℕ) (old : M) (x : Exchange) (new : M) : Type 0 where
    pub is : IsExchange clock number x
    pub whole : length x.body ≡ size_of x.ask
    pub made : IsMade x.ask x.now x.body x.tale old new

  -- a request was cut
  pub record Short (clock : Option ℕ) (cut : Cut) (number : ℕ) (old : M) (x : Exchange) (new : M) (ahead out : List ℕ) (before after : Wires) : Type 0 where
    pub is : IsExchange clock number x
    pub came : CameTo cut x old new
    pub cut_off : IsCutOff cut x ahead out before after
