-- What a reply's teller does with what it is told.
use Rattle.std.specs.Prelude.{◌≡◌, ℕ, Bool, IsTrue, List, [], ◌++◌, take, true, Some, None, Result, Ok, Err}
use Rattle.fault_base.specs.Counts.{Rose}
use Rattle.http_wire.specs.Parts.{HeadParts}
use Rattle.call_types.specs.declared.feed.Cut.{Cut}
use Rattle.call_types.specs.declared.feed.Cut.TheVariants as cut
use Rattle.call_types.specs.declared.refusal.Refusal.{Refusal}
use Rattle.call_types.specs.declared.reply.Reply.TheVariants.{Refused}
use Rattle.desk_base.specs.Telling.{Telling}
use Rattle.desk_base.specs.declared.call.Call.{Call}
use Rattle.s3_reply.specs.Replies.{reply_bytes}
use Rattle.serve_loop.specs.Exchanges.{tale_text, telling_text}
use Rattle.serve_loop.specs.Sending.{Sent, SentFront, SinkView}
use Rattle.serve_loop.specs.declared.ends.ConnectionEnd.TheVariants.{Over, Closed, InputCut, ReadFault, WriteFault, ReplyCut, NoMemory}
use Rattle.serve_loop.specs.declared.ends.Turn.{Turn}
use Rattle.serve_loop.specs.declared.ends.Turn.TheVariants.{Answered, Ended}

-- the reply that is told: the head and the call that it answers, its moment, whether the connection closes, and whether all waits
pub record Replying : Type 0 where
  pub head : HeadParts
  pub call : Call
  pub now : ℕ
  pub close : Bool
  pub waits : Bool

-- what is seen of a teller: the reply, its sink, and what is held back
pub record Told : Type 0 where
  pub reply : Replying
  pub sink : SinkView
  pub held : List ℕ

-- the text of one telling
abbrev pub text_in : Replying → Telling → List ℕ
text_in reply telling = telling_text (Some reply.head) (Some reply.call) reply.now reply.close telling

-- that of several
abbrev pub tale_in : Replying → List Telling → List ℕ
tale_in reply tale = tale_text (Some reply.head) (Some reply.call) reply.now reply.close tale

-- a text came behind what was held back: some of both was given, and the rest is held back; nothing is given where all waits
pub record TakesText (text : List ℕ) (old new : Told) : Type 0 where
  pub same : new.reply ≡ old.reply
  pub more : List ℕ
  pub gave : Sent more old.sink new.sink
  pub split : more ++ new.held ≡ old.held ++ text
  pub waits : IsTrue old.reply.waits → more ≡ []

-- the sink failed: a front of what was held back and the text was given, and not where all waits
pub record BreaksText (text : List ℕ) (old new : Told) : Type 0 where
  pub same : new.reply ≡ old.reply
  pub count : ℕ
  pub front : Sent (take count (old.held ++ text)) old.sink new.sink
  pub waits : ¬ (IsTrue old.reply.waits)

-- the text of the refusal of a head, behind which the connection closes
abbrev pub refusal_text : Refusal → ℕ → List ℕ
refusal_text why now = reply_bytes (record { head = None; call = None; reply = Refused why }) now true

-- what is held back was given, or a front of it where the sink failed
abbrev pub FlushesText : {U : Type 0} → Result U Cut → (old new : Told) → (faults faults_after : ℕ) → Type 0
FlushesText (Ok _) old new faults faults_after =
    (new.reply ≡ old.reply) × (new.held ≡ []) × Sent old.held old.sink new.sink × (faults_after ≡ faults)
FlushesText (Err cut.WriteFault) old new faults faults_after =
    (new.reply ≡ old.reply) × SentFront old.held old.sink new.sink × Rose faults faults_after
FlushesText (Err cut.ReadFault) old new faults faults_after = ⊥
FlushesText (Err (cut.BodyCut _ _)) old new faults faults_after = ⊥
FlushesText (Err (cut.ShardCut _)) old new faults faults_after = ⊥
FlushesText (Err cut.NoMemory) old new faults faults_after = ⊥

-- a give of a text failed behind a front of it
abbrev pub GivesFront : Cut → List ℕ → (old new : SinkView) → (faults faults_after : ℕ) → Type 0
GivesFront cut.ReadFault text old new faults faults_after = ⊥
GivesFront (cut.BodyCut _ _) text old new faults faults_after = ⊥
GivesFront cut.WriteFault text old new faults faults_after = SentFront text old new × Rose faults faults_after
GivesFront (cut.ShardCut _) text old new faults faults_after = ⊥
GivesFront cut.NoMemory text old new faults faults_after = ⊥

-- what a give of a text, or of nothing, leaves
abbrev pub GivesText : {U : Type 0} → Result U Cut → List ℕ → (old new : SinkView) → (faults faults_after : ℕ) → Type 0
GivesText (Ok _) text old new faults faults_after = Sent text old new × (faults_after ≡ faults)
GivesText (Err why) text old new faults faults_after = GivesFront why text old new faults faults_after

-- what a give of a text that is made first leaves
abbrev pub MakesText : {U : Type 0} → Result U Cut → List ℕ → (old new : SinkView) → (faults faults_after : ℕ) → Type 0
MakesText (Ok _) text old new faults faults_after = Sent text old new × (faults_after ≡ faults)
MakesText (Err cut.WriteFault) text old new faults faults_after = SentFront text old new × Rose faults faults_after
MakesText (Err cut.ReadFault) text old new faults faults_after = ⊥
MakesText (Err (cut.BodyCut _ _)) text old new faults faults_after = ⊥
MakesText (Err (cut.ShardCut _)) text old new faults faults_after = ⊥
MakesText (Err cut.NoMemory) text old new faults faults_after = (new ≡ old) × (faults_after ≡ faults)

-- the refusal of a head was given and the connection closes, or it was cut
abbrev pub RefusesHead : Turn → Refusal → (now : ℕ) → (old new : SinkView) → (faults faults_after : ℕ) → Type 0
RefusesHead Answered why now old new faults faults_after = ⊥
RefusesHead (Ended Closed) why now old new faults faults_after = Sent (refusal_text why now) old new × (faults_after ≡ faults)
RefusesHead (Ended WriteFault) why now old new faults faults_after = SentFront (refusal_text why now) old new × Rose faults faults_after
RefusesHead (Ended NoMemory) why now old new faults faults_after = (new ≡ old) × (faults_after ≡ faults)
RefusesHead (Ended Over) why now old new faults faults_after = ⊥
RefusesHead (Ended InputCut) why now old new faults faults_after = ⊥
RefusesHead (Ended ReadFault) why now old new faults faults_after = ⊥
RefusesHead (Ended (ReplyCut whys)) why now old new faults faults_after = ⊥
