-- Turns from the reading of a head.
use Rattle.std.proofs.Common.{◌≡◌, inl, inr, ◌≤◌, ◌<◌, ℕ, List, [], ◌∷◌, ◌++◌, length, take, Option, Some, None, refl, sym, ap, ◌∙◌, subst, arith, append-nil}
use Rattle.std.specs.Prelude.{Result, Ok, Err, IfSome}
use Rattle.fault_base.specs.Counts.{Rose}
use Rattle.httparse.specs.Grammar.{print_request}
use Rattle.http_wire.specs.Answers.{Answers, ReadsNext, Refuses, Wired}
use Rattle.http_wire.specs.Heads.{IsOpen}
use Rattle.http_wire.specs.Parts.{HeadParts}
use Rattle.http_wire.specs.Taking.{HandsOn, HasEnded, SourceView, Taken}
use Rattle.http_wire.specs.declared.fault.WireFault.{WireFault}
use Rattle.http_wire.specs.declared.fault.WireFault.TheVariants as fault
use Rattle.http_wire.specs.declared.reading.Reading.{Reading}
use Rattle.http_wire.specs.declared.reading.Reading.TheVariants.{End, Whole, Refused as RefusedHead}
use Rattle.call_types.specs.declared.feed.Cut.{Cut}
use Rattle.call_types.specs.declared.feed.Cut.TheVariants as cut
use Rattle.call_types.specs.declared.refusal.Refusal.{Refusal}
use Rattle.call_types.specs.declared.reply.Reply.TheVariants.{Refused}
use Rattle.desk_base.specs.Answering.{Task}
use Rattle.desk_base.specs.Telling.{Telling}
use Rattle.desk_base.specs.Telling.Telling.{Head}
use Rattle.serve_loop.specs.Deeds.{Wires, wires, CountsStay, IsCutOff, IsExchange, Moved}
use Rattle.serve_loop.specs.Exchanges.{Exchange, IsHead, IsUnread, unread, text_of}
use Rattle.serve_loop.specs.Intakes.{AreLast, with_waiting}
use Rattle.serve_loop.specs.Sending.{Sent, SinkView}
use Rattle.serve_loop.specs.Session.{CountsSo, Cuts, EndsSo}
use Rattle.serve_loop.specs.Replies.{RefusesHead, refusal_text}
use Rattle.serve_loop.specs.Turns.{TurnEnds, Turns, unread_for}
use Rattle.serve_loop.specs.declared.ends.ConnectionEnd.{ConnectionEnd}
use Rattle.serve_loop.specs.declared.ends.ConnectionEnd.TheVariants.{Over, Closed, InputCut, ReadFault, WriteFault, ReplyCut, NoMemory}
use Rattle.serve_loop.specs.declared.ends.Turn.{Turn}
use Rattle.serve_loop.specs.declared.ends.Turn.TheVariants.{Answered, Ended}
use Rattle.serve_loop.specs.declared.manner.Manner.TheVariants.{ServerCloses}
use Rattle.serve_loop.proofs.IntakeLemmas.{last_after, last_none, taken_all, taken_on}
use Rattle.serve_loop.proofs.MovedLemmas.{counts_later, moved_later, moved_of}
use Rattle.serve_loop.proofs.SentLemmas.{sent_none}

-- ---- what was read

-- a head and what is behind it
pub record ReadFront (head : HeadParts) (size : ℕ) (before waits : List ℕ) (source after : SourceView) : Type 0 where
  pub front : List ℕ
  pub is : IsHead front head size
  pub took : Taken front (with_waiting before source) (with_waiting waits after)
  pub last : AreLast waits after.takes

pub read_front : (head : HeadParts) (size : ℕ) (before waits : List ℕ) (source after : SourceView) (faults faults_after : ℕ) → AreLast before source.takes
    → ReadsNext (Whole head size) before waits source after faults faults_after → ReadFront head size before waits source after
read_front head size before waits source after faults faults_after last reads =
    let given = reads.decides.0 in
    let front = print_request given.tree in
    let hands : HandsOn front before waits source after =
    record { piece = reads.came.piece; took = reads.came.took; are = sym reads.came.text_is ∙ given.begins.reads.1 } in
    record {
      front = front;
      is = record {
        tree = given.tree;
        grammar = given.begins.reads.0;
        is = refl;
        bytes = given.begins.bytes;
        lines = given.begins.lines;
        parts = given.parts;
        states = given.length_is;
        plain = given.plain;
      };
      took = taken_on front before waits source after last hands;
      last = last_after front before waits source after last hands;
    }

-- the text that was no head
pub took_text : (fault : WireFault) (before waits : List ℕ) (source after : SourceView) (faults faults_after : ℕ) → AreLast before source.takes
    → (reads : ReadsNext (RefusedHead fault) before waits source after faults faults_after) → Taken reads.text (with_waiting before source) after
took_text fault before waits source after faults faults_after last reads =
    taken_all reads.text before reads.came.piece source after last reads.came.text_is reads.came.took

-- what waits behind what was read, whatever that came to
pub last_read : (result : Reading) (before waits : List ℕ) (source after : SourceView) (faults faults_after : ℕ) → AreLast before source.takes
    → ReadsNext result before waits source after faults faults_after → AreLast waits after.takes
last_read (Whole head size) before waits source after faults faults_after last reads =
    (read_front head size before waits source after faults faults_after last reads).last
last_read End before waits source after faults faults_after last reads = last_none waits after.takes reads.decides.1
last_read (RefusedHead fault) before waits source after faults faults_after last reads =
    last_after [] before waits source after last
    (record { piece = reads.came.piece; took = reads.came.took; are = sym reads.came.text_is ∙ sym reads.decides.1 })

-- so it is of what a wire answers
pub last_answered : (result : Result (Option HeadParts) WireFault) (before : List ℕ) (source after : SourceView) (new : Wired) (faults faults_after : ℕ)
    → AreLast before source.takes → Answers result before source after new faults faults_after → AreLast new.waits after.takes
last_answered (Ok (Some head)) before source after new faults faults_after last answers =
    last_read (Whole head new.stated) before new.waits source after faults faults_after last answers.0
last_answered (Ok None) before source after new faults faults_after last answers = last_read End before new.waits source after faults faults_after last answers.0
last_answered (Err fault) before source after new faults faults_after last answers =
    last_read (RefusedHead fault) before new.waits source after faults faults_after last answers.0

-- what is known of a text for which a wire refuses
abbrev UnreadBy : Result Refusal ConnectionEnd → List ℕ → SourceView → (faults faults_after : ℕ) → Type 0
UnreadBy (Ok why) text after faults faults_after = IsUnread why text × (faults_after ≡ faults)
UnreadBy (Err InputCut) text after faults faults_after = IsOpen text × HasEnded after × (0 < length text) × (faults_after ≡ faults)
UnreadBy (Err ReadFault) text after faults faults_after = IsOpen text × Rose faults faults_after
UnreadBy (Err NoMemory) text after faults faults_after = faults_after ≡ faults
UnreadBy (Err Over) text after faults faults_after = ⊥
UnreadBy (Err Closed) text after faults faults_after = ⊥
UnreadBy (Err WriteFault) text after faults faults_after = ⊥
UnreadBy (Err (ReplyCut whys)) text after faults faults_after = ⊥

unread_so : (fault : WireFault) (text : List ℕ) (after : SourceView) (faults faults_after : ℕ) → Refuses fault text after faults faults_after
    → UnreadBy (unread_for fault) text after faults faults_after
unread_so fault.BadHead text after faults faults_after so = so
unread_so fault.HeadTooLong text after faults faults_after so = so
unread_so fault.ChunkedBody text after faults faults_after so = so
unread_so (fault.BodyCut read stated) text after faults faults_after so = (so.0, so.1, so.2, so.5)
unread_so fault.ReadFault text after faults faults_after so = so
unread_so fault.NoMemory text after faults faults_after so = so

-- ---- later wires

rose_later : (a b c : ℕ) → a ≤ b → Rose b c → Rose a c
rose_later a b c low rose = (omega (arith, low, rose.0), elim rose.1 [ inl up ↦ inl (omega (arith, low, up)) | inr last ↦ inr last ])

cut_later : (why : Cut) (x : Exchange) (ahead out : List ℕ) (a b c : Wires) → a.read_faults ≤ b.read_faults → a.write_faults ≤ b.write_faults
    → IsCutOff why x ahead out b c → IsCutOff why x ahead out a c
cut_later cut.ReadFault x ahead out a b c reads writes off = record { part = off.part; silent = off.silent; cause = (rose_later _ _ _ reads off.cause.0, off.cause.1) }
cut_later (cut.BodyCut r s) x ahead out a b c reads writes off = record { part = off.part; silent = off.silent; cause = off.cause }
cut_later cut.WriteFault x ahead out a b c reads writes off = record { part = off.part; silent = off.silent; cause = (rose_later _ _ _ writes off.cause.0, off.cause.1) }
cut_later (cut.ShardCut whys) x ahead out a b c reads writes off = record { part = off.part; silent = off.silent; cause = off.cause }
cut_later cut.NoMemory x ahead out a b c reads writes off = record { part = off.part; silent = off.silent; cause = off.cause }

module _ {M R : Type 0} (answers : Task → M → M → List ℕ → List Telling → Result R Cut → Type 0) (clock : Option ℕ) where
  cuts_later : (why : Cut) (number : ℕ) (old new : M) (taken out : List ℕ) (a b c : Wires) → a.read_faults ≤ b.read_faults → a.write_faults ≤ b.write_faults
      → Cuts answers clock why number old new taken out b c → Cuts answers clock why number old new taken out a c
  cuts_later why number old new taken out a b c reads writes cuts = record {
    x = cuts.x;
    ahead = cuts.ahead;
    short = record { is = cuts.short.is; came = cuts.short.came; cut_off = cut_later why cuts.x cuts.ahead out a b c reads writes cuts.short.cut_off };
    took = cuts.took;
  }

  pub ends_later : (end : ConnectionEnd) (number : ℕ) (old new : M) (taken out : List ℕ) (a b c : Wires) → a.read_faults ≤ b.read_faults → a.write_faults ≤ b.write_faults
      → EndsSo answers clock end number old new taken out b c → EndsSo answers clock end number old new taken out a c
  ends_later Over number old new taken out a b c reads writes ends = ends
  ends_later Closed number old new taken out a b c reads writes ends = ends
  ends_later InputCut number old new taken out a b c reads writes (inl head) = inl head
  ends_later InputCut number old new taken out a b c reads writes (inr (r, s, cuts)) = inr (r, s, cuts_later (cut.BodyCut r s) number old new taken out a b c reads writes cuts)
  ends_later ReadFault number old new taken out a b c reads writes (inl head) = inl (head.0, head.1, rose_later _ _ _ reads head.2)
  ends_later ReadFault number old new taken out a b c reads writes (inr cuts) = inr (cuts_later cut.ReadFault number old new taken out a b c reads writes cuts)
  ends_later WriteFault number old new taken out a b c reads writes cuts = cuts_later cut.WriteFault number old new taken out a b c reads writes cuts
  ends_later (ReplyCut whys) number old new taken out a b c reads writes cuts = cuts_later (cut.ShardCut whys) number old new taken out a b c reads writes cuts
  ends_later NoMemory number old new taken out a b c reads writes (inl none) = inl none
  ends_later NoMemory number old new taken out a b c reads writes (inr cuts) = inr (cuts_later cut.NoMemory number old new taken out a b c reads writes cuts)

  -- a turn that began with the reading of a head
  pub deeper : (turn : Turn) (number : ℕ) (front : List ℕ) (old new : M) (start mid going shut : Wires) → Moved front [] start mid → CountsStay start mid
      → Turns answers clock turn number front old new mid going shut → Turns answers clock turn number [] old new start going shut
  deeper Answered number front old new start mid going shut first stay turns = record {
    x = turns.x;
    answered = turns.answered;
    stays = turns.stays;
    part = front ++ turns.part;
    is = turns.is;
    moved = moved_later front turns.part [] (text_of turns.x) start mid going first turns.moved;
    still = (turns.still.0 ∙ stay.0, turns.still.1 ∙ stay.1);
  }
  deeper (Ended end) number front old new start mid going shut first stay turns = record {
    taken = turns.taken;
    part = front ++ turns.part;
    is = turns.is;
    out = turns.out;
    moved = moved_later front turns.part [] turns.out start mid shut first turns.moved;
    counts = counts_later end start mid shut stay turns.counts;
    ends = ends_later end number old new turns.taken turns.out start mid shut first.reads first.writes turns.ends;
  }

  -- ---- no head

  -- the exchange of a head that is refused
  abbrev unread_x : (why : Refusal) (now : ℕ) (text : List ℕ) → Exchange
  unread_x why now text = record { ask = unread why; front = text; body = []; now = now; manner = ServerCloses; tale = Head (Refused why) ∷ [] }

  unread_is : (why : Refusal) (now number : ℕ) (text : List ℕ) → IsUnread why text → IfSome clock (λ told. now ≡ told) → now < 253402300800 → IsExchange clock number (unread_x why now text)
  unread_is why now number text asks moment range = record { asks = asks; moment = moment; range = range; manner = inr refl }

  unread_turn : (turn : Turn) (why : Refusal) (now number : ℕ) (same : M) (text : List ℕ) (ahead source : SourceView) (sink sink_after : SinkView) (reads reads_after writes writes_after : ℕ) (going : Wires)
      → IsUnread why text → IfSome clock (λ told. now ≡ told) → now < 253402300800 → Taken text ahead source → reads_after ≡ reads
      → RefusesHead turn why now sink sink_after writes writes_after
      → Turns answers clock turn number [] same same (wires ahead sink reads writes) going (wires source sink_after reads_after writes_after)
  unread_turn Answered why now number same text ahead source sink sink_after reads reads_after writes writes_after going asks moment range took read refuses = absurd refuses
  unread_turn (Ended Over) why now number same text ahead source sink sink_after reads reads_after writes writes_after going asks moment range took read refuses = absurd refuses
  unread_turn (Ended InputCut) why now number same text ahead source sink sink_after reads reads_after writes writes_after going asks moment range took read refuses = absurd refuses
  unread_turn (Ended ReadFault) why now number same text ahead source sink sink_after reads reads_after writes writes_after going asks moment range took read refuses = absurd refuses
  unread_turn (Ended (ReplyCut whys)) why now number same text ahead source sink sink_after reads reads_after writes writes_after going asks moment range took read refuses = absurd refuses
  unread_turn (Ended Closed) why now number same text ahead source sink sink_after reads reads_after writes writes_after going asks moment range took read refuses = record {
    taken = text;
    part = text;
    is = refl;
    out = refusal_text why now ++ [];
    moved = moved_of text (refusal_text why now ++ []) ahead source sink sink_after reads reads_after writes writes_after took
        (subst (λ l. Sent l sink sink_after) (sym (append-nil (refusal_text why now))) refuses.0) (omega (arith, read)) (omega (arith, refuses.1));
    counts = (read, refuses.1);
    ends = record {
      x = unread_x why now text;
      answered = record { is = unread_is why now number text asks moment range; whole = refl; made = (refl, refl) };
      manner_is = refl;
      ahead = [];
      took = sym (append-nil (text ++ []) ∙ append-nil text);
      gave = refl;
    };
  }
  unread_turn (Ended WriteFault) why now number same text ahead source sink sink_after reads reads_after writes writes_after going asks moment range took read refuses = record {
    taken = text;
    part = text;
    is = refl;
    out = take refuses.0.count (refusal_text why now);
    moved = moved_of text (take refuses.0.count (refusal_text why now)) ahead source sink sink_after reads reads_after writes writes_after took
        refuses.0.front (omega (arith, read)) refuses.1.0;
    counts = read;
    ends = record {
      x = unread_x why now text;
      ahead = [];
      short = record {
        is = unread_is why now number text asks moment range;
        came = inr (inl (refl, refl));
        cut_off = record {
          part = omega arith;
          silent = λ short. absurd (omega (arith, short));
          cause = (refuses.1, (refuses.0.count, ap (take refuses.0.count) (sym (append-nil (refusal_text why now)))));
        };
      };
      took = sym (append-nil (text ++ []) ∙ append-nil text);
    };
  }
  unread_turn (Ended NoMemory) why now number same text ahead source sink sink_after reads reads_after writes writes_after going asks moment range took read refuses = record {
    taken = text;
    part = text;
    is = refl;
    out = [];
    moved = moved_of text [] ahead source sink sink_after reads reads_after writes writes_after took
        (subst (Sent [] sink) (sym refuses.0) (sent_none sink)) (omega (arith, read)) (omega (arith, refuses.1));
    counts = (read, refuses.1);
    ends = inl (refl, refl);
  }

  -- ---- no request

  -- nothing was given for the text that was read
  nothing_given : (end : ConnectionEnd) (number : ℕ) (same : M) (text : List ℕ) (ahead source : SourceView) (sink : SinkView) (reads reads_after writes : ℕ)
      → Taken text ahead source → reads ≤ reads_after → CountsSo end (wires ahead sink reads writes) (wires source sink reads_after writes)
      → EndsSo answers clock end number same same text [] (wires ahead sink reads writes) (wires source sink reads_after writes)
      → TurnEnds answers clock end number [] same same (wires ahead sink reads writes) (wires source sink reads_after writes)
  nothing_given end number same text ahead source sink reads reads_after writes took low counts ends = record {
    taken = text;
    part = text;
    is = refl;
    out = [];
    moved = moved_of text [] ahead source sink sink reads reads_after writes writes took (sent_none sink) low (omega arith);
    counts = counts;
    ends = ends;
  }

  -- the source ended between two requests
  pub head_over : (number : ℕ) (same : M) (text : List ℕ) (ahead source : SourceView) (sink : SinkView) (reads reads_after writes : ℕ)
      → text ≡ [] → HasEnded source → Taken text ahead source → reads_after ≡ reads
      → TurnEnds answers clock Over number [] same same (wires ahead sink reads writes) (wires source sink reads_after writes)
  head_over number same text ahead source sink reads reads_after writes none ended took read =
      nothing_given Over number same [] ahead source sink reads reads_after writes (subst (λ l. Taken l ahead source) none took) (omega (arith, read)) (read, refl)
      (inl (refl, refl, refl, record { left = ended.left; takes = ended.takes }))

  -- a head can't be read: the source ended or failed in it, or no memory was found for it
  head_ended : (end : ConnectionEnd) (number : ℕ) (same : M) (text : List ℕ) (ahead source : SourceView) (sink : SinkView) (reads reads_after writes : ℕ)
      → Taken text ahead source → UnreadBy (Err end) text source reads reads_after
      → TurnEnds answers clock end number [] same same (wires ahead sink reads writes) (wires source sink reads_after writes)
  head_ended InputCut number same text ahead source sink reads reads_after writes took (begun, ended, some, read) =
      nothing_given InputCut number same text ahead source sink reads reads_after writes took (omega (arith, read)) (read, refl)
      (inl (record { begun = begun; nothing = refl }, some, refl, record { left = ended.left; takes = ended.takes }))
  head_ended ReadFault number same text ahead source sink reads reads_after writes took (begun, rose) =
      nothing_given ReadFault number same text ahead source sink reads reads_after writes took rose.0 refl (inl (record { begun = begun; nothing = refl }, refl, rose))
  head_ended NoMemory number same text ahead source sink reads reads_after writes took read =
      nothing_given NoMemory number same text ahead source sink reads reads_after writes took (omega (arith, read)) (read, refl) (inl (refl, refl))
  head_ended Over number same text ahead source sink reads reads_after writes took so = absurd so
  head_ended Closed number same text ahead source sink reads reads_after writes took so = absurd so
  head_ended WriteFault number same text ahead source sink reads reads_after writes took so = absurd so
  head_ended (ReplyCut whys) number same text ahead source sink reads reads_after writes took so = absurd so

  module _ (fault : WireFault) (before : List ℕ) (source after : SourceView) (new : Wired) (reads reads_after : ℕ) (last : AreLast before source.takes)
      (answer : Answers (Err fault) before source after new reads reads_after) where
    text_unread : (outcome : Result Refusal ConnectionEnd) → outcome ≡ unread_for fault → UnreadBy outcome answer.0.text after reads reads_after
    text_unread outcome is = subst (λ r. UnreadBy r answer.0.text after reads reads_after) (sym is) (unread_so fault answer.0.text after reads reads_after answer.0.decides.0)

    -- what was read is no head that is served, and its refusal was given, or cut
    pub no_head : (turn : Turn) (why : Refusal) (now number : ℕ) (same : M) (sink sink_after : SinkView) (writes writes_after : ℕ) (going : Wires)
        → Ok why ≡ unread_for fault → IfSome clock (λ told. now ≡ told) → now < 253402300800 → RefusesHead turn why now sink sink_after writes writes_after
        → Turns answers clock turn number [] same same (wires (with_waiting before source) sink reads writes) going (wires after sink_after reads_after writes_after)
    no_head turn why now number same sink sink_after writes writes_after going is moment range refuses =
        let so = text_unread (Ok why) is in
        unread_turn turn why now number same answer.0.text (with_waiting before source) after sink sink_after reads reads_after writes writes_after going so.0 moment range
        (took_text fault before new.waits source after reads reads_after last answer.0) so.1 refuses

    -- no head could be read
    pub no_request : (end : ConnectionEnd) (number : ℕ) (same : M) (sink : SinkView) (writes : ℕ) → Err end ≡ unread_for fault
        → TurnEnds answers clock end number [] same same (wires (with_waiting before source) sink reads writes) (wires after sink reads_after writes)
    no_request end number same sink writes is =
        head_ended end number same answer.0.text (with_waiting before source) after sink reads reads_after writes
        (took_text fault before new.waits source after reads reads_after last answer.0) (text_unread (Err end) is)
