-- The rest of a request: its greeting, its body, and a refusal.
use Rattle.std.proofs.Common.{◌≡◌, ◌≤◌, ◌+◌, ℕ, Bool, true, false, cond, not, ◌&&◌, List, [], ◌∷◌, ◌++◌, length, take, refl, sym, ap, ◌∙◌, subst, arith, append-nil}
use Rattle.std.proofs.Math.Seq.{take-append-add, take-append_seam}
use Rattle.std.proofs.lemmas.List.{take-append-le}
use Rattle.std.specs.Prelude.{Result, Ok, Err}
use Rattle.std.specs.Result.{IsErrAnd}
use Rattle.fault_base.specs.Counts.{Rose}
use Rattle.http_wire.specs.Answers.{Wired}
use Rattle.http_wire.specs.Taking.{SourceView, Taken}
use Rattle.http_wire.proofs.SourceLemmas.{taken_none}
use Rattle.call_types.specs.declared.feed.Cut.{Cut}
use Rattle.call_types.specs.declared.feed.Cut.TheVariants.{ReadFault, BodyCut, WriteFault, ShardCut, NoMemory}
use Rattle.call_types.specs.declared.refusal.Refusal.{Refusal}
use Rattle.call_types.specs.declared.reply.Reply.TheVariants.{Refused}
use Rattle.desk_base.specs.Telling.{Telling}
use Rattle.desk_base.specs.Telling.Telling.{Head}
use Rattle.s3_reply.specs.Replies.{reply_bytes}
use Rattle.serve_loop.specs.Deeds.{CutSo, Wires, wires, IsFront}
use Rattle.http_wire.specs.Parts.{HeadParts}
use Rattle.serve_loop.specs.Exchanges.{expects_continue, leaves_body, Ask, refused, greeting, call_of, closes, continue_of, head_of, size_of, tale_text, text_of}
use Rattle.serve_loop.specs.Intakes.{CutsOver, PassedPart, unread_of}
use Rattle.serve_loop.specs.Sending.{Sent, SinkView}
use Rattle.serve_loop.specs.Replies.{GivesFront, MakesText}
use Rattle.serve_loop.specs.Session.{CountsSo}
use Rattle.serve_loop.specs.Turns.{IsShort, RefuseGoes, end_for, refusal_rest, rest_of}
use Rattle.serve_loop.specs.declared.manner.Manner.{Manner}
use Rattle.serve_loop.proofs.MovedLemmas.{moved_of}
use Rattle.serve_loop.proofs.SentLemmas.{sent_both}

-- ---- fronts

-- a text is a front of itself and more
pub front_all : (text more : List ℕ) → IsFront text (text ++ more)
front_all text more = (length text, sym (take-append_seam text more))

-- a front of a text is one of the text and more
pub front_more : (text more : List ℕ) (n : ℕ) → n ≤ length text → IsFront (take n text) (text ++ more)
front_more text more n within = (n, sym (take-append-le n text more within))

-- a front behind a text
pub front_behind : (text out more : List ℕ) → IsFront out more → IsFront (text ++ out) (text ++ more)
front_behind text out more (n, is) = (length text + n, ap (λ l. text ++ l) is ∙ sym (take-append-add text more n))

pub front_same : (text : List ℕ) → IsFront text text
front_same text = subst (IsFront text) (append-nil text) (front_all text [])

pub front_none : (text : List ℕ) → IsFront [] text
front_none text = (0, refl)

-- ---- the greeting

-- a refusal behind the body is greeted as the head awaits
pub greets_refused : (head : HeadParts) (why : Refusal) (n size : ℕ) → n ≡ size → leaves_body why ≡ false
    → greeting (expects_continue head n) ≡ continue_of (refused head size why)
greets_refused head why n size is stays =
    ap (λ m. greeting (expects_continue head m)) is ∙ ap (λ b. greeting (not b && expects_continue head size)) (sym stays)

-- and its whole body is read
pub size_refused : (head : HeadParts) (why : Refusal) (size : ℕ) → leaves_body why ≡ false → size ≡ size_of (refused head size why)
size_refused head why size stays = ap (λ b. cond b 0 size) (sym stays)

-- a refusal that leaves the body unread is not greeted
pub greets_none : (head : HeadParts) (why : Refusal) (size : ℕ) → leaves_body why ≡ true → [] ≡ continue_of (refused head size why)
greets_none head why size leaves = ap (λ b. greeting (not b && expects_continue head size)) (sym leaves)

-- and none of its body is read
pub size_none : (head : HeadParts) (why : Refusal) (size : ℕ) → leaves_body why ≡ true → 0 ≡ size_of (refused head size why)
size_none head why size leaves = ap (λ b. cond b 0 size) (sym leaves)

-- the sink failed in the greeting
pub greet_cut : (why : Cut) (ask : Ask) (now : ℕ) (manner : Manner) (tale : List Telling) (text : List ℕ) (source : SourceView) (sink sink_after : SinkView) (reads writes writes_after : ℕ)
    → text ≡ continue_of ask → GivesFront why text sink sink_after writes writes_after
    → IsShort why (rest_of ask now manner [] tale) (wires source sink reads writes) (wires source sink_after reads writes_after)
greet_cut WriteFault ask now manner tale text source sink sink_after reads writes writes_after is gave = record {
  out = take gave.0.count text;
  cut_off = record {
    part = omega arith;
    silent = λ short. (gave.0.count, ap (take gave.0.count) is);
    cause = (
      gave.1,
      subst (λ t. IsFront (take gave.0.count text) (t ++ tale_text (head_of ask) (call_of ask) now (closes manner) tale)) is
          (front_more text (tale_text (head_of ask) (call_of ask) now (closes manner) tale) gave.0.count gave.0.within),
    );
  };
  moved = moved_of [] (take gave.0.count text) source source sink sink_after reads reads writes writes_after (taken_none source) gave.0.front (omega arith) gave.1.0;
  counts = refl;
}
greet_cut ReadFault ask now manner tale text source sink sink_after reads writes writes_after is gave = absurd gave
greet_cut (BodyCut _ _) ask now manner tale text source sink sink_after reads writes writes_after is gave = absurd gave
greet_cut (ShardCut _) ask now manner tale text source sink sink_after reads writes writes_after is gave = absurd gave
greet_cut NoMemory ask now manner tale text source sink sink_after reads writes writes_after is gave = absurd gave

-- ---- the body

-- some of the body was read behind the greeting, and then the request was cut
passed_short : (why : Cut) (ask : Ask) (now : ℕ) (manner : Manner) (tale : List Telling) (old new : Wired) (source after : SourceView) (sink sink_after : SinkView) (reads reads_after writes writes_after : ℕ)
    (passed : PassedPart old new source after) → old.body_left ≡ size_of ask → Sent (continue_of ask) sink sink_after → reads ≤ reads_after → writes ≤ writes_after
    → CutSo why (rest_of ask now manner passed.part tale) [] (continue_of ask) (wires (unread_of old source) sink reads writes) (wires (unread_of new after) sink_after reads_after writes_after)
    → CountsSo (end_for why) (wires (unread_of old source) sink reads writes) (wires (unread_of new after) sink_after reads_after writes_after)
    → (body : List ℕ) × IsShort why (rest_of ask now manner body tale) (wires (unread_of old source) sink reads writes) (wires (unread_of new after) sink_after reads_after writes_after)
passed_short why ask now manner tale old new source after sink sink_after reads reads_after writes writes_after passed size gave read wrote cause counts = (
  passed.part,
  record {
    out = continue_of ask;
    cut_off = record { part = omega (arith, passed.long, size); silent = λ short. front_same (continue_of ask); cause = cause };
    moved = moved_of passed.part (continue_of ask) (unread_of old source) (unread_of new after) sink sink_after reads reads_after writes writes_after passed.took gave read wrote;
    counts = counts;
  },
)

-- the source ended or failed in the body, behind the greeting
pub pass_cut : (why : Cut) (ask : Ask) (now : ℕ) (manner : Manner) (tale : List Telling) (old new : Wired) (source after : SourceView) (sink sink_after : SinkView) (reads reads_after writes writes_after : ℕ)
    → old.body_left ≡ size_of ask → Sent (continue_of ask) sink sink_after → writes_after ≡ writes → CutsOver why old new source after reads reads_after
    → (body : List ℕ) × IsShort why (rest_of ask now manner body tale) (wires (unread_of old source) sink reads writes) (wires (unread_of new after) sink_after reads_after writes_after)
pass_cut ReadFault ask now manner tale old new source after sink sink_after reads reads_after writes writes_after size gave same cut =
    passed_short ReadFault ask now manner tale old new source after sink sink_after reads reads_after writes writes_after cut.0 size gave cut.1.0 (omega (arith, same))
    (cut.1, front_all (continue_of ask) (tale_text (head_of ask) (call_of ask) now (closes manner) tale)) same
pass_cut (BodyCut read stated) ask now manner tale old new source after sink sink_after reads reads_after writes writes_after size gave same cut =
    passed_short (BodyCut read stated) ask now manner tale old new source after sink sink_after reads reads_after writes writes_after cut.0 size gave (omega (arith, cut.2)) (omega (arith, same))
    (omega (arith, cut.0.long, size), refl, record { left = cut.1.left; takes = cut.1.takes }, refl) (cut.2, same)
pass_cut WriteFault ask now manner tale old new source after sink sink_after reads reads_after writes writes_after size gave same cut = absurd cut
pass_cut (ShardCut _) ask now manner tale old new source after sink sink_after reads reads_after writes writes_after size gave same cut = absurd cut
pass_cut NoMemory ask now manner tale old new source after sink sink_after reads reads_after writes writes_after size gave same cut = absurd cut

-- ---- a refusal

-- its text
abbrev refusal_of : Ask → Refusal → ℕ → Bool → List ℕ
refusal_of ask why now close = reply_bytes (record { head = head_of ask; call = call_of ask; reply = Refused why }) now close

refusal_tale : (ask : Ask) (why : Refusal) (now : ℕ) (manner : Manner) (close : Bool) → close ≡ closes manner
    → refusal_of ask why now close ≡ tale_text (head_of ask) (call_of ask) now (closes manner) (Head (Refused why) ∷ [])
refusal_tale ask why now manner close is = ap (refusal_of ask why now) is ∙ sym (append-nil (refusal_of ask why now (closes manner)))

-- the text of a refusal behind the greeting and the body
pub refusal_given : (result : Result (Unit {0}) Cut) (ask : Ask) (why : Refusal) (now : ℕ) (manner : Manner) (body : List ℕ) (close : Bool) (source after : SourceView) (sink greeted sink_after : SinkView) (reads reads_after writes writes_mid writes_after : ℕ)
    → close ≡ closes manner
    → length body ≡ size_of ask → Taken body source after → reads_after ≡ reads → Sent (continue_of ask) sink greeted → writes_mid ≡ writes
    → MakesText result (reply_bytes (record { head = head_of ask; call = call_of ask; reply = Refused why }) now close) greeted sink_after writes_mid writes_after
    → RefuseGoes result ask why now manner (wires source sink reads writes) (wires after sink_after reads_after writes_after)
refusal_given (Ok _) ask why now manner body close source after sink greeted sink_after reads reads_after writes writes_mid writes_after is whole took read greet wrote made = (
  body,
  record {
    whole = whole;
    moved = moved_of body (text_of (refusal_rest ask why now manner body)) source after sink sink_after reads reads_after writes writes_after took
        (subst (λ l. Sent (continue_of ask ++ l) sink sink_after) (refusal_tale ask why now manner close is)
        (sent_both (continue_of ask) (refusal_of ask why now close) sink greeted sink_after greet made.0))
        (omega (arith, read)) (omega (arith, wrote, made.1));
    still = (read, made.1 ∙ wrote);
  },
)
refusal_given (Err WriteFault) ask why now manner body close source after sink greeted sink_after reads reads_after writes writes_mid writes_after is whole took read greet wrote made =
    let text = refusal_of ask why now close in
    let full = refusal_tale ask why now manner close is in
    let n = made.0.count in (
      body,
      record {
        out = continue_of ask ++ take n text;
        cut_off = record {
          part = omega (arith, whole);
          silent = λ short. absurd (omega (arith, whole, short));
          cause = (subst (λ w. Rose w writes_after) wrote made.1, front_behind (continue_of ask) (take n text) _ (n, ap (take n) full));
        };
        moved = moved_of body (continue_of ask ++ take n text) source after sink sink_after reads reads_after writes writes_after took
            (sent_both (continue_of ask) (take n text) sink greeted sink_after greet made.0.front) (omega (arith, read)) (omega (arith, wrote, made.1.0));
        counts = read;
      },
    )
refusal_given (Err NoMemory) ask why now manner body close source after sink greeted sink_after reads reads_after writes writes_mid writes_after is whole took read greet wrote made = (
  body,
  record {
    out = continue_of ask;
    cut_off = record {
      part = omega (arith, whole);
      silent = λ short. front_same (continue_of ask);
      cause = front_all (continue_of ask) _;
    };
    moved = moved_of body (continue_of ask) source after sink sink_after reads reads_after writes writes_after took
        (subst (Sent (continue_of ask) sink) (sym made.0) greet) (omega (arith, read)) (omega (arith, wrote, made.1));
    counts = (read, made.1 ∙ wrote);
  },
)
refusal_given (Err ReadFault) ask why now manner body close source after sink greeted sink_after reads reads_after writes writes_mid writes_after is whole took read greet wrote made = absurd made
refusal_given (Err (BodyCut _ _)) ask why now manner body close source after sink greeted sink_after reads reads_after writes writes_mid writes_after is whole took read greet wrote made = absurd made
refusal_given (Err (ShardCut _)) ask why now manner body close source after sink greeted sink_after reads reads_after writes writes_mid writes_after is whole took read greet wrote made = absurd made

-- a refusal that was cut before
pub refuse_err : (result : Result (Unit {0}) Cut) (cut : Cut) (ask : Ask) (why : Refusal) (now : ℕ) (manner : Manner) (before after : Wires)
    → IsErrAnd result (λ e. e ≡ cut)
    → ((body : List ℕ) × IsShort cut (refusal_rest ask why now manner body) before after) → RefuseGoes result ask why now manner before after
refuse_err (Ok _) cut ask why now manner before after is short = absurd is
refuse_err (Err e) cut ask why now manner before after is short =
    (short.0, subst (λ c. IsShort c (refusal_rest ask why now manner short.0) before after) (sym is) short.1)
