-- What a teller does, put together from what its flush and its sink do.
use Rattle.std.proofs.Common.{◌≡◌, ◌+◌, ℕ, Bool, false, IsTrue, List, [], ◌∷◌, ◌++◌, length, take, refl, sym, ap, ◌∙◌, subst, append_assoc, append-nil}
use Rattle.std.proofs.Math.Seq.{take-append-add}
use Rattle.std.proofs.lemmas.Bool.{false≢true}
use Rattle.std.specs.Prelude.{Result, Ok, Err}
use Rattle.call_types.specs.declared.feed.Cut.{Cut}
use Rattle.call_types.specs.declared.feed.Cut.TheVariants.{ReadFault, BodyCut, WriteFault, ShardCut, NoMemory}
use Rattle.desk_base.specs.Telling.{Telling, Tells, TellsAll}
use Rattle.serve_loop.specs.Sending.{Sent, SentFront}
use Rattle.serve_loop.specs.Replies.{BreaksText, FlushesText, GivesText, TakesText, Told, tale_in, text_in}
use Rattle.serve_loop.proofs.SentLemmas.{sent_both, sent_none}

not_true : {A : Type 0} (b : Bool) → b ≡ false → IsTrue b → A
not_true b never so = absurd (false≢true (sym never ∙ so))

-- ---- one telling

-- what is held back and a text behind it are all given
pub takes_given : (text : List ℕ) (old new : Told) → new.reply ≡ old.reply → new.held ≡ [] → Sent (old.held ++ text) old.sink new.sink
    → old.reply.waits ≡ false → TakesText text old new
takes_given text old new same none gave never = record {
  same = same;
  more = old.held ++ text;
  gave = gave;
  split = ap (λ l. (old.held ++ text) ++ l) none ∙ append-nil (old.held ++ text);
  waits = λ so. not_true old.reply.waits never so;
}

-- a text is held back
pub takes_held : (text : List ℕ) (old new : Told) → new.reply ≡ old.reply → new.held ≡ old.held ++ text → new.sink ≡ old.sink → TakesText text old new
takes_held text old new same held gave = record {
  same = same;
  more = [];
  gave = subst (Sent [] old.sink) (sym gave) (sent_none old.sink);
  split = held;
  waits = λ so. refl;
}

-- a front of both was given
pub breaks_front : (text all : List ℕ) (old new : Told) → new.reply ≡ old.reply → all ≡ old.held ++ text → SentFront all old.sink new.sink
    → old.reply.waits ≡ false → BreaksText text old new
breaks_front text all old new same are gave never = record {
  same = same;
  count = gave.count;
  front = subst (λ l. Sent (take gave.count l) old.sink new.sink) are gave.front;
  waits = λ so. not_true old.reply.waits never so;
}

-- ---- a teller of any kind, that shows this and has a name

module _ {T N : Type 0} (view : T → Told) (name : T → N) where
  -- what it does with a telling
  abbrev pub taken : T → Telling → T → Type 0
  taken old telling new = (name new ≡ name old) × TakesText (text_in (view old).reply telling) (view old) (view new)

  abbrev pub broken : T → Telling → T → Type 0
  broken old telling new = (name new ≡ name old) × BreaksText (text_in (view old).reply telling) (view old) (view new)

  -- a text was put behind what is held back, and then all was flushed
  pub tells_flushed : (telling : Telling) (result : Result (Unit {0}) Cut) (old new : T) (mid : Told) (faults faults_after : ℕ)
      → name new ≡ name old → mid.reply ≡ (view old).reply → mid.sink ≡ (view old).sink → mid.held ≡ (view old).held ++ text_in (view old).reply telling
      → (view old).reply.waits ≡ false → FlushesText result mid (view new) faults faults_after → Tells taken broken result telling old new
  tells_flushed telling (Ok _) old new mid faults faults_after named same given held never flushed = (
    named,
    takes_given (text_in (view old).reply telling) (view old) (view new) (flushed.0 ∙ same) flushed.1
        (subst (λ l. Sent l (view old).sink (view new).sink) held (subst (λ s. Sent mid.held s (view new).sink) given flushed.2)) never,
  )
  tells_flushed telling (Err WriteFault) old new mid faults faults_after named same given held never flushed =
      (named, breaks_front (text_in (view old).reply telling) mid.held (view old) (view new) (flushed.0 ∙ same) held (subst (λ s. SentFront mid.held s (view new).sink) given flushed.1) never)
  tells_flushed telling (Err ReadFault) old new mid faults faults_after named same given held never flushed = absurd flushed
  tells_flushed telling (Err (BodyCut _ _)) old new mid faults faults_after named same given held never flushed = absurd flushed
  tells_flushed telling (Err (ShardCut _)) old new mid faults faults_after named same given held never flushed = absurd flushed
  tells_flushed telling (Err NoMemory) old new mid faults faults_after named same given held never flushed = absurd flushed

  -- all that was held back was flushed, and then a text was given
  pub tells_given : (telling : Telling) (result : Result (Unit {0}) Cut) (old new : T) (mid : Told) (faults faults_mid faults_after : ℕ)
      → name new ≡ name old → (mid.reply ≡ (view old).reply) × (mid.held ≡ []) × Sent (view old).held (view old).sink mid.sink × (faults_mid ≡ faults) → (view new).reply ≡ mid.reply → (view new).held ≡ mid.held
      → (view old).reply.waits ≡ false → GivesText result (text_in (view old).reply telling) mid.sink (view new).sink faults_mid faults_after → Tells taken broken result telling old new
  tells_given telling (Ok _) old new mid faults faults_mid faults_after named flushed same held never given = (
    named,
    takes_given (text_in (view old).reply telling) (view old) (view new) (same ∙ flushed.0) (held ∙ flushed.1)
        (sent_both (view old).held (text_in (view old).reply telling) (view old).sink mid.sink (view new).sink flushed.2 given.0) never,
  )
  tells_given telling (Err WriteFault) old new mid faults faults_mid faults_after named flushed same held never given =
      let text = text_in (view old).reply telling in (
        named,
        record {
          same = same ∙ flushed.0;
          count = length (view old).held + given.0.count;
          front = subst (λ l. Sent l (view old).sink (view new).sink) (sym (take-append-add (view old).held text given.0.count))
              (sent_both (view old).held (take given.0.count text) (view old).sink mid.sink (view new).sink flushed.2 given.0.front);
          waits = λ so. not_true (view old).reply.waits never so;
        },
      )
  tells_given telling (Err ReadFault) old new mid faults faults_mid faults_after named flushed same held never given = absurd given
  tells_given telling (Err (BodyCut _ _)) old new mid faults faults_mid faults_after named flushed same held never given = absurd given
  tells_given telling (Err (ShardCut _)) old new mid faults faults_mid faults_after named flushed same held never given = absurd given
  tells_given telling (Err NoMemory) old new mid faults faults_mid faults_after named flushed same held never given = absurd given

  -- the name and the reply stay, and the texts come behind one another
  pub takes_all : (tale : List Telling) (old new : T) → TellsAll taken old tale new
      → (name new ≡ name old) × TakesText (tale_in (view old).reply tale) (view old) (view new)
  takes_all [] old new same = (
    ap name (sym same),
    subst (λ t. TakesText [] (view old) (view t)) same (record {
      same = refl;
      more = [];
      gave = sent_none (view old).sink;
      split = sym (append-nil (view old).held);
      waits = λ so. refl;
    }),
  )
  takes_all (telling ∷ tale) old new (mid, first, rest) =
      let later = takes_all tale mid new rest in
      let one = first.1 in
      let text = text_in (view old).reply telling in
      let texts : tale_in (view mid).reply tale ≡ tale_in (view old).reply tale = ap (λ r. tale_in r tale) one.same in (
        later.0 ∙ first.0,
        record {
          same = later.1.same ∙ one.same;
          more = one.more ++ later.1.more;
          gave = sent_both one.more later.1.more (view old).sink (view mid).sink (view new).sink one.gave later.1.gave;
          split = append_assoc one.more later.1.more (view new).held ∙ ap (λ l. one.more ++ l) later.1.split
              ∙ sym (append_assoc one.more (view mid).held (tale_in (view mid).reply tale)) ∙ ap (λ l. l ++ tale_in (view mid).reply tale) one.split
              ∙ append_assoc (view old).held text (tale_in (view mid).reply tale) ∙ ap (λ l. (view old).held ++ (text ++ l)) texts;
          waits = λ so. ap (λ l. l ++ later.1.more) (one.waits so) ∙ later.1.waits (subst (λ r. IsTrue r.waits) (sym one.same) so);
        },
      )
