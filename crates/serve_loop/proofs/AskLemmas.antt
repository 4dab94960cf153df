-- What the asking of a desk comes to, put together from what the desk, the intake and the teller did.
use Rattle.std.proofs.Common.{◌≡◌, ◌⊎◌, inl, inr, ◌≤◌, ◌<◌, ◌+◌, ℕ, true, List, [], ◌++◌, length, take, refl, sym, ap, ◌∙◌, subst, arith, length-append}
use Rattle.std.proofs.Math.Seq.{take-append-add}
use Rattle.std.specs.Prelude.{Result, Ok, Err}
use Rattle.fault_base.specs.Counts.{Rose}
use Rattle.http_wire.specs.Answers.{Wired}
use Rattle.http_wire.specs.Taking.{SourceView}
use Rattle.http_wire.proofs.SourceLemmas.{taken_both}
use Rattle.call_types.specs.Feeds.{Gave}
use Rattle.call_types.specs.declared.feed.Cut.{Cut}
use Rattle.call_types.specs.declared.feed.Cut.TheVariants.{ReadFault, BodyCut, WriteFault, ShardCut, NoMemory}
use Rattle.desk_base.specs.Answering.{CallTells, Task}
use Rattle.desk_base.specs.Telling.{Telling}
use Rattle.serve_loop.specs.Deeds.{wires, IsFront, IsServed}
use Rattle.serve_loop.specs.Intakes.{feed_of, unread_of}
use Rattle.serve_loop.specs.Sending.{Sent}
use Rattle.serve_loop.specs.Replies.{TakesText, Told}
use Rattle.serve_loop.specs.Turns.{AskGoes, Asking, Finishes, asking_text}
use Rattle.serve_loop.proofs.IntakeLemmas.{taken_of}
use Rattle.serve_loop.proofs.MovedLemmas.{moved_of}
use Rattle.serve_loop.proofs.RestLemmas.{front_all}
use Rattle.serve_loop.proofs.SentLemmas.{sent_both}

-- how much of the body the desk took
pub taken_long : (taken : List ℕ) (long stated stated_after : ℕ) (old new : Wired) (source after : SourceView)
    → long ≡ old.body_left → old.body_left ≡ stated → new.body_left ≤ stated_after → Gave taken (feed_of stated old source) (feed_of stated_after new after)
    → length taken + new.body_left ≡ long
taken_long taken long stated stated_after old new source after is fresh within gave = omega (arith, is, fresh, within, gave.stated, gave.given)

-- a text that was told behind nothing was given in part, and the rest is held back
pub told_text : (text : List ℕ) (old new : Told) → old.held ≡ [] → (takes : TakesText text old new) → takes.more ++ new.held ≡ text
told_text text old new none takes = takes.split ∙ ap (λ l. l ++ text) none

-- nothing of it was given where all waits, or no body was to be read
pub silent_so : (text read : List ℕ) (long : ℕ) (old new : Told) → (old.reply.waits ≡ true) ⊎ (long ≡ 0) → (takes : TakesText text old new) → length read < long → takes.more ≡ []
silent_so text read long old new waits takes short = elim waits [ inl all ↦ takes.waits all | inr none ↦ absurd (omega (arith, none, short)) ]

module _ {M R : Type 0} (answers : Task → M → M → List ℕ → List Telling → Result R Cut → Type 0) where
  -- the desk took all of its body that it wanted, and answered
  pub served_so : (asking : Asking) (result : Result R Cut) (old new : M) (taken rest : List ℕ) (tale : List Telling)
      → CallTells asking.call result tale → answers (record { call = asking.call; now = asking.now }) old new taken tale result
      → IsServed answers asking.call asking.now (taken ++ rest) tale result old new
  served_so asking result old new taken rest tale whole did = record { taken = taken; rest = rest; are = refl; whole = whole; did = did }

  -- the desk answered, and its reply was given behind the rest of the body, or cut
  pub asked_done : (result : Result (Unit {0}) Cut) (asking : Asking) (old new : M) (receipt : R) (taken : List ℕ) (tale : List Telling)
      (stated stated_after : ℕ) (wire wire_mid wire_after : Wired) (source mid after : SourceView) (reads reads_mid reads_after : ℕ) (told told_mid told_after : Told) (writes writes_mid writes_after : ℕ)
      → asking.long ≡ wire.body_left → wire.body_left ≡ stated → wire_mid.body_left ≤ stated_after
      → Gave taken (feed_of stated wire source) (feed_of stated_after wire_mid mid)
      → CallTells asking.call (Ok receipt) tale → answers (record { call = asking.call; now = asking.now }) old new taken tale (Ok receipt)
      → told.held ≡ [] → (told.reply.waits ≡ true) ⊎ (asking.long ≡ 0) → TakesText (asking_text asking tale) told told_mid
      → reads_mid ≡ reads → writes_mid ≡ writes
      → Finishes result wire_mid wire_after mid after reads_mid reads_after told_mid told_after writes_mid writes_after
      → AskGoes answers result asking old new (wires (unread_of wire source) told.sink reads writes) (wires (unread_of wire_after after) told_after.sink reads_after writes_after)
  asked_done (Ok _) asking old new receipt taken tale stated stated_after wire wire_mid wire_after source mid after reads reads_mid reads_after told told_mid told_after writes writes_mid writes_after is fresh within gave whole did none waits takes read wrote finishes =
      let passed = finishes.0 in
      let body = taken_of taken stated stated_after wire wire_mid source mid gave in
      let long = taken_long taken asking.long stated stated_after wire wire_mid source mid is fresh within gave in
      record {
        read = taken ++ passed.rest;
        tale = tale;
        receipt = receipt;
        served = served_so asking (Ok receipt) old new taken passed.rest tale whole did;
        whole = omega (arith, long, passed.long, length-append taken passed.rest);
        moved = moved_of (taken ++ passed.rest) (asking_text asking tale) (unread_of wire source) (unread_of wire_after after) told.sink told_after.sink
            reads reads_after writes writes_after
            (taken_both taken passed.rest (unread_of wire source) (unread_of wire_mid mid) (unread_of wire_after after) body passed.took)
            (subst (λ l. Sent l told.sink told_after.sink) (told_text (asking_text asking tale) told told_mid none takes)
            (sent_both takes.more told_mid.held told.sink told_mid.sink told_after.sink takes.gave finishes.1))
            (omega (arith, read, passed.counted)) (omega (arith, wrote, finishes.2));
        still = (passed.counted ∙ read, finishes.2 ∙ wrote);
      }
  asked_done (Err WriteFault) asking old new receipt taken tale stated stated_after wire wire_mid wire_after source mid after reads reads_mid reads_after told told_mid told_after writes writes_mid writes_after is fresh within gave whole did none waits takes read wrote finishes =
      let passed = finishes.0 in
      let body = taken_of taken stated stated_after wire wire_mid source mid gave in
      let front = finishes.1 in
      let text = told_text (asking_text asking tale) told told_mid none takes in
      let long = taken_long taken asking.long stated stated_after wire wire_mid source mid is fresh within gave in
      let all : length (taken ++ passed.rest) ≡ asking.long = omega (arith, long, passed.long, length-append taken passed.rest) in
      record {
        read = taken ++ passed.rest;
        tale = tale;
        part = omega (arith, all);
        came = inl (receipt, served_so asking (Ok receipt) old new taken passed.rest tale whole did);
        out = takes.more ++ take front.count told_mid.held;
        silent = λ short. absurd (omega (arith, short, all));
        cause = (
          subst (λ w. Rose w writes_after) wrote finishes.2,
          (length takes.more + front.count, sym (take-append-add takes.more told_mid.held front.count) ∙ ap (take (length takes.more + front.count)) text),
        );
        moved = moved_of (taken ++ passed.rest) (takes.more ++ take front.count told_mid.held) (unread_of wire source) (unread_of wire_after after)
            told.sink told_after.sink reads reads_after writes writes_after
            (taken_both taken passed.rest (unread_of wire source) (unread_of wire_mid mid) (unread_of wire_after after) body passed.took)
            (sent_both takes.more (take front.count told_mid.held) told.sink told_mid.sink told_after.sink takes.gave front.front)
            (omega (arith, read, passed.counted)) (omega (arith, wrote, finishes.2.0));
        counts = passed.counted ∙ read;
      }
  asked_done (Err ReadFault) asking old new receipt taken tale stated stated_after wire wire_mid wire_after source mid after reads reads_mid reads_after told told_mid told_after writes writes_mid writes_after is fresh within gave whole did none waits takes read wrote finishes =
      let passed = finishes.0 in
      let body = taken_of taken stated stated_after wire wire_mid source mid gave in
      let text = told_text (asking_text asking tale) told told_mid none takes in
      let long = taken_long taken asking.long stated stated_after wire wire_mid source mid is fresh within gave in
      record {
        read = taken ++ passed.part;
        tale = tale;
        part = omega (arith, long, passed.long, length-append taken passed.part);
        came = inl (receipt, served_so asking (Ok receipt) old new taken passed.part tale whole did);
        out = takes.more;
        silent = silent_so (asking_text asking tale) (taken ++ passed.part) asking.long told told_mid waits takes;
        cause = (subst (λ r. Rose r reads_after) read finishes.1, subst (IsFront takes.more) text (front_all takes.more told_mid.held));
        moved = moved_of (taken ++ passed.part) takes.more (unread_of wire source) (unread_of wire_after after) told.sink told_after.sink
            reads reads_after writes writes_after
            (taken_both taken passed.part (unread_of wire source) (unread_of wire_mid mid) (unread_of wire_after after) body passed.took)
            (subst (Sent takes.more told.sink) (sym finishes.2) takes.gave) (omega (arith, read, finishes.1.0)) (omega (arith, wrote, finishes.3));
        counts = finishes.3 ∙ wrote;
      }
  asked_done (Err (BodyCut read_bytes all)) asking old new receipt taken tale stated stated_after wire wire_mid wire_after source mid after reads reads_mid reads_after told told_mid told_after writes writes_mid writes_after is fresh within gave whole did none waits takes read wrote finishes =
      let passed = finishes.0 in
      let body = taken_of taken stated stated_after wire wire_mid source mid gave in
      let long = taken_long taken asking.long stated stated_after wire wire_mid source mid is fresh within gave in
      let short : length (taken ++ passed.part) < asking.long = omega (arith, long, passed.long, length-append taken passed.part) in
      let silent = silent_so (asking_text asking tale) (taken ++ passed.part) asking.long told told_mid waits takes in
      record {
        read = taken ++ passed.part;
        tale = tale;
        part = omega (arith, short);
        came = inl (receipt, served_so asking (Ok receipt) old new taken passed.part tale whole did);
        out = takes.more;
        silent = silent;
        cause = (short, record { left = finishes.1.left; takes = finishes.1.takes }, silent short);
        moved = moved_of (taken ++ passed.part) takes.more (unread_of wire source) (unread_of wire_after after) told.sink told_after.sink
            reads reads_after writes writes_after
            (taken_both taken passed.part (unread_of wire source) (unread_of wire_mid mid) (unread_of wire_after after) body passed.took)
            (subst (Sent takes.more told.sink) (sym finishes.3) takes.gave) (omega (arith, read, finishes.2)) (omega (arith, wrote, finishes.4));
        counts = (finishes.2 ∙ read, finishes.4 ∙ wrote);
      }
  asked_done (Err (ShardCut _)) asking old new receipt taken tale stated stated_after wire wire_mid wire_after source mid after reads reads_mid reads_after told told_mid told_after writes writes_mid writes_after is fresh within gave whole did none waits takes read wrote finishes = absurd finishes
  asked_done (Err NoMemory) asking old new receipt taken tale stated stated_after wire wire_mid wire_after source mid after reads reads_mid reads_after told told_mid told_after writes writes_mid writes_after is fresh within gave whole did none waits takes read wrote finishes = absurd finishes
