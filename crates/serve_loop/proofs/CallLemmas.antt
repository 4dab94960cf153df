-- A call behind its head: the greeting, the body that is passed over, and the desk.
use Rattle.std.proofs.Common.{◌≡◌, ◌⊎◌, inl, inr, ◌≤◌, ◌+◌, ℕ, Bool, List, [], ◌∷◌, ◌++◌, length, refl, sym, ap, ◌∙◌, subst, arith, append-nil, length-append}
use Rattle.std.specs.Prelude.{Result, Ok, Err}
use Rattle.std.specs.Result.{IsErrAnd}
use Rattle.fault_base.specs.Counts.{Rose}
use Rattle.http_wire.specs.Answers.{Wired}
use Rattle.http_wire.specs.Parts.{HeadParts}
use Rattle.http_wire.specs.Taking.{SourceView}
use Rattle.call_types.specs.declared.feed.Cut.{Cut}
use Rattle.call_types.specs.declared.feed.Cut.TheVariants.{ReadFault, BodyCut, WriteFault, ShardCut, NoMemory}
use Rattle.desk_base.specs.Answering.{Task}
use Rattle.desk_base.specs.Telling.{Telling}
use Rattle.desk_base.specs.declared.call.Call.{Call}
use Rattle.serve_loop.specs.Exchanges.{expects_continue, Ask, asked, closes, greeting}
use Rattle.serve_loop.specs.Deeds.{Wires, wires, CutSo, IsFront, IsServed}
use Rattle.serve_loop.specs.Intakes.{unread_of}
use Rattle.serve_loop.specs.Sending.{Sent, SinkView}
use Rattle.serve_loop.specs.Turns.{AskCutSo, AskGoes, Goes, IsReady, IsShort, asking_text, end_for, rest_of}
use Rattle.serve_loop.specs.declared.manner.Manner.{Manner}
use Rattle.serve_loop.proofs.MovedLemmas.{counts_later, moved_later, moved_of}
use Rattle.serve_loop.proofs.RestLemmas.{front_behind, front_same}

empty_of : (xs : List ℕ) → length xs ≤ 0 → xs ≡ []
empty_of [] short = refl
empty_of (x ∷ xs) short = absurd (omega (arith, short))

-- what a cut of the asking means for the whole request
cause_so : (why : Cut) (head : HeadParts) (size : ℕ) (call : Call) (now : ℕ) (manner : Manner) (rest read out : List ℕ) (tale : List Telling) (long : ℕ) (before mid after : Wires)
    → length rest + long ≡ size → mid.read_faults ≡ before.read_faults → mid.write_faults ≡ before.write_faults
    → AskCutSo why (record { head = head; call = call; now = now; close = closes manner; long = long }) tale read out mid after
    → CutSo why (rest_of (asked head size call) now manner (rest ++ read) tale) [] (greeting (expects_continue head size) ++ out) before after
cause_so ReadFault head size call now manner rest read out tale long before mid after all same_reads same_writes cause =
    (subst (λ r. Rose r after.read_faults) same_reads cause.0, front_behind (greeting (expects_continue head size)) out _ cause.1)
cause_so (BodyCut r s) head size call now manner rest read out tale long before mid after all same_reads same_writes cause = (
  omega (arith, cause.0, all, length-append rest read),
  refl,
  cause.1,
  ap (λ o. greeting (expects_continue head size) ++ o) cause.2 ∙ append-nil (greeting (expects_continue head size)),
)
cause_so WriteFault head size call now manner rest read out tale long before mid after all same_reads same_writes cause =
    (subst (λ w. Rose w after.write_faults) same_writes cause.0, front_behind (greeting (expects_continue head size)) out _ cause.1)
cause_so (ShardCut whys) head size call now manner rest read out tale long before mid after all same_reads same_writes cause =
    (cause.0, omega (arith, cause.1, all, length-append rest read), ap (λ o. greeting (expects_continue head size) ++ o) cause.2)
cause_so NoMemory head size call now manner rest read out tale long before mid after all same_reads same_writes cause =
    front_behind (greeting (expects_continue head size)) out _ cause

module _ {M R : Type 0} (answers : Task → M → M → List ℕ → List Telling → Result R Cut → Type 0) where
  -- the desk took a front of the whole body
  widened : (call : Call) (now : ℕ) (rest read : List ℕ) (tale : List Telling) (result : Result R Cut) (old new : M) (long : ℕ)
      → (rest ≡ []) ⊎ (long ≡ 0) → length read ≤ long → IsServed answers call now read tale result old new → IsServed answers call now (rest ++ read) tale result old new
  widened call now rest read tale result old new long (inl none) short served = record {
    taken = served.taken;
    rest = served.rest;
    are = ap (λ l. l ++ read) none ∙ served.are;
    whole = served.whole;
    did = served.did;
  }
  widened call now rest read tale result old new long (inr none) short served =
      let empty : read ≡ [] = empty_of read (omega (arith, none, short)) in
      let nothing : served.taken ≡ [] = empty_of served.taken (omega (arith, ap length (sym served.are ∙ empty), length-append served.taken served.rest)) in
      record { taken = served.taken; rest = rest ++ read; are = ap (λ l. l ++ (rest ++ read)) (sym nothing); whole = served.whole; did = served.did }

  call_goes_so : (result : Result (Unit {0}) Cut) (head : HeadParts) (size : ℕ) (call : Call) (now : ℕ) (manner : Manner) (old new : M) (wire mid : Wired) (source source_mid : SourceView) (sink sink_mid : SinkView)
      (reads reads_mid writes writes_mid : ℕ) (after : Wires) (long stated : ℕ)
      → wire.body_left ≡ size → IsReady long stated wire mid source source_mid reads reads_mid → Sent (greeting (expects_continue head size)) sink sink_mid → writes_mid ≡ writes
      → AskGoes answers result (record { head = head; call = call; now = now; close = closes manner; long = mid.body_left }) old new (wires (unread_of mid source_mid) sink_mid reads_mid writes_mid) after
      → Goes answers result (asked head size call) now manner old new (wires (unread_of wire source) sink reads writes) after
  call_goes_so (Ok _) head size call now manner old new wire mid source source_mid sink sink_mid reads reads_mid writes writes_mid after long stated all ready greeted wrote goes =
      let text = asking_text (record { head = head; call = call; now = now; close = closes manner; long = mid.body_left }) goes.tale in (
        ready.rest ++ goes.read,
        goes.tale,
        (goes.receipt, widened call now ready.rest goes.read goes.tale (Ok goes.receipt) old new long ready.one (omega (arith, goes.whole, ready.fresh)) goes.served),
        record {
          whole = omega (arith, goes.whole, ready.all, all, length-append ready.rest goes.read);
          moved = moved_later ready.rest goes.read (greeting (expects_continue head size)) text (wires (unread_of wire source) sink reads writes)
              (wires (unread_of mid source_mid) sink_mid reads_mid writes_mid) after
              (moved_of ready.rest (greeting (expects_continue head size)) (unread_of wire source) (unread_of mid source_mid) sink sink_mid
              reads reads_mid writes writes_mid ready.took greeted (omega (arith, ready.counted)) (omega (arith, wrote)))
              goes.moved;
          still = (goes.still.0 ∙ ready.counted, goes.still.1 ∙ wrote);
        },
      )
  call_goes_so (Err why) head size call now manner old new wire mid source source_mid sink sink_mid reads reads_mid writes writes_mid after long stated all ready greeted wrote goes =
      let continue = greeting (expects_continue head size) in (
        ready.rest ++ goes.read,
        goes.tale,
        elim goes.came [
          | inl done ↦ inr (inl (done.0, widened call now ready.rest goes.read goes.tale (Ok done.0) old new long ready.one (omega (arith, goes.part, ready.fresh)) done.1))
          | inr cut ↦ inr (inr (cut.0, cut.1, widened call now ready.rest goes.read goes.tale (Err cut.0) old new long ready.one (omega (arith, goes.part, ready.fresh)) cut.2))
        ],
        record {
          out = continue ++ goes.out;
          cut_off = record {
            part = omega (arith, goes.part, ready.all, all, length-append ready.rest goes.read);
            silent = λ short. subst (λ o. IsFront (continue ++ o) continue) (sym (goes.silent (omega (arith, short, ready.all, all, length-append ready.rest goes.read))))
                (subst (λ l. IsFront l continue) (sym (append-nil continue)) (front_same continue));
            cause = cause_so why head size call now manner ready.rest goes.read goes.out goes.tale mid.body_left (wires (unread_of wire source) sink reads writes)
                (wires (unread_of mid source_mid) sink_mid reads_mid writes_mid) after (ready.all ∙ all) ready.counted wrote goes.cause;
          };
          moved = moved_later ready.rest goes.read continue goes.out (wires (unread_of wire source) sink reads writes)
              (wires (unread_of mid source_mid) sink_mid reads_mid writes_mid) after
              (moved_of ready.rest continue (unread_of wire source) (unread_of mid source_mid) sink sink_mid reads reads_mid writes writes_mid ready.took greeted
              (omega (arith, ready.counted)) (omega (arith, wrote)))
              goes.moved;
          counts = counts_later (end_for why) (wires (unread_of wire source) sink reads writes) (wires (unread_of mid source_mid) sink_mid reads_mid writes_mid) after
              (ready.counted, wrote) goes.counts;
        },
      )

  -- the desk was asked behind the greeting and the body
  pub call_goes : (result : Result (Unit {0}) Cut) (head : HeadParts) (size : ℕ) (call : Call) (now : ℕ) (close : Bool) (manner : Manner) (old new : M) (wire mid : Wired) (source source_mid : SourceView) (sink sink_mid : SinkView)
      (reads reads_mid writes writes_mid : ℕ) (after : Wires) (long stated : ℕ)
      → close ≡ closes manner → wire.body_left ≡ size → IsReady long stated wire mid source source_mid reads reads_mid → Sent (greeting (expects_continue head size)) sink sink_mid → writes_mid ≡ writes
      → AskGoes answers result (record { head = head; call = call; now = now; close = close; long = mid.body_left }) old new (wires (unread_of mid source_mid) sink_mid reads_mid writes_mid) after
      → Goes answers result (asked head size call) now manner old new (wires (unread_of wire source) sink reads writes) after
  call_goes result head size call now close manner old new wire mid source source_mid sink sink_mid reads reads_mid writes writes_mid after long stated is all ready greeted wrote goes =
      call_goes_so result head size call now manner old new wire mid source source_mid sink sink_mid reads reads_mid writes writes_mid after long stated all ready greeted wrote
      (subst (λ b. AskGoes answers result (record { head = head; call = call; now = now; close = b; long = mid.body_left }) old new (wires (unread_of mid source_mid) sink_mid reads_mid writes_mid) after) is goes)

  -- the request was cut before the desk was asked
  pub goes_err : (result : Result (Unit {0}) Cut) (why : Cut) (ask : Ask) (now : ℕ) (manner : Manner) (same : M) (before after : Wires) → IsErrAnd result (λ e. e ≡ why)
      → ((body : List ℕ) × IsShort why (rest_of ask now manner body []) before after) → Goes answers result ask now manner same same before after
  goes_err (Ok _) why ask now manner same before after is short = absurd is
  goes_err (Err e) why ask now manner same before after is short =
      (short.0, [], inl (refl, refl), subst (λ c. IsShort c (rest_of ask now manner short.0 []) before after) (sym is) short.1)
