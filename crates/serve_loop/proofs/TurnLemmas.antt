-- What one request leads to, from what its rest came to.
use Rattle.std.proofs.Common.{◌≡◌, inl, inr, ◌<◌, ℕ, Bool, false, List, [], ◌∷◌, ◌++◌, Option, refl, sym, subst, append_assoc}
use Rattle.std.specs.Prelude.{Result, Ok, Err, IfSome, OnOk}
use Rattle.std.specs.Io.KnownBytes.{IsAtEnd}
use Rattle.http_wire.specs.Answers.{Wired}
use Rattle.http_wire.specs.Parts.{HeadParts}
use Rattle.http_wire.specs.Taking.{SourceView}
use Rattle.io_base.specs.Trail.{obtained}
use Rattle.call_types.specs.declared.feed.Cut.{Cut}
use Rattle.call_types.specs.declared.feed.Cut.TheVariants as cut
use Rattle.call_types.specs.declared.refusal.Refusal.{Refusal}
use Rattle.call_types.specs.declared.reply.Reply.TheVariants.{Refused}
use Rattle.desk_base.specs.Answering.{Task}
use Rattle.desk_base.specs.Telling.{Telling}
use Rattle.desk_base.specs.Telling.Telling.{Head}
use Rattle.serve_loop.specs.Deeds.{Answered, Wires, wires, IsCutOff, MetEnd, Moved}
use Rattle.serve_loop.specs.Exchanges.{Ask, refused, Asks, Exchange, IsManner, text_of}
use Rattle.serve_loop.specs.Intakes.{AreLast, handed, unread_of, with_waiting}
use Rattle.serve_loop.specs.Sending.{SinkView}
use Rattle.serve_loop.specs.Session.{CountsSo, Cuts, EndsSo, Parts}
use Rattle.serve_loop.specs.Turns.{Goes, OnAnswered, RefuseGoes, TurnEnds, Turns, end_for, rest_of, turn_for}
use Rattle.serve_loop.specs.declared.ends.ConnectionEnd.{ConnectionEnd}
use Rattle.serve_loop.specs.declared.ends.ConnectionEnd.TheVariants.{Closed, NoMemory, Over}
use Rattle.serve_loop.specs.declared.ends.Turn.{Turn}
use Rattle.serve_loop.specs.declared.manner.Manner.{Manner}
use Rattle.serve_loop.specs.declared.manner.Manner.TheVariants.{Stays, ClientCloses, ServerCloses}
use Rattle.serve_loop.proofs.IntakeLemmas.{none_waits, prepend_none, shows_none, taken_shut}
use Rattle.serve_loop.proofs.MovedLemmas.{counts_alike, moved_none}

-- the exchange behind its head, with the head
abbrev pub with_front : List ℕ → Exchange → Exchange
with_front front x = record x { front = front }

-- where bytes wait, the takes that count show no end
met_shut : (waits : List ℕ) (source : SourceView) (sink : SinkView) (reads writes : ℕ) → MetEnd (wires (with_waiting waits source) sink reads writes)
    → MetEnd (wires source sink reads writes)
met_shut [] source sink reads writes met = record { left = subst IsAtEnd (sym (prepend_none source.left)) met.left; takes = met.takes }
met_shut (byte ∷ waits) source sink reads writes met = absurd (shows_none (handed (byte ∷ waits) (obtained source.takes)) met.takes)

-- what waits at an end was taken
cut_shut : (why : Cut) (x : Exchange) (front out : List ℕ) (wire : Wired) (source : SourceView) (sink : SinkView) (reads writes : ℕ) (before : Wires)
    → IsCutOff why x [] out before (wires (unread_of wire source) sink reads writes) → IsCutOff why (with_front front x) wire.waits out before (wires source sink reads writes)
cut_shut cut.ReadFault x front out wire source sink reads writes before off = record { part = off.part; silent = off.silent; cause = off.cause }
cut_shut (cut.BodyCut r s) x front out wire source sink reads writes before off = record {
  part = off.part;
  silent = off.silent;
  cause = (off.cause.0, none_waits wire.waits source.takes off.cause.2.takes, met_shut wire.waits source sink reads writes off.cause.2, off.cause.3);
}
cut_shut cut.WriteFault x front out wire source sink reads writes before off = record { part = off.part; silent = off.silent; cause = off.cause }
cut_shut (cut.ShardCut whys) x front out wire source sink reads writes before off = record { part = off.part; silent = off.silent; cause = off.cause }
cut_shut cut.NoMemory x front out wire source sink reads writes before off = record { part = off.part; silent = off.silent; cause = off.cause }

moved_shut : (taken out : List ℕ) (before : Wires) (wire : Wired) (source : SourceView) (sink : SinkView) (reads writes : ℕ) → AreLast wire.waits source.takes
    → Moved taken out before (wires (unread_of wire source) sink reads writes) → Moved (taken ++ wire.waits) out before (wires source sink reads writes)
moved_shut taken out before wire source sink reads writes last moved =
    let shut = taken_shut taken wire.waits (record { left = before.left; takes = before.takes }) source last (record { left = moved.took; takes = moved.takes }) in
    record { took = shut.left; takes = shut.takes; gave = moved.gave; gives = moved.gives; reads = moved.reads; writes = moved.writes }

module _ {M R : Type 0} (answers : Task → M → M → List ℕ → List Telling → Result R Cut → Type 0) (clock : Option ℕ) where
  -- a cut is an end
  ends_cut : (why : Cut) (number : ℕ) (old new : M) (taken out : List ℕ) (before after : Wires) → Cuts answers clock why number old new taken out before after
      → EndsSo answers clock (end_for why) number old new taken out before after
  ends_cut cut.ReadFault number old new taken out before after cuts = inr cuts
  ends_cut (cut.BodyCut r s) number old new taken out before after cuts = inr (r, s, cuts)
  ends_cut cut.WriteFault number old new taken out before after cuts = cuts
  ends_cut (cut.ShardCut whys) number old new taken out before after cuts = cuts
  ends_cut cut.NoMemory number old new taken out before after cuts = inr cuts

  -- the last exchange, behind which the connection closes, with what waits behind it
  parts_so : (number : ℕ) (front : List ℕ) (old new : M) (x : Exchange) (wire : Wired) → Answered answers clock number old (with_front front x) new
      → Parts answers clock x.manner number old new (front ++ (x.body ++ wire.waits)) (text_of x)
  parts_so number front old new x wire answered = record {
    x = with_front front x;
    answered = answered;
    manner_is = refl;
    ahead = wire.waits;
    took = sym (append_assoc front x.body wire.waits);
    gave = refl;
  }

  -- the connection closes behind it
  closes_so : (end : ConnectionEnd) (number : ℕ) (front body : List ℕ) (old new : M) (x : Exchange) (before : Wires) (wire : Wired) (source : SourceView) (sink : SinkView) (reads writes : ℕ)
      → AreLast wire.waits source.takes → Moved body (text_of x) before (wires (unread_of wire source) sink reads writes) → CountsSo end before (wires source sink reads writes)
      → EndsSo answers clock end number old new (front ++ (body ++ wire.waits)) (text_of x) before (wires source sink reads writes)
      → TurnEnds answers clock end number front old new before (wires source sink reads writes)
  closes_so end number front body old new x before wire source sink reads writes last moved counts ends = record {
    taken = front ++ (body ++ wire.waits);
    part = body ++ wire.waits;
    is = refl;
    out = text_of x;
    moved = moved_shut body (text_of x) before wire source sink reads writes last moved;
    counts = counts;
    ends = ends;
  }

  -- an exchange of which the rest went so
  pub turns_so : (result : Result (Unit {0}) Cut) (ask : Ask) (now : ℕ) (manner : Manner) (number : ℕ) (front : List ℕ) (old new : M) (before : Wires) (wire : Wired) (source : SourceView) (sink : SinkView) (reads writes : ℕ)
      → AreLast wire.waits source.takes → Asks ask front → IfSome clock (λ told. now ≡ told) → now < 253402300800 → IsManner number ask manner
      → Goes answers result ask now manner old new before (wires (unread_of wire source) sink reads writes)
      → Turns answers clock (turn_for result manner) number front old new before (wires (unread_of wire source) sink reads writes) (wires source sink reads writes)
  turns_so (Ok _) ask now Stays number front old new before wire source sink reads writes last asks moment range manner (body, tale, made, whole) = record {
    x = with_front front (rest_of ask now Stays body tale);
    answered = record { is = record { asks = asks; moment = moment; range = range; manner = manner }; whole = whole.whole; made = made };
    stays = refl;
    part = body;
    is = refl;
    moved = whole.moved;
    still = whole.still;
  }
  turns_so (Ok _) ask now ClientCloses number front old new before wire source sink reads writes last asks moment range manner (body, tale, made, whole) =
      let x = rest_of ask now ClientCloses body tale in
      closes_so Over number front body old new x before wire source sink reads writes last whole.moved whole.still
      (inr (parts_so number front old new x wire (record { is = record { asks = asks; moment = moment; range = range; manner = manner }; whole = whole.whole; made = made })))
  turns_so (Ok _) ask now ServerCloses number front old new before wire source sink reads writes last asks moment range manner (body, tale, made, whole) =
      let x = rest_of ask now ServerCloses body tale in
      closes_so Closed number front body old new x before wire source sink reads writes last whole.moved whole.still
      (parts_so number front old new x wire (record { is = record { asks = asks; moment = moment; range = range; manner = manner }; whole = whole.whole; made = made }))
  turns_so (Err why) ask now manner number front old new before wire source sink reads writes last asks moment range is_manner (body, tale, came, short) =
      let x = rest_of ask now manner body tale in
      record {
        taken = front ++ (body ++ wire.waits);
        part = body ++ wire.waits;
        is = refl;
        out = short.out;
        moved = moved_shut body short.out before wire source sink reads writes last short.moved;
        counts = counts_alike (end_for why) before (unread_of wire source) source sink reads writes short.counts;
        ends = ends_cut why number old new (front ++ (body ++ wire.waits)) short.out before (wires source sink reads writes) (record {
          x = with_front front x;
          ahead = wire.waits;
          short = record {
            is = record { asks = asks; moment = moment; range = range; manner = is_manner };
            came = came;
            cut_off = cut_shut why x front short.out wire source sink reads writes before short.cut_off;
          };
          took = sym (append_assoc front body wire.waits);
        });
      }

  -- a refusal of a call moves nothing
  pub refused_goes : (result : Result (Unit {0}) Cut) (head : HeadParts) (size : ℕ) (why : Refusal) (now : ℕ) (manner : Manner) (same : M) (before after : Wires)
      → RefuseGoes result (refused head size why) why now manner before after → Goes answers result (refused head size why) now manner same same before after
  refused_goes (Ok _) head size why now manner same before after goes = (goes.0, Head (Refused why) ∷ [], (refl, refl), goes.1)
  refused_goes (Err e) head size why now manner same before after goes = (goes.0, Head (Refused why) ∷ [], inr (inl (refl, refl)), goes.1)

  -- no memory was found for the call
  pub starved : (number : ℕ) (front : List ℕ) (same : M) (wire : Wired) (source : SourceView) (sink : SinkView) (reads writes : ℕ)
      → AreLast wire.waits source.takes → TurnEnds answers clock NoMemory number front same same (wires (unread_of wire source) sink reads writes) (wires source sink reads writes)
  starved number front same wire source sink reads writes last = record {
    taken = front ++ wire.waits;
    part = wire.waits;
    is = refl;
    out = [];
    moved = moved_shut [] [] (wires (unread_of wire source) sink reads writes) wire source sink reads writes last
        (moved_none (unread_of wire source) sink reads writes);
    ends = inl (refl, refl);
    counts = (refl, refl);
  }

  -- the same of the turn that was answered
  pub turned : (turn : Turn) (result : Result (Unit {0}) Cut) (ask : Ask) (now : ℕ) (manner : Manner) (number : ℕ) (front : List ℕ) (old new : M) (before : Wires) (wire : Wired) (source : SourceView) (sink : SinkView) (reads writes : ℕ)
      → turn ≡ turn_for result manner → AreLast wire.waits source.takes → Asks ask front → IfSome clock (λ told. now ≡ told) → now < 253402300800 → IsManner number ask manner
      → Goes answers result ask now manner old new before (wires (unread_of wire source) sink reads writes)
      → Turns answers clock turn number front old new before (wires (unread_of wire source) sink reads writes) (wires source sink reads writes)
  turned turn result ask now manner number front old new before wire source sink reads writes is last asks moment range is_manner goes =
      subst (λ t. Turns answers clock t number front old new before (wires (unread_of wire source) sink reads writes) (wires source sink reads writes)) (sym is)
      (turns_so result ask now manner number front old new before wire source sink reads writes last asks moment range is_manner goes)

-- the next request may be read where the rest of this one was
pub rests_so : (P : Type 0) (turn : Turn) (result : Result (Unit {0}) Cut) (manner : Manner) (leaves : Bool) → turn ≡ turn_for result manner
    → (manner ≡ Stays → leaves ≡ false) → (leaves ≡ false → OnOk result P) → OnAnswered turn P
rests_so P turn (Ok value) Stays leaves is stays rests = subst (λ t. OnAnswered t P) (sym is) (rests (stays refl))
rests_so P turn (Ok value) ClientCloses leaves is stays rests = subst (λ t. OnAnswered t P) (sym is) tt
rests_so P turn (Ok value) ServerCloses leaves is stays rests = subst (λ t. OnAnswered t P) (sym is) tt
rests_so P turn (Err why) manner leaves is stays rests = subst (λ t. OnAnswered t P) (sym is) tt
