-- What the calls of connections left, taken together: each answer says what its call left, and that this is among all that was left.
use Rattle.std.proofs.Common.{◌≡◌, ◌<◌, ◌++◌, ◌+◌, ℕ, List, [], ◌∷◌, Option, Result, Ok, Err, Contains, inl, inr, length, subst, sym}
use Rattle.std.proofs.lemmas.List.Elements.{Contains-append_left, Contains-append_right}
use Rattle.call_types.specs.declared.feed.Cut.{Cut}
use Rattle.call_types.specs.declared.feed.Cut.TheVariants as cut
use Rattle.desk_base.specs.Answering.{Task}
use Rattle.desk_base.specs.Telling.{Telling}
use Rattle.serve_loop.specs.Deeds.{Answered, CameTo, IsCut, IsMade, IsServed, Wires}
use Rattle.serve_loop.specs.Doors.{AreVisited, IsVisited, Sight, Visit, wires_by}
use Rattle.serve_loop.specs.Exchanges.{Ask, Exchange, asked, refused, unread}
use Rattle.serve_loop.specs.Session.{Cuts, EndsSo, Parts, Run, Session}
use Rattle.serve_loop.specs.declared.ends.ConnectionEnd.{ConnectionEnd}
use Rattle.serve_loop.specs.declared.ends.ConnectionEnd.TheVariants.{Over, Closed, InputCut, ReadFault, WriteFault, ReplyCut, NoMemory}
use Rattle.serve_loop.specs.declared.manner.Manner.{Manner}

-- what was left in each of 64 places is among what is there
abbrev pub Within : {X : Type 0} → (ℕ → List X) → (ℕ → List X) → Type 0
Within {X} some all = (k : ℕ) → k < 64 → (x : X) → Contains (some k) x → Contains (all k) x

module _ {M R X : Type 0} (answers : Task → M → M → List ℕ → List Telling → Result R Cut → Type 0)
    (among : (ℕ → List X) → Task → M → M → List ℕ → List Telling → Result R Cut → Type 0) (Did : (ℕ → List X) → M → M → Type 0) where
  -- from one moment to another so much was left, and where it is among all that was left, this is so
  pub record Makes (P : (ℕ → List X) → Type 0) (old new : M) : Type 0 where
    pub made : ℕ → List X
    pub did : Did made old new
    pub shows : (all : ℕ → List X) → Within made all → P all

  module _ (none : (m : M) → Did (λ k. []) m m) (both : (a b : ℕ → List X) (old mid new : M) → Did a old mid → Did b mid new → Did (λ k. a k ++ b k) old new)
      (one : (task : Task) (old new : M) (body : List ℕ) (tale : List Telling) (result : Result R Cut) → answers task old new body tale result
      → Makes (λ all. among all task old new body tale result) old new) where
    -- nothing was left
    still : (P : (ℕ → List X) → Type 0) (old new : M) → new ≡ old → ((all : ℕ → List X) → P all) → Makes P old new
    still P old new same holds = subst (λ m. Makes P old m) (sym same) (record { made = λ k. []; did = none old; shows = λ all within. holds all })

    -- the same for another reason
    so : (P Q : (ℕ → List X) → Type 0) (old new : M) → ((all : ℕ → List X) → P all → Q all) → Makes P old new → Makes Q old new
    so P Q old new then_ x = record { made = x.made; did = x.did; shows = λ all within. then_ all (x.shows all within) }

    -- one after another
    then_both : (P Q S : (ℕ → List X) → Type 0) (old mid new : M) → ((all : ℕ → List X) → P all → Q all → S all) → Makes P old mid → Makes Q mid new → Makes S old new
    then_both P Q S old mid new then_ a b = record {
      made = λ k. a.made k ++ b.made k;
      did = both a.made b.made old mid new a.did b.did;
      shows = λ all within. then_ all
          (a.shows all (λ k below x here. within k below x (Contains-append_left (a.made k) (b.made k) x here)))
          (b.shows all (λ k below x here. within k below x (Contains-append_right (a.made k) (b.made k) x here)));
    }

    -- an answer that was made
    made_made : (ask : Ask) (now : ℕ) (body : List ℕ) (tale : List Telling) (old new : M) → IsMade answers ask now body tale old new
        → Makes (λ all. IsMade (among all) ask now body tale old new) old new
    made_made (unread why) now body tale old new made = still (λ all. IsMade (among all) (unread why) now body tale old new) old new made.1 (λ all. made)
    made_made (refused head size why) now body tale old new made =
        still (λ all. IsMade (among all) (refused head size why) now body tale old new) old new made.1 (λ all. made)
    made_made (asked head size call) now body tale old new (receipt, served) =
        so (λ all. among all (record { call = call; now = now }) old new served.taken tale (Ok receipt)) (λ all. IsMade (among all) (asked head size call) now body tale old new) old new
        (λ all did. (receipt, record { taken = served.taken; rest = served.rest; are = served.are; whole = served.whole; did = did }))
        (one (record { call = call; now = now }) old new served.taken tale (Ok receipt) served.did)

    -- a call that was cut
    made_cut : (why : Cut) (ask : Ask) (now : ℕ) (body : List ℕ) (tale : List Telling) (old new : M) → IsCut answers why ask now body tale old new
        → Makes (λ all. IsCut (among all) why ask now body tale old new) old new
    made_cut why (unread refusal) now body tale old new is_cut = absurd is_cut
    made_cut why (refused head size refusal) now body tale old new is_cut = absurd is_cut
    made_cut why (asked head size call) now body tale old new (first, reason, served) =
        so (λ all. among all (record { call = call; now = now }) old new served.taken tale (Err first)) (λ all. IsCut (among all) why (asked head size call) now body tale old new) old new
        (λ all did. (first, reason, record { taken = served.taken; rest = served.rest; are = served.are; whole = served.whole; did = did }))
        (one (record { call = call; now = now }) old new served.taken tale (Err first) served.did)

    -- a request that was cut
    made_came : (why : Cut) (x : Exchange) (old new : M) → CameTo answers why x old new → Makes (λ all. CameTo (among all) why x old new) old new
    made_came why x old new (inl nothing) = still (λ all. CameTo (among all) why x old new) old new nothing.1 (λ all. inl nothing)
    made_came why x old new (inr (inl made)) =
        so (λ all. IsMade (among all) x.ask x.now x.body x.tale old new) (λ all. CameTo (among all) why x old new) old new (λ all m. inr (inl m))
        (made_made x.ask x.now x.body x.tale old new made)
    made_came why x old new (inr (inr is_cut)) =
        so (λ all. IsCut (among all) why x.ask x.now x.body x.tale old new) (λ all. CameTo (among all) why x old new) old new (λ all c. inr (inr c))
        (made_cut why x.ask x.now x.body x.tale old new is_cut)

    module _ (clock : Option ℕ) where
      -- a request that was answered
      made_answered : (number : ℕ) (old : M) (x : Exchange) (new : M) → Answered answers clock number old x new
          → Makes (λ all. Answered (among all) clock number old x new) old new
      made_answered number old x new answered =
          so (λ all. IsMade (among all) x.ask x.now x.body x.tale old new) (λ all. Answered (among all) clock number old x new) old new
          (λ all m. record { is = answered.is; whole = answered.whole; made = m }) (made_made x.ask x.now x.body x.tale old new answered.made)

      -- exchanges, one after another
      made_run : (number : ℕ) (old : M) (xs : List Exchange) (new : M) → Run answers clock number old xs new
          → Makes (λ all. Run (among all) clock number old xs new) old new
      made_run number old [] new run = still (λ all. Run (among all) clock number old [] new) old new (sym run) (λ all. run)
      made_run number old (x ∷ xs) new (mid, answered, stays, rest) =
          then_both (λ all. Answered (among all) clock number old x mid) (λ all. Run (among all) clock (number + 1) mid xs new)
          (λ all. Run (among all) clock number old (x ∷ xs) new) old mid new (λ all a r. (mid, a, stays, r)) (made_answered number old x mid answered)
          (made_run (number + 1) mid xs new rest)

      -- the last exchange
      made_parts : (manner : Manner) (number : ℕ) (old new : M) (taken out : List ℕ) → Parts answers clock manner number old new taken out
          → Makes (λ all. Parts (among all) clock manner number old new taken out) old new
      made_parts manner number old new taken out parts =
          so (λ all. Answered (among all) clock number old parts.x new) (λ all. Parts (among all) clock manner number old new taken out) old new
          (λ all a. record { x = parts.x; answered = a; manner_is = parts.manner_is; ahead = parts.ahead; took = parts.took; gave = parts.gave })
          (made_answered number old parts.x new parts.answered)

      -- one that was cut
      made_cuts : (why : Cut) (number : ℕ) (old new : M) (taken out : List ℕ) (before after : Wires) → Cuts answers clock why number old new taken out before after
          → Makes (λ all. Cuts (among all) clock why number old new taken out before after) old new
      made_cuts why number old new taken out before after cuts =
          so (λ all. CameTo (among all) why cuts.x old new) (λ all. Cuts (among all) clock why number old new taken out before after) old new
          (λ all c. record {
            x = cuts.x;
            ahead = cuts.ahead;
            short = record { is = cuts.short.is; came = c; cut_off = cuts.short.cut_off };
            took = cuts.took;
          })
          (made_came why cuts.x old new cuts.short.came)

      -- the end
      made_end : (end : ConnectionEnd) (number : ℕ) (old new : M) (taken out : List ℕ) (before after : Wires)
          → EndsSo answers clock end number old new taken out before after
          → Makes (λ all. EndsSo (among all) clock end number old new taken out before after) old new
      made_end Over number old new taken out before after (inl quiet) =
          still (λ all. EndsSo (among all) clock Over number old new taken out before after) old new quiet.2 (λ all. inl quiet)
      made_end Over number old new taken out before after (inr parts) =
          so _ (λ all. EndsSo (among all) clock Over number old new taken out before after) old new (λ all p. inr p) (made_parts _ number old new taken out parts)
      made_end Closed number old new taken out before after parts = made_parts _ number old new taken out parts
      made_end InputCut number old new taken out before after (inl quiet) =
          still (λ all. EndsSo (among all) clock InputCut number old new taken out before after) old new quiet.2 (λ all. inl quiet)
      made_end InputCut number old new taken out before after (inr (read, stated, cuts)) =
          so _ (λ all. EndsSo (among all) clock InputCut number old new taken out before after) old new (λ all c. inr (read, stated, c))
          (made_cuts (cut.BodyCut read stated) number old new taken out before after cuts)
      made_end ReadFault number old new taken out before after (inl quiet) =
          still (λ all. EndsSo (among all) clock ReadFault number old new taken out before after) old new quiet.1 (λ all. inl quiet)
      made_end ReadFault number old new taken out before after (inr cuts) =
          so _ (λ all. EndsSo (among all) clock ReadFault number old new taken out before after) old new (λ all c. inr c)
          (made_cuts cut.ReadFault number old new taken out before after cuts)
      made_end WriteFault number old new taken out before after cuts = made_cuts cut.WriteFault number old new taken out before after cuts
      made_end (ReplyCut whys) number old new taken out before after cuts = made_cuts (cut.ShardCut whys) number old new taken out before after cuts
      made_end NoMemory number old new taken out before after (inl quiet) =
          still (λ all. EndsSo (among all) clock NoMemory number old new taken out before after) old new quiet.1 (λ all. inl quiet)
      made_end NoMemory number old new taken out before after (inr cuts) =
          so _ (λ all. EndsSo (among all) clock NoMemory number old new taken out before after) old new (λ all c. inr c)
          (made_cuts cut.NoMemory number old new taken out before after cuts)

      -- a whole connection
      made_session : (old new : M) (end : ConnectionEnd) (before after : Wires) → Session answers clock old new end before after
          → Makes (λ all. Session (among all) clock old new end before after) old new
      made_session old new end before after session =
          then_both (λ all. Run (among all) clock 0 old session.exchanges session.stop)
          (λ all. EndsSo (among all) clock end (length session.exchanges) session.stop new session.taken session.out before after)
          (λ all. Session (among all) clock old new end before after) old session.stop new
          (λ all r e. record {
            exchanges = session.exchanges;
            stop = session.stop;
            run = r;
            taken = session.taken;
            out = session.out;
            moved = session.moved;
            ends = e;
            counts = session.counts;
          })
          (made_run 0 old session.exchanges session.stop session.run)
          (made_end end (length session.exchanges) session.stop new session.taken session.out before after session.ends)

      -- connections, one after another
      pub made_visits : {S T : Type 0} (seen : Sight S T) (old : M) (visits : List (Visit S T)) (new : M) → AreVisited answers clock seen old visits new
          → Makes (λ all. AreVisited (among all) clock seen old visits new) old new
      made_visits seen old [] new same = still (λ all. AreVisited (among all) clock seen old [] new) old new (sym same) (λ all. same)
      made_visits seen old (visit ∷ visits) new (mid, visited, rest) =
          then_both (λ all. IsVisited (among all) clock seen old visit mid) (λ all. AreVisited (among all) clock seen mid visits new)
          (λ all. AreVisited (among all) clock seen old (visit ∷ visits) new) old mid new (λ all v r. (mid, v, r))
          (made_session old mid visit.end (wires_by seen visit.source visit.sink) (wires_by seen visit.source_after visit.sink_after) visited)
          (made_visits seen mid visits new rest)
