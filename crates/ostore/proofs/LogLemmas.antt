-- What each call of a desk leads to by its log, connections lead to by theirs.
use Rattle.std.proofs.Common.{◌≡◌, ◌+◌, ℕ, List, [], ◌∷◌, ◌++◌, Option, Result, Ok, Err, length, inl, inr, subst, sym}
use Rattle.call_types.specs.declared.feed.Cut.{Cut}
use Rattle.call_types.specs.declared.feed.Cut.TheVariants as cut
use Rattle.desk_base.specs.Answering.{Task}
use Rattle.desk_base.specs.Telling.{Telling}
use Rattle.receipts.specs.Events.{Log}
use Rattle.serve_loop.specs.Deeds.{CameTo, IsCut, IsMade, Wires}
use Rattle.serve_loop.specs.Doors.{AreVisited, DoorView, ServedSince, Sight, Visit, wires_by}
use Rattle.serve_loop.specs.Exchanges.{Ask, Exchange, asked, refused, unread}
use Rattle.serve_loop.specs.Session.{EndsSo, Run, Session}
use Rattle.serve_loop.specs.declared.ends.ConnectionEnd.{ConnectionEnd}
use Rattle.serve_loop.specs.declared.ends.ConnectionEnd.TheVariants.{Over, Closed, InputCut, ReadFault, WriteFault, ReplyCut, NoMemory}
use Rattle.ostore.specs.Logs.{Answering, LogOf, came_logs, cut_call_logs, end_logs, made_logs, run_logs, served_logs, session_logs, visits_logs}

-- a relation of logs, and of the moments before and after them, that holds where nothing is served, and goes on over logs one behind another
module _ {M R : Type 0} (answers : Answering M R) (log_of : LogOf answers) (Leads : List Log → M → M → Type 0) (none : (m : M) → Leads [] m m)
    (both : (one two : List Log) (old mid new : M) → Leads one old mid → Leads two mid new → Leads (one ++ two) old new)
    (by_one : (task : Task) (old new : M) (body : List ℕ) (tale : List Telling) (result : Result R Cut) (did : answers task old new body tale result)
    → Leads (log_of task old new body tale result did ∷ []) old new) where
  -- nothing was served
  leads_none : (old new : M) → new ≡ old → Leads [] old new
  leads_none old new same = subst (λ m. Leads [] old m) (sym same) (none old)

  -- an answer that was made
  leads_made : (ask : Ask) (now : ℕ) (body : List ℕ) (tale : List Telling) (old new : M) (made : IsMade answers ask now body tale old new)
      → Leads (made_logs answers log_of ask now body tale old new made) old new
  leads_made (unread why) now body tale old new made = leads_none old new made.1
  leads_made (refused head size why) now body tale old new made = leads_none old new made.1
  leads_made (asked head size call) now body tale old new (receipt, served) =
      by_one (record { call = call; now = now }) old new served.taken tale (Ok receipt) served.did

  -- a call that was cut
  leads_cut : (why : Cut) (ask : Ask) (now : ℕ) (body : List ℕ) (tale : List Telling) (old new : M) (is_cut : IsCut answers why ask now body tale old new)
      → Leads (cut_call_logs answers log_of why ask now body tale old new is_cut) old new
  leads_cut why (unread refusal) now body tale old new is_cut = absurd is_cut
  leads_cut why (refused head size refusal) now body tale old new is_cut = absurd is_cut
  leads_cut why (asked head size call) now body tale old new (first, reason, served) =
      by_one (record { call = call; now = now }) old new served.taken tale (Err first) served.did

  -- a request that was cut
  leads_came : (why : Cut) (x : Exchange) (old new : M) (came : CameTo answers why x old new)
      → Leads (came_logs answers log_of why x old new came) old new
  leads_came why x old new (inl nothing) = leads_none old new nothing.1
  leads_came why x old new (inr (inl made)) = leads_made x.ask x.now x.body x.tale old new made
  leads_came why x old new (inr (inr is_cut)) = leads_cut why x.ask x.now x.body x.tale old new is_cut

  module _ (clock : Option ℕ) where
    -- exchanges, one after another
    leads_run : (number : ℕ) (old : M) (xs : List Exchange) (new : M) (run : Run answers clock number old xs new)
        → Leads (run_logs answers log_of clock number old xs new run) old new
    leads_run number old [] new run = leads_none old new (sym run)
    leads_run number old (x ∷ xs) new (mid, answered, stays, rest) =
        both (made_logs answers log_of x.ask x.now x.body x.tale old mid answered.made) (run_logs answers log_of clock (number + 1) mid xs new rest)
        old mid new (leads_made x.ask x.now x.body x.tale old mid answered.made) (leads_run (number + 1) mid xs new rest)

    -- the end
    leads_end : (end : ConnectionEnd) (number : ℕ) (old new : M) (taken out : List ℕ) (before after : Wires)
        (ends : EndsSo answers clock end number old new taken out before after)
        → Leads (end_logs answers log_of clock end number old new taken out before after ends) old new
    leads_end Over number old new taken out before after (inl still) = leads_none old new still.2
    leads_end Over number old new taken out before after (inr parts) =
        leads_made parts.x.ask parts.x.now parts.x.body parts.x.tale old new parts.answered.made
    leads_end Closed number old new taken out before after parts =
        leads_made parts.x.ask parts.x.now parts.x.body parts.x.tale old new parts.answered.made
    leads_end InputCut number old new taken out before after (inl still) = leads_none old new still.2
    leads_end InputCut number old new taken out before after (inr (read, stated, cuts)) = leads_came (cut.BodyCut read stated) cuts.x old new cuts.short.came
    leads_end ReadFault number old new taken out before after (inl still) = leads_none old new still.1
    leads_end ReadFault number old new taken out before after (inr cuts) = leads_came cut.ReadFault cuts.x old new cuts.short.came
    leads_end WriteFault number old new taken out before after cuts = leads_came cut.WriteFault cuts.x old new cuts.short.came
    leads_end (ReplyCut whys) number old new taken out before after cuts = leads_came (cut.ShardCut whys) cuts.x old new cuts.short.came
    leads_end NoMemory number old new taken out before after (inl still) = leads_none old new still.1
    leads_end NoMemory number old new taken out before after (inr cuts) = leads_came cut.NoMemory cuts.x old new cuts.short.came

    -- a whole connection
    pub leads_session : (old new : M) (end : ConnectionEnd) (before after : Wires) (session : Session answers clock old new end before after)
        → Leads (session_logs answers log_of clock old new end before after session) old new
    leads_session old new end before after session =
        both (run_logs answers log_of clock 0 old session.exchanges session.stop session.run)
        (end_logs answers log_of clock end (length session.exchanges) session.stop new session.taken session.out before after session.ends)
        old session.stop new (leads_run 0 old session.exchanges session.stop session.run)
        (leads_end end (length session.exchanges) session.stop new session.taken session.out before after session.ends)

    module _ {S T : Type 0} (seen : Sight S T) where
      -- connections, one after another
      leads_visits : (old : M) (visits : List (Visit S T)) (new : M) (visited : AreVisited answers clock seen old visits new)
          → Leads (visits_logs answers log_of clock seen old visits new visited) old new
      leads_visits old [] new same = leads_none old new (sym same)
      leads_visits old (visit ∷ visits) new (mid, visited, rest) =
          let before = wires_by seen visit.source visit.sink in
          let after = wires_by seen visit.source_after visit.sink_after in
          both (session_logs answers log_of clock old mid visit.end before after visited) (visits_logs answers log_of clock seen mid visits new rest)
          old mid new (leads_session old mid visit.end before after visited) (leads_visits mid visits new rest)

      -- all connections of a door
      pub leads_served : {H : Type 0} {starved : ℕ} (holds : M → H) (old now : M) (start here : DoorView S T) (served : ServedSince answers clock seen holds old now start here starved)
          → Leads (served_logs answers log_of clock seen holds old now start here served) old now
      leads_served holds old now start here served = leads_visits old served.visits now served.visited
