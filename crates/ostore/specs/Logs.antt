-- The logs of connections, one for each call of their desk, over any desk whose answers have one.
use Rattle.std.specs.Prelude.{ℕ, ◌+◌, List, [], ◌∷◌, ◌++◌, length, Option, Result, Ok, Err}
use Rattle.std.proofs.Common.{inl, inr}
use Rattle.audit_trail.specs.declared.entry.Entry.{Entry}
use Rattle.call_types.specs.declared.feed.Cut.{Cut}
use Rattle.call_types.specs.declared.feed.Cut.TheVariants as cut
use Rattle.desk_base.specs.Answering.{Task}
use Rattle.desk_base.specs.Telling.{Telling}
use Rattle.drive_base.specs.declared.drive.Drive.{Ghosts}
use Rattle.receipts.specs.Events.{Log}
use Rattle.serve_loop.specs.Deeds.{CameTo, IsCut, IsMade, Wires}
use Rattle.serve_loop.specs.Doors.{AreVisited, DoorView, ServedSince, Sight, Visit, wires_by}
use Rattle.serve_loop.specs.Exchanges.{Ask, Exchange, asked, refused, unread}
use Rattle.serve_loop.specs.Session.{Cuts, EndsSo, Parts, Run, Session}
use Rattle.serve_loop.specs.declared.ends.ConnectionEnd.{ConnectionEnd}
use Rattle.serve_loop.specs.declared.ends.ConnectionEnd.TheVariants.{Over, Closed, InputCut, ReadFault, WriteFault, ReplyCut, NoMemory}
use Rattle.serve_loop.specs.declared.manner.Manner.{Manner}
use Rattle.store_shared.specs.Answers.{PlainAnswers}
use Rattle.store_shared.specs.Sections.{AnswersAmong, TurnedSection}
use Rattle.store_shared.specs.declared.pass.PlainPass.{PlainPass}
use Rattle.store_shared.specs.declared.op_desk.Receipt.{Receipt}

-- what a desk answers, over moments M, with receipts R
abbrev pub Answering : (M R : Type 0) → Type 1
Answering M R = Task → M → M → List ℕ → List Telling → Result R Cut → Type 0

-- the log that each answer of a desk has
abbrev pub LogOf : {M R : Type 0} → Answering M R → Type 0
LogOf {M} {R} answers = (task : Task) (before after : M) (body : List ℕ) (tale : List Telling) (result : Result R Cut)
    → answers task before after body tale result → Log

module _ {M R : Type 0} (answers : Answering M R) (log_of : LogOf answers) where
  -- those of an answer that was made: that of the desk's call, if it was the desk that made it
  abbrev pub made_logs : (ask : Ask) (now : ℕ) (body : List ℕ) (tale : List Telling) (old new : M)
      → IsMade answers ask now body tale old new → List Log
  made_logs (unread why) now body tale old new made = []
  made_logs (refused head size why) now body tale old new made = []
  made_logs (asked head size call) now body tale old new (receipt, served) =
      log_of (record { call = call; now = now }) old new served.taken tale (Ok receipt) served.did ∷ []

  -- those of a call that was cut
  abbrev pub cut_call_logs : (why : Cut) (ask : Ask) (now : ℕ) (body : List ℕ) (tale : List Telling) (old new : M)
      → IsCut answers why ask now body tale old new → List Log
  cut_call_logs why (unread refusal) now body tale old new is_cut = absurd is_cut
  cut_call_logs why (refused head size refusal) now body tale old new is_cut = absurd is_cut
  cut_call_logs why (asked head size call) now body tale old new (first, by, served) =
      log_of (record { call = call; now = now }) old new served.taken tale (Err first) served.did ∷ []

  -- those of a request that was cut
  abbrev pub came_logs : (why : Cut) (x : Exchange) (old new : M) → CameTo answers why x old new → List Log
  came_logs why x old new (inl nothing) = []
  came_logs why x old new (inr (inl made)) = made_logs x.ask x.now x.body x.tale old new made
  came_logs why x old new (inr (inr is_cut)) = cut_call_logs why x.ask x.now x.body x.tale old new is_cut

  module _ (clock : Option ℕ) where
    -- those of exchanges one after another
    abbrev pub run_logs : (number : ℕ) (old : M) (xs : List Exchange) (new : M) → Run answers clock number old xs new → List Log
    run_logs number old [] new run = []
    run_logs number old (x ∷ xs) new (mid, answered, stays, rest) =
        made_logs x.ask x.now x.body x.tale old mid answered.made ++ run_logs (number + 1) mid xs new rest

    -- those of the last exchange, behind which the connection closes, and of one that was cut
    abbrev pub parts_logs : (manner : Manner) (number : ℕ) (old new : M) (taken out : List ℕ)
        → Parts answers clock manner number old new taken out → List Log
    parts_logs manner number old new taken out parts =
        made_logs parts.x.ask parts.x.now parts.x.body parts.x.tale old new parts.answered.made

    abbrev pub cuts_logs : (why : Cut) (number : ℕ) (old new : M) (taken out : List ℕ) (before after : Wires)
        → Cuts answers clock why number old new taken out before after → List Log
    cuts_logs why number old new taken out before after cuts = came_logs why cuts.x old new cuts.short.came

    -- those of the end
    abbrev pub end_logs : (end : ConnectionEnd) (number : ℕ) (old new : M) (taken out : List ℕ) (before after : Wires)
        → EndsSo answers clock end number old new taken out before after → List Log
    end_logs Over number old new taken out before after (inl still) = []
    end_logs Over number old new taken out before after (inr parts) = parts_logs _ number old new taken out parts
    end_logs Closed number old new taken out before after parts = parts_logs _ number old new taken out parts
    end_logs InputCut number old new taken out before after (inl still) = []
    end_logs InputCut number old new taken out before after (inr (read, stated, cuts)) = cuts_logs _ number old new taken out before after cuts
    end_logs ReadFault number old new taken out before after (inl still) = []
    end_logs ReadFault number old new taken out before after (inr cuts) = cuts_logs _ number old new taken out before after cuts
    end_logs WriteFault number old new taken out before after cuts = cuts_logs _ number old new taken out before after cuts
    end_logs (ReplyCut whys) number old new taken out before after cuts = cuts_logs _ number old new taken out before after cuts
    end_logs NoMemory number old new taken out before after (inl still) = []
    end_logs NoMemory number old new taken out before after (inr cuts) = cuts_logs _ number old new taken out before after cuts

    -- those of a whole connection
    abbrev pub session_logs : (old new : M) (end : ConnectionEnd) (before after : Wires)
        → Session answers clock old new end before after → List Log
    session_logs old new end before after session =
        run_logs 0 old session.exchanges session.stop session.run
        ++ end_logs end (length session.exchanges) session.stop new session.taken session.out before after session.ends

    module _ {S T : Type 0} (seen : Sight S T) where
      -- those of connections one after another
      abbrev pub visits_logs : (old : M) (visits : List (Visit S T)) (new : M) → AreVisited answers clock seen old visits new → List Log
      visits_logs old [] new same = []
      visits_logs old (visit ∷ visits) new (mid, visited, rest) =
          session_logs old mid visit.end (wires_by seen visit.source visit.sink) (wires_by seen visit.source_after visit.sink_after) visited
          ++ visits_logs mid visits new rest

      -- those of all connections of a door
      abbrev pub served_logs : {H : Type 0} {starved : ℕ} (holds : M → H) (old now : M) (start here : DoorView S T) → ServedSince answers clock seen holds old now start here starved
          → List Log
      served_logs holds old now start here served = visits_logs old served.visits now served.visited

module _ {D A : Type 0} (ghosts : Ghosts D) (entries : A → Option (List Entry)) (count : A → ℕ) where
  -- what the desk of one caller answers, and its log
  abbrev pub desk_answers : Answering (PlainPass D A) Receipt
  desk_answers task before after body tale result = PlainAnswers ghosts entries count task before after body tale result

  abbrev pub desk_log : LogOf desk_answers
  desk_log task before after body tale result answers = answers.log

  -- the logs of a connection by `pipe`
  abbrev pub pipe_logs : (clock : Option ℕ) (old new : PlainPass D A) (end : ConnectionEnd) (before after : Wires)
      → Session desk_answers clock old new end before after → List Log
  pipe_logs clock old new end before after session = session_logs desk_answers desk_log clock old new end before after session

  -- the log of what the desk of several callers answers, whose sections are among these
  abbrev pub among_log : (made : ℕ → List (TurnedSection D A)) → LogOf (AnswersAmong ghosts entries count made)
  among_log made task before after body tale result answers = answers.2.did.log
