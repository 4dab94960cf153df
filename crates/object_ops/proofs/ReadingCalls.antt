-- The calls of one step of a reader, as the call of a step of an op.
use Rattle.std.proofs.Common.{◌≡◌, ◌⊎◌, ◌∙◌, ℕ, Bool, true, false, List, [], ◌∷◌, ◌++◌, All, length, slice_index_or, append-nil, append_assoc, inl, inr, ap, refl, subst, sym, arith}
use Rattle.std.specs.List.{flat_map}
use Rattle.std.proofs.lemmas.Bool.{cases_lt}
use Rattle.std.proofs.lemmas.List.{get_or_past}
use Rattle.drive_base.specs.View.{blank_view, view, view_at, views}
use Rattle.drive_base.specs.declared.drive.Drive.{Ghosts}
use Rattle.drive_base.specs.declared.plan.SetPlan.{SetPlan}
use Rattle.drive_base.proofs.ViewLemmas.{length-views, view_at-views}
use Rattle.get_read.specs.Account.{Account}
use Rattle.get_read.specs.Readers.{AreCalls, Told, all_calls, told_after}
use Rattle.get_read.proofs.ReaderLemmas.{no_turn, one_turn}
use Rattle.receipts.specs.Events.{IsQuiet, Log}
use Rattle.receipts.specs.Events.Event.{Called}
use Rattle.receipts.specs.Letters.{bytes_in}
use Rattle.receipts.proofs.GrowLemmas.{quiet_tales}
use Rattle.op_steps.specs.Claims.{Claim}
use Rattle.op_steps.specs.Words.{CallsOne}
use Rattle.op_steps.proofs.LookLemmas.{read_is_call}
use Rattle.object_ops.specs.ReadingTold.{AreLogged, IsLogged}
use Rattle.object_ops.proofs.ReadingSpans.{call_logged, event_logged, none_logged}
use Rattle.object_ops.proofs.ReadingTell.{none_all, one_all}

-- the calls of a step as events: one, or none
abbrev pub events_of : Account → Log
events_of [] = []
events_of (call ∷ more) = Called call.drive call.made ∷ []

pub events_quiet : (calls : Account) → All IsQuiet (events_of calls)
events_quiet [] = none_all IsQuiet
events_quiet (call ∷ more) = one_all IsQuiet (Called call.drive call.made) tt

-- the views of a drive that stayed
view_stays : {D : Type 0} (ghosts : Ghosts D) (old new : List D) (k : ℕ) → length new ≡ length old
    → ((d : D) → slice_index_or new k d ≡ slice_index_or old k d) → view_at (views ghosts new) k ≡ view_at (views ghosts old) k
view_stays ghosts [] [] k long stays = refl
view_stays ghosts [] (y ∷ new) k long stays = absurd (omega (arith, long))
view_stays {D} ghosts (x ∷ old) new k long stays = elim (cases_lt k (length (x ∷ old))) [
  | inl low ↦ view_at-views ghosts new k x (omega (arith, low, long)) ∙ (ap (view ghosts) (stays x) ∙ sym (view_at-views ghosts (x ∷ old) k x low))
  | inr past ↦ get_or_past (views ghosts new) k blank_view (let viewed = length-views ghosts new in omega (arith, viewed, long, past))
      ∙ sym (get_or_past (views ghosts (x ∷ old)) k blank_view (let viewed = length-views ghosts (x ∷ old) in omega (arith, viewed, past)))
]

module _ {D : Type 0} (ghosts : Ghosts D) (set : SetPlan) where
  -- the calls of a step are the one call of a step of an op, or it made none
  pub calls_so : (New : Claim → Log → Type 0) (calls : Account) (old new : List D) (claim : Claim) (log : Log) → length new ≡ length old
      → AreCalls ghosts set.out calls old new → New claim (log ++ events_of calls)
      → CallsOne New set claim log (views ghosts old) (views ghosts new) ⊎ (New claim log × (views ghosts new ≡ views ghosts old))
  calls_so New [] old new claim log long are stands = inr (subst (New claim) (append-nil log) stands, ap (views ghosts) are)
  calls_so New (call ∷ []) old new claim log long are stands = inl (
    claim,
    call.drive,
    call.made,
    stands,
    read_is_call set call.drive call.made (views ghosts old) (views ghosts new) claim (record {
      within = are.0.within;
      in_use = are.0.in_use;
      was_made = are.0.was;
      reading = are.0.reading;
      long = length-views ghosts new ∙ (long ∙ sym (length-views ghosts old));
      others = λ other apart. view_stays ghosts old new other long (λ d. are.1 other d apart);
    }),
  )
  calls_so New (one ∷ two ∷ more) old new claim log long are stands = absurd are

  -- and are in the log with it
  pub calls_logged : (account calls : Account) (log : Log) (old new : List D) → AreCalls ghosts set.out calls old new → AreLogged account log
      → AreLogged (account ++ calls) (log ++ events_of calls)
  calls_logged account [] log old new are logged = event_logged account log [] logged
  calls_logged account (call ∷ []) log old new are logged = call_logged account call log logged
  calls_logged account (one ∷ two ∷ more) log old new are logged = absurd are

  -- all of them
  pub all_logged_on : (turned : Bool) (told : Told) (calls : Account) (log : Log) (old new : List D) → AreCalls ghosts set.out calls old new
      → AreLogged (all_calls told) log → AreLogged (all_calls (told_after turned told calls)) (log ++ events_of calls)
  all_logged_on true told calls log old new are logged =
      subst (λ (a : Account). AreLogged a (log ++ events_of calls)) (sym (one_turn told calls)) (calls_logged (all_calls told) calls log old new are logged)
  all_logged_on false told calls log old new are logged =
      subst (λ (a : Account). AreLogged a (log ++ events_of calls)) (sym (no_turn told calls)) (calls_logged (all_calls told) calls log old new are logged)

  -- those up to the last turn, and those since
  pub logged_on : (turned : Bool) (told : Told) (calls : Account) (log : Log) (old new : List D) → AreCalls ghosts set.out calls old new
      → AreLogged (all_calls told) log → IsLogged told log → IsLogged (told_after turned told calls) (log ++ events_of calls)
  logged_on true told calls log old new are all_logged x = record {
    before = log ++ events_of calls;
    since = [];
    parts = sym (append-nil (log ++ events_of calls));
    logged = calls_logged (all_calls told) calls log old new are all_logged;
    logged_since = none_logged [];
    silent = refl;
  }
  logged_on false told calls log old new are all_logged x = record {
    before = x.before;
    since = x.since ++ events_of calls;
    parts = ap (λ l. l ++ events_of calls) x.parts ∙ append_assoc x.before x.since (events_of calls);
    logged = x.logged;
    logged_since = calls_logged told.since calls x.since old new are x.logged_since;
    silent = ap (flat_map bytes_in) (quiet_tales x.since (events_of calls) (events_quiet calls)) ∙ x.silent;
  }

-- a reader that turned last has all its calls in a log whatever was told since
pub logged_all : (told : Told) (log : Log) → told.since ≡ [] → AreLogged (all_calls told) log → IsLogged told log
logged_all told log turned logged = record {
  before = log;
  since = [];
  parts = sym (append-nil log);
  logged = subst (λ (a : Account). AreLogged a log) (ap (λ (s : Account). told.before ++ s) turned ∙ append-nil told.before) logged;
  logged_since = subst (λ (a : Account). AreLogged a []) (sym turned) (none_logged []);
  silent = refl;
}
