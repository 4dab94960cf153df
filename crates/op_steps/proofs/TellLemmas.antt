-- What is paid once a reply without a body is told.
use Rattle.std.proofs.Common.{◌≡◌, ◌<◌, ◌∙◌, zero, suc, [], ◌∷◌, ◌++◌, All, Option, Some, None, append-nil, inl, inr, refl, sym, ap, ap₂, arith}
use Rattle.std.proofs.lemmas.Grind.{flat_map-append}
use Rattle.call_types.specs.declared.feed.Cut.{Cut}
use Rattle.call_types.specs.declared.feed.Cut.TheVariants as cut_of
use Rattle.call_types.specs.declared.reply.Reply.{Reply}
use Rattle.desk_base.specs.Answering.{Task, bytes_after}
use Rattle.desk_base.specs.Telling.{Effect, Telling}
use Rattle.desk_base.specs.Telling.Telling.{Head as TheHead}
use Rattle.drive_base.specs.declared.plan.SetPlan.{SetPlan}
use Rattle.receipts.specs.Events.{Event, IsUntold, Log, cut_in, cuts_of, tale_of, told_in}
use Rattle.receipts.specs.Events.Event.{BarredFrom, Called, Fed, Told, Turned}
use Rattle.receipts.specs.Owes.{OwesReply}
use Rattle.receipts.specs.Paying.{DidNoMore, Pays}
use Rattle.receipts.specs.Paying.Outcome.{CutOff, Replied}
use Rattle.receipts.specs.Spans.{GivesBytes}
use Rattle.op_steps.specs.Moves.{TellMoves}
use Rattle.op_steps.specs.Ready.{IsReady}
use Rattle.op_steps.specs.Store.{TellerSeen}

-- of one event that tells nothing all is untold
pub one_untold : (event : Event) → IsUntold event → All IsUntold (event ∷ [])
one_untold event none zero d l = none
one_untold event none (suc k) d l = let below : suc k < 1 = l in absurd (omega arith)

-- nothing was told in a log that is untold
none_in : (event : Event) → IsUntold event → told_in event ≡ []
none_in (Turned k made shown) none = refl
none_in (BarredFrom k why) none = refl
none_in (Called k made) none = refl
none_in (Fed bytes cut) none = refl
none_in (Told telling None) none = absurd none
none_in (Told telling (Some cut)) none = refl

pub none_told : (log : Log) → All IsUntold log → tale_of log ≡ []
none_told [] none = refl
none_told (event ∷ log) none = ap₂ (λ a b. a ++ b) (none_in event (none zero event (omega arith)))
    (none_told log (λ k d l. none (suc k) d (omega (arith, l))))

-- with one event more
tale_after : (log : Log) (event : Event) → All IsUntold log → tale_of (log ++ event ∷ []) ≡ told_in event
tale_after log event none = flat_map-append told_in log (event ∷ []) ∙ (ap (λ l. l ++ (told_in event ++ [])) (none_told log none) ∙ append-nil (told_in event))

pub cuts_after : (log : Log) (event : Event) → cuts_of log ≡ [] → cuts_of (log ++ event ∷ []) ≡ cut_in event
cuts_after log event none = flat_map-append cut_in log (event ∷ []) ∙ (ap (λ l. l ++ (cut_in event ++ [])) none ∙ append-nil (cut_in event))

-- want of memory pays for itself, where nothing was told and nothing done that no reply tells
pub none_pays : (set : SetPlan) (task : Task) (log : Log) → cuts_of log ≡ [] → tale_of log ≡ [] → DidNoMore set task log
    → Pays set task (Some cut_of.NoMemory) log
none_pays set task log cuts tale did =
    record { outcome = CutOff cut_of.NoMemory []; ends = refl; tells = sym tale; owes = (inl (refl, did), inl cuts) }

-- what was done is what a reply tells that is owed, but not told
did_owed : (set : SetPlan) (task : Task) (reply : Reply) (log : Log) (telling : Telling) (cut : Option Cut) → OwesReply set task reply log
    → DidNoMore set task (log ++ Told telling cut ∷ [])
did_owed set task reply log telling cut owed = inr (reply, log, Told telling cut ∷ [], refl, owed, refl)

-- the reply was told, or why it was not
pub told_pays : {T : Type 0} (takes breaks : Effect T) (set : SetPlan) (task : Task) (reply : Reply) (log : Log) (cut : Option Cut) (old new : TellerSeen T)
    → 0 ≡ bytes_after reply task.call → ((more : Log) → GivesBytes set task.call reply [] more)
    → IsReady set task reply log → TellMoves takes breaks (TheHead reply) cut old new
    → Pays set task cut (log ++ Told (TheHead reply) cut ∷ [])
told_pays takes breaks set task reply log None old new whole given ready moves = record {
  outcome = Replied reply [];
  ends = refl;
  tells = ([], tale_after log (Told (TheHead reply) None) ready.untold, refl);
  owes = record {
    front = record {
      was_owed = record { before = log; rest = []; parts = refl; first = ready.untold; owed = ready.owed; over = refl; still = refl };
      given = given (log ++ Told (TheHead reply) None ∷ []);
    };
    whole = whole;
    uncut = cuts_after log (Told (TheHead reply) None) ready.uncut;
  };
}
told_pays takes breaks set task reply log (Some cut_of.ReadFault) old new whole given ready moves = absurd moves
told_pays takes breaks set task reply log (Some (cut_of.BodyCut read stated)) old new whole given ready moves = absurd moves
told_pays takes breaks set task reply log (Some cut_of.WriteFault) old new whole given ready moves = record {
  outcome = CutOff cut_of.WriteFault [];
  ends = refl;
  tells = sym (tale_after log (Told (TheHead reply) (Some cut_of.WriteFault)) ready.untold);
  owes = (
    inl (
      refl,
      reply,
      record {
        before = log;
        rest = [];
        parts = refl;
        first = ready.untold;
        last = λ k d l. let below : k < 0 = l in absurd (omega arith);
        owed = ready.owed;
        no_bytes = refl;
        no_sections = refl;
      },
    ),
    cuts_after log (Told (TheHead reply) (Some cut_of.WriteFault)) ready.uncut,
  );
}
told_pays takes breaks set task reply log (Some (cut_of.ShardCut whys)) old new whole given ready moves = absurd moves
told_pays takes breaks set task reply log (Some cut_of.NoMemory) old new whole given ready moves = record {
  outcome = CutOff cut_of.NoMemory [];
  ends = refl;
  tells = sym (tale_after log (Told (TheHead reply) (Some cut_of.NoMemory)) ready.untold);
  owes = (
    inl (refl, did_owed set task reply log (TheHead reply) (Some cut_of.NoMemory) ready.owed),
    inr (cuts_after log (Told (TheHead reply) (Some cut_of.NoMemory)) ready.uncut),
  );
}
