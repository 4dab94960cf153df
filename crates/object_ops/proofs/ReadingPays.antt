-- What the log of a read has after the head of its reply and after each piece, and what is paid then.
use Rattle.std.proofs.Common.{◌≡◌, ◌≤◌, ◌+◌, ◌∙◌, ℕ, Bool, true, false, List, [], ◌∷◌, ◌++◌, All, Option, Some, None, Ok, length, take, drop, append-nil, append_assoc, inl, inr, ap, ap₂, refl, subst, sym, arith}
use Rattle.std.proofs.lemmas.List.{map-append}
use Rattle.std.proofs.lemmas.List.Folds.{concat-append}
use Rattle.call_types.specs.declared.feed.Cut.{Cut}
use Rattle.call_types.specs.declared.feed.Cut.TheVariants as cut_of
use Rattle.call_types.specs.declared.names.Key.{Key}
use Rattle.call_types.specs.declared.names.Pick.{Pick}
use Rattle.call_types.specs.declared.names.RangeAsk.{RangeAsk}
use Rattle.call_types.specs.declared.names.Span.{Span}
use Rattle.call_types.specs.declared.names.VersionName.{VersionName}
use Rattle.call_types.specs.declared.reply.Reply.{Reply}
use Rattle.call_types.specs.declared.reply.Reply.TheVariants.{Found}
use Rattle.call_types.specs.declared.version.Version.{Version}
use Rattle.desk_base.specs.Answering.{Task}
use Rattle.desk_base.specs.Telling.{Effect, Telling}
use Rattle.desk_base.specs.Telling.Telling.{Head as TheHead, Piece}
use Rattle.desk_base.specs.declared.call.Call.TheVariants as call_of
use Rattle.drive_base.specs.declared.plan.SetPlan.{SetPlan}
use Rattle.get_read.specs.Account.{Account}
use Rattle.get_read.specs.Given.{AreOfSpanIn}
use Rattle.get_read.specs.Readers.{Told as ReaderTold, all_calls}
use Rattle.span_plan.specs.Span.{Plans}
use Rattle.receipts.specs.Events.{IsQuiet, IsUntold, Log, body_of, sections_of, tale_of}
use Rattle.receipts.specs.Events.Event.{Told}
use Rattle.receipts.specs.Paying.{DidNoMore, IsTaleOf, OwesPart, Pays, TellsFront, WasOwed}
use Rattle.receipts.specs.Paying.Outcome.{CutOff, Replied}
use Rattle.receipts.specs.Reading.{GetOwes, ReadsKey}
use Rattle.receipts.specs.Spans.{AreOfVersion, body_length, whole_of}
use Rattle.receipts.proofs.GrowLemmas.{quiet_bodies, quiet_cuts, quiet_sections, quiet_tales}
use Rattle.receipts.proofs.JoinLemmas.{bodies_join, sections_join, tales_join}
use Rattle.op_steps.specs.Moves.{TellMoves}
use Rattle.op_steps.specs.Ready.{IsReady}
use Rattle.op_steps.specs.Store.{TellerSeen}
use Rattle.op_steps.proofs.TellLemmas.{cuts_after, none_told}
use Rattle.object_ops.specs.Reading.{IsFresh}
use Rattle.object_ops.specs.ReadingTold.{AreLogged, HasTold, TellsBytes, TellsNone}
use Rattle.object_ops.specs.ReadingPlan.{IsOfSpan, wanted_by}
use Rattle.object_ops.specs.declared.reading.Reading.{Reading}
use Rattle.object_ops.proofs.ReadingSpans.{span_so, version_so}
use Rattle.object_ops.proofs.ReadingTell.{fresh_pays, none_all, quiet_fresh}

-- the first byte, and the others
abbrev first_of : List ℕ → ℕ
first_of [] = 0
first_of (x ∷ bytes) = x

abbrev others_of : List ℕ → List ℕ
others_of [] = []
others_of (x ∷ bytes) = bytes

-- the first ones of bytes that are a prefix are one
prefix : (bytes more whole : List ℕ) → bytes ++ more ≡ take (length (bytes ++ more)) whole → bytes ≡ take (length bytes) whole
prefix [] more whole is = refl
prefix (x ∷ bytes) more [] is = absurd (omega (arith, ap (length {A = ℕ}) is))
prefix (x ∷ bytes) more (y ∷ whole) is = ap₂ (λ (a : ℕ) (b : List ℕ). a ∷ b) (ap first_of is) (prefix bytes more whole (ap others_of is))

-- bytes of a span are of it without the last ones
pub of_front : (n p : ℕ) (print : List ℕ) (from to : ℕ) (bytes more : List ℕ) (calls : Account) → AreOfSpanIn n p print from to (bytes ++ more) calls
    → AreOfSpanIn n p print from to bytes calls
of_front n p print from to bytes more calls are body has = elim (are body has) [
  | inl same ↦ inl (prefix bytes more (drop from (take to body)) same)
  | inr clash ↦ inr clash
]

-- bytes that a reader gave are of its version
pub of_version : (set : SetPlan) (ask : RangeAsk) (version : Version) (id : Option VersionName) (reading : Reading) (told : ReaderTold) (bytes : List ℕ) (log : Log)
    → IsOfSpan set ask version id reading → AreLogged (all_calls told) log
    → AreOfSpanIn reading.reader.asked.wanted.set.drives reading.reader.asked.wanted.set.parity reading.reader.asked.wanted.print reading.reader.asked.span.at
    reading.reader.asked.wanted.reach bytes (all_calls told)
    → AreOfVersion set version.what reading.span bytes log
of_version set ask version id reading told bytes log is logged exact =
    let asked = reading.reader.asked in
    let of_set : AreOfSpanIn set.drives set.parity asked.wanted.print asked.span.at asked.wanted.reach bytes (all_calls told) =
    subst (λ (s : SetPlan). AreOfSpanIn s.drives s.parity asked.wanted.print asked.span.at asked.wanted.reach bytes (all_calls told)) is.set_is exact in
    let to_end : AreOfSpanIn set.drives set.parity asked.wanted.print asked.span.at (asked.span.at + asked.span.length) bytes (all_calls told) =
    subst (λ (n : ℕ). AreOfSpanIn set.drives set.parity asked.wanted.print asked.span.at n bytes (all_calls told)) (sym asked.end) of_set in
    version_so set version.what reading.span (wanted_by asked) bytes log is.wanted
    (span_so set asked.wanted.print reading.span bytes (all_calls told) log logged
    (subst (λ (s : Span). AreOfSpanIn set.drives set.parity asked.wanted.print s.at (s.at + s.length) bytes (all_calls told)) is.span_is to_end))

-- a read of a key was made, also with quiet events behind it
pub reads_on : (at : Key) (pick : Pick) (whole : Reply) (log more : Log) → All IsQuiet more → ReadsKey at pick whole log → ReadsKey at pick whole (log ++ more)
reads_on at pick whole log more quiet x = record {
  look = x.look;
  own = x.own;
  sections = quiet_sections log more quiet ∙ x.sections;
  mode = x.mode;
  bucket = x.bucket;
  entry = x.entry;
  due = x.due;
}

-- what failed to be told was not told
untold_tale : (log : Log) (telling : Telling) (cut : Cut) → tale_of (log ++ Told telling (Some cut) ∷ []) ≡ tale_of log
untold_tale log telling cut = tales_join log (Told telling (Some cut) ∷ []) ∙ append-nil (tale_of log)

module _ (set : SetPlan) (at : Key) (pick : Pick) (ask : RangeAsk) (matches : Option (List ℕ)) (now : ℕ) where
  abbrev pub the_task : Task
  the_task = record { call = call_of.Get at pick ask matches; now = now }

  -- a reply is owed
  pub ready : (reply : Reply) (log : Log) → IsFresh log → GetOwes set at pick ask matches reply log → IsReady set the_task reply log
  ready reply log fresh owed = record { untold = fresh.untold; uncut = fresh.uncut; owed = (ap length fresh.untaken, owed) }

  -- it was owed, with events behind it that take nothing and leave no note
  owed_on : (reply : Reply) (log more : Log) → body_of more ≡ [] → sections_of more ≡ [] → WasOwed set the_task reply log
      → WasOwed set the_task reply (log ++ more)
  owed_on reply log more over still x = record {
    before = x.before;
    rest = x.rest ++ more;
    parts = ap (λ l. l ++ more) x.parts ∙ append_assoc x.before (Told (TheHead reply) None ∷ x.rest) more;
    first = x.first;
    owed = x.owed;
    over = bodies_join x.rest more ∙ (ap (λ l. l ++ body_of more) x.over ∙ over);
    still = sections_join x.rest more ∙ (ap (λ l. l ++ sections_of more) x.still ∙ still);
  }

  module _ (version : Version) (span : Span) (id : Option VersionName) where
    abbrev the_reply : Reply
    the_reply = Found version span id

    -- ---- quiet events

    none_on : (bytes : List ℕ) (log more : Log) → All IsQuiet more → TellsNone the_task at pick version id bytes log → TellsNone the_task at pick version id bytes (log ++ more)
    none_on bytes log more quiet x = record {
      fresh = quiet_fresh log more quiet x.fresh;
      reads = reads_on at pick (Found version (whole_of version) id) log more quiet x.reads;
      met = x.met;
      none = x.none;
    }

    bytes_on : (bytes : List ℕ) (log more : Log) → All IsQuiet more → TellsBytes set the_task version span id bytes log
        → TellsBytes set the_task version span id bytes (log ++ more)
    bytes_on bytes log more quiet x = record {
      tale = subst (λ tale. IsTaleOf the_reply bytes tale) (sym (quiet_tales log more quiet)) x.tale;
      was_owed = owed_on the_reply log more (quiet_bodies [] more quiet) (quiet_sections [] more quiet) x.was_owed;
      uncut = quiet_cuts log more quiet ∙ x.uncut;
    }

    pub told_on : (told : Bool) (bytes : List ℕ) (log more : Log) → All IsQuiet more → HasTold set the_task at pick version span id told bytes log
        → HasTold set the_task at pick version span id told bytes (log ++ more)
    told_on false bytes log more quiet x = none_on bytes log more quiet x
    told_on true bytes log more quiet x = bytes_on bytes log more quiet x

    -- ---- what is paid

    front : (bytes : List ℕ) (log : Log) → WasOwed set the_task the_reply log → AreOfVersion set version.what span bytes log
        → TellsFront set the_task the_reply bytes log
    front bytes log owed are = record { was_owed = owed; given = are }

    pub front_told : (bytes : List ℕ) (log : Log) → TellsBytes set the_task version span id bytes log → AreOfVersion set version.what span bytes log
        → TellsFront set the_task the_reply bytes log
    front_told bytes log x are = front bytes log x.was_owed are

    part : (bytes : List ℕ) (log : Log) → IsTaleOf the_reply bytes (tale_of log) → WasOwed set the_task the_reply log → length bytes ≤ span.length
        → AreOfVersion set version.what span bytes log → OwesPart set the_task (tale_of log) log
    part bytes log tale owed few are = inr (the_reply, bytes, tale, few, front bytes log owed are)

    -- want of memory
    pub lack_pays : (told : Bool) (bytes : List ℕ) (log : Log) → HasTold set the_task at pick version span id told bytes log → length bytes ≤ span.length
        → AreOfVersion set version.what span bytes log → Pays set the_task (Some cut_of.NoMemory) log
    lack_pays false bytes log x few are = fresh_pays set the_task log x.fresh
    lack_pays true bytes log x few are = record {
      outcome = CutOff cut_of.NoMemory (tale_of log);
      ends = refl;
      tells = refl;
      owes = (part bytes log x.tale x.was_owed few are, inl x.uncut);
    }

    -- the whole
    pub whole_pays : (bytes : List ℕ) (log : Log) → TellsBytes set the_task version span id bytes log → length bytes ≡ span.length
        → AreOfVersion set version.what span bytes log → Pays set the_task None log
    whole_pays bytes log x whole are = record {
      outcome = Replied the_reply bytes;
      ends = refl;
      tells = x.tale;
      owes = record { front = front bytes log x.was_owed are; whole = whole; uncut = x.uncut };
    }

    -- ---- the head

    -- it is owed
    pub head_owed : (bytes : List ℕ) (log : Log) → Plans (body_length version.what) ask (Ok span) → TellsNone the_task at pick version id bytes log
        → IsReady set the_task the_reply log
    head_owed bytes log plans x = ready the_reply log x.fresh (inr (record {
      whole = Found version (whole_of version) id;
      reads = x.reads;
      tells = inr (x.met, inl (record { span = span; plans = plans; told = inl refl }));
    }))

    -- it was told
    pub head_told : (log : Log) → IsReady set the_task the_reply log → TellsBytes set the_task version span id [] (log ++ Told (TheHead the_reply) None ∷ [])
    head_told log x = record {
      tale = (
        [],
        tales_join log (Told (TheHead the_reply) None ∷ []) ∙ ap (λ l. l ++ TheHead the_reply ∷ []) (none_told log x.untold),
        refl,
      );
      was_owed = record { before = log; rest = []; parts = refl; first = x.untold; owed = x.owed; over = refl; still = refl };
      uncut = cuts_after log (Told (TheHead the_reply) None) x.uncut;
    }

    no_tale : (log : Log) (cut : Cut) → IsReady set the_task the_reply log → [] ≡ tale_of (log ++ Told (TheHead the_reply) (Some cut) ∷ [])
    no_tale log cut x = sym (untold_tale log (TheHead the_reply) cut ∙ none_told log x.untold)

    no_more : (log : Log) (cut : Cut) → IsReady set the_task the_reply log → DidNoMore set the_task (log ++ Told (TheHead the_reply) (Some cut) ∷ [])
    no_more log cut x = inr (the_reply, log, Told (TheHead the_reply) (Some cut) ∷ [], refl, x.owed, refl)

    -- it failed to be told
    pub head_cut : {T : Type 0} (takes breaks : Effect T) (log : Log) (cut : Cut) (old new : TellerSeen T) → IsReady set the_task the_reply log
        → TellMoves takes breaks (TheHead the_reply) (Some cut) old new → Pays set the_task (Some cut) (log ++ Told (TheHead the_reply) (Some cut) ∷ [])
    head_cut takes breaks log cut_of.ReadFault old new x moves = absurd moves
    head_cut takes breaks log (cut_of.BodyCut read stated) old new x moves = absurd moves
    head_cut takes breaks log (cut_of.ShardCut whys) old new x moves = absurd moves
    head_cut takes breaks log cut_of.WriteFault old new x moves = record {
      outcome = CutOff cut_of.WriteFault [];
      ends = refl;
      tells = no_tale log cut_of.WriteFault x;
      owes = (
        inl (
          refl,
          the_reply,
          record {
            before = log;
            rest = [];
            parts = refl;
            first = x.untold;
            last = none_all IsUntold;
            owed = x.owed;
            no_bytes = refl;
            no_sections = refl;
          },
        ),
        cuts_after log (Told (TheHead the_reply) (Some cut_of.WriteFault)) x.uncut,
      );
    }
    head_cut takes breaks log cut_of.NoMemory old new x moves = record {
      outcome = CutOff cut_of.NoMemory [];
      ends = refl;
      tells = no_tale log cut_of.NoMemory x;
      owes = (inl (refl, no_more log cut_of.NoMemory x), inr (cuts_after log (Told (TheHead the_reply) (Some cut_of.NoMemory)) x.uncut));
    }

    -- ---- a piece

    -- it was told
    pub piece_told : (bytes piece : List ℕ) (log : Log) → TellsBytes set the_task version span id bytes log
        → TellsBytes set the_task version span id (bytes ++ piece) (log ++ Told (Piece piece) None ∷ [])
    piece_told bytes piece log x = record {
      tale = (
        x.tale.0 ++ piece ∷ [],
        tales_join log (Told (Piece piece) None ∷ []) ∙ (ap (λ l. l ++ Piece piece ∷ []) x.tale.1
            ∙ ap (λ (l : List Telling). TheHead the_reply ∷ l) (sym (map-append Piece x.tale.0 (piece ∷ [])))),
        concat-append x.tale.0 (piece ∷ []) ∙ (ap (λ l. l ++ (piece ++ [])) x.tale.2 ∙ ap (λ l. bytes ++ l) (append-nil piece)),
      );
      was_owed = owed_on the_reply log (Told (Piece piece) None ∷ []) refl refl x.was_owed;
      uncut = cuts_after log (Told (Piece piece) None) x.uncut;
    }

    same_tale : (bytes piece : List ℕ) (log : Log) (cut : Cut) → TellsBytes set the_task version span id bytes log
        → IsTaleOf the_reply bytes (tale_of (log ++ Told (Piece piece) (Some cut) ∷ []))
    same_tale bytes piece log cut x = subst (λ tale. IsTaleOf the_reply bytes tale) (sym (untold_tale log (Piece piece) cut)) x.tale

    -- it failed to be told
    pub piece_cut : {T : Type 0} (takes breaks : Effect T) (bytes piece : List ℕ) (log : Log) (cut : Cut) (old new : TellerSeen T)
        → TellsBytes set the_task version span id bytes log → length bytes ≤ span.length → length (bytes ++ piece) ≤ span.length
        → AreOfVersion set version.what span bytes (log ++ Told (Piece piece) (Some cut) ∷ [])
        → AreOfVersion set version.what span (bytes ++ piece) (log ++ Told (Piece piece) (Some cut) ∷ [])
        → TellMoves takes breaks (Piece piece) (Some cut) old new → Pays set the_task (Some cut) (log ++ Told (Piece piece) (Some cut) ∷ [])
    piece_cut takes breaks bytes piece log cut_of.ReadFault old new x few all are next moves = absurd moves
    piece_cut takes breaks bytes piece log (cut_of.BodyCut read stated) old new x few all are next moves = absurd moves
    piece_cut takes breaks bytes piece log (cut_of.ShardCut whys) old new x few all are next moves = absurd moves
    piece_cut takes breaks bytes piece log cut_of.WriteFault old new x few all are next moves =
        let event = Told (Piece piece) (Some cut_of.WriteFault) in
        record {
          outcome = CutOff cut_of.WriteFault (tale_of (log ++ event ∷ []));
          ends = refl;
          tells = refl;
          owes = (
            inr (record {
              before = log;
              piece = piece;
              rest = [];
              parts = refl;
              last = none_all IsUntold;
              reply = the_reply;
              bytes = bytes;
              tale_is = same_tale bytes piece log cut_of.WriteFault x;
              few = all;
              front = front (bytes ++ piece) (log ++ event ∷ []) (owed_on the_reply log (event ∷ []) refl refl x.was_owed) next;
            }),
            cuts_after log event x.uncut,
          );
        }
    piece_cut takes breaks bytes piece log cut_of.NoMemory old new x few all are next moves =
        let event = Told (Piece piece) (Some cut_of.NoMemory) in
        record {
          outcome = CutOff cut_of.NoMemory (tale_of (log ++ event ∷ []));
          ends = refl;
          tells = refl;
          owes = (
            part bytes (log ++ event ∷ []) (same_tale bytes piece log cut_of.NoMemory x) (owed_on the_reply log (event ∷ []) refl refl x.was_owed) few are,
            inr (cuts_after log event x.uncut),
          );
        }
