-- What is paid stays paid while quiet events are added.
use Rattle.std.proofs.Common.{◌∙◌, ℕ, List, ◌∷◌, ◌++◌, All, None, Some, length, append_assoc, inl, inr, sym, ap, subst}
use Rattle.std.proofs.lemmas.List.Elements.{All-append}
use Rattle.call_types.specs.declared.feed.Cut.{Cut}
use Rattle.call_types.specs.declared.feed.Cut.TheVariants as cut_of
use Rattle.call_types.specs.declared.names.Span.{Span}
use Rattle.call_types.specs.declared.reply.Reply.{Reply}
use Rattle.call_types.specs.declared.reply.Reply.TheVariants.{Found}
use Rattle.call_types.specs.declared.version.Version.{Version}
use Rattle.call_types.specs.declared.version.What.{What}
use Rattle.call_types.specs.declared.version.What.TheVariants.{Marker, Object}
use Rattle.call_types.specs.declared.why.Why.{Why}
use Rattle.desk_base.specs.Answering.{Task}
use Rattle.desk_base.specs.Telling.{Telling}
use Rattle.desk_base.specs.Telling.Telling.{Head as TheHead, Piece}
use Rattle.desk_base.specs.declared.call.Call.{Call}
use Rattle.desk_base.specs.declared.call.Call.TheVariants.{Get}
use Rattle.drive_base.specs.declared.plan.SetPlan.{SetPlan}
use Rattle.receipts.specs.Clashes.{ClashIn, WasMet}
use Rattle.receipts.specs.Events.{IsQuiet, IsUntold, Log, sections_of}
use Rattle.receipts.specs.Events.Event.{Told}
use Rattle.receipts.specs.Laws.{QuietKeepsPay}
use Rattle.receipts.specs.Paying.{BodyIsCut, ChangesNothing, DidNoMore, HeadBroke, IsTaleOf, Outcome, Owes, OwesCut, OwesPart, PieceBroke, TellingBroke, TellsFront, TellsOutcome, WasOwed}
use Rattle.receipts.specs.Paying.Outcome.{CutOff, Replied}
use Rattle.receipts.specs.Spans.{AreOfVersion, GivesBytes, GivesFound}
use Rattle.receipts.proofs.GrowLemmas.{Grows, quiet_bodies, quiet_cuts, quiet_grows, quiet_sections, quiet_tales, quiet_untold, saw_grows}
use Rattle.receipts.proofs.OweLemmas.{few_blocks}

-- a clash stays one
met : (bytes : List ℕ) (log later : Log) → Grows log later → WasMet bytes log → WasMet bytes later
met bytes log later g (inl x) =
    inl (record { drive = x.drive; name = x.name; place = x.place; more = x.more; called = saw_grows log later x.drive _ g.calls x.called; piece = x.piece })
met bytes log later g (inr x) =
    inr (record { drive = x.drive; name = x.name; manifest = x.manifest; canonical = x.canonical; called = saw_grows log later x.drive _ g.calls x.called; text = x.text })

clash_in : (set : SetPlan) (body print : List ℕ) (log later : Log) → Grows log later → ClashIn set body print log → ClashIn set body print later
clash_in set body print log later g x = record { read = x.read; met = met x.read log later g x.met; clash = x.clash }

-- bytes that are given stay those of a version
of_version : (set : SetPlan) (what : What) (span : Span) (bytes : List ℕ) (log later : Log) → Grows log later
    → AreOfVersion set what span bytes log → AreOfVersion set what span bytes later
of_version set Marker span bytes log later g x = x
of_version set (Object data_id print size md5 parts upload kind) span bytes log later g x = λ body has. elim (x body has) [
  | inl given ↦ inl given
  | inr clash ↦ inr (clash_in set body print log later g clash)
]

gives_found : (set : SetPlan) (call : Call) (version : Version) (span : Span) (bytes : List ℕ) (log later : Log) → Grows log later
    → GivesFound set call version span bytes log → GivesFound set call version span bytes later
gives_found set (Get at pick ask matches) version span bytes log later g x = of_version set version.what span bytes log later g x
gives_found set other version span bytes log later g x = x

gives_bytes : (set : SetPlan) (call : Call) (reply : Reply) (bytes : List ℕ) (log later : Log) → Grows log later
    → GivesBytes set call reply bytes log → GivesBytes set call reply bytes later
gives_bytes set call (Found version span id) bytes log later g x = gives_found set call version span bytes log later g x
gives_bytes set call other bytes log later g x = x

was_owed : (set : SetPlan) (task : Task) (reply : Reply) (log more : Log) → All IsQuiet more → WasOwed set task reply log
    → WasOwed set task reply (log ++ more)
was_owed set task reply log more quiet x = record {
  before = x.before;
  rest = x.rest ++ more;
  parts = ap (λ l. l ++ more) x.parts ∙ append_assoc x.before (Told (TheHead reply) None ∷ x.rest) more;
  first = x.first;
  owed = x.owed;
  over = quiet_bodies x.rest more quiet ∙ x.over;
  still = quiet_sections x.rest more quiet ∙ x.still;
}

front : (set : SetPlan) (task : Task) (reply : Reply) (bytes : List ℕ) (log more : Log) → All IsQuiet more
    → TellsFront set task reply bytes log → TellsFront set task reply bytes (log ++ more)
front set task reply bytes log more quiet x = record {
  was_owed = was_owed set task reply log more quiet x.was_owed;
  given = gives_bytes set task.call reply bytes log (log ++ more) (quiet_grows log more quiet) x.given;
}

-- what was done stays done
nothing : (log more : Log) → All IsQuiet more → All ChangesNothing (sections_of log) → All ChangesNothing (sections_of (log ++ more))
nothing log more quiet none = subst (λ sections. All ChangesNothing sections) (sym (quiet_sections log more quiet)) none

no_more : (set : SetPlan) (task : Task) (log more : Log) → All IsQuiet more → DidNoMore set task log → DidNoMore set task (log ++ more)
no_more set task log more quiet (inl none) = inl (nothing log more quiet none)
no_more set task log more quiet (inr x) =
    inr (x.0, x.1, x.2 ++ more, ap (λ l. l ++ more) x.3 ∙ append_assoc x.1 x.2 more, x.4, quiet_sections x.2 more quiet ∙ x.5)

part : (set : SetPlan) (task : Task) (tale : List Telling) (log more : Log) → All IsQuiet more → OwesPart set task tale log → OwesPart set task tale (log ++ more)
part set task tale log more quiet (inl none) = inl (none.0, no_more set task log more quiet none.1)
part set task tale log more quiet (inr x) = inr (x.0, x.1, x.2, x.3, front set task x.0 x.1 log more quiet x.4)

-- what broke stays broken
head_broke : (set : SetPlan) (task : Task) (reply : Reply) (log more : Log) → All IsQuiet more → HeadBroke set task reply log
    → HeadBroke set task reply (log ++ more)
head_broke set task reply log more quiet x = record {
  before = x.before;
  rest = x.rest ++ more;
  parts = ap (λ l. l ++ more) x.parts ∙ append_assoc x.before (Told (TheHead reply) (Some cut_of.WriteFault) ∷ x.rest) more;
  first = x.first;
  last = All-append IsUntold x.rest more x.last (quiet_untold more quiet);
  owed = x.owed;
  no_bytes = quiet_bodies x.rest more quiet ∙ x.no_bytes;
  no_sections = quiet_sections x.rest more quiet ∙ x.no_sections;
}

piece_broke : (set : SetPlan) (task : Task) (tale : List Telling) (log more : Log) → All IsQuiet more → PieceBroke set task tale log
    → PieceBroke set task tale (log ++ more)
piece_broke set task tale log more quiet x = record {
  before = x.before;
  piece = x.piece;
  rest = x.rest ++ more;
  parts = ap (λ l. l ++ more) x.parts ∙ append_assoc x.before (Told (Piece x.piece) (Some cut_of.WriteFault) ∷ x.rest) more;
  last = All-append IsUntold x.rest more x.last (quiet_untold more quiet);
  reply = x.reply;
  bytes = x.bytes;
  tale_is = x.tale_is;
  few = x.few;
  front = front set task x.reply (x.bytes ++ x.piece) log more quiet x.front;
}

broke : (set : SetPlan) (task : Task) (tale : List Telling) (log more : Log) → All IsQuiet more → TellingBroke set task tale log
    → TellingBroke set task tale (log ++ more)
broke set task tale log more quiet (inl x) = inl (x.0, x.1, head_broke set task x.1 log more quiet x.2)
broke set task tale log more quiet (inr x) = inr (piece_broke set task tale log more quiet x)

body_cut : (set : SetPlan) (task : Task) (whys : List Why) (tale : List Telling) (log more : Log) → All IsQuiet more
    → BodyIsCut set task whys tale log → BodyIsCut set task whys tale (log ++ more)
body_cut set task whys tale log more quiet x = record {
  version = x.version;
  span = x.span;
  id = x.id;
  bytes = x.bytes;
  tale_is = x.tale_is;
  some = x.some;
  less = x.less;
  front = front set task _ x.bytes log more quiet x.front;
  wanted = x.wanted;
  is_wanted = x.is_wanted;
  few = few_blocks set x.wanted _ whys log (log ++ more) (quiet_grows log more quiet) x.few;
  uncut = quiet_cuts log more quiet ∙ x.uncut;
}

owes_cut : (set : SetPlan) (task : Task) (why : Cut) (tale : List Telling) (log more : Log) → All IsQuiet more
    → OwesCut set task why tale log → OwesCut set task why tale (log ++ more)
owes_cut set task cut_of.ReadFault tale log more quiet x = (x.0, quiet_cuts log more quiet ∙ x.1, nothing log more quiet x.2)
owes_cut set task (cut_of.BodyCut read stated) tale log more quiet x =
    (x.0, quiet_cuts log more quiet ∙ x.1, x.2 ∙ sym (ap length (quiet_bodies log more quiet)), x.3, x.4, nothing log more quiet x.5)
owes_cut set task cut_of.WriteFault tale log more quiet x = (broke set task tale log more quiet x.0, quiet_cuts log more quiet ∙ x.1)
owes_cut set task (cut_of.ShardCut whys) tale log more quiet x = body_cut set task whys tale log more quiet x
owes_cut set task cut_of.NoMemory tale log more quiet x = (
  part set task tale log more quiet x.0,
  elim x.1 [
    | inl none ↦ inl (quiet_cuts log more quiet ∙ none)
    | inr own ↦ inr (quiet_cuts log more quiet ∙ own)
  ],
)

owes : (set : SetPlan) (task : Task) (outcome : Outcome) (log more : Log) → All IsQuiet more → Owes set task outcome log → Owes set task outcome (log ++ more)
owes set task (Replied reply bytes) log more quiet x =
    record { front = front set task reply bytes log more quiet x.front; whole = x.whole; uncut = quiet_cuts log more quiet ∙ x.uncut }
owes set task (CutOff why tale) log more quiet x = owes_cut set task why tale log more quiet x

tells : (outcome : Outcome) (log more : Log) → All IsQuiet more → TellsOutcome outcome log → TellsOutcome outcome (log ++ more)
tells (Replied reply bytes) log more quiet x = subst (λ tale. IsTaleOf reply bytes tale) (sym (quiet_tales log more quiet)) x
tells (CutOff why tale) log more quiet x = x ∙ sym (quiet_tales log more quiet)

pub quiet_pays : QuietKeepsPay
quiet_pays set task cut log more quiet x = record {
  outcome = x.outcome;
  ends = x.ends;
  tells = tells x.outcome log more quiet x.tells;
  owes = owes set task x.outcome log more quiet x.owes;
}
