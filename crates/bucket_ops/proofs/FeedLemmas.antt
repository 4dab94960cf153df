-- The steps by which the document of a change is taken.
use Rattle.std.proofs.Common.{◌≡◌, ◌∙◌, ℕ, true, false, Bool, List, [], ◌∷◌, ◌++◌, Option, Some, None, length, take, vec_len, inr, refl, sym, ap, subst, arith}
use Rattle.std.proofs.Math.Seq.{take-length}
use Rattle.std.proofs.lemmas.Bool.Decides.{nat_tests}
use Rattle.std.proofs.lemmas.List.{length-take-le}
use Rattle.std.specs.Prelude.{is_some, nat_eq}
use Rattle.call_types.specs.declared.feed.Cut.{Cut}
use Rattle.call_types.specs.declared.feed.Cut.TheVariants as cuts
use Rattle.drive_base.specs.declared.plan.SetPlan.{SetPlan}
use Rattle.s3_docs.specs.Documents.{IsPlace}
use Rattle.s3_docs.specs.declared.prologue.Root.TheVariants.{VersioningConfiguration}
use Rattle.receipts.specs.Events.{Log, body_of, cuts_of, sections_of, tale_of}
use Rattle.receipts.specs.Events.Event.{Fed}
use Rattle.receipts.specs.Paying.{Pays}
use Rattle.receipts.specs.Paying.Outcome.{CutOff}
use Rattle.receipts.specs.Registers.{bucket_slot}
use Rattle.op_steps.specs.Moves.{FeedCause}
use Rattle.op_steps.specs.Store.{FeedSeen}
use Rattle.op_steps.specs.Words.{FeedsSo}
use Rattle.op_steps.specs.declared.next.OpNext.{OpNext}
use Rattle.op_steps.specs.declared.next.OpNext.TheVariants.{Data, Done, Feed, Section, Tell}
use Rattle.op_steps.proofs.TellLemmas.{none_pays, none_told}
use Rattle.bucket_ops.specs.Changes.{AfterDocument, ChangeStands, HasChanged, HasTaken, change_task, step_of}
use Rattle.bucket_ops.specs.Taking.{IsFedFrom, TakesSome, taken_of}
use Rattle.bucket_ops.specs.declared.change_state.ChangeState.{ChangeState}
use Rattle.bucket_ops.specs.declared.change_state.ChangeState.TheVariants.{Committing, Over, Reading, Telling}
use Rattle.bucket_ops.specs.declared.document.Document.{Document}
use Rattle.bucket_ops.proofs.ChangeOpLemmas.{body_with, cuts_with, idle_log, sections_with, still_nothing, untold_with}

-- a document is whole
pub is_whole : (a b : ℕ) → nat_eq a b ≡ true → a ≡ b
is_whole a b is = grind (arith, nat_tests)

-- the body comes next
abbrev is_feed : OpNext → Type 0
is_feed (Section k) = ⊥
is_feed Data = ⊥
is_feed Feed = Unit {0}
is_feed Tell = ⊥
is_feed Done = ⊥

reads_on : (set : SetPlan) (sets : Bool) (document : Document) (bucket : List ℕ) (now slot : ℕ) (state : ChangeState) (log : Log) → step_of state slot ≡ Feed
    → HasChanged set sets document bucket now state log → HasTaken (taken_of document) log × (sets ≡ true)
reads_on set sets document bucket now slot Reading log next done = done
reads_on set sets document bucket now slot (Committing deed) log next done = absurd (subst is_feed (sym next) tt)
reads_on set sets document bucket now slot (Telling reply) log next done = absurd (subst is_feed (sym next) tt)
reads_on set sets document bucket now slot (Over cut) log next done = absurd (subst is_feed (sym next) tt)

-- what was taken, with the bytes of one take more
body_after : (old new : Document) (bytes : List ℕ) (cut : Option Cut) (log : Log) → HasTaken (taken_of old) log → taken_of new ≡ taken_of old ++ bytes
    → body_of (log ++ Fed bytes cut ∷ []) ≡ taken_of new
body_after old new bytes cut log x adds = body_with log (Fed bytes cut) ∙ (ap (λ l. l ++ bytes) x.body_is ∙ sym adds)

taken_after : (old new : Document) (bytes : List ℕ) (log : Log) → HasTaken (taken_of old) log → taken_of new ≡ taken_of old ++ bytes
    → HasTaken (taken_of new) (log ++ Fed bytes None ∷ [])
taken_after old new bytes log x adds = record {
  sections = sections_with log (Fed bytes None) x.sections;
  untold = untold_with log (Fed bytes None) x.untold tt;
  uncut = cuts_with log (Fed bytes None) x.uncut;
  body_is = body_after old new bytes None log x adds;
}

-- a body that is cut pays
cut_pays : (set : SetPlan) (document : Document) (bucket : List ℕ) (now : ℕ) (why : Cut) (bytes : List ℕ) (log : Log) (was after : FeedSeen)
    → sections_of (log ++ Fed bytes (Some why) ∷ []) ≡ [] → tale_of (log ++ Fed bytes (Some why) ∷ []) ≡ [] → cuts_of (log ++ Fed bytes (Some why) ∷ []) ≡ why ∷ []
    → length (body_of (log ++ Fed bytes (Some why) ∷ [])) ≡ document.taken → IsFedFrom document after.view → FeedCause (Some why) was after
    → Pays set (change_task true document bucket now) (Some why) (log ++ Fed bytes (Some why) ∷ [])
cut_pays set document bucket now cuts.ReadFault bytes log was after sections tale uncut long fed cause = record {
  outcome = CutOff cuts.ReadFault [];
  ends = refl;
  tells = sym tale;
  owes = (refl, uncut, idle_log (log ++ Fed bytes (Some cuts.ReadFault) ∷ []) sections);
}
cut_pays set document bucket now (cuts.BodyCut read stated) bytes log was after sections tale uncut long fed cause = record {
  outcome = CutOff (cuts.BodyCut read stated) [];
  ends = refl;
  tells = sym tale;
  owes = (
    refl,
    uncut,
    cause.0 ∙ (fed.given ∙ sym long),
    cause.1 ∙ fed.stated,
    (let a = cause.0 in let b = cause.1 in let c = cause.2 in omega (arith, a, b, c)),
    idle_log (log ++ Fed bytes (Some (cuts.BodyCut read stated)) ∷ []) sections,
  );
}
cut_pays set document bucket now cuts.WriteFault bytes log was after sections tale uncut long fed cause = absurd cause
cut_pays set document bucket now (cuts.ShardCut whys) bytes log was after sections tale uncut long fed cause = absurd cause
cut_pays set document bucket now cuts.NoMemory bytes log was after sections tale uncut long fed cause = absurd cause

-- how many bytes were taken
taken_long : (document : Document) → length (taken_of document) ≡ document.taken
taken_long document = length-take-le document.taken document.bytes.items (let within = document.within in omega (arith, within))

cut_done : (set : SetPlan) (sets : Bool) (old new : Document) (bucket : List ℕ) (now : ℕ) (why : Cut) (bytes : List ℕ) (log : Log) (was after : FeedSeen)
    → sets ≡ true → HasTaken (taken_of old) log → taken_of new ≡ taken_of old ++ bytes → IsFedFrom new after.view → FeedCause (Some why) was after
    → Pays set (change_task sets new bucket now) (Some why) (log ++ Fed bytes (Some why) ∷ [])
cut_done set sets old new bucket now why bytes log was after is x adds fed cause =
    subst (λ s. Pays set (change_task s new bucket now) (Some why) (log ++ Fed bytes (Some why) ∷ [])) (sym is)
    (cut_pays set new bucket now why bytes log was after (sections_with log (Fed bytes (Some why)) x.sections)
    (none_told (log ++ Fed bytes (Some why) ∷ []) (untold_with log (Fed bytes (Some why)) x.untold tt)) (cuts_with log (Fed bytes (Some why)) x.uncut)
    (ap length (body_after old new bytes (Some why) log x adds) ∙ taken_long new) fed cause)

-- a document that is whole was read
document_done : (set : SetPlan) (document : Document) (bucket : List ℕ) (now : ℕ) (state : ChangeState) (log : Log) → HasTaken (taken_of document) log
    → document.taken ≡ vec_len document.bytes → AfterDocument bucket (taken_of document) state → HasChanged set true document bucket now state log
document_done set document bucket now Reading log x whole after = absurd after
document_done set document bucket now (Committing deed) log x whole after =
    record { taken = x; whole = whole; deed_is = after }
document_done set document bucket now (Telling reply) log x whole after = record {
  untold = x.untold;
  uncut = x.uncut;
  owed = (
    ap length x.body_is ∙ (taken_long document ∙ whole),
    inr (record {
      sections = x.sections;
      place = after.0;
      is_place = subst (λ bytes. IsPlace VersioningConfiguration bytes after.0) (sym x.body_is) after.1;
      told = after.2;
    }),
  );
}
document_done set document bucket now (Over cut) log x whole after =
    subst (λ c. Pays set (change_task true document bucket now) c log) (sym after)
    (none_pays set (change_task true document bucket now) log x.uncut (none_told log x.untold) (still_nothing set true document bucket now log x.sections))

pub document_stands : (set : SetPlan) (sets : Bool) (document : Document) (bucket : List ℕ) (now : ℕ) (state : ChangeState) (log : Log) → sets ≡ true
    → HasTaken (taken_of document) log → document.taken ≡ vec_len document.bytes → AfterDocument bucket (taken_of document) state
    → HasChanged set sets document bucket now state log
document_stands set sets document bucket now state log is x whole after =
    subst (λ s. HasChanged set s document bucket now state log) (sym is) (document_done set document bucket now state log x whole after)

module _ (set : SetPlan) (sets : Bool) (old new : Document) (bucket : List ℕ) (now : ℕ) (state : ChangeState) (was after : FeedSeen)
    (next : step_of state (bucket_slot bucket) ≡ Feed) where
  -- a take that failed
  cut_so : (why : Cut) → TakesSome old new (Some why) was after → IsFedFrom new after.view
      → FeedsSo (ChangeStands set sets old bucket now (bucket_slot bucket) state) (ChangeStands set sets new bucket now (bucket_slot bucket) (Over (Some why))) was after
  cut_so why takes fed claim log x =
      let on = reads_on set sets old bucket now (bucket_slot bucket) state log next x.done in (
        takes.bytes,
        Some why,
        record { none = x.none; done = cut_done set sets old new bucket now why takes.bytes log was after on.1 on.0 takes.adds fed takes.moves.cause },
        takes.moves,
      )

  pub cut_any : (cut : Option Cut) → is_some cut ≡ true → TakesSome old new cut was after → IsFedFrom new after.view
      → FeedsSo (ChangeStands set sets old bucket now (bucket_slot bucket) state) (ChangeStands set sets new bucket now (bucket_slot bucket) (Over cut)) was after
  cut_any None some takes fed = absurd cc
  cut_any (Some why) some takes fed = cut_so why takes fed

  -- the last bytes
  last_so : (later : ChangeState) → TakesSome old new None was after → new.taken ≡ vec_len new.bytes → AfterDocument bucket (taken_of new) later
      → FeedsSo (ChangeStands set sets old bucket now (bucket_slot bucket) state) (ChangeStands set sets new bucket now (bucket_slot bucket) later) was after
  last_so later takes whole told claim log x =
      let on = reads_on set sets old bucket now (bucket_slot bucket) state log next x.done in (
        takes.bytes,
        None,
        record {
          none = x.none;
          done = document_stands set sets new bucket now later (log ++ Fed takes.bytes None ∷ []) on.1 (taken_after old new takes.bytes log on.0 takes.adds) whole told;
        },
        takes.moves,
      )

  pub last_any : (cut : Option Cut) (later : ChangeState) → is_some cut ≡ false → TakesSome old new cut was after → new.taken ≡ vec_len new.bytes
      → AfterDocument bucket new.bytes.items later
      → FeedsSo (ChangeStands set sets old bucket now (bucket_slot bucket) state) (ChangeStands set sets new bucket now (bucket_slot bucket) later) was after
  last_any None later none takes whole told = last_so later takes whole
      (let long : new.taken ≡ length new.bytes.items = omega (arith, whole) in
      subst (λ bytes. AfterDocument bucket bytes later) (sym (ap (λ n. take n new.bytes.items) long ∙ take-length new.bytes.items)) told)
  last_any (Some why) later none takes whole told = absurd cc

  -- bytes in between
  pub some_so : TakesSome old new None was after
      → FeedsSo (ChangeStands set sets old bucket now (bucket_slot bucket) state) (ChangeStands set sets new bucket now (bucket_slot bucket) Reading) was after
  some_so takes claim log x =
      let on = reads_on set sets old bucket now (bucket_slot bucket) state log next x.done in (
        takes.bytes,
        None,
        record { none = x.none; done = (taken_after old new takes.bytes log on.0 takes.adds, on.1) },
        takes.moves,
      )
