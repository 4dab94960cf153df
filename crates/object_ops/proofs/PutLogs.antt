-- The log of a PutObject after each of its steps.
use Rattle.std.proofs.Common.{◌≡◌, ◌⊎◌, ◌∙◌, ◌<◌, ◌≤◌, ◌+◌, ℕ, List, [], ◌∷◌, ◌++◌, All, Option, Some, None, append-nil, length, length-append, slice_index_or, inl, inr, refl, sym, ap, subst, subst₂, arith}
use Rattle.std.specs.Prelude.{Ok, Err}
use Rattle.std.proofs.lemmas.List.Elements.{All-append, Contains-append_left}
use Rattle.call_types.specs.declared.feed.Cut.{Cut}
use Rattle.call_types.specs.declared.feed.Cut.TheVariants as cut
use Rattle.call_types.specs.declared.names.Key.{Key}
use Rattle.call_types.specs.declared.names.Mode.{Mode}
use Rattle.call_types.specs.declared.refusal.Refusal.{Refusal}
use Rattle.call_types.specs.declared.refusal.Refusal.TheVariants as refusal
use Rattle.call_types.specs.declared.reply.Reply.{Reply}
use Rattle.call_types.specs.declared.reply.Reply.TheVariants.{Refused}
use Rattle.call_types.specs.Good.{good_count}
use Rattle.call_types.specs.declared.why.Why.{Why}
use Rattle.call_types.specs.declared.why.Why.TheVariants.{Good}
use Rattle.drive_base.specs.Plan.{write_drives}
use Rattle.drive_base.specs.declared.plan.SetPlan.{SetPlan}
use Rattle.put_stage.specs.TakenBodies.{HasTaken, WorkGoesOn}
use Rattle.put_stage.specs.Work.{why_at}
use Rattle.put_stage.specs.declared.answers.Staged.{Staged}
use Rattle.put_stage.specs.declared.answers.StageFault.{StageFault}
use Rattle.put_stage.specs.declared.answers.StageFault.TheVariants as fault
use Rattle.slot_core.specs.declared.holding.Flight.{Flight}
use Rattle.slot_core.specs.declared.stub.Stub.{Stub}
use Rattle.receipts.specs.Events.{Event, IsUntold, Log, Shown, body_of, calls_at, cuts_of, sections_of, tale_of}
use Rattle.receipts.specs.Events.Event.{BarredFrom, Fed, Turned}
use Rattle.receipts.specs.Letters.{IsInUse, StageLetter}
use Rattle.receipts.specs.Paying.{ChangesNothing, Pays}
use Rattle.receipts.specs.Paying.Outcome.{CutOff}
use Rattle.receipts.specs.Putting.{IsAgreed}
use Rattle.receipts.specs.Registers.{bucket_slot, key_slot}
use Rattle.receipts.specs.declared.barred.Barred.TheVariants as barred
use Rattle.put_stage.specs.CallsSoFar.{CalledSo}
use Rattle.drive_base.specs.Trail.{DriveCall}
use Rattle.receipts.proofs.JoinLemmas.{bodies_join, calls_join, sections_join}
use Rattle.op_steps.specs.BucketLooks.{SaysBucket}
use Rattle.op_steps.specs.Claims.{Claim}
use Rattle.op_steps.specs.Moves.{FeedMoves}
use Rattle.op_steps.specs.Notes.{noted}
use Rattle.op_steps.specs.Store.{FeedSeen}
use Rattle.op_steps.specs.declared.looking.Looked.{Looked}
use Rattle.op_steps.specs.declared.looking.Looked.TheVariants as looked
use Rattle.op_steps.proofs.TellLemmas.{cuts_after, none_pays, none_told}
use Rattle.object_ops.specs.Put.{PutAsk, task_of}
use Rattle.object_ops.specs.PutStageCalls.{FillsOn, feed_cut}
use Rattle.object_ops.specs.PutStands.{ClaimsSo, Drains, HasLookedAt, HoldsPut, HoldsRest, IsDecided, PutStandsAt, Stages, no_cells}
use Rattle.object_ops.specs.PutOutcome.{AfterLook, Answers, OwesNext, refusal_of_stage}
use Rattle.object_ops.specs.PutTarget.{key_of}
use Rattle.object_ops.specs.declared.clearing.Clearing.{Clearing}
use Rattle.object_ops.specs.declared.put_state.PutState.{PutState}
use Rattle.object_ops.specs.declared.put_state.PutState.TheVariants as state
use Rattle.object_ops.specs.declared.put_state.Work.{Work}
use Rattle.object_ops.proofs.PutTargets.{OwesPut, call_long, owes_call}
use Rattle.object_ops.proofs.PutCalls.{letter_grows}
use Rattle.object_ops.proofs.ReadingLook.{looks}
use Rattle.object_ops.proofs.ReadingTell.{fresh_pays, one_all}

some_why : (a b : Refusal) → Some a ≡ Some b → a ≡ b
some_why a b e = cc

-- ---- what is decided

pub decided_owes : (ask : PutAsk) (told : Reply) (log : Log) → IsDecided (key_of ask.target) told log → OwesPut ask.target ask.set ask.stated ask.now told log
decided_owes ask told log (inl look) = inl look
decided_owes ask told log (inr (inl bar)) = inr (inr (inl bar))
decided_owes ask told log (inr (inr none)) = inr (inr (inr (inl none)))

-- it stays while nothing is told of a section
pub decided_on : (at : Key) (told : Reply) (log : Log) (event : Event) → sections_of (log ++ event ∷ []) ≡ sections_of log → IsDecided at told log
    → IsDecided at told (log ++ event ∷ [])
decided_on at told log event same (inl (inl x)) =
    inl (inl (record { look = x.look; sections = same ∙ x.sections; lacks = x.lacks; told = x.told }))
decided_on at told log event same (inl (inr (inl x))) =
    inl (inr (inl (record { look = x.look; sections = same ∙ x.sections; idle = x.idle; refuses = x.refuses })))
decided_on at told log event same (inl (inr (inr x))) = inl (inr (inr (record {
  sections = same ∙ x.sections;
  barred = record { spent = Contains-append_left log (event ∷ []) (BarredFrom (bucket_slot at.bucket) barred.Spent) x.barred.spent; told = x.barred.told };
})))
decided_on at told log event same (inr (inl x)) = inr (inl (record {
  looked = record { look = x.looked.look; sections = same ∙ x.looked.sections; mode = x.looked.mode; finds = x.looked.finds };
  barred = record { spent = Contains-append_left log (event ∷ []) (BarredFrom (key_slot at) barred.Spent) x.barred.spent; told = x.barred.told };
}))
decided_on at told log event same (inr (inr x)) = inr (inr (record {
  look = x.look;
  own = x.own;
  sections = same ∙ x.sections;
  mode = x.mode;
  bucket = x.bucket;
  no_entry = x.no_entry;
  refuses = x.refuses;
  spent = x.spent;
}))

-- a put of which the reply is decided stands: it drains the rest of its body, or tells it
pub decided_stands : (ask : PutAsk) (read : ℕ) (clearing : Clearing) (told : Reply) (next : PutState) (claim : Claim) (log : Log)
    → OwesNext told read ask.long next → read ≤ ask.long → HoldsRest (key_slot (key_of ask.target)) clearing claim log → Drains ask read told log
    → PutStandsAt ask read clearing next claim log
decided_stands ask read clearing told next claim log (inl (less, is)) within held drains =
    subst (λ s. PutStandsAt ask read clearing s claim log) (sym is) (held, drains)
decided_stands ask read clearing told next claim log (inr (whole, is)) within held drains =
    subst (λ s. PutStandsAt ask read clearing s claim log) (sym is) (
      held,
      record {
        untold = drains.untold;
        uncut = drains.uncut;
        owed = owes_call ask.target ask.set ask.stated ask.long ask.now told log (omega (arith, drains.read_is, whole, within))
            (decided_owes ask told log drains.decided);
      },
    )

-- ---- the bucket's look

pub look_stands : (ask : PutAsk) (clearing : Clearing) (k : ℕ) (stub : Option Stub) (shown : Shown) (seen : Looked) (next : PutState) (claim : Claim)
    → AfterLook seen ask.long next → SaysBucket (key_of ask.target).bucket seen (Turned k (noted stub) shown ∷ [])
    → PutStandsAt ask 0 clearing state.Looking claim [] → HoldsRest (key_slot (key_of ask.target)) clearing claim (Turned k (noted stub) shown ∷ [])
    → PutStandsAt ask 0 clearing next claim (Turned k (noted stub) shown ∷ [])
look_stands ask clearing k stub shown (looked.There mode) next claim after says (none, holds, empty) rest =
    subst (λ s. PutStandsAt ask 0 clearing s claim (Turned k (noted stub) shown ∷ [])) (sym after)
    (none, holds, looks (key_of ask.target).bucket (looked.There mode) k stub shown says)
look_stands ask clearing k stub shown (looked.Refused why) next claim after says (none, holds, empty) rest =
    let refused = looks (key_of ask.target).bucket (looked.Refused why) k stub shown says in
    decided_stands ask 0 clearing (Refused why) next claim (Turned k (noted stub) shown ∷ []) after (omega arith) rest
    (record { untold = refused.0.untold; uncut = refused.0.uncut; read_is = ap length refused.0.untaken; decided = inl refused.1 })
look_stands ask clearing k stub shown looked.LacksMemory next claim after says (none, holds, empty) rest =
    subst (λ s. PutStandsAt ask 0 clearing s claim (Turned k (noted stub) shown ∷ [])) (sym after)
    (rest, fresh_pays ask.set (task_of ask) (Turned k (noted stub) shown ∷ []) (looks (key_of ask.target).bucket looked.LacksMemory k stub shown says))

-- ---- bytes that are taken

-- what a log has with some bytes more
fed_sections : (log : Log) (bytes : List ℕ) (why : Option Cut) → sections_of (log ++ Fed bytes why ∷ []) ≡ sections_of log
fed_sections log bytes why = sections_join log (Fed bytes why ∷ []) ∙ append-nil (sections_of log)

fed_body : (log : Log) (bytes : List ℕ) (why : Option Cut) → body_of (log ++ Fed bytes why ∷ []) ≡ body_of log ++ bytes
fed_body log bytes why = bodies_join log (Fed bytes why ∷ []) ∙ ap (λ l. body_of log ++ l) (append-nil bytes)

fed_untold : (log : Log) (bytes : List ℕ) (why : Option Cut) → All IsUntold log → All IsUntold (log ++ Fed bytes why ∷ [])
fed_untold log bytes why none = All-append IsUntold log (Fed bytes why ∷ []) none (one_all IsUntold (Fed bytes why) tt)

pub fed_looked : (bucket : List ℕ) (mode : Mode) (log : Log) (bytes : List ℕ) → HasLookedAt bucket mode log → HasLookedAt bucket mode (log ++ Fed bytes None ∷ [])
fed_looked bucket mode log bytes x = record {
  untold = fed_untold log bytes None x.untold;
  uncut = cuts_after log (Fed bytes None) x.uncut;
  idle = subst (All ChangesNothing) (sym (fed_sections log bytes None)) x.idle;
  look = x.look;
  sections = fed_sections log bytes None ∙ x.sections;
  finds = x.finds;
}

-- bytes of no use
pub drain_on : (ask : PutAsk) (read : ℕ) (told : Reply) (log : Log) (bytes : List ℕ) → Drains ask read told log
    → Drains ask (read + length bytes) told (log ++ Fed bytes None ∷ [])
drain_on ask read told log bytes x = record {
  untold = fed_untold log bytes None x.untold;
  uncut = cuts_after log (Fed bytes None) x.uncut;
  read_is = ap length (fed_body log bytes None) ∙ (length-append (body_of log) bytes ∙ ap (λ n. n + length bytes) x.read_is);
  decided = decided_on (key_of ask.target) told log (Fed bytes None) (fed_sections log bytes None) x.decided;
}

abbrev is_memory : Cut → Type 0
is_memory cut.NoMemory = Unit {0}
is_memory other = ⊥

abbrev with_fed : Log → List ℕ → Option Cut → Log
with_fed log bytes c = log ++ Fed bytes c ∷ []

-- a call that is cut by its feed, or for want of memory, before anything is told, and whose sections changed nothing
pub cut_pays : (ask : PutAsk) (log : Log) (bytes : List ℕ) (why : Cut) (old new : FeedSeen) → All IsUntold log → cuts_of log ≡ []
    → All ChangesNothing (sections_of log) → length (body_of log) ≡ old.view.given → old.view.stated ≡ ask.long → FeedMoves bytes (feed_cut why) old new
    → (why ≡ cut.NoMemory) ⊎ (feed_cut why ≡ Some why)
    → Pays ask.set (task_of ask) (Some why) (log ++ Fed bytes (feed_cut why) ∷ [])
cut_pays ask log bytes why old new untold uncut idle given stated moves kind = by why refl
  where
    did : (c : Option Cut) → All ChangesNothing (sections_of (with_fed log bytes c))
    did c = subst (All ChangesNothing) (sym (fed_sections log bytes c)) idle

    tale : (c : Option Cut) → tale_of (with_fed log bytes c) ≡ []
    tale c = none_told (with_fed log bytes c) (fed_untold log bytes c untold)

    by : (w : Cut) → why ≡ w → Pays ask.set (task_of ask) (Some why) (with_fed log bytes (feed_cut why))
    by cut.ReadFault is = subst (λ w. Pays ask.set (task_of ask) (Some w) (with_fed log bytes (feed_cut w))) (sym is) (record {
      outcome = CutOff cut.ReadFault [];
      ends = refl;
      tells = sym (tale (Some cut.ReadFault));
      owes = (refl, cuts_after log (Fed bytes (Some cut.ReadFault)) uncut, did (Some cut.ReadFault));
    })
    by (cut.BodyCut read long) is =
        let cause = subst (λ w. FeedMoves bytes (feed_cut w) old new) is moves in
        let counted : length (body_of (with_fed log bytes (Some (cut.BodyCut read long)))) ≡ read =
        ap length (fed_body log bytes (Some (cut.BodyCut read long)))
        ∙ (length-append (body_of log) bytes ∙ (ap (λ n. n + length bytes) given ∙ (sym cause.gave.given ∙ sym cause.cause.0))) in
        let states : long ≡ ask.long = cause.cause.1 ∙ (cause.gave.stated ∙ stated) in
        subst (λ w. Pays ask.set (task_of ask) (Some w) (with_fed log bytes (feed_cut w))) (sym is) (record {
          outcome = CutOff (cut.BodyCut read long) [];
          ends = refl;
          tells = sym (tale (Some (cut.BodyCut read long)));
          owes = (
            refl,
            cuts_after log (Fed bytes (Some (cut.BodyCut read long))) uncut,
            sym counted,
            states ∙ sym (call_long ask.target ask.stated ask.long),
            omega (arith, cause.cause.0, cause.cause.1, cause.cause.2),
            did (Some (cut.BodyCut read long)),
          );
        })
    by cut.WriteFault is = elim kind [
      | inl memory ↦ absurd (subst is_memory (sym memory ∙ is) tt)
      | inr fed ↦ let wrong : None ≡ Some cut.WriteFault = subst (λ w. feed_cut w ≡ Some w) is fed in absurd cc
    ]
    by (cut.ShardCut whys) is = elim kind [
      | inl memory ↦ absurd (subst is_memory (sym memory ∙ is) tt)
      | inr fed ↦ let wrong : None ≡ Some (cut.ShardCut whys) = subst (λ w. feed_cut w ≡ Some w) is fed in absurd cc
    ]
    by cut.NoMemory is = subst (λ w. Pays ask.set (task_of ask) (Some w) (with_fed log bytes (feed_cut w))) (sym is)
        (none_pays ask.set (task_of ask) (with_fed log bytes None) (cuts_after log (Fed bytes None) uncut) (tale None) (inl (did None)))

-- bytes that the stage took
pub fill_on : (ask : PutAsk) (work later : Work) (claim : Claim) (log : Log) (old new : FeedSeen) (x : FillsOn work later old new) → Stages ask work claim log
    → Stages ask later claim (log ++ Fed x.bytes None ∷ [])
fill_on ask work later claim log old new x s =
    let task = x.filled.task in
    let more = x.filled.taken (body_of log) s.shards s.taken in
    let event = Fed x.bytes None in
    record {
      looked = subst (λ (m : Mode). HasLookedAt (key_of ask.target).bucket m (log ++ event ∷ [])) (sym x.mode_is) (fed_looked (key_of ask.target).bucket work.mode log x.bytes s.looked);
      held = subst (λ (f : Flight). HoldsPut (key_of ask.target) f claim) (sym x.flight_is) s.held;
      stage_of = record {
        set_is = task.set ∙ s.stage_of.set_is;
        id_is = task.id ∙ (s.stage_of.id_is ∙ sym (ap (λ (f : Flight). f.id) x.flight_is));
        name_is = task.name ∙ s.stage_of.name_is;
        stated_is = task.stated ∙ s.stage_of.stated_is;
        long_is = task.long ∙ s.stage_of.long_is;
      };
      shards = more.0;
      taken = subst (λ (body : List ℕ). HasTaken later.stage.load body more.0) (sym (fed_body log x.bytes None)) more.1;
      letters = λ k below. subst₂ (λ (f : Flight) (w : Why). StageLetter ask.set f.id (log ++ event ∷ []) k w) (sym x.flight_is)
          (ap (λ (l : List Why). slice_index_or l k Good) (sym x.filled.whys))
          (letter_grows ask.set work.flight.id log (event ∷ []) k (why_at work.stage k) (s.letters k below));
      called = λ k below.
          let low = subst (λ (p : SetPlan). k < p.drives) (sym s.stage_of.set_is) below in
          subst (λ (calls : List DriveCall). CalledSo later.stage k (slice_index_or more.0 k []) calls)
          (sym (calls_join k log (event ∷ []) ∙ append-nil (calls_at k log))) (more.3 k (calls_at k log) low (s.called k below));
      claims = subst (λ (f : Flight). ClaimsSo later.stage more.0 f.id claim) (sym x.flight_is) (by more.0 more.2 s.claims);
    }
  where
    by : (after : List (List (List ℕ))) → WorkGoesOn work.stage later.stage s.shards after → ClaimsSo work.stage s.shards work.flight.id claim
        → ClaimsSo later.stage after work.flight.id claim
    by after goes (staging, staged, inl apart) = (staging, staged, inl apart)
    by after goes (staging, staged, inr claims) = (
      staging,
      staged,
      inr (record {
        id_is = claims.id_is;
        works = λ k below used.
            let low = subst (λ (p : SetPlan). k < p.drives) x.filled.task.set below in
            let had = claims.works k low (subst (λ (p : SetPlan). IsInUse p k) x.filled.task.set used) in
            record { cells = had.cells; is = had.is; at_work = goes k no_cells had.cells low had.at_work };
      }),
    )

-- ---- the stage is over

-- the MD5 that was stated, if any, is that of the body
pub put_agrees : (ask : PutAsk) (work : Work) (claim : Claim) (log : Log) (staged : Staged) → Stages ask work claim log → Answers work.stage (Ok staged)
    → IsAgreed ask.stated (body_of log)
put_agrees ask work claim log staged s x given is = (x.body (body_of log) s.shards s.taken).agrees given (s.stage_of.stated_is ∙ is)

-- what it refuses, where no section has a note since the look
pub stage_owes : (ask : PutAsk) (work : Work) (claim : Claim) (log : Log) (why : Refusal) (refused : StageFault) → Stages ask work claim log
    → work.stage.load.left ≡ 0 → refusal_of_stage refused ≡ Some why → Answers work.stage (Err refused)
    → OwesPut ask.target ask.set ask.stated ask.now (Refused why) log
stage_owes ask work claim log why (fault.WriteQuorum whys) s whole is x =
    let says = x.concludes in
    let made = s.taken.made whole in
    let set_is = s.stage_of.set_is in
    inr (inr (inr (inr (inr (record {
      looked = record { look = s.looked.look; sections = s.looked.sections; mode = work.mode; finds = s.looked.finds };
      agreed = λ given stated. says.2 given (s.stage_of.stated_is ∙ stated) ∙ made.etag;
      whys = whys;
      few = record {
        id = work.flight.id;
        few = record {
          counted = ap length says.0 ∙ (work.stage.letters ∙ ap (λ (p : SetPlan). p.drives) set_is);
          few = subst₂ (λ (l : List Why) (p : SetPlan). good_count l < write_drives p.drives p.parity) (sym says.0) set_is says.1;
        };
        of_slot = s.held.of_slot;
        each = λ k below. subst (λ (l : List Why). StageLetter ask.set work.flight.id log k (slice_index_or l k Good)) (sym says.0) (s.letters k below);
      };
      told = sym (ap Refused (some_why (refusal.WriteQuorum whys) why is));
    })))))
stage_owes ask work claim log why (fault.BadDigest given computed) s whole is x =
    let says = x.concludes in
    let made = s.taken.made whole in
    let computed_is = says.1 ∙ made.etag in
    inr (inr (inr (inr (inl (record {
      looked = record { look = s.looked.look; sections = s.looked.sections; mode = work.mode; finds = s.looked.finds };
      given = given;
      given_is = sym s.stage_of.stated_is ∙ says.0;
      differs = λ same. says.2 (same ∙ sym computed_is);
      told = sym (ap Refused (some_why (refusal.BadDigest given computed) why is)) ∙ ap (λ (m : List ℕ). Refused (refusal.BadDigest given m)) computed_is;
    })))))
stage_owes ask work claim log why fault.BodyCut s whole is x = absurd x.concludes
stage_owes ask work claim log why fault.ReadFault s whole is x = absurd x.concludes
stage_owes ask work claim log why fault.NoMemory s whole is x = absurd x.concludes
