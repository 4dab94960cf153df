-- The step of a reading, as a step of its op.
use Rattle.std.proofs.Common.{◌≡◌, ◌⊎◌, ◌<◌, ◌≤◌, ◌+◌, ◌∙◌, ℕ, Bool, true, false, List, [], ◌++◌, Option, Some, None, Result, Ok, Err, length, inl, inr, ap, refl, subst, sym, arith}
use Rattle.std.proofs.lemmas.List.{length-append}
use Rattle.call_types.specs.declared.feed.Cut.TheVariants as cut_of
use Rattle.call_types.specs.declared.names.Key.{Key}
use Rattle.call_types.specs.declared.names.Pick.{Pick}
use Rattle.call_types.specs.declared.names.RangeAsk.{RangeAsk}
use Rattle.call_types.specs.declared.names.Span.{Span}
use Rattle.call_types.specs.declared.names.VersionName.{VersionName}
use Rattle.call_types.specs.declared.refusal.Refusal.TheVariants.{ShardQuorum as FewShards}
use Rattle.call_types.specs.declared.reply.Reply.TheVariants.{Found, Refused as RefusedReply}
use Rattle.call_types.specs.declared.version.Version.{Version}
use Rattle.call_types.specs.declared.why.Why.{Why}
use Rattle.drive_base.specs.View.{views}
use Rattle.drive_base.specs.declared.drive.Drive.{Ghosts}
use Rattle.drive_base.specs.declared.plan.SetPlan.{SetPlan}
use Rattle.get_read.specs.Account.{Account}
use Rattle.get_read.specs.Readers.{AnswersBy, AreCalls, AreOfState, IsAccountOf, IsRefusedIn, Told, all_calls, given_after, told_after, turns}
use Rattle.get_read.specs.declared.faults.BodyFault.{BodyFault}
use Rattle.get_read.specs.declared.faults.BodyFault.TheVariants.{ShardQuorum}
use Rattle.get_read.specs.declared.reader.ReadStep.{ReadStep}
use Rattle.get_read.specs.declared.reader.ReadStep.TheVariants.{Done, More, Piece}
use Rattle.get_read.specs.declared.state.Asked.{Asked}
use Rattle.get_read.specs.declared.state.State.{State}
use Rattle.slot_core.specs.declared.holding.Pin.{Pin}
use Rattle.span_plan.specs.Span.{Plans}
use Rattle.receipts.specs.Events.{Log, tale_of}
use Rattle.receipts.specs.Letters.{CannotRead, FewBlocks}
use Rattle.receipts.specs.Paying.{Pays}
use Rattle.receipts.specs.Paying.Outcome.{CutOff}
use Rattle.receipts.specs.Reading.{BodyIsLost}
use Rattle.receipts.specs.Registers.{key_slot}
use Rattle.receipts.specs.Spans.{AreOfVersion, body_length, whole_of}
use Rattle.op_steps.specs.Claims.{Claim}
use Rattle.op_steps.specs.Words.{CallsOne}
use Rattle.object_ops.specs.Read.{ReadStands, fetched_state}
use Rattle.object_ops.specs.Reading.{HasPin, HoldsPin}
use Rattle.object_ops.specs.ReadingTold.{AreLogged, IsLogged, HasTold, IsFetching, IsGiving}
use Rattle.object_ops.specs.ReadingPlan.{IsOfSpan, wanted_by}
use Rattle.object_ops.specs.ReadingStep.{IsStepped, ReadsSo, StaysReading}
use Rattle.object_ops.specs.declared.read_op.ReadKind.TheVariants as asks
use Rattle.object_ops.specs.declared.reading.Reading.{Reading}
use Rattle.object_ops.specs.declared.reading.Stepped.{Stepped}
use Rattle.object_ops.specs.declared.reading.Stepped.TheVariants.{Gives, Goes, LacksMemory, Refused}
use Rattle.object_ops.proofs.ReadingBlocks.{few_blocks}
use Rattle.object_ops.proofs.ReadingCalls.{all_logged_on, calls_so, events_of, events_quiet, logged_on}
use Rattle.object_ops.proofs.ReadingManifest.{none_serves}
use Rattle.object_ops.proofs.ReadingPays.{front_told, lack_pays, of_version, ready, the_task, told_on}

-- a pin that is held may be held
pub may_hold : (slot : ℕ) (pin : Option Pin) (claim : Claim) → HasPin slot pin claim → HoldsPin slot pin claim
may_hold slot None claim has = absurd has
may_hold slot (Some pin) claim has = has

-- too few drives gave the next byte, after so many
lost : (set : SetPlan) (ask : RangeAsk) (version : Version) (id : Option VersionName) (reading : Reading) (whys : List Why) (told : Told) (given : ℕ) (log : Log)
    → IsOfSpan set ask version id reading → 0 < reading.span.length → AreLogged (all_calls told) log → IsLogged told log
    → IsRefusedIn reading.reader.asked (ShardQuorum whys) told given → BodyIsLost set version reading.span (reading.span.at + given) whys log
lost set ask version id reading whys told given log is some all_logged logged refused =
    let asked = reading.reader.asked in
    let cause : CannotRead asked.wanted.set (wanted_by asked) (asked.span.at + given) whys log = elim refused [
      | inl none ↦ inl (none_serves asked.wanted.set asked.id asked.wanted.print asked.wanted.reach whys (all_calls told) log all_logged none.0)
      | inr few ↦ inr (few_blocks asked.wanted.set asked.id asked.wanted.print asked.wanted.reach (asked.span.at + given) whys told log all_logged logged few)
    ] in
    record {
      wanted = wanted_by asked;
      is_wanted = is.wanted;
      some = some;
      cause = subst (λ (s : SetPlan). CannotRead s (wanted_by asked) (reading.span.at + given) whys log) is.set_is
          (subst (λ (s : Span). CannotRead asked.wanted.set (wanted_by asked) (s.at + given) whys log) is.span_is cause);
    }

-- and after some they gave too few blocks of it
lost_later : (set : SetPlan) (ask : RangeAsk) (version : Version) (id : Option VersionName) (reading : Reading) (whys : List Why) (told : Told) (given : ℕ) (log : Log)
    → IsOfSpan set ask version id reading → 0 < given → AreLogged (all_calls told) log → IsLogged told log
    → IsRefusedIn reading.reader.asked (ShardQuorum whys) told given → FewBlocks set (wanted_by reading.reader.asked) (reading.span.at + given) whys log
lost_later set ask version id reading whys told given log is some all_logged logged (inl none) = absurd (omega (arith, some, none.1))
lost_later set ask version id reading whys told given log is some all_logged logged (inr few) =
    let asked = reading.reader.asked in
    subst (λ (s : SetPlan). FewBlocks s (wanted_by asked) (reading.span.at + given) whys log) is.set_is
    (subst (λ (s : Span). FewBlocks asked.wanted.set (wanted_by asked) (s.at + given) whys log) is.span_is
    (few_blocks asked.wanted.set asked.id asked.wanted.print asked.wanted.reach (asked.span.at + given) whys told log all_logged logged few))

module _ (set : SetPlan) (at : Key) (pick : Pick) (ask : RangeAsk) (matches : Option (List ℕ)) (now : ℕ) where
  -- what is known of a reading behind a step: it is of the same version, what its reader gave is told but for its last piece, and its calls are in the log
  record HasRead (new : Reading) (told : Told) (given bytes : List ℕ) (log : Log) : Type 0 where
    pub version : Version
    pub id : Option VersionName
    pub of_span : IsOfSpan set ask version id new
    pub account : IsAccountOf new.reader told given
    pub all_logged : AreLogged (all_calls told) log
    pub logged : IsLogged told log
    pub counted : length bytes + new.left ≡ new.span.length
    pub more : 0 < new.left
    pub some : new.told ≡ true → 0 < length bytes
    pub has_told : HasTold set (the_task set at pick ask matches now) at pick version new.span id new.told bytes log

  module _ (new : Reading) (told : Told) (log : Log) where
    -- more calls are due
    goes : (bytes : List ℕ) → HasRead new told bytes bytes log → IsFetching set (the_task set at pick ask matches now) at pick ask new log
    goes bytes x = record {
      version = x.version;
      id = x.id;
      of_span = x.of_span;
      told = told;
      given = bytes;
      account = x.account;
      all_logged = x.all_logged;
      logged = x.logged;
      counted = x.counted;
      more = x.more;
      some = x.some;
      has_told = x.has_told;
    }

    -- a piece is there
    gives : (bytes : List ℕ) → HasRead new told (bytes ++ new.reader.piece.items) bytes log → told.since ≡ [] → 0 < length new.reader.piece.items
        → length (bytes ++ new.reader.piece.items) ≤ new.reader.asked.span.length → IsGiving set (the_task set at pick ask matches now) at pick ask new log
    gives bytes x turned some within =
        let long : length (bytes ++ new.reader.piece.items) ≡ length bytes + length new.reader.piece.items = length-append bytes new.reader.piece.items in
        let span : new.reader.asked.span.length ≡ new.span.length = ap (λ (s : Span). s.length) x.of_span.span_is in
        record {
          version = x.version;
          id = x.id;
          of_span = x.of_span;
          told = told;
          bytes = bytes;
          account = x.account;
          all_logged = x.all_logged;
          turned = turned;
          counted = x.counted;
          some = some;
          fits = omega (arith, within, long, span, x.counted);
          has_told = x.has_told;
        }

    -- what was told is of the version
    given_so : (bytes : List ℕ) (x : HasRead new told bytes bytes log) → AreOfVersion set x.version.what new.span bytes log
    given_so bytes x = of_version set ask x.version x.id new told bytes log x.of_span x.all_logged x.account.exact

    -- too few drives gave what is next, before the head was told or after
    few : (whys : List Why) (bytes : List ℕ) (pin : Option Pin) (claim : Claim) (t : Bool) → (x : HasRead new told bytes bytes log) → new.told ≡ t
        → IsRefusedIn new.reader.asked (ShardQuorum whys) told (length bytes) → HasPin (key_slot at) pin claim
        → ReadStands set (the_task set at pick ask matches now) at pick (asks.Get ask) (fetched_state (Refused whys) t) pin (Some new) claim log
    few whys bytes pin claim false x is refused has =
        let none = subst (λ b. HasTold set (the_task set at pick ask matches now) at pick x.version new.span x.id b bytes log) is x.has_told in
        let some : 0 < new.span.length = omega (arith, x.counted, x.more) in
        let start : new.span.at + length bytes ≡ new.span.at = omega (arith, ap (length {A = ℕ}) none.none) in
        let is_lost = lost set ask x.version x.id new whys told (length bytes) log x.of_span some x.all_logged x.logged refused in (
          may_hold (key_slot at) pin claim has,
          record {
            ready = ready set at pick ask matches now (RefusedReply (FewShards whys)) log none.fresh (inr (record {
              whole = Found x.version (whole_of x.version) x.id;
              reads = none.reads;
              tells = inr (
                none.met,
                inl (record {
                  span = new.span;
                  plans = x.of_span.plans;
                  told = inr (whys, subst (λ (n : ℕ). BodyIsLost set x.version new.span n whys log) start is_lost, refl);
                }),
              );
            }));
            none_after = refl;
            gives = λ more. refl;
          },
        )
    few whys bytes pin claim true x is refused has =
        let told_so = subst (λ b. HasTold set (the_task set at pick ask matches now) at pick x.version new.span x.id b bytes log) is x.has_told in (
          has,
          record {
            outcome = CutOff (cut_of.ShardCut whys) (tale_of log);
            ends = refl;
            tells = refl;
            owes = record {
              version = x.version;
              span = new.span;
              id = x.id;
              bytes = bytes;
              tale_is = told_so.tale;
              some = x.some is;
              less = omega (arith, x.counted, x.more);
              front = front_told set at pick ask matches now x.version new.span x.id bytes log told_so (given_so bytes x);
              wanted = wanted_by new.reader.asked;
              is_wanted = x.of_span.wanted;
              few = lost_later set ask x.version x.id new whys told (length bytes) log x.of_span (x.some is) x.all_logged x.logged refused;
              uncut = told_so.uncut;
            };
          },
        )

    -- there was not enough memory
    lacks : (bytes : List ℕ) → HasRead new told bytes bytes log → Pays set (the_task set at pick ask matches now) (Some cut_of.NoMemory) log
    lacks bytes x = lack_pays set at pick ask matches now x.version new.span x.id new.told bytes log x.has_told (omega (arith, x.counted)) (given_so bytes x)

  -- the rest of a reading behind a step
  module _ (old new : Reading) (log : Log) (x : IsFetching set (the_task set at pick ask matches now) at pick ask old log) (stays : StaysReading old new) where
    span_long : new.span.length ≡ old.span.length
    span_long = ap (λ (s : Span). s.length) stays.span_is

    of_span_on : IsOfSpan set ask x.version x.id new
    of_span_on = record {
      plans = subst (λ (s : Span). Plans (body_length x.version.what) ask (Ok s)) (sym stays.span_is) x.of_span.plans;
      reply_is = stays.reply_is ∙ (x.of_span.reply_is ∙ ap (λ (s : Span). Found x.version s x.id) (sym stays.span_is));
      wanted = rw (stays.span_is, stays.asked_is) x.of_span.wanted;
      set_is = ap (λ (a : Asked). a.wanted.set) stays.asked_is ∙ x.of_span.set_is;
      span_is = ap (λ (a : Asked). a.span) stays.asked_is ∙ (x.of_span.span_is ∙ sym stays.span_is);
    }

    -- with an account that has the calls of the step
    read_on : (told : Told) (given : List ℕ) (calls : Account) → IsAccountOf new.reader told given → AreLogged (all_calls told) (log ++ events_of calls)
        → IsLogged told (log ++ events_of calls) → HasRead new told given x.given (log ++ events_of calls)
    read_on told given calls account all_logged logged = record {
      version = x.version;
      id = x.id;
      of_span = of_span_on;
      account = account;
      all_logged = all_logged;
      logged = logged;
      counted = omega (arith, x.counted, stays.left_is, span_long);
      more = omega (arith, x.more, stays.left_is);
      some = λ told_now. x.some (sym stays.told_is ∙ told_now);
      has_told = rw (stays.span_is, stays.told_is)
          (told_on set at pick ask matches now x.version old.span x.id old.told x.given log (events_of calls) (events_quiet calls) x.has_told);
    }

    -- how far the op is then, by what the reader answered
    stands_so : (answer : Result ReadStep BodyFault) (stepped : Stepped) (told : Told) (later : Log) (pin : Option Pin) (claim : Claim) → IsStepped answer stepped
        → HasRead new told (given_after answer new.reader.piece.items x.given) x.given later
        → AnswersBy answer new.reader.asked new.reader.state new.reader.piece.items told (given_after answer new.reader.piece.items x.given)
        → (answer ≡ Ok Piece → told.since ≡ []) → HasPin (key_slot at) pin claim
        → ReadStands set (the_task set at pick ask matches now) at pick (asks.Get ask) (fetched_state stepped new.told) pin (Some new) claim later
    stands_so (Ok More) stepped told later pin claim is r answers turned has =
        subst (λ s. ReadStands set (the_task set at pick ask matches now) at pick (asks.Get ask) (fetched_state s new.told) pin (Some new) claim later) (sym is)
        (has, goes new told later x.given r)
    stands_so (Ok Piece) stepped told later pin claim is r answers turned has =
        subst (λ s. ReadStands set (the_task set at pick ask matches now) at pick (asks.Get ask) (fetched_state s new.told) pin (Some new) claim later) (sym is)
        (has, gives new told later x.given r (turned refl) answers.0 answers.1)
    stands_so (Ok Done) stepped told later pin claim is r answers turned has =
        let span : new.reader.asked.span.length ≡ new.span.length = ap (λ (s : Span). s.length) r.of_span.span_is in
        absurd (omega (arith, answers.0, span, r.counted, r.more))
    stands_so (Err fault) Goes told later pin claim is r answers turned has = absurd is
    stands_so (Err fault) Gives told later pin claim is r answers turned has = absurd is
    stands_so (Err fault) (Refused whys) told later pin claim is r answers turned has =
        few new told later whys x.given pin claim new.told r refl
        (subst (λ (f : BodyFault). IsRefusedIn new.reader.asked f told (length x.given)) is answers) has
    stands_so (Err fault) LacksMemory told later pin claim is r answers turned has = (has, lacks new told later x.given r)

-- a reader turns where it gives a piece
turned_so : (answer : Result ReadStep BodyFault) (old new : State) (told : Told) (calls : Account) → answer ≡ Ok Piece
    → (told_after (turns answer old new) told calls).since ≡ []
turned_so answer old new told calls is = subst (λ (a : Result ReadStep BodyFault). (told_after (turns a old new) told calls).since ≡ []) (sym is) refl

module _ {D : Type 0} (ghosts : Ghosts D) (set : SetPlan) (at : Key) (pick : Pick) (ask : RangeAsk) (matches : Option (List ℕ)) (now : ℕ) where
  -- one step of a reading: its call, or none, where there was not enough memory or a piece was at hand
  pub fetched : (old new : Reading) (stepped : Stepped) (pin : Option Pin) (claim : Claim) (log : Log) (before after : List D) → StaysReading old new
      → ReadsSo ghosts old new stepped before after → length after ≡ length before → HasPin (key_slot at) pin claim
      → IsFetching set (the_task set at pick ask matches now) at pick ask old log
      → CallsOne (ReadStands set (the_task set at pick ask matches now) at pick (asks.Get ask) (fetched_state stepped new.told) pin (Some new)) set claim log
      (views ghosts before) (views ghosts after)
      ⊎ (ReadStands set (the_task set at pick ask matches now) at pick (asks.Get ask) (fetched_state stepped new.told) pin (Some new) claim log
      × (views ghosts after ≡ views ghosts before))
  fetched old new stepped pin claim log before after stays (inl lacks_it) long has x =
      let pays : Pays set (the_task set at pick ask matches now) (Some cut_of.NoMemory) log =
      lack_pays set at pick ask matches now x.version old.span x.id old.told x.given log x.has_told (omega (arith, x.counted))
      (of_version set ask x.version x.id old x.told x.given log x.of_span x.all_logged x.account.exact) in inr (
        subst (λ s. ReadStands set (the_task set at pick ask matches now) at pick (asks.Get ask) (fetched_state s new.told) pin (Some new) claim log) (sym lacks_it.0) (has, pays),
        ap (views ghosts) lacks_it.1,
      )
  fetched old new stepped pin claim log before after stays (inr stepped_so) long has x =
      let answer = stepped_so.0 in
      let steps = stepped_so.1.step in
      let same = stepped_so.1.asked in
      let calls = steps.calls in
      let are : AreCalls ghosts set.out calls before after = subst (λ (s : SetPlan). AreCalls ghosts s.out calls before after) x.of_span.set_is steps.are in
      let turned = turns answer old.reader.state new.reader.state in
      let told : Told = told_after turned x.told calls in
      let piece = new.reader.piece.items in
      let given = given_after answer piece x.given in
      let on = steps.goes_on x.told x.given x.account in
      let account : IsAccountOf new.reader told given = subst (λ (a : Asked). AreOfState a new.reader.state told given) (sym same) on.0 in
      let answers : AnswersBy answer new.reader.asked new.reader.state piece told given =
      subst (λ (a : Asked). AnswersBy answer a new.reader.state piece told given) (sym same) on.1 in
      let r = read_on set at pick ask matches now old new log x stays told given calls account
      (all_logged_on ghosts set turned x.told calls log before after are x.all_logged)
      (logged_on ghosts set turned x.told calls log before after are x.all_logged x.logged) in
      calls_so ghosts set (ReadStands set (the_task set at pick ask matches now) at pick (asks.Get ask) (fetched_state stepped new.told) pin (Some new)) calls before after claim log
      long are
      (stands_so set at pick ask matches now old new log x stays answer stepped told (log ++ events_of calls) pin claim stepped_so.2 r answers
      (turned_so answer old.reader.state new.reader.state x.told calls) has)
