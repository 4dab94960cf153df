-- A reader before and after one step in a stripe.
use Rattle.std.proofs.Common.{◌≡◌, ◌∙◌, ℕ, ◌+◌, ◌-◌, ◌*◌, ◌<◌, ◌≤◌, List, ◌++◌, length, slice_index_or, take, drop, ap, refl, subst, sym, inl, inr, arith}
use Rattle.std.specs.Prelude.{Err, None, Ok, Result, Some, Vec, false, true}
use Rattle.std.specs.Global.{Global}
use Rattle.std.proofs.lemmas.List.{length-append, length-take}
use Rattle.std.proofs.lemmas.Option.{slice_get-get_or}
use Rattle.drive_base.specs.Plan.{data_drives}
use Rattle.drive_base.specs.declared.drive.Drive.{Ghosts}
use Rattle.manifest_file.specs.declared.manifest.ManifestPart.{ManifestPart}
use Rattle.shard_file.specs.Stripes.{stripe_size}
use Rattle.get_read.specs.Account.{Account, AreInUse}
use Rattle.get_read.specs.Progress.{FetchAnswers, FetchSteps, IsRunBy}
use Rattle.get_read.specs.Causes.{body_length}
use Rattle.get_read.specs.Given.{AreOfSpanIn, IsFoundIn}
use Rattle.get_read.specs.Blocks.{all_bytes}
use Rattle.get_read.specs.Readers.{AreCalls, AreOfState, AreTablesOf, IsRefusedIn, IsStateOf, StepsFrom, Told, all_calls, set_of, told_after, wants}
use Rattle.get_read.specs.Turns.{GivesPiece, wanted_of_stripe}
use Rattle.get_read.specs.declared.faults.BodyFault.{BodyFault}
use Rattle.get_read.specs.declared.faults.BodyFault.TheVariants.{InvalidRange, ShardQuorum, NoMemory}
use Rattle.get_read.specs.declared.reader.ReadStep.{ReadStep}
use Rattle.get_read.specs.declared.reader.ReadStep.TheVariants.{More, Piece, Done}
use Rattle.get_read.specs.declared.state.Asked.{Asked}
use Rattle.get_read.specs.declared.state.PartWork.{PartWork}
use Rattle.get_read.specs.declared.fetch.Fetching.{Fetching as FetchingRecord}
use Rattle.get_read.specs.declared.state.State.{State}
use Rattle.get_read.specs.declared.state.State.TheVariants.{Fetching, Refused}
use Rattle.get_read.proofs.AccountLemmas.{found_on, span_on}
use Rattle.get_read.proofs.GivingLemmas.{given_on}
use Rattle.get_read.proofs.ReaderLemmas.{ends_without, fetch_begins, in_use_on, no_turn, none_held, one_turn, stands_after}

-- the tables of the same part are held on
held_again : (d : ℕ) (parts : List ManifestPart) (old new : PartWork) (was is : ManifestPart) (calls : Account) → new ≡ old
    → ((e : ManifestPart) → slice_index_or parts old.place e ≡ was) → ((e : ManifestPart) → slice_index_or parts new.place e ≡ is)
    → AreTablesOf d was (all_bytes old.tables.items) calls → AreTablesOf d is (all_bytes new.tables.items) calls
held_again d parts old new was is calls same was_is is_so held =
    let part : was ≡ is = sym (was_is was) ∙ ap (λ (w : PartWork). slice_index_or parts w.place was) (sym same) ∙ is_so was in
    subst (λ (w : PartWork). AreTablesOf d is (all_bytes w.tables.items) calls) (sym same)
    (subst (λ (q : ManifestPart). AreTablesOf d q (all_bytes old.tables.items) calls) part held)

-- where the next byte is that a reader gives
pub record AtPlace (f : FetchingRecord) : Type 0 where
  pub inside : f.part.place < length f.manifest.parts
  pub begins : f.part.begin ≡ body_length (take f.part.place f.manifest.parts)
  pub long : (d : ManifestPart) → (slice_index_or f.manifest.parts f.part.place d).length ≡ f.part.long
  pub begun : f.part.begin + f.work.stripe * stripe_size ≤ f.at
  pub in_part : f.at < f.part.begin + f.part.long
  pub in_stripe : f.at < f.part.begin + f.work.stripe * stripe_size + stripe_size
  pub before_end : f.at < f.asked.wanted.reach
  pub end : f.asked.span.at + f.asked.span.length ≡ f.asked.wanted.reach

-- what the type says of it
pub at_place : (f : FetchingRecord) → AtPlace f
at_place f = record {
  inside = f.in_manifest;
  begins = f.begins;
  long = f.part_long;
  begun = f.begun;
  in_part = f.in_part;
  in_stripe = f.in_stripe;
  before_end = f.before_end;
  end = f.asked.end;
}

-- a manifest that was found before the last turn was found
found_before : (told : Told) (calls : Account) (next : FetchingRecord) → IsFoundIn (wants next.asked) next.asked.id next.manifest told.before
    → IsFoundIn (wants next.asked) next.asked.id next.manifest (all_calls told ++ calls)
found_before told calls next found = found_on (wants next.asked) next.asked.id next.manifest (all_calls told) calls
    (found_on (wants next.asked) next.asked.id next.manifest told.before told.since found)

-- what is wanted of a stripe ends where the span does, or before
piece_within : (next : FetchingRecord) (stripe : List ℕ) → length (wanted_of_stripe next stripe) ≤ next.asked.wanted.reach - next.at
piece_within next stripe = omega (arith, length-take (next.asked.wanted.reach - next.at) (drop (next.at - next.part.begin - next.work.stripe * stripe_size) stripe))

-- why a stripe is refused
fetch_cause : (fault : BodyFault) (asked : Asked) (next : FetchingRecord) (told : Told) (given : ℕ) → next.asked ≡ asked → AtPlace next
    → next.at ≡ asked.span.at + given → FetchAnswers {Z = Global} (Err fault) next told → IsRefusedIn asked fault told given
fetch_cause (InvalidRange n) asked next told given same place at answers = answers.stripe
fetch_cause NoMemory asked next told given same place at answers = tt
fetch_cause (ShardQuorum whys) asked next told given same place at answers =
    let is = answers.is_part in
    let m = next.manifest in
    let part = is.part in
    let k = next.part.place in
    let long : part.length ≡ next.part.long = ap (λ (q : ManifestPart). q.length) (sym (is.part_is part)) ∙ place.long part in
    let there : next.at ≡ next.asked.span.at + given = at ∙ ap (λ (a : Asked). a.span.at + given) (sym same) in
    subst (λ (a : Asked). IsRefusedIn a (ShardQuorum whys) told given) same
    (inr (record {
      manifest = m;
      found = is.found;
      place = k;
      part = part;
      stripe = next.work.stripe;
      next_in = record {
        is = slice_get-get_or m.parts k part place.inside ∙ ap Some (is.part_is part);
        begun = omega (arith, place.begins, place.begun, there);
        ends = omega (arith, place.begins, place.in_stripe, there);
        within = omega (arith, place.begins, place.in_part, there, long);
      };
      needed = omega (arith, place.before_end, there);
      few = answers.stripe;
    }))

module _ {D : Type 0} (ghosts : Ghosts D) where
  -- the reading of the stripe goes on
  pub fetch_goes_on : (asked : Asked) (fetching next : FetchingRecord) (piece : List ℕ) (before after : List D) → fetching.asked ≡ asked
      → FetchSteps {Z = Global} ghosts fetching next (Ok None) before after
      → StepsFrom ghosts asked (Fetching fetching) (Fetching next) piece (Ok More) before after
  fetch_goes_on asked fetching next piece before after same steps =
      let are : AreCalls ghosts (set_of asked).out steps.calls before after = subst (λ (a : Asked). AreCalls ghosts (set_of a).out steps.calls before after) same steps.are in
      record {
        calls = steps.calls;
        are = are;
        made = steps.made;
        stays = tt;
        goes_on = λ told given so.
            let answers = steps.goes_on told so.is.2 in (
              stands_after ghosts false asked (Fetching fetching) (Fetching next) told steps.calls before after given so are
                  (steps.asked ∙ same, steps.at ∙ so.is.1, record { is_part = answers.is_part; stripe = answers.stripe; ahead = answers.ahead }),
              tt,
            );
      }

  -- it is refused
  pub fetch_refused : (asked : Asked) (fetching next : FetchingRecord) (piece : List ℕ) (fault : BodyFault) (before after : List D) → fetching.asked ≡ asked
      → AtPlace next → FetchSteps {Z = Global} ghosts fetching next (Err fault) before after
      → StepsFrom ghosts asked (Fetching fetching) (Refused fault) piece (Err fault) before after
  fetch_refused asked fetching next piece fault before after same place steps =
      let are : AreCalls ghosts (set_of asked).out steps.calls before after = subst (λ (a : Asked). AreCalls ghosts (set_of a).out steps.calls before after) same steps.are in
      record {
        calls = steps.calls;
        are = are;
        made = steps.made;
        stays = tt;
        goes_on = λ told given so.
            let cause = fetch_cause fault asked next (told_after false told steps.calls) (length given) (steps.asked ∙ same) place (steps.at ∙ so.is.1)
            (steps.goes_on told so.is.2) in
            (stands_after ghosts false asked (Fetching fetching) (Refused fault) told steps.calls before after given so are cause, cause);
      }

  -- what was given stands with one piece more
  given_after_stripe : (asked : Asked) (fetching next : FetchingRecord) (stripe : Vec ℕ Global) (piece : List ℕ) (told : Told) (given : List ℕ)
      (before after : List D) → fetching.asked ≡ asked → AtPlace next → (steps : FetchSteps {Z = Global} ghosts fetching next (Ok (Some stripe)) before after)
      → piece ≡ wanted_of_stripe next stripe.items → AreOfState asked (Fetching fetching) told given
      → AreOfSpanIn (set_of asked).drives (set_of asked).parity asked.wanted.print asked.span.at asked.wanted.reach (given ++ piece) (all_calls told ++ steps.calls)
  given_after_stripe asked fetching next stripe piece told given before after same place steps is so =
      let answers = steps.goes_on told so.is.2 in
      let part = answers.is_part in
      let calls = all_calls told ++ steps.calls in
      let whole = no_turn told steps.calls in
      let a = next.asked in
      let back : a ≡ asked = steps.asked ∙ same in
      let long : part.part.length ≡ next.part.long = ap (λ (q : ManifestPart). q.length) (sym (part.part_is part.part)) ∙ place.long part.part in
      let at : next.at ≡ a.span.at + length given = steps.at ∙ so.is.1 ∙ ap (λ (b : Asked). b.span.at + length given) (sym back) in
      let exact : AreOfSpanIn (set_of a).drives (set_of a).parity a.wanted.print a.span.at a.wanted.reach given calls =
      subst (λ (b : Asked). AreOfSpanIn (set_of b).drives (set_of b).parity b.wanted.print b.span.at b.wanted.reach given calls) (sym back)
      (span_on (set_of asked).drives (set_of asked).parity asked.wanted.print asked.span.at asked.wanted.reach given (all_calls told) steps.calls so.exact) in
      let piece_is : piece ≡ take (a.wanted.reach - next.at) (drop (next.at - body_length (take next.part.place next.manifest.parts) - next.work.stripe * stripe_size) stripe.items) =
      is ∙ ap (λ (b : ℕ). take (a.wanted.reach - next.at) (drop (next.at - b - next.work.stripe * stripe_size) stripe.items)) place.begins in
      subst (λ (b : Asked). AreOfSpanIn (set_of b).drives (set_of b).parity b.wanted.print b.span.at b.wanted.reach (given ++ piece) calls) back
      (given_on (set_of a) a.wanted.print a.id a.span.at a.wanted.reach next.manifest part.part next.part.place next.work.stripe answers.stripe.0 next.at given stripe.items piece calls
      (found_before told steps.calls next part.found) place.inside part.part_is at place.before_end
      (omega (arith, place.begins, place.begun)) (omega (arith, place.begins, place.in_stripe, answers.stripe.1)) (omega (arith, place.begins, place.in_part, long))
      piece_is (subst (IsRunBy (set_of a) part.part next.work.stripe answers.stripe.0 stripe.items) whole answers.stripe.2) exact)

  -- a piece of a stripe is given
  pub fetch_given : (asked : Asked) (fetching next : FetchingRecord) (stripe : Vec ℕ Global) (new : State) (piece : List ℕ) (result : Result ReadStep BodyFault)
      (before after : List D) → fetching.asked ≡ asked → AtPlace next → FetchSteps {Z = Global} ghosts fetching next (Ok (Some stripe)) before after
      → GivesPiece (Refused NoMemory) new piece next stripe.items result → StepsFrom ghosts asked (Fetching fetching) new piece result before after
  fetch_given asked fetching next stripe new piece (Ok More) before after same place steps gives = absurd gives
  fetch_given asked fetching next stripe new piece (Ok Done) before after same place steps gives = absurd gives
  fetch_given asked fetching next stripe new piece (Err fault) before after same place steps gives =
      let are : AreCalls ghosts (set_of asked).out steps.calls before after = subst (λ (a : Asked). AreCalls ghosts (set_of a).out steps.calls before after) same steps.are in
      ends_without ghosts asked (Fetching fetching) new piece fault steps.calls before after are (omega (arith, steps.made)) tt gives.0 gives.1
  fetch_given asked fetching next stripe new piece (Ok Piece) before after same place steps gives =
      let are : AreCalls ghosts (set_of asked).out steps.calls before after = subst (λ (a : Asked). AreCalls ghosts (set_of a).out steps.calls before after) same steps.are in
      record {
        calls = steps.calls;
        are = are;
        made = omega (arith, steps.made);
        stays = tt;
        goes_on = λ told given so.
            let after_it = told_after true told steps.calls in
            let answers = steps.goes_on told so.is.2 in
            let back : next.asked ≡ asked = steps.asked ∙ same in
            let more : length (given ++ piece) ≡ length given + length piece = length-append given piece in
            let at : next.at ≡ asked.span.at + length given = steps.at ∙ so.is.1 in
            let reach : asked.span.at + asked.span.length ≡ next.asked.wanted.reach =
            subst (λ (a : Asked). a.span.at + a.span.length ≡ next.asked.wanted.reach) back place.end in
            let part = answers.is_part in
            let found : IsFoundIn (wants next.asked) next.asked.id next.manifest (all_calls told ++ steps.calls) =
            found_before told steps.calls next part.found in
            let found_now : IsFoundIn (wants asked) asked.id next.manifest (all_calls told ++ steps.calls) =
            subst (λ (a : Asked). IsFoundIn (wants a) a.id next.manifest (all_calls told ++ steps.calls)) back found in
            let state : IsStateOf asked new after_it (length (given ++ piece)) = elim gives.2 [
              | inl ends ↦ subst (λ (s : State). IsStateOf asked s after_it (length (given ++ piece))) (sym ends.1)
                  (omega (arith, more, ends.0, reach, at), subst (IsFoundIn (wants asked) asked.id next.manifest) (sym (one_turn told steps.calls)) found_now)
              | inr turns_to ↦ subst (λ (s : State). IsStateOf asked s after_it (length (given ++ piece))) (sym turns_to.1) (
                turns_to.2.asked_is ∙ back,
                omega (arith, turns_to.2.at_is, more, at),
                fetch_begins next.asked next.manifest (next.at + length piece) turns_to.0 (all_calls told ++ steps.calls) turns_to.2 found
                    (λ q is. elim turns_to.3 [
                      | inl within ↦ held_again (data_drives (set_of next.asked).drives (set_of next.asked).parity) next.manifest.parts next.part turns_to.0.part part.part q
                          (all_calls told ++ steps.calls) within.1 part.part_is is
                          (subst (AreTablesOf (data_drives (set_of next.asked).drives (set_of next.asked).parity) part.part (all_bytes next.part.tables.items)) (no_turn told steps.calls) part.held)
                      | inr past ↦ none_held _ (set_of turns_to.0.asked).drives q (all_bytes turns_to.0.part.tables.items) (all_calls told ++ steps.calls) past.1
                    ])
                    after_it refl (one_turn told steps.calls),
              )
            ] in (
              record {
                in_use = subst (AreInUse (set_of asked).out) (sym (one_turn told steps.calls))
                    (in_use_on ghosts (set_of asked).out (all_calls told) steps.calls before after so.in_use are);
                exact = subst (AreOfSpanIn (set_of asked).drives (set_of asked).parity asked.wanted.print asked.span.at asked.wanted.reach (given ++ piece)) (sym (one_turn told steps.calls))
                    (given_after_stripe asked fetching next stripe piece told given before after same place steps gives.0 so);
                is = state;
              },
              (gives.1, omega (arith, more, at, reach, place.before_end, piece_within next stripe.items, ap (length {A = ℕ}) gives.0)),
            );
      }
