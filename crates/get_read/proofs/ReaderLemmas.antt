-- A reader before and after one step.
use Rattle.std.proofs.Common.{◌≡◌, ◌∙◌, ℕ, ◌+◌, ◌<◌, ◌≤◌, List, [], ◌∷◌, ◌++◌, length, replicate, slice_index_or, ap, refl, subst, sym, inl, arith, append-nil, append_assoc}
use Rattle.std.specs.Prelude.{Bool, Err, None, Ok, Option, Result, Some, false, true}
use Rattle.std.specs.Int.{IsBitSet}
use Rattle.std.proofs.lemmas.List.{get_or-replicate, get_or_default, length-replicate}
use Rattle.std.proofs.lemmas.List.Elements.{All-append}
use Rattle.std.proofs.Math.Nat.{ℕ_set}
use Rattle.stamp_id.specs.declared.version.VersionId.{VersionId}
use Rattle.call_types.specs.declared.names.Span.{Span}
use Rattle.drive_base.specs.Plan.{data_drives}
use Rattle.drive_base.specs.declared.drive.Drive.{Ghosts}
use Rattle.drive_base.specs.declared.plan.SetPlan.{SetPlan}
use Rattle.manifest_file.specs.declared.manifest.Manifest.{Manifest}
use Rattle.manifest_file.specs.declared.manifest.ManifestPart.{ManifestPart}
use Rattle.get_read.specs.Account.{Account, AreInUse, Call}
use Rattle.get_read.specs.Progress.{SearchAnswers, SearchSteps}
use Rattle.get_read.specs.Given.{AreOfSpanIn, IsFoundIn}
use Rattle.get_read.specs.Blocks.{all_bytes}
use Rattle.get_read.specs.Readers.{AreCalls, AreOfState, AreTablesOf, IsFetchOf, IsRefusedIn, IsSearchOf, IsStateOf, StaysSo, StepsFrom, TellsFound, Told, all_calls, set_of, told_after, wants}
use Rattle.get_read.specs.Refusing.{NoneServesIn}
use Rattle.get_read.specs.States.{manifest_in}
use Rattle.get_read.specs.Turns.{BeginsAt, BeginsSpan, HasNoRuns}
use Rattle.get_read.specs.Windows.{AreAhead}
use Rattle.get_read.specs.declared.faults.BodyFault.{BodyFault}
use Rattle.get_read.specs.declared.faults.BodyFault.TheVariants.{InvalidRange, ShardQuorum, NoMemory}
use Rattle.get_read.specs.declared.search.Wanted.{Wanted}
use Rattle.get_read.specs.declared.reader.Reader.{Reader}
use Rattle.get_read.specs.declared.reader.ReadStep.{ReadStep}
use Rattle.get_read.specs.declared.reader.ReadStep.TheVariants.{More, Piece, Done}
use Rattle.get_read.specs.declared.state.Asked.{Asked}
use Rattle.get_read.specs.declared.search.Search.{Search}
use Rattle.get_read.specs.declared.fetch.Fetching.{Fetching as FetchingRecord}
use Rattle.get_read.specs.declared.state.State.{State}
use Rattle.get_read.specs.declared.state.State.TheVariants.{Searching, Fetching, Ended, Refused}
use Rattle.get_read.specs.declared.window.Window.{Window}
use Rattle.get_read.proofs.AccountLemmas.{found_on, span_on}
use Rattle.get_read.proofs.FetchLemmas.{fresh_stripe}

-- what is asked for
abbrev the_asked : (wanted : Wanted) (id : VersionId) (span : Span) → span.at + span.length ≡ wanted.reach → Asked
the_asked wanted id span end = record { wanted = wanted; id = id; span = span; end = end }

-- so it is with another proof of its end
pub asked_again : (wanted : Wanted) (id : VersionId) (span : Span) (one two : span.at + span.length ≡ wanted.reach)
    → the_asked wanted id span one ≡ the_asked wanted id span two
asked_again wanted id span one two = ap (the_asked wanted id span) (ℕ_set (span.at + span.length) wanted.reach one two)

module _ {D : Type 0} (ghosts : Ghosts D) where
  -- no call of a step is one of a drive that is out
  pub calls_in_use : (out : ℕ) (calls : Account) (before after : List D) → AreCalls ghosts out calls before after → AreInUse out calls
  calls_in_use out [] before after are = λ k d low. absurd (omega arith)
  calls_in_use out (call ∷ []) before after are = λ k d low.
      let at : k ≡ 0 = omega arith in
      subst (λ (j : ℕ). IsBitSet out (slice_index_or (call ∷ []) j d).drive → ⊥) (sym at) are.0.in_use
  calls_in_use out (one ∷ two ∷ more) before after are = absurd are

  -- what was given, after the calls of a step
  pub in_use_on : (out : ℕ) (account calls : Account) (before after : List D) → AreInUse out account → AreCalls ghosts out calls before after
      → AreInUse out (account ++ calls)
  in_use_on out account calls before after in_use are =
      All-append (λ (call : Call). IsBitSet out call.drive → ⊥) account calls in_use (calls_in_use out calls before after are)

-- all calls with those of a step, which is no turn, or is one
pub no_turn : (told : Told) (calls : Account) → all_calls (told_after false told calls) ≡ all_calls told ++ calls
no_turn told calls = sym (append_assoc told.before told.since calls)

pub one_turn : (told : Told) (calls : Account) → all_calls (told_after true told calls) ≡ all_calls told ++ calls
one_turn told calls = append-nil (all_calls told ++ calls)

all_told : (turned : Bool) (told : Told) (calls : Account) → all_calls (told_after turned told calls) ≡ all_calls told ++ calls
all_told false told calls = no_turn told calls
all_told true told calls = one_turn told calls

-- why a search is refused
search_cause : (fault : BodyFault) (asked : Asked) (next : Search) (told : Told) (given : ℕ) → next.asked ≡ asked → given ≡ 0
    → SearchAnswers (Err fault) next (all_calls told) → IsRefusedIn asked fault told given
search_cause (InvalidRange n) asked next told given same none answers = answers
search_cause (ShardQuorum whys) asked next told given same none answers =
    inl (subst (λ (a : Asked). NoneServesIn (set_of a) a.wanted.print a.id a.wanted.reach whys (all_calls told)) same answers, none)
search_cause NoMemory asked next told given same none answers = tt

module _ {D : Type 0} (ghosts : Ghosts D) where
  -- a state after a step, by what is known of it
  pub stands_after : (turned : Bool) (asked : Asked) (old new : State) (told : Told) (calls : Account) (before after : List D) (given : List ℕ)
      → AreOfState asked old told given → AreCalls ghosts (set_of asked).out calls before after
      → IsStateOf asked new (told_after turned told calls) (length given) → AreOfState asked new (told_after turned told calls) given
  stands_after turned asked old new told calls before after given are called is = record {
    in_use = subst (AreInUse (set_of asked).out) (sym (all_told turned told calls)) (in_use_on ghosts (set_of asked).out (all_calls told) calls before after are.in_use called);
    exact = subst (AreOfSpanIn (set_of asked).drives (set_of asked).parity asked.wanted.print asked.span.at asked.wanted.reach given) (sym (all_told turned told calls))
        (span_on (set_of asked).drives (set_of asked).parity asked.wanted.print asked.span.at asked.wanted.reach given (all_calls told) calls are.exact);
    is = is;
  }

  -- the search goes on
  pub search_goes_on : (asked : Asked) (search next : Search) (piece : List ℕ) (before after : List D) → search.asked ≡ asked
      → SearchSteps ghosts search next (Ok None) before after → StepsFrom ghosts asked (Searching search) (Searching next) piece (Ok More) before after
  search_goes_on asked search next piece before after same steps =
      let are : AreCalls ghosts (set_of asked).out steps.calls before after = subst (λ (a : Asked). AreCalls ghosts (set_of a).out steps.calls before after) same steps.are in
      record {
        calls = steps.calls;
        are = are;
        made = steps.made;
        stays = tt;
        goes_on = λ told given so. (
          stands_after false asked (Searching search) (Searching next) told steps.calls before after given so are
              (steps.asked ∙ same, so.is.1, subst (IsSearchOf next) (sym (no_turn told steps.calls)) (steps.goes_on (all_calls told) so.is.2)),
          tt,
        );
      }

  -- it is refused
  pub search_refused : (asked : Asked) (search next : Search) (piece : List ℕ) (fault : BodyFault) (before after : List D) → search.asked ≡ asked
      → SearchSteps ghosts search next (Err fault) before after → StepsFrom ghosts asked (Searching search) (Refused fault) piece (Err fault) before after
  search_refused asked search next piece fault before after same steps =
      let are : AreCalls ghosts (set_of asked).out steps.calls before after = subst (λ (a : Asked). AreCalls ghosts (set_of a).out steps.calls before after) same steps.are in
      let why : (told : Told) (given : ℕ) → given ≡ 0 → IsSearchOf search (all_calls told) → IsRefusedIn asked fault (told_after false told steps.calls) given =
      λ told given none is. search_cause fault asked next (told_after false told steps.calls) given (steps.asked ∙ same) none
      (subst (SearchAnswers (Err fault) next) (sym (no_turn told steps.calls)) (steps.goes_on (all_calls told) is)) in
      record {
        calls = steps.calls;
        are = are;
        made = steps.made;
        stays = tt;
        goes_on = λ told given so.
            let cause = why told (length given) so.is.1 so.is.2 in
            (stands_after false asked (Searching search) (Refused fault) told steps.calls before after given so are cause, cause);
      }

-- some part of a list that has one
some_part : (parts : List ManifestPart) (k : ℕ) → k < length parts → ManifestPart
some_part [] k low = absurd (omega arith)
some_part (x ∷ parts) k low = x

-- of a window of which no block is read each block was shown
no_runs : (set : SetPlan) (part : ManifestPart) (ahead : Option Window) (calls : Account) → HasNoRuns ahead → AreAhead set part ahead calls
no_runs set part None calls none = tt
no_runs set part (Some window) calls none = λ j s low inside. absurd (omega (arith, low, ap (length {A = ℕ}) none))

-- the reading of a stripe of which no block is read, where the tables that are held were shown
pub fetch_begins : (asked : Asked) (m : Manifest) (at : ℕ) (fetching : FetchingRecord) (calls : Account) → BeginsAt asked m at fetching
    → IsFoundIn (wants asked) asked.id m calls
    → ((part : ManifestPart) → ((d : ManifestPart) → slice_index_or m.parts fetching.part.place d ≡ part)
    → AreTablesOf (data_drives (set_of asked).drives (set_of asked).parity) part (all_bytes fetching.part.tables.items) calls)
    → (told : Told) → told.before ≡ calls → all_calls told ≡ calls → IsFetchOf fetching told
fetch_begins asked m at fetching calls begins found tables told turned is =
    let place = fetching.part.place in
    let part = slice_index_or m.parts place (some_part m.parts place begins.is_part.inside) in
    let part_is : (d : ManifestPart) → slice_index_or m.parts place d ≡ part =
    λ d. get_or_default m.parts place d (some_part m.parts place begins.is_part.inside) begins.is_part.inside in
    record {
      is_part = record {
        part = part;
        part_is = λ d. ap (λ (x : Manifest). slice_index_or x.parts place d) begins.manifest_is ∙ part_is d;
        found = rw (begins.asked_is, begins.manifest_is, turned) found;
        held = rw (begins.asked_is, is) (tables part part_is);
      };
      stripe = rw begins.asked_is (fresh_stripe (set_of asked) part fetching.work.stripe fetching.work.size fetching.work.found fetching.work.tried fetching.work.whys
          (all_calls told) told.since begins.fresh.letters begins.fresh.none);
      ahead = no_runs (set_of fetching.asked) part fetching.ahead (all_calls told) begins.ahead;
    }

-- no table is held
pub none_held : (d n : ℕ) (part : ManifestPart) (tables : List (List ℕ)) (calls : Account) → tables ≡ replicate n [] → AreTablesOf d part tables calls
none_held d n part tables calls none = λ k low. inl (ap (λ (t : List (List ℕ)). slice_index_or t k []) none
    ∙ get_or-replicate n k [] [] (omega (arith, low, ap (length {A = List ℕ}) none, length-replicate {A = List ℕ} n [])))

-- no call more
told_same : (told : Told) → told_after false told [] ≡ told
told_same told = ap (λ (s : Account). record { before = told.before; since = s }) (append-nil told.since)

-- without a call more a state stands on
state_still : (asked : Asked) (state : State) (told : Told) (given : List ℕ) → AreOfState asked state told given → AreOfState asked state (told_after false told []) given
state_still asked state told given so = subst (λ (t : Told). AreOfState asked state t given) (sym (told_same told)) so

module _ {D : Type 0} (ghosts : Ghosts D) where
  -- a step that finds no memory ends the reading
  pub ends_without : (asked : Asked) (old new : State) (piece : List ℕ) (fault : BodyFault) (calls : Account) (before after : List D)
      → AreCalls ghosts (set_of asked).out calls before after → length calls ≤ 1 → StaysSo old (Err NoMemory) (Refused NoMemory) calls
      → fault ≡ NoMemory → new ≡ Refused NoMemory → StepsFrom ghosts asked old new piece (Err fault) before after
  ends_without asked old new piece fault calls before after are made stays short refused =
      subst (λ (s : State). StepsFrom ghosts asked old s piece (Err fault) before after) (sym refused)
      (subst (λ (f : BodyFault). StepsFrom ghosts asked old (Refused NoMemory) piece (Err f) before after) (sym short) (record {
        calls = calls;
        are = are;
        made = made;
        stays = stays;
        goes_on = λ told given so. (stands_after ghosts false asked old (Refused NoMemory) told calls before after given so are tt, tt);
      }))

  -- the manifest is found, and the span begins
  pub search_begun : (asked : Asked) (search next : Search) (m : Manifest) (new : State) (piece : List ℕ) (result : Result ReadStep BodyFault) (before after : List D)
      → search.asked ≡ asked → SearchSteps ghosts search next (Ok (Some m)) before after → BeginsSpan asked (Refused NoMemory) new m result
      → StepsFrom ghosts asked (Searching search) new piece result before after
  search_begun asked search next m new piece (Ok Piece) before after same steps begins = absurd begins
  search_begun asked search next m new piece (Ok More) before after same steps begins =
      let fetching = begins.0 in
      let are : AreCalls ghosts (set_of asked).out steps.calls before after = subst (λ (a : Asked). AreCalls ghosts (set_of a).out steps.calls before after) same steps.are in
      let found : (account : Account) → IsSearchOf search account → IsFoundIn (wants asked) asked.id m (account ++ steps.calls) =
      λ account is. subst (λ (a : Asked). IsFoundIn (wants a) a.id m (account ++ steps.calls)) (steps.asked ∙ same) (steps.goes_on account is) in
      subst (λ (s : State). StepsFrom ghosts asked (Searching search) s piece (Ok More) before after) (sym begins.1) (record {
        calls = steps.calls;
        are = are;
        made = steps.made;
        stays = tt;
        goes_on = λ told given so. (
          stands_after ghosts true asked (Searching search) (Fetching fetching) told steps.calls before after given so are (
            begins.2.asked_is,
            omega (arith, begins.2.at_is, so.is.1),
            fetch_begins asked m asked.span.at fetching (all_calls told ++ steps.calls) begins.2 (found (all_calls told) so.is.2)
                (λ part is. none_held _ (set_of fetching.asked).drives part (all_bytes fetching.part.tables.items) (all_calls told ++ steps.calls) begins.3)
                (told_after true told steps.calls) refl (one_turn told steps.calls),
          ),
          tt,
        );
      })
  search_begun asked search next m new piece (Ok Done) before after same steps begins =
      let are : AreCalls ghosts (set_of asked).out steps.calls before after = subst (λ (a : Asked). AreCalls ghosts (set_of a).out steps.calls before after) same steps.are in
      let found : (told : Told) → IsSearchOf search (all_calls told) → IsFoundIn (wants asked) asked.id m (all_calls (told_after true told steps.calls)) =
      λ told is. subst (IsFoundIn (wants asked) asked.id m) (sym (one_turn told steps.calls))
      (subst (λ (a : Asked). IsFoundIn (wants a) a.id m (all_calls told ++ steps.calls)) (steps.asked ∙ same) (steps.goes_on (all_calls told) is)) in
      subst (λ (s : State). StepsFrom ghosts asked (Searching search) s piece (Ok Done) before after) (sym begins.1) (record {
        calls = steps.calls;
        are = are;
        made = omega (arith, steps.made);
        stays = tt;
        goes_on = λ told given so.
            let all : length given ≡ asked.span.length = so.is.1 ∙ sym begins.0 in (
              stands_after ghosts true asked (Searching search) (Ended m) told steps.calls before after given so are (all, found told so.is.2),
              (all, (m, refl, found told so.is.2)),
            );
      })
  search_begun asked search next m new piece (Err fault) before after same steps begins =
      let are : AreCalls ghosts (set_of asked).out steps.calls before after = subst (λ (a : Asked). AreCalls ghosts (set_of a).out steps.calls before after) same steps.are in
      ends_without asked (Searching search) new piece fault steps.calls before after are (omega (arith, steps.made)) tt begins.0 begins.1

  -- a reader that is done, or was refused, stays so
  pub ended_stays : (asked : Asked) (m : Manifest) (piece : List ℕ) (drives : List D) → StepsFrom ghosts asked (Ended m) (Ended m) piece (Ok Done) drives drives
  ended_stays asked m piece drives =
      let still : (told : Told) → IsFoundIn (wants asked) asked.id m (all_calls told) → IsFoundIn (wants asked) asked.id m (all_calls (told_after false told [])) =
      λ told. subst (λ (t : Told). IsFoundIn (wants asked) asked.id m (all_calls t)) (sym (told_same told)) in
      record {
        calls = [];
        are = refl;
        made = omega arith;
        stays = (refl, refl, refl);
        goes_on = λ told given so. (state_still asked (Ended m) told given so, (so.is.0, (m, refl, still told so.is.1)));
      }

  pub refused_stays : (asked : Asked) (fault : BodyFault) (piece : List ℕ) (drives : List D)
      → StepsFrom ghosts asked (Refused fault) (Refused fault) piece (Err fault) drives drives
  refused_stays asked fault piece drives = record {
    calls = [];
    are = refl;
    made = omega arith;
    stays = (refl, refl, refl);
    goes_on = λ told given so. let still = state_still asked (Refused fault) told given so in (still, still.is);
  }

-- the manifest that is told was found
told_found : (asked : Asked) (state : State) (told : Told) (given : ℕ) (m : Manifest) → IsStateOf asked state told given → manifest_in state ≡ Some m
    → IsFoundIn (wants asked) asked.id m (all_calls told)
told_found asked (Searching search) told given m is tells = absurd cc
told_found asked (Refused fault) told given m is tells = absurd cc
told_found asked (Ended manifest) told given m is tells =
    let same : manifest ≡ m = cc in subst (λ (x : Manifest). IsFoundIn (wants asked) asked.id x (all_calls told)) same is.1
told_found asked (Fetching fetching) told given m is tells =
    let same : fetching.manifest ≡ m = cc in
    subst (λ (x : Manifest). IsFoundIn (wants asked) asked.id x (all_calls told)) same
    (subst (λ (a : Asked). IsFoundIn (wants a) a.id fetching.manifest (all_calls told)) is.0
    (found_on (wants fetching.asked) fetching.asked.id fetching.manifest told.before told.since is.2.is_part.found))

pub tells_found : (reader : Reader) → TellsFound reader
tells_found reader told given m so tells = told_found reader.asked reader.state told (length given) m so.is tells
