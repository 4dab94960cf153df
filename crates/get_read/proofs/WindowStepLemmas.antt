-- One step of a window, by what its call gave.
use Rattle.std.proofs.Common.{◌≡◌, ◌∙◌, ℕ, ◌*◌, ◌<◌, List, [], ◌∷◌, ◌++◌, length, slice_index_or, slice_set, ap, refl, subst, sym, inl, inr, arith}
use Rattle.std.specs.Prelude.{Err, None, Ok, Option, Result, Some, Vec, false}
use Rattle.std.specs.Global.{Global}
use Rattle.std.proofs.lemmas.List.{length-map, map-set}
use Rattle.drive_base.specs.Calls.{Seen, Showed, Tells}
use Rattle.drive_base.specs.View.{view}
use Rattle.drive_base.specs.declared.drive.Drive.{Ghosts}
use Rattle.manifest_file.specs.declared.manifest.Manifest.{Manifest}
use Rattle.manifest_file.specs.declared.manifest.ManifestPart.{ManifestPart}
use Rattle.shard_file.specs.Shards.{block_place, table_place}
use Rattle.body_print.specs.Names.{shard_name}
use Rattle.get_read.specs.Account.{Account, Call, WasSeen}
use Rattle.get_read.specs.Progress.{FetchSteps, MakesOne, StaysBesides, StripeAnswers, WindowSteps, data_of, part_of}
use Rattle.get_read.specs.Blocks.{all_bytes}
use Rattle.get_read.specs.Letters.{IsTableIn}
use Rattle.get_read.specs.Readers.{AreCalls, AreTablesOf, IsFetchOf, IsPartOf, IsStripeOf, Told, all_calls, set_of, told_after}
use Rattle.get_read.specs.Windows.{AreAhead, AreRuns, FitsWindow, RunPasses, RunTakes, TookRun, WindowCall, digests_in}
use Rattle.get_read.specs.declared.faults.BodyFault.{BodyFault}
use Rattle.get_read.specs.declared.faults.BodyFault.TheVariants.{NoMemory}
use Rattle.get_read.specs.declared.state.Asked.{Asked}
use Rattle.get_read.specs.declared.fetch.Fetching.{Fetching as FetchingRecord}
use Rattle.get_read.specs.declared.state.PartWork.{PartWork}
use Rattle.get_read.specs.declared.state.StripeWork.{StripeWork}
use Rattle.get_read.specs.declared.window.WindowFind.TheVariants.{Table}
use Rattle.get_read.specs.declared.window.Window.{Window}
use Rattle.get_read.proofs.FetchLemmas.{stripe_on, table_now, tables_more, tables_on}
use Rattle.get_read.proofs.OneCallLemmas.{called_once, none_called, shown_bytes}
use Rattle.get_read.proofs.ReaderLemmas.{no_turn}
use Rattle.get_read.proofs.StepLemmas.{any_part}
use Rattle.get_read.proofs.WindowRunLemmas.{passed_ahead, runs_added, runs_on, took_ahead, took_answers}

-- one call was made
one_made : (result : Result (Option (Vec ℕ Global)) BodyFault) (call : Call) → MakesOne result (call ∷ [])
one_made (Ok found) call = refl
one_made (Err fault) call = omega arith

module _ {D : Type 0} (ghosts : Ghosts D) (old : FetchingRecord) (w : Window) (new : FetchingRecord) where
  -- what stays over the calls of a step
  abbrev stays_part : (told : Told) (more : Account) → IsFetchOf old told → StaysBesides old new → IsPartOf new.asked new.manifest new.part told.before (all_calls (told_after false told more))
  stays_part told more so stays =
      let whole = so.is_part in
      let p = whole.part in
      let on : all_calls (told_after false told more) ≡ all_calls told ++ more = no_turn told more in
      record {
        part = p;
        part_is = λ e. ap (λ (m : Manifest). slice_index_or m.parts new.part.place e) stays.manifest ∙ ap (λ (v : PartWork). slice_index_or old.manifest.parts v.place e) stays.part ∙ whole.part_is e;
        found = rw (stays.asked, stays.manifest) whole.found;
        held = rw (stays.asked, stays.part) (subst (AreTablesOf (data_of old) p (all_bytes old.part.tables.items)) (sym on)
            (tables_on (data_of old) p (all_bytes old.part.tables.items) (all_calls told) more whole.held));
      }

  -- the stripe alone is as before
  stays_stripe : (told : Told) (more : Account) (so : IsFetchOf old told) → new.asked ≡ old.asked → new.work ≡ old.work
      → IsStripeOf (set_of new.asked) so.is_part.part new.work (all_calls (told_after false told more)) (told.since ++ more)
  stays_stripe told more so asked work =
      let set = set_of old.asked in
      let p = so.is_part.part in
      let stripe = stripe_on set p old.work.stripe old.work.size old.work.found old.work.tried old.work.whys (all_calls told) told.since more so.stripe in
      rw (asked, work) (subst (λ (all : Account). IsStripeOf set p old.work all (told.since ++ more)) (sym (no_turn told more)) stripe)

  -- a call was made that leaves the window as it is, or gives it up, but for its next drive
  pub window_passed : (drives : List D) (e now : D) → length drives ≡ (set_of old.asked).drives
      → FitsWindow (set_of old.asked) old.part.long old.work.stripe w → StaysBesides old new → RunPasses w new.ahead
      → ((seen : Seen) × WasSeen seen (view ghosts (slice_index_or drives w.tried e)) (view ghosts now))
      → WindowSteps {Z = Global} ghosts old w new (Ok None) drives (slice_set drives w.tried now)
  window_passed drives e now counted fits stays passes call =
      let call_is : Call = record { drive = w.tried; made = call.1.made } in
      record {
        calls = call_is ∷ [];
        are = called_once ghosts (set_of old.asked).out w.tried call.0 drives e now (omega (arith, counted, fits.tried)) fits.in_use call.1;
        made = refl;
        asked = stays.asked;
        at = stays.at;
        goes_on = λ told so runs. record {
          is_part = stays_part told (call_is ∷ []) so stays;
          stripe = stays_stripe told (call_is ∷ []) so stays.asked stays.work;
          ahead = subst (λ (a : Asked). AreAhead (set_of a) so.is_part.part new.ahead (all_calls (told_after false told (call_is ∷ [])))) (sym stays.asked)
              (subst (AreAhead (set_of old.asked) so.is_part.part new.ahead) (sym (no_turn told (call_is ∷ [])))
              (passed_ahead (set_of old.asked) so.is_part.part w new.ahead (all_calls told) (call_is ∷ []) passes runs));
        };
      }

  -- a call gave the blocks of the next drive
  pub window_took : (result : Result (Option (Vec ℕ Global)) BodyFault) (run table : List ℕ) (drives : List D) (e now : D) → length drives ≡ (set_of old.asked).drives
      → FitsWindow (set_of old.asked) old.part.long old.work.stripe w → StaysBesides old new
      → table ≡ slice_index_or (all_bytes old.part.tables.items) w.tried []
      → RunTakes (set_of old.asked) w run (digests_in table w.first w.count) result new.ahead
      → ((d : ManifestPart) → (0 < length table) × (length run ≡ w.count * w.size)
      × WasSeen (Showed (shard_name (part_of old d).id) (block_place (data_of old) w.first) run) (view ghosts (slice_index_or drives w.tried e)) (view ghosts now))
      → WindowSteps {Z = Global} ghosts old w new result drives (slice_set drives w.tried now)
  window_took result run table drives e now counted fits stays table_is takes call =
      let d0 = any_part old.manifest.parts old.part.place old.in_manifest in
      let part = part_of old d0 in
      let seen : Seen = Showed (shard_name part.id) (block_place (data_of old) w.first) run in
      let shows = (call d0).2 in
      let made = shows.made in
      let call_is : Call = record { drive = w.tried; made = made } in
      record {
        calls = call_is ∷ [];
        are = called_once ghosts (set_of old.asked).out w.tried seen drives e now (omega (arith, counted, fits.tried)) fits.in_use shows;
        made = one_made result call_is;
        asked = stays.asked;
        at = stays.at;
        goes_on = λ told so runs.
            let set = set_of old.asked in
            let whole = so.is_part in
            let p = whole.part in
            let same : part ≡ p = whole.part_is d0 in
            let long : p.length ≡ old.part.long = ap (λ (q : ManifestPart). q.length) (sym (whole.part_is p)) ∙ old.part_long p in
            let calls = all_calls told in
            let on = sym (no_turn told (call_is ∷ [])) in
            let is_table : IsTableIn (data_of old) p (slice_index_or p.roots w.tried []) calls w.tried table =
            elim (whole.held w.tried (omega (arith, fits.tried, old.tables, length-map old.part.tables.items (λ (file : Vec ℕ Global). file.items)))) [
              | inl none ↦ absurd (omega (arith, (call d0).0, ap (length {A = ℕ}) (table_is ∙ none)))
              | inr held ↦ subst (IsTableIn (data_of old) p (slice_index_or p.roots w.tried []) calls w.tried) (sym table_is) held
            ] in
            let added : (next : Window) → TookRun w next run (digests_in table w.first w.count) → AreRuns set p next (all_calls (told_after false told (call_is ∷ []))) =
            λ next took. subst (AreRuns set p next) on
            (runs_added set p w next table run calls made
            (subst (λ (q : ManifestPart). Tells made (Showed (shard_name q.id) (block_place (data_of old) w.first) run)) same shows.tells)
            took runs is_table (omega (arith, fits.within, long)) fits.size (call d0).1
            (shown_bytes (shard_name part.id) (block_place (data_of old) w.first) run (view ghosts (slice_index_or drives w.tried e)) (view ghosts now) shows)) in
            record {
              is_part = stays_part told (call_is ∷ []) so stays;
              stripe = subst (λ (a : Asked). StripeAnswers (set_of a) p result new.work (told_after false told (call_is ∷ []))) (sym stays.asked) (took_answers set p w run (digests_in table w.first w.count) result new.ahead new.work (told_after false told (call_is ∷ [])) takes added
                  fits.tried fits.some (omega (arith, fits.within, long)) (fits.first ∙ ap (λ (v : StripeWork). v.stripe) (sym stays.work))
                  (subst (λ (a : Asked). IsStripeOf (set_of a) p new.work (all_calls (told_after false told (call_is ∷ []))) (told.since ++ call_is ∷ [])) stays.asked
                  (stays_stripe told (call_is ∷ []) so stays.asked stays.work)));
              ahead = subst (λ (a : Asked). AreAhead (set_of a) p new.ahead (all_calls (told_after false told (call_is ∷ [])))) (sym stays.asked) (took_ahead Global set p w run (digests_in table w.first w.count) result new.ahead (all_calls (told_after false told (call_is ∷ []))) takes added);
            };
      }

  -- a call gave the digest table of the next drive
  pub window_holds : (table : Vec ℕ Global) (drives : List D) (e now : D) → length drives ≡ (set_of old.asked).drives
      → FitsWindow (set_of old.asked) old.part.long old.work.stripe w → new.asked ≡ old.asked → new.manifest ≡ old.manifest → new.at ≡ old.at
      → new.part.place ≡ old.part.place → new.work ≡ old.work → new.ahead ≡ Some w → new.part.tables.items ≡ slice_set old.part.tables.items w.tried table
      → ((d : ManifestPart) → WindowCall (data_of old) (part_of old d) (slice_index_or (part_of old d).roots w.tried []) (slice_index_or (all_bytes old.part.tables.items) w.tried [])
      w (Ok (Table table)) (view ghosts (slice_index_or drives w.tried e)) (view ghosts now))
      → WindowSteps {Z = Global} ghosts old w new (Ok None) drives (slice_set drives w.tried now)
  window_holds table drives e now counted fits asked manifest at place work some tables call =
      let d0 = any_part old.manifest.parts old.part.place old.in_manifest in
      let part = part_of old d0 in
      let k = w.tried in
      let d = data_of old in
      let seen : Seen = Showed (shard_name part.id) (table_place d part.length) table.items in
      let shows = (call d0).3 in
      let made = shows.made in
      let call_is : Call = record { drive = k; made = made } in
      record {
        calls = call_is ∷ [];
        are = called_once ghosts (set_of old.asked).out k seen drives e now (omega (arith, counted, fits.tried)) fits.in_use shows;
        made = refl;
        asked = asked;
        at = at;
        goes_on = λ told so runs.
            let whole = so.is_part in
            let p = whole.part in
            let same : part ≡ p = whole.part_is d0 in
            let calls = all_calls told in
            let on = sym (no_turn told (call_is ∷ [])) in
            let table_is : IsTableIn d p (slice_index_or p.roots k []) (calls ++ call_is ∷ []) k table.items =
            subst (λ (q : ManifestPart). IsTableIn d q (slice_index_or q.roots k []) (calls ++ call_is ∷ []) k table.items) same
            (table_now d part (slice_index_or part.roots k []) calls k table.items made shows.tells (call d0).1
            (shown_bytes (shard_name part.id) (table_place d part.length) table.items (view ghosts (slice_index_or drives w.tried e)) (view ghosts now) shows) (call d0).2) in
            let bytes : all_bytes new.part.tables.items ≡ slice_set (all_bytes old.part.tables.items) k table.items =
            ap (λ (t : List (Vec ℕ Global)). all_bytes t) tables ∙ map-set (λ (file : Vec ℕ Global). file.items) old.part.tables.items k table in
            let held : AreTablesOf d p (all_bytes new.part.tables.items) (calls ++ call_is ∷ []) =
            tables_more d p (all_bytes old.part.tables.items) (all_bytes new.part.tables.items) calls k table.items made whole.held bytes
            (omega (arith, fits.tried, old.tables, length-map old.part.tables.items (λ (file : Vec ℕ Global). file.items))) table_is in
            record {
              is_part = record {
                part = p;
                part_is = λ e. ap (λ (m : Manifest). slice_index_or m.parts new.part.place e) manifest ∙ ap (λ (j : ℕ). slice_index_or old.manifest.parts j e) place ∙ whole.part_is e;
                found = rw (asked, manifest) whole.found;
                held = rw asked (subst (AreTablesOf d p (all_bytes new.part.tables.items)) on held);
              };
              stripe = stays_stripe told (call_is ∷ []) so asked work;
              ahead = subst (λ (a : Asked). AreAhead (set_of a) p new.ahead (all_calls (told_after false told (call_is ∷ [])))) (sym asked)
                  (subst (λ (a : Option Window). AreAhead (set_of old.asked) p a (all_calls (told_after false told (call_is ∷ [])))) (sym some)
                  (subst (AreRuns (set_of old.asked) p w) on (runs_on (set_of old.asked) p w calls (call_is ∷ []) runs)));
            };
      }

  -- there was not enough memory, before a call
  pub window_idle : (drives : List D) (e now : D) → now ≡ slice_index_or drives w.tried e → StaysBesides old new → new.ahead ≡ None
      → WindowSteps {Z = Global} ghosts old w new (Err NoMemory) drives (slice_set drives w.tried now)
  window_idle drives e now same stays none = record {
    calls = [];
    are = none_called ghosts drives w.tried e now same;
    made = omega arith;
    asked = stays.asked;
    at = stays.at;
    goes_on = λ told so runs. record {
      is_part = stays_part told [] so stays;
      stripe = tt;
      ahead = subst (λ (a : Option Window). AreAhead (set_of new.asked) so.is_part.part a (all_calls (told_after false told []))) (sym none) tt;
    };
  }

module _ {D : Type 0} (ghosts : Ghosts D) (old bare new : FetchingRecord) where
  -- what is known of a reader that is about to use its window
  abbrev bare_of : (told : Told) → StaysBesides old bare → bare.ahead ≡ None → IsFetchOf old told → IsFetchOf bare told
  bare_of told stays none so =
      let whole = so.is_part in
      let p = whole.part in
      record {
        is_part = record {
          part = p;
          part_is = λ e. ap (λ (m : Manifest). slice_index_or m.parts bare.part.place e) stays.manifest ∙ ap (λ (v : PartWork). slice_index_or old.manifest.parts v.place e) stays.part ∙ whole.part_is e;
          found = rw (stays.asked, stays.manifest) whole.found;
          held = rw (stays.asked, stays.part) whole.held;
        };
        stripe = rw (stays.asked, stays.work) so.stripe;
        ahead = rw none tt;
      }

  -- a step of the window is one of the reader
  pub steps_of_window : (w : Window) (result : Result (Option (Vec ℕ Global)) BodyFault) (before after : List D) → StaysBesides old bare → bare.ahead ≡ None
      → old.ahead ≡ Some w → WindowSteps {Z = Global} ghosts bare w new result before after → FetchSteps {Z = Global} ghosts old new result before after
  steps_of_window w result before after stays none some steps = record {
    calls = steps.calls;
    are = subst (λ (a : Asked). AreCalls ghosts (set_of a).out steps.calls before after) stays.asked steps.are;
    made = steps.made;
    asked = steps.asked ∙ stays.asked;
    at = steps.at ∙ stays.at;
    goes_on = λ told so. steps.goes_on told (bare_of told stays none so)
        (subst (λ (a : Asked). AreRuns (set_of a) so.is_part.part w (all_calls told)) (sym stays.asked) (subst (λ (a : Option Window). AreAhead (set_of old.asked) so.is_part.part a (all_calls told)) some so.ahead));
  }

  -- and so is one of the stripe alone
  pub steps_of_stripe : (result : Result (Option (Vec ℕ Global)) BodyFault) (before after : List D) → StaysBesides old bare → bare.ahead ≡ None
      → FetchSteps {Z = Global} ghosts bare new result before after → FetchSteps {Z = Global} ghosts old new result before after
  steps_of_stripe result before after stays none steps = record {
    calls = steps.calls;
    are = subst (λ (a : Asked). AreCalls ghosts (set_of a).out steps.calls before after) stays.asked steps.are;
    made = steps.made;
    asked = steps.asked ∙ stays.asked;
    at = steps.at ∙ stays.at;
    goes_on = λ told so. steps.goes_on told (bare_of told stays none so);
  }
