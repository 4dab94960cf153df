-- One step of a stripe, by what its call gave.
use Rattle.std.proofs.Common.{◌≡◌, ◌∙◌, ℕ, ◌*◌, ◌<◌, List, [], ◌∷◌, ◌++◌, length, slice_index_or, slice_set, ap, refl, subst, sym, inl, inr, arith, append_assoc}
use Rattle.std.specs.Prelude.{Err, None, Ok, Option, Result, Some, Vec, false}
use Rattle.std.specs.Global.{Global}
use Rattle.std.proofs.lemmas.List.{length-map, map-set}
use Rattle.call_types.specs.declared.why.Why.{Why}
use Rattle.call_types.specs.declared.why.Why.TheVariants.{Good}
use Rattle.drive_base.specs.Calls.{Seen, Showed, Tells}
use Rattle.drive_base.specs.Plan.{data_drives}
use Rattle.drive_base.specs.View.{view}
use Rattle.drive_base.specs.declared.drive.Drive.{Ghosts}
use Rattle.file_access.specs.declared.fault.FetchFault.TheVariants.{Because}
use Rattle.manifest_file.specs.declared.manifest.Manifest.{Manifest}
use Rattle.manifest_file.specs.declared.manifest.ManifestPart.{ManifestPart}
use Rattle.shard_file.proofs.StripeLemmas.{stripes_reach}
use Rattle.shard_file.specs.Shards.{block_place, table_place}
use Rattle.shard_file.specs.Stripes.{block_size, stripe_count, stripe_length, stripe_size}
use Rattle.body_print.specs.Names.{shard_name}
use Rattle.get_read.specs.Account.{Account, Call}
use Rattle.get_read.specs.Progress.{FetchAnswers, FetchCall, FetchSteps, MakesOne, StripeAnswers, TellsNeither, data_of, next_table, part_of}
use Rattle.get_read.specs.Given.{IsFoundIn}
use Rattle.get_read.specs.Stripes.{JudgesStripe}
use Rattle.get_read.specs.Letters.{IsBlockIn, IsTableIn}
use Rattle.get_read.specs.PassedDrives.{PassesDrive}
use Rattle.get_read.specs.Blocks.{all_bytes}
use Rattle.get_read.specs.Readers.{AreTablesOf, IsFetchOf, IsStripe, IsStripeOf, Told, all_calls, set_of, told_after, wants}
use Rattle.get_read.specs.declared.faults.BodyFault.{BodyFault}
use Rattle.get_read.specs.declared.faults.BodyFault.TheVariants.{NoMemory}
use Rattle.get_read.specs.declared.state.Asked.{Asked}
use Rattle.get_read.specs.declared.fetch.Fetching.{Fetching as FetchingRecord}
use Rattle.get_read.specs.declared.fetch.StripeFind.TheVariants.{Table, Block}
use Rattle.get_read.specs.declared.state.PartWork.{PartWork}
use Rattle.get_read.specs.declared.state.StripeWork.{StripeWork}
use Rattle.get_read.specs.declared.calls.ShownBlock.{ShownBlock}
use Rattle.get_read.proofs.FetchLemmas.{block_now, judged_so, stripe_added, stripe_on, stripe_passed, table_now, tables_more, tables_on}
use Rattle.get_read.proofs.OneCallLemmas.{called_once, none_called, shown_bytes}

-- the calls of a step that is no turn stand behind all calls
behind : (told : Told) (calls : Account) → all_calls told ++ calls ≡ all_calls (told_after false told calls)
behind told calls = append_assoc told.before told.since calls

-- a stripe that begins before the end of a part is one of it
pub stripe_within : (n i : ℕ) → stripe_size * i < n → i < stripe_count n
stripe_within n i low = omega (arith, stripes_reach n)

-- some part of a list that has one
pub any_part : (parts : List ManifestPart) (k : ℕ) → k < length parts → ManifestPart
any_part [] k low = absurd (omega arith)
any_part (x ∷ parts) k low = x

module _ (old new : FetchingRecord) where
  -- what a stripe answers, by what it answers of its part
  fetch_answers : (result : Result (Option (Vec ℕ Global)) BodyFault) (told : Told) (calls : Account) (part : ManifestPart)
      → ((d : ManifestPart) → slice_index_or new.manifest.parts new.part.place d ≡ part)
      → IsFoundIn (wants new.asked) new.asked.id new.manifest told.before
      → AreTablesOf (data_of new) part (all_bytes new.part.tables.items) (all_calls told ++ calls)
      → StripeAnswers (set_of new.asked) part result new.work (told_after false told calls) → new.ahead ≡ None
      → FetchAnswers result new (told_after false told calls)
  fetch_answers result told calls part part_is found held stripe none = record {
    is_part = record {
      part = part;
      part_is = part_is;
      found = found;
      held = subst (AreTablesOf (data_of new) part (all_bytes new.part.tables.items)) (behind told calls) held;
    };
    stripe = stripe;
    ahead = rw none tt;
  }

module _ {D : Type 0} (ghosts : Ghosts D) (old new : FetchingRecord) where
  -- a table was shown, and is held from then on
  pub fetch_holds : (table : Vec ℕ Global) (drives : List D) (e now : D) → old.work.tried < length drives
      → old.work.tried < (set_of old.asked).drives → new.asked ≡ old.asked → new.manifest ≡ old.manifest → new.at ≡ old.at → new.part.place ≡ old.part.place
      → new.ahead ≡ None → new.work ≡ old.work → new.part.tables.items ≡ slice_set old.part.tables.items old.work.tried table
      → FetchCall old (Ok (Table table)) (view ghosts (slice_index_or drives old.work.tried e)) (view ghosts now)
      → FetchSteps {Z = Global} ghosts old new (Ok None) drives (slice_set drives old.work.tried now)
  fetch_holds table drives e now low inside asked manifest at place none work tables call =
      let d0 = any_part old.manifest.parts old.part.place old.in_manifest in
      let shows = call d0 in
      let part = part_of old d0 in
      let k = old.work.tried in
      let d = data_of old in
      let seen : Seen = Showed (shard_name part.id) (table_place d part.length) table.items in
      let made = shows.was.made in
      let call_is : Call = record { drive = k; made = made } in
      record {
        calls = call_is ∷ [];
        are = called_once ghosts (set_of old.asked).out k seen drives e now low (old.next_in_use inside) shows.was;
        made = refl;
        asked = asked;
        at = at;
        goes_on = λ told so.
            let whole = so.is_part in
            let p = whole.part in
            let same : part ≡ p = whole.part_is d0 in
            let calls = all_calls told in
            let table_is : IsTableIn d p (slice_index_or p.roots k []) (calls ++ call_is ∷ []) k table.items =
            subst (λ (q : ManifestPart). IsTableIn d q (slice_index_or q.roots k []) (calls ++ call_is ∷ []) k table.items) same
            (table_now d part (slice_index_or part.roots k []) calls k table.items made shows.was.tells shows.size
            (shown_bytes (shard_name part.id) (table_place d part.length) table.items (view ghosts (slice_index_or drives old.work.tried e)) (view ghosts now) shows.was) shows.digest) in
            let bytes : all_bytes new.part.tables.items ≡ slice_set (all_bytes old.part.tables.items) k table.items =
            ap (λ (t : List (Vec ℕ Global)). all_bytes t) tables ∙ map-set (λ (file : Vec ℕ Global). file.items) old.part.tables.items k table in
            let held : AreTablesOf d p (all_bytes new.part.tables.items) (calls ++ call_is ∷ []) =
            tables_more d p (all_bytes old.part.tables.items) (all_bytes new.part.tables.items) calls k table.items made whole.held bytes
            (omega (arith, inside, old.tables, length-map old.part.tables.items (λ (file : Vec ℕ Global). file.items))) table_is in
            let stripe = stripe_on (set_of old.asked) p old.work.stripe old.work.size old.work.found k old.work.whys calls told.since (call_is ∷ []) so.stripe in
            fetch_answers old new (Ok None) told (call_is ∷ []) p
            (λ e. ap (λ (m : Manifest). slice_index_or m.parts new.part.place e) manifest ∙ ap (λ (j : ℕ). slice_index_or old.manifest.parts j e) place ∙ whole.part_is e)
            (rw (asked, manifest) whole.found)
            (subst (λ (a : Asked). AreTablesOf (data_drives (set_of a).drives (set_of a).parity) p (all_bytes new.part.tables.items) (calls ++ call_is ∷ [])) (sym asked) held)
            (rw (asked, work) (subst (λ (all : Account). IsStripe (set_of old.asked) p old.work.stripe old.work.size old.work.found k old.work.whys all (told.since ++ call_is ∷ []))
            (behind told (call_is ∷ [])) stripe)) none;
      }

  -- what stays where a stripe is judged
  pub record StaysFor : Type 0 where
    pub asked : new.asked ≡ old.asked
    pub manifest : new.manifest ≡ old.manifest
    pub at : new.at ≡ old.at
    pub part : new.part ≡ old.part
    pub ahead : new.ahead ≡ None

  -- a stripe is judged, with calls before
  fetch_judged : (mid : StripeWork) (result : Result (Option (Vec ℕ Global)) BodyFault) (told : Told) (more : Account) → StaysFor
      → mid.stripe ≡ old.work.stripe → mid.size ≡ old.work.size → length mid.whys ≡ (set_of old.asked).drives
      → (so : IsFetchOf old told)
      → IsStripeOf (set_of old.asked) so.is_part.part mid (all_calls told ++ more) (told.since ++ more)
      → JudgesStripe (set_of old.asked) (stripe_length old.part.long old.work.stripe) result mid new.work
      → new.work.tried ≡ mid.tried → new.work.stripe ≡ mid.stripe → new.work.size ≡ mid.size
      → FetchAnswers result new (told_after false told more)
  fetch_judged mid result told more stays stripe size counted so is judges tried_now stripe_now size_now =
      let whole = so.is_part in
      let p = whole.part in
      let set = set_of old.asked in
      let d = data_of old in
      let calls = all_calls told in
      let long : p.length ≡ old.part.long = ap (λ (q : ManifestPart). q.length) (sym (whole.part_is p)) ∙ old.part_long p in
      let within : mid.stripe < stripe_count p.length = stripe_within p.length mid.stripe (omega (arith, stripe, long, old.begun, old.in_part)) in
      let size_is : mid.size ≡ block_size d (stripe_length p.length mid.stripe) =
      size ∙ old.size ∙ ap (λ (n : ℕ). block_size d (stripe_length n old.work.stripe)) (sym long) ∙ ap (λ (i : ℕ). block_size d (stripe_length p.length i)) (sym stripe) in
      let long_is : stripe_length old.part.long old.work.stripe ≡ stripe_length p.length mid.stripe =
      ap (λ (n : ℕ). stripe_length n old.work.stripe) (sym long) ∙ ap (stripe_length p.length) (sym stripe) in
      let late : IsStripeOf set p mid (all_calls (told_after false told more)) (told.since ++ more) =
      subst (λ (all : Account). IsStripeOf set p mid all (told.since ++ more)) (behind told more) is in
      let answer : StripeAnswers set p result new.work (told_after false told more) =
      judged_so set p (stripe_length old.part.long old.work.stripe) (told_after false told more) result mid new.work long_is within size_is mid.at_hand counted late judges
      tried_now stripe_now size_now in
      fetch_answers old new result told more p
      (λ e. ap (λ (m : Manifest). slice_index_or m.parts new.part.place e) stays.manifest ∙ ap (λ (w : PartWork). slice_index_or old.manifest.parts w.place e) stays.part ∙ whole.part_is e)
      (rw (stays.asked, stays.manifest) whole.found)
      (rw (stays.asked, stays.part) (tables_on d p (all_bytes old.part.tables.items) calls more whole.held))
      (subst (λ (a : Asked). StripeAnswers (set_of a) p result new.work (told_after false told more)) (sym stays.asked) answer)
      stays.ahead

  -- one call was made where a stripe is judged with a drive that was called
  made_one : (result : Result (Option (Vec ℕ Global)) BodyFault) (call : Call) → MakesOne result (call ∷ [])
  made_one (Ok found) call = refl
  made_one (Err fault) call = omega arith

  -- no drive is left, and the stripe is judged without a call
  pub fetch_over : (result : Result (Option (Vec ℕ Global)) BodyFault) (drives : List D) → old.work.tried ≡ (set_of old.asked).drives → StaysFor
      → JudgesStripe (set_of old.asked) (stripe_length old.part.long old.work.stripe) result old.work new.work
      → new.work.tried ≡ old.work.tried → new.work.stripe ≡ old.work.stripe → new.work.size ≡ old.work.size
      → FetchSteps {Z = Global} ghosts old new result drives drives
  fetch_over (Ok None) drives all stays judges tried_now stripe_now size_now = absurd (omega (arith, all, tried_now, judges.2))
  fetch_over (Ok (Some bytes)) drives all stays judges tried_now stripe_now size_now = absurd (omega (arith, judges.2, judges.1.fewer, old.fewer))
  fetch_over (Err fault) drives all stays judges tried_now stripe_now size_now = record {
    calls = [];
    are = refl;
    made = omega arith;
    asked = stays.asked;
    at = stays.at;
    goes_on = λ told so.
        let on = stripe_on (set_of old.asked) so.is_part.part old.work.stripe old.work.size old.work.found old.work.tried old.work.whys (all_calls told) told.since [] so.stripe in
        fetch_judged old.work (Err fault) told [] stays refl refl old.letters so on judges tried_now stripe_now size_now;
  }

  -- the next drive is left, and the stripe is judged
  pub fetch_passed : (why : Why) (mid : StripeWork) (result : Result (Option (Vec ℕ Global)) BodyFault) (drives : List D) (e now : D)
      → old.work.tried < length drives → old.work.tried < (set_of old.asked).drives → StaysFor
      → FetchCall old (Err (Because why)) (view ghosts (slice_index_or drives old.work.tried e)) (view ghosts now)
      → PassesDrive (set_of old.asked) why old.work.tried mid.tried old.work.whys mid.whys → mid.found ≡ old.work.found
      → mid.stripe ≡ old.work.stripe → mid.size ≡ old.work.size
      → JudgesStripe (set_of old.asked) (stripe_length old.part.long old.work.stripe) result mid new.work
      → new.work.tried ≡ mid.tried → new.work.stripe ≡ mid.stripe → new.work.size ≡ mid.size
      → FetchSteps {Z = Global} ghosts old new result drives (slice_set drives old.work.tried now)
  fetch_passed why mid result drives e now low inside stays call passes found stripe size judges tried_now stripe_now size_now =
      let d0 = any_part old.manifest.parts old.part.place old.in_manifest in
      let tells = call.1 d0 in
      let k = old.work.tried in
      let seen = tells.0 in
      let made = tells.1.made in
      let call_is : Call = record { drive = k; made = made } in
      record {
        calls = call_is ∷ [];
        are = called_once ghosts (set_of old.asked).out k seen drives e now low (old.next_in_use inside) tells.1;
        made = made_one result call_is;
        asked = stays.asked;
        at = stays.at;
        goes_on = λ told so.
            let whole = so.is_part in
            let p = whole.part in
            let set = set_of old.asked in
            let why_so = subst (λ (q : ManifestPart). TellsNeither old q why seen) (whole.part_is d0) tells.2 in
            let passed = stripe_passed set p old.work.stripe old.work.size old.work.found k mid.tried old.work.whys mid.whys (all_calls told) told.since why seen
            made tells.1.tells so.stripe inside old.letters (old.work.untried k (omega arith)) call.0 passes why_so in
            fetch_judged mid result told (call_is ∷ []) stays stripe size (passes.counted ∙ old.letters) so
            (rw (stripe, size, found) passed) judges tried_now stripe_now size_now;
      }

  -- its block is at hand, and the stripe is judged
  pub fetch_added : (fetched : ShownBlock) (mid : StripeWork) (result : Result (Option (Vec ℕ Global)) BodyFault) (drives : List D) (e now : D)
      → old.work.tried < length drives → old.work.tried < (set_of old.asked).drives → StaysFor
      → FetchCall old (Ok (Block fetched)) (view ghosts (slice_index_or drives old.work.tried e)) (view ghosts now)
      → PassesDrive (set_of old.asked) Good old.work.tried mid.tried old.work.whys mid.whys
      → mid.found.rows.items ≡ old.work.found.rows.items ++ old.work.tried ∷ [] → mid.found.stored.items ≡ old.work.found.stored.items ++ fetched.stored ∷ []
      → mid.found.bytes.items ≡ old.work.found.bytes.items ++ fetched.block.items
      → mid.stripe ≡ old.work.stripe → mid.size ≡ old.work.size
      → JudgesStripe (set_of old.asked) (stripe_length old.part.long old.work.stripe) result mid new.work
      → new.work.tried ≡ mid.tried → new.work.stripe ≡ mid.stripe → new.work.size ≡ mid.size
      → FetchSteps {Z = Global} ghosts old new result drives (slice_set drives old.work.tried now)
  fetch_added fetched mid result drives e now low inside stays call passes rows stored bytes stripe size judges tried_now stripe_now size_now =
      let d0 = any_part old.manifest.parts old.part.place old.in_manifest in
      let part = part_of old d0 in
      let fetches = call d0 in
      let k = old.work.tried in
      let d = data_of old in
      let seen : Seen = Showed (shard_name part.id) (block_place d old.work.stripe) fetched.block.items in
      let made = fetches.was.made in
      let call_is : Call = record { drive = k; made = made } in
      record {
        calls = call_is ∷ [];
        are = called_once ghosts (set_of old.asked).out k seen drives e now low (old.next_in_use inside) fetches.was;
        made = made_one result call_is;
        asked = stays.asked;
        at = stays.at;
        goes_on = λ told so.
            let whole = so.is_part in
            let p = whole.part in
            let set = set_of old.asked in
            let calls = all_calls told in
            let same : part ≡ p = whole.part_is d0 in
            let long : p.length ≡ old.part.long = ap (λ (q : ManifestPart). q.length) (sym (whole.part_is p)) ∙ old.part_long p in
            let table : IsTableIn d p (slice_index_or p.roots k []) calls k (next_table old) =
            elim (whole.held k (omega (arith, inside, old.tables, length-map old.part.tables.items (λ (file : Vec ℕ Global). file.items)))) [
              | inl none ↦ absurd (omega (arith, fetches.some, ap (length {A = ℕ}) none))
              | inr held ↦ held
            ] in
            let block_size_is : length fetched.block.items ≡ block_size d (stripe_length p.length old.work.stripe) =
            fetches.size ∙ old.size ∙ ap (λ (n : ℕ). block_size d (stripe_length n old.work.stripe)) (sym long) in
            let block : IsBlockIn d p old.work.stripe (slice_index_or p.roots k []) (calls ++ call_is ∷ []) (told.since ++ call_is ∷ []) k fetched.stored fetched.block.items =
            block_now d p old.work.stripe (slice_index_or p.roots k []) calls told.since k (next_table old) fetched.stored fetched.block.items made
            (subst (λ (q : ManifestPart). Tells made (Showed (shard_name q.id) (block_place d old.work.stripe) fetched.block.items)) same fetches.was.tells)
            table block_size_is
            (shown_bytes (shard_name part.id) (block_place d old.work.stripe) fetched.block.items (view ghosts (slice_index_or drives old.work.tried e)) (view ghosts now) fetches.was) fetches.stored in
            let added = stripe_added set p old.work.stripe old.work.size old.work.found mid.found k mid.tried old.work.whys mid.whys calls told.since fetched.stored fetched.block.items made
            so.stripe old.work.at_hand inside (old.work.untried k (omega arith)) passes rows stored bytes fetches.size block in
            fetch_judged mid result told (call_is ∷ []) stays stripe size (passes.counted ∙ old.letters) so (rw (stripe, size) added) judges tried_now stripe_now size_now;
      }

  -- there was not enough memory, before a call
  pub fetch_idle : (drives : List D) (e now : D) → now ≡ slice_index_or drives old.work.tried e → new.asked ≡ old.asked → new.at ≡ old.at
      → new.manifest ≡ old.manifest → new.part ≡ old.part → new.ahead ≡ None
      → FetchSteps {Z = Global} ghosts old new (Err NoMemory) drives (slice_set drives old.work.tried now)
  fetch_idle drives e now same asked at manifest part none = record {
    calls = [];
    are = none_called ghosts drives old.work.tried e now same;
    made = omega arith;
    asked = asked;
    at = at;
    goes_on = λ told so.
        let whole = so.is_part in
        let p = whole.part in
        fetch_answers old new (Err NoMemory) told [] p
        (λ e. ap (λ (m : Manifest). slice_index_or m.parts new.part.place e) manifest ∙ ap (λ (w : PartWork). slice_index_or old.manifest.parts w.place e) part ∙ whole.part_is e)
        (rw (asked, manifest) whole.found)
        (rw (asked, part) (tables_on (data_of old) p (all_bytes old.part.tables.items) (all_calls told) [] whole.held)) tt none;
  }

  -- there was not enough memory, after a block was shown
  pub fetch_unkept : (fetched : ShownBlock) (drives : List D) (e now : D) → old.work.tried < length drives
      → old.work.tried < (set_of old.asked).drives → StaysFor → FetchCall old (Ok (Block fetched)) (view ghosts (slice_index_or drives old.work.tried e)) (view ghosts now)
      → FetchSteps {Z = Global} ghosts old new (Err NoMemory) drives (slice_set drives old.work.tried now)
  fetch_unkept fetched drives e now low inside stays call =
      let d0 = any_part old.manifest.parts old.part.place old.in_manifest in
      let part = part_of old d0 in
      let fetches = call d0 in
      let k = old.work.tried in
      let seen : Seen = Showed (shard_name part.id) (block_place (data_of old) old.work.stripe) fetched.block.items in
      let call_is : Call = record { drive = k; made = fetches.was.made } in
      record {
        calls = call_is ∷ [];
        are = called_once ghosts (set_of old.asked).out k seen drives e now low (old.next_in_use inside) fetches.was;
        made = omega arith;
        asked = stays.asked;
        at = stays.at;
        goes_on = λ told so.
            let whole = so.is_part in
            let p = whole.part in
            fetch_answers old new (Err NoMemory) told (call_is ∷ []) p
            (λ e. ap (λ (m : Manifest). slice_index_or m.parts new.part.place e) stays.manifest ∙ ap (λ (w : PartWork). slice_index_or old.manifest.parts w.place e) stays.part ∙ whole.part_is e)
            (rw (stays.asked, stays.manifest) whole.found)
            (rw (stays.asked, stays.part) (tables_on (data_of old) p (all_bytes old.part.tables.items) (all_calls told) (call_is ∷ []) whole.held)) tt stays.ahead;
      }
