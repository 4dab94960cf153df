-- A reader's steps come to an end.
use Rattle.std.proofs.Common.{◌≡◌, ◌∙◌, ℕ, ◌+◌, ◌-◌, ◌*◌, ◌<◌, ◌≤◌, List, [], ◌∷◌, length, slice_index_or, slice_set, ap, refl, subst, sym, inl, inr, arith}
use Rattle.std.specs.Global.{Global}
use Rattle.std.specs.Prelude.{Err, None, Ok, Option, Result, Some, Vec}
use Rattle.std.proofs.lemmas.Bool.{cases_eq}
use Rattle.std.proofs.lemmas.List.{get_or-set_other, get_or-set_same, length-map, map-set}
use Rattle.std.proofs.lemmas.Nat.{mul-le}
use Rattle.drive_base.specs.declared.plan.SetPlan.{SetPlan}
use Rattle.manifest_file.specs.declared.manifest.Manifest.{Manifest}
use Rattle.shard_file.proofs.StripeLemmas.{stripes_reach}
use Rattle.shard_file.specs.Stripes.{stripe_count}
use Rattle.get_read.specs.Progress.{StaysBesides}
use Rattle.get_read.specs.Blocks.{all_bytes}
use Rattle.get_read.specs.Stripes.{JudgesStripe}
use Rattle.get_read.specs.Measure.{Falls, FallsOn, ahead_left, alone_left, one_held, one_told, run_left, search_left, state_left, steps_a_stripe, stripe_left}
use Rattle.get_read.specs.Readers.{set_of}
use Rattle.get_read.specs.Turns.{BeginsSpan, GivesPiece}
use Rattle.get_read.specs.Windows.{RunTakes}
use Rattle.get_read.specs.declared.faults.BodyFault.{BodyFault}
use Rattle.get_read.specs.declared.faults.BodyFault.TheVariants.{NoMemory}
use Rattle.get_read.specs.declared.reader.ReadStep.{ReadStep}
use Rattle.get_read.specs.declared.reader.ReadStep.TheVariants.{More, Piece, Done}
use Rattle.get_read.specs.declared.state.Asked.{Asked}
use Rattle.get_read.specs.declared.search.Search.{Search}
use Rattle.get_read.specs.declared.fetch.Fetching.{Fetching as FetchingRecord}
use Rattle.get_read.specs.declared.state.StripeWork.{StripeWork}
use Rattle.get_read.specs.declared.state.State.{State}
use Rattle.get_read.specs.declared.state.State.TheVariants.{Searching, Fetching, Refused}
use Rattle.get_read.specs.declared.window.Window.{Window}

-- at most one call is saved
told_most : (size : Option ℕ) → one_told size ≤ 1
told_most None = omega arith
told_most (Some n) = omega arith

pub held_most : (table : List ℕ) → one_held table ≤ 1
held_most [] = omega arith
held_most (x ∷ more) = omega arith

pub held_some : (table : List ℕ) → 0 < length table → one_held table ≡ 1
held_some [] some = absurd (omega (arith, some))
held_some (x ∷ more) some = refl

-- fewer times as much is less, by as much
fewer_times : (a b c : ℕ) → a < b → a * c + c ≤ b * c
fewer_times a b c low =
    let less : (a + 1) * c ≤ b * c = mul-le (a + 1) c b c (omega (arith, low)) (omega arith) in
    let is : (a + 1) * c ≡ a * c + c = omega arith in
    omega (arith, less, is)

-- a drive more is tried
pub tried_more : {T : Type 0} (result : Result (Option T) BodyFault) (n old new saved saved_then : ℕ) → old < new → old < n → saved ≤ 1
    → FallsOn result (2 * (n - old) - saved) (2 * (n - new) - saved_then)
tried_more (Ok None) n old new saved saved_then more low most = omega (arith, more, low, most)
tried_more (Ok (Some found)) n old new saved saved_then more low most = tt
tried_more (Err fault) n old new saved saved_then more low most = tt

-- where all drives are tried, no stripe goes on
pub over_falls : {Z : Type 0} (set : SetPlan) (long : ℕ) (result : Result (Option (Vec ℕ Z)) BodyFault) (old new : StripeWork) (left left_then : ℕ)
    → JudgesStripe set long result old new → new.tried ≡ old.tried → old.tried ≡ set.drives → FallsOn result left left_then
over_falls set long (Ok None) old new left left_then judges same all = absurd (omega (arith, judges.2, same, all))
over_falls set long (Ok (Some stripe)) old new left left_then judges same all = tt
over_falls set long (Err fault) old new left left_then judges same all = tt

-- one call is saved
pub saved_now : (n tried saved saved_then : ℕ) → tried < n → saved ≡ 0 → saved_then ≡ 1 → 2 * (n - tried) - saved_then < 2 * (n - tried) - saved
saved_now n tried saved saved_then low none one = omega (arith, low, none, one)

-- a drive was passed over in a search
pub search_past : {T : Type 0} (result : Result (Option T) BodyFault) (old new : Search) → new.asked ≡ old.asked → old.tried < new.tried
    → old.tried < (set_of old.asked).drives → FallsOn result (search_left old) (search_left new)
search_past result old new asked more low =
    rw asked (tried_more result (set_of old.asked).drives old.tried new.tried (one_told old.size) (one_told new.size) more low (told_most old.size))

-- a table that is held has a digest
pub table_long : (long begin at : ℕ) (table : List ℕ) → at < begin + long → begin ≤ at → length table ≡ 32 * stripe_count long → 0 < length table
table_long long begin at table ends begun is = omega (arith, is, stripes_reach long, ends, begun)

-- and is the one that was set
pub table_some : (tables tables_then : List (Vec ℕ Global)) (k : ℕ) (table : Vec ℕ Global) → tables_then ≡ slice_set tables k table → k < length tables
    → 0 < length table.items → 0 < length (slice_index_or (all_bytes tables_then) k [])
table_some tables tables_then k table is low some =
    let file = λ (t : Vec ℕ Global). t.items in
    let bytes : all_bytes tables_then ≡ slice_set (all_bytes tables) k table.items =
    ap (λ (t : List (Vec ℕ Global)). all_bytes t) is ∙ map-set file tables k table in
    let inside : k < length (all_bytes tables) = omega (arith, low, length-map tables file) in
    let same : slice_index_or (all_bytes tables_then) k [] ≡ table.items =
    ap (λ (t : List (List ℕ)). slice_index_or t k []) bytes ∙ get_or-set_same (all_bytes tables) k table.items [] inside in
    omega (arith, ap (length {A = ℕ}) same, some)

-- the search goes on
pub search_falls : (old new : Search) → new.asked ≡ old.asked → search_left new < search_left old → state_left (Searching new) < state_left (Searching old)
search_falls old new asked fewer =
    let same : (new.asked.span.length + 1) * steps_a_stripe new.asked ≡ (old.asked.span.length + 1) * steps_a_stripe old.asked =
    ap (λ (a : Asked). (a.span.length + 1) * steps_a_stripe a) asked in
    omega (arith, same, fewer)

-- a stripe goes on
pub stripe_falls : (old new : FetchingRecord) → new.asked ≡ old.asked → new.at ≡ old.at → stripe_left new < stripe_left old
    → state_left (Fetching new) < state_left (Fetching old)
stripe_falls old new asked at fewer =
    let same : (new.asked.wanted.reach - new.at) * steps_a_stripe new.asked ≡ (old.asked.wanted.reach - old.at) * steps_a_stripe old.asked =
    ap (λ (a : Asked). (a.wanted.reach - new.at) * steps_a_stripe a) asked ∙ ap (λ (k : ℕ). (old.asked.wanted.reach - k) * steps_a_stripe old.asked) at in
    omega (arith, same, fewer)

-- a window has no more than all drives' calls left
ahead_most : (set : SetPlan) (tables : List (List ℕ)) (ahead : Option Window) → ahead_left set tables ahead ≤ 2 * set.drives
ahead_most set tables None = omega arith
ahead_most set tables (Some window) = omega arith

-- what is left once a stripe begins of which so much is missing
begins_below : (fetching : FetchingRecord) (missing : ℕ) → fetching.asked.wanted.reach - fetching.at < missing
    → state_left (Fetching fetching) < missing * steps_a_stripe fetching.asked
begins_below fetching missing low =
    omega (
      arith,
      fewer_times (fetching.asked.wanted.reach - fetching.at) missing (steps_a_stripe fetching.asked) low,
      ahead_most (set_of fetching.asked) (all_bytes fetching.part.tables.items) fetching.ahead,
    )

-- the span begins
pub begun_falls : (asked : Asked) (search : Search) (m : Manifest) (new : State) (result : Result ReadStep BodyFault) → search.asked ≡ asked
    → BeginsSpan asked (Refused NoMemory) new m result → Falls result (state_left (Searching search)) (state_left new)
begun_falls asked search m new (Ok Piece) same begins = absurd begins
begun_falls asked search m new (Ok Done) same begins = ap state_left begins.1
begun_falls asked search m new (Err fault) same begins = ap state_left begins.1
begun_falls asked search m new (Ok More) same begins =
    let fetching = begins.0 in
    let end : asked.span.at + asked.span.length ≡ asked.wanted.reach = asked.end in
    let reach : fetching.asked.wanted.reach ≡ asked.wanted.reach = ap (λ (a : Asked). a.wanted.reach) begins.2.asked_is in
    let below = begins_below fetching (asked.span.length + 1) (omega (arith, end, reach, begins.2.at_is)) in
    let steps : (asked.span.length + 1) * steps_a_stripe fetching.asked ≡ (search.asked.span.length + 1) * steps_a_stripe search.asked =
    ap (λ (a : Asked). (asked.span.length + 1) * steps_a_stripe a) begins.2.asked_is ∙ ap (λ (a : Asked). (a.span.length + 1) * steps_a_stripe a) (sym same) in
    let is : state_left new ≡ state_left (Fetching fetching) = ap state_left begins.1 in
    omega (arith, below, steps, is)

-- a piece is given
pub given_falls : (old next : FetchingRecord) (stripe piece : List ℕ) (new : State) (result : Result ReadStep BodyFault)
    → next.asked ≡ old.asked → next.at ≡ old.at → old.at < old.asked.wanted.reach
    → GivesPiece (Refused NoMemory) new piece next stripe result → Falls result (state_left (Fetching old)) (state_left new)
given_falls old next stripe piece new (Ok More) asked at low gives = absurd gives
given_falls old next stripe piece new (Ok Done) asked at low gives = absurd gives
given_falls old next stripe piece new (Err fault) asked at low gives = ap state_left gives.1
given_falls old next stripe piece new (Ok Piece) asked at low gives =
    let left = old.asked.wanted.reach - old.at in
    let some = fewer_times 0 left (steps_a_stripe old.asked) (omega (arith, low)) in
    elim gives.2 [
      | inl ends ↦
          let is : state_left new ≡ 0 = ap state_left ends.1 in
          omega (arith, some, is)
      | inr turns_to ↦
          let fetching = turns_to.0 in
          let same : fetching.asked ≡ old.asked = turns_to.2.asked_is ∙ asked in
          let reach : fetching.asked.wanted.reach ≡ old.asked.wanted.reach = ap (λ (a : Asked). a.wanted.reach) same in
          let below = begins_below fetching left (omega (arith, reach, turns_to.2.at_is, at, low, gives.1)) in
          let steps : left * steps_a_stripe fetching.asked ≡ left * steps_a_stripe old.asked = ap (λ (a : Asked). left * steps_a_stripe a) same in
          let is : state_left new ≡ state_left (Fetching fetching) = ap state_left turns_to.1 in
          omega (arith, below, steps, is)
    ]

-- a table more that is held saves no fewer calls
pub held_later : (tables : List (Vec ℕ Global)) (k j : ℕ) (table : Vec ℕ Global) → k < length tables → 0 < length table.items
    → one_held (slice_index_or (all_bytes tables) j []) ≤ one_held (slice_index_or (all_bytes (slice_set tables k table)) j [])
held_later tables k j table low some =
    let file = λ (t : Vec ℕ Global). t.items in
    let bytes : all_bytes (slice_set tables k table) ≡ slice_set (all_bytes tables) k table.items = map-set file tables k table in
    let at : slice_index_or (all_bytes (slice_set tables k table)) j [] ≡ slice_index_or (slice_set (all_bytes tables) k table.items) j [] =
    ap (λ (t : List (List ℕ)). slice_index_or t j []) bytes in
    elim (cases_eq j k) [
      | inl same ↦
          let now : one_held (slice_index_or (all_bytes (slice_set tables k table)) k []) ≡ 1 =
          held_some _ (table_some tables (slice_set tables k table) k table refl low some) in
          omega (arith, held_most (slice_index_or (all_bytes tables) j []), now, ap (λ (i : ℕ). one_held (slice_index_or (all_bytes (slice_set tables k table)) i [])) same)
      | inr apart ↦ omega (arith, ap one_held (at ∙ get_or-set_other (all_bytes tables) k j table.items [] apart))
    ]

-- or gave its blocks
pub took_falls : (Z : Type 0) (set : SetPlan) (tables : List (List ℕ)) (w : Window) (run digests : List ℕ) (result : Result (Option (Vec ℕ Z)) BodyFault) (ahead : Option Window)
    (alone : ℕ) → w.tried < set.drives → RunTakes set w run digests result ahead → FallsOn result (run_left set tables w + alone) (ahead_left set tables ahead + alone)
took_falls Z set tables w run digests (Ok None) None alone low takes = omega (arith, low, held_most (slice_index_or tables w.tried []))
took_falls Z set tables w run digests (Ok None) (Some new) alone low takes = omega (arith, low, takes.past, held_most (slice_index_or tables w.tried []))
took_falls Z set tables w run digests (Ok (Some bytes)) ahead alone low takes = tt
took_falls Z set tables w run digests (Err fault) ahead alone low takes = tt

-- where all but the window stays
pub stays_left : (old new : FetchingRecord) → StaysBesides old new
    → stripe_left new ≡ ahead_left (set_of old.asked) (all_bytes old.part.tables.items) new.ahead + alone_left old
stays_left old new stays = rw (stays.asked, stays.part, stays.work) refl

-- without a window
pub bare_left : (old : FetchingRecord) → old.ahead ≡ None → stripe_left old ≡ alone_left old
bare_left old none =
    let is : ahead_left (set_of old.asked) (all_bytes old.part.tables.items) old.ahead ≡ 0 =
    ap (λ (a : Option Window). ahead_left (set_of old.asked) (all_bytes old.part.tables.items) a) none in
    omega (arith, is)

pub falls_as : {T : Type 0} (result : Result (Option T) BodyFault) (a b c d : ℕ) → a ≡ c → b ≡ d → FallsOn result a b → FallsOn result c d
falls_as result a b c d one other falls = subst (λ (x : ℕ). FallsOn result x d) one (subst (λ (y : ℕ). FallsOn result a y) other falls)

-- a table more is held
pub holds_falls : (n t j a b c d : ℕ) → t < n → a ≡ 0 → b ≡ 1 → c ≤ d → (2 * (n - t) - b) + (2 * (n - j) - d) < (2 * (n - t) - a) + (2 * (n - j) - c)
holds_falls n t j a b c d low none one more = omega (arith, low, none, one, more)

pub less_as : (a b c d : ℕ) → a < b + c → c ≡ d → a < b + d
less_as a b c d low same = omega (arith, low, same)

-- without a window nothing is left of one
pub no_window : (set : SetPlan) (tables : List (List ℕ)) (ahead : Option Window) → ahead ≡ None → ahead_left set tables ahead ≡ 0
no_window set tables ahead none = ap (λ (a : Option Window). ahead_left set tables a) none

pub falls_plus : {T : Type 0} (result : Result (Option T) BodyFault) (p a q c : ℕ) → p ≡ 0 → q ≡ 0 → FallsOn result a c → FallsOn result (p + a) (q + c)
falls_plus (Ok None) p a q c none other falls = omega (arith, none, other, falls)
falls_plus (Ok (Some found)) p a q c none other falls = tt
falls_plus (Err fault) p a q c none other falls = tt

pub less_plus : (p a q c : ℕ) → p ≡ 0 → q ≡ 0 → a < c → p + a < q + c
less_plus p a q c none other low = omega (arith, none, other, low)
