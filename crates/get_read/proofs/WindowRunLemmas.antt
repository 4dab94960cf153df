-- The runs of blocks that a window holds: with those of one drive more, and what is rebuilt from them.
use Rattle.std.proofs.Common.{◌≡◌, ◌∙◌, ℕ, ◌+◌, ◌*◌, ◌<◌, ◌≤◌, List, [], ◌∷◌, ◌++◌, length, take, drop, slice_index, slice_index_or, ap, refl, subst, sym, inl, inr, arith}
use Rattle.std.specs.Prelude.{All, Err, None, Ok, Option, Result, Some, Vec}
use Rattle.std.specs.Global.{Global}
use Rattle.std.specs.List.{concat}
use Rattle.std.proofs.Math.Seq.{drop-drop, get_or-append_seam}
use Rattle.std.proofs.lemmas.Bool.{cases_lt}
use Rattle.std.proofs.lemmas.List.{get_or_append_left, length-append, same_lists, take_all}
use Rattle.std.proofs.lemmas.List.Elements.{All-weaker}
use Rattle.field_reader.proofs.Parts.{IsBytes-drop, IsBytes-take}
use Rattle.field_reader.specs.Spelling.{IsBytes}
use Rattle.drive_base.specs.Calls.{MadeCall, Showed, Tells}
use Rattle.drive_base.specs.Plan.{data_drives}
use Rattle.drive_base.specs.declared.plan.SetPlan.{SetPlan}
use Rattle.manifest_file.specs.declared.manifest.ManifestPart.{ManifestPart}
use Rattle.shard_file.proofs.Pieces.{concat-pieces, get_or-pieces, length-pieces, length-whole_piece}
use Rattle.shard_file.specs.Shards.{block_place}
use Rattle.shard_file.specs.Stripes.{block_size, piece, pieces, stripe_length, stripe_size}
use Rattle.body_print.proofs.ClashLemmas.{each_or}
use Rattle.body_print.specs.Names.{shard_name}
use Rattle.get_read.specs.Account.{Account, Call}
use Rattle.get_read.specs.Progress.{GivesRun, IsRunBy, IsStripeBy, PartClashIn, StripeAnswers}
use Rattle.get_read.specs.Causes.{digest_in}
use Rattle.get_read.specs.Letters.{IsBlockIn, IsTableIn}
use Rattle.get_read.specs.Readers.{IsStripeOf, Told, all_calls}
use Rattle.get_read.specs.Windows.{AreAhead, AreRebuilt, AreRuns, RunPasses, RunTakes, TookRun, Verifies, digests_in, run_block, run_digest}
use Rattle.get_read.specs.declared.faults.BodyFault.{BodyFault}
use Rattle.get_read.specs.declared.faults.BodyFault.TheVariants.{InvalidRange, ShardQuorum, NoMemory}
use Rattle.get_read.specs.declared.state.StripeWork.{StripeWork}
use Rattle.get_read.specs.declared.window.Window.{Window}
use Rattle.get_read.proofs.AccountLemmas.{block_on, stands_last, table_on}
use Rattle.get_read.proofs.StepLemmas.{stripe_within}
use Rattle.get_read.proofs.StripeByLemmas.{rebuilt_from}
use Rattle.get_read.proofs.WindowLemmas.{digest_among, piece_full, piece_of_before, piece_of_more, rows_more, run_below, run_under}

-- a block of a drive, told otherwise
as_told : (d i : ℕ) (part : ManifestPart) (calls : Account) (k k_now : ℕ) (stored stored_now block block_now : List ℕ) → k_now ≡ k → stored_now ≡ stored → block_now ≡ block
    → IsBlockIn d part i (slice_index_or part.roots k []) calls calls k stored block
    → IsBlockIn d part i (slice_index_or part.roots k_now []) calls calls k_now stored_now block_now
as_told d i part calls k k_now stored stored_now block block_now same_drive same_digest same_block is =
    subst (λ (m : ℕ). IsBlockIn d part i (slice_index_or part.roots m []) calls calls m stored_now block_now) (sym same_drive)
    (subst (λ (s : List ℕ). IsBlockIn d part i (slice_index_or part.roots k []) calls calls k s block_now) (sym same_digest)
    (subst (λ (b : List ℕ). IsBlockIn d part i (slice_index_or part.roots k []) calls calls k stored b) (sym same_block) is))

-- block s of blocks that a call shows now, by a table that is held
run_now : (d first count size s : ℕ) (part : ManifestPart) (root : List ℕ) (calls : Account) (k : ℕ) (table run : List ℕ) (made : MadeCall)
    → Tells made (Showed (shard_name part.id) (block_place d first) run) → IsTableIn d part root calls k table
    → s < count → stripe_size * (first + count) ≤ part.length → size ≡ block_size d stripe_size → length run ≡ count * size → IsBytes run
    → IsBlockIn d part (first + s) root (calls ++ record { drive = k; made = made } ∷ []) (calls ++ record { drive = k; made = made } ∷ []) k
    (digest_in table (first + s)) (piece size run s)
run_now d first count size s part root calls k table run made tells is_table low within size_is long bytes =
    let call : Call = record { drive = k; made = made } in
    let full : length (piece size run s) ≡ size = piece_full size count s run long low in
    let whole : stripe_length part.length (first + s) ≡ stripe_size = omega (arith, within, low) in
    let place : block_place d (first + s) ≡ block_place d first + size * s =
    let parts : (first + s) * block_size d stripe_size ≡ first * block_size d stripe_size + block_size d stripe_size * s = omega arith in
    parts ∙ ap (λ (n : ℕ). first * block_size d stripe_size + n * s) (sym size_is) in
    record {
      table = table;
      is_table = table_on d part root calls (call ∷ []) k table is_table;
      size = full ∙ size_is ∙ ap (block_size d) (sym whole);
      bytes = IsBytes-take size (drop (size * s) run) (IsBytes-drop (size * s) run bytes);
      stored = refl;
      showed = (block_place d first, size * s, run, stands_last calls call _ tells, place, ap (λ (n : ℕ). take n (drop (size * s) run)) (sym full));
    }

-- the rows with one more
pub runs_added : (set : SetPlan) (part : ManifestPart) (old new : Window) (table run : List ℕ) (calls : Account) (made : MadeCall)
    → Tells made (Showed (shard_name part.id) (block_place (data_drives set.drives set.parity) old.first) run)
    → TookRun old new run (digests_in table old.first old.count) → AreRuns set part old calls
    → IsTableIn (data_drives set.drives set.parity) part (slice_index_or part.roots old.tried []) calls old.tried table
    → stripe_size * (old.first + old.count) ≤ part.length → old.size ≡ block_size (data_drives set.drives set.parity) stripe_size
    → length run ≡ old.count * old.size → IsBytes run
    → AreRuns set part new (calls ++ record { drive = old.tried; made = made } ∷ [])
runs_added set part old new table run calls made tells took runs is_table within size_is long bytes = λ j s low inside.
    let d = data_drives set.drives set.parity in
    let rows = old.rows.items in
    let n = length rows in
    let count = old.count in
    let call : Call = record { drive = old.tried; made = made } in
    let late = calls ++ call ∷ [] in
    let at : s < count = omega (arith, inside, took.same.count) in
    let counted : length new.rows.items ≡ n + 1 = ap (length {A = ℕ}) took.rows ∙ length-append rows (old.tried ∷ []) in
    let is : IsBlockIn d part (old.first + s) (slice_index_or part.roots (slice_index new.rows.items j) []) late late (slice_index new.rows.items j)
    (piece 32 new.stored.items (j * count + s)) (piece old.size new.bytes.items (j * count + s)) = elim (cases_lt j n) [
      | inl before ↦
          let below : j * count + s < n * count = omega (arith, run_below j n s count before at) in
          as_told d (old.first + s) part late (slice_index rows j) (slice_index new.rows.items j) (run_digest old j s) (piece 32 new.stored.items (j * count + s))
          (run_block old j s) (piece old.size new.bytes.items (j * count + s))
          (ap (λ (r : List ℕ). slice_index r j) took.rows ∙ get_or_append_left rows (old.tried ∷ []) 0 j before)
          (piece_of_before 32 (n * count) (j * count + s) old.stored.items (digests_in table old.first count) new.stored.items old.hashes took.stored below)
          (piece_of_before old.size (n * count) (j * count + s) old.bytes.items run new.bytes.items old.long took.bytes below)
          (block_on d part (old.first + s) (slice_index_or part.roots (slice_index rows j) []) calls calls (call ∷ []) (slice_index rows j) (run_digest old j s) (run_block old j s) (runs j s before at))
      | inr past ↦
          let last : j ≡ n = omega (arith, low, past, counted) in
          let there : j * count + s ≡ n * count + s = ap (λ (m : ℕ). m * count + s) last in
          as_told d (old.first + s) part late old.tried (slice_index new.rows.items j) (digest_in table (old.first + s)) (piece 32 new.stored.items (j * count + s))
          (piece old.size run s) (piece old.size new.bytes.items (j * count + s))
          (ap (slice_index new.rows.items) last ∙ ap (λ (r : List ℕ). slice_index r n) took.rows ∙ get_or-append_seam rows old.tried [] 0)
          (ap (piece 32 new.stored.items) there ∙ piece_of_more 32 (n * count) s old.stored.items (digests_in table old.first count) new.stored.items old.hashes took.stored
          ∙ digest_among table old.first count s at)
          (ap (piece old.size new.bytes.items) there ∙ piece_of_more old.size (n * count) s old.bytes.items run new.bytes.items old.long took.bytes)
          (run_now d old.first count old.size s part (slice_index_or part.roots old.tried []) calls old.tried table run made tells
          is_table at within size_is long bytes)
    ] in
    rw (took.same.first, took.same.count, took.same.size) is

-- bytes with the same pieces are the same
pieces_same : (size count : ℕ) (a b : List ℕ) → length a ≡ size * count → ((s : ℕ) → s < count → piece size a s ≡ piece size b s) → a ≡ take (size * count) b
pieces_same size count a b long same =
    let all : pieces size count a ≡ pieces size count b = same_lists (pieces size count a) (pieces size count b)
    (length-pieces size count a ∙ sym (length-pieces size count b))
    (λ k d low.
    let inside : k < count = omega (arith, low, length-pieces size count a) in
    get_or-pieces size count a k d inside ∙ same k inside ∙ sym (get_or-pieces size count b k d inside)) in
    sym (take_all (size * count) a (omega (arith, long))) ∙ sym (concat-pieces size count a) ∙ ap concat all ∙ concat-pieces size count b

-- stripes one after another
run_by : (set : SetPlan) (part : ManifestPart) (first count : ℕ) (bytes : List ℕ) (calls : Account) → length bytes ≡ stripe_size * count
    → stripe_size * (first + count) ≤ part.length → ((s : ℕ) → s < count → IsStripeBy set part (first + s) (piece stripe_size bytes s) calls)
    → IsRunBy set part first (stripe_size * count) bytes calls
run_by set part first count bytes calls long within each = record {
  long = omega (arith, long, within);
  exact = λ all is roots.
      let from = drop (stripe_size * first) all in
      elim (each_or (λ s. piece stripe_size bytes s ≡ piece stripe_size all (first + s)) (PartClashIn set.drives (data_drives set.drives set.parity) all calls) count
      (λ s low. (each s low).exact all is roots)) [
        | inl same ↦ inl (pieces_same stripe_size count bytes from long
            (λ s low. same s low ∙ ap (take stripe_size) (ap (λ (m : ℕ). drop m all) (omega arith) ∙ sym (drop-drop (stripe_size * s) (stripe_size * first) all))))
        | inr clash ↦ inr clash
      ];
}

-- a stripe of a window is whole, and begins before the part ends
whole_stripe : (n first count s : ℕ) → stripe_size * (first + count) ≤ n → s < count → stripe_length n (first + s) ≡ stripe_size
whole_stripe n first count s within low = omega (arith, within, low)

begins_before : (n first count s : ℕ) → stripe_size * (first + count) ≤ n → s < count → stripe_size * (first + s) < n
begins_before n first count s within low = omega (arith, within, low)

-- what a window has at least
some_stripe : (count : ℕ) → 1 ≤ count → stripe_size ≤ stripe_size * count
some_stripe count some = omega (arith, some)

-- what is rebuilt from a window that verifies
run_given : (set : SetPlan) (part : ManifestPart) (w : Window) (bytes : List ℕ) (calls : Account) → AreRuns set part w calls → Verifies w → AreRebuilt set w bytes
    → All (λ row. row < set.drives) w.rows.items → 1 ≤ w.count → stripe_size * (w.first + w.count) ≤ part.length → GivesRun set part w.first bytes calls
run_given set part w bytes calls runs verified rebuilt below some within =
    let d = data_drives set.drives set.parity in (
      stripe_size * w.count,
      some_stripe w.count some,
      run_by set part w.first w.count bytes calls rebuilt.0 within
          (λ s low.
          let whole : stripe_length part.length (w.first + s) ≡ stripe_size = whole_stripe part.length w.first w.count s within low in
          let full : length (piece stripe_size bytes s) ≡ stripe_length part.length (w.first + s) = length-whole_piece stripe_size w.count bytes s low rebuilt.0 ∙ sym whole in
          rebuilt_from set part (w.first + s) w.rows.items (λ j. run_block w j s) (piece stripe_size bytes s) calls
          (stripe_within part.length (w.first + s) (begins_before part.length w.first w.count s within low)) below
          (λ j inside. record {
            digest = run_digest w j s;
            is_block = runs j s inside low;
            same = verified (j * w.count + s) (run_under j (length w.rows.items) s w.count inside low);
          })
          full
          (λ other shards is blocks same. rebuilt.1 s low other shards (is ∙ whole) blocks same)),
    )

-- the rows stand on
pub runs_on : (set : SetPlan) (part : ManifestPart) (w : Window) (calls more : Account) → AreRuns set part w calls → AreRuns set part w (calls ++ more)
runs_on set part w calls more runs = λ j s low inside.
    block_on (data_drives set.drives set.parity) part (w.first + s) (slice_index_or part.roots (slice_index w.rows.items j) []) calls calls more
    (slice_index w.rows.items j) (run_digest w j s) (run_block w j s) (runs j s low inside)

-- and where a drive is passed over
pub passed_ahead : (set : SetPlan) (part : ManifestPart) (w : Window) (ahead : Option Window) (calls more : Account) → RunPasses w ahead → AreRuns set part w calls
    → AreAhead set part ahead (calls ++ more)
passed_ahead set part w None calls more passes runs = tt
passed_ahead set part w (Some new) calls more passes runs =
    rw (passes.same.first, passes.same.count, passes.same.size, passes.rows, passes.stored, passes.bytes) (runs_on set part w calls more runs)

-- and where one more is added
pub took_ahead : (Z : Type 0) (set : SetPlan) (part : ManifestPart) (w : Window) (run digests : List ℕ) (result : Result (Option (Vec ℕ Z)) BodyFault) (ahead : Option Window)
    (calls : Account) → RunTakes set w run digests result ahead → ((next : Window) → TookRun w next run digests → AreRuns set part next calls) → AreAhead set part ahead calls
took_ahead Z set part w run digests (Ok None) None calls takes added = tt
took_ahead Z set part w run digests (Ok None) (Some new) calls takes added = added new takes
took_ahead Z set part w run digests (Ok (Some bytes)) ahead calls takes added = subst (λ (a : Option Window). AreAhead set part a calls) (sym takes.0) tt
took_ahead Z set part w run digests (Err (InvalidRange n)) ahead calls takes added = absurd takes
took_ahead Z set part w run digests (Err (ShardQuorum whys)) ahead calls takes added = absurd takes
took_ahead Z set part w run digests (Err NoMemory) ahead calls takes added = subst (λ (a : Option Window). AreAhead set part a calls) (sym takes) tt

-- what a stripe answers where the blocks of one drive more came
pub took_answers : (set : SetPlan) (part : ManifestPart) (w : Window) (run digests : List ℕ) (result : Result (Option (Vec ℕ Global)) BodyFault) (ahead : Option Window)
    (work : StripeWork) (told : Told) → RunTakes set w run digests result ahead
    → ((next : Window) → TookRun w next run digests → AreRuns set part next (all_calls told)) → w.tried < set.drives → 1 ≤ w.count
    → stripe_size * (w.first + w.count) ≤ part.length → w.first ≡ work.stripe → IsStripeOf set part work (all_calls told) told.since
    → StripeAnswers set part result work told
took_answers set part w run digests (Ok None) ahead work told takes added low some within first alone = alone
took_answers set part w run digests (Ok (Some bytes)) ahead work told takes added low some within first alone =
    let next = takes.1.0 in
    let took = takes.1.1 in
    let below : All (λ row. row < set.drives) next.rows.items =
    All-weaker (λ row. row < w.tried + 1) (λ row. row < set.drives) (λ row under. omega (arith, under, low)) next.rows.items
    (rows_more w.tried w.rows.items next.rows.items took.rows w.below) in
    subst (λ (i : ℕ). GivesRun set part i bytes.items (all_calls told)) (took.same.first ∙ first)
    (run_given set part next bytes.items (all_calls told) (added next took) takes.1.3 takes.1.4 below (omega (arith, some, took.same.count))
    (omega (arith, within, took.same.first, took.same.count)))
took_answers set part w run digests (Err (InvalidRange n)) ahead work told takes added low some within first alone = absurd takes
took_answers set part w run digests (Err (ShardQuorum whys)) ahead work told takes added low some within first alone = absurd takes
took_answers set part w run digests (Err NoMemory) ahead work told takes added low some within first alone = tt
