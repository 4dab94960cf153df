-- What a fill leaves: further stripes, and their blocks to be appended.
use Rattle.std.proofs.Common.{◌≡◌, ◌≢◌, ◌∙◌, ℕ, ◌+◌, ◌*◌, ◌<◌, ◌≤◌, true, false, List, [], ◌∷◌, ◌++◌, length, map, take, drop, slice_index_or, slice_set, below_more, Option, Some, None, ap, refl, subst, sym, inl, inr, arith, append_assoc, append-nil}
use Rattle.std.specs.Prelude.{if◌then◌else◌, ◌⊎◌, ◌%◌, ◌==◌, Bool, Vec}
use Rattle.std.specs.List.{concat}
use Rattle.std.specs.Io.KnownBytes.{append_known, prepend_known}
use Rattle.std.proofs.lemmas.List.{get_or-map, get_or-set_other, get_or-set_same, length-append, length-map, map-set}
use Rattle.std.proofs.lemmas.List.Folds.{concat-append}
use Rattle.md5.specs.Md5.{Holds}
use Rattle.call_types.specs.Feeds.{FeedView, Gave}
use Rattle.call_types.specs.Good.{is_good}
use Rattle.call_types.specs.declared.why.FileKind.TheVariants.{Format, Register, Manifest as ManifestKind, Shard as ShardKind}
use Rattle.call_types.specs.declared.why.Why.{Why}
use Rattle.call_types.specs.declared.why.Why.TheVariants.{Good, Failed, Damaged, Behind, Lacks}
use Rattle.drive_base.specs.Plan.{data_drives}
use Rattle.drive_base.specs.declared.plan.SetPlan.{SetPlan}
use Rattle.shard_file.specs.Shards.{table_of}
use Rattle.shard_file.specs.Stripes.{stripe_size}
use Rattle.body_print.specs.Shards.{AreShards}
use Rattle.put_stage.specs.Cells.{DataCells}
use Rattle.put_stage.specs.StripeBlocks.{all_bytes, block_at}
use Rattle.put_stage.specs.Dues.{is_block, is_early}
use Rattle.put_stage.specs.Fills.{AreDueAfter}
use Rattle.put_stage.specs.Steps.{MayFill}
use Rattle.stamp_id.specs.declared.version.VersionId.{VersionId}
use Rattle.put_stage.specs.CallsSoFar.{AppendsShard, CalledBefore, CallsGoOn}
use Rattle.put_stage.proofs.SoFarLemmas.{early_table, more_due}
use Rattle.put_stage.specs.TakenBodies.{Filled, GaveUpTo, HasTaken, IsMadeOf, IsSameTask, TookWindow, WorkGoesOn}
use Rattle.put_stage.specs.Windows.{AreWholeStripes, IsNextLength, IsWindow, window_size, window_stripes, with_shards}
use Rattle.put_stage.specs.Work.{Blocks, HasBy, HasFailedAt, IsBefore, due_at, why_at}
use Rattle.put_stage.specs.declared.dues.Due.{Due}
use Rattle.put_stage.specs.declared.dues.Due.TheVariants.{Block, Table, SyncShard, Manifest, SyncManifest, PlaceManifest, PlaceShard, Nothing}
use Rattle.put_stage.specs.declared.stage.Load.{Load}
use Rattle.put_stage.specs.declared.stage.Stage.{Stage}
use Rattle.put_stage.proofs.JoinLemmas.{shard_with, shards_joined, tables_joined}

-- nothing was given
pub prepend-nothing : (left : Option (List ℕ)) → left ≡ prepend_known [] left
prepend-nothing None = refl
prepend-nothing (Some rest) = refl

pub append-nothing : (taken : Option (List ℕ)) → taken ≡ append_known taken []
append-nothing None = refl
append-nothing (Some front) = ap (λ (bytes : List ℕ). Some bytes) (sym (append-nil front))

-- what was given in two takes
pub prepend-joined : (old mid new : Option (List ℕ)) (xs ys : List ℕ) → old ≡ prepend_known xs mid → mid ≡ prepend_known ys new → old ≡ prepend_known (xs ++ ys) new
prepend-joined old mid None xs ys first second = first ∙ ap (prepend_known xs) second
prepend-joined old mid (Some rest) xs ys first second = first ∙ ap (prepend_known xs) second ∙ ap (λ (bytes : List ℕ). Some bytes) (sym (append_assoc xs ys rest))

pub append-joined : (old mid new : Option (List ℕ)) (xs ys : List ℕ) → mid ≡ append_known old xs → new ≡ append_known mid ys → new ≡ append_known old (xs ++ ys)
append-joined None mid new xs ys first second = second ∙ ap (λ (known : Option (List ℕ)). append_known known ys) first
append-joined (Some front) mid new xs ys first second =
    second ∙ ap (λ (known : Option (List ℕ)). append_known known ys) first ∙ ap (λ (bytes : List ℕ). Some bytes) (append_assoc front xs ys)

-- where two lists of bytes are none together, each is none
front-none : (xs ys : List ℕ) → xs ++ ys ≡ [] → xs ≡ []
front-none [] ys none = refl
front-none (x ∷ xs) ys none = cc

back-none : (xs ys : List ℕ) → xs ++ ys ≡ [] → ys ≡ []
back-none [] ys none = none
back-none (x ∷ xs) ys none = cc

-- two gifts of a feed are one
pub gave_both : (xs ys : List ℕ) (old mid new : FeedView) → Gave xs old mid → Gave ys mid new → Gave (xs ++ ys) old new
gave_both xs ys old mid new first second = record {
  stated = second.stated ∙ first.stated;
  given = omega (arith, first.given, second.given, length-append xs ys);
  left = prepend-joined old.left mid.left new.left xs ys first.left second.left;
  taken = append-joined old.taken mid.taken new.taken xs ys first.taken second.taken;
  ended = λ none was. second.ended (back-none xs ys none) (first.ended (front-none xs ys none) was);
}

-- what was given, and at most so many bytes more
pub gave_more : (xs : List ℕ) (most all before between after : ℕ) (old mid new : FeedView) → Gave xs old mid → length xs + between ≡ before
    → GaveUpTo most between after mid new → length xs + most ≤ all → GaveUpTo all before after old new
gave_more xs most all before between after old mid new first counted second fits = record {
  bytes = xs ++ second.bytes;
  few = omega (arith, second.few, length-append xs second.bytes);
  left = omega (arith, counted, second.left, length-append xs second.bytes);
  gave = gave_both xs second.bytes old mid new first second.gave;
}

-- digests were added to a table: the tables up to it have theirs, and those behind it are as they were
module _ {Z : Type 0} (tables : List (Vec ℕ Z)) (was : List (List ℕ)) (added_to : ℕ → List ℕ) (i : ℕ) (default now : Vec ℕ Z) where
  put_table : all_bytes (slice_set tables i now) ≡ slice_set (all_bytes tables) i now.items
  put_table = map-set (λ (file : Vec ℕ Z). file.items) tables i now

  other_table : (k : ℕ) → k ≢ i → slice_index_or (all_bytes (slice_set tables i now)) k [] ≡ slice_index_or (all_bytes tables) k []
  other_table k apart = ap (λ (all : List (List ℕ)). slice_index_or all k []) put_table ∙ get_or-set_other (all_bytes tables) i k now.items [] apart

  pub digests_added : i < length tables → now.items ≡ (slice_index_or tables i default).items ++ added_to i
      → ((k : ℕ) → k < i → slice_index_or (all_bytes tables) k [] ≡ slice_index_or was k [] ++ added_to k)
      → ((k : ℕ) → i ≤ k → slice_index_or (all_bytes tables) k [] ≡ slice_index_or was k [])
      → (k : ℕ) → k < i + 1 → slice_index_or (all_bytes (slice_set tables i now)) k [] ≡ slice_index_or was k [] ++ added_to k
  digests_added low joined added others =
      let inside : i < length (all_bytes tables) = omega (arith, length-map tables (λ (file : Vec ℕ Z). file.items)) in
      let had : slice_index_or (all_bytes tables) i [] ≡ (slice_index_or tables i default).items =
      get_or-map (λ (file : Vec ℕ Z). file.items) tables i default [] low in
      below_more (λ k. slice_index_or (all_bytes (slice_set tables i now)) k [] ≡ slice_index_or was k [] ++ added_to k) i
      (λ k h. let apart : k ≢ i = omega arith in other_table k apart ∙ added k h)
      (ap (λ (all : List (List ℕ)). slice_index_or all i []) put_table ∙ get_or-set_same (all_bytes tables) i now.items [] inside
      ∙ joined ∙ ap (λ (front : List ℕ). front ++ added_to i) (sym had ∙ others i (omega arith)))

  pub others_stay : ((k : ℕ) → i ≤ k → slice_index_or (all_bytes tables) k [] ≡ slice_index_or was k [])
      → (k : ℕ) → i + 1 ≤ k → slice_index_or (all_bytes (slice_set tables i now)) k [] ≡ slice_index_or was k []
  others_stay others k past = let apart : k ≢ i = omega arith in other_table k apart ∙ others k (omega arith)

-- a load with further stripes; where no byte is left, what is made of it stands
pub taken_more : (old new : Load) (body bytes : List ℕ) (shards : List (List (List ℕ))) → HasTaken old body shards → IsSameTask old new
    → 0 < old.left → length bytes + new.left ≡ old.left → (0 < new.left → AreWholeStripes (length bytes))
    → (window : IsWindow old.set.drives (data_drives old.set.drives old.set.parity) bytes new.window)
    → ((k : ℕ) → k < old.set.drives → slice_index_or (all_bytes new.tables.items) k [] ≡ slice_index_or (all_bytes old.tables.items) k [] ++ table_of (slice_index_or window.shards k []))
    → (0 < new.left → Holds new.hasher (body ++ bytes))
    → (new.left ≡ 0 → all_bytes new.tables.items ≡ map table_of (with_shards shards window.shards)
    → AreShards new.set.drives (data_drives new.set.drives new.set.parity) (body ++ bytes) (with_shards shards window.shards)
    → IsMadeOf new (body ++ bytes) (with_shards shards window.shards) new.made)
    → HasTaken new (body ++ bytes) (with_shards shards window.shards)
taken_more old new body bytes shards taken task was left full window digests hashed made =
    let n = old.set.drives in
    let d = data_drives old.set.drives old.set.parity in
    let whole = taken.whole was in
    let same_n : new.set.drives ≡ n = ap (λ (s : SetPlan). s.drives) task.set in
    let after : List (List (List ℕ)) = with_shards shards window.shards in
    let joined = length-append body bytes in
    let are_here : AreShards n d (body ++ bytes) after = shards_joined n d whole.0 body bytes shards window.shards whole.1 taken.are window.are in
    let are : AreShards new.set.drives (data_drives new.set.drives new.set.parity) (body ++ bytes) after =
    subst (λ (s : SetPlan). AreShards s.drives (data_drives s.drives s.parity) (body ++ bytes) after) (sym task.set) are_here in
    let bytes_long : length (all_bytes new.tables.items) ≡ n = length-map new.tables.items _ ∙ new.tables_of_all ∙ same_n in
    let tables : all_bytes new.tables.items ≡ map table_of after =
    tables_joined n shards window.shards (all_bytes old.tables.items) (all_bytes new.tables.items) taken.are.count bytes_long taken.tables digests in
    record {
      of_body = task.alone ∙ taken.of_body;
      long = omega (arith, joined, taken.long, left, task.long);
      whole = λ more. let further = full more in (whole.0 + further.0, omega (arith, joined, whole.1, further.1));
      are = are;
      tables = tables;
      hashed = hashed;
      made = λ none. made none tables are;
    }

-- a window was taken
pub took_window : (old new : Load) (bytes : List ℕ) → IsSameTask old new → 0 < old.left → 0 < length bytes → length bytes ≤ window_size old.set.drives
    → length bytes + new.left ≡ old.left → (0 < new.left → AreWholeStripes (length bytes))
    → (window : IsWindow old.set.drives (data_drives old.set.drives old.set.parity) bytes new.window)
    → ((k : ℕ) → k < old.set.drives → slice_index_or (all_bytes new.tables.items) k [] ≡ slice_index_or (all_bytes old.tables.items) k []
    ++ concat (take new.window.count (drop (new.window.count * k) new.window.digests.items)))
    → ((body : List ℕ) → Holds old.hasher body → 0 < new.left → Holds new.hasher (body ++ bytes))
    → ((body : List ℕ) (shards : List (List (List ℕ))) → Holds old.hasher body → new.left ≡ 0 → new.long ≡ length (body ++ bytes)
    → all_bytes new.tables.items ≡ map table_of shards → AreShards new.set.drives (data_drives new.set.drives new.set.parity) (body ++ bytes) shards
    → IsMadeOf new (body ++ bytes) shards new.made)
    → TookWindow old new bytes
took_window old new bytes task was some fits left full window digests hashed made = record {
  task = task;
  left = left;
  some = some;
  few = fits;
  more = window.shards;
  adjoin = window.adjoin;
  taken = λ body shards taken.
      taken_more old new body bytes shards taken task was left full window
      (λ k low. digests k low ∙ ap (λ (all : List (List ℕ)). slice_index_or (all_bytes old.tables.items) k [] ++ concat all) (window.digests k low))
      (hashed body (taken.hashed was))
      (λ none tables are.
      let long : new.long ≡ length (body ++ bytes) = omega (arith, task.long, taken.long, left, none, length-append body bytes) in
      made body (with_shards shards window.shards) (taken.hashed was) none long tables are);
}

-- early calls of a drive that failed left what is kept as it was
early_failed : (old new : Due) (m other : List ℕ) (blocks after : Blocks) (first cells : DataCells) → is_early old ≡ true → new ≡ old
    → HasFailedAt old m blocks first cells → HasFailedAt new other after first cells
early_failed Block new m other blocks after first cells early same has = subst (λ (d : Due). HasFailedAt d other after first cells) (sym same) has
early_failed Table new m other blocks after first cells early same has = subst (λ (d : Due). HasFailedAt d other after first cells) (sym same) has
early_failed SyncShard new m other blocks after first cells early same has = absurd cc
early_failed Manifest new m other blocks after first cells early same has = absurd cc
early_failed SyncManifest new m other blocks after first cells early same has = absurd cc
early_failed PlaceManifest new m other blocks after first cells early same has = absurd cc
early_failed PlaceShard new m other blocks after first cells early same has = absurd cc
early_failed Nothing new m other blocks after first cells early same has = absurd cc

-- a drive that served has all blocks so far, and the next one is due
early_good : (old new : Due) (next block m other : List ℕ) (blocks after : List (List ℕ)) (first cells : DataCells) → is_early old ≡ true → is_block old ≡ false → new ≡ Block
    → concat after ≡ concat blocks ++ block → IsBefore old next m (Some blocks) first cells → IsBefore new block other (Some after) first cells
early_good Block new next block m other blocks after first cells early not is joined has = absurd cc
early_good Table new next block m other blocks after first cells early not is joined (file, cells_are, bytes) =
    subst (λ (d : Due). IsBefore d block other (Some after) first cells) (sym is)
    (file, cells_are, ap (λ (front : List ℕ). front ++ block) bytes ∙ sym joined)
early_good SyncShard new next block m other blocks after first cells early not is joined has = absurd cc
early_good Manifest new next block m other blocks after first cells early not is joined has = absurd cc
early_good SyncManifest new next block m other blocks after first cells early not is joined has = absurd cc
early_good PlaceManifest new next block m other blocks after first cells early not is joined has = absurd cc
early_good PlaceShard new next block m other blocks after first cells early not is joined has = absurd cc
early_good Nothing new next block m other blocks after first cells early not is joined has = absurd cc

-- what a drive has that a fill leaves: by its letter
filled_by : (why : Why) (old new : Due) (next block m other : List ℕ) (blocks after : List (List ℕ)) (first cells : DataCells) → is_early old ≡ true
    → (is_good why ≡ true → is_block old ≡ false) → (is_good why ≡ true → new ≡ Block) → (is_good why ≡ false → new ≡ old)
    → concat after ≡ concat blocks ++ block → HasBy why old next m (Some blocks) first cells → HasBy why new block other (Some after) first cells
filled_by Good old new next block m other blocks after first cells early not is same joined has =
    early_good old new next block m other blocks after first cells early (not refl) (is refl) joined has
filled_by (Failed b a) old new next block m other blocks after first cells early not is same joined has =
    early_failed old new m other (Some blocks) (Some after) first cells early (same refl) has
filled_by (Damaged damage) old new next block m other blocks after first cells early not is same joined has = has
filled_by (Behind ballot) old new next block m other blocks after first cells early not is same joined has = has
filled_by (Lacks Format) old new next block m other blocks after first cells early not is same joined has = has
filled_by (Lacks Register) old new next block m other blocks after first cells early not is same joined has = has
filled_by (Lacks ManifestKind) old new next block m other blocks after first cells early not is same joined has = has
filled_by (Lacks ShardKind) old new next block m other blocks after first cells early not is same joined has = has

-- and the call that is due there is an early one
filled_early : (good : Bool) (old new : Due) → is_early old ≡ true → (good ≡ true → new ≡ Block) → (good ≡ false → new ≡ old) → is_early new ≡ true
filled_early true old new early is same = ap is_early (is refl)
filled_early false old new early is same = ap is_early (same refl) ∙ early

-- the work goes on over a fill
pub work_goes_on : (old new : Stage) (shards more : List (List (List ℕ))) → MayFill old → new.whys ≡ old.whys → length shards ≡ old.load.set.drives
    → ((k : ℕ) → k < old.load.set.drives → concat (slice_index_or more k []) ≡ block_at k new.load.window)
    → AreDueAfter old.whys old.dues new.dues → WorkGoesOn old new shards (with_shards shards more)
work_goes_on old new shards more may letters counted adjoin dues k first cells low at =
    let inside : k < length old.whys = omega (arith, old.letters, low) in
    let block : List ℕ = block_at k new.load.window in
    let blocks : List (List ℕ) = slice_index_or shards k [] in
    let after : List (List ℕ) = slice_index_or (with_shards shards more) k [] in
    let why : why_at new k ≡ why_at old k = ap (λ (all : List Why). slice_index_or all k Good) letters in
    let early : is_early (due_at old k) ≡ true = at.early (inl may.some) in
    let joined : concat after ≡ concat blocks ++ block =
    ap concat (shard_with shards more k [] (omega (arith, counted, low))) ∙ concat-append blocks (slice_index_or more k [])
    ∙ ap (λ (last : List ℕ). concat blocks ++ last) (adjoin k low) in
    record {
      early = λ unsettled. filled_early (is_good (why_at old k)) (due_at old k) (due_at new k) early (dues.serving k inside) (dues.others k inside);
      has = subst (λ (w : Why). HasBy w (due_at new k) block new.load.made.manifest.items (Some after) first cells) (sym why)
          (filled_by (why_at old k) (due_at old k) (due_at new k) (block_at k old.load.window) block old.load.made.manifest.items new.load.made.manifest.items
          blocks after first cells early (may.appended k low) (dues.serving k inside) (dues.others k inside) joined at.has);
    }

-- so do the calls so far
calls_go_on : (old new : Stage) (shards more : List (List (List ℕ))) → MayFill old → new.whys ≡ old.whys → new.load.names.id ≡ old.load.names.id
    → length shards ≡ old.load.set.drives
    → ((k : ℕ) → k < old.load.set.drives → concat (slice_index_or more k []) ≡ block_at k new.load.window)
    → AreDueAfter old.whys old.dues new.dues → CallsGoOn old new shards (with_shards shards more)
calls_go_on old new shards more may letters id counted adjoin dues k calls low so =
    let inside : k < length old.whys = omega (arith, old.letters, low) in
    let block : List ℕ = block_at k new.load.window in
    let blocks : List (List ℕ) = slice_index_or shards k [] in
    let after : List (List ℕ) = slice_index_or (with_shards shards more) k [] in
    let why : why_at new k ≡ why_at old k = ap (λ (all : List Why). slice_index_or all k Good) letters in
    let early : is_early (due_at old k) ≡ true = so.early (inl may.some) in
    let joined : concat after ≡ concat blocks ++ block =
    ap concat (shard_with shards more k [] (omega (arith, counted, low))) ∙ concat-append blocks (slice_index_or more k [])
    ∙ ap (λ (last : List ℕ). concat blocks ++ last) (adjoin k low) in
    record {
      early = λ unsettled. filled_early (is_good (why_at old k)) (due_at old k) (due_at new k) early (dues.serving k inside) (dues.others k inside);
      before = λ serves.
          let served : is_good (why_at old k) ≡ true = ap is_good (sym why) ∙ serves in
          let is_table : due_at old k ≡ Table = early_table (due_at old k) early (may.appended k low served) in
          subst (λ (d : Due). CalledBefore d new.load.names.id block new.load.made.manifest.items after calls) (sym (dues.serving k inside served))
          (subst (λ (y : VersionId). AppendsShard y block (concat after) calls) (sym id)
          (more_due old.load.names.id block blocks after calls joined
          (subst (λ (d : Due). CalledBefore d old.load.names.id (block_at k old.load.window) old.load.made.manifest.items blocks calls) is_table
          (so.before served))));
    }

-- a stage took a window
pub filled : (old new : Stage) (bytes : List ℕ) → MayFill old → TookWindow old.load new.load bytes → new.whys ≡ old.whys
    → AreDueAfter old.whys old.dues new.dues → Filled old new bytes
filled old new bytes may took letters dues = record {
  task = took.task;
  left = took.left;
  some = took.some;
  few = took.few;
  whys = letters;
  taken = λ body shards taken. (
    with_shards shards took.more,
    took.taken body shards taken,
    work_goes_on old new shards took.more may letters taken.are.count took.adjoin dues,
    calls_go_on old new shards took.more may letters took.task.id taken.are.count took.adjoin dues,
  );
}

-- the bytes that are taken are no more than four stripes
window_most : (n : ℕ) → window_stripes n ≤ 4
window_most n = most_of (n % 4 == 0) (n % 2 == 0)
  where
    most_of : (four two : Bool) → (if four then 1 else if two then 2 else 4) ≤ 4
    most_of true two = omega arith
    most_of false true = omega arith
    most_of false false = omega arith

pub window_few : (n left long : ℕ) → IsNextLength n left long → long ≤ 4 * stripe_size
window_few n left long next = omega (arith, next.few, window_most n)

-- and whole stripes, or less than one
pub whole_or_one : (n left long : ℕ) → IsNextLength n left long → AreWholeStripes long ⊎ (long ≤ stripe_size)
whole_or_one n left long next = elim next.whole [
  | inl whole ↦ inl whole
  | inr last ↦ inr (omega (arith, last.1))
]

-- where bytes are left they are whole stripes
pub whole_before : (n left long after : ℕ) → IsNextLength n left long → long + after ≡ left → 0 < after → AreWholeStripes long
whole_before n left long after next counted more = elim next.whole [
  | inl whole ↦ whole
  | inr last ↦ absurd (omega (arith, last.0, counted, more))
]

-- bytes are left or none is
pub none_then_some : (left : ℕ) → left ≡ 0 → 0 < left → ⊥
none_then_some left none some = omega (arith, none, some)

-- where bytes are left it is no manifest alone
pub of_a_body : (alone : Bool) (left : ℕ) → (alone ≡ true → left ≡ 0) → 0 < left → alone ≡ false
of_a_body true left none some = absurd (omega (arith, none refl, some))
of_a_body false left none some = refl
