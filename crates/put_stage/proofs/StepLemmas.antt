-- A stage before and after one call of a drive.
use Rattle.std.proofs.Common.{◌≡◌, ◌≢◌, ◌∙◌, ℕ, ◌<◌, true, false, List, length, slice_index_or, slice_set, ap, refl, subst, sym, inl, inr, arith}
use Rattle.std.specs.Prelude.{◌⊎◌, Bool, IsTrue, Result, Ok, Err}
use Rattle.std.specs.Int.{IsBitSet}
use Rattle.std.proofs.lemmas.Bool.{cases_eq}
use Rattle.std.proofs.lemmas.List.{get_or_default, get_or-set_other, get_or-set_same, length-set}
use Rattle.call_types.specs.Good.{is_good}
use Rattle.call_types.specs.declared.why.Why.{Why}
use Rattle.call_types.specs.declared.why.Why.TheVariants.{Good, Failed, Damaged, Behind, Lacks}
use Rattle.drive_base.specs.declared.drive.Drive.{Ghosts}
use Rattle.drive_base.specs.View.{AllGoOn, GoesOn, view, views}
use Rattle.drive_base.proofs.ViewLemmas.{at_each_view}
use Rattle.file_access.proofs.EachLemmas.{set_each}
use Rattle.put_stage.specs.Calls.{CallsDue}
use Rattle.put_stage.specs.Cells.{DataCells, Spares, data_of}
use Rattle.put_stage.specs.StripeBlocks.{block_at}
use Rattle.put_stage.specs.Dues.{after, is_block, is_early, is_nothing}
use Rattle.put_stage.specs.Steps.{HasAfter, HasAppended, HasDone, IsAfter, IsDue, IsFirst, LetterOf, StepWorks, Stepped}
use Rattle.put_stage.specs.Work.{AtWork, Blocks, Disagrees, HasBy, IsBefore, IsOfDrive, IsOpen, due_at, why_at}
use Rattle.put_stage.specs.declared.dues.Due.{Due}
use Rattle.put_stage.specs.declared.dues.Due.TheVariants.{Block, Table, SyncShard, Manifest, SyncManifest, PlaceManifest, PlaceShard, Nothing}
use Rattle.put_stage.specs.declared.stage.Load.{Load}
use Rattle.put_stage.specs.declared.stage.Stage.{Stage}

-- no other letter is good
pub only_good : (why : Why) → is_good why ≡ true → why ≡ Good
only_good Good is = refl
only_good (Failed before after) is = absurd cc
only_good (Damaged damage) is = absurd cc
only_good (Behind ballot) is = absurd cc
only_good (Lacks kind) is = absurd cc

-- no other call is that of a block
pub only_block : (due : Due) → is_block due ≡ true → due ≡ Block
only_block Block is = refl
only_block Table is = absurd cc
only_block SyncShard is = absurd cc
only_block Manifest is = absurd cc
only_block SyncManifest is = absurd cc
only_block PlaceManifest is = absurd cc
only_block PlaceShard is = absurd cc
only_block Nothing is = absurd cc

-- a letter of a failed call is not good
pub bad_letter : (why : Why) (due : Due) (told : Bool) (cells : DataCells) (before now : ℕ) → LetterOf (Err why) due told cells before now → is_good why ≡ false
bad_letter Good due told cells before now letter = absurd letter
bad_letter (Failed b a) due told cells before now letter = refl
bad_letter (Damaged damage) due told cells before now letter = refl
bad_letter (Behind ballot) due told cells before now letter = refl
bad_letter (Lacks kind) due told cells before now letter = refl

-- where nothing may be put in place yet, the call that is due is that of a block
pub open_block : (stage : Stage) (k : ℕ) → IsDue stage k → IsOpen stage.load → due_at stage k ≡ Block
open_block stage k due unsettled = elim due.call [
  | inl block ↦ only_block (due_at stage k) block
  | inr later ↦ elim unsettled [
    | inl some ↦ absurd (omega (arith, some, later.0))
    | inr other ↦ absurd (due.agrees other)
  ]
]

-- a drive that waits for a call has one left
is_call : (stage : Stage) (k : ℕ) → IsDue stage k → is_nothing (due_at stage k) ≡ false
is_call stage k due = elim due.call [
  | inl block ↦ ap is_nothing (only_block (due_at stage k) block)
  | inr later ↦ later.1
]

-- the drive of the call
pub works_on : (answer : Result (Unit {0}) Why) (k : ℕ) (old new : Stage) (blocks : Blocks) (first cells : DataCells) → length old.dues ≡ 16
    → IsDue old k → IsAfter answer k old new → new.load ≡ old.load
    → HasAfter answer old.load.alone (due_at old k) (block_at k old.load.window) old.load.made.manifest.items blocks first cells
    → AtWork new blocks k first cells
works_on (Ok done) k old new blocks first cells places due (letters, dues) load has =
    let here : k < length old.dues = omega (arith, places, due.within, old.load.set.few_drives) in
    let next : due_at new k ≡ after old.load.alone (due_at old k) =
    ap (λ (all : List Due). slice_index_or all k Nothing) dues ∙ get_or-set_same old.dues k (after old.load.alone (due_at old k)) Nothing here in
    let good : why_at new k ≡ Good =
    ap (λ (all : List Why). slice_index_or all k Good) letters ∙ only_good (why_at old k) due.serves in
    record {
      early = λ unsettled.
          ap is_early (next ∙ ap (after old.load.alone) (open_block old k due (subst IsOpen load unsettled)));
      has = subst (λ (l : Load). HasBy (why_at new k) (due_at new k) (block_at k l.window) l.made.manifest.items blocks first cells) (sym load)
          (subst (λ (why : Why). HasBy why (due_at new k) (block_at k old.load.window) old.load.made.manifest.items blocks first cells) (sym good)
          (subst (λ (d : Due). HasBy Good d (block_at k old.load.window) old.load.made.manifest.items blocks first cells) (sym next) has));
    }
works_on (Err why) k old new blocks first cells places due (letters, dues) load has =
    let here : k < length old.whys = omega (arith, old.letters, due.within) in
    let same : due_at new k ≡ due_at old k = ap (λ (all : List Due). slice_index_or all k Nothing) dues in
    let letter : why_at new k ≡ why =
    ap (λ (all : List Why). slice_index_or all k Good) letters ∙ get_or-set_same old.whys k why Good here in
    record {
      early = λ unsettled. ap is_early (same ∙ open_block old k due (subst IsOpen load unsettled));
      has = subst (λ (l : Load). HasBy (why_at new k) (due_at new k) (block_at k l.window) l.made.manifest.items blocks first cells) (sym load)
          (subst (λ (w : Why). HasBy w (due_at new k) (block_at k old.load.window) old.load.made.manifest.items blocks first cells) (sym letter)
          (subst (λ (d : Due). HasBy why d (block_at k old.load.window) old.load.made.manifest.items blocks first cells) (sym same) has));
    }

-- the letters and calls of the other drives
pub other_why : (answer : Result (Unit {0}) Why) (k other : ℕ) (old new : Stage) → other ≢ k → IsAfter answer k old new → why_at new other ≡ why_at old other
other_why (Ok done) k other old new apart (letters, dues) = ap (λ (all : List Why). slice_index_or all other Good) letters
other_why (Err why) k other old new apart (letters, dues) =
    ap (λ (all : List Why). slice_index_or all other Good) letters ∙ get_or-set_other old.whys k other why Good apart

pub other_due : (answer : Result (Unit {0}) Why) (k other : ℕ) (old new : Stage) → other ≢ k → IsAfter answer k old new → due_at new other ≡ due_at old other
other_due (Ok done) k other old new apart (letters, dues) =
    ap (λ (all : List Due). slice_index_or all other Nothing) dues ∙ get_or-set_other old.dues k other (after old.load.alone (due_at old k)) Nothing apart
other_due (Err why) k other old new apart (letters, dues) = ap (λ (all : List Due). slice_index_or all other Nothing) dues

-- what the other drives have stays
pub works_on_others : (answer : Result (Unit {0}) Why) (k other : ℕ) (old new : Stage) (blocks : Blocks) (first cells : DataCells) → other ≢ k
    → IsAfter answer k old new → new.load ≡ old.load → AtWork old blocks other first cells → AtWork new blocks other first cells
works_on_others answer k other old new blocks first cells apart is load at =
    let why = other_why answer k other old new apart is in
    let due = other_due answer k other old new apart is in
    record {
      early = λ unsettled. ap is_early due ∙ at.early (subst IsOpen load unsettled);
      has = subst (λ (l : Load). HasBy (why_at new other) (due_at new other) (block_at other l.window) l.made.manifest.items blocks first cells) (sym load)
          (subst (λ (w : Why). HasBy w (due_at new other) (block_at other old.load.window) old.load.made.manifest.items blocks first cells) (sym why)
          (subst (λ (d : Due). HasBy (why_at old other) d (block_at other old.load.window) old.load.made.manifest.items blocks first cells) (sym due) at.has));
    }

-- drives that are out are not called
pub due_in_use : (stage : Stage) (k : ℕ) → IsDue stage k → IsBitSet stage.load.set.out k → ⊥
due_in_use stage k due out =
    let not : is_good (why_at stage k) ≡ false = stage.out_lack k due.within out in
    let so : is_good (why_at stage k) ≡ true = due.serves in
    absurd cc

-- where none is found, none is due
pub none_due : (stage : Stage) → Disagrees stage.load ⊎ (HasAppended stage × ((stage.load.left ≡ 0) → HasDone stage)) → (k : ℕ) → IsDue stage k → ⊥
none_due stage (inl other) k due = due.agrees other
none_due stage (inr (appended, done)) k due = elim due.call [
  | inl block ↦ let no : is_block (due_at stage k) ≡ false = appended k due.within due.serves in absurd cc
  | inr later ↦
      let yes : is_nothing (due_at stage k) ≡ true = done later.0 k due.within due.serves in
      let no : is_nothing (due_at stage k) ≡ false = later.1 in
      absurd cc
]

-- the drives that are out lack their format files still
pub still_lack : (stage : Stage) (index : ℕ) (why : Why) (k : ℕ) → is_good why ≡ false → k < stage.load.set.drives → IsBitSet stage.load.set.out k
    → is_good (slice_index_or (slice_set stage.whys index why) k Good) ≡ false
still_lack stage index why k bad low out = elim (cases_eq k index) [
  | inl same ↦
      let here : index < length stage.whys = omega (arith, stage.letters, low) in
      ap is_good (ap (λ (j : ℕ). slice_index_or (slice_set stage.whys index why) j Good) same ∙ get_or-set_same stage.whys index why Good here) ∙ bad
  | inr apart ↦ ap is_good (get_or-set_other stage.whys index k why Good apart) ∙ stage.out_lack k low out
]

-- the drive of a call in the list of drives, before the call and after it
module _ {D : Type 0} (ghosts : Ghosts D) (k : ℕ) (old new : Stage) (before : List D) (default now : D)
    (answer : Result (Unit {0}) Why) (due : Due) where
  -- one call was made
  pub stepped : length old.dues ≡ 16 → length before ≡ old.load.set.drives → due_at old k ≡ due → IsDue old k → IsFirst old k → IsAfter answer k old new
      → LetterOf answer due (ghosts.tells (slice_index_or before k default)) (data_of old.load.names.id (ghosts.files (slice_index_or before k default)))
      (ghosts.count (slice_index_or before k default)) (ghosts.count now)
      → (IsTrue (ghosts.tells (slice_index_or before k default))
      → Spares old.load.names.id (ghosts.files (slice_index_or before k default)) (ghosts.files now))
      → (is_nothing due ≡ false → CallsDue old.load k due answer (view ghosts (slice_index_or before k default)) (view ghosts now))
      → Stepped ghosts k old new before (slice_set before k now)
  stepped places long due_is is_due order stage letter spares called =
      let id = old.load.names.id in
      let low : k < length before = omega (arith, is_due.within) in
      record {
        due = is_due;
        order = order;
        placed = omega (arith, places, is_due.within, old.load.set.few_drives);
        in_use = due_in_use old k is_due;
        answer = answer;
        stage = stage;
        letter = λ d.
            let had : slice_index_or before k d ≡ slice_index_or before k default = get_or_default before k d default low in
            subst (λ (e : Due). LetterOf answer e (ghosts.tells (slice_index_or before k d)) (data_of id (ghosts.files (slice_index_or before k d)))
            (ghosts.count (slice_index_or before k d)) (ghosts.count (slice_index_or (slice_set before k now) k d))) (sym due_is)
            (subst (λ (x : D). LetterOf answer due (ghosts.tells x) (data_of id (ghosts.files x)) (ghosts.count x)
            (ghosts.count (slice_index_or (slice_set before k now) k d))) (sym had)
            (subst (λ (y : D). LetterOf answer due (ghosts.tells (slice_index_or before k default))
            (data_of id (ghosts.files (slice_index_or before k default))) (ghosts.count (slice_index_or before k default)) (ghosts.count y))
            (sym (get_or-set_same before k now d low)) letter));
        spares = λ d.
            subst (λ (x : D). IsTrue (ghosts.tells x) → Spares id (ghosts.files x) (ghosts.files (slice_index_or (slice_set before k now) k d)))
            (sym (get_or_default before k d default low))
            (subst (λ (y : D). IsTrue (ghosts.tells (slice_index_or before k default))
            → Spares id (ghosts.files (slice_index_or before k default)) (ghosts.files y))
            (sym (get_or-set_same before k now d low)) spares);
        called = λ d.
            let one : is_nothing due ≡ false = subst (λ (e : Due). is_nothing e ≡ false) due_is (is_call old k is_due) in
            subst (λ (e : Due). CallsDue old.load k e answer (view ghosts (slice_index_or before k d))
            (view ghosts (slice_index_or (slice_set before k now) k d))) (sym due_is)
            (subst (λ (x : D). CallsDue old.load k due answer (view ghosts x) (view ghosts (slice_index_or (slice_set before k now) k d)))
            (sym (get_or_default before k d default low))
            (subst (λ (y : D). CallsDue old.load k due answer (view ghosts (slice_index_or before k default)) (view ghosts y))
            (sym (get_or-set_same before k now d low)) (called one)));
        others = λ other d apart. get_or-set_other before k other now d apart;
      }

  -- it keeps what each drive has that tells
  pub step_works : length old.dues ≡ 16 → length before ≡ old.load.set.drives → due_at old k ≡ due → IsDue old k → IsAfter answer k old new
      → new.load ≡ old.load
      → ((blocks : Blocks) (first : DataCells) → IsOfDrive old.load k blocks → IsTrue (ghosts.tells (slice_index_or before k default))
      → IsBefore due (block_at k old.load.window) old.load.made.manifest.items blocks first
      (data_of old.load.names.id (ghosts.files (slice_index_or before k default)))
      → HasAfter answer old.load.alone due (block_at k old.load.window) old.load.made.manifest.items blocks first
      (data_of old.load.names.id (ghosts.files now)))
      → StepWorks ghosts old new before (slice_set before k now)
  step_works places long due_is is_due stage load works = λ place d blocks first low of_drive told at.
      let id = old.load.names.id in
      let next = block_at k old.load.window in
      let manifest = old.load.made.manifest.items in
      let inside : k < length before = omega (arith, is_due.within) in
      let Claim : ℕ → Type 0 = λ j. IsOfDrive old.load j blocks → IsTrue (ghosts.tells (slice_index_or before j d))
      → AtWork old blocks j first (data_of id (ghosts.files (slice_index_or before j d)))
      → AtWork new blocks j first (data_of id (ghosts.files (slice_index_or (slice_set before k now) j d))) in
      elim (cases_eq place k) [
        | inl same ↦
            let here : Claim k = λ of_k told_k at_k.
            let had : slice_index_or before k d ≡ slice_index_or before k default = get_or_default before k d default inside in
            let good : why_at old k ≡ Good = only_good (why_at old k) is_due.serves in
            let told_drive : IsTrue (ghosts.tells (slice_index_or before k default)) = subst (λ (x : D). IsTrue (ghosts.tells x)) had told_k in
            let good_here : HasBy Good (due_at old k) next manifest blocks first (data_of id (ghosts.files (slice_index_or before k d))) =
            subst (λ (w : Why). HasBy w (due_at old k) next manifest blocks first (data_of id (ghosts.files (slice_index_or before k d)))) good at_k.has in
            let due_here : IsBefore due next manifest blocks first (data_of id (ghosts.files (slice_index_or before k d))) =
            subst (λ (e : Due). HasBy Good e next manifest blocks first (data_of id (ghosts.files (slice_index_or before k d)))) due_is good_here in
            let was : IsBefore due next manifest blocks first (data_of id (ghosts.files (slice_index_or before k default))) =
            subst (λ (x : D). IsBefore due next manifest blocks first (data_of id (ghosts.files x))) had due_here in
            let has : HasAfter answer old.load.alone (due_at old k) next manifest blocks first (data_of id (ghosts.files now)) =
            subst (λ (e : Due). HasAfter answer old.load.alone e next manifest blocks first (data_of id (ghosts.files now))) (sym due_is)
            (works blocks first of_k told_drive was) in
            subst (λ (y : D). AtWork new blocks k first (data_of id (ghosts.files y))) (sym (get_or-set_same before k now d inside))
            (works_on answer k old new blocks first (data_of id (ghosts.files now)) places is_due stage load has) in
            subst Claim (sym same) here of_drive told at
        | inr apart ↦
            subst (λ (x : D). AtWork new blocks place first (data_of id (ghosts.files x))) (sym (get_or-set_other before k place now d apart))
            (works_on_others answer k place old new blocks first (data_of id (ghosts.files (slice_index_or before place d))) apart stage load at)
      ]

-- of drives of which one went on, each did
pub one_goes_on : {D : Type 0} (ghosts : Ghosts D) (drives : List D) (k : ℕ) (default now : D) → k < length drives
    → GoesOn (view ghosts (slice_index_or drives k default)) (view ghosts now) → AllGoOn (views ghosts drives) (views ghosts (slice_set drives k now))
one_goes_on {D} ghosts drives k default now low on =
    let each : (i : ℕ) (d : D) → GoesOn (view ghosts (slice_index_or drives i d)) (view ghosts (slice_index_or (slice_set drives k now) i d)) =
    set_each D (λ (i : ℕ) (a b : D). GoesOn (view ghosts a) (view ghosts b)) drives drives k now low
    (λ d. subst (λ (a : D). GoesOn (view ghosts a) (view ghosts now)) (get_or_default drives k default d low) on)
    (λ i d. record { tells = refl; count = omega arith }) in
    at_each_view ghosts (λ i. GoesOn) drives (slice_set drives k now) (length-set drives k now) (λ i d within. each i d)
