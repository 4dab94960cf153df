-- Calls of a folder: those that were made since then, and the lists of makes and syncs as a loop makes them.
use Rattle.std.specs.Prelude.{◌≡◌, ◌≢◌, ◌+◌, ◌-◌, ◌<◌, ◌≤◌, ℕ, zero, suc, Bool, false, true, refl, OnErr, OnOk, Result, Ok, Err}
use Rattle.std.specs.Prelude.{List, [], ◌∷◌, ◌++◌, drop, length, take, get_or, slice_index_or, map}
use Rattle.std.specs.List.{Contains}
use Rattle.std.proofs.Common.{sym, ap, ◌∙◌, subst, inl, inr, arith}
use Rattle.std.proofs.Math.Seq.{drop-cons}
use Rattle.std.proofs.lemmas.List.{append_assoc, append-nil, drop-map, drop_all, length-append, length-drop, length-map, take_all}
use Rattle.std.proofs.lemmas.List.Elements.{All-nil, All-cons, All-append}
use Rattle.drive_base.specs.declared.fault.DriveFault.{DriveFault}
use Rattle.drive_base.specs.declared.fault.DriveFault.TheVariants.{Absent}
use Rattle.drive_file.specs.Folder.{FolderCall, AskAppend, AskMake, AskRename, AskSync}
use Rattle.drive_file.specs.Asks.{AskedOnly, AsksOne, Breaks, FolderView, IsMaking, IsOfAppend, IsPlacing, IsSyncing, MadeAll}
use Rattle.drive_file.specs.Asks.{Forgets, ForgetsNot, SyncsNot, each_asked, loosely, makes, syncs}
use Rattle.drive_file.specs.Paths.{path_in}

-- no call was made
pub asked_none : (Is : FolderCall → Type 0) (calls : List FolderCall) → AskedOnly Is calls calls
asked_none Is calls = record { more = []; each = All-nil Is; grown = refl }

-- one more was made
pub asked_more : (Is : FolderCall → Type 0) (call : FolderCall) (old mid new : List FolderCall)
    → AskedOnly Is old mid → Is call → new ≡ call ∷ mid → AskedOnly Is old new
asked_more Is call old mid new asked is e = record {
  more = call ∷ asked.more;
  each = All-cons Is call asked.more is asked.each;
  grown = e ∙ ap (λ (calls : List FolderCall). call ∷ calls) asked.grown;
}

-- over two spans
pub asked_after : (Is : FolderCall → Type 0) (old mid new : List FolderCall) → AskedOnly Is old mid → AskedOnly Is mid new → AskedOnly Is old new
asked_after Is old mid new before after = record {
  more = after.more ++ before.more;
  each = All-append Is after.more before.more after.each before.each;
  grown = after.grown ∙ ap (λ (calls : List FolderCall). after.more ++ calls) before.grown ∙ sym (append_assoc after.more before.more old);
}

-- the calls are of a wider kind too
pub asked_wider : (Is Others : FolderCall → Type 0) (old new : List FolderCall)
    → ((call : FolderCall) → Is call → Others call) → AskedOnly Is old new → AskedOnly Others old new
asked_wider Is Others old new wider asked = record {
  more = asked.more;
  each = (λ k d low. wider (slice_index_or asked.more k d) (asked.each k d low));
  grown = asked.grown;
}

-- an element of a list stands in the list that it is mapped to
pub contains_at : {X Y : Type 0} (f : X → Y) (xs : List X) (k : ℕ) (x : X) → k < length xs → x ≡ get_or xs k x → Contains (map f xs) (f x)
contains_at f [] k x low e = absurd (omega (arith, low))
contains_at f (y ∷ ys) zero x low e = (0, omega arith, ap f (sym e))
contains_at f (y ∷ ys) (suc k) x low e = let rest = contains_at f ys k x (omega (arith, low)) e in (suc rest.0, omega (arith, rest.1), rest.2)

-- the front of what is left of a list
pub left : {X : Type 0} (xs : List X) (k next : ℕ) (x : X) → k < length xs → x ≡ get_or xs k x → next ≡ suc k → drop k xs ≡ x ∷ drop next xs
left xs k next x low e is = drop-cons xs k x low ∙ ap (λ y. y ∷ drop (suc k) xs) (sym e) ∙ ap (λ n. x ∷ drop n xs) (sym is)

module _ {X : Type 0} (f : X → List ℕ) (xs : List X) where
  -- one folder more was asked to be made
  pub making_more : (k : ℕ) (x : X) (path : List ℕ) (answer : Result Bool DriveFault) (old mid new : List FolderCall)
      → k < length xs → x ≡ get_or xs k x → path ≡ f x → new ≡ AskMake path answer ∷ mid
      → AskedOnly (IsMaking (map f xs)) old mid → AskedOnly (IsMaking (map f xs)) old new
  making_more k x path answer old mid new low e at grown asked =
      asked_more (IsMaking (map f xs)) (AskMake path answer) old mid new asked
      (path, answer, subst (λ (p : List ℕ). Contains (map f xs) p) (sym at) (contains_at f xs k x low e), refl) grown

  -- one folder more was asked to be synced
  pub syncing_more : (k : ℕ) (x : X) (path : List ℕ) (answer : Result (Unit {0}) DriveFault) (old mid new : List FolderCall)
      → k < length xs → x ≡ get_or xs k x → path ≡ f x → new ≡ AskSync path answer ∷ mid
      → AskedOnly (IsSyncing (map f xs)) old mid → AskedOnly (IsSyncing (map f xs)) old new
  syncing_more k x path answer old mid new low e at grown asked =
      asked_more (IsSyncing (map f xs)) (AskSync path answer) old mid new asked
      (path, answer, subst (λ (p : List ℕ). Contains (map f xs) p) (sym at) (contains_at f xs k x low e), refl) grown

  -- one folder more was made
  pub makes_more : (k next : ℕ) (x : X) (path : List ℕ) (is_new : Bool) (made : List Bool) (start now new : List FolderCall)
      → k < length xs → x ≡ get_or xs k x → next ≡ suc k → path ≡ f x → new ≡ AskMake path (Ok is_new) ∷ now
      → ((rest : List Bool) → makes (map f (drop k xs)) rest now ≡ makes (map f xs) (made ++ rest) start)
      → (rest : List Bool) → makes (map f (drop next xs)) rest new ≡ makes (map f xs) ((made ++ (is_new ∷ [])) ++ rest) start
  makes_more k next x path is_new made start now new low e is at grown was rest =
      ap (λ (calls : List FolderCall). makes (map f (drop next xs)) rest calls) (grown ∙ ap (λ (p : List ℕ). AskMake p (Ok is_new) ∷ now) at)
      ∙ sym (ap (λ (ys : List X). makes (map f ys) (is_new ∷ rest) now) (left xs k next x low e is))
      ∙ was (is_new ∷ rest)
      ∙ ap (λ (bs : List Bool). makes (map f xs) bs start) (sym (append_assoc made (is_new ∷ []) rest))

  -- one path more was asked of
  pub each_more : (call : List ℕ → FolderCall) (k next : ℕ) (x : X) (path : List ℕ) (start now new : List FolderCall)
      → k < length xs → x ≡ get_or xs k x → next ≡ suc k → path ≡ f x → new ≡ call path ∷ now
      → each_asked call (map f (drop k xs)) now ≡ each_asked call (map f xs) start
      → each_asked call (map f (drop next xs)) new ≡ each_asked call (map f xs) start
  each_more call k next x path start now new low e is at grown was =
      ap (λ (calls : List FolderCall). each_asked call (map f (drop next xs)) calls) (grown ∙ ap (λ (p : List ℕ). call p ∷ now) at)
      ∙ sym (ap (λ (ys : List X). each_asked call (map f ys) now) (left xs k next x low e is))
      ∙ was

  -- all folders were made
  pub made_all : (made : List Bool) (first place : ℕ) (start now : List FolderCall)
      → length made ≡ place → length xs ≤ place → place ≤ length xs → first ≤ length xs
      → ((k : ℕ) → slice_index_or made k false ≡ true → first ≤ k)
      → ((rest : List Bool) → makes (map f (drop place xs)) rest now ≡ makes (map f xs) (made ++ rest) start)
      → MadeAll (map f xs) first start now
  made_all made first place start now long enough within low outermost calls =
      let count : length (map f xs) ≡ length xs = length-map xs f in
      record {
        made = made;
        long = omega (arith, long, enough, within, count);
        within = omega (arith, low, count);
        outermost = outermost;
        calls = sym (ap (λ (ys : List X). makes (map f ys) [] now) (drop_all place xs enough)) ∙ calls []
            ∙ ap (λ (bs : List Bool). makes (map f xs) bs start) (append-nil made);
      }

  -- all paths were asked of
  pub each_all : (call : List ℕ → FolderCall) (place : ℕ) (start now : List FolderCall) → length xs ≤ place
      → each_asked call (map f (drop place xs)) now ≡ each_asked call (map f xs) start → now ≡ each_asked call (map f xs) start
  each_all call place start now enough calls = sym (ap (λ (ys : List X). each_asked call (map f ys) now) (drop_all place xs enough)) ∙ calls

-- the outermost that is new stands at a place or behind it also after one more, where places are counted from one on
outermost_from : (made : List Bool) (is_new : Bool) (low first later : ℕ)
    → ((place : ℕ) → slice_index_or made place false ≡ true → first ≤ low + place) → later ≤ first → (is_new ≡ true → later ≤ low + length made)
    → (place : ℕ) → slice_index_or (made ++ (is_new ∷ [])) place false ≡ true → later ≤ low + place
outermost_from [] is_new low first later before within at zero h = at h
outermost_from [] is_new low first later before within at (suc place) h = absurd (cc)
outermost_from (x ∷ made) is_new low first later before within at zero h = let had = before 0 h in omega (arith, had, within)
outermost_from (x ∷ made) is_new low first later before within at (suc place) h =
    let rest = outermost_from made is_new (suc low) first later (λ k e. let had = before (suc k) e in omega (arith, had)) within
    (λ e. let new = at e in omega (arith, new)) place h in
    omega (arith, rest)

-- so it is from the first place on
pub outermost_more : (made : List Bool) (is_new : Bool) (first later : ℕ)
    → ((place : ℕ) → slice_index_or made place false ≡ true → first ≤ place) → later ≤ first → (is_new ≡ true → later ≤ length made)
    → (place : ℕ) → slice_index_or (made ++ (is_new ∷ [])) place false ≡ true → later ≤ place
outermost_more made is_new first later before within at place h =
    let had = outermost_from made is_new 0 first later (λ k e. let it = before k e in omega (arith, it)) within
    (λ e. let it = at e in omega (arith, it)) place h in
    omega (arith, had)

-- one more is one longer
pub longer : (made : List Bool) (is_new : Bool) (place : ℕ) → length made ≡ place → length (made ++ (is_new ∷ [])) ≡ place + 1
longer made is_new place long = omega (arith, long, length-append made (is_new ∷ []))

-- an element of a list stands behind another one too
contains_more : {X : Type 0} (x : X) (xs : List X) (y : X) → Contains xs y → Contains (x ∷ xs) y
contains_more x xs y h = (suc h.0, omega (arith, h.1), h.2)

-- what stands behind a place of a list stands in it
contains_dropped : {X : Type 0} (k : ℕ) (xs : List X) (y : X) → Contains (drop k xs) y → Contains xs y
contains_dropped zero xs y h = h
contains_dropped (suc k) [] y h = h
contains_dropped (suc k) (x ∷ xs) y h = contains_more x xs y (contains_dropped k xs y h)

-- the calls that sync some of these folders
syncing_wider : (some all : List (List ℕ)) (old new : List FolderCall) → ((path : List ℕ) → Contains some path → Contains all path)
    → AskedOnly (IsSyncing some) old new → AskedOnly (IsSyncing all) old new
syncing_wider some all old new wider asked =
    asked_wider (IsSyncing some) (IsSyncing all) old new (λ call is. (is.0, is.1, wider is.0 is.2, is.3)) asked

-- the folder of a drive and those in it, of which a sync begins at some place
module _ {X : Type 0} (f : X → List ℕ) (top : List ℕ) (xs : List X) where
  -- the folder itself was asked to be synced
  pub syncing_top : (answer : Result (Unit {0}) DriveFault) (old new : List FolderCall)
      → new ≡ AskSync top answer ∷ old → AskedOnly (IsSyncing (top ∷ map f xs)) old new
  syncing_top answer old new e =
      asked_more (IsSyncing (top ∷ map f xs)) (AskSync top answer) old old new (asked_none (IsSyncing (top ∷ map f xs)) old)
      (top, answer, (0, omega arith, refl), refl) e

  -- behind it those in it
  pub syncing_all : (answer : Result (Unit {0}) DriveFault) (old mid new : List FolderCall)
      → mid ≡ AskSync top answer ∷ old → AskedOnly (IsSyncing (map f xs)) mid new → AskedOnly (IsSyncing (top ∷ map f xs)) old new
  syncing_all answer old mid new e asked =
      asked_after (IsSyncing (top ∷ map f xs)) old mid new (syncing_top answer old mid e)
      (syncing_wider (map f xs) (top ∷ map f xs) mid new (λ path. contains_more top (map f xs) path) asked)

  -- what stands behind the first ones
  behind : (first : ℕ) → first ≢ 0 → map f (take (length xs - (first - 1)) (drop (first - 1) xs)) ≡ drop first (top ∷ map f xs)
  behind zero far = absurd (far refl)
  behind (suc k) far =
      ap (λ (ys : List X). map f ys) (take_all (length xs - (suc k - 1)) (drop (suc k - 1) xs) (let e = length-drop (suc k - 1) xs in omega (arith, e)))
      ∙ ap (λ (n : ℕ). map f (drop n xs)) (let e : suc k - 1 ≡ k = omega arith in e) ∙ sym (drop-map f k xs)

  -- those behind the first ones were asked to be synced
  pub syncing_behind : (first : ℕ) (old new : List FolderCall) → first ≢ 0
      → AskedOnly (IsSyncing (map f (take (length xs - (first - 1)) (drop (first - 1) xs)))) old new → AskedOnly (IsSyncing (top ∷ map f xs)) old new
  syncing_behind first old new far asked =
      syncing_wider (map f (take (length xs - (first - 1)) (drop (first - 1) xs))) (top ∷ map f xs) old new
      (λ path here. contains_dropped first (top ∷ map f xs) path (subst (λ (ys : List (List ℕ)). Contains ys path) (behind first far) here)) asked

  -- those behind the first ones were synced
  pub synced_behind : {E : Type 0} (first : ℕ) (answer : Result (Unit {0}) E) (old new : List FolderCall) → first ≢ 0
      → OnOk answer (new ≡ syncs (map f (take (length xs - (first - 1)) (drop (first - 1) xs))) old)
      → OnOk answer (new ≡ syncs (drop first (top ∷ map f xs)) old)
  synced_behind first (Ok t) old new far h = h ∙ ap (λ (ys : List (List ℕ)). syncs ys old) (behind first far)
  synced_behind first (Err e) old new far h = h

-- the calls that put a file in place
module _ (top : List ℕ) (inner : List (List ℕ)) (from to : List ℕ) where
  -- its folders were asked to be made
  pub placing_made : (old new : List FolderCall) → AskedOnly (IsMaking inner) old new → AskedOnly (IsPlacing (top ∷ inner) from to) old new
  placing_made old new asked =
      asked_wider (IsMaking inner) (IsPlacing (top ∷ inner) from to) old new (λ call is. inl (is.0, is.1, contains_more top inner is.0 is.2, is.3)) asked

  -- behind that it was asked to be moved
  pub placing_moved : (answer : Result (Unit {0}) DriveFault) (old mid new : List FolderCall)
      → AskedOnly (IsMaking inner) old mid → new ≡ AskRename from to answer ∷ mid → AskedOnly (IsPlacing (top ∷ inner) from to) old new
  placing_moved answer old mid new asked e =
      asked_more (IsPlacing (top ∷ inner) from to) (AskRename from to answer) old mid new (placing_made old mid asked) (inr (inl (answer, refl))) e

  -- and behind that its folders were asked to be synced
  pub placing_synced : (answer : Result (Unit {0}) DriveFault) (old mid moved new : List FolderCall)
      → AskedOnly (IsMaking inner) old mid → moved ≡ AskRename from to answer ∷ mid → AskedOnly (IsSyncing (top ∷ inner)) moved new
      → AskedOnly (IsPlacing (top ∷ inner) from to) old new
  placing_synced answer old mid moved new asked e synced =
      asked_after (IsPlacing (top ∷ inner) from to) old moved new (placing_moved answer old mid moved asked e)
      (asked_wider (IsSyncing (top ∷ inner)) (IsPlacing (top ∷ inner) from to) moved new (λ call is. inr (inr is)) synced)

-- the calls that append to a file, where that fails
module _ {T E : Type 0} (failed : Result T E) (folders inner : List (List ℕ)) (path bytes : List ℕ) (same : folders ≡ inner) where
  on_err : (P : Type 0) → P → OnErr failed P
  on_err P h = at failed
    where
      at : (r : Result T E) → OnErr r P
      at (Ok t) = tt
      at (Err e) = h

  -- its folders were asked to be made
  made_of : (old new : List FolderCall) → AskedOnly (IsMaking folders) old new → AskedOnly (IsOfAppend inner path bytes) old new
  made_of old new asked =
      asked_wider (IsMaking folders) (IsOfAppend inner path bytes) old new
      (λ call is. inl (is.0, is.1, subst (λ (all : List (List ℕ)). Contains all is.0) same is.2, is.3)) asked

  pub appending_made : (old new : List FolderCall) → AskedOnly (IsMaking folders) old new → OnErr failed (AskedOnly (IsOfAppend inner path bytes) old new)
  appending_made old new asked = on_err (AskedOnly (IsOfAppend inner path bytes) old new) (made_of old new asked)

  -- and behind that it was asked to be appended to
  pub appending_asked : (answer : Result (Unit {0}) DriveFault) (old mid new : List FolderCall)
      → AskedOnly (IsMaking folders) old mid → new ≡ AskAppend path bytes answer ∷ mid → OnErr failed (AskedOnly (IsOfAppend inner path bytes) old new)
  appending_asked answer old mid new asked e =
      on_err (AskedOnly (IsOfAppend inner path bytes) old new)
      (asked_more (IsOfAppend inner path bytes) (AskAppend path bytes answer) old mid new (made_of old mid asked) (inr (answer, refl)) e)

-- a call that was refused, and not since nothing was found, or was not made
pub breaks : {T : Type 0} (call : Result T DriveFault → FolderCall) (fault : DriveFault) (old new : List FolderCall)
    → fault ≢ Absent → AsksOne call (Err fault) old new → Breaks (λ why. call (Err why)) old new
breaks call fault old new found asked = elim asked [ inl made ↦ inl (fault, found, made) | inr none ↦ inr none.1 ]

-- a loose file that wasn't synced, in a folder of the path that the drive has for it
module _ (here left : FolderView) (loose folder later : List ℕ) (fault : DriveFault) (tried : List FolderCall)
    (found : fault ≢ Absent) (at : folder ≡ here.loose) (at_later : later ≡ here.loose)
    (asked : AsksOne (AskSync (path_in folder loose)) (Err fault) here.calls tried) where
  tried_there : Breaks (λ why. AskSync (loosely here loose) (Err why)) here.calls tried
  tried_there =
      subst (λ (place : List ℕ). Breaks (λ why. AskSync (path_in place loose) (Err why)) here.calls tried) at
      (breaks (AskSync (path_in folder loose)) fault here.calls tried found asked)

  -- it was removed
  pub sync_forgot : Forgets (path_in later loose) tried left.calls → SyncsNot (loosely here loose) here.calls left
  sync_forgot gone = record {
    tried = tried;
    breaks = tried_there;
    file = inl (subst (λ (place : List ℕ). Forgets (path_in place loose) tried left.calls) at_later gone);
  }

  -- or the drive is lost
  pub sync_lost : left.lost ≡ true → ForgetsNot (path_in later loose) tried left.calls → SyncsNot (loosely here loose) here.calls left
  sync_lost lost there = record {
    tried = tried;
    breaks = tried_there;
    file = inr (lost, subst (λ (place : List ℕ). ForgetsNot (path_in place loose) tried left.calls) at_later there);
  }
