-- Calls of an opening: each step adds those of its kind, and paths are cut at their slashes.
use Rattle.std.specs.Prelude.{◌≡◌, ◌≢◌, ◌+◌, ◌-◌, ◌<◌, ◌≤◌, ℕ, suc, Bool, false, true, List, [], ◌∷◌, ◌++◌, All, ◌⊎◌, codes, drop, get_or, length, take, map, refl, slice_index, OnOk, Option, Some, None, IfSome, Result, Ok, Err}
use Rattle.std.specs.Str.{NoCharPasses}
use Rattle.std.specs.Str.Pattern.{CutsSuffixes, FindsCharSuffix, IsTrimEndMatches, RFindsChar, SplitsAroundMatch}
use Rattle.std.proofs.Common.{sym, ap, ◌∙◌, subst, inl, inr, arith}
use Rattle.std.proofs.lemmas.List.{append_assoc, append-nil, drop_all, take-append-drop}
use Rattle.std.proofs.lemmas.List.Elements.{All-nil, All-cons}
use Rattle.std.proofs.lemmas.Str.Pattern.{NoCharPasses-char, drop_at_char, ends_char}
use Rattle.drive_base.specs.declared.fault.DriveFault.{DriveFault}
use Rattle.drive_file.specs.Folder.{FolderCall, AskClear, AskList, AskMake, AskSync}
use Rattle.drive_file.specs.Asks.{AskedOnly}
use Rattle.drive_file.specs.Opening.{Empties, IsEmptying, IsFolderGiven, IsMakingReady, IsParent, IsReading, MakesReady, Opens, clears}
use Rattle.drive_file.specs.Paths.{path_below}
use Rattle.drive_file.proofs.AskLemmas.{asked_more, asked_none, left}

-- a text with a slash at its end
last_slash : (m : List ℕ) (n : ℕ) → FindsCharSuffix 47 m (Some n) → m ≡ take (length m - n) m ++ (47 ∷ [])
last_slash m n h =
    sym (take-append-drop (length m - n) m)
    ∙ ap (λ (rest : List ℕ). take (length m - n) m ++ rest)
    (drop_at_char 47 m (length m - n) (length m) h.1 (omega arith) ∙ ap (λ (rest : List ℕ). 47 ∷ rest) (drop_all (length m) m (omega arith)))

-- what was cut off are slashes
cut_slashes : (s ns r : List ℕ) → CutsSuffixes (FindsCharSuffix 47) s ns r → (slashes : List ℕ) × All (λ byte. byte ≡ 47) slashes × (s ≡ r ++ slashes)
cut_slashes s [] r h = ([], All-nil (λ (byte : ℕ). byte ≡ 47), sym h ∙ sym (append-nil r))
cut_slashes s (n ∷ ns) r h =
    let before = cut_slashes s ns h.0 h.1 in (
      47 ∷ before.0,
      All-cons (λ (byte : ℕ). byte ≡ 47) 47 before.0 refl before.1,
      before.2 ∙ ap (λ (m : List ℕ). m ++ before.0) (last_slash h.0 n h.2 ∙ ap (λ (m : List ℕ). m ++ (47 ∷ [])) (sym h.3)) ∙ append_assoc r (47 ∷ []) before.0,
    )

-- no slash is left
no_slash : (r : List ℕ) (o : Option ℕ) → FindsCharSuffix 47 r o → IfSome o (λ n. n ≡ 0) → (front : List ℕ) → r ≢ front ++ (47 ∷ [])
no_slash r None h z front e = let bad = (ends_char 47 r false h (omega arith)).1 front e in absurd (cc)
no_slash r (Some n) h z front e = let one = h.0 in absurd (omega (arith, one, z))

-- the slashes behind a path were cut off
pub trimmed : (s r : List ℕ) → IsTrimEndMatches (FindsCharSuffix 47) s r → IsFolderGiven s r
trimmed s r h =
    let cut = cut_slashes s h.0.0 r h.0.1 in
    (cut.0, cut.1, cut.2, no_slash r h.1.0 h.1.1 h.1.2)

-- a path is cut at its last slash
split_path : (path front back : List ℕ) → SplitsAroundMatch (RFindsChar 47) path front back
    → ((place : ℕ) → place < length back → slice_index back place ≢ 47) × (path ≡ path_below front back)
split_path path front back h =
    let i = h.0 in
    let j = h.1 in (
      (λ k low. subst (λ (b : List ℕ). slice_index b k ≢ 47) (sym h.4)
          (NoCharPasses-char 47 (drop j path) k h.2.0 (omega arith) (subst (λ (b : List ℕ). k < length b) h.4 low))),
      sym (take-append-drop i path) ∙ ap (λ (rest : List ℕ). take i path ++ rest) (drop_at_char 47 path i j h.2.1 (omega arith))
          ∙ ap (λ (f : List ℕ). f ++ (47 ∷ drop j path)) (sym h.3) ∙ ap (λ (b : List ℕ). front ++ (47 ∷ b)) (sym h.4) ∙ sym (append_assoc front (47 ∷ []) back),
    )

-- the folder of the last part of a path stands before its last slash
pub parent_before : (path front back : List ℕ) → SplitsAroundMatch (RFindsChar 47) path front back → front ≢ [] → IsParent path front
parent_before path front back h some = let parts = split_path path front back h in (back, parts.0, inl (some, parts.1))

-- or is the root
pub parent_root : (path front back : List ℕ) → SplitsAroundMatch (RFindsChar 47) path front back → front ≡ [] → IsParent path (codes "/")
parent_root path front back h none =
    let parts = split_path path front back h in
    (back, parts.0, inr (inl (refl, parts.1 ∙ ap (λ (f : List ℕ). path_below f back) none)))

-- or that in which a path of one part is read
pub parent_here : (path : List ℕ) → RFindsChar 47 path None → IsParent path (codes ".")
parent_here path h = (path, (λ k low. NoCharPasses-char 47 path k h (omega arith) low), inr (inr (refl, refl)))

-- the one or the other
pub parent_or : (path front back parent : List ℕ) → SplitsAroundMatch (RFindsChar 47) path front back
    → ((front ≢ []) × (parent ≡ front)) ⊎ ((front ≡ []) × (parent ≡ codes "/")) → IsParent path parent
parent_or path front back parent h which = elim which [
  | inl some ↦ subst (λ (p : List ℕ). IsParent path p) (sym some.1) (parent_before path front back h some.0)
  | inr none ↦ subst (λ (p : List ℕ). IsParent path p) (sym none.1) (parent_root path front back h none.0)
]

module _ (folder loose : List ℕ) where
  -- the folder was asked to be made
  pub first_made : (answer : Result Bool DriveFault) (old new : List FolderCall) → new ≡ AskMake folder answer ∷ old → AskedOnly (IsMakingReady folder loose) old new
  first_made answer old new e =
      asked_more (IsMakingReady folder loose) (AskMake folder answer) old old new (asked_none (IsMakingReady folder loose) old) (inl (answer, refl)) e

  -- behind that the one that has it was asked to be synced
  pub parent_synced : (parent : List ℕ) (answer : Result (Unit {0}) DriveFault) (old mid new : List FolderCall) → IsParent folder parent
      → AskedOnly (IsMakingReady folder loose) old mid → new ≡ AskSync parent answer ∷ mid → AskedOnly (IsMakingReady folder loose) old new
  parent_synced parent answer old mid new is asked e =
      asked_more (IsMakingReady folder loose) (AskSync parent answer) old mid new asked (inr (inr (inr (parent, answer, is, refl)))) e

  -- the one of loose files was asked to be made
  pub loose_made : (answer : Result Bool DriveFault) (old mid new : List FolderCall)
      → AskedOnly (IsMakingReady folder loose) old mid → new ≡ AskMake loose answer ∷ mid → AskedOnly (IsMakingReady folder loose) old new
  loose_made answer old mid new asked e = asked_more (IsMakingReady folder loose) (AskMake loose answer) old mid new asked (inr (inl (answer, refl))) e

  -- behind that the folder was asked to be synced
  pub folder_synced : (answer : Result (Unit {0}) DriveFault) (old mid new : List FolderCall)
      → AskedOnly (IsMakingReady folder loose) old mid → new ≡ AskSync folder answer ∷ mid → AskedOnly (IsMakingReady folder loose) old new
  folder_synced answer old mid new asked e =
      asked_more (IsMakingReady folder loose) (AskSync folder answer) old mid new asked (inr (inr (inl (answer, refl)))) e

  -- both were made
  pub made_ready : (parent : List ℕ) (is_new loose_is_new : Bool) (r : Result (Unit {0}) DriveFault) (old one two three new : List FolderCall) → IsParent folder parent
      → one ≡ AskMake folder (Ok is_new) ∷ old → two ≡ AskSync parent (Ok tt) ∷ one → three ≡ AskMake loose (Ok loose_is_new) ∷ two → new ≡ AskSync folder r ∷ three
      → OnOk r (MakesReady folder loose old new)
  made_ready parent a b (Ok t) old one two three new is e1 e2 e3 e4 = (
    parent,
    a,
    b,
    is,
    e4 ∙ ap (λ (calls : List FolderCall). AskSync folder (Ok tt) ∷ calls)
        (e3 ∙ ap (λ (calls : List FolderCall). AskMake loose (Ok b) ∷ calls) (e2 ∙ ap (λ (calls : List FolderCall). AskSync parent (Ok tt) ∷ calls) e1)),
  )
  made_ready parent a b (Err fault) old one two three new is e1 e2 e3 e4 = tt

module _ (loose : List ℕ) where
  -- the folder of loose files was asked to be listed
  pub loose_listed : (answer : Result (List (List ℕ)) DriveFault) (old new : List FolderCall) → new ≡ AskList loose answer ∷ old → AskedOnly (IsEmptying loose) old new
  loose_listed answer old new e = asked_more (IsEmptying loose) (AskList loose answer) old old new (asked_none (IsEmptying loose) old) (inl (answer, refl)) e

  -- an entry of it was asked to be removed
  pub entry_cleared : (entry path : List ℕ) (answer : Result (Unit {0}) DriveFault) (old mid new : List FolderCall) → path ≡ path_below loose entry
      → AskedOnly (IsEmptying loose) old mid → new ≡ AskClear path answer ∷ mid → AskedOnly (IsEmptying loose) old new
  entry_cleared entry path answer old mid new at asked e =
      asked_more (IsEmptying loose) (AskClear path answer) old mid new asked (inr (entry, answer, ap (λ (p : List ℕ). AskClear p answer) at)) e

  module _ {X : Type 0} (f : X → List ℕ) (xs : List X) where
    -- one entry more was removed
    pub clears_more : (k next : ℕ) (x : X) (path : List ℕ) (start now new : List FolderCall)
        → k < length xs → x ≡ get_or xs k x → next ≡ suc k → path ≡ path_below loose (f x) → new ≡ AskClear path (Ok tt) ∷ now
        → clears loose (map f (drop k xs)) now ≡ clears loose (map f xs) start → clears loose (map f (drop next xs)) new ≡ clears loose (map f xs) start
    clears_more k next x path start now new low e is at grown was =
        ap (λ (calls : List FolderCall). clears loose (map f (drop next xs)) calls) (grown ∙ ap (λ (p : List ℕ). AskClear p (Ok tt) ∷ now) at)
        ∙ sym (ap (λ (ys : List X). clears loose (map f ys) now) (left xs k next x low e is))
        ∙ was

    -- all were removed
    pub cleared_all : (place : ℕ) (start now : List FolderCall) → length xs ≤ place
        → clears loose (map f (drop place xs)) now ≡ clears loose (map f xs) start → now ≡ clears loose (map f xs) start
    cleared_all place start now enough calls = sym (ap (λ (ys : List X). clears loose (map f ys) now) (drop_all place xs enough)) ∙ calls

-- the folder of a group was asked to be synced
pub group_synced : (folder group path : List ℕ) (answer : Result (Unit {0}) DriveFault) (old new : List FolderCall) → path ≡ path_below folder group
    → new ≡ AskSync path answer ∷ old → AskedOnly (IsReading folder) old new
group_synced folder group path answer old new at e =
    asked_more (IsReading folder) (AskSync path answer) old old new (asked_none (IsReading folder) old)
    (group, inl (answer, ap (λ (p : List ℕ). AskSync p answer) at)) e

-- behind that it was asked to be listed
pub group_listed : (folder group path : List ℕ) (answer : Result (List (List ℕ)) DriveFault) (old mid new : List FolderCall) → path ≡ path_below folder group
    → AskedOnly (IsReading folder) old mid → new ≡ AskList path answer ∷ mid → AskedOnly (IsReading folder) old new
group_listed folder group path answer old mid new at asked e =
    asked_more (IsReading folder) (AskList path answer) old mid new asked (group, inr (answer, ap (λ (p : List ℕ). AskList p answer) at)) e

-- a folder was opened, step by step
pub opened : {T E : Type 0} (r : Result T E) (folder loose : List ℕ) (old made emptied new : List FolderCall)
    → MakesReady folder loose old made → Empties loose made emptied → AskedOnly (IsReading folder) emptied new → OnOk r (Opens folder loose old new)
opened (Ok t) folder loose old made emptied new ready empties reads = record { made = made; emptied = emptied; ready = ready; empties = empties; reads = reads }
opened (Err e) folder loose old made emptied new ready empties reads = tt

-- the entries that were listed were removed
pub emptied_all : {E : Type 0} (r : Result (Unit {0}) E) (loose : List ℕ) (entries found : List (List ℕ)) (old mid new : List FolderCall)
    → mid ≡ AskList loose (Ok found) ∷ old → entries ≡ found → OnOk r (new ≡ clears loose entries mid) → OnOk r (Empties loose old new)
emptied_all (Ok t) loose entries found old mid new e same h =
    (found, h ∙ ap (λ (them : List (List ℕ)). clears loose them mid) same ∙ ap (λ (calls : List FolderCall). clears loose found calls) e)
emptied_all (Err why) loose entries found old mid new e same h = tt
