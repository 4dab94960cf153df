-- Passes of locks that are cut in two and joined, lock by lock.
use Rattle.std.proofs.Common.{◌≡◌, ◌<◌, ◌≤◌, ◌+◌, ◌∙◌, ◌++◌, ℕ, List, [], ◌∷◌, Option, None, get_or, length, set, refl, subst, sym, arith}
use Rattle.std.proofs.Math.Decide.{ℕ_discrete}
use Rattle.std.proofs.Math.Logic.{dite}
use Rattle.std.proofs.lemmas.List.{get_or-map, get_or-set_other, get_or-set_same, get_or_append_left, get_or_at, length-append, length-set}
use Rattle.std.specs.Prelude.{option_map}
use Rattle.turn_lock.specs.declared.lock.TurnLock.{TurnLock}
use Rattle.turn_lock.specs.declared.pass.Pass.{Pass}
use Rattle.store_shared.specs.Parting.{AreJoined, IsCutAt, IsJoinedAt, IsSplit}
use Rattle.store_shared.specs.SharedPasses.{AreOfLocks, FitsDesk, IsOfLock, drives_of, locks_of, pass_at, pass_holds, passes_hold, passes_in, set_held, set_of_desk, shared_holds}
use Rattle.store_shared.specs.declared.shared.SharedDesk.{SharedDesk}
use Rattle.store_shared.specs.declared.shared.SharedPass.{SharedPass}
use Rattle.store_shared.specs.declared.shared.TurnedSlot.{TurnedSlot}

-- what holds below a number and at it holds below the next one
pub each_more : (P : ℕ → Type 0) (n : ℕ) → ((k : ℕ) → k < n → P k) → P n → (k : ℕ) → k < n + 1 → P k
each_more P n all one k low = dite (ℕ_discrete k n) (λ same. subst P (sym same) one) (λ other. all k (omega (arith, low, other)))

module _ {X : Type 0} where
  -- a list with another element in one place, and one that is longer by an element
  set_there : (xs : List X) (n : ℕ) (x d : X) → n < length xs → get_or (set xs n x) n d ≡ x
  set_there xs n x d inside = get_or-set_same xs n x d inside

  set_before : (xs : List X) (n k : ℕ) (x d : X) → k < n → get_or (set xs n x) k d ≡ get_or xs k d
  set_before xs n k x d low = get_or-set_other xs n k x d (λ same. absurd (omega (arith, low, same)))

  set_behind : (xs : List X) (n k : ℕ) (x d : X) → n + 1 ≤ k → get_or (set xs n x) k d ≡ get_or xs k d
  set_behind xs n k x d high = get_or-set_other xs n k x d (λ same. absurd (omega (arith, high, same)))

module _ {D A : Type 0} (locks : List (TurnLock (TurnedSlot D A))) where
  -- the pass in a place is of the lock of that place
  abbrev pub IsLocked : List (Option (Pass (TurnedSlot D A))) → ℕ → Type 0
  IsLocked passes k = (lock : TurnLock (TurnedSlot D A)) → IsOfLock (get_or locks k lock) (option_map pass_holds (get_or passes k None))

  -- so many passes were cut in two, and the others are as before
  pub record CutSoFar (n : ℕ) (old one other : List (Option (Pass (TurnedSlot D A)))) : Type 0 where
    pub long : length one ≡ 64
    pub long_too : length other ≡ n
    pub cut : (k : ℕ) → k < n → IsCutAt (get_or old k None) (get_or one k None) (get_or other k None)
    pub locked : (k : ℕ) → k < n → IsLocked one k
    pub locked_too : (k : ℕ) → k < n → IsLocked other k
    pub rest : (k : ℕ) → n ≤ k → get_or one k None ≡ get_or old k None

  pub cut_none : (old : List (Option (Pass (TurnedSlot D A)))) → length old ≡ 64 → CutSoFar 0 old old []
  cut_none old long = record {
    long = long;
    long_too = refl;
    cut = λ k low. absurd (omega (arith, low));
    locked = λ k low. absurd (omega (arith, low));
    locked_too = λ k low. absurd (omega (arith, low));
    rest = λ k high. refl;
  }

  pub cut_more : (n : ℕ) (old one other : List (Option (Pass (TurnedSlot D A)))) (place now part : Option (Pass (TurnedSlot D A))) → n < 64
      → CutSoFar n old one other → get_or one n None ≡ place → IsCutAt place now part
      → ((lock : TurnLock (TurnedSlot D A)) → IsOfLock (get_or locks n lock) (option_map pass_holds now))
      → ((lock : TurnLock (TurnedSlot D A)) → IsOfLock (get_or locks n lock) (option_map pass_holds part))
      → CutSoFar (n + 1) old (set one n now) (other ++ part ∷ [])
  cut_more n old one other place now part low x is cut lock lock_too =
      let inside : n < length one = (let long = x.long in omega (arith, low, long)) in
      let there = set_there one n now None inside in
      let last = get_or_at other part [] None n x.long_too in
      let was = sym (x.rest n (omega arith)) ∙ is in
      record {
        long = length-set one n now ∙ x.long;
        long_too = length-append other (part ∷ []) ∙ (let had = x.long_too in omega (arith, had));
        cut = each_more (λ k. IsCutAt (get_or old k None) (get_or (set one n now) k None) (get_or (other ++ part ∷ []) k None)) n
            (λ k under.
            let within : k < length other = (let had = x.long_too in omega (arith, had, under)) in
            subst (λ p. IsCutAt (get_or old k None) (get_or (set one n now) k None) p) (sym (get_or_append_left other (part ∷ []) None k within))
            (subst (λ p. IsCutAt (get_or old k None) p (get_or other k None)) (sym (set_before one n k now None under)) (x.cut k under)))
            (subst (λ p. IsCutAt p (get_or (set one n now) n None) (get_or (other ++ part ∷ []) n None)) (sym was)
            (subst (λ p. IsCutAt place p (get_or (other ++ part ∷ []) n None)) (sym there) (subst (λ p. IsCutAt place now p) (sym last) cut)));
        locked = each_more (IsLocked (set one n now)) n
            (λ k under free. subst (λ p. IsOfLock (get_or locks k free) (option_map pass_holds p)) (sym (set_before one n k now None under)) (x.locked k under free))
            (λ free. subst (λ p. IsOfLock (get_or locks n free) (option_map pass_holds p)) (sym there) (lock free));
        locked_too = each_more (IsLocked (other ++ part ∷ [])) n
            (λ k under free.
            let within : k < length other = (let had = x.long_too in omega (arith, had, under)) in
            subst (λ p. IsOfLock (get_or locks k free) (option_map pass_holds p)) (sym (get_or_append_left other (part ∷ []) None k within))
            (x.locked_too k under free))
            (λ free. subst (λ p. IsOfLock (get_or locks n free) (option_map pass_holds p)) (sym last) (lock_too free));
        rest = λ k high. set_behind one n k now None high ∙ x.rest k (omega (arith, high));
      }

  -- so many pairs of passes were joined, and the others are as before
  pub record JoinedSoFar (n : ℕ) (old old_gone one gone : List (Option (Pass (TurnedSlot D A)))) : Type 0 where
    pub long : length one ≡ 64
    pub long_too : length gone ≡ 64
    pub joined : (k : ℕ) → k < n → IsJoinedAt (get_or old k None) (get_or old_gone k None) (get_or one k None)
    pub locked : (k : ℕ) → k < n → IsLocked one k
    pub rest : (k : ℕ) → n ≤ k → get_or one k None ≡ get_or old k None
    pub rest_too : (k : ℕ) → n ≤ k → get_or gone k None ≡ get_or old_gone k None

  pub joined_none : (old gone : List (Option (Pass (TurnedSlot D A)))) → length old ≡ 64 → length gone ≡ 64 → JoinedSoFar 0 old gone old gone
  joined_none old gone long long_too = record {
    long = long;
    long_too = long_too;
    joined = λ k low. absurd (omega (arith, low));
    locked = λ k low. absurd (omega (arith, low));
    rest = λ k high. refl;
    rest_too = λ k high. refl;
  }

  pub joined_more : (n : ℕ) (old old_gone one gone : List (Option (Pass (TurnedSlot D A)))) (place away now left : Option (Pass (TurnedSlot D A))) → n < 64
      → JoinedSoFar n old old_gone one gone → get_or one n None ≡ place → get_or gone n None ≡ away → IsJoinedAt place away now
      → ((lock : TurnLock (TurnedSlot D A)) → IsOfLock (get_or locks n lock) (option_map pass_holds now))
      → JoinedSoFar (n + 1) old old_gone (set one n now) (set gone n left)
  joined_more n old old_gone one gone place away now left low x is is_too joined lock =
      let inside : n < length one = (let long = x.long in omega (arith, low, long)) in
      let there = set_there one n now None inside in
      let was = sym (x.rest n (omega arith)) ∙ is in
      let was_too = sym (x.rest_too n (omega arith)) ∙ is_too in
      record {
        long = length-set one n now ∙ x.long;
        long_too = length-set gone n left ∙ x.long_too;
        joined = each_more (λ k. IsJoinedAt (get_or old k None) (get_or old_gone k None) (get_or (set one n now) k None)) n
            (λ k under. subst (λ p. IsJoinedAt (get_or old k None) (get_or old_gone k None) p) (sym (set_before one n k now None under)) (x.joined k under))
            (subst (λ p. IsJoinedAt p (get_or old_gone n None) (get_or (set one n now) n None)) (sym was)
            (subst (λ p. IsJoinedAt place p (get_or (set one n now) n None)) (sym was_too) (subst (λ p. IsJoinedAt place away p) (sym there) joined)));
        locked = each_more (IsLocked (set one n now)) n
            (λ k under free. subst (λ p. IsOfLock (get_or locks k free) (option_map pass_holds p)) (sym (set_before one n k now None under)) (x.locked k under free))
            (λ free. subst (λ p. IsOfLock (get_or locks n free) (option_map pass_holds p)) (sym there) (lock free));
        rest = λ k high. set_behind one n k now None high ∙ x.rest k (omega (arith, high));
        rest_too = λ k high. set_behind gone n k left None high ∙ x.rest_too k (omega (arith, high));
      }

  -- passes each of which is of its lock are of the locks
  pub all_locked : (passes : List (Option (Pass (TurnedSlot D A)))) → length passes ≡ 64 → ((k : ℕ) → k < 64 → IsLocked passes k)
      → AreOfLocks locks (passes_hold passes)
  all_locked passes long each k lock below =
      let inside : k < length passes = omega (arith, long, below) in
      subst (λ h. IsOfLock (get_or locks k lock) h) (sym (get_or-map (option_map pass_holds) passes k None None inside)) (each k below lock)

module _ {R D A G : Type 0} (desk : SharedDesk R D A G) where
  -- a pass over such passes is one of the desk's
  pub fits_after : (pass : SharedPass D A) (passes : List (Option (Pass (TurnedSlot D A)))) → set_held (shared_holds pass) ≡ set_of_desk desk
      → passes_in pass ≡ passes → length passes ≡ 64 → ((k : ℕ) → k < 64 → IsLocked (locks_of desk) passes k) → FitsDesk desk (shared_holds pass)
  fits_after pass passes of_set are long each = record {
    set = of_set;
    locks = subst (λ p. AreOfLocks (locks_of desk) (passes_hold p)) (sym are) (all_locked (locks_of desk) passes long each);
  }

module _ {D A : Type 0} (locks : List (TurnLock (TurnedSlot D A))) where
  pub split_ends : (pass first second : SharedPass D A) (disks : List D) (one other : List (Option (Pass (TurnedSlot D A))))
      → CutSoFar locks 64 (passes_in pass) one other → set_held (shared_holds first) ≡ set_held (shared_holds pass) → passes_in first ≡ one
      → drives_of first ≡ drives_of pass → set_held (shared_holds second) ≡ set_held (shared_holds pass) → passes_in second ≡ other
      → drives_of second ≡ disks → IsSplit pass first second disks
  split_ends pass first second disks one other x of_set are drives of_set_too are_too drives_too = record {
    set = of_set;
    set_too = of_set_too;
    each = λ k below. subst (λ p. IsCutAt (pass_at pass k) (get_or p k None) (pass_at second k)) (sym are)
        (subst (λ p. IsCutAt (pass_at pass k) (get_or one k None) (get_or p k None)) (sym are_too) (x.cut k below));
    drives = drives;
    drives_too = drives_too;
  }

  pub join_ends : (one other now : SharedPass D A) (disks : List D) (joined gone : List (Option (Pass (TurnedSlot D A))))
      → JoinedSoFar locks 64 (passes_in one) (passes_in other) joined gone → set_held (shared_holds now) ≡ set_held (shared_holds one)
      → passes_in now ≡ joined → drives_of now ≡ drives_of one → disks ≡ drives_of other → AreJoined one other now disks
  join_ends one other now disks joined gone x of_set are drives drives_too = record {
    set = of_set;
    each = λ k below. subst (λ p. IsJoinedAt (pass_at one k) (pass_at other k) (get_or p k None)) (sym are) (x.joined k below);
    drives = drives;
    drives_too = drives_too;
  }
