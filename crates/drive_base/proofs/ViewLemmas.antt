-- From the drives of a list to what is seen of them, and back.
use Rattle.std.proofs.Common.{ap, append_assoc, sym, subst, ◌≡◌, ◌<◌, ℕ, zero, suc, List, [], ◌∷◌, ◌++◌, length, slice_index_or, refl, ◌∙◌, arith, IsTrue}
use Rattle.std.proofs.lemmas.List.{length-map}
use Rattle.drive_base.specs.View.{AllGoOn, AllTell, DriveView, view, views, view_at, AtEach, AtSome, GoesOn, OnlyRead, UntouchedGoOn, UntouchedAreOnlyRead, TwoCallsGoOn, TwoCallsOnlyRead, OnlyReadGoOn}
use Rattle.drive_base.specs.Trail.{AreReadings, DriveCall, GrewByReadings}
use Rattle.drive_base.specs.declared.drive.Drive.{Ghosts}

module _ {D : Type 0} (ghosts : Ghosts D) where
  -- as many views as drives
  pub length-views : (drives : List D) → length (views ghosts drives) ≡ length drives
  length-views drives = length-map drives (view ghosts)

  -- the view of this index is what is seen of the drive of this index
  pub view_at-views : (drives : List D) (k : ℕ) (d : D) → k < length drives → view_at (views ghosts drives) k ≡ view ghosts (slice_index_or drives k d)
  view_at-views [] k d lt = absurd (omega arith)
  view_at-views (x ∷ xs) zero d lt = refl
  view_at-views (x ∷ xs) (suc k) d lt = view_at-views xs k d (omega arith)

  -- a relation of drives at one place is one of views
  to_views : (R : ℕ → DriveView → DriveView → Type 0) (old new : List D) (k : ℕ) (d : D) → length new ≡ length old → k < length old
      → R k (view ghosts (slice_index_or old k d)) (view ghosts (slice_index_or new k d)) → R k (view_at (views ghosts old) k) (view_at (views ghosts new) k)
  to_views R old new k d long lt is = rw (view_at-views old k d lt, view_at-views new k d (omega arith)) is

  from_views : (R : ℕ → DriveView → DriveView → Type 0) (old new : List D) (k : ℕ) (d : D) → length new ≡ length old → k < length old
      → R k (view_at (views ghosts old) k) (view_at (views ghosts new) k) → R k (view ghosts (slice_index_or old k d)) (view ghosts (slice_index_or new k d))
  from_views R old new k d long lt is = rw (← view_at-views old k d lt, ← view_at-views new k d (omega arith)) is

  -- some drive of a list that has one
  any_of : (drives : List D) (k : ℕ) → k < length drives → D
  any_of [] k lt = absurd (omega arith)
  any_of (x ∷ xs) k lt = x

  -- what holds between the drives at each place holds between what is seen of them
  pub at_each_view : (R : ℕ → DriveView → DriveView → Type 0) (old new : List D) → length new ≡ length old
      → ((k : ℕ) (d : D) → k < length old → R k (view ghosts (slice_index_or old k d)) (view ghosts (slice_index_or new k d)))
      → AtEach R (views ghosts old) (views ghosts new)
  at_each_view R old new long each = record {
    long = length-views new ∙ (omega (arith, length-views old));
    each = λ k lt. let within : k < length old = omega (arith, length-views old) in
        let d = any_of old k within in to_views R old new k d long within (each k d within);
  }

  -- and the way back, for each drive that stands where there is none
  pub at_each_drive : (R : ℕ → DriveView → DriveView → Type 0) (old new : List D) → AtEach R (views ghosts old) (views ghosts new)
      → (k : ℕ) (d : D) → k < length old → R k (view ghosts (slice_index_or old k d)) (view ghosts (slice_index_or new k d))
  at_each_drive R old new all k d lt =
      let long : length new ≡ length old = omega (arith, all.long, length-views old, length-views new) in
      from_views R old new k d long lt (all.each k (omega (arith, length-views old)))

  -- the same of one place
  pub at_some_view : (R : ℕ → DriveView → DriveView → Type 0) (old new : List D) (k : ℕ) (d : D) → length new ≡ length old → k < length old
      → R k (view ghosts (slice_index_or old k d)) (view ghosts (slice_index_or new k d)) → AtSome R (views ghosts old) (views ghosts new)
  at_some_view R old new k d long lt is = record { place = k; within = omega (arith, length-views old); is = to_views R old new k d long lt is }

  -- as many drives after as before
  pub at_each_long : (R : ℕ → DriveView → DriveView → Type 0) (old new : List D) → AtEach R (views ghosts old) (views ghosts new) → length new ≡ length old
  at_each_long R old new all = omega (arith, all.long, length-views old, length-views new)

  -- a drive of which it is asked tells, where each view of which it is asked does, and the other way round
  pub tells_at : (IsAsked : ℕ → Type 0) (drives : List D) → AllTell IsAsked (views ghosts drives)
      → (k : ℕ) (d : D) → k < length drives → IsAsked k → IsTrue (ghosts.tells (slice_index_or drives k d))
  tells_at IsAsked drives all k d lt asked =
      subst (λ (v : DriveView). IsTrue v.tells) (view_at-views drives k d lt) (all k (omega (arith, length-views drives)) asked)

  pub all_tell : (IsAsked : ℕ → Type 0) (drives : List D) → ((k : ℕ) (d : D) → k < length drives → IsAsked k → IsTrue (ghosts.tells (slice_index_or drives k d)))
      → AllTell IsAsked (views ghosts drives)
  all_tell IsAsked drives each k lt asked =
      let within : k < length drives = omega (arith, length-views drives) in
      let d = any_of drives k within in
      subst (λ (v : DriveView). IsTrue v.tells) (sym (view_at-views drives k d within)) (each k d within asked)

-- drives that tell go on telling
pub still_tell : (IsAsked : ℕ → Type 0) (old new : List DriveView) → AllGoOn old new → AllTell IsAsked old → AllTell IsAsked new
still_tell IsAsked old new all tell k lt asked =
    let here : k < length old = omega (arith, all.long) in
    subst IsTrue (sym (all.each k here).tells) (tell k here asked)

-- one drive over two calls
goes_on_twice : (old mid new : DriveView) → GoesOn old mid → GoesOn mid new → GoesOn old new
goes_on_twice old mid new one two = record { tells = two.tells ∙ one.tells; count = omega arith }

-- readings, and readings behind them
both_read : (first second : List DriveCall) → AreReadings first → AreReadings second → AreReadings (first ++ second)
both_read [] second one two = two
both_read (call ∷ first) second one two = (one.0, both_read first second one.1 two)

grew_twice : (old mid new : List DriveCall) → GrewByReadings old mid → GrewByReadings mid new → GrewByReadings old new
grew_twice old mid new one two = record {
  more = two.more ++ one.more;
  readings = both_read two.more one.more two.readings one.readings;
  grown = two.grown ∙ (ap (λ (calls : List DriveCall). two.more ++ calls) one.grown ∙ sym (append_assoc two.more one.more old));
}

pub none_since : (calls : List DriveCall) → GrewByReadings calls calls
none_since calls = record { more = []; readings = tt; grown = refl }

only_read_twice : (old mid new : DriveView) → OnlyRead old mid → OnlyRead mid new → OnlyRead old new
only_read_twice old mid new one two = record {
  goes_on = goes_on_twice old mid new one.goes_on two.goes_on;
  files = λ told. let still : IsTrue mid.tells = rw one.goes_on.tells told in two.files still ∙ one.files told;
  trail = grew_twice old.trail mid.trail new.trail one.trail two.trail;
}

pub untouched_go_on : UntouchedGoOn
untouched_go_on drives = record { long = refl; each = λ k lt. record { tells = refl; count = omega arith } }

pub untouched_are_only_read : UntouchedAreOnlyRead
untouched_are_only_read drives = record { long = refl; each = λ k lt. record { goes_on = record { tells = refl; count = omega arith }; files = λ told. refl; trail = none_since (view_at drives k).trail } }

pub two_calls_go_on : TwoCallsGoOn
two_calls_go_on old mid new one two = record {
  long = two.long ∙ one.long;
  each = λ k lt. let here : k < length mid = omega (arith, one.long) in goes_on_twice (view_at old k) (view_at mid k) (view_at new k) (one.each k lt) (two.each k here);
}

pub two_calls_only_read : TwoCallsOnlyRead
two_calls_only_read old mid new one two = record {
  long = two.long ∙ one.long;
  each = λ k lt. let here : k < length mid = omega (arith, one.long) in only_read_twice (view_at old k) (view_at mid k) (view_at new k) (one.each k lt) (two.each k here);
}

pub only_read_go_on : OnlyReadGoOn
only_read_go_on old new all = record { long = all.long; each = λ k lt. (all.each k lt).goes_on }
