-- The doors of workers that were run beside one another, and how their serving ends.
use Rattle.std.proofs.Common.{◌≡◌, ◌⊎◌, ◌∙◌, ◌+◌, ◌-◌, ◌<◌, ℕ, List, [], ◌∷◌, ap, arith, get_or, inl, inr, length, map, refl, reverse, subst, sym}
use Rattle.std.proofs.lemmas.Bool.{eqb-true, eq-eqb, false≢true}
use Rattle.std.proofs.lemmas.List.{get_or-reverse, length-map, length-reverse}
use Rattle.std.proofs.lemmas.List.Elements.{All-map}
use Rattle.std.specs.Global.{Global}
use Rattle.std.specs.List.{AllByRecursion}
use Rattle.std.specs.Prelude.{All, Bool, IsTrue, Option, Vec, ◌==◌, false, not, true, vec_len}
use Rattle.audit_trail.specs.declared.entry.Entry.{Entry}
use Rattle.drive_base.specs.declared.drive.Drive.{Ghosts}
use Rattle.fault_base.specs.Counts.{Rose}
use Rattle.io_base.specs.declared.door.Door.{Ghosts as DoorGhosts}
use Rattle.io_base.specs.declared.sink.Sink.{Ghosts as SinkGhosts}
use Rattle.io_base.specs.declared.source.Source.{Ghosts as SourceGhosts}
use Rattle.serve_loop.specs.Doors.{IsServedOut}
use Rattle.store_shared.specs.declared.shared.SharedPass.{SharedPass}
use Rattle.ostore.specs.Statuses.{done, read_fault, write_fault}
use Rattle.ostore.specs.Workers.{AnyRose, DoorRose, DoorsEnd, HasServed, IsOfDesk, IsOver, IsPost, IsStill, Worker, WorksRan, begun_by}
use Rattle.ostore.proofs.WorkerLemmas.{all_of_map, both_by_recursion, by_recursion, picked_some}

-- what holds of all of a list holds of all of it in reverse
pub all_reverse : {X : Type 0} (P : X → Type 0) (xs : List X) → All P xs → All P (reverse xs)
all_reverse P xs all k d below =
    let inside : k < length xs = subst (λ n. k < n) (length-reverse xs) below in
    subst P (sym (get_or-reverse xs k d inside)) (all (length xs - 1 - k) d (omega (arith, inside)))

-- a list without elements
none_of : {X : Type 0} (xs : List X) → length xs ≡ 0 → xs ≡ []
none_of [] long = refl
none_of (x ∷ xs) long = absurd (omega (arith, long))

truth_of : (b : Bool) → (IsTrue (not b) → ⊥) → b ≡ true
truth_of true not_not = refl
truth_of false not_not = absurd (not_not refl)

module _ {X Y : Type 0} (f : X → Y) (v : Vec X Global) (is_empty : Bool) (is : is_empty ≡ (vec_len v == 0)) where
  -- whether a list is empty tells whether what is seen of it is
  pub some_left : IsTrue (not is_empty) → map f v.items ≡ [] → ⊥
  some_left some none =
      let empty : vec_len v ≡ 0 = omega (arith, v.ok, ap length none, length-map v.items f) in
      false≢true (sym (ap not (is ∙ eq-eqb (vec_len v) 0 empty)) ∙ some)

  pub none_left : (IsTrue (not is_empty) → ⊥) → map f v.items ≡ []
  none_left all =
      let empty : is_empty ≡ true = truth_of is_empty all in
      ap (map f) (none_of v.items (omega (arith, v.ok, eqb-true (vec_len v) 0 (sym is ∙ empty))))

module _ {O S T K C P : Type 0} (door : DoorGhosts O S T) where
  -- a worker whose door didn't fail and was served out has a door that is over
  over_one : (worker : Worker K C P O) → IsStill door worker → IsServedOut (door.over worker.door) (door.faults worker.began.door) (door.faults worker.door)
      → IsOver door worker
  over_one worker still (inl over) = record { over = over; held = still.held; faults = still.faults }
  over_one worker still (inr rose) = absurd (still.held rose)

  -- the status tells how it ended
  pub ends_so : (status : ℕ) (failed left : Bool) (dones lefts : List (Worker K C P O)) → (IsTrue failed → status ≡ read_fault)
      → ((IsTrue failed → ⊥) → IsTrue left → status ≡ write_fault) → ((IsTrue failed → ⊥) → (IsTrue left → ⊥) → status ≡ done)
      → (IsTrue failed → AnyRose door dones) → ((IsTrue failed → ⊥) → AllByRecursion (IsStill door) dones) → (IsTrue left → lefts ≡ [] → ⊥)
      → ((IsTrue left → ⊥) → lefts ≡ [])
      → All (λ worker. IsServedOut (door.over worker.door) (door.faults worker.began.door) (door.faults worker.door)) dones → DoorsEnd door status dones lefts
  ends_so status true left dones lefts read write over rose still some none outs = inl (read refl, rose refl)
  ends_so status false true dones lefts read write over rose still some none outs = inr (inl (write false≢true refl, some refl, still false≢true))
  ends_so status false false dones lefts read write over rose still some none outs = inr (inr (
    over false≢true false≢true,
    none false≢true,
    both_by_recursion (IsStill door) (λ worker. IsServedOut (door.over worker.door) (door.faults worker.began.door) (door.faults worker.door)) (IsOver door) dones
        over_one (still false≢true) (by_recursion _ dones outs),
  ))

module _ {D A O S T Root K C : Type 0} (ghosts : Ghosts D) (root : D → Root) (entries : A → Option (List Entry)) (count : A → ℕ) (door : DoorGhosts O S T)
    (source : SourceGhosts S) (sink : SinkGhosts T) (moment : Option ℕ) (desk : K) (clock : C) (posts dones lefts : List (Worker K C (SharedPass D A) O))
    (faults faults_after : ℕ) (ran : WorksRan ghosts root entries count door source sink moment posts dones lefts faults faults_after)
    (are : All (IsPost desk clock) posts) where
  -- the workers that were done are the desk's, and so are those that were left
  pub dones_of_desk : All (IsOfDesk desk) dones
  dones_of_desk =
      let begun = All-map (λ began. began.desk ≡ desk) begun_by posts (λ k d below. ap (λ began. began.desk) (are k d below)) in
      all_of_map (λ began. began.desk ≡ desk) begun_by dones
      (subst (All (λ began. began.desk ≡ desk)) (sym ran.dones_are) (picked_some (λ began. began.desk ≡ desk) ran.ran 0 (map begun_by posts) begun))

  pub lefts_of_desk : All (IsOfDesk desk) lefts
  lefts_of_desk = subst (All (IsOfDesk desk)) (sym ran.lefts_are)
      (picked_some (IsOfDesk desk) (λ n. not (ran.ran n)) 0 posts (λ k d below. ap (λ began. began.desk) (are k d below)))
