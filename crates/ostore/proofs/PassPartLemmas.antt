-- The parts of the passes of workers: they come together again, so that the desk is closed.
use Rattle.std.proofs.Common.{◌≡◌, ◌⊎◌, ◌∙◌, ◌+◌, ◌<◌, ◌++◌, ℕ, Bool, true, false, List, [], ◌∷◌, Option, Some, None, All, if◌then◌else◌, length, map, not, refl, reverse, sym, ap, subst, inl, inr, arith}
use Rattle.std.proofs.Math.Logic.{∥∥₁_elim}
use Rattle.std.proofs.Math.Nat.{ℕ_set}
use Rattle.std.specs.Prelude.{option_map}
use Rattle.std.proofs.lemmas.List.{get_or-map, length-map, length-reverse}
use Rattle.std.proofs.lemmas.List.Elements.{All-cons, All-head, All-map, All-nil, All-tail}
use Rattle.std.proofs.lemmas.List.Sorted.{All-permutation, IsPermutation-reverse, IsPermutation-sym}
use Rattle.audit_trail.specs.declared.entry.Entry.{Entry}
use Rattle.drive_base.specs.declared.drive.Drive.{Ghosts}
use Rattle.io_base.specs.Works.{picked}
use Rattle.io_base.specs.declared.door.Door.{Ghosts as DoorGhosts}
use Rattle.io_base.specs.declared.sink.Sink.{Ghosts as SinkGhosts}
use Rattle.io_base.specs.declared.source.Source.{Ghosts as SourceGhosts}
use Rattle.turn_lock.specs.declared.pass.Pass.{Pass}
use Rattle.store_shared.specs.Parting.{HasAllParts, IsCutAt, IsJoinedAt, LacksParts, parts_at, parts_in}
use Rattle.store_shared.specs.SharedPasses.{SharedHolds, pass_at, pass_holds, passes_in, shared_holds}
use Rattle.store_shared.specs.declared.shared.SharedPass.{SharedPass}
use Rattle.store_shared.specs.declared.shared.TurnedSlot.{TurnedSlot}
use Rattle.serve_loop.specs.Doors.{WorkBegan}
use Rattle.ostore.specs.Workers.{AreDealt, AreUnited, DoorsServed, HasServed, IsPost, Worker, begun_by, pass_by}
use Rattle.ostore.proofs.WorkerLemmas.{all_of_map, picked_map, picked_some}

-- those that are picked, and those that are not, are all
picked_all : {X : Type 0} (test : ℕ → Bool) (n : ℕ) (xs : List X) → length (picked test n xs) + length (picked (λ k. not (test k)) n xs) ≡ length xs
picked_all test n [] = refl
picked_all test n (x ∷ xs) =
    let rest = picked_all test (n + 1) xs in
    elim (test n) as (λ b. length (if b then x ∷ picked test (n + 1) xs else picked test (n + 1) xs)
    + length (if not b then x ∷ picked (λ k. not (test k)) (n + 1) xs else picked (λ k. not (test k)) (n + 1) xs) ≡ length (x ∷ xs)) [
      | true ↦ omega (arith, rest)
      | false ↦ omega (arith, rest)
    ]

-- as many of what is made of them are picked
picked_length : {X Y : Type 0} (f : X → Y) (test : ℕ → Bool) (n : ℕ) (xs : List X) → length (picked test n (map f xs)) ≡ length (picked test n xs)
picked_length f test n xs = ap length (sym (picked_map f test n xs)) ∙ length-map (picked test n xs) f

module _ {D A : Type 0} (k : ℕ) (inside : k < 64) where
  -- how many parts of the lock of this slot a pass has
  abbrev parts_by : SharedPass D A → ℕ
  parts_by pass = parts_in (option_map pass_holds (pass_at pass k))

  parts_are : (pass : SharedPass D A) → parts_at (shared_holds pass) k ≡ parts_by pass
  parts_are pass =
      let n = pass.count in
      ap parts_in (get_or-map (option_map pass_holds) (passes_in pass) k None None (omega (arith, n, inside)))

  abbrev HasOne : SharedPass D A → Type 0
  HasOne pass = parts_by pass ≡ 1

  cut_parts : (was one other : Option (Pass (TurnedSlot D A))) → IsCutAt was one other
      → (parts_in (option_map pass_holds one) + 1 ≡ parts_in (option_map pass_holds was)) × (parts_in (option_map pass_holds other) ≡ 1)
  cut_parts None one other is = absurd is
  cut_parts (Some was) None other is = absurd is
  cut_parts (Some was) (Some one) None is = absurd is
  cut_parts (Some was) (Some one) (Some other) is = (is.parts, is.part)

  joined_parts : (one other now : Option (Pass (TurnedSlot D A))) → IsJoinedAt one other now
      → parts_in (option_map pass_holds now) ≡ parts_in (option_map pass_holds one) + parts_in (option_map pass_holds other)
  joined_parts None other now is = absurd is
  joined_parts (Some one) None now is = absurd is
  joined_parts (Some one) (Some other) None is = absurd is
  joined_parts (Some one) (Some other) (Some now) is = is.parts

  -- each pass that is cut off has one part, and the rest has as many less
  dealt_parts : (whole : SharedPass D A) (passes : List (SharedPass D A)) (rest : SharedPass D A) → AreDealt whole passes rest
      → (parts_by rest + length passes ≡ parts_by whole) × All HasOne passes
  dealt_parts whole [] rest same = (let e = ap parts_by same in omega (arith, e), All-nil HasOne)
  dealt_parts whole (pass ∷ passes) rest (mid, split, more) =
      let cut = cut_parts (pass_at whole k) (pass_at mid k) (pass_at pass k) (split.each k inside) in
      let others = dealt_parts mid passes rest more in
      let one = cut.0 in
      let sum = others.0 in
      (omega (arith, one, sum), All-cons HasOne pass passes cut.1 others.1)

  -- passes with one part each, joined with one
  united_parts : (first : SharedPass D A) (passes : List (SharedPass D A)) (whole : SharedPass D A) → AreUnited first passes whole → All HasOne passes
      → parts_by whole ≡ parts_by first + length passes
  united_parts first [] whole same one = let e = ap parts_by same in omega (arith, e)
  united_parts first (pass ∷ passes) whole (mid, ways, united, joined) one =
      let sum = united_parts first passes mid united (All-tail HasOne pass passes one) in
      let more = joined_parts (pass_at mid k) (pass_at pass k) (pass_at whole k) (joined.each k inside) in
      let this = All-head HasOne pass passes one in
      omega (arith, sum, more, this)

module _ {D A O S T C Root : Type 0} (ghosts : Ghosts D) (root : D → Root) (entries : A → Option (List Entry)) (count : A → ℕ) (door : DoorGhosts O S T) (source : SourceGhosts S)
    (sink : SinkGhosts T) (moment : Option ℕ) {K : Type 0} (desk : K) (clock : C) where
  -- a worker that served has the parts that it began with
  same_parts : (k : ℕ) (inside : k < 64) (worker : Worker K C (SharedPass D A) O) → HasServed ghosts root entries count door source sink moment worker
      → HasOne k inside worker.began.pass → HasOne k inside worker.pass
  same_parts k inside worker served one = ∥∥₁_elim served.served (ℕ_set (parts_by k inside worker.pass) 1)
      (λ since. sym (parts_are k inside worker.pass) ∙ (ap (λ (h : SharedHolds D A). parts_at h k) since.holds_still ∙ (parts_are k inside worker.began.pass ∙ one)))

  -- once doors were served all parts are together again
  pub all_parts : (first whole : SharedPass D A) (doors doors_after : List O) (status starved faults faults_after : ℕ)
      → DoorsServed ghosts root entries count door source sink moment desk clock first whole doors doors_after status starved faults faults_after
      → HasAllParts (shared_holds first) → HasAllParts (shared_holds whole)
  all_parts first whole doors doors_after status starved faults faults_after (inl w) all k inside =
      let dealt = dealt_parts k inside first (reverse (map pass_by w.posts)) w.rest w.dealt in
      let Began = λ (b : WorkBegan K C (SharedPass D A) O). HasOne k inside b.pass in
      let posts = all_of_map (HasOne k inside) pass_by w.posts (All-permutation (HasOne k inside) (reverse (map pass_by w.posts)) (map pass_by w.posts)
      (IsPermutation-sym (map pass_by w.posts) (reverse (map pass_by w.posts)) (IsPermutation-reverse (map pass_by w.posts))) dealt.1) in
      let began : All (λ p. Began p.began) w.posts = λ n d within. subst Began (sym (w.are_posts n d within)) (posts n d within) in
      let begun = all_of_map Began begun_by w.dones (subst (All Began) (sym w.ran.dones_are)
      (picked_some Began w.ran.ran 0 (map begun_by w.posts) (All-map Began begun_by w.posts began))) in
      let dones : All (λ p. HasOne k inside (pass_by p)) w.dones = λ n d within. same_parts k inside _ (w.ran.served n d within) (begun n d within) in
      let lefts = subst (All (λ l. HasOne k inside (pass_by l))) (sym w.ran.lefts_are) (picked_some (λ l. HasOne k inside (pass_by l)) (λ n. not (w.ran.ran n)) 0 w.posts posts) in
      let mid = united_parts k inside w.rest (map pass_by w.dones) w.mid w.united (All-map (HasOne k inside) pass_by w.dones dones) in
      let end = united_parts k inside w.mid (map pass_by w.lefts) whole w.united_too (All-map (HasOne k inside) pass_by w.lefts lefts) in
      let some = length-map w.dones begun_by in
      let picked_some_ = ap length w.ran.dones_are in
      let picked_rest = ap length w.ran.lefts_are in
      let both = picked_all w.ran.ran 0 w.posts in
      let began_ = picked_length begun_by w.ran.ran 0 w.posts in
      let one = length-map w.dones pass_by in
      let two = length-map w.lefts pass_by in
      let three = length-reverse (map pass_by w.posts) in
      let four = length-map w.posts pass_by in
      let sum = dealt.0 in
      let full = sym (parts_are k inside first) ∙ all k inside in
      parts_are k inside whole ∙ omega (arith, mid, end, some, picked_some_, picked_rest, both, began_, one, two, three, four, sum, full)
  all_parts first whole doors doors_after status starved faults faults_after (inr n) all k inside =
      let dealt = dealt_parts k inside first n.passes n.rest n.dealt in
      let end = united_parts k inside n.rest n.passes whole n.united dealt.1 in
      let sum = dealt.0 in
      parts_are k inside whole ∙ (omega (arith, end, sum) ∙ (sym (parts_are k inside first) ∙ all k inside))

-- where all parts are there, none is missing
pub none_lacks : {D A : Type 0} (held : SharedHolds D A) → HasAllParts held → LacksParts held → ⊥
none_lacks held all (k, inside, few) = let full = all k inside in omega (arith, full, few)
