-- What `serve` comes to, of what it does step by step.
use Rattle.std.proofs.Common.{◌≡◌, ◌⊎◌, ◌∙◌, ℕ, Bool, false, List, [], ◌∷◌, Option, Some, None, All, ap, arith, inl, inr, length, map, not, refl, reverse, slice_index_or, subst, subst₂, sym}
use Rattle.std.specs.Global.{Global}
use Rattle.std.specs.Prelude.{Vec}
use Rattle.std.proofs.lemmas.List.{get_or-map, get_or_default, length-map, reverse-reverse}
use Rattle.std.proofs.lemmas.List.Elements.{All-head, All-map, All-tail}
use Rattle.std.proofs.lemmas.Option.{none-some, same_Some}
use Rattle.audit_trail.specs.declared.entry.Entry.{Entry}
use Rattle.drive_base.specs.declared.drive.Drive.{Ghosts}
use Rattle.io_base.specs.Works.{picked}
use Rattle.io_base.specs.declared.door.Door.{Ghosts as DoorGhosts}
use Rattle.io_base.specs.declared.sink.Sink.{Ghosts as SinkGhosts}
use Rattle.io_base.specs.declared.source.Source.{Ghosts as SourceGhosts}
use Rattle.command_line.specs.declared.plan.Command.TheVariants.{Serve}
use Rattle.serve_loop.specs.Deeds.{Wires}
use Rattle.serve_loop.specs.Doors.{WorkBegan}
use Rattle.slot_core.specs.Views.{numbers_of}
use Rattle.slot_core.specs.declared.slot.Slot.{Slot}
use Rattle.store_shared.specs.Parting.{IsMade}
use Rattle.store_shared.specs.Passes.{disks_of, set_of, slots_of}
use Rattle.store_shared.specs.SharedPasses.{drives_of, locks_of, pass_at}
use Rattle.store_shared.specs.Turned.{made_slot}
use Rattle.store_shared.specs.declared.pass.PassParts.{PassParts}
use Rattle.store_shared.specs.declared.pass.PlainPass.{PlainPass}
use Rattle.store_shared.specs.declared.shared.SharedDesk.{SharedDesk}
use Rattle.store_shared.specs.declared.shared.SharedPass.{SharedPass}
use Rattle.ostore.specs.Served.{IsDeskEnd, IsStoreEnd, Served, Serves}
use Rattle.ostore.specs.ServedLaws.{ServesBegin, ServesLives, workers_by, workers_in}
use Rattle.ostore.specs.Serving.{DoesAll, DoorsWereServed, HasWorked, StoreWasServed, Without}
use Rattle.ostore.specs.Sharing.{AreShared, EachShared}
use Rattle.ostore.specs.Statuses.{out_of_memory}
use Rattle.ostore.specs.Workers.{DoorsEnd, DoorsServed, IsPost, Worker, WorkersServed, begun_by, door_by, given_by, pass_by}
use Rattle.ostore.specs.declared.rig.Ended.{Ended}
use Rattle.ostore.specs.declared.rig.Rig.{Rig}
use Rattle.ostore.specs.declared.serving.StoreEnd.{StoreEnd}
use Rattle.ostore.proofs.DoorsLemmas.{all_reverse}
use Rattle.ostore.proofs.IdleLemmas.{IsIdle, dealt_drives, dealt_idle, first_idle, seen_so, united_drives}
use Rattle.store_shared.proofs.OrderLemmas.{some_of}
use Rattle.ostore.proofs.ServedLifeLemmas.{apart, left}
use Rattle.ostore.proofs.WorkerLemmas.{all_of_map, counts_map, map_both, picked_map, picked_some}

-- nothing is seen only of nothing
no_map : {X Y : Type 0} (f : X → Y) (xs : List X) → map f xs ≡ [] → xs ≡ []
no_map f [] none = refl
no_map f (x ∷ xs) none = absurd (omega (arith, ap length none, length-map (x ∷ xs) f))

-- a desk that was closed ended so
closed_status : {R G D A : Type 0} (desk : SharedDesk R D A G) (whole : SharedPass D A) (status end : ℕ) (parts : Option (PassParts D A)) (handed : PassParts D A)
    → IsDeskEnd desk whole status parts end → parts ≡ Some handed → end ≡ status
closed_status desk whole status end None handed is some = absurd (none-some handed some)
closed_status desk whole status end (Some parts) handed is some = is.1

module _ {O S T K C P : Type 0} (door : DoorGhosts O S T) where
  -- how doors ended is told as well by the doors of those that were left
  ends_by : (status : ℕ) (dones lefts : List (Worker K C P O)) → DoorsEnd door status dones lefts → DoorsEnd door status dones (map door_by lefts)
  ends_by status dones lefts (inl rose) = inl rose
  ends_by status dones lefts (inr (inl (is, some, still))) = inr (inl (is, (λ none. some (no_map door_by lefts none)), still))
  ends_by status dones lefts (inr (inr (is, none, over))) = inr (inr (is, ap (map door_by) none, over))

module _ {K C P O : Type 0} where
  -- the doors that workers were given are those that they have before they begin
  posts_doors : (desk : K) (clock : C) (posts : List (Worker K C P O)) → All (IsPost desk clock) posts → map given_by posts ≡ map door_by posts
  posts_doors desk clock [] are = refl
  posts_doors desk clock (post ∷ posts) are =
      ap (λ (o : O). o ∷ map given_by posts) (ap (λ (b : WorkBegan K C P O). b.door) (All-head (IsPost desk clock) post posts are))
      ∙ ap (λ (l : List O). door_by post ∷ l) (posts_doors desk clock posts (All-tail (IsPost desk clock) post posts are))

  -- the door that a work was made with
  abbrev door_began : WorkBegan K C P O → O
  door_began b = b.door

  -- those that were done have the doors that were picked for them
  dones_doors : (desk : K) (clock : C) (posts dones : List (Worker K C P O)) (ran : ℕ → Bool) (doors : List O) → All (IsPost desk clock) posts
      → map begun_by dones ≡ picked ran 0 (map begun_by posts) → doors ≡ reverse (map door_by posts) → map given_by dones ≡ picked ran 0 (reverse doors)
  dones_doors desk clock posts dones ran doors are same of =
      sym (map_both door_began begun_by dones) ∙ (ap (map door_began) same ∙ (picked_map door_began ran 0 (map begun_by posts)
      ∙ ap (picked ran 0) (map_both door_began begun_by posts ∙ (posts_doors desk clock posts are
      ∙ (sym (reverse-reverse (map door_by posts)) ∙ ap reverse (sym of))))))

  -- and those that were left the others
  lefts_doors : (posts lefts : List (Worker K C P O)) (ran : ℕ → Bool) (doors : List O) → lefts ≡ picked (λ n. not (ran n)) 0 posts
      → doors ≡ reverse (map door_by posts) → map door_by lefts ≡ picked (λ n. not (ran n)) 0 (reverse doors)
  lefts_doors posts lefts ran doors same of = ap (map door_by) same ∙ (picked_map door_by (λ n. not (ran n)) 0 posts
      ∙ ap (picked (λ n. not (ran n)) 0) (sym (reverse-reverse (map door_by posts)) ∙ ap reverse (sym of)))

module _ (R G : Type 0) {D A O S T C Root : Type 0} (ghosts : Ghosts D) (root : D → Root) (entries : A → Option (List Entry)) (count : A → ℕ) (door : DoorGhosts O S T)
    (source : SourceGhosts S) (sink : SinkGhosts T) (moment : Option ℕ) (clock : C) where
  -- the workers that were done began over the store that was opened, with ways of their own to its drives
  have_worked : (opened : PlainPass D A) (parts : PassParts D A) (desk : SharedDesk R D A G) (first whole : SharedPass D A) (doors doors_after : List O)
      (status starved faults faults_after : ℕ) → parts.set ≡ set_of opened → parts.slots.items ≡ slots_of opened → map root parts.disks.items ≡ map root (disks_of opened)
      → IsMade parts desk first
      → (w : WorkersServed ghosts root entries count door source sink moment desk clock first whole doors doors_after status starved faults faults_after)
      → All (HasWorked R G ghosts root entries count door source sink moment clock opened) w.dones
  have_worked opened parts desk first whole doors doors_after status starved faults faults_after of_set of_slots of_roots made w =
      let n = desk.count in
      let many = opened.count in
      let slots = slots_of opened in
      let free = some_of (locks_of desk) 0 (omega (arith, n)) in
      let e = some_of slots 0 (omega (arith, many)) in
      let seen : ℕ → ℕ = λ k. (numbers_of (slice_index_or slots k e)).turns in
      let first_is : IsIdle (set_of opened) seen first = record {
        of_set = made.fits.set ∙ (made.set ∙ of_set);
        idle = λ k inside.
            first_idle (slice_index_or (locks_of desk) k free) (pass_at first k) (seen k) (made.each k free inside)
            (ap (λ (s : Slot D A). (numbers_of s).turns) (sym (get_or-map made_slot (locks_of desk) k free e (omega (arith, n, inside)))
            ∙ ap (λ (l : List (Slot D A)). slice_index_or l k e) (made.slots ∙ of_slots)));
      } in
      let Idle = IsIdle {D = D} {A = A} (set_of opened) seen in
      let turned = dealt_idle (set_of opened) seen first (reverse (map pass_by w.posts)) w.rest w.dealt first_is in
      let idle = all_of_map Idle pass_by w.posts (subst (All Idle) (reverse-reverse (map pass_by w.posts)) (all_reverse Idle (reverse (map pass_by w.posts)) turned)) in
      let Began = λ (b : WorkBegan (SharedDesk R D A G) C (SharedPass D A) O).
      (b.clock ≡ clock) × Idle b.pass × AreShared ghosts (drives_of b.pass) × (map root (drives_of b.pass) ≡ map root (disks_of opened)) in
      let roots = ap (map root) made.drives ∙ of_roots in
      let at_posts : All (λ p. Began p.began) w.posts = λ k d inside. subst Began (sym (w.are_posts k d inside))
      (refl, idle k d inside, (w.ways k d inside).shared, (w.ways k d inside).roots ∙ roots) in
      let began = all_of_map Began begun_by w.dones (subst (All Began) (sym w.ran.dones_are)
      (picked_some Began w.ran.ran 0 (map begun_by w.posts) (All-map Began begun_by w.posts at_posts))) in
      λ i d below.
      let b = began i d below in
      record {
        clock_is = b.0;
        of_set = b.1.of_set;
        idle = λ k s inside. b.1.idle k inside
            ∙ ap (λ (x : Slot D A). seen_so [] (numbers_of x).turns false) (get_or_default slots k e s (omega (arith, many, inside)));
        shared = b.2;
        roots = b.3;
        out = (w.ran.served i d below).out;
      }

  -- no worker served the doors of an open store, for want of memory
  abbrev pub NoneServed : List (Worker (SharedDesk R D A G) C (SharedPass D A) O) → List O → ℕ → ℕ → Ended D A (Vec O Global) → Type 0
  NoneServed workers doors faults faults_after ended = (workers ≡ [])
      × Without R G ghosts root entries count door source sink moment clock (λ (alone : Ended D A (Unit {0})). (alone.status ≡ out_of_memory) × (alone.starved ≡ 0))
      doors faults faults_after ended

  -- the doors of a desk that was made of a store's parts were served, or there was no memory for workers
  by_doors : (opened stop : PlainPass D A) (parts : PassParts D A) (desk : SharedDesk R D A G) (first whole : SharedPass D A) (doors doors_after : List O)
      (status starved faults faults_after : ℕ) (ended : Ended D A (Vec O Global)) → parts.set ≡ set_of opened → parts.slots.items ≡ slots_of opened
      → map root parts.disks.items ≡ map root (disks_of opened) → AreShared ghosts (disks_of stop) → IsMade parts desk first → ended.status ≡ status
      → ended.starved ≡ starved → ended.door.items ≡ doors_after
      → (served : DoorsServed ghosts root entries count door source sink moment desk clock first whole doors doors_after status starved faults faults_after)
      → DoorsWereServed R G ghosts root entries count door source sink moment clock opened stop (workers_by served) doors faults faults_after ended
      ⊎ NoneServed (workers_by served) doors faults faults_after ended
  by_doors opened stop parts desk first whole doors doors_after status starved faults faults_after ended of_set of_slots of_roots all made status_is starved_is doors_is
      (inl w) = inl (record {
        worked = have_worked opened parts desk first whole doors doors_after status starved faults faults_after of_set of_slots of_roots made w;
        ran = w.ran.ran;
        given = dones_doors desk clock w.posts w.dones w.ran.ran doors w.are_posts w.ran.dones_are w.doors_are;
        lefts = map door_by w.lefts;
        lefts_are = lefts_doors w.posts w.lefts w.ran.ran doors w.ran.lefts_are w.doors_are;
        doors_are = doors_is ∙ w.doors_back;
        counted = counts_map door_by w.lefts faults faults_after w.ran.counted;
        ends = subst (λ n. DoorsEnd door n w.dones (map door_by w.lefts)) (sym status_is) (ends_by door status w.dones w.lefts w.ends);
        starved = starved_is ∙ w.starved_is;
        shared = all;
      })
  by_doors opened stop parts desk first whole doors doors_after status starved faults faults_after ended of_set of_slots of_roots all made status_is starved_is doors_is
      (inr n) = inr (
        refl,
        record {
          done = (status_is ∙ n.status_is, starved_is ∙ n.starved_is);
          doors_are = doors_is ∙ n.doors_back;
          counted = n.counted;
        },
      )

  -- the ways of the first pass are those of the one that all were joined with
  served_drives : (desk : SharedDesk R D A G) (first whole : SharedPass D A) (doors doors_after : List O) (status starved faults faults_after : ℕ)
      → DoorsServed ghosts root entries count door source sink moment desk clock first whole doors doors_after status starved faults faults_after
      → drives_of whole ≡ drives_of first
  served_drives desk first whole doors doors_after status starved faults faults_after (inl w) =
      united_drives w.mid (map pass_by w.lefts) whole w.united_too ∙ (united_drives w.rest (map pass_by w.dones) w.mid w.united
      ∙ dealt_drives first (reverse (map pass_by w.posts)) w.rest w.dealt)
  served_drives desk first whole doors doors_after status starved faults faults_after (inr n) =
      united_drives n.rest n.passes whole n.united ∙ dealt_drives first n.passes n.rest n.dealt

  -- what is left of a store: its drives, and how its doors were served
  record EndsBy (opened stop : PlainPass D A) (workers : List (Worker (SharedDesk R D A G) C (SharedPass D A) O)) (doors : List O) (faults faults_after : ℕ)
      (ended : Ended D A (Vec O Global)) : Type 0 where
    disks : EachShared ghosts root (disks_of opened) (disks_of stop)
    served : DoorsWereServed R G ghosts root entries count door source sink moment clock opened stop workers doors faults faults_after ended
        ⊎ NoneServed workers doors faults faults_after ended

  by_end : (opened stop : PlainPass D A) (begun handed : PassParts D A) (doors : List O) (faults faults_after : ℕ) (end : StoreEnd D A O)
      (ended : Ended D A (Vec O Global)) → begun.set ≡ set_of opened → begun.slots.items ≡ slots_of opened → begun.disks.items ≡ disks_of opened
      → end.parts ≡ Some handed → disks_of stop ≡ handed.disks.items → ended.status ≡ end.status → ended.starved ≡ end.starved → ended.door.items ≡ end.doors.items
      → (served : IsStoreEnd R G ghosts root entries count door source sink moment clock begun doors faults faults_after end)
      → EndsBy opened stop (workers_in served) doors faults faults_after ended
  by_end opened stop begun handed doors faults faults_after end ended set_is slots_are disks_are is stop_is status_is starved_is doors_is (inl x) =
      let s = x.served in
      let is_apart = apart s.desk s.whole s.status end.status end.parts handed s.closed is in
      let drives = served_drives s.desk s.first s.whole doors end.doors.items s.status s.starved faults faults_after s.served in
      let disks : disks_of stop ≡ x.shared.disks.items = stop_is ∙ (is_apart.drives ∙ (drives ∙ s.made.drives)) in
      record {
        disks = subst₂ (λ o n. EachShared ghosts root o n) disks_are (sym disks) x.shares.disks;
        served = by_doors opened stop x.shared s.desk s.first s.whole doors end.doors.items s.status s.starved faults faults_after ended (x.shares.set ∙ set_is)
            (x.shares.slots ∙ slots_are) (x.shares.disks.roots ∙ ap (map root) disks_are) (subst (λ l. AreShared ghosts l) (sym disks) x.all) s.made
            (status_is ∙ closed_status s.desk s.whole s.status end.status end.parts handed s.closed is) (starved_is ∙ s.starved_is) doors_is s.served;
      }
  by_end opened stop begun handed doors faults faults_after end ended set_is slots_are disks_are is stop_is status_is starved_is doors_is (inr x) =
      let same = ap (λ (p : PassParts D A). p.disks.items) (same_Some x.after handed (sym x.parts_are ∙ is)) in
      record {
        disks = subst₂ (λ o n. EachShared ghosts root o n) disks_are (same ∙ sym stop_is) x.shares.disks;
        served = inr (
          refl,
          record {
            done = (status_is ∙ x.status, starved_is ∙ x.starved);
            doors_are = doors_is ∙ x.doors_are;
            counted = x.counted;
          },
        );
      }

  -- a store that was opened, served and closed
  store_was_served : ServesLives R G C ghosts root entries count door source sink → ServesBegin R G C ghosts root entries count door source sink
      → (rig : Rig D A) (doors : List O) (faults faults_after : ℕ) (ended : Ended D A (Vec O Global))
      → Served R G ghosts root entries count door source sink moment clock rig doors faults faults_after ended
      → StoreWasServed R G ghosts root entries count door source sink moment clock rig doors faults faults_after ended
  store_was_served lives begin rig doors faults faults_after ended x =
      let life = lives moment clock rig doors faults faults_after ended x in
      let back = left rig.set x.end.parts ended.rig life.0 x.closed life.1 in
      let ends = by_end x.opened back.stop x.begun back.handed doors faults faults_after x.end ended x.set_is x.slots_are x.disks_are back.is back.disks x.status_is
      x.starved_is x.doors_are x.served in
      record {
        parts = x.parts;
        are = x.are;
        opened = x.opened;
        opens = x.opens;
        workers = workers_in x.served;
        stop = back.stop;
        served = ends.served;
        after = life.0;
        closed = back.closed;
        disks = ends.disks;
        rig_is = life.1;
        opening = x.opening;
        line = x.line;
        life = life.2;
        begins = λ used lost unseen at holds serve. begin moment clock rig doors faults faults_after ended x used lost unseen at holds serve;
      }

  -- what `serve` does is what its command comes to
  pub served_so : ServesLives R G C ghosts root entries count door source sink → ServesBegin R G C ghosts root entries count door source sink
      → (rig : Rig D A) (doors : List O) (faults faults_after : ℕ) (ended : Ended D A (Vec O Global)) (wires : Wires)
      → Serves R G ghosts root entries count door source sink moment clock rig doors faults faults_after ended
      → DoesAll R G ghosts root entries count door source sink moment clock Serve rig doors faults faults_after ended wires wires
  served_so lives begin rig doors faults faults_after ended wires (inl x) = inl (store_was_served lives begin rig doors faults faults_after ended x, refl)
  served_so lives begin rig doors faults faults_after ended wires (inr x) = inr (record {
    done = inl (x.after, x.why, x.rig_is, x.opening, x.line, x.starved, x.status_is, x.refused, refl);
    doors_are = x.doors_are;
    counted = x.counted;
  })
