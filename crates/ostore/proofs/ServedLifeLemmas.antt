-- A life of `serve`: in each slot the sections of all workers lead from the slot as it was opened to the slot as it was closed.
use Rattle.std.proofs.Common.{◌≡◌, ◌∙◌, ◌<◌, ◌≤◌, ◌++◌, ◌+◌, ℕ, Bool, true, List, [], ◌∷◌, Option, Some, None, All, map, length, slice_index_or, refl, sym, ap, subst, inl, inr, arith}
use Rattle.std.proofs.Math.Logic.{∥∥₁_map}
use Rattle.std.specs.Global.{Global}
use Rattle.std.specs.List.{AllZip, flat_map}
use Rattle.std.specs.Prelude.{Vec, IsPermutation, reverse}
use Rattle.std.proofs.lemmas.List.{get_or-map, get_or_default}
use Rattle.std.proofs.lemmas.List.Elements.{All-map, All-nil}
use Rattle.std.proofs.lemmas.List.Sorted.{All-permutation, IsPermutation-append_comm, IsPermutation-append_right, IsPermutation-refl, IsPermutation-reverse, IsPermutation-sym, IsPermutation-trans}
use Rattle.std.proofs.lemmas.Option.{none-some, same_Some}
use Rattle.audit_trail.specs.declared.entry.Entry.{Entry}
use Rattle.drive_base.specs.declared.drive.Drive.{Ghosts}
use Rattle.drive_base.specs.declared.plan.SetPlan.{SetPlan}
use Rattle.io_base.specs.Works.{picked}
use Rattle.io_base.specs.declared.door.Door.{Ghosts as DoorGhosts}
use Rattle.io_base.specs.declared.sink.Sink.{Ghosts as SinkGhosts}
use Rattle.io_base.specs.declared.source.Source.{Ghosts as SourceGhosts}
use Rattle.serve_loop.specs.Doors.{WorkBegan}
use Rattle.slot_core.specs.Opening.{IsOpened}
use Rattle.slot_core.specs.Views.{SlotNumbers, numbers_of}
use Rattle.slot_core.specs.declared.slot.Slot.{Slot}
use Rattle.slot_core.specs.declared.slot.SlotParts.{SlotParts}
use Rattle.op_steps.specs.Store.{slot_seen}
use Rattle.op_steps.proofs.StepLemmas.{same_went}
use Rattle.turn_lock.specs.History.{IsHistory}
use Rattle.turn_lock.specs.Passes.{made_with}
use Rattle.turn_lock.specs.Tickets.{last_ticket}
use Rattle.turn_lock.specs.declared.lock.TurnLock.{TurnLock}
use Rattle.turn_lock.specs.declared.pass.Pass.{Pass}
use Rattle.store_shared.proofs.OrderLemmas.{some_of}
use Rattle.store_shared.proofs.ShutLemmas.{shut_at}
use Rattle.store_shared.specs.Closing.{SlotIsShut}
use Rattle.store_shared.specs.Among.{seen_in}
use Rattle.store_shared.specs.Opening.{AreOpened}
use Rattle.store_shared.specs.Parting.{HasAllParts, IsApart, IsClosedAt, IsMade}
use Rattle.store_shared.specs.Passes.{disks_of, set_of, slots_of}
use Rattle.store_shared.specs.Sections.{AnswersHaveSections, IsSection, SectionsLead, SlotLed}
use Rattle.store_shared.specs.SharedPasses.{drives_of, locks_of, pass_at, shared_holds}
use Rattle.store_shared.specs.Trails.{SharedAnswersHaveTrails}
use Rattle.store_shared.specs.Turned.{made_slot, name_of, slot_in, turns_in}
use Rattle.store_shared.specs.declared.pass.PassParts.{PassParts}
use Rattle.store_shared.specs.declared.pass.PlainPass.{PlainPass}
use Rattle.store_shared.specs.declared.shared.SharedDesk.{SharedDesk}
use Rattle.store_shared.specs.declared.shared.SharedPass.{SharedPass}
use Rattle.store_shared.specs.declared.shared.TurnedSlot.{TurnedSlot}
use Rattle.ostore.specs.History.{ClosedSlotRan}
use Rattle.ostore.specs.Rigs.{StoreIsClosed}
use Rattle.ostore.specs.Served.{IsDeskEnd, IsHanded, IsStoreEnd, Served}
use Rattle.ostore.specs.ServedLaws.{workers_by, workers_in}
use Rattle.ostore.specs.ServedLife.{HadAllTurns, LifeServed, Made, WorkerDid, caller_of}
use Rattle.ostore.specs.Trails.{AreUncalled}
use Rattle.ostore.specs.Workers.{DoorsServed, HasWays, IsPost, Worker, begun_by, pass_by}
use Rattle.ostore.specs.declared.rig.Ended.{Ended}
use Rattle.ostore.specs.declared.rig.Rig.{Rig}
use Rattle.ostore.specs.declared.serving.StoreEnd.{StoreEnd}
use Rattle.store_shared.proofs.OpeningLemmas.{opened_count}
use Rattle.ostore.proofs.PassPartLemmas.{all_parts, none_lacks}
use Rattle.ostore.proofs.PassTurnLemmas.{HasMade, HasNone, SpentAt, all_made, dealt_none, first_none, united_made, united_none, united_spent}
use Rattle.ostore.proofs.PlaceLemmas.{opened_at}
use Rattle.ostore.proofs.TrailLemmas.{none_called}
use Rattle.ostore.proofs.WorkedLemmas.{BeganWithNone, Worked, worked}
use Rattle.ostore.proofs.WorkerLemmas.{all_of_map, picked_some}

-- the sections of all, in whichever order
all_same : {D A : Type 0} (made : List (Made D A)) (k : ℕ) → IsPermutation (flat_map (λ (m : Made D A). m k) made) (all_made made k)
all_same [] k = IsPermutation-refl []
all_same (m ∷ made) k = IsPermutation-trans (m k ++ flat_map (λ n. n k) made) (m k ++ all_made made k) (all_made made k ++ m k)
    (IsPermutation-append_right (m k) (flat_map (λ n. n k) made) (all_made made k) (all_same made k)) (IsPermutation-append_comm (m k) (all_made made k))

module _ {D A O S T : Type 0} (ghosts : Ghosts D) (entries : A → Option (List Entry)) (count : A → ℕ) (door : DoorGhosts O S T) (source : SourceGhosts S) (sink : SinkGhosts T)
    (moment : Option ℕ) {K C : Type 0} (law : ClosedSlotRan entries count ghosts.tells ghosts.files) where
  -- slots that were opened, led by the sections of workers, and closed
  life : (set : SetPlan) (term : ℕ) (slots : List (Slot D A)) (old new : List (SlotParts D A)) (workers : List (Worker K C (SharedPass D A) O)) (made : List (Made D A))
      → AllZip (WorkerDid ghosts entries count door source sink moment) made workers → (opened closed : ℕ → TurnedSlot D A)
      → ((k : ℕ) (d : Slot D A) → k < 64 → slot_in (opened k) ≡ slice_index_or slots k d)
      → ((k : ℕ) → k < 64 → All (λ worker. HadAllTurns k (closed k) (caller_of worker)) workers)
      → ((k : ℕ) → k < 64 → SlotLed ghosts entries count k (opened k) (closed k) (all_made made k))
      → ((k : ℕ) (d : SlotParts D A) → k < 64 → IsOpened entries count set k term (slice_index_or old k d) (slot_in (opened k)))
      → ((k : ℕ) → k < 64 → (numbers_of (slot_in (closed k))).index ≡ k)
      → ((k : ℕ) (d : SlotParts D A) → k < 64 → SlotIsShut (slot_in (closed k)) (slice_index_or new k d))
      → LifeServed ghosts entries count door source sink moment set term slots old new workers []
  life set term slots old new workers made did opened closed is_of all_had found at_first own at_last = record {
    made = made;
    did = did;
    made_beside = [];
    did_beside = _;
    opened = opened;
    opened_is = is_of;
    begins = at_first;
    closed = closed;
    ends = at_last;
    led = λ k inside.
        let all = found k inside in
        let l = all.in_order in
        record {
          in_order = record {
            ordered = l.ordered;
            same = IsPermutation-trans (flat_map (λ m. m k) made) (all_made made k) l.ordered (all_same made k) l.same;
            follow = l.follow;
          };
          are = all.are;
          counted = all.counted;
          went = all.went;
        };
    spent = λ k inside. All-map (HadAllTurns k (closed k)) caller_of workers (all_had k inside);
    ran = λ k inside d.
        law set term k _ (slice_index_or old k d) (slice_index_or new k d) (slot_in (opened k)) (slot_in (closed k)) (at_first k d inside) (found k inside).went
        (own k inside) (at_last k d inside).lanes (at_last k d inside).audit;
  }

module _ {D A : Type 0} (ghosts : Ghosts D) (entries : A → Option (List Entry)) (count : A → ℕ) where
  -- those that nobody led
  still_led : (k : ℕ) (turned : TurnedSlot D A) → SlotLed ghosts entries count k turned turned []
  still_led k turned = record {
    in_order = record { ordered = []; same = IsPermutation-refl []; follow = refl };
    are = All-nil (IsSection ghosts entries count k);
    counted = refl;
    went = same_went ghosts k (slot_seen entries count (slot_in turned)) (slot_seen entries count (slot_in turned)) refl;
  }

-- a lock that is closed has the history of its slot
closed_history : {D A : Type 0} (lock : TurnLock (TurnedSlot D A)) (place : Option (Pass (TurnedSlot D A))) (slot : Slot D A) → IsClosedAt lock place slot
    → IsHistory turns_in name_of (made_with lock) (record { slot = slot }) (seen_in place).turns
closed_history lock None slot closed = absurd closed
closed_history lock (Some pass) slot closed = closed.history

-- where its pass is spent, the slot had all its turns
closed_spent : {D A : Type 0} (lock : TurnLock (TurnedSlot D A)) (place : Option (Pass (TurnedSlot D A))) (slot : Slot D A) → IsClosedAt lock place slot
    → (seen_in place).spent ≡ true → last_ticket ≤ turns_in {D = D} {A = A} (record { slot = slot })
closed_spent lock None slot closed = absurd closed
closed_spent lock (Some pass) slot closed = closed.spent

-- what was handed back of a run that left a rig
pub record Left {D A : Type 0} (set : SetPlan) (parts : Option (PassParts D A)) (after : Rig D A) : Type 0 where
  pub handed : PassParts D A
  pub is : parts ≡ Some handed
  pub stop : PlainPass D A
  pub slots : slots_of stop ≡ handed.slots.items
  pub disks : disks_of stop ≡ handed.disks.items
  pub closed : StoreIsClosed set stop after

pub left : {D A : Type 0} (set : SetPlan) (parts : Option (PassParts D A)) (rig : Option (Rig D A)) (after : Rig D A) → IsHanded set parts rig → rig ≡ Some after
    → Left set parts after
left set None rig after is some = absurd (none-some after (sym is ∙ some))
left set (Some handed) rig after (stop, rig_after, slots, disks, is, closed) some = record {
  handed = handed;
  is = refl;
  stop = stop;
  slots = slots;
  disks = disks;
  closed = subst (λ r. StoreIsClosed set stop r) (same_Some rig_after after (sym is ∙ some)) closed;
}

-- a desk that was closed is apart
pub apart : {R G D A : Type 0} (desk : SharedDesk R D A G) (whole : SharedPass D A) (status end : ℕ) (parts : Option (PassParts D A)) (handed : PassParts D A)
    → IsDeskEnd desk whole status parts end → parts ≡ Some handed → IsApart desk whole handed
apart desk whole status end None handed is some = absurd (none-some handed some)
apart desk whole status end (Some parts) handed is some = subst (λ p. IsApart desk whole p) (same_Some parts handed some) is.0

-- a desk whose parts are all together is closed
closed_whole : {R G D A : Type 0} (desk : SharedDesk R D A G) (whole : SharedPass D A) (status end : ℕ) (parts : Option (PassParts D A))
    → HasAllParts (shared_holds whole) → IsDeskEnd desk whole status parts end → (handed : PassParts D A) × (parts ≡ Some handed)
closed_whole desk whole status end None all is = absurd (none_lacks (shared_holds whole) all is.0)
closed_whole desk whole status end (Some handed) all is = (handed, refl)

-- and its rig is handed back
rig_back : {D A : Type 0} (set : SetPlan) (parts : Option (PassParts D A)) (rig : Option (Rig D A)) (handed : PassParts D A) → parts ≡ Some handed
    → IsHanded set parts rig → (after : Rig D A) × (rig ≡ Some after)
rig_back set None rig handed some is = absurd (none-some handed some)
rig_back set (Some parts) rig handed some (stop, after, slots, disks, is, closed) = (after, is)

module _ (R G : Type 0) {D A O S T C Root : Type 0} (ghosts : Ghosts D) (root : D → Root) (entries : A → Option (List Entry)) (count : A → ℕ) (door : DoorGhosts O S T) (source : SourceGhosts S)
    (sink : SinkGhosts T) (have : AnswersHaveSections ghosts entries count) (trails : SharedAnswersHaveTrails ghosts entries count) (lead : SectionsLead ghosts entries count)
    (law : ClosedSlotRan entries count ghosts.tells ghosts.files) (moment : Option ℕ) (clock : C) where
  -- the passes with which workers began have no turns, and no call was made by their ways
  begun_none : {K : Type 0} (desk : K) (drives : List D) (test : ℕ → Bool) (posts dones : List (Worker K C (SharedPass D A) O)) → All (IsPost desk clock) posts
      → map begun_by dones ≡ picked test 0 (map begun_by posts) → All HasNone (map pass_by posts)
      → All (HasWays ghosts root entries count door source sink moment drives) posts
      → All (BeganWithNone ghosts root entries count door source sink moment have trails) dones
  begun_none desk drives test posts dones are same none ways =
      let Empty = λ (b : WorkBegan _ C (SharedPass D A) O). HasNone b.pass × AreUncalled ghosts (drives_of b.pass) in
      let each = all_of_map HasNone pass_by posts none in
      let at_posts : All (λ w. Empty w.began) posts = λ k d inside. subst Empty (sym (are k d inside))
      (each k d inside, none_called ghosts (drives_of (slice_index_or posts k d).pass) (ways k d inside).uncalled) in
      all_of_map Empty begun_by dones (subst (All Empty) (sym same) (picked_some Empty test 0 (map begun_by posts) (All-map Empty begun_by posts at_posts)))

  -- the turns of all passes once the doors are served, with what the workers did
  record DoorsDid {K : Type 0} (workers : List (Worker K C (SharedPass D A) O)) (whole : SharedPass D A) : Type 0 where
    worked : Worked ghosts entries count door source sink moment workers
    has : HasMade (all_made worked.made) whole
    spent : (k : ℕ) → k < 64 → All (λ (w : Worker K C (SharedPass D A) O). SpentAt k w.pass → SpentAt k whole) workers

  doors_did : {K : Type 0} (desk : K) (first whole : SharedPass D A) (doors doors_after : List O) (status starved faults faults_after : ℕ)
      (served : DoorsServed ghosts root entries count door source sink moment desk clock first whole doors doors_after status starved faults faults_after)
      → HasNone first → ∥ DoorsDid (workers_by served) whole ∥₁
  doors_did desk first whole doors doors_after status starved faults faults_after (inl w) none =
      let dealt = dealt_none first (reverse (map pass_by w.posts)) w.rest w.dealt none in
      let posts_none = All-permutation HasNone (reverse (map pass_by w.posts)) (map pass_by w.posts)
      (IsPermutation-sym (map pass_by w.posts) (reverse (map pass_by w.posts)) (IsPermutation-reverse (map pass_by w.posts))) dealt.1 in
      let lefts_none = All-map HasNone pass_by w.lefts (subst (All (λ l. HasNone l.pass)) (sym w.ran.lefts_are)
      (picked_some (λ l. HasNone l.pass) _ 0 w.posts (all_of_map HasNone pass_by w.posts posts_none))) in
      ∥∥₁_map (worked ghosts root entries count door source sink moment have trails w.dones w.ran.served
      (begun_none desk (drives_of first) w.ran.ran w.posts w.dones w.are_posts w.ran.dones_are posts_none w.ways))
      (λ x. record {
        worked = x;
        has = λ k inside. united_none w.mid (map pass_by w.lefts) whole w.united_too lefts_none k inside
            ∙ united_made w.rest x.made (map pass_by w.dones) w.mid x.has w.united dealt.0 k inside;
        spent = λ k inside i d low s. (united_spent k inside w.mid (map pass_by w.lefts) whole w.united_too).0
            (all_of_map (λ p. SpentAt k p → SpentAt k w.mid) pass_by w.dones (united_spent k inside w.rest (map pass_by w.dones) w.mid w.united).1 i d low s);
      })
  doors_did desk first whole doors doors_after status starved faults faults_after (inr n) none =
      let dealt = dealt_none first n.passes n.rest n.dealt none in
      ∣ record {
        worked = record { made = []; did = _; has = _; are = λ k inside. All-nil (IsSection ghosts entries count k) };
        has = λ k inside. united_none n.rest n.passes whole n.united dealt.1 k inside ∙ dealt.0 k inside;
        spent = λ k inside. All-nil (λ (w : Worker _ C (SharedPass D A) O). SpentAt k w.pass → SpentAt k whole);
      } ∣₁

  -- the slots of a desk as they were put behind its locks, and as they were closed
  module _ (set : SetPlan) (term : ℕ) (old new : List (SlotParts D A)) (slots : List (Slot D A)) (stop : List (Slot D A)) (olds : length old ≡ 64) (lasts : length stop ≡ 64)
      (at_first : (k : ℕ) (d : SlotParts D A) (e : Slot D A) → k < 64 → IsOpened entries count set k term (slice_index_or old k d) (slice_index_or slots k e))
      (at_last : (k : ℕ) (e : Slot D A) (d : SlotParts D A) → k < 64 → SlotIsShut (slice_index_or stop k e) (slice_index_or new k d)) where
    desk_life : (desk : SharedDesk R D A G) (parts handed : PassParts D A) (first whole : SharedPass D A)
        (workers : List (Worker (SharedDesk R D A G) C (SharedPass D A) O)) → IsMade parts desk first → parts.slots.items ≡ slots → IsApart desk whole handed
        → handed.slots.items ≡ stop → DoorsDid workers whole
        → LifeServed ghosts entries count door source sink moment set term slots old new workers []
    desk_life desk parts handed first whole workers made of_parts is_apart of_stop did =
        let n = desk.count in
        let locks = locks_of desk in
        let free = some_of locks 0 (omega (arith, n)) in
        let e = some_of stop 0 (omega (arith, lasts)) in
        let opened : ℕ → TurnedSlot D A = λ k. made_with (slice_index_or locks k free) in
        let closed : ℕ → TurnedSlot D A = λ k. record { slot = slice_index_or stop k e } in
        let worked = did.worked in
        let at_close : (k : ℕ) → k < 64 → IsClosedAt (slice_index_or locks k free) (pass_at whole k) (slice_index_or stop k e) =
        λ k inside. subst (λ l. IsClosedAt (slice_index_or locks k free) (pass_at whole k) (slice_index_or l k e)) of_stop (is_apart.closed.each k free e inside) in
        life ghosts entries count door source sink moment law set term slots old new workers worked.made worked.did opened closed
        (λ k d inside. sym (get_or-map made_slot locks k free d (omega (arith, n, inside))) ∙ ap (λ l. slice_index_or l k d) (made.slots ∙ of_parts))
        (λ k inside i d low s. closed_spent (slice_index_or locks k free) (pass_at whole k) (slice_index_or stop k e) (at_close k inside) (did.spent k inside i d low s))
        (λ k inside. lead k (opened k) (closed k) (all_made worked.made k)
        (subst (λ t. IsHistory turns_in name_of (opened k) (closed k) t) (did.has k inside)
        (closed_history (slice_index_or locks k free) (pass_at whole k) (slice_index_or stop k e) (at_close k inside))) (worked.are k inside))
        (λ k d inside. subst (λ s. IsOpened entries count set k term (slice_index_or old k d) s)
        (ap (λ l. slice_index_or l k (made_slot free)) (sym (made.slots ∙ of_parts)) ∙ get_or-map made_slot locks k free (made_slot free) (omega (arith, n, inside)))
        (at_first k d (made_slot free) inside))
        (λ k inside. subst (λ l. (numbers_of (slice_index_or l k e)).index ≡ k) of_stop (is_apart.index k e inside))
        (λ k d inside. at_last k e d inside)

    -- and those that nobody touched
    still_life : {K : Type 0} → slots ≡ stop → LifeServed ghosts entries count door source sink moment {K = K} {C = C} set term slots old new [] []
    still_life same =
        let e = some_of stop 0 (omega (arith, lasts)) in
        let turned : ℕ → TurnedSlot D A = λ k. record { slot = slice_index_or stop k e } in
        let at_open : (k : ℕ) (d : SlotParts D A) → k < 64 → IsOpened entries count set k term (slice_index_or old k d) (slice_index_or stop k e) =
        λ k d inside. subst (λ l. IsOpened entries count set k term (slice_index_or old k d) (slice_index_or l k e)) same (at_first k d e inside) in
        life ghosts entries count door source sink moment law set term slots old new [] [] _ turned turned
        (λ k d inside. get_or_default stop k e d (omega (arith, lasts, inside)) ∙ ap (λ l. slice_index_or l k d) (sym same))
        (λ k inside. All-nil (λ worker. HadAllTurns k (turned k) (caller_of worker)))
        (λ k inside. still_led ghosts entries count k (turned k)) at_open
        (λ k inside. ap (λ (n : SlotNumbers). n.index) (at_open k (some_of old 0 (omega (arith, olds))) inside).numbers)
        (λ k d inside. at_last k e d inside)

    -- whichever of both it was
    ended_life : (begun handed : PassParts D A) (doors : List O) (faults faults_after : ℕ) (end : StoreEnd D A O) → begun.slots.items ≡ slots
        → (served : IsStoreEnd R G ghosts root entries count door source sink moment clock begun doors faults faults_after end) → end.parts ≡ Some handed
        → handed.slots.items ≡ stop → ∥ LifeServed ghosts entries count door source sink moment set term slots old new (workers_in served) [] ∥₁
    ended_life begun handed doors faults faults_after end begun_is (inl x) is of_stop =
        let s = x.served in
        let n = s.desk.count in
        let free = some_of (locks_of s.desk) 0 (omega (arith, n)) in
        let none : HasNone s.first =
        λ k inside. first_none (slice_index_or (locks_of s.desk) k free) (pass_at s.first k) (s.made.each k free inside) in
        ∥∥₁_map (doors_did s.desk s.first s.whole doors end.doors.items s.status s.starved faults faults_after s.served none)
        (λ did. desk_life s.desk x.shared handed s.first s.whole (workers_by s.served) s.made (x.shares.slots ∙ begun_is)
        (apart s.desk s.whole s.status end.status end.parts handed s.closed is) of_stop did)
    ended_life begun handed doors faults faults_after end begun_is (inr x) is of_stop =
        ∣ still_life (sym begun_is ∙ (sym x.shares.slots ∙ (ap (λ (p : PassParts D A). p.slots.items) (same_Some x.after handed (sym x.parts_are ∙ is)) ∙ of_stop))) ∣₁

  life_left : (rig after : Rig D A) (doors : List O) (faults faults_after : ℕ) (ended : Ended D A (Vec O Global))
      (served : Served R G ghosts root entries count door source sink moment clock rig doors faults faults_after ended) → ended.rig ≡ Some after
      → ∥ LifeServed ghosts entries count door source sink moment (set_of served.opened) served.opens.opened.term (slots_of served.opened) rig.slots.items after.slots.items
      (workers_in served.served) [] ∥₁
  life_left rig after doors faults faults_after ended x some =
      let l = left rig.set x.end.parts ended.rig after x.closed some in
      let set = set_of x.opened in
      let term = x.opens.opened.term in
      let slots = slots_of x.opened in
      let stop = slots_of l.stop in
      let opens = x.opens.slots in
      let counted = opened_count entries count set term 0 x.parts.slots.items slots opens in
      let of_rig = ap length x.are.slots in
      let many = x.opened.count in
      let lasts = l.stop.count in
      let olds : length rig.slots.items ≡ 64 = omega (arith, counted, of_rig, many) in
      let at_first : (k : ℕ) (d : SlotParts D A) (e : Slot D A) → k < 64
      → IsOpened entries count set k term (slice_index_or rig.slots.items k d) (slice_index_or slots k e) =
      λ k d e inside.
      let same : 0 + k ≡ k = omega arith in
      subst (λ n. IsOpened entries count set n term (slice_index_or rig.slots.items k d) (slice_index_or slots k e)) same
      (opened_at entries count set term 0 rig.slots.items slots (subst (λ l. AreOpened entries count set term 0 l slots) x.are.slots opens) k d e
      (omega (arith, olds, inside))) in
      let at_last : (k : ℕ) (e : Slot D A) (d : SlotParts D A) → k < 64 → SlotIsShut (slice_index_or stop k e) (slice_index_or after.slots.items k d) =
      λ k e d inside. shut_at stop after.slots.items l.closed.slots k e d (omega (arith, lasts, inside)) in
      ended_life set term rig.slots.items after.slots.items slots stop olds lasts at_first at_last x.begun l.handed doors faults faults_after x.end x.slots_are x.served
      l.is (sym l.slots)

  -- the parts of a store that was served are handed back
  parts_back : (parts : PassParts D A) (doors : List O) (faults faults_after : ℕ) (end : StoreEnd D A O)
      → IsStoreEnd R G ghosts root entries count door source sink moment clock parts doors faults faults_after end
      → (handed : PassParts D A) × (end.parts ≡ Some handed)
  parts_back parts doors faults faults_after end (inl x) =
      let s = x.served in
      closed_whole s.desk s.whole s.status end.status end.parts
      (all_parts ghosts root entries count door source sink moment s.desk clock s.first s.whole doors end.doors.items s.status s.starved faults faults_after s.served s.made.parts_are)
      s.closed
  parts_back parts doors faults faults_after end (inr x) = (x.after, x.parts_are)

  pub serves_life : (rig : Rig D A) (doors : List O) (faults faults_after : ℕ) (ended : Ended D A (Vec O Global))
      (served : Served R G ghosts root entries count door source sink moment clock rig doors faults faults_after ended)
      → (after : Rig D A) × (ended.rig ≡ Some after)
      × ∥ LifeServed ghosts entries count door source sink moment (set_of served.opened) served.opens.opened.term (slots_of served.opened) rig.slots.items after.slots.items
      (workers_in served.served) [] ∥₁
  serves_life rig doors faults faults_after ended x =
      let parts = parts_back x.begun doors faults faults_after x.end x.served in
      let back = rig_back rig.set x.end.parts ended.rig parts.0 parts.1 x.closed in
      (back.0, back.1, life_left rig back.0 doors faults faults_after ended x back.1)
