-- The beginning of a shared desk, its passes cut in two and joined, and its end: lock by lock what a turn lock says.
use Rattle.std.specs.Prelude.{◌≡◌, ℕ, ◌+◌, ◌<◌, ◌≤◌, max, true, false, ◌||◌, List, [], ◌++◌, length, slice_index_or, Option, Some, None}
use Rattle.slot_core.specs.Views.{numbers_of}
use Rattle.slot_core.specs.declared.slot.Slot.{Slot}
use Rattle.turn_lock.specs.History.{IsHistory}
use Rattle.turn_lock.specs.Passes.{IsPassOf, is_spent, made_with, parts_of, seen_by, turns_of}
use Rattle.turn_lock.specs.declared.lock.TurnLock.{TurnLock}
use Rattle.turn_lock.specs.declared.pass.Pass.{Pass}
use Rattle.store_shared.specs.SharedPasses.{FitsDesk, PassHolds, SharedHolds, drives_of, locks_of, pass_at, passes_in, set_held, set_of_desk, shared_holds}
use Rattle.store_shared.specs.Turned.{made_slots, name_of, turns_in}
use Rattle.store_shared.specs.declared.pass.PassParts.{PassParts}
use Rattle.store_shared.specs.declared.shared.SharedDesk.{SharedDesk}
use Rattle.store_shared.specs.declared.shared.SharedPass.{SharedPass}
use Rattle.store_shared.specs.declared.shared.TurnedSlot.{TurnedSlot}
use Rattle.turn_lock.specs.declared.lock.TheConstants.{ALL_PARTS}
use Rattle.turn_lock.specs.Tickets.{last_ticket}

module _ {D A : Type 0} where
  -- how many parts a pass of a lock has
  abbrev pub parts_in : Option (PassHolds D A) → ℕ
  parts_in None = 0
  parts_in (Some holds) = holds.parts

  abbrev pub parts_at : SharedHolds D A → ℕ → ℕ
  parts_at held k = parts_in (slice_index_or held.passes k None)

  -- of each lock some part can go to another pass; and of each lock all parts are here
  abbrev pub MayBeSplit : SharedHolds D A → Type 0
  MayBeSplit held = (k : ℕ) → k < 64 → 1 < parts_at held k

  abbrev pub HasAllParts : SharedHolds D A → Type 0
  HasAllParts held = (k : ℕ) → k < 64 → parts_at held k ≡ ALL_PARTS

  -- of some lock some part is missing
  abbrev pub LacksSome : List (Option (PassHolds D A)) → Type 0
  LacksSome passes = (k : ℕ) × (k < length passes) × (parts_in (slice_index_or passes k None) < ALL_PARTS)

  abbrev pub LacksParts : SharedHolds D A → Type 0
  LacksParts held = (k : ℕ) × (k < 64) × (parts_at held k < ALL_PARTS)

  -- the pass of a new lock: it has all parts, has seen the turns of the lock's slot, and has made none
  pub record IsFirst (lock : TurnLock (TurnedSlot D A)) (pass : Pass (TurnedSlot D A)) : Type 0 where
    pub of_lock : IsPassOf lock pass
    pub parts : parts_of pass ≡ ALL_PARTS
    pub seen : seen_by pass ≡ turns_in (made_with lock)
    pub spent : is_spent pass ≡ false
    pub turns : turns_of pass ≡ []

  abbrev pub IsFirstAt : TurnLock (TurnedSlot D A) → Option (Pass (TurnedSlot D A)) → Type 0
  IsFirstAt lock None = ⊥
  IsFirstAt lock (Some pass) = IsFirst lock pass

  -- a pass is cut in two: the second one has one part and no turns, the first one the rest and all turns, and both have seen the same
  pub record IsCut (was one other : Pass (TurnedSlot D A)) : Type 0 where
    pub parts : parts_of one + 1 ≡ parts_of was
    pub part : parts_of other ≡ 1
    pub seen : seen_by one ≡ seen_by was
    pub seen_too : seen_by other ≡ seen_by was
    pub spent : is_spent one ≡ is_spent was
    pub spent_too : is_spent other ≡ is_spent was
    pub turns : turns_of one ≡ turns_of was
    pub no_turns : turns_of other ≡ []

  abbrev pub IsCutAt : Option (Pass (TurnedSlot D A)) → Option (Pass (TurnedSlot D A)) → Option (Pass (TurnedSlot D A)) → Type 0
  IsCutAt (Some was) (Some one) (Some other) = IsCut was one other
  IsCutAt was one other = ⊥

  -- two passes are joined: the one has the parts and the turns of both, has seen the later of what both had seen, and is spent where one of them was
  pub record IsJoined (one other now : Pass (TurnedSlot D A)) : Type 0 where
    pub parts : parts_of now ≡ parts_of one + parts_of other
    pub seen : seen_by now ≡ max (seen_by one) (seen_by other)
    pub spent : is_spent now ≡ is_spent one || is_spent other
    pub turns : turns_of now ≡ turns_of one ++ turns_of other

  abbrev pub IsJoinedAt : Option (Pass (TurnedSlot D A)) → Option (Pass (TurnedSlot D A)) → Option (Pass (TurnedSlot D A)) → Type 0
  IsJoinedAt (Some one) (Some other) (Some now) = IsJoined one other now
  IsJoinedAt one other now = ⊥

  -- a slot whose lock is closed: it has the name of the one that the lock was made with, and all turns that were made are those that led from that one to it.
  -- Where the pass is spent all tickets were used up
  pub record IsClosed (lock : TurnLock (TurnedSlot D A)) (pass : Pass (TurnedSlot D A)) (turned : TurnedSlot D A) : Type 0 where
    pub parts : parts_of pass ≡ ALL_PARTS
    pub name : name_of turned ≡ name_of (made_with lock)
    pub seen : seen_by pass ≤ turns_in turned
    pub spent : is_spent pass ≡ true → last_ticket ≤ turns_in turned
    pub history : IsHistory turns_in name_of (made_with lock) turned (turns_of pass)

  abbrev pub IsClosedAt : TurnLock (TurnedSlot D A) → Option (Pass (TurnedSlot D A)) → Slot D A → Type 0
  IsClosedAt lock None slot = ⊥
  IsClosedAt lock (Some pass) slot = IsClosed lock pass (record { slot = slot })

  -- so are the slots of a store, in order
  pub record AreClosed (locks : List (TurnLock (TurnedSlot D A))) (passes : List (Option (Pass (TurnedSlot D A)))) (slots : List (Slot D A)) : Type 0 where
    pub count : length slots ≡ 64
    pub each : (k : ℕ) (lock : TurnLock (TurnedSlot D A)) (d : Slot D A) → k < 64
        → IsClosedAt (slice_index_or locks k lock) (slice_index_or passes k None) (slice_index_or slots k d)

  -- a shared pass is cut in two, lock by lock, of which the second one has these ways to the data drives
  pub record IsSplit (pass one other : SharedPass D A) (disks : List D) : Type 0 where
    pub set : set_held (shared_holds one) ≡ set_held (shared_holds pass)
    pub set_too : set_held (shared_holds other) ≡ set_held (shared_holds pass)
    pub each : (k : ℕ) → k < 64 → IsCutAt (pass_at pass k) (pass_at one k) (pass_at other k)
    pub drives : drives_of one ≡ drives_of pass
    pub drives_too : drives_of other ≡ disks

  -- two are joined, lock by lock, and the ways of the second one to the data drives are given back
  pub record AreJoined (one other now : SharedPass D A) (disks : List D) : Type 0 where
    pub set : set_held (shared_holds now) ≡ set_held (shared_holds one)
    pub each : (k : ℕ) → k < 64 → IsJoinedAt (pass_at one k) (pass_at other k) (pass_at now k)
    pub drives : drives_of now ≡ drives_of one
    pub drives_too : disks ≡ drives_of other

-- parts that are handed back are what they were
pub record AreBack {D A : Type 0} (was back : PassParts D A) : Type 0 where
  pub set : back.set ≡ was.set
  pub slots : back.slots.items ≡ was.slots.items
  pub disks : back.disks.items ≡ was.disks.items

module _ {R D A G : Type 0} where
  -- a desk is made of slots, each behind its lock, and its first pass has all of it
  pub record IsMade (parts : PassParts D A) (desk : SharedDesk R D A G) (pass : SharedPass D A) : Type 0 where
    pub set : set_of_desk desk ≡ parts.set
    pub slots : made_slots (locks_of desk) ≡ parts.slots.items
    pub fits : FitsDesk desk (shared_holds pass)
    pub parts_are : HasAllParts (shared_holds pass)
    pub each : (k : ℕ) (lock : TurnLock (TurnedSlot D A)) → k < 64 → IsFirstAt (slice_index_or (locks_of desk) k lock) (pass_at pass k)
    pub drives : drives_of pass ≡ parts.disks.items

  -- a desk is taken apart by a pass that has all parts: each slot is that of its index, of the set, and as its lock gave it
  pub record IsApart (desk : SharedDesk R D A G) (pass : SharedPass D A) (parts : PassParts D A) : Type 0 where
    pub set : parts.set ≡ set_of_desk desk
    pub parts_are : HasAllParts (shared_holds pass)
    pub index : (k : ℕ) (d : Slot D A) → k < 64 → (numbers_of (slice_index_or parts.slots.items k d)).index ≡ k
    pub of_set : (k : ℕ) (d : Slot D A) → k < 64 → (numbers_of (slice_index_or parts.slots.items k d)).set ≡ parts.set
    pub closed : AreClosed (locks_of desk) (passes_in pass) parts.slots.items
    pub drives : parts.disks.items ≡ drives_of pass
