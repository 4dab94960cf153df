-- Lanes and data drives of a store that holds, hold when its life ends.
use Rattle.std.proofs.Common.{◌≡◌, ◌<◌, ◌≤◌, ◌^◌, ◌∙◌, ℕ, Bool, List, [], ◌∷◌, length, refl, sym, ap, subst, subst₂, arith}
use Rattle.std.specs.Int.{IsBitSet}
use Rattle.drive_base.specs.Files.{Files}
use Rattle.drive_base.specs.View.{DriveView, view_at}
use Rattle.drive_base.specs.declared.drive.Drive.{Ghosts}
use Rattle.drive_base.specs.declared.plan.SetPlan.{SetPlan}
use Rattle.slot_history.proofs.TakenLemmas.{none_there}
use Rattle.slot_history.specs.Laws.{DrawingStands, FlightsEnd}
use Rattle.slot_history.specs.Standing.{Flying, Records}
use Rattle.slot_history.specs.State.{State}
use Rattle.slot_data.specs.Disks.{Disks}
use Rattle.slot_data.specs.Holding.{no_hands, no_holding}
use Rattle.slot_data.specs.Laws.{LifeEnds, NumbersAreDrawn}
use Rattle.slot_core.specs.Standing.{SlotStands}
use Rattle.slot_core.specs.Views.{SlotNumbers, last_of, quorum_of}
use Rattle.op_steps.specs.Claims.{Claim, DisksTell, HasHonestManifests, claims_at, disks_of as counted, hands_of}
use Rattle.op_steps.specs.Leading.{Standing}
use Rattle.op_steps.specs.Holding.{SlotHolds, StoreHolds}
use Rattle.op_steps.specs.Steps.{IsSlotAt}
use Rattle.op_steps.specs.Store.{AreInOrder, SlotSeen}
use Rattle.store_shared.specs.Holders.{AreLost, ClosedStoreHolds, DrivesRest, SlotRests, spent_numbers}

module _ {D : Type 0} (tells : D → Bool) (files : D → Files) where
  -- lanes go on to stand for their state where nothing is under way, after all numbers of a life
  lanes_rest : DrawingStands → FlightsEnd → (n : SlotNumbers) (flights : List Flying) (lanes : List D) (records : Records) (state : State) (used : ℕ)
      → n.term ≤ used → n.seq < 2 ^ 64 → SlotStands tells files n flights lanes records state
      → SlotStands tells files (spent_numbers n.set n.index used) [] lanes records state
  lanes_rest drawing ends n flights lanes records state used low small s =
      let above : last_of n ≤ last_of (spent_numbers n.set n.index used) = omega (arith, low, small) in
      record {
        have = record {
          tell = s.have.tell;
          unused = λ k d later inside in_use from fits. absurd (omega (arith, from, fits));
          unused_later = λ term more fits. s.have.unused_later term (omega (arith, low, more)) fits;
          honest = s.have.honest;
          are = s.have.are;
        };
        stands = drawing (quorum_of n) n.set.drives (last_of n) (last_of (spent_numbers n.set n.index used)) [] records state above
            (ends (quorum_of n) n.set.drives (last_of n) flights [] records state (λ f there. absurd (none_there f there)) s.stands);
      }

  -- so a slot rests of which the data holds
  slot_rests : DrawingStands → FlightsEnd → LifeEnds → NumbersAreDrawn → (unseen : Disks) (disks : List DriveView) (claims : List Claim) (at : Standing)
      (was : SlotSeen D) (used : ℕ) → was.numbers.term ≤ used → was.numbers.seq < 2 ^ 64
      → SlotHolds tells files unseen disks claims at was → SlotRests tells files was.numbers.set was.numbers.index used unseen disks was.lanes at
  slot_rests drawing ends life_ends drawn unseen disks claims at was used low small x =
      let n = was.numbers in
      let above : last_of n ≤ last_of (spent_numbers n.set n.index used) = omega (arith, low, small) in
      record {
        stands = lanes_rest drawing ends n was.holding.flights was.lanes at.records at.state used low small x.stands;
        held = drawn n.set n.index (last_of n) (last_of (spent_numbers n.set n.index used)) at.records at.state no_holding (counted unseen n.set.out disks) no_hands
            above
            (life_ends n.set n.index (last_of n) at.records at.state was.holding (counted unseen n.set.out disks) (hands_of (claims_at n.index claims)) x.holds.stands);
        loose = λ k id within in_use of higher. x.holds.loose k id within in_use of (omega (arith, above, higher));
      }

-- the first slot of some
record HasFirst {D : Type 0} (slots : List (SlotSeen D)) : Type 0 where
  was : SlotSeen D
  at : IsSlotAt slots 0 was

first_of : {D : Type 0} (slots : List (SlotSeen D)) → 0 < length slots → HasFirst slots
first_of [] some = absurd (omega (arith, some))
first_of (slot ∷ more) some = record { was = slot; at = (some, λ d. refl) }

module _ {D : Type 0} (ghosts : Ghosts D) where
  -- damage of the manifests of a store that holds is honest, as its first slot has it
  honest_manifests : (set : SetPlan) (unseen : Disks) (slots : List (SlotSeen D)) (disks : List DriveView) (claims : List Claim) (at : ℕ → Standing)
      → AreInOrder set slots disks → StoreHolds ghosts.tells ghosts.files unseen slots disks claims at
      → (k : ℕ) → k < set.drives → (IsBitSet set.out k → ⊥) → HasHonestManifests (view_at disks k).files
  honest_manifests set unseen slots disks claims at in_order holds =
      let first = first_of slots (let count = in_order.count in omega (arith, count)) in
      let was = first.was in
      let set_is : was.numbers.set ≡ set = ap (λ (s : SlotSeen D). s.numbers.set) (sym (first.at.1 was)) ∙ in_order.set_is 0 was first.at.0 in
      let tell : DisksTell set disks = subst (λ (s : SetPlan). DisksTell s disks) set_is (holds 0 was first.at).holds.tell in
      tell.honest

module _ {D : Type 0} (A : Type 0) (ghosts : Ghosts D) where
  pub closed_store_holds : DrawingStands → FlightsEnd → LifeEnds → NumbersAreDrawn → ClosedStoreHolds A ghosts
  closed_store_holds drawing ends life_ends drawn set used unseen slots disks claims at parts in_order rest lost holds apart = record {
    disks = subst (λ (l : List DriveView). DrivesRest set used l) (sym apart.disks_are) rest;
    lost_are = subst (λ (l : List DriveView). AreLost set used set.out l) (sym apart.disks_are) lost;
    manifests = subst (λ (l : List DriveView). (k : ℕ) → k < set.drives → (IsBitSet set.out k → ⊥) → HasHonestManifests (view_at l k).files) (sym apart.disks_are)
        (honest_manifests ghosts set unseen slots disks claims at in_order holds);
    slots = λ k of there.
        let found = apart.lanes_are k of there in
        let was = found.0 in
        let set_is : was.numbers.set ≡ set = ap (λ (s : SlotSeen D). s.numbers.set) (sym (found.1.1 was)) ∙ in_order.set_is k was found.1.0 in
        let index_is : was.numbers.index ≡ k = ap (λ (s : SlotSeen D). s.numbers.index) (sym (found.1.1 was)) ∙ in_order.index k was found.1.0 in
        let rests = slot_rests ghosts.tells ghosts.files drawing ends life_ends drawn unseen disks claims (at k) was used
        (apart.low k was found.1) (apart.fits k was found.1) (holds k was found.1) in
        let here : SlotRests ghosts.tells ghosts.files set k used unseen disks was.lanes (at k) =
        subst₂ (λ (s : SetPlan) (i : ℕ). SlotRests ghosts.tells ghosts.files s i used unseen disks was.lanes (at k)) set_is index_is rests in
        subst₂ (λ (l : List DriveView) (lanes : List D). SlotRests ghosts.tells ghosts.files set k used unseen l lanes (at k)) (sym apart.disks_are) (sym found.2) here;
  }
