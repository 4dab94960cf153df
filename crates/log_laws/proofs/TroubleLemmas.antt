-- Trouble between two steps leaves what lanes stand for, and the data of every slot.
use Rattle.std.proofs.Common.{◌≡◌, ◌∙◌, ◌<◌, ℕ, IsTrue, List, length, slice_index_or, refl, sym, ap, subst, subst₂, arith}
use Rattle.std.specs.Int.{IsBitSet}
use Rattle.drive_base.specs.Files.{LooseFile, Named}
use Rattle.drive_base.specs.declared.drive.Drive.{Ghosts}
use Rattle.drive_base.specs.declared.plan.SetPlan.{SetPlan}
use Rattle.drive_base.specs.View.{AtEach, view, views}
use Rattle.drive_base.proofs.ViewLemmas.{at_each_drive, at_each_long}
use Rattle.register_core.specs.Loose.{loose_name}
use Rattle.register_core.specs.OnLanes.{AreHonest}
use Rattle.register_core.specs.Records.{HasLane}
use Rattle.vote_core.specs.Lane.{lane_at}
use Rattle.slot_history.specs.Standing.{Records}
use Rattle.slot_history.specs.State.{State}
use Rattle.slot_data.specs.Holding.{Holding}
use Rattle.slot_core.specs.Standing.{LanesHave, SlotStands}
use Rattle.slot_core.specs.Views.{SlotNumbers}
use Rattle.op_steps.specs.Claims.{DataHolds}
use Rattle.op_steps.specs.Store.{LanesStand, SlotSeen}
use Rattle.op_steps.specs.Troubles.{DisksTroubled, IsTroubled}
use Rattle.log_laws.specs.StoreTroubles.{SlotTroubled, TroubleKeepsData}
use Rattle.op_steps.proofs.DataLemmas.{data_troubled}
use Rattle.op_steps.proofs.SlotLemmas.{order_set}

module _ {D : Type 0} (ghosts : Ghosts D) where
  -- lanes that trouble befell have the records that they had, where their damage is honest
  have_troubled : (numbers : SlotNumbers) (old new : List D) (records : Records) → AtEach (λ k. IsTroubled) (views ghosts old) (views ghosts new)
      → ((name : List ℕ) → AreHonest ghosts.files numbers.set.out name new)
      → LanesHave ghosts.tells ghosts.files numbers old records → LanesHave ghosts.tells ghosts.files numbers new records
  have_troubled numbers old new records troubled honest have = record {
    tell = λ k d within used. subst IsTrue (sym (one k d within).tells) (told k d within used);
    unused = λ k d later within used above small. ap (λ (loose : Named LooseFile). loose (loose_name numbers.term later))
        ((one k d within).loose (told k d within used)) ∙ have.unused k d later (low k within) used above small;
    unused_later = λ term after fits k d later within used above small. ap (λ (loose : Named LooseFile). loose (loose_name term later))
        ((one k d within).loose (told k d within used)) ∙ have.unused_later term after fits k d later (low k within) used above small;
    honest = honest;
    are = λ name. record {
      counted = (have.are name).counted ∙ sym long;
      each = λ k d within used. subst (λ (kept : Named (List ℕ)). HasLane (kept name) (lane_at (records name) k))
          (sym ((one k d within).kept (told k d within used))) ((have.are name).each k d (low k within) used);
    };
  }
    where
      long : length new ≡ length old
      long = at_each_long ghosts (λ k. IsTroubled) old new troubled

      low : (k : ℕ) → k < length new → k < length old
      low k within = let same = long in omega (arith, same, within)

      one : (k : ℕ) (d : D) → k < length new → IsTroubled (view ghosts (slice_index_or old k d)) (view ghosts (slice_index_or new k d))
      one k d within = at_each_drive ghosts (λ k. IsTroubled) old new troubled k d (low k within)

      told : (k : ℕ) (d : D) → k < length new → (IsBitSet numbers.set.out k → ⊥) → IsTrue (ghosts.tells (slice_index_or old k d))
      told k d within used = have.tell k d (low k within) used

  -- and they stand for what they stood for
  stand_troubled : (was now : SlotSeen D) (records : Records) (state : State) → SlotTroubled ghosts was now
      → ((name : List ℕ) → AreHonest ghosts.files was.numbers.set.out name now.lanes) → LanesStand ghosts.tells ghosts.files was records state → LanesStand ghosts.tells ghosts.files now records state
  stand_troubled was now records state troubled honest x =
      subst₂ (λ (n : SlotNumbers) (h : Holding). SlotStands ghosts.tells ghosts.files n h.flights now.lanes records state)
      (sym troubled.numbers) (sym troubled.holding)
      (record { have = have_troubled was.numbers was.lanes now.lanes records troubled.lanes honest x.have; stands = x.stands })

  pub trouble_keeps : TroubleKeepsData ghosts
  trouble_keeps set slots disks slots_after disks_after unseen claims at order troubled honest holds k now is =
      let befell = troubled.slots k now is in
      let was = befell.0 in
      let x = holds k was befell.1 in
      record {
        stands = stand_troubled was now (at k).records (at k).state befell.2
            (λ name. subst (λ (n : SlotNumbers). AreHonest ghosts.files n.set.out name now.lanes) befell.2.numbers (honest.lanes k now is name)) x.stands;
        holds = subst₂ (λ (n : SlotNumbers) (h : Holding). DataHolds n h unseen disks_after claims (at k).records (at k).state)
            (sym befell.2.numbers) (sym befell.2.holding)
            (data_troubled was.numbers was.holding unseen disks disks_after claims claims (at k).records (at k).state
            (subst (λ (s : SetPlan). DisksTroubled s disks disks_after) (sym (order_set set slots disks k was order befell.1))
            (record { each = troubled.disks; honest = honest.manifests })) refl x.holds);
      }
