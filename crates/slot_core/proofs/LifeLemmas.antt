-- What the lanes of a slot stand for in its next life.
use Rattle.std.proofs.Common.{◌≡◌, ◌⊎◌, ℕ, suc, zero, ◌<◌, ◌≤◌, ◌^◌, Bool, List, [], refl, sym, subst, inl, inr, arith}
use Rattle.std.specs.Int.{IsBitSet}
use Rattle.std.specs.Prelude.{bit_and}
use Rattle.drive_base.specs.Files.{Files}
use Rattle.drive_base.specs.Plan.{write_drives}
use Rattle.drive_base.specs.declared.plan.SetPlan.{SetPlan}
use Rattle.slot_history.proofs.MemberLemmas.{nil_none}
use Rattle.slot_history.specs.Laws.{DrawingStands, FlightsEnd}
use Rattle.slot_history.specs.Standing.{Flying, Records, Stands}
use Rattle.slot_history.specs.State.{State}
use Rattle.slot_core.specs.Life.{LanesComeBack, LifeGoesOn}
use Rattle.slot_core.specs.Opening.{opened_numbers}
use Rattle.slot_core.specs.Views.{SlotNumbers, last_of, quorum_of}

-- what stands goes on to do so when what was under way is forgotten, under the first numbers of a later term
stands_later : DrawingStands → FlightsEnd → (old : SlotNumbers) (flights : List Flying) (records : Records) (state : State) (set : SetPlan) (term : ℕ)
    → set.drives ≡ old.set.drives → set.parity ≡ old.set.parity → old.seq < 2 ^ 64 → old.term < term
    → Stands (quorum_of old) old.set.drives (last_of old) flights records state
    → Stands (quorum_of (opened_numbers set old.index term)) set.drives (last_of (opened_numbers set old.index term)) [] records state
stands_later drawing ends old flights records state set term drives parity drawn above stands =
    let low : last_of old ≤ last_of (opened_numbers set old.index term) = omega arith in
    let later = drawing (quorum_of old) old.set.drives (last_of old) (last_of (opened_numbers set old.index term)) [] records state low
    (ends (quorum_of old) old.set.drives (last_of old) flights [] records state (λ f there. absurd (nil_none f there)) stands) in
    subst (λ (n : ℕ). Stands (write_drives n set.parity) n (last_of (opened_numbers set old.index term)) [] records state) (sym drives)
    (subst (λ (p : ℕ). Stands (write_drives old.set.drives p) old.set.drives (last_of (opened_numbers set old.index term)) [] records state) (sym parity) later)

-- a bit is set or not
set_or_not : (mask k : ℕ) → IsBitSet mask k ⊎ (IsBitSet mask k → ⊥)
set_or_not mask k = at (bit_and mask (2 ^ k)) refl
  where
    at : (b : ℕ) → bit_and mask (2 ^ k) ≡ b → IsBitSet mask k ⊎ (IsBitSet mask k → ⊥)
    at zero none = inr (λ is. is none)
    at (suc b) some = inl (λ none. omega (arith, some, none))

module _ {D : Type 0} (tells : D → Bool) (files : D → Files) where
  -- each lane in use was so, or has come back
  pub lanes_come_back : DrawingStands → FlightsEnd → LanesComeBack tells files
  lanes_come_back drawing ends old flights lanes records state set term s drawn drives parity back above small = (
    record {
      tell = λ k d within used. elim (set_or_not old.set.out k) [
        | inl was ↦ (back k d within was used).tells_it
        | inr not ↦ s.have.tell k d within not
      ];
      unused = λ k d later within used from fits. elim (set_or_not old.set.out k) [
        | inl was ↦ (back k d within was used).unused term later (omega arith) small fits
        | inr not ↦ s.have.unused_later term above small k d later within not from fits
      ];
      unused_later = λ after more less k d later within used from fits. elim (set_or_not old.set.out k) [
        | inl was ↦ (back k d within was used).unused after later (omega arith) less fits
        | inr not ↦ s.have.unused_later after (omega arith) less k d later within not from fits
      ];
      honest = λ name k d within used. elim (set_or_not old.set.out k) [
        | inl was ↦ (back k d within was used).honest name
        | inr not ↦ s.have.honest name k d within not
      ];
      are = λ name. record {
        counted = (s.have.are name).counted;
        each = λ k d within used. elim (set_or_not old.set.out k) [
          | inl was ↦ (back k d within was used).has name
          | inr not ↦ (s.have.are name).each k d within not
        ];
      };
    },
    stands_later drawing ends old flights records state set term drives parity drawn above s.stands,
  )

  -- where none has, each was so
  pub life_goes_on : DrawingStands → FlightsEnd → LifeGoesOn tells files
  life_goes_on drawing ends old flights lanes records state set term s drawn same above small =
      lanes_come_back drawing ends old flights lanes records state set term s drawn same.drives same.parity (λ k d within was used. absurd (used (same.out k was))) above small
