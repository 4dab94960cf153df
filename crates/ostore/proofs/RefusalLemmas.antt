-- A rig that was handed back when an opening over it was refused holds as before.
use Rattle.std.proofs.Common.{◌≡◌, ◌∙◌, ℕ, zero, suc, List, [], ◌∷◌, ◌++◌, Option, length, inl, inr, refl, sym, ap, subst, arith}
use Rattle.std.specs.Prelude.{Err, Ok}
use Rattle.audit_trail.specs.declared.entry.Entry.{Entry}
use Rattle.drive_base.proofs.ViewLemmas.{untouched_are_only_read}
use Rattle.drive_base.specs.View.{AllOnlyRead, DriveView, views}
use Rattle.drive_base.specs.declared.drive.Drive.{Ghosts}
use Rattle.drive_base.specs.declared.plan.SetPlan.{SetPlan}
use Rattle.slot_core.specs.declared.slot.SlotParts.{SlotParts}
use Rattle.term_gate.specs.declared.refusal.OpenRefusal.{OpenRefusal}
use Rattle.term_gate.specs.declared.refusal.OpenRefusal.TheVariants.{NoMemory}
use Rattle.store_shared.specs.Holders.{ArePartsAt, IsTried, RigHolds, TriedRigHolds}
use Rattle.store_shared.specs.declared.pass.StoreParts.{StoreParts}
use Rattle.ostore.specs.Lives.{RefusalsLeave}
use Rattle.ostore.specs.Opening.{AreLeft, SetIsRefused, SlotIsRefused}

module _ {D A : Type 0} where
  -- these lanes and audit have the lanes of some that stand there in another list
  abbrev HasLanesOf : List (SlotParts D A) → ℕ → SlotParts D A → Type 0
  HasLanesOf old k now = (was : SlotParts D A) × ArePartsAt old k was × (now.lanes.items ≡ was.lanes.items)

  -- so it is behind one more
  behind_one : (x : SlotParts D A) (old : List (SlotParts D A)) (k : ℕ) (now : SlotParts D A) → HasLanesOf old k now → HasLanesOf (x ∷ old) (suc k) now
  behind_one x old k now (was, (inside, is), lanes) = (was, (omega (arith, inside), λ d. is d), lanes)

  -- what stands behind the first
  rest_at : (x : SlotParts D A) (new : List (SlotParts D A)) (k : ℕ) (now : SlotParts D A) → ArePartsAt (x ∷ new) (suc k) now → ArePartsAt new k now
  rest_at x new k now (inside, is) = (omega (arith, inside), λ d. is d)

module _ {D A : Type 0} (ghosts : Ghosts D) (entries : A → Option (List Entry)) (count : A → ℕ) where
  -- slots that were opened and closed again keep their lanes
  left_lanes : (term : ℕ) (old new : List (SlotParts D A)) → AreLeft ghosts entries count term old new → (k : ℕ) (now : SlotParts D A) → ArePartsAt new k now
      → HasLanesOf old k now
  left_lanes term [] new none k now (inside, is) = absurd (let long : length new ≡ 0 = ap length none in omega (arith, inside, long))
  left_lanes term (was ∷ old) new (first, rest, is, left, others) zero now there =
      let here : ArePartsAt (first ∷ rest) 0 now = subst (λ (l : List (SlotParts D A)). ArePartsAt l 0 now) is there in
      (was, (omega arith, λ d. refl), ap (λ (p : SlotParts D A). p.lanes.items) (sym (here.1 now)) ∙ left.lanes)
  left_lanes term (was ∷ old) new (first, rest, is, left, others) (suc k) now there =
      let here : ArePartsAt (first ∷ rest) (suc k) now = subst (λ (l : List (SlotParts D A)). ArePartsAt l (suc k) now) is there in
      behind_one was old k now (left_lanes term old rest others k now (rest_at first rest k now here))

  -- so do the slots before them, and the one that was refused
  refused_lanes : (term : ℕ) (front : List (SlotParts D A)) (was now : SlotParts D A) (behind left : List (SlotParts D A)) → now.lanes.items ≡ was.lanes.items
      → AreLeft ghosts entries count term behind left → (k : ℕ) (p : SlotParts D A) → ArePartsAt (front ++ now ∷ left) k p
      → HasLanesOf (front ++ was ∷ behind) k p
  refused_lanes term [] was now behind left lanes others zero p there =
      (was, (omega arith, λ d. refl), ap (λ (q : SlotParts D A). q.lanes.items) (sym (there.1 p)) ∙ lanes)
  refused_lanes term [] was now behind left lanes others (suc k) p there =
      behind_one was behind k p (left_lanes term behind left others k p (rest_at now left k p there))
  refused_lanes term (x ∷ front) was now behind left lanes others zero p there =
      (x, (omega arith, λ d. refl), ap (λ (q : SlotParts D A). q.lanes.items) (sym (there.1 p)))
  refused_lanes term (x ∷ front) was now behind left lanes others (suc k) p there =
      behind_one x (front ++ was ∷ behind) k p (refused_lanes term front was now behind left lanes others k p (rest_at x (front ++ now ∷ left) k p there))

  -- an opening was tried of which a slot was refused, or the set
  slot_tried : (set : SetPlan) (why : OpenRefusal) (parts left : StoreParts D A) → SlotIsRefused ghosts entries count set why parts left → IsTried ghosts set parts left
  slot_tried set why parts left x = record {
    result = Ok x.opened;
    opens = x.taken.opens;
    lanes = λ k now there. subst (λ (l : List (SlotParts D A)). HasLanesOf l k now) (sym x.old_is)
        (refused_lanes x.opened.term x.front x.was x.now x.behind x.behind_left x.lanes x.others k now
        (subst (λ (l : List (SlotParts D A)). ArePartsAt l k now) x.new_is there));
  }

  set_tried : (set : SetPlan) (why : OpenRefusal) (parts left : StoreParts D A) → SetIsRefused ghosts entries count set why parts left → IsTried ghosts set parts left
  set_tried set why parts left x =
      let same_lanes : (k : ℕ) (now : SlotParts D A) → ArePartsAt left.slots.items k now → HasLanesOf parts.slots.items k now =
      λ k now there. (now, subst (λ (l : List (SlotParts D A)). ArePartsAt l k now) x.slots there, refl) in
      elim x.cause [
        | inl opens ↦ record { result = Err why; opens = opens; lanes = same_lanes }
        | inr lacks ↦ record {
          result = Err NoMemory;
          opens = inl (subst (λ (l : List DriveView). AllOnlyRead (views ghosts parts.disks.items) l) (sym lacks.1)
              (untouched_are_only_read (views ghosts parts.disks.items)));
          lanes = same_lanes;
        }
      ]

  pub refusals_leave : TriedRigHolds A ghosts → RefusalsLeave ghosts entries count
  refusals_leave tried rig after why refused used lost unseen at holds serve =
      let was_tried : IsTried ghosts rig.set refused.parts refused.left = elim refused.cause [
        | inl slot ↦ slot_tried rig.set why refused.parts refused.left slot
        | inr set ↦ set_tried rig.set why refused.parts refused.left set
      ] in
      record {
        parts = refused.left;
        are = refused.is;
        holds = subst (λ (s : SetPlan). RigHolds ghosts s used lost unseen at refused.left) (sym refused.set_is)
            (tried rig.set used lost unseen at refused.parts refused.left holds was_tried serve);
      }
