-- A pass that is struck is a store that trouble befalls.
use Rattle.std.proofs.Common.{◌≡◌, ◌<◌, ◌∙◌, ℕ, Bool, List, Option, length, slice_index_or, ap, refl, sym, subst, subst₂, arith}
use Rattle.std.proofs.Math.Decide.{ℕ_discrete}
use Rattle.std.proofs.Math.Logic.{dite}
use Rattle.std.proofs.lemmas.List.{length-map}
use Rattle.audit_trail.specs.declared.entry.Entry.{Entry}
use Rattle.drive_base.specs.View.{AtEach, view, view_at, views}
use Rattle.drive_base.specs.declared.drive.Drive.{Ghosts}
use Rattle.drive_base.proofs.ViewLemmas.{length-views, view_at-views}
use Rattle.slot_core.specs.Opening.{Strikes}
use Rattle.slot_core.specs.Views.{lanes_of}
use Rattle.slot_core.specs.declared.slot.Slot.{Slot}
use Rattle.op_steps.specs.Store.{SlotSeen, slot_seen}
use Rattle.op_steps.specs.Troubles.{IsTroubled}
use Rattle.log_laws.specs.StoreTroubles.{SlotTroubled}
use Rattle.store_shared.specs.Passes.{disks_of, slots_of}
use Rattle.store_shared.specs.Striking.{StruckIsTroubled}
use Rattle.store_shared.proofs.OrderLemmas.{seen_at, some_of}

module _ {D T : Type 0} (ghosts : Ghosts D) (befalls : T → D → Bool → D → Type 0) (index : ℕ) (trouble : T) (old new : List D) (struck : Bool)
    (strikes : Strikes ghosts befalls index trouble old struck new) where
  -- of drives of which one was struck each is troubled, or as it was
  drive_troubled : (k : ℕ) (d : D) → IsTroubled (view ghosts (slice_index_or old k d)) (view ghosts (slice_index_or new k d))
  drive_troubled k d = dite (ℕ_discrete k index)
      (λ same. subst (λ m. IsTroubled (view ghosts (slice_index_or old m d)) (view ghosts (slice_index_or new m d))) (sym same)
      (record { tells = strikes.told d; kept = strikes.kept d; loose = strikes.loose d }))
      (λ other. subst (λ x. IsTroubled (view ghosts (slice_index_or old k d)) (view ghosts x)) (sym (strikes.others k d other))
      (record { tells = refl; kept = λ told. refl; loose = λ told. refl }))

  pub drives_troubled : AtEach (λ k. IsTroubled) (views ghosts old) (views ghosts new)
  drives_troubled = record {
    long = length-views ghosts new ∙ (strikes.counted ∙ sym (length-views ghosts old));
    each = λ k inside.
        let long = length-views ghosts old in
        let same = strikes.counted in
        let here : k < length old = omega (arith, long, inside) in
        let d = some_of old k here in
        subst₂ IsTroubled (sym (view_at-views ghosts old k d here)) (sym (view_at-views ghosts new k d (omega (arith, same, here)))) (drive_troubled k d);
  }

module _ {D A T : Type 0} (ghosts : Ghosts D) (entries : A → Option (List Entry)) (count : A → ℕ) (befalls : T → D → Bool → D → Type 0) where
  pub struck_is_troubled : StruckIsTroubled ghosts entries count befalls
  struck_is_troubled index given struck old new slots disks = record {
    count = length-map (slots_of new) (slot_seen entries count) ∙ (slots.count ∙ sym (length-map (slots_of old) (slot_seen entries count)));
    slots = λ k now there.
        let long = length-map (slots_of new) (slot_seen entries count) in
        let within = there.0 in
        let after : k < length (slots_of new) = omega (arith, long, within) in
        let same = slots.count in
        let before : k < length (slots_of old) = omega (arith, same, after) in
        let e = some_of (slots_of old) k before in
        let one = slots.each k e before in
        let was = slice_index_or (slots_of old) k e in
        let left = slice_index_or (slots_of new) k e in
        let seen = seen_at entries count (slots_of new) k e after in
        let found : slot_seen entries count left ≡ now = sym (seen.1 now) ∙ there.1 now in (
          slot_seen entries count was,
          seen_at entries count (slots_of old) k e before,
          subst (λ (s : SlotSeen D). SlotTroubled ghosts (slot_seen entries count was) s) found (record {
            numbers = one.numbers;
            holding = one.holding;
            entries = ap entries one.audit;
            faults = ap count one.audit;
            lanes = drives_troubled ghosts befalls index one.trouble (lanes_of was) (lanes_of left) one.struck one.strikes;
          }),
        );
    disks = drives_troubled ghosts befalls index disks.trouble (disks_of old) (disks_of new) struck disks.strikes;
  }
