-- A store that was opened over lanes and data drives which hold, holds.
use Rattle.std.proofs.Common.{◌≡◌, ◌<◌, ◌≤◌, ◌+◌, ◌^◌, ◌∙◌, ◌==◌, ℕ, zero, suc, Bool, true, false, cond, None, List, [], ◌∷◌, Option, bit_and, length, slice_index_or, inl, inr, refl, sym, ap, subst, subst₂, arith}
use Rattle.std.specs.Int.{IsBitSet}
use Rattle.std.proofs.lemmas.Bool.{eqb-true}
use Rattle.std.proofs.lemmas.List.FromFn.{get_or-map-range_with_len}
use Rattle.audit_trail.specs.declared.entry.Entry.{Entry}
use Rattle.drive_base.specs.Files.{Named}
use Rattle.drive_base.specs.View.{DriveView, view_at, views}
use Rattle.drive_base.specs.declared.drive.Drive.{Ghosts}
use Rattle.drive_base.specs.declared.plan.SetPlan.{SetPlan}
use Rattle.put_stage.specs.Cells.{data_of}
use Rattle.put_stage.specs.Work.{HasNoneLoose}
use Rattle.stamp_id.specs.declared.version.VersionId.{VersionId}
use Rattle.body_print.specs.Names.{loose_manifest_name, loose_shard_name, manifest_name, shard_name}
use Rattle.slot_history.proofs.TakenLemmas.{none_there}
use Rattle.slot_data.specs.Disks.{Disks, kept_on}
use Rattle.slot_data.specs.Holding.{Holding, no_holding}
use Rattle.slot_data.specs.Laws.{NumbersAreDrawn, OutMayChange}
use Rattle.slot_core.specs.Life.{IsAsBefore, LifeGoesOn}
use Rattle.slot_core.specs.Opening.{IsOpened, OpenedSlotStands, opened_numbers}
use Rattle.slot_core.specs.Views.{SlotNumbers, last_of}
use Rattle.slot_core.specs.declared.slot.Slot.{Slot}
use Rattle.slot_core.specs.declared.slot.SlotParts.{SlotParts}
use Rattle.op_steps.specs.Claims.{HasHonestManifests, HoldsAt, counted_on, disks_of as counted}
use Rattle.op_steps.specs.Holding.{SlotHolds}
use Rattle.op_steps.specs.Leading.{Standing}
use Rattle.op_steps.specs.Steps.{IsSlotAt}
use Rattle.op_steps.specs.Store.{LanesStand, SlotSeen, slot_seen, slots_seen}
use Rattle.term_gate.specs.Terms.{EachHonest, EachTells, IsFresh, IsKept}
use Rattle.term_gate.specs.declared.opening.Opened.{Opened}
use Rattle.store_shared.specs.Holders.{AreLost, ArePartsAt, DrivesRest, IsLastUsed, OpenedStoreHolds, SlotRests, spent_numbers}
use Rattle.store_shared.specs.Opening.{AreOpened, with_out}
use Rattle.store_shared.specs.Passes.{disks_of, slots_of}
use Rattle.store_shared.proofs.HolderDataLemmas.{KeepSameData, data_goes_on}
use Rattle.store_shared.proofs.HolderFileLemmas.{EachSparesOthers, each_honest, each_tells, manifests_on, opened_spares_others}
use Rattle.store_shared.proofs.HolderOutLemmas.{lost_are_out, out_are_lost}
use Rattle.store_shared.proofs.TermLemmas.{TermFits, term_fits}

-- ---- one slot of those that were opened

module _ {D A : Type 0} (entries : A → Option (List Entry)) (count : A → ℕ) (set : SetPlan) (term : ℕ) where
  -- the slot of an index is open over the lanes and the audit of that index
  record OpenedAt (index k : ℕ) (all : List (SlotParts D A)) (was : SlotSeen D) : Type 0 where
    parts : SlotParts D A
    slot : Slot D A
    there : ArePartsAt all k parts
    is : was ≡ slot_seen entries count slot
    opened : IsOpened entries count set (index + k) term parts slot

  opened_at : (index : ℕ) (all : List (SlotParts D A)) (slots : List (Slot D A)) → AreOpened entries count set term index all slots
      → (k : ℕ) (was : SlotSeen D) → IsSlotAt (slots_seen entries count slots) k was → OpenedAt index k all was
  opened_at index [] slots none k was at = absurd (
      let long : length (slots_seen entries count slots) ≡ 0 = ap (λ (l : List (Slot D A)). length (slots_seen entries count l)) none in
      let inside = at.0 in omega (arith, long, inside))
  opened_at index (parts ∷ more) slots (slot, rest, is, opened, others) zero was at = record {
    parts = parts;
    slot = slot;
    there = (omega arith, λ d. refl);
    is = sym (at.1 was) ∙ ap (λ (l : List (Slot D A)). slice_index_or (slots_seen entries count l) 0 was) is;
    opened = (let same : index ≡ index + 0 = omega arith in subst (λ (n : ℕ). IsOpened entries count set n term parts slot) same opened);
  }
  opened_at index (parts ∷ more) slots (slot, rest, is, opened, others) (suc k) was at =
      let seen : slots_seen entries count slots ≡ slot_seen entries count slot ∷ slots_seen entries count rest =
      ap (λ (l : List (Slot D A)). slots_seen entries count l) is in
      let long : length (slots_seen entries count slots) ≡ suc (length (slots_seen entries count rest)) = ap (λ (l : List (SlotSeen D)). length l) seen in
      let inside = at.0 in
      let later : IsSlotAt (slots_seen entries count rest) k was = (
        omega (arith, long, inside),
        λ d. ap (λ (l : List (SlotSeen D)). slice_index_or l (suc k) d) (sym seen) ∙ at.1 d,
      ) in
      let found = opened_at (index + 1) more rest others k was later in
      let within = found.there.0 in
      let same : index + 1 + k ≡ index + suc k = omega arith in
      record {
        parts = found.parts;
        slot = found.slot;
        there = (omega (arith, within), λ d. found.there.1 d);
        is = found.is;
        opened = subst (λ (n : ℕ). IsOpened entries count set n term found.parts found.slot) same found.opened;
      }

-- ---- what counts of the drives

-- a choice is the same where it chooses the same
same_choice : {T : Type 0} (b : Bool) (x other y z : T) → (b ≡ true → x ≡ y) → (b ≡ false → other ≡ z) → cond b x other ≡ cond b y z
same_choice true x other y z first second = first refl
same_choice false x other y z first second = second refl

-- the files that count of one drive
pub on_drive : (unseen : Disks) (out : ℕ) (disks : List DriveView) (k : ℕ) → k < length disks → kept_on (counted unseen out disks) k ≡ counted_on unseen out disks k
on_drive unseen out disks k inside = get_or-map-range_with_len (counted_on unseen out disks) 0 (length disks) k k (λ _. None) inside (omega arith)

-- where each drive that isn't chosen counts with what it keeps, it does so among those of others
kept_in_use : (unseen : Disks) (lost out : ℕ) (disks : List DriveView) (k : ℕ) → k < length disks → (IsBitSet lost k → IsBitSet out k)
    → kept_on (counted (counted unseen lost disks) out disks) k ≡ counted_on unseen lost disks k
kept_in_use unseen lost out disks k inside more =
    on_drive (counted unseen lost disks) out disks k inside
    ∙ (let inner = on_drive unseen lost disks k inside in by_bits (bit_and out (2 ^ k) == 0) (bit_and lost (2 ^ k) == 0) refl refl inner)
  where
    by_bits : (b c : Bool) → (bit_and out (2 ^ k) == 0) ≡ b → (bit_and lost (2 ^ k) == 0) ≡ c
        → kept_on (counted unseen lost disks) k ≡ cond c (view_at disks k).files.kept (kept_on unseen k)
        → cond b (view_at disks k).files.kept (kept_on (counted unseen lost disks) k) ≡ cond c (view_at disks k).files.kept (kept_on unseen k)
    by_bits true true out_is lost_is inner = refl
    by_bits true false out_is lost_is inner = absurd (
        let bit : IsBitSet lost k = λ zero. (let same : (bit_and lost (2 ^ k) == 0) ≡ true = ap (λ (n : ℕ). n == 0) zero in
        (let apart : true ≡ false = sym same ∙ lost_is in cc)) in
        more bit (eqb-true (bit_and out (2 ^ k)) 0 out_is))
    by_bits false c out_is lost_is inner = inner

-- so an opening leaves what counts under the names of data
keep_same : (set : SetPlan) (unseen : Disks) (lost out : ℕ) (old new : List DriveView) → length old ≡ set.drives → EachSparesOthers old new
    → ((k : ℕ) → IsBitSet lost k → IsBitSet out k)
    → KeepSameData set (counted unseen lost old) (counted (counted unseen lost new) out new)
keep_same set unseen lost out old new long keep more =
    let under : (k : ℕ) (name : List ℕ) → k < set.drives → (view_at new k).files.kept name ≡ (view_at old k).files.kept name
    → kept_on (counted (counted unseen lost new) out new) k name ≡ kept_on (counted unseen lost old) k name =
    λ k name within stays.
    (let same = keep.long in
    ap (λ (named : Named (List ℕ)). named name) (kept_in_use unseen lost out new k (omega (arith, same, long, within)) (more k))
    ∙ (by_bit k name (bit_and lost (2 ^ k) == 0) stays
    ∙ ap (λ (named : Named (List ℕ)). named name) (sym (on_drive unseen lost old k (omega (arith, long, within)))))) in
    record {
      manifest = λ k id within. under k (manifest_name id) within ((keep.each k (omega (arith, long, within))).kept (manifest_name id) refl);
      shard = λ k id within. under k (shard_name id) within ((keep.each k (omega (arith, long, within))).kept (shard_name id) refl);
    }
  where
    by_bit : (k : ℕ) (name : List ℕ) (b : Bool) → (view_at new k).files.kept name ≡ (view_at old k).files.kept name
        → cond b (view_at new k).files.kept (kept_on unseen k) name ≡ cond b (view_at old k).files.kept (kept_on unseen k) name
    by_bit k name true stays = stays
    by_bit k name false stays = refl

-- and what is loose under them
pub none_loose : (set : SetPlan) (old new : List DriveView) (k : ℕ) (id : VersionId) → length old ≡ set.drives → EachSparesOthers old new → k < set.drives
    → HasNoneLoose (data_of id (view_at old k).files) → HasNoneLoose (data_of id (view_at new k).files)
none_loose set old new k id long keep within none =
    let stays = (keep.each k (omega (arith, long, within))).loose in
    record {
      manifest = stays (loose_manifest_name id) (λ term j. refl) ∙ none.manifest;
      shard = stays (loose_shard_name id) (λ term j. refl) ∙ none.shard;
    }

-- ---- the drives after an opening

-- so many drives of a set keep a term, whichever are out
still_kept : (set : SetPlan) (out term : ℕ) (disks : List DriveView) → IsKept set term disks → IsKept (with_out set out) term disks
still_kept set out term disks kept = record { holders = kept.holders; enough = kept.enough; each = kept.each }

-- the term of a life is above that of each earlier one
above_last : (set : SetPlan) (used : ℕ) (opened : Opened) (old new : List DriveView) → IsLastUsed set used old → IsFresh set opened old new
    → TermFits opened.term → EachTells old → EachHonest old → used < opened.term
above_last set used opened old new (inl none) fresh fits tell honest = (let least = fits.least in omega (arith, none, least))
above_last set used opened old new (inr kept) fresh fits tell honest = fresh.above tell honest used kept

-- the drives go on to rest, with the new term
drives_rest : (set : SetPlan) (used : ℕ) (opened : Opened) (old new : List DriveView) → DrivesRest set used old → EachSparesOthers old new → IsFresh set opened old new
    → DrivesRest (with_out set opened.out) opened.term new
drives_rest set used opened old new rest keep fresh = record {
  count = keep.long ∙ rest.count;
  tell = each_tells old new rest.tell keep;
  honest = each_honest old new rest.honest keep;
  last = inr (still_kept set opened.out opened.term new (fresh.kept rest.tell));
}

-- ---- one slot

module _ {D A : Type 0} (ghosts : Ghosts D) (entries : A → Option (List Entry)) (count : A → ℕ) where
  module _ (goes : LifeGoesOn ghosts.tells ghosts.files) (stand : OpenedSlotStands entries count ghosts.tells ghosts.files)
      (out_may : OutMayChange) (drawn : NumbersAreDrawn) where
    module _ (set : SetPlan) (unseen : Disks) (lost out used term : ℕ) (old new : List DriveView) (more : (k : ℕ) → IsBitSet lost k → IsBitSet out k)
        (above : used < term) (small : term < 2 ^ 48) (long : length old ≡ set.drives) (tell : EachTells old)
        (honest : (k : ℕ) → k < set.drives → (IsBitSet lost k → ⊥) → HasHonestManifests (view_at old k).files) (keep : EachSparesOthers old new) where
      -- its data holds with nothing in hand
      data_holds : (k : ℕ) (lanes : List D) (at : Standing) (rests : SlotRests ghosts.tells ghosts.files (with_out set lost) k used unseen old lanes at)
          → HoldsAt (with_out set out) k (last_of (opened_numbers (with_out set out) k term)) no_holding (counted unseen lost new) new [] at.records at.state
      data_holds k lanes at rests =
          let low : last_of (spent_numbers (with_out set lost) k used) ≤ last_of (opened_numbers (with_out set out) k term) = omega (arith, above) in
          record {
            tell = record {
              count = keep.long ∙ long;
              tell = λ j within in_use. each_tells old new tell keep j (let same = keep.long in omega (arith, same, long, within)) tt;
              honest = λ j within in_use. manifests_on set lost old new long keep honest j within (λ bit. in_use (more j bit));
            };
            stands = data_goes_on out_may drawn (with_out set lost) (with_out set out) k (last_of (spent_numbers (with_out set lost) k used))
                (last_of (opened_numbers (with_out set out) k term)) at.records at.state (counted unseen lost old)
                (counted (counted unseen lost new) out new) refl refl low
                (keep_same (with_out set lost) unseen lost out old new long keep more) rests.held;
            loose = λ j id within in_use of higher. none_loose set old new j id long keep within
                (rests.loose j id within (λ bit. in_use (more j bit)) of (omega (arith, low, higher)));
            met = λ c there. absurd (none_there c there);
            apart = record { flights = tt; pins = tt };
            flights_are = λ f there. absurd (none_there f there);
            pins_are = λ p there. absurd (none_there p there);
          }

      -- its lanes stand for their state
      lanes_stand : (k : ℕ) (parts : SlotParts D A) (slot : Slot D A) (at : Standing) → IsOpened entries count (with_out set out) k term parts slot
          → SlotRests ghosts.tells ghosts.files (with_out set lost) k used unseen old parts.lanes.items at
          → LanesStand ghosts.tells ghosts.files (slot_seen entries count slot) at.records at.state
      lanes_stand k parts slot at opened rests =
          let as_before : IsAsBefore (with_out set lost) (with_out set out) = record { drives = refl; parity = refl; out = more } in
          let may = goes (spent_numbers (with_out set lost) k used) [] parts.lanes.items at.records at.state (with_out set out) term rests.stands
          (omega arith) as_before above small in
          stand (with_out set out) k term parts slot at.records at.state opened may.0 may.1

      -- with which its data holds
      slot_holds : (k : ℕ) (parts : SlotParts D A) (slot : Slot D A) (at : Standing) → IsOpened entries count (with_out set out) k term parts slot
          → SlotRests ghosts.tells ghosts.files (with_out set lost) k used unseen old parts.lanes.items at
          → SlotHolds ghosts.tells ghosts.files (counted unseen lost new) new [] at (slot_seen entries count slot)
      slot_holds k parts slot at opened rests = record {
        stands = lanes_stand k parts slot at opened rests;
        holds = subst₂ (λ (n : SlotNumbers) (h : Holding). HoldsAt n.set n.index (last_of n) h (counted unseen lost new) new [] at.records at.state)
            (sym opened.numbers) (sym opened.holding) (data_holds k parts.lanes.items at rests);
      }

    pub opened_store_holds : OpenedStoreHolds ghosts entries count
    opened_store_holds set used lost unseen at parts pass x rig serve =
        let old = views ghosts parts.disks.items in
        let new = views ghosts (disks_of pass) in
        let out = x.opened.out in
        let fits = term_fits set x.opened old new x.taken.opens in
        let keep = opened_spares_others set x.opened old new x.taken.opens rig.disks.tell in
        let above = above_last set used x.opened old new rig.disks.last x.taken.fresh fits rig.disks.tell rig.disks.honest in
        let more = lost_are_out set used lost old new rig.disks.tell rig.disks.count rig.lost_are serve x.opened above x.taken.opens in
        let opened : AreOpened entries count (with_out set out) x.opened.term 0 parts.slots.items (slots_of pass) =
        subst (λ (s : SetPlan). AreOpened entries count s x.opened.term 0 parts.slots.items (slots_of pass)) x.set_is x.slots in
        record {
          rises = above;
          holds = λ k was there.
              let found = opened_at entries count (with_out set out) x.opened.term 0 parts.slots.items (slots_of pass) opened k was there in
              let same : 0 + k ≡ k = omega arith in
              let here = subst (λ (n : ℕ). IsOpened entries count (with_out set out) n x.opened.term found.parts found.slot) same found.opened in
              subst (λ (s : SlotSeen D). SlotHolds ghosts.tells ghosts.files (counted unseen lost new) new [] (at k) s) (sym found.is)
              (slot_holds set unseen lost out used x.opened.term old new more above fits.most rig.disks.count rig.disks.tell rig.manifests keep k found.parts found.slot (at k)
              here (rig.slots k found.parts found.there));
          disks = subst (λ (s : SetPlan). DrivesRest s x.opened.term new) (sym x.set_is) (drives_rest set used x.opened old new rig.disks keep x.taken.fresh);
          lost_are = subst (λ (s : SetPlan). AreLost s x.opened.term s.out new) (sym x.set_is)
              (out_are_lost set used lost old new rig.disks.tell rig.disks.count (with_out set out) x.opened refl fits.least x.taken.opens);
        }
