-- The data of a slot goes on to hold where data drives are only read, or trouble befalls them, and other claims change elsewhere.
use Rattle.std.proofs.Common.{◌≡◌, ◌≢◌, ◌<◌, ◌≤◌, ◌+◌, ◌*◌, ◌∙◌, ◌^◌, ◌==◌, ℕ, None, Some, Bool, true, false, IsTrue, List, Contains, bit_and, cond, ext_get_or, length, inl, inr, refl, sym, ap, ap₂, subst, subst₂, arith}
use Rattle.std.specs.Int.{IsBitSet}
use Rattle.std.proofs.lemmas.Bool.{eqb-true}
use Rattle.std.proofs.lemmas.Bool.Decides.{eqb_tells}
use Rattle.std.proofs.lemmas.List.FromFn.{get_or-map-range_with_len, length-map-range_with_len}
use Rattle.drive_base.specs.Calls.{MadeCall, WasMade}
use Rattle.drive_base.specs.Files.{Files, LooseFile, Named}
use Rattle.drive_base.specs.View.{AllOnlyRead, DriveView, view_at}
use Rattle.drive_base.specs.declared.plan.SetPlan.{SetPlan}
use Rattle.drive_base.specs.HonestDamage.{KeepsHonesty}
use Rattle.drive_base.proofs.HonestLemmas.{calls_keep_honesty}
use Rattle.stamp_id.specs.declared.version.VersionId.{VersionId}
use Rattle.body_print.specs.Names.{manifest_name}
use Rattle.put_stage.specs.Cells.{data_of}
use Rattle.put_stage.specs.Work.{HasNoneLoose}
use Rattle.slot_history.specs.Standing.{Records}
use Rattle.slot_history.specs.State.{State}
use Rattle.slot_data.specs.Disks.{Disks}
use Rattle.slot_data.specs.Holding.{Holding}
use Rattle.slot_data.specs.Standing.{DataStands}
use Rattle.slot_core.specs.Numbers.{NumbersMove}
use Rattle.slot_core.specs.Views.{SlotNumbers, last_of}
use Rattle.op_steps.specs.Claims.{AllApart, Claim, DataHolds, DisksTell, HasHonestManifests, IsExpected, IsMet, IsUnsealed, ShowsNoOther, claims_at, counted_on, disks_of, hands_of}
use Rattle.op_steps.specs.Troubles.{DisksTroubled, IsTroubled}

-- a change of files that keeps honesty shows no other bytes where none were shown
pub no_other_stays : (IsDamaged : List ℕ → Type 0) (name : List ℕ) (old new : Files) → KeepsHonesty name old new → ShowsNoOther IsDamaged name old
    → ShowsNoOther IsDamaged name new
no_other_stays IsDamaged name old new (inl same) honest bytes shown = inl (sym same ∙ shown)
no_other_stays IsDamaged name old new (inr stays) honest bytes shown = elim (honest bytes (sym stays.1 ∙ shown)) [
  | inl kept ↦ inl (stays.0 ∙ kept)
  | inr damaged ↦ inr damaged
]

-- over a call of one drive, and none of another, damage of the manifests of each drive in use stays honest
pub honest_called : (set : SetPlan) (k : ℕ) (made : MadeCall) (old new : List DriveView) → DisksTell set old → k < set.drives → (IsBitSet set.out k → ⊥)
    → WasMade made (view_at old k) (view_at new k) → ((other : ℕ) → other ≢ k → view_at new other ≡ view_at old other)
    → (j : ℕ) → j < set.drives → (IsBitSet set.out j → ⊥) → HasHonestManifests (view_at new j).files
honest_called set k made old new tells inside in_use was_made others j within used = elim (eqb_tells j k) [
  | inl here ↦ subst (λ i. HasHonestManifests (view_at new i).files) (sym here.1)
      (λ id. no_other_stays IsUnsealed (manifest_name id) (view_at old k).files (view_at new k).files
      (calls_keep_honesty (manifest_name id) made.call (view_at old k) (view_at new k) (tells.tell k inside in_use) was_made.model)
      (tells.honest k inside in_use id))
  | inr apart ↦ subst (λ (v : DriveView). HasHonestManifests v.files) (sym (others j apart.1)) (tells.honest j within used)
]

-- so all tell on
pub tell_called : (set : SetPlan) (k : ℕ) (made : MadeCall) (old new : List DriveView) → DisksTell set old → k < set.drives → (IsBitSet set.out k → ⊥)
    → WasMade made (view_at old k) (view_at new k) → length new ≡ length old → ((other : ℕ) → other ≢ k → view_at new other ≡ view_at old other)
    → DisksTell set new
tell_called set k made old new tells inside in_use was_made long others = record {
  count = long ∙ tells.count;
  tell = λ j within used. elim (eqb_tells j k) [
    | inl here ↦ subst (λ i. IsTrue (view_at new i).tells) (sym here.1) (subst IsTrue (sym was_made.model.tells) (tells.tell k inside in_use))
    | inr apart ↦ subst (λ (v : DriveView). IsTrue v.tells) (sym (others j apart.1)) (tells.tell j within used)
  ];
  honest = honest_called set k made old new tells inside in_use was_made others;
}

-- drives that were only read are as if trouble befell them that damaged nothing
read_is_trouble : (set : SetPlan) (old new : List DriveView) → DisksTell set old → AllOnlyRead old new → DisksTroubled set old new
read_is_trouble set old new tells read = record {
  each = record {
    long = read.long;
    each = λ k inside. record {
      tells = (read.each k inside).goes_on.tells;
      kept = λ told. ap (λ (files : Files). files.kept) ((read.each k inside).files told);
      loose = λ told. ap (λ (files : Files). files.loose) ((read.each k inside).files told);
    };
  };
  honest = λ k inside in_use. subst (λ (files : Files). HasHonestManifests files)
      (sym ((read.each k (let same = tells.count in omega (arith, same, inside))).files (tells.tell k inside in_use))) (tells.honest k inside in_use);
}

-- a drive that trouble befell
troubled_at : (set : SetPlan) (old new : List DriveView) (k : ℕ) → DisksTell set old → DisksTroubled set old new → k < set.drives
    → IsTroubled (view_at old k) (view_at new k)
troubled_at set old new k tells troubled inside = troubled.each.each k (let same = tells.count in omega (arith, same, inside))

-- one in use has the same cells after it
cells_stay : (set : SetPlan) (old new : List DriveView) (k : ℕ) (id : VersionId) → DisksTell set old → DisksTroubled set old new → k < set.drives
    → (IsBitSet set.out k → ⊥) → data_of id (view_at new k).files ≡ data_of id (view_at old k).files
cells_stay set old new k id tells troubled inside in_use =
    let one = troubled_at set old new k tells troubled inside in
    let told = tells.tell k inside in_use in
    ap₂ (λ (kept : Named (List ℕ)) (loose : Named LooseFile). data_of id (record { kept = kept; shown = kept; loose = loose })) (one.kept told) (one.loose told)

tell_stays : (set : SetPlan) (old new : List DriveView) → DisksTell set old → DisksTroubled set old new → DisksTell set new
tell_stays set old new tells troubled = record {
  count = troubled.each.long ∙ tells.count;
  tell = λ k inside in_use. subst IsTrue (sym (troubled_at set old new k tells troubled inside).tells) (tells.tell k inside in_use);
  honest = troubled.honest;
}

-- two choices by one test are the same where they are where it is true
same_choice : {A : Type 0} (b : Bool) (x y none : A) → (b ≡ true → x ≡ y) → cond b x none ≡ cond b y none
same_choice true x y none same = same refl
same_choice false x y none same = refl

same_counted : (unseen : Disks) (set : SetPlan) (old new : List DriveView) (k : ℕ) → DisksTell set old → DisksTroubled set old new → k < set.drives
    → counted_on unseen set.out old k ≡ counted_on unseen set.out new k
same_counted unseen set old new k tells troubled inside = same_choice (bit_and set.out (2 ^ k) == 0) _ _ _
    (λ free. sym ((troubled_at set old new k tells troubled inside).kept (tells.tell k inside (λ out. out (eqb-true (bit_and set.out (2 ^ k)) 0 free)))))

same_disks : (unseen : Disks) (set : SetPlan) (old new : List DriveView) → DisksTell set old → DisksTroubled set old new
    → disks_of unseen set.out old ≡ disks_of unseen set.out new
same_disks unseen set old new tells troubled =
    ext_get_or (λ _. None) (disks_of unseen set.out old) (disks_of unseen set.out new)
    (length-map-range_with_len (counted_on unseen set.out old) 0 (length old)
    ∙ (sym troubled.each.long ∙ sym (length-map-range_with_len (counted_on unseen set.out new) 0 (length new))))
    (λ i inside.
    let counted = length-map-range_with_len (counted_on unseen set.out old) 0 (length old) in
    let within : i < length old = omega (arith, counted, inside) in
    let same = troubled.each.long in
    get_or-map-range_with_len (counted_on unseen set.out old) 0 (length old) i i (λ _. None) within (omega arith)
    ∙ (same_counted unseen set old new i tells troubled (let count = tells.count in omega (arith, count, within))
    ∙ sym (get_or-map-range_with_len (counted_on unseen set.out new) 0 (length new) i i (λ _. None) (omega (arith, same, within)) (omega arith))))

met_stays : (set : SetPlan) (holding : Holding) (unseen : Disks) (old new : List DriveView) (claim : Claim) → DisksTell set old → DisksTroubled set old new
    → IsMet set holding unseen old claim → IsMet set holding unseen new claim
met_stays set holding unseen old new claim tells troubled x = record {
  flight = x.flight;
  pin = x.pin;
  staged = x.staged;
  works = λ s is k inside in_use. subst (IsExpected (s.expected k)) (sym (cells_stay set old new k s.id tells troubled inside in_use))
      (x.works s is k inside in_use);
  known = x.known;
  unwritten = x.unwritten;
}

-- trouble befalls data drives, and the claims of the slot stay
pub data_troubled : (numbers : SlotNumbers) (holding : Holding) (unseen : Disks) (old new : List DriveView) (claims later : List Claim) (records : Records)
    (state : State) → DisksTroubled numbers.set old new → claims_at numbers.index later ≡ claims_at numbers.index claims
    → DataHolds numbers holding unseen old claims records state → DataHolds numbers holding unseen new later records state
data_troubled numbers holding unseen old new claims later records state troubled same x = record {
  tell = tell_stays numbers.set old new x.tell troubled;
  stands = subst₂ (λ disks own. DataStands numbers.set numbers.index (last_of numbers) records state holding disks (hands_of own))
      (same_disks unseen numbers.set old new x.tell troubled) (sym same) x.stands;
  loose = λ k id inside in_use own above. subst HasNoneLoose (sym (cells_stay numbers.set old new k id x.tell troubled inside in_use))
      (x.loose k id inside in_use own above);
  met = λ c there. met_stays numbers.set holding unseen old new c x.tell troubled (x.met c (subst (λ own. Contains own c) same there));
  apart = subst AllApart (sym same) x.apart;
  flights_are = λ f there. subst (λ own. (c : Claim) × Contains own c × (c.flight ≡ Some f)) (sym same) (x.flights_are f there);
  pins_are = λ p there. subst (λ own. (c : Claim) × Contains own c × (c.pin ≡ Some p)) (sym same) (x.pins_are p there);
}

-- data drives are only read, and the claims of the slot stay
pub data_read : (numbers : SlotNumbers) (holding : Holding) (unseen : Disks) (old new : List DriveView) (claims later : List Claim) (records : Records)
    (state : State) → AllOnlyRead old new → claims_at numbers.index later ≡ claims_at numbers.index claims
    → DataHolds numbers holding unseen old claims records state → DataHolds numbers holding unseen new later records state
data_read numbers holding unseen old new claims later records state read same x =
    data_troubled numbers holding unseen old new claims later records state (read_is_trouble numbers.set old new x.tell read) same x

-- the last number that was drawn only rises
pub last_rises : (old new : SlotNumbers) → NumbersMove old new → last_of old ≤ last_of new
last_rises old new x =
    let seq = x.seq in
    subst (λ (term : ℕ). old.term * 2 ^ 64 + old.seq ≤ term * 2 ^ 64 + new.seq) (sym x.term) (omega (arith, seq))
