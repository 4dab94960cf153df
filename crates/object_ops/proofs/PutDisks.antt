-- What a call on the files of one id leaves on the data drives.
use Rattle.std.proofs.Common.{◌≡◌, ◌≢◌, ◌∙◌, ◌<◌, ◌^◌, ◌==◌, ℕ, false, IsTrue, bit_and, List, None, cond, drop, length, inl, inr, sym, ap, subst, arith}
use Rattle.std.specs.Int.{IsBitSet}
use Rattle.std.specs.Str.{bytes_eq}
use Rattle.std.proofs.lemmas.Bool.Decides.{eqb_tells}
use Rattle.std.proofs.lemmas.List.FromFn.{get_or-map-range_with_len}
use Rattle.stamp_id.specs.declared.version.VersionId.{VersionId}
use Rattle.drive_base.specs.Calls.{MadeCall, WasMade}
use Rattle.drive_base.specs.Files.{Files, Named}
use Rattle.drive_base.specs.View.{DriveView, view_at}
use Rattle.drive_base.specs.declared.plan.SetPlan.{SetPlan}
use Rattle.body_print.specs.Names.{loose_manifest_name, loose_shard_name, manifest_name, shard_name}
use Rattle.put_stage.specs.Cells.{IsNeither, Spares, data_of}
use Rattle.slot_history.proofs.MemberLemmas.{same_or_other}
use Rattle.slot_history.proofs.NameLemmas.{first_bytes, hex_texts_are_one}
use Rattle.slot_data.specs.DiskLaws.{IsElsewhere, OnlyUnder}
use Rattle.slot_data.specs.Disks.{Disks, kept_on}
use Rattle.op_steps.specs.Claims.{DisksTell, counted_on, disks_of}
use Rattle.op_steps.proofs.DataLemmas.{tell_called}

-- one drive in use was called; where it tells, it spares all names but the four of an id; no other drive was called
pub record WritesUnder (set : SetPlan) (id : VersionId) (k : ℕ) (old new : List DriveView) : Type 0 where
  pub inside : k < set.drives
  pub in_use : IsBitSet set.out k → ⊥
  pub made : MadeCall
  pub was_made : WasMade made (view_at old k) (view_at new k)
  pub spares : IsTrue (view_at old k).tells → Spares id (view_at old k).files (view_at new k).files
  pub long : length new ≡ length old
  pub others : (other : ℕ) → other ≢ k → view_at new other ≡ view_at old other

-- ---- names

differ : (a b : List ℕ) → a ≢ b → bytes_eq a b ≡ false
differ a b apart = elim (same_or_other a b) [
  | inl same ↦ absurd (apart same)
  | inr other ↦ other
]

-- the names of an id are none of those of another
pub other_manifest : (a b : VersionId) → b ≢ a → IsElsewhere a (manifest_name b)
other_manifest a b apart = (
  differ (manifest_name a) (manifest_name b) (λ same. apart (sym (hex_texts_are_one a b (ap (drop 2) same)))),
  differ (shard_name a) (manifest_name b) (first_bytes 115 109 _ _ (λ same. omega arith)),
)

pub other_shard : (a b : VersionId) → b ≢ a → IsElsewhere a (shard_name b)
other_shard a b apart = (
  differ (manifest_name a) (shard_name b) (first_bytes 109 115 _ _ (λ same. omega arith)),
  differ (shard_name a) (shard_name b) (λ same. apart (sym (hex_texts_are_one a b (ap (drop 2) same)))),
)

-- and so are the loose names
loose_manifest : (a b : VersionId) → b ≢ a → IsNeither (loose_manifest_name a) (loose_shard_name a) (loose_manifest_name b)
loose_manifest a b apart = (
  differ (loose_manifest_name a) (loose_manifest_name b) (λ same. apart (sym (hex_texts_are_one a b (ap (drop 1) same)))),
  differ (loose_shard_name a) (loose_manifest_name b) (first_bytes 115 109 _ _ (λ same. omega arith)),
)

loose_shard : (a b : VersionId) → b ≢ a → IsNeither (loose_manifest_name a) (loose_shard_name a) (loose_shard_name b)
loose_shard a b apart = (
  differ (loose_manifest_name a) (loose_shard_name b) (first_bytes 109 115 _ _ (λ same. omega arith)),
  differ (loose_shard_name a) (loose_shard_name b) (λ same. apart (sym (hex_texts_are_one a b (ap (drop 1) same)))),
)

-- under the names of another id all is as before
other_cells : (id other : VersionId) (old new : Files) → other ≢ id → Spares id old new → data_of other new ≡ data_of other old
other_cells id other old new apart x = λ i. record {
  manifest = x.kept (manifest_name other) (other_manifest id other apart) i;
  shard = x.kept (shard_name other) (other_shard id other apart) i;
  loose_manifest = x.loose (loose_manifest_name other) (loose_manifest id other apart) i;
  loose_shard = x.loose (loose_shard_name other) (loose_shard id other apart) i;
}

-- ---- the drives

-- what counts of a drive
pub counted : (unseen : Disks) (set : SetPlan) (disks : List DriveView) (k : ℕ) → k < length disks
    → kept_on (disks_of unseen set.out disks) k ≡ counted_on unseen set.out disks k
counted unseen set disks k inside = get_or-map-range_with_len (counted_on unseen set.out disks) 0 (length disks) k k (λ _. None) inside (omega arith)

pub in_use_counts : (unseen : Disks) (set : SetPlan) (disks : List DriveView) (k : ℕ) → (IsBitSet set.out k → ⊥)
    → counted_on unseen set.out disks k ≡ (view_at disks k).files.kept
in_use_counts unseen set disks k in_use = elim (eqb_tells (bit_and set.out (2 ^ k)) 0) [
  | inl free ↦ ap (λ b. cond b (view_at disks k).files.kept (kept_on unseen k)) free.0
  | inr out ↦ absurd (in_use out.1)
]

pub out_counts : (unseen : Disks) (set : SetPlan) (disks : List DriveView) (k : ℕ) → IsBitSet set.out k → counted_on unseen set.out disks k ≡ kept_on unseen k
out_counts unseen set disks k out = elim (eqb_tells (bit_and set.out (2 ^ k)) 0) [
  | inl free ↦ absurd (out free.1)
  | inr is ↦ ap (λ b. cond b (view_at disks k).files.kept (kept_on unseen k)) is.0
]

-- what is kept that counts on a drive that is in use, and on one that is out
pub kept_in_use : (unseen : Disks) (set : SetPlan) (disks : List DriveView) (k : ℕ) → DisksTell set disks → k < set.drives → (IsBitSet set.out k → ⊥)
    → kept_on (disks_of unseen set.out disks) k ≡ (view_at disks k).files.kept
kept_in_use unseen set disks k tell inside in_use =
    let count = tell.count in
    counted unseen set disks k (omega (arith, count, inside)) ∙ in_use_counts unseen set disks k in_use

pub kept_out : (unseen : Disks) (set : SetPlan) (disks : List DriveView) (k : ℕ) → DisksTell set disks → k < set.drives → IsBitSet set.out k
    → kept_on (disks_of unseen set.out disks) k ≡ kept_on unseen k
kept_out unseen set disks k tell inside out =
    let count = tell.count in
    counted unseen set disks k (omega (arith, count, inside)) ∙ out_counts unseen set disks k out

module _ (set : SetPlan) (unseen : Disks) (id : VersionId) (drive : ℕ) (old new : List DriveView) (tell : DisksTell set old) (writes : WritesUnder set id drive old new) where
  abbrev before : Disks
  before = disks_of unseen set.out old

  abbrev after : Disks
  after = disks_of unseen set.out new

  spared : Spares id (view_at old drive).files (view_at new drive).files
  spared = writes.spares (tell.tell drive writes.inside writes.in_use)

  -- the drives go on to tell
  pub tell_after : DisksTell set new
  tell_after = tell_called set drive writes.made old new tell writes.inside writes.in_use writes.was_made writes.long writes.others

  -- another drive keeps what it kept
  pub kept_beside : (k : ℕ) → k < set.drives → k ≢ drive → kept_on after k ≡ kept_on before k
  kept_beside k inside apart =
      let count = tell.count in
      let long = writes.long in
      counted unseen set new k (omega (arith, count, long, inside))
      ∙ (ap (λ (v : DriveView). cond (bit_and set.out (2 ^ k) == 0) v.files.kept (kept_on unseen k)) (writes.others k apart)
      ∙ sym (counted unseen set old k (omega (arith, count, inside))))

  pub kept_then : kept_on after drive ≡ (view_at new drive).files.kept
  kept_then = kept_in_use unseen set new drive tell_after writes.inside writes.in_use

  pub only_under : OnlyUnder set id before after
  only_under k name inside apart = elim (eqb_tells k drive) [
    | inl here ↦ subst (λ i. kept_on after i name ≡ kept_on before i name) (sym here.1)
        (ap (λ (n : Named (List ℕ)). n name) kept_then
        ∙ (spared.kept name apart ∙ ap (λ (n : Named (List ℕ)). n name) (sym (kept_in_use unseen set old drive tell writes.inside writes.in_use))))
    | inr other ↦ ap (λ (n : Named (List ℕ)). n name) (kept_beside k inside other.1)
  ]

  -- under the names of another id each drive in use has what it had
  pub cells_same : (other : VersionId) (k : ℕ) → k < set.drives → (IsBitSet set.out k → ⊥) → other ≢ id
      → data_of other (view_at new k).files ≡ data_of other (view_at old k).files
  cells_same other k inside in_use apart = elim (eqb_tells k drive) [
    | inl here ↦ subst (λ i. data_of other (view_at new i).files ≡ data_of other (view_at old i).files) (sym here.1)
        (other_cells id other (view_at old drive).files (view_at new drive).files apart spared)
    | inr beside ↦ ap (λ (v : DriveView). data_of other v.files) (writes.others k beside.1)
  ]
