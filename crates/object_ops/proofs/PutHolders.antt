-- The data of a put whose stage ended well has its holders.
use Rattle.std.proofs.Common.{◌≡◌, ◌≢◌, ◌⊎◌, ◌∙◌, ◌<◌, ◌≤◌, ◌+◌, ◌^◌, ℕ, zero, suc, Bool, true, false, bit_and, cond, nat_lt, List, [], ◌∷◌, Contains, Some, None, length, slice_index_or, inl, inr, refl, sym, ap, subst, subst₂, arith}
use Rattle.std.specs.Prelude.{Ok, count_by}
use Rattle.std.specs.Int.{IsBitSet}
use Rattle.std.specs.List.{range_with_len}
use Rattle.std.proofs.lemmas.Bool.Decides.{eqb_tells, nat_tests}
use Rattle.std.proofs.lemmas.List.{get_or_default}
use Rattle.std.proofs.lemmas.List.Sums.{sum_by-cons}
use Rattle.call_types.specs.Good.{good_count, is_good}
use Rattle.call_types.specs.declared.why.FileKind.TheVariants.{Format}
use Rattle.call_types.specs.declared.why.Why.{Why}
use Rattle.call_types.specs.declared.why.Why.TheVariants.{Good, Lacks}
use Rattle.drive_base.specs.DriveSet.{count_in, is_in}
use Rattle.drive_base.specs.Plan.{data_drives, write_drives}
use Rattle.drive_base.specs.View.{DriveView, view_at}
use Rattle.drive_base.specs.declared.plan.SetPlan.{SetPlan}
use Rattle.drive_base.specs.Files.{Named}
use Rattle.body_print.specs.Holders.{HoldsPart}
use Rattle.body_print.specs.Names.{manifest_name}
use Rattle.manifest_file.specs.declared.manifest.Manifest.{Manifest}
use Rattle.manifest_file.specs.declared.manifest.ManifestPart.{ManifestPart}
use Rattle.put_stage.specs.Cells.{DataCells, data_of}
use Rattle.put_stage.specs.StagedBodies.{IsStagedBody}
use Rattle.put_stage.specs.HeldBodies.{HoldsBody}
use Rattle.put_stage.specs.TakenBodies.{HasTaken, manifest_in}
use Rattle.put_stage.specs.Work.{AtWork}
use Rattle.put_stage.specs.declared.stage.Stage.{Stage}
use Rattle.put_stage.specs.declared.answers.Staged.{Staged}
use Rattle.put_stage.proofs.FinishLemmas.{whole_manifest}
use Rattle.put_stage.proofs.StepLemmas.{only_good}
use Rattle.stamp_id.specs.declared.version.VersionId.{VersionId}
use Rattle.slot_core.specs.declared.holding.Flight.{Flight}
use Rattle.slot_history.specs.Contents.{NamedData}
use Rattle.slot_history.specs.Names.{key_name}
use Rattle.slot_data.specs.Disks.{Disks, HasHolders, kept_on}
use Rattle.slot_data.specs.Holding.{Holding}
use Rattle.slot_data.proofs.ListedLemmas.{one_there}
use Rattle.op_steps.specs.Claims.{Claim, DisksTell, Expected, IsExpected, IsMet, Staging, disks_of}
use Rattle.object_ops.specs.Put.{PutAsk}
use Rattle.object_ops.specs.PutStands.{ClaimsStage, HasWorked, HoldsPut, IsStageOf, no_cells}
use Rattle.object_ops.specs.PutOutcome.{Answers}
use Rattle.object_ops.specs.PutTarget.{key_of, register_of}
use Rattle.object_ops.proofs.PutDisks.{kept_in_use, kept_out}
use Rattle.object_ops.proofs.PutPlaces.{work_manifest}

-- ---- good letters, counted as the drives of a set

abbrev one_if : Bool → ℕ
one_if b = cond b 1 0

counts : (b : Bool) → ((b ≡ true) × (one_if b ≡ 1)) ⊎ ((b ≡ false) × (one_if b ≡ 0))
counts true = inl (refl, refl)
counts false = inr (refl, refl)

one_above : (n : ℕ) → n ≢ 0 → one_if (nat_lt 0 n) ≡ 1
one_above zero some = absurd (some refl)
one_above (suc n) some = grind (arith, nat_tests)

good_from : (set : ℕ) (whys : List Why) (from : ℕ) → ((k : ℕ) → k < length whys → slice_index_or whys k Good ≡ Good → IsBitSet set (from + k))
    → good_count whys ≤ count_by (is_in set) (range_with_len from (length whys))
good_from set [] from good = omega arith
good_from set (why ∷ whys) from good =
    let one = sum_by-cons (λ k. one_if (is_in set k)) from (range_with_len (from + 1) (length whys)) in
    let other = sum_by-cons (λ w. one_if (is_good w)) why whys in
    let rest = good_from set whys (from + 1) (λ k low is.
    let same : from + suc k ≡ from + 1 + k = omega arith in subst (IsBitSet set) same (good (suc k) (omega arith) is)) in
    elim (counts (is_good why)) [
      | inl has ↦
          let same : from + 0 ≡ from = omega arith in
          let bit : IsBitSet set from = subst (IsBitSet set) same (good zero (omega arith) (only_good why has.0)) in
          let more : one_if (is_in set from) ≡ 1 = one_above (bit_and set (2 ^ from)) bit in
          let h = has.1 in omega arith
      | inr lacks ↦ let h = lacks.1 in omega arith
    ]

good_in : (set : ℕ) (whys : List Why) (n : ℕ) → length whys ≡ n → ((k : ℕ) → k < n → slice_index_or whys k Good ≡ Good → IsBitSet set k)
    → good_count whys ≤ count_in set n
good_in set whys n long good = subst (λ m. good_count whys ≤ count_in set m) long
    (good_from set whys 0 (λ k low is. let same : k ≡ 0 + k = omega arith in subst (IsBitSet set) same (good k (omega (arith, long, low)) is)))

some_bytes : (a b : List ℕ) → Some a ≡ Some b → a ≡ b
some_bytes a b e = cc

none_some : {bytes : List ℕ} → None ≡ Some bytes → ⊥
none_some e = absurd cc

-- a drive is out, or in use
pub out_or_used : (out k : ℕ) → IsBitSet out k ⊎ (IsBitSet out k → ⊥)
out_or_used out k = elim (eqb_tells (bit_and out (2 ^ k)) 0) [
  | inl free ↦ inr (λ bit. bit free.1)
  | inr bit ↦ inl bit.1
]

module _ (ask : PutAsk) (flight : Flight) (stage : Stage) (staged : Staged) (body : List ℕ) (shards : List (List (List ℕ))) (claim : Claim) (staging : Staging)
    (of : IsStageOf ask flight stage) (taken : HasTaken stage.load body shards) (whole : stage.load.left ≡ 0) (answers : Answers stage (Ok staged))
    (staged_is : claim.stage ≡ Some staging) (claims : ClaimsStage stage shards flight.id staging) (held : HoldsPut (key_of ask.target) flight claim)
    (holding : Holding) (unseen : Disks) (disks : List DriveView) (tell : DisksTell ask.set disks) (met : IsMet ask.set holding unseen disks claim) where
  abbrev set : SetPlan
  set = ask.set

  abbrev id : VersionId
  id = flight.id

  abbrev now : Disks
  now = disks_of unseen set.out disks

  abbrev m : Manifest
  m = manifest_in stage.load body shards

  -- what it names
  abbrev pub named : NamedData
  named = record { id = id; print = staged.print; size = staged.length }

  is_staged : IsStagedBody stage staged body shards
  is_staged = answers.body body shards taken

  -- what is under the id on a drive in use
  cells_at : (k : ℕ) → k < set.drives → (IsBitSet set.out k → ⊥) → (worked : HasWorked stage shards k (staging.expected k))
      × (data_of id (view_at disks k).files ≡ worked.cells)
  cells_at k below used =
      let worked = claims.works k (subst (λ (p : SetPlan). k < p.drives) (sym of.set_is) below) (subst (λ (p : SetPlan). IsBitSet p.out k → ⊥) (sym of.set_is) used) in (
        worked,
        subst (λ y. data_of y (view_at disks k).files ≡ worked.cells) claims.id_is
            (subst (λ (e : Expected). IsExpected e (data_of staging.id (view_at disks k).files)) worked.is (met.works staging staged_is k below used)),
      )

  -- a drive that took all is in use
  took_used : (k : ℕ) → k < set.drives → IsBitSet staged.took k → IsBitSet set.out k → ⊥
  took_used k below bit out =
      let low = subst (λ (p : SetPlan). k < p.drives) (sym of.set_is) below in
      let good : slice_index_or stage.whys k Good ≡ Good =
      get_or_default stage.whys k Good (Lacks Format) (omega (arith, stage.letters, low)) ∙ (answers.concludes.0.took k low).0 bit in
      let bad : is_good (slice_index_or stage.whys k Good) ≡ false = stage.out_lack k low (subst (λ (p : SetPlan). IsBitSet p.out k) (sym of.set_is) out) in
      let well : is_good (slice_index_or stage.whys k Good) ≡ true = ap is_good good in
      absurd cc

  -- it holds the body, under the one manifest
  took_body : (k : ℕ) → k < set.drives → IsBitSet staged.took k
      → (b : HoldsBody set id staged.print k (kept_on now k)) × (b.whole.manifest ≡ m)
  took_body k below bit =
      let used = took_used k below bit in
      let at = cells_at k below used in
      let low = subst (λ (p : SetPlan). k < p.drives) (sym of.set_is) below in
      let files = (view_at disks k).files in
      let work = subst (λ y. AtWork stage (Some (slice_index_or shards k [])) k no_cells (data_of y files)) (sym of.id_is)
      (subst (AtWork stage (Some (slice_index_or shards k [])) k no_cells) (sym at.1) at.0.at_work) in
      subst₂ (λ (p : SetPlan) (y : VersionId). (b : HoldsBody p y staged.print k (kept_on now k)) × (b.whole.manifest ≡ m)) of.set_is of.id_is
      (subst (λ (n : Named (List ℕ)). (b : HoldsBody stage.load.set stage.load.names.id staged.print k n) × (b.whole.manifest ≡ m))
      (sym (kept_in_use unseen set disks k tell below used)) (is_staged.holds k no_cells files low bit work))

  enough : write_drives set.drives set.parity ≤ count_in staged.took set.drives
  enough =
      let n : length stage.whys ≡ set.drives = stage.letters ∙ ap (λ (p : SetPlan). p.drives) of.set_is in
      let good = good_in staged.took stage.whys set.drives n (λ k below is.
      (answers.concludes.0.took k (subst (λ (p : SetPlan). k < p.drives) (sym of.set_is) below)).1
      (get_or_default stage.whys k (Lacks Format) Good (omega (arith, n, below)) ∙ is)) in
      let w : write_drives set.drives set.parity ≤ good_count stage.whys =
      subst (λ (p : SetPlan). write_drives p.drives p.parity ≤ good_count stage.whys) of.set_is answers.concludes.0.enough in
      omega (arith, good, w)

  pub has_holders : HasHolders set now named (register_of ask.target)
  has_holders = record {
    manifest = m;
    is = record {
      canonical = whole_manifest stage.load body shards taken whole;
      drives = ap (λ (p : SetPlan). p.drives) of.set_is;
      parity = ap (λ (p : SetPlan). p.parity) of.set_is;
      size = omega (arith, is_staged.long);
      name_is = of.name_is;
    };
    held = record {
      mask = staged.took;
      enough = enough;
      each = λ k below bit. (let b = took_body k below bit in (b.0.whole, b.1));
    };
    alike = λ k bytes below is. elim (out_or_used set.out k) [
      | inl out ↦ (let none = sym (ap (λ n. n (manifest_name id)) (kept_out unseen set disks k tell below out)) ∙ is in
          let nothing = (met.unwritten (record { id = id; name = key_name (key_of ask.target) }) k held.flight_is below out).manifest in
          absurd (none_some (sym nothing ∙ none)))
      | inr used ↦
          let at = cells_at k below used in
          let kept = ap (λ n. n (manifest_name id)) (kept_in_use unseen set disks k tell below used) in
          let here : at.0.cells.manifest ≡ Some bytes = sym (ap (λ (c : DataCells). c.manifest) at.1) ∙ (sym kept ∙ is) in
          elim (work_manifest stage (slice_index_or shards k []) k at.0.cells at.0.at_work) [
            | inl none ↦ absurd (none_some (sym none ∙ here))
            | inr placed ↦ some_bytes bytes stage.load.made.manifest.items (sym here ∙ placed.1) ∙ (taken.made whole).manifest
          ]
    ];
    parts = λ part there. record {
      mask = staged.took;
      enough = enough;
      each = λ k below bit.
          let b = took_body k below bit in
          let same : b.0.part ≡ part = one_there b.0.part part (subst (λ (l : List ManifestPart). Contains l part) (ap (λ (x : Manifest). x.parts) (sym b.1) ∙ b.0.alone) there) in
          subst (λ (p : ManifestPart). HoldsPart set.drives (data_drives set.drives set.parity) p k (kept_on now k)) same b.0.shard;
    };
  }
