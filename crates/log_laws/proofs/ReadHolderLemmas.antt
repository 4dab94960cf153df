-- Over a log in which data is named: among data drives that serve and are enough each letter that a read can't go on is contradicted by a holder.
use Rattle.std.proofs.Common.{◌≡◌, ◌∙◌, ◌+◌, ◌*◌, ◌<◌, ◌≤◌, ℕ, List, [], Contains, Some, slice_index_or, ap, inl, inr, refl, subst, sym, arith}
use Rattle.std.specs.Int.{IsBitSet}
use Rattle.std.proofs.lemmas.List.{get_or_default}
use Rattle.std.proofs.lemmas.List.Elements.{Contains-append_right}
use Rattle.sha2.specs.Sha256.{sha256}
use Rattle.call_types.specs.declared.why.FileKind.TheVariants.{Format}
use Rattle.call_types.specs.declared.why.Why.{Why}
use Rattle.call_types.specs.declared.why.Why.TheVariants.{Good, Lacks}
use Rattle.desk_base.specs.Telling.{Effect}
use Rattle.drive_base.specs.Calls.{MadeCall, Seen}
use Rattle.drive_base.specs.DriveSet.{count_in}
use Rattle.drive_base.specs.Plan.{data_drives, write_drives}
use Rattle.drive_base.specs.View.{view_at}
use Rattle.drive_base.specs.declared.drive.Drive.{Ghosts}
use Rattle.drive_base.specs.declared.plan.SetPlan.{SetPlan}
use Rattle.drive_base.proofs.SetLemmas.{large_sets_meet}
use Rattle.stamp_id.specs.declared.version.VersionId.{VersionId}
use Rattle.body_print.specs.Holders.{HoldsPart}
use Rattle.body_print.specs.Names.{manifest_name, shard_name}
use Rattle.manifest_file.specs.Canonical.{IsCanonical}
use Rattle.manifest_file.specs.Print.{text_under}
use Rattle.manifest_file.specs.Spelling.{file_of}
use Rattle.manifest_file.specs.Table.{ManifestsAreNoLonger}
use Rattle.manifest_file.specs.declared.manifest.Manifest.{Manifest}
use Rattle.manifest_file.specs.declared.manifest.ManifestPart.{ManifestPart}
use Rattle.manifest_file.specs.declared.manifest.TheConstants.{LONGEST_FILE}
use Rattle.shard_file.specs.Shards.{AreShardBlocks, shard_bytes}
use Rattle.shard_file.specs.Stripes.{stripe_count, stripe_size}
use Rattle.slot_history.specs.Contents.{NamedData}
use Rattle.slot_data.specs.Disks.{AtLeast, Disks, HasHolders, kept_on}
use Rattle.receipts.specs.Events.{Log, Saw}
use Rattle.receipts.specs.Events.Event.{Called}
use Rattle.receipts.specs.Letters.{FewBlocks, IsInUse, NoneServes, Serves, Wanted, Wants}
use Rattle.op_steps.specs.Claims.{Claim, disks_of}
use Rattle.log_laws.specs.Reads.{CallsServe}
use Rattle.op_steps.specs.Steps.{Ran}
use Rattle.op_steps.specs.Store.{Store}
use Rattle.op_steps.proofs.ManifestLemmas.{both_count}
use Rattle.log_laws.proofs.ReadFilesLemmas.{HoldsData, KeepsManifest, keeps_first, stands_in}
use Rattle.log_laws.proofs.ReadLetterLemmas.{SeenOf, manifest_given}
use Rattle.log_laws.proofs.ReadLetterLemmas.{block_good}
use Rattle.log_laws.proofs.ReadMomentLemmas.{Along}
use Rattle.log_laws.proofs.ReadMomentLemmas.{ReadMoment, read_moment}
use Rattle.log_laws.proofs.ReadSeenLemmas.{KeepsUnder, seen_of}
use Rattle.op_steps.proofs.SectionLemmas.{counted_in_use}

-- a stripe has data blocks
data_some : (set : SetPlan) → 0 < data_drives set.drives set.parity
data_some set = (let many = set.enough_drives in let half = set.half_at_most in omega (arith, many, half))

module _ {D T : Type 0} (ghosts : Ghosts D) (takes breaks : Effect T) (set : SetPlan) (unseen : Disks) (front rest : List Claim) (slot : ℕ) (small : slot < 64)
    (name : List ℕ) (named : NamedData) (disks : ℕ) (wanted : Wanted) (id_is : named.id ≡ wanted.id) (print_is : named.print ≡ wanted.print) (reaches : wanted.reach ≤ named.size)
    (in_use : (k : ℕ) → k < set.drives → IsBitSet disks k → IsInUse set k)
    (enough : set.drives + data_drives set.drives set.parity ≤ count_in disks set.drives + write_drives set.drives set.parity) (store : Store D T)
    (holds : HoldsData ghosts takes breaks set unseen front rest slot small name named store) where
  -- what the holders of the data keep, and one of them that serves
  pub record Held : Type 0 where
    pub m : Manifest
    pub canonical : IsCanonical m
    pub serves : Serves set wanted m
    pub some : KeepsManifest set named.id m store.disks
    pub bit : IsBitSet disks some.drive
    pub parts : (part : ManifestPart) → Contains m.parts part → AtLeast set (write_drives set.drives set.parity)
        (λ k. HoldsPart set.drives (data_drives set.drives set.parity) part k (kept_on (disks_of unseen set.out store.disks) k))

  -- a drive of the set counts with what it keeps
  counts : (k : ℕ) → k < set.drives → IsBitSet disks k → kept_on (disks_of unseen set.out store.disks) k ≡ (view_at store.disks k).files.kept
  counts k inside bit =
      let at = stands_in ghosts takes breaks set unseen front rest slot small name named store holds in
      counted_in_use unseen set.out store.disks k (let count = at.tell.count in omega (arith, count, inside)) (in_use k inside bit)

  pub held_there : Held
  held_there =
      let at = stands_in ghosts takes breaks set unseen front rest slot small name named store holds in
      let h : HasHolders set (disks_of unseen set.out store.disks) named name = at.holders in
      let positive = data_some set in
      let many = h.held.enough in
      let meet = large_sets_meet set.drives disks h.held.mask (omega (arith, positive, many, enough)) in
      let k = meet.0 in
      let inside = meet.1 in
      let holder = h.held.each k inside meet.3 in
      let file : (view_at store.disks k).files.kept (manifest_name named.id) ≡ Some (file_of h.manifest) =
      ap (λ kept. kept (manifest_name named.id)) (sym (counts k inside meet.2)) ∙ (holder.0.is ∙ ap (λ (m : Manifest). Some (file_of m)) holder.1) in
      record {
        m = h.manifest;
        canonical = h.is.canonical;
        serves = record {
          canonical = h.is.canonical;
          drives = h.is.drives;
          parity = h.is.parity;
          printed = sym print_is ∙ subst (λ (m : Manifest). named.print ≡ sha256 (text_under m)) holder.1 holder.0.printed;
          reaches = (let size = h.is.size in omega (arith, size, reaches));
        };
        some = record { drive = k; within = inside; in_use = in_use k inside meet.2; kept = file };
        bit = meet.2;
        parts = h.parts;
      }

  module _ (a : Held) (log : Log) (new : Store D T) (ran : Ran ghosts takes breaks set log store new) (serve : CallsServe ghosts takes breaks set disks log store new ran)
      (along : Along ghosts takes breaks set unseen front rest slot small name named log store new ran) where
    -- a call at its moment
    pub at_call : (k : ℕ) (made : MadeCall) → Contains log (Called k made)
        → ReadMoment ghosts takes breaks set unseen front rest slot small name named a.m a.canonical disks store.disks a.some log store new k made
    at_call k made in_log = read_moment ghosts takes breaks set unseen front rest slot small name named a.m a.canonical disks store.disks a.some log store new ran serve
        along (keeps_first set named.id a.m store.disks) k made in_log

    so : (k : ℕ) → k < set.drives → IsBitSet disks k → (seen : Seen) → Saw log k seen → SeenOf (KeepsUnder set named.id a.m (view_at store.disks k)) seen
    so k inside bit seen saw = seen_of ghosts takes breaks set unseen front rest slot small name named a.m a.canonical disks store.disks a.some log store new k
        saw.made seen saw.tells inside (in_use k inside bit) bit (at_call k saw.made saw.called)

    -- some drive gave a manifest that serves
    pub served : ManifestsAreNoLonger LONGEST_FILE → (whys : List Why) → NoneServes set wanted whys log → ⊥
    served lengths whys none =
        let k = a.some.drive in
        manifest_given set log k (KeepsUnder set named.id a.m (view_at store.disks k)) (so k a.some.within a.bit) a.some.in_use lengths wanted a.m (record {
          id = named.id;
          of_data = inl refl;
          name_is = inl (ap manifest_name (sym id_is));
          kept = subst (λ (v : VersionId). (view_at store.disks k).files.kept (manifest_name v) ≡ Some (file_of a.m)) id_is a.some.kept;
        }) a.serves (slice_index_or whys k Good) (none.each k a.some.within)

    -- and as many drives as a stripe has data blocks gave the block of a part of the manifest that is held
    pub given : (next : ℕ) (whys : List Why) (x : FewBlocks set wanted next whys log) (part : ManifestPart) → Contains a.m.parts part → x.part.id ≡ part.id
        → x.part.length ≡ part.length → x.part.roots ≡ part.roots → ⊥
    given next whys x part there same_id same_length same_roots =
        let d = data_drives set.drives set.parity in
        let holders = a.parts part there in
        let begun = x.next_in.begun in
        let within = x.next_in.within in
        let below : stripe_size * x.stripe < x.part.length = omega (arith, begun, within) in
        let low : x.stripe < stripe_count x.part.length = omega (arith, below) in
        let counted = x.few.counted in
        let good : (k : ℕ) → k < set.drives → IsBitSet disks k → IsBitSet holders.mask k → slice_index_or whys k Good ≡ Good =
        λ k inside bit also.
        let h = holders.each k inside also in
        let wants : Wants = record { d = d; part = x.part; stripe = x.stripe; root = slice_index_or x.part.roots k [] } in
        let shard : (view_at store.disks k).files.kept (shard_name part.id) ≡ Some (shard_bytes h.blocks) =
        ap (λ kept. kept (shard_name part.id)) (sym (counts k inside bit)) ∙ h.is in
        block_good set log k (KeepsUnder set named.id a.m (view_at store.disks k)) (so k inside bit) (in_use k inside bit) wants h.blocks (record {
          id = part.id;
          of_data = inr (record { part = part; there = there; id_is = refl });
          name_is = inr (ap shard_name same_id);
          kept = subst (λ (v : VersionId). (view_at store.disks k).files.kept (shard_name v) ≡ Some (shard_bytes h.blocks)) (sym same_id) shard;
        }) (subst (λ (n : ℕ). AreShardBlocks d n h.blocks) (sym same_length) h.sized)
        (ap (λ (roots : List (List ℕ)). slice_index_or roots k []) same_roots ∙ h.root) (data_some set) low x.since
        (λ event in_since. subst (λ (l : Log). Contains l event) (sym x.is_since.parts) (Contains-append_right x.is_since.before x.since event in_since))
        (slice_index_or whys k Good) (x.each k inside) in
        let most = both_count set.drives disks holders.mask whys counted (λ k inside bit also.
        get_or_default whys k (Lacks Format) Good (omega (arith, counted, inside)) ∙ good k inside bit also) in
        let few = x.few.few in
        let many = holders.enough in
        absurd (omega (arith, most, few, many, enough))
