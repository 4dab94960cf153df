-- The files of data that a register names or comes to name, and of the parts in its manifest, stay on each drive in use.
use Rattle.std.proofs.Common.{◌≡◌, ◌≢◌, ◌⊎◌, ◌∙◌, ◌<◌, ℕ, List, Option, Some, None, Contains, ap, inl, inr, refl, subst, sym, arith}
use Rattle.std.specs.Int.{IsBitSet}
use Rattle.std.proofs.lemmas.Option.{none-some}
use Rattle.desk_base.specs.Telling.{Effect}
use Rattle.drive_base.specs.View.{DriveView, view_at}
use Rattle.drive_base.specs.declared.drive.Drive.{Ghosts}
use Rattle.drive_base.specs.declared.plan.SetPlan.{SetPlan}
use Rattle.stamp_id.specs.declared.version.VersionId.{VersionId}
use Rattle.body_print.specs.Names.{manifest_name, shard_name}
use Rattle.manifest_file.specs.Canonical.{IsCanonical}
use Rattle.manifest_file.specs.Spelling.{file_of}
use Rattle.manifest_file.specs.declared.manifest.Manifest.{Manifest}
use Rattle.slot_history.specs.Contents.{NamedData}
use Rattle.slot_history.specs.Standing.{Flying}
use Rattle.slot_history.proofs.MemberLemmas.{other_is_other, same_or_other}
use Rattle.slot_data.proofs.NamingLemmas.{record_names_id, record_of_coming, record_of_named}
use Rattle.slot_data.specs.Disks.{Disks, HasHolders, HasPart, IsPieceOf}
use Rattle.slot_data.specs.Live.{IsLiveData, IsWanted}
use Rattle.slot_data.specs.Standing.{RecordNames, RecordNamesId}
use Rattle.slot_core.specs.Views.{last_of, quorum_of}
use Rattle.receipts.specs.Events.{Event}
use Rattle.op_steps.specs.Claims.{Claim, DisksTell, disks_of}
use Rattle.log_laws.specs.Laws.{HoldsAfter}
use Rattle.op_steps.specs.Moves.{LosesFile}
use Rattle.op_steps.specs.Steps.{IsSlotAt, StepMoves}
use Rattle.op_steps.specs.Store.{SlotSeen, Store}
use Rattle.log_laws.proofs.LiveFileLemmas.{live_files_stay}
use Rattle.log_laws.proofs.ReadBackLemmas.{Names}
use Rattle.log_laws.proofs.ReadStayLemmas.{Holds}
use Rattle.log_laws.proofs.RequestLemmas.{own_there}
use Rattle.op_steps.proofs.SectionLemmas.{counted_in_use}
use Rattle.op_steps.proofs.SlotLemmas.{order_index, order_set}
use Rattle.log_laws.proofs.PlaceLemmas.{slot_at}

-- what isn't something else is it
is_some : (w : Option (List ℕ)) (bytes : List ℕ) → (w ≢ Some bytes → ⊥) → w ≡ Some bytes
is_some None bytes never = absurd (never (λ e. none-some bytes e))
is_some (Some other) bytes never = elim (same_or_other other bytes) [
  | inl same ↦ ap Some same
  | inr apart ↦ absurd (never (λ e. other_is_other other bytes apart (let both : Some other ≡ Some bytes = e in cc)))
]

module _ (set : SetPlan) (whole : VersionId) (m : Manifest) where
  -- an id is that of the data, or of a part of it
  abbrev pub IsOfData : VersionId → Type 0
  IsOfData id = (id ≡ whole) ⊎ HasPart m id

  -- some drive in use keeps the manifest
  pub record KeepsManifest (disks : List DriveView) : Type 0 where
    pub drive : ℕ
    pub within : drive < set.drives
    pub in_use : IsBitSet set.out drive → ⊥
    pub kept : (view_at disks drive).files.kept (manifest_name whole) ≡ Some (file_of m)

  -- what drives in use kept of the data before, they keep after
  pub record KeepsFiles (old new : List DriveView) : Type 0 where
    pub manifests : (k : ℕ) (id : VersionId) (bytes : List ℕ) → k < set.drives → (IsBitSet set.out k → ⊥) → IsOfData id
        → (view_at old k).files.kept (manifest_name id) ≡ Some bytes → (view_at new k).files.kept (manifest_name id) ≡ Some bytes
    pub shards : (k : ℕ) (id : VersionId) (bytes : List ℕ) → k < set.drives → (IsBitSet set.out k → ⊥) → IsOfData id
        → (view_at old k).files.kept (shard_name id) ≡ Some bytes → (view_at new k).files.kept (shard_name id) ≡ Some bytes

  pub keeps_first : (disks : List DriveView) → KeepsFiles disks disks
  keeps_first disks = record { manifests = λ k id bytes inside in_use of kept. kept; shards = λ k id bytes inside in_use of kept. kept }

  pub keeps_then : (old mid new : List DriveView) → KeepsFiles old mid → KeepsFiles mid new → KeepsFiles old new
  keeps_then old mid new first second = record {
    manifests = λ k id bytes inside in_use of kept. second.manifests k id bytes inside in_use of (first.manifests k id bytes inside in_use of kept);
    shards = λ k id bytes inside in_use of kept. second.shards k id bytes inside in_use of (first.shards k id bytes inside in_use of kept);
  }

module _ {D T : Type 0} (ghosts : Ghosts D) (takes breaks : Effect T) (set : SetPlan) (unseen : Disks) (front rest : List Claim) (slot : ℕ) (small : slot < 64)
    (name : List ℕ) (named : NamedData) where
  -- a store that holds, in which the register of a slot names data or comes to
  pub record HoldsData (store : Store D T) : Type 0 where
    pub holds : Holds ghosts takes breaks set unseen front rest store
    pub names : Names name named (holds.at slot)

  -- what is known of it: its drives tell, and the data is recorded, has its holders and stays
  pub record StandsIn (store : Store D T) (x : HoldsData store) : Type 0 where
    pub was : SlotSeen D
    pub is : IsSlotAt store.slots slot was
    pub of_slot : named.id.slot ≡ slot
    pub recorded : RecordNamesId (x.holds.at slot).records name named.id
    pub tell : DisksTell set store.disks
    pub holders : HasHolders set (disks_of unseen set.out store.disks) named name
    pub wanted : IsWanted (x.holds.at slot).records (x.holds.at slot).state was.holding named.id
    pub pieces : (id : VersionId) → IsPieceOf set (disks_of unseen set.out store.disks) named.id id → id.slot ≡ slot

  pub stands_in : (store : Store D T) (x : HoldsData store) → StandsIn store x
  stands_in store x =
      let found = slot_at store.slots slot (let count = x.holds.order.count in omega (arith, count, small)) in
      let here = found.0 in
      let n = here.numbers in
      let at = x.holds.at slot in
      let after : HoldsAfter ghosts.tells ghosts.files unseen store front rest (x.holds.at slot) here = x.holds.held slot here found.1 in
      let index : n.index ≡ slot = order_index set store.slots store.disks slot here x.holds.order found.1 in
      let plan : n.set ≡ set = order_set set store.slots store.disks slot here x.holds.order found.1 in
      let recorded : RecordNames at.records name named.id = elim x.names.how [
        | inl is_named ↦ record_of_named (quorum_of n) n.set.drives (last_of n) here.holding.flights at.records at.state name named named.id after.stands.stands is_named
            refl
        | inr coming ↦ record_of_coming at.records at.state name named named.id coming refl
      ] in
      let of_index : named.id.slot ≡ n.index = after.holds.stands.names.of_slot name named.id (record_names_id at.records name named.id recorded) in
      record {
        was = here;
        is = found.1;
        of_slot = of_index ∙ index;
        recorded = record_names_id at.records name named.id recorded;
        tell = subst (λ (s : SetPlan). DisksTell s store.disks) plan after.holds.tell;
        holders = subst (λ (s : SetPlan). HasHolders s (disks_of unseen s.out store.disks) named name) plan (elim x.names.how [
          | inl is_named ↦ after.holds.stands.holders.named name named is_named
          | inr coming ↦ after.holds.stands.holders.coming name named coming
        ]);
        wanted = elim x.names.how [ inl is_named ↦ inl (name, named, is_named, refl) | inr coming ↦ inr (inl (name, named, coming, refl)) ];
        pieces = λ id piece. after.holds.stands.files.of_slot named.id id of_index
            (subst (λ (s : SetPlan). IsPieceOf s (disks_of unseen s.out store.disks) named.id id) (sym plan) piece) ∙ index;
      }

  -- it isn't the op's own put, nor is a part of it
  module _ (store : Store D T) (x : HoldsData store) (f : Flying) (flies : store.claim.flight ≡ Some f) where
    -- what the op's own slot has of its put
    record OwnPut : Type 0 where
      here : SlotSeen D
      is : IsSlotAt store.slots store.claim.slot here
      index : here.numbers.index ≡ store.claim.slot
      plan : here.numbers.set ≡ set
      after : HoldsAfter ghosts.tells ghosts.files unseen store front rest (x.holds.at store.claim.slot) here
      listed : Contains here.holding.flights f

    own : OwnPut
    own =
        let found = slot_at store.slots store.claim.slot (let count = x.holds.order.count in let low = x.holds.low in omega (arith, count, low)) in
        let index = order_index set store.slots store.disks store.claim.slot found.0 x.holds.order found.1 in
        let after : HoldsAfter ghosts.tells ghosts.files unseen store front rest (x.holds.at store.claim.slot) found.0 = x.holds.held store.claim.slot found.0 found.1 in
        record {
          here = found.0;
          is = found.1;
          index = index;
          plan = order_set set store.slots store.disks store.claim.slot found.0 x.holds.order found.1;
          after = after;
          listed = (after.holds.met store.claim (own_there found.0.numbers.index front store.claim rest (sym index))).flight f flies;
        }

    not_whole : f.id ≡ named.id → ⊥
    not_whole same =
        let at = stands_in store x in
        let one : slot ≡ store.claim.slot =
        sym at.of_slot ∙ (ap (λ (v : VersionId). v.slot) (sym same) ∙ (own.after.holds.stands.flights.of_slot f own.listed ∙ own.index)) in
        own.after.holds.stands.flights.unnamed f name own.listed (subst (λ (v : VersionId). RecordNamesId (x.holds.at store.claim.slot).records name v) (sym same)
        (subst (λ (j : ℕ). RecordNamesId (x.holds.at j).records name named.id) one at.recorded))

    not_piece : (id : VersionId) → IsPieceOf set (disks_of unseen set.out store.disks) named.id id → f.id ≡ id → ⊥
    not_piece id piece same = not_whole (sym (own.after.holds.stands.flights.no_part f named.id own.listed
        (subst (λ (s : SetPlan). IsPieceOf s (disks_of unseen s.out store.disks) named.id f.id) (sym own.plan)
        (subst (λ (v : VersionId). IsPieceOf set (disks_of unseen set.out store.disks) named.id v) (sym same) piece))))

  module _ (m : Manifest) (canonical : IsCanonical m) where
    module _ (old : Store D T) (x : HoldsData old) (some : KeepsManifest set named.id m old.disks) where
      -- a part is a piece of what is kept
      piece : (id : VersionId) → HasPart m id → IsPieceOf set (disks_of unseen set.out old.disks) named.id id
      piece id part = record {
        manifest = m;
        kept = record {
          drive = some.drive;
          within = some.within;
          canonical = canonical;
          is = ap (λ kept. kept (manifest_name named.id)) (counted_in_use unseen set.out old.disks some.drive
              (let count = (stands_in old x).tell.count in let low = some.within in omega (arith, count, low)) some.in_use) ∙ some.kept;
        };
        part = part;
      }

      id_of_slot : (id : VersionId) → IsOfData set named.id m id → id.slot ≡ slot
      id_of_slot id (inl same) = ap (λ (v : VersionId). v.slot) same ∙ (stands_in old x).of_slot
      id_of_slot id (inr part) = (stands_in old x).pieces id (piece id part)

      is_live : (id : VersionId) → IsOfData set named.id m id → IsLiveData set (x.holds.at slot).records (x.holds.at slot).state (stands_in old x).was.holding
          (disks_of unseen set.out old.disks) id
      is_live id of = inl (named.id, (stands_in old x).wanted, elim of [ inl same ↦ inl same | inr part ↦ inr (piece id part) ])

      none_lost : (event : Event) (new : Store D T) → StepMoves ghosts takes breaks set event old new → (k : ℕ) (id : VersionId) → k < set.drives
          → (IsBitSet set.out k → ⊥) → IsOfData set named.id m id → LosesFile id (view_at old.disks k).files (view_at new.disks k).files → ⊥
      none_lost event new step k id inside in_use of loses =
          let at = stands_in old x in
          let own = id_of_slot id of in
          let found = live_files_stay ghosts takes breaks set event old new unseen front rest x.holds.at k id at.was x.holds.order x.holds.low step x.holds.held
          (subst (λ (j : ℕ). IsSlotAt old.slots j at.was) (sym own) at.is)
          (subst (λ (j : ℕ). IsLiveData set (x.holds.at j).records (x.holds.at j).state at.was.holding (disks_of unseen set.out old.disks) id) (sym own) (is_live id of))
          (at.tell.tell k inside in_use) loses in
          elim of [
            | inl same ↦ not_whole old x found.0 found.1 (found.2 ∙ same)
            | inr part ↦ not_piece old x found.0 found.1 id (piece id part) found.2
          ]

      -- a step keeps the files of the data
      pub step_keeps : (event : Event) (new : Store D T) → StepMoves ghosts takes breaks set event old new → KeepsFiles set named.id m old.disks new.disks
      step_keeps event new step = record {
        manifests = λ k id bytes inside in_use of kept. is_some ((view_at new.disks k).files.kept (manifest_name id)) bytes
            (λ gone. none_lost event new step k id inside in_use of (inl (bytes, kept, gone)));
        shards = λ k id bytes inside in_use of kept. is_some ((view_at new.disks k).files.kept (shard_name id)) bytes
            (λ gone. none_lost event new step k id inside in_use of (inr (bytes, kept, gone)));
      }
