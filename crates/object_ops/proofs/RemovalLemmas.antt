-- The call that removes a file of an id which an op took, as a step.
use Rattle.std.proofs.Common.{◌≡◌, ◌≢◌, ◌⊎◌, ◌∙◌, ◌<◌, ◌^◌, ◌==◌, ℕ, Bool, true, false, bit_and, List, [], Contains, Some, None, append-nil, cond, length, inl, inr, refl, sym, ap, subst, subst₂, arith}
use Rattle.std.specs.Int.{IsBitSet}
use Rattle.std.specs.Str.{bytes_eq}
use Rattle.std.proofs.lemmas.Bool.Decides.{eqb_tells}
use Rattle.std.proofs.lemmas.List.FromFn.{get_or-map-range_with_len}
use Rattle.std.proofs.lemmas.List.Elements.{All-contains}
use Rattle.std.proofs.lemmas.Map.{update_other, update_same}
use Rattle.stamp_id.specs.declared.version.VersionId.{VersionId}
use Rattle.drive_base.specs.Calls.{MadeCall}
use Rattle.drive_base.specs.Files.{Files, LooseFile, Named, with_name, with_placed}
use Rattle.drive_base.specs.View.{DriveView, view_at}
use Rattle.drive_base.specs.declared.plan.SetPlan.{SetPlan}
use Rattle.body_print.specs.Names.{loose_manifest_name, loose_shard_name, manifest_name, shard_name}
use Rattle.put_stage.specs.Cells.{data_of}
use Rattle.put_stage.specs.Work.{HasNoneLoose}
use Rattle.slot_history.specs.Standing.{Flying, Records}
use Rattle.slot_history.specs.State.{State}
use Rattle.slot_history.proofs.TakenLemmas.{first_there, rest_there}
use Rattle.slot_data.specs.DiskLaws.{IsElsewhere, IsRemoved, StaysOrGoes}
use Rattle.slot_data.specs.Disks.{Disks, kept_on}
use Rattle.slot_data.specs.Holding.{Hands, Holding}
use Rattle.slot_data.specs.Moves.{with_taken as hands_with}
use Rattle.slot_data.specs.Standing.{DataStands}
use Rattle.slot_data.proofs.DiskLemmas.{manifest_stays, shard_stays}
use Rattle.slot_data.proofs.RemovedLemmas.{taken_is_removed}
use Rattle.slot_core.specs.Views.{SlotNumbers, last_of}
use Rattle.op_steps.specs.Claims.{AllApart, Claim, DataHolds, DisksTell, IsExpected, IsMet, among, claims_at, counted_on, disks_of, hands_of}
use Rattle.op_steps.specs.Calls.{MayCall}
use Rattle.op_steps.specs.Moves.{CallMoves, RecordsStand}
use Rattle.object_ops.specs.Clearing.{RemovesOne, with_taken, AreDue, FileOn, IsDue, RemoveCall, ids_of}
use Rattle.object_ops.specs.DataNames.{name_by}
use Rattle.object_ops.specs.declared.data_files.DataFile.{DataFile}
use Rattle.object_ops.specs.declared.data_files.DataFile.TheVariants.{Manifest, Shard}
use Rattle.op_steps.proofs.DataLemmas.{tell_called}
use Rattle.op_steps.proofs.ClaimLemmas.{at_own, own_in_hand}
use Rattle.object_ops.proofs.CallLemmas.{removal_leaves, removal_written}
use Rattle.object_ops.proofs.ClaimLemmas.{apart_on, at_other, each_on, flight_stays, hands_on, pin_stays}
use Rattle.object_ops.proofs.ElsewhereLemmas.{removed_elsewhere}
use Rattle.object_ops.proofs.TrashLemmas.{met_taken}

-- ---- names

-- a name that is none of an id's two isn't that of its file
not_its : (kind : DataFile) (id : VersionId) (other : List ℕ) → IsElsewhere id other → bytes_eq (name_by kind id) other ≡ false
not_its Shard id other apart = apart.1
not_its Manifest id other apart = apart.0

-- the file of an id is one of its two
its_name : (kind : DataFile) (id : VersionId) → (name_by kind id ≡ manifest_name id) ⊎ (name_by kind id ≡ shard_name id)
its_name Shard id = inr refl
its_name Manifest id = inl refl

-- what is under any name where one was taken out
goes : (named : Named (List ℕ)) (name other : List ℕ) → StaysOrGoes (named other) (with_name named name None other)
goes named name other = by (bytes_eq name other) refl
  where
    by : (b : Bool) → bytes_eq name other ≡ b → StaysOrGoes (named other) (with_name named name None other)
    by true same = inr (update_same bytes_eq named name None other same)
    by false apart = inl (update_other bytes_eq named name None other apart)

-- ---- one removal

module _ (set : SetPlan) (unseen : Disks) (left less : List FileOn) (old new : List DriveView) (tell : DisksTell set old)
    (one : RemovesOne left less old new) (due : (one.file.drive < set.drives) × (IsBitSet set.out one.file.drive → ⊥)) where
  abbrev file : FileOn
  file = one.file

  abbrev before : Disks
  before = disks_of unseen set.out old

  abbrev after : Disks
  after = disks_of unseen set.out new

  -- what counts of a drive
  counted : (disks : List DriveView) (k : ℕ) → k < length disks → kept_on (disks_of unseen set.out disks) k ≡ counted_on unseen set.out disks k
  counted disks k inside = get_or-map-range_with_len (counted_on unseen set.out disks) 0 (length disks) k k (λ _. None) inside (omega arith)

  in_use_counts : (disks : List DriveView) (k : ℕ) → (IsBitSet set.out k → ⊥) → counted_on unseen set.out disks k ≡ (view_at disks k).files.kept
  in_use_counts disks k in_use = elim (eqb_tells (bit_and set.out (2 ^ k)) 0) [
    | inl free ↦ ap (λ b. cond b (view_at disks k).files.kept (kept_on unseen k)) free.0
    | inr out ↦ absurd (in_use out.1)
  ]

  same_counted : (k : ℕ) → view_at new k ≡ view_at old k → counted_on unseen set.out new k ≡ counted_on unseen set.out old k
  same_counted k same = ap (λ (v : DriveView). cond (bit_and set.out (2 ^ k) == 0) v.files.kept (kept_on unseen k)) same

  -- the files of the drive that was called
  files_after : ((view_at new file.drive).files ≡ (view_at old file.drive).files)
      ⊎ ((view_at new file.drive).files ≡ with_placed (view_at old file.drive).files (name_by file.kind file.id) None)
  files_after = removal_leaves (name_by file.kind file.id) one.made (view_at old file.drive) (view_at new file.drive) one.call (tell.tell file.drive due.0 due.1)

  others : (k : ℕ) → k ≢ file.drive → view_at new k ≡ view_at old k
  others k apart = one.others k apart

  -- what is kept on a drive: it stays, or the file's name is taken out
  abbrev KeptMoves : ℕ → Type 0
  KeptMoves k = (kept_on after k ≡ kept_on before k) ⊎ (kept_on after k ≡ with_name (kept_on before k) (name_by file.kind file.id) None)

  kept_moves : (k : ℕ) → k < set.drives → KeptMoves k
  kept_moves k inside =
      let count = tell.count in
      let long = one.long in
      let was = counted old k (omega (arith, count, inside)) in
      let now = counted new k (omega (arith, count, long, inside)) in
      elim (eqb_tells k file.drive) [
        | inl here ↦
            let in_use : IsBitSet set.out k → ⊥ = subst (λ i. IsBitSet set.out i → ⊥) (sym here.1) due.1 in
            let kept_was : kept_on before k ≡ (view_at old k).files.kept = was ∙ in_use_counts old k in_use in
            let kept_now : kept_on after k ≡ (view_at new k).files.kept = now ∙ in_use_counts new k in_use in
            let files = subst (λ i. ((view_at new i).files ≡ (view_at old i).files)
            ⊎ ((view_at new i).files ≡ with_placed (view_at old i).files (name_by file.kind file.id) None)) (sym here.1) files_after in
            elim files [
              | inl same ↦ inl (kept_now ∙ (ap (λ (f : Files). f.kept) same ∙ sym kept_was))
              | inr gone ↦ inr (kept_now ∙ (ap (λ (f : Files). f.kept) gone
                  ∙ ap (λ (n : Named (List ℕ)). with_name n (name_by file.kind file.id) None) (sym kept_was)))
            ]
        | inr apart ↦ inl (now ∙ (same_counted k (others k apart.1) ∙ sym was))
      ]

  -- so only files of the id are removed
  any_stays : (k : ℕ) (name : List ℕ) → k < set.drives → StaysOrGoes (kept_on before k name) (kept_on after k name)
  any_stays k name inside = elim (kept_moves k inside) [
    | inl same ↦ inl (ap (λ (n : Named (List ℕ)). n name) same)
    | inr gone ↦ subst (λ (n : Named (List ℕ)). StaysOrGoes (kept_on before k name) (n name)) (sym gone) (goes (kept_on before k) (name_by file.kind file.id) name)
  ]

  pub is_removed : IsRemoved set file.id before after
  is_removed = record {
    only = λ k name inside apart. elim (kept_moves k inside) [
      | inl same ↦ ap (λ (n : Named (List ℕ)). n name) same
      | inr gone ↦ ap (λ (n : Named (List ℕ)). n name) gone
          ∙ update_other bytes_eq (kept_on before k) (name_by file.kind file.id) None name (not_its file.kind file.id name apart)
    ];
    manifests = λ k inside. any_stays k (manifest_name file.id) inside;
    shards = λ k inside. any_stays k (shard_name file.id) inside;
  }

  -- the drives go on to tell
  pub tell_after : DisksTell set new
  tell_after = tell_called set file.drive one.made old new tell due.0 due.1 one.call.was_made one.long one.others

  -- under the names of another id a drive in use has what it had
  loose_same : (k : ℕ) → (view_at new k).files.loose ≡ (view_at old k).files.loose
  loose_same k = elim (eqb_tells k file.drive) [
    | inl here ↦ subst (λ i. (view_at new i).files.loose ≡ (view_at old i).files.loose) (sym here.1) (elim files_after [
      | inl same ↦ ap (λ (f : Files). f.loose) same
      | inr gone ↦ ap (λ (f : Files). f.loose) gone
    ])
    | inr apart ↦ ap (λ (v : DriveView). v.files.loose) (others k apart.1)
  ]

  same_cells : (other : VersionId) (was now : Files) → now.kept (manifest_name other) ≡ was.kept (manifest_name other) → now.kept (shard_name other) ≡ was.kept (shard_name other)
      → now.loose (loose_manifest_name other) ≡ was.loose (loose_manifest_name other) → now.loose (loose_shard_name other) ≡ was.loose (loose_shard_name other)
      → data_of other now ≡ data_of other was
  same_cells other was now a b c e = λ i. record { manifest = a i; shard = b i; loose_manifest = c i; loose_shard = e i }

  cells_same : (other : VersionId) (k : ℕ) → k < set.drives → (IsBitSet set.out k → ⊥) → other ≢ file.id
      → data_of other (view_at new k).files ≡ data_of other (view_at old k).files
  cells_same other k inside in_use apart =
      let count = tell.count in
      let long = one.long in
      let kept_was : kept_on before k ≡ (view_at old k).files.kept = counted old k (omega (arith, count, inside)) ∙ in_use_counts old k in_use in
      let kept_now : kept_on after k ≡ (view_at new k).files.kept = counted new k (omega (arith, count, long, inside)) ∙ in_use_counts new k in_use in
      let kept_under : (name : List ℕ) → kept_on after k name ≡ kept_on before k name → (view_at new k).files.kept name ≡ (view_at old k).files.kept name =
      λ name same. subst₂ (λ (a b : Named (List ℕ)). a name ≡ b name) kept_now kept_was same in
      cells (view_at old k).files (view_at new k).files (kept_under (manifest_name other) (manifest_stays set file.id before after is_removed.only k other inside apart))
      (kept_under (shard_name other) (shard_stays set file.id before after is_removed.only k other inside apart)) (loose_same k)
    where
      cells : (was now : Files) → now.kept (manifest_name other) ≡ was.kept (manifest_name other) → now.kept (shard_name other) ≡ was.kept (shard_name other)
          → now.loose ≡ was.loose → data_of other now ≡ data_of other was
      cells was now manifest shard loose = same_cells other was now manifest shard (ap (λ (n : Named LooseFile). n (loose_manifest_name other)) loose) (ap (λ (n : Named LooseFile). n (loose_shard_name other)) loose)

  -- and no more files are being written
  pub loose_after : (k : ℕ) (other : VersionId) → HasNoneLoose (data_of other (view_at old k).files) → HasNoneLoose (data_of other (view_at new k).files)
  loose_after k other x = record {
    manifest = ap (λ (n : Named LooseFile). n (loose_manifest_name other)) (loose_same k) ∙ x.manifest;
    shard = ap (λ (n : Named LooseFile). n (loose_shard_name other)) (loose_same k) ∙ x.shard;
  }

  pub met_after : (holding : Holding) (claim : Claim) → ((f : Flying) → Contains holding.flights f → f.id ≢ file.id) → IsMet set holding unseen old claim
      → IsMet set holding unseen new claim
  met_after holding claim apart x = record {
    flight = x.flight;
    pin = x.pin;
    staged = x.staged;
    works = λ s staged k inside in_use.
        let put = x.staged s staged in
        let other : s.id ≢ file.id = λ same. apart put.0 (x.flight put.0 put.1) (sym put.2 ∙ same) in
        subst (IsExpected (s.expected k)) (sym (cells_same s.id k inside in_use other)) (x.works s staged k inside in_use);
    known = x.known;
    unwritten = x.unwritten;
  }

-- ---- the data of the slots

-- no put under way has an id that is to be removed
flies_apart : (set : SetPlan) (slot last : ℕ) (records : Records) (state : State) (holding : Holding) (disks : Disks) (hands : Hands) (id : VersionId)
    → Contains hands.taken id → DataStands set slot last records state holding disks hands → (f : Flying) → Contains holding.flights f → f.id ≢ id
flies_apart set slot last records state holding disks hands id taken d f there same =
    d.in_hand.dead id taken (inl (id, inr (inr (inl (record { flight = f; there = there; id_is = same }))), inl refl))

other_apart : (set : SetPlan) (slot last : ℕ) (records : Records) (state : State) (holding : Holding) (disks : Disks) (hands : Hands) (id : VersionId)
    → id.slot ≢ slot → DataStands set slot last records state holding disks hands → (f : Flying) → Contains holding.flights f → f.id ≢ id
other_apart set slot last records state holding disks hands id wrong d f there same =
    wrong (subst (λ (y : VersionId). y.slot ≡ slot) same (d.flights.of_slot f there))

no_more : (hands : Hands) → hands_with hands [] ≡ hands
no_more hands = ap (λ l. record { taken = l; known = hands.known }) (append-nil hands.taken)

module _ (numbers : SlotNumbers) (holding : Holding) (records : Records) (state : State) (unseen : Disks) (front rest : List Claim) (claim : Claim)
    (left less : List FileOn) (old new : List DriveView) (one : RemovesOne left less old new)
    (due : (one.file.drive < numbers.set.drives) × (IsBitSet numbers.set.out one.file.drive → ⊥)) (own : one.file.id.slot ≡ claim.slot)
    (taken : claim.taken ≡ ids_of left) (stands : RecordsStand numbers holding records state)
    (d : DataHolds numbers holding unseen old (among front claim rest) records state) where
  abbrev index : ℕ
  index = numbers.index

  abbrev later : Claim
  later = with_taken claim (ids_of less)

  abbrev kept_was : Disks
  kept_was = disks_of unseen numbers.set.out old

  abbrev kept_now : Disks
  kept_now = disks_of unseen numbers.set.out new

  held : Contains claim.taken one.file.id
  held = subst (λ (l : List VersionId). Contains l one.file.id) (sym (taken ∙ ap ids_of one.first)) (first_there one.file.id (ids_of less))

  still_held : (id : VersionId) → Contains (ids_of less) id → Contains claim.taken id ⊎ Contains {X = VersionId} [] id
  still_held id there = inl (subst (λ (l : List VersionId). Contains l id) (sym (taken ∙ ap ids_of one.first)) (rest_there one.file.id (ids_of less) id there))

  -- of the slot of the op
  here : claim.slot ≡ index → DataHolds numbers holding unseen new (among front later rest) records state
  here same =
      let mine = at_own index front rest claim same in
      let then = at_own index front rest later same in
      let one_before = claims_at index front in
      let one_behind = claims_at index rest in
      let hands : Hands = hands_of (among one_before claim one_behind) in
      let d_stands : DataStands numbers.set index (last_of numbers) records state holding kept_was hands =
      subst (λ (l : List Claim). DataStands numbers.set index (last_of numbers) records state holding kept_was (hands_of l)) mine d.stands in
      let in_hand = own_in_hand one_before one_behind claim one.file.id held in
      let gone = is_removed numbers.set unseen left less old new d.tell one due in
      let d_removed = taken_is_removed numbers.set index (last_of numbers) records state holding kept_was kept_now hands one.file.id in_hand gone d_stands in
      let d_less = hands_on one_before one_behind claim (ids_of less) numbers.set index (last_of numbers) records state holding kept_now [] still_held
      (subst (λ (h : Hands). DataStands numbers.set index (last_of numbers) records state holding kept_now h) (sym (no_more hands)) d_removed) in
      let apart = flies_apart numbers.set index (last_of numbers) records state holding kept_was hands one.file.id in_hand d_stands in
      let met : (c : Claim) → Contains (among one_before claim one_behind) c → IsMet numbers.set holding unseen new c =
      λ c there. met_after numbers.set unseen left less old new d.tell one due holding c apart (d.met c (subst (λ (l : List Claim). Contains l c) (sym mine) there)) in
      record {
        tell = tell_after numbers.set unseen left less old new d.tell one due;
        stands = subst (λ (l : List Claim). DataStands numbers.set index (last_of numbers) records state holding kept_now (hands_of l)) (sym then) d_less;
        loose = λ k id inside in_use of above. loose_after numbers.set unseen left less old new d.tell one due k id (d.loose k id inside in_use of above);
        met = λ c there. each_on one_before one_behind claim (ids_of less) (IsMet numbers.set holding unseen new) (met_taken numbers.set holding unseen new claim (ids_of less)) met c
            (subst (λ (l : List Claim). Contains l c) then there);
        apart = subst AllApart (sym then) (apart_on one_before one_behind claim (ids_of less) (subst AllApart mine d.apart));
        flights_are = λ f there. subst (λ (l : List Claim). (c : Claim) × Contains l c × (c.flight ≡ Some f)) (sym then)
            (flight_stays one_before one_behind claim (with_taken claim (ids_of less)) f (λ is. is)
            (subst (λ (l : List Claim). (c : Claim) × Contains l c × (c.flight ≡ Some f)) mine (d.flights_are f there)));
        pins_are = λ p there. subst (λ (l : List Claim). (c : Claim) × Contains l c × (c.pin ≡ Some p)) (sym then)
            (pin_stays one_before one_behind claim (with_taken claim (ids_of less)) p (λ is. is)
            (subst (λ (l : List Claim). (c : Claim) × Contains l c × (c.pin ≡ Some p)) mine (d.pins_are p there)));
      }

  -- and of each other one
  elsewhere : claim.slot ≢ index → DataHolds numbers holding unseen new (among front later rest) records state
  elsewhere other =
      let same = at_other index front rest claim (ids_of less) other in
      let wrong : one.file.id.slot ≢ index = λ is. other (sym own ∙ is) in
      let hands : Hands = hands_of (claims_at index (among front claim rest)) in
      let gone = is_removed numbers.set unseen left less old new d.tell one due in
      let d_removed = removed_elsewhere numbers.set index (last_of numbers) records state holding kept_was kept_now hands one.file.id stands wrong gone d.stands in
      let apart = other_apart numbers.set index (last_of numbers) records state holding kept_was hands one.file.id wrong d.stands in
      record {
        tell = tell_after numbers.set unseen left less old new d.tell one due;
        stands = subst (λ (l : List Claim). DataStands numbers.set index (last_of numbers) records state holding kept_now (hands_of l)) (sym same) d_removed;
        loose = λ k id inside in_use of above. loose_after numbers.set unseen left less old new d.tell one due k id (d.loose k id inside in_use of above);
        met = λ c there. met_after numbers.set unseen left less old new d.tell one due holding c apart (d.met c (subst (λ (l : List Claim). Contains l c) same there));
        apart = subst AllApart (sym same) d.apart;
        flights_are = λ f there. subst (λ (l : List Claim). (c : Claim) × Contains l c × (c.flight ≡ Some f)) (sym same) (d.flights_are f there);
        pins_are = λ p there. subst (λ (l : List Claim). (c : Claim) × Contains l c × (c.pin ≡ Some p)) (sym same) (d.pins_are p there);
      }

  pub holds_after : DataHolds numbers holding unseen new (among front later rest) records state
  holds_after = elim (eqb_tells claim.slot index) [
    | inl same ↦ here same.1
    | inr other ↦ elsewhere other.1
  ]

-- a file of an id that an op took may be removed
taken_may : (file : FileOn) (claim : Claim) (made : MadeCall) (old new : DriveView) → Contains claim.taken file.id
    → RemoveCall (name_by file.kind file.id) made old new → MayCall claim made.call
taken_may file claim made old new held call = subst (MayCall claim) (sym call.is) (file.id, held, its_name file.kind file.id)

-- so a removal of a file of an id that an op took is a step of it
pub removal_is_call : (set : SetPlan) (slot : ℕ) (left less : List FileOn) (old new : List DriveView) (claim : Claim) → AreDue set slot left
    → claim.slot ≡ slot → claim.taken ≡ ids_of left → (one : RemovesOne left less old new)
    → CallMoves set one.file.drive one.made claim (with_taken claim (ids_of less)) old new
removal_is_call set slot left less old new claim all own taken one =
    let due : IsDue set slot one.file = All-contains (IsDue set slot) left one.file all
    (subst (λ (l : List FileOn). Contains l one.file) (sym one.first) (first_there one.file less)) in
    let held : Contains claim.taken one.file.id = subst (λ (l : List VersionId). Contains l one.file.id) (sym (taken ∙ ap ids_of one.first))
    (first_there one.file.id (ids_of less)) in
    record {
      within = one.within;
      in_use = due.in_use;
      was_made = one.call.was_made;
      may = taken_may one.file claim one.made _ _ held one.call;
      long = one.long;
      others = one.others;
      claims = record {
        slot = refl;
        flight = refl;
        pin = refl;
        taken = λ id there. subst (λ (l : List VersionId). Contains l id) (sym (taken ∙ ap ids_of one.first)) (rest_there one.file.id (ids_of less) id there);
      };
      written = λ unseen front rest mine says at kept_mine. removal_written (name_by one.file.kind one.file.id) one.made _ _ one.call says;
      holds = λ unseen front rest mine s at kept_mine kept.
          holds_after s.numbers s.holding s.records s.state unseen front rest claim left less old new one
          (subst (λ (p : SetPlan). (one.file.drive < p.drives) × (IsBitSet p.out one.file.drive → ⊥)) (sym kept.set_is) (due.within, due.in_use))
          (due.of_slot ∙ sym own) taken kept.stands kept.holds;
    }
