-- The call that a step of a stage makes, what it tells, and the letters of a put.
use Rattle.std.proofs.Common.{◌≡◌, ◌⊎◌, ◌<◌, ℕ, Bool, List, [], ◌∷◌, ◌++◌, Some, slice_index, inl, inr, refl, sym, ap, subst, subst₂, arith}
use Rattle.std.specs.Prelude.{Result, Ok, Err}
use Rattle.std.proofs.lemmas.List.Elements.{Contains-push}
use Rattle.body_print.specs.Names.{loose_manifest_name, loose_shard_name, manifest_name, shard_name}
use Rattle.call_types.specs.declared.why.FileKind.{FileKind}
use Rattle.call_types.specs.declared.why.FileKind.TheVariants.{Format, Register, Manifest as ManifestKind, Shard as ShardKind}
use Rattle.call_types.specs.declared.why.Why.{Why}
use Rattle.call_types.specs.declared.why.Why.TheVariants.{Good, Failed, Damaged, Behind, Lacks}
use Rattle.drive_base.specs.Calls.{AnswerTells, MadeCall, Seen, Tells, WasMade, bytes_read}
use Rattle.drive_base.specs.Calls.Seen.{Faulted, Unwritten}
use Rattle.drive_base.specs.Trail.{DriveCall, Append, Rename, Sync}
use Rattle.drive_base.specs.View.{DriveView}
use Rattle.drive_base.specs.declared.fault.DriveFault.{DriveFault}
use Rattle.drive_base.specs.declared.fault.DriveFault.TheVariants as fault
use Rattle.drive_base.specs.declared.plan.SetPlan.{SetPlan}
use Rattle.file_access.specs.Trails.{AnswerOf}
use Rattle.put_stage.specs.Calls.{CallsDue, IsDueCall}
use Rattle.put_stage.specs.Cells.{DataCells}
use Rattle.put_stage.specs.Steps.{LacksFor, LetterOf}
use Rattle.put_stage.specs.declared.dues.Due.{Due}
use Rattle.put_stage.specs.declared.dues.Due.TheVariants.{Block, Table, SyncShard, Manifest, SyncManifest, PlaceManifest, PlaceShard, Nothing}
use Rattle.put_stage.specs.declared.stage.Load.{Load}
use Rattle.stamp_id.specs.declared.version.VersionId.{VersionId}
use Rattle.slot_history.specs.Standing.{Flying}
use Rattle.receipts.specs.Events.{Log, Saw}
use Rattle.receipts.specs.Events.Event.{Called}
use Rattle.receipts.specs.Letters.{IsInUse, StageLetter}
use Rattle.receipts.proofs.GrowLemmas.{saw_more}
use Rattle.op_steps.specs.Calls.{MayCall}
use Rattle.op_steps.specs.Claims.{Claim}
use Rattle.op_steps.specs.Moves.{SaysUnwritten}
use Rattle.object_ops.proofs.CallLemmas.{told_unwritten}

-- ---- what answers of calls tell

-- a call that told that nothing was being written found no file
only_absent : (P : Result (Unit {0}) DriveFault → Type 0) (answer : Result (Unit {0}) DriveFault) → ((done : Unit {0}) → P (Ok done) → ⊥)
    → (P (Err fault.Failed) → ⊥) → (P (Err fault.NoMemory) → ⊥) → P answer → answer ≡ Err fault.Absent
only_absent P (Ok done) ok failed memory is = absurd (ok done is)
only_absent P (Err fault.Absent) ok failed memory is = refl
only_absent P (Err fault.Failed) ok failed memory is = absurd (failed is)
only_absent P (Err fault.NoMemory) ok failed memory is = absurd (memory is)

append_absent : (answer : Result (Unit {0}) DriveFault) (loose bytes told : List ℕ) (call : DriveCall) (before after : ℕ) → call ≡ Append loose bytes answer
    → AnswerTells call before after (Unwritten told) → answer ≡ Err fault.Absent
append_absent answer loose bytes told call before after is tells =
    only_absent (λ a. AnswerTells (Append loose bytes a) before after (Unwritten told)) answer (λ done none. none)
    (λ other. told_unwritten told (Faulted loose before after) other) (λ none. none) (subst (λ c. AnswerTells c before after (Unwritten told)) is tells)

sync_absent : (answer : Result (Unit {0}) DriveFault) (loose told : List ℕ) (call : DriveCall) (before after : ℕ) → call ≡ Sync loose answer
    → AnswerTells call before after (Unwritten told) → answer ≡ Err fault.Absent
sync_absent answer loose told call before after is tells =
    only_absent (λ a. AnswerTells (Sync loose a) before after (Unwritten told)) answer (λ done none. none)
    (λ other. told_unwritten told (Faulted loose before after) other) (λ none. none) (subst (λ c. AnswerTells c before after (Unwritten told)) is tells)

rename_absent : (answer : Result (Unit {0}) DriveFault) (loose name told : List ℕ) (call : DriveCall) (before after : ℕ) → call ≡ Rename loose name answer
    → AnswerTells call before after (Unwritten told) → answer ≡ Err fault.Absent
rename_absent answer loose name told call before after is tells =
    only_absent (λ a. AnswerTells (Rename loose name a) before after (Unwritten told)) answer (λ done none. none)
    (λ other. told_unwritten told (Faulted loose before after) other) (λ none. none) (subst (λ c. AnswerTells c before after (Unwritten told)) is tells)

-- ---- the call that is due

-- the loose name that it is of
abbrev loose_by : Due → VersionId → List ℕ
loose_by Block id = loose_shard_name id
loose_by Table id = loose_shard_name id
loose_by SyncShard id = loose_shard_name id
loose_by Manifest id = loose_manifest_name id
loose_by SyncManifest id = loose_manifest_name id
loose_by PlaceManifest id = loose_manifest_name id
loose_by PlaceShard id = loose_shard_name id
loose_by Nothing id = loose_shard_name id

module _ (load : Load) (k : ℕ) where
  -- it reads no bytes
  reads_none : (due : Due) (answer : Result (Unit {0}) DriveFault) (call : DriveCall) → IsDueCall load k due answer call → bytes_read call ≡ []
  reads_none Block answer call is = ap bytes_read is
  reads_none Table answer call is = ap bytes_read is
  reads_none SyncShard answer call is = ap bytes_read is
  reads_none Manifest answer call is = ap bytes_read is
  reads_none SyncManifest answer call is = ap bytes_read is
  reads_none PlaceManifest answer call is = ap bytes_read is
  reads_none PlaceShard answer call is = ap bytes_read is
  reads_none Nothing answer call is = absurd is

  -- where it failed it tells so
  failed_tells : (due : Due) (call : DriveCall) (before after : ℕ) → IsDueCall load k due (Err fault.Failed) call
      → AnswerTells call before after (Faulted (loose_by due load.names.id) before after)
  failed_tells Block call before after is = subst (λ c. AnswerTells c before after (Faulted (loose_shard_name load.names.id) before after)) (sym is) refl
  failed_tells Table call before after is = subst (λ c. AnswerTells c before after (Faulted (loose_shard_name load.names.id) before after)) (sym is) refl
  failed_tells SyncShard call before after is = subst (λ c. AnswerTells c before after (Faulted (loose_shard_name load.names.id) before after)) (sym is) refl
  failed_tells Manifest call before after is = subst (λ c. AnswerTells c before after (Faulted (loose_manifest_name load.names.id) before after)) (sym is) refl
  failed_tells SyncManifest call before after is = subst (λ c. AnswerTells c before after (Faulted (loose_manifest_name load.names.id) before after)) (sym is) refl
  failed_tells PlaceManifest call before after is = subst (λ c. AnswerTells c before after (Faulted (loose_manifest_name load.names.id) before after)) (sym is) refl
  failed_tells PlaceShard call before after is = subst (λ c. AnswerTells c before after (Faulted (loose_shard_name load.names.id) before after)) (sym is) refl
  failed_tells Nothing call before after is = absurd is

  -- and so it does where its file isn't there
  absent_tells : (due : Due) (call : DriveCall) (before after : ℕ) → IsDueCall load k due (Err fault.Absent) call
      → AnswerTells call before after (Unwritten (loose_by due load.names.id))
  absent_tells Block call before after is = subst (λ c. AnswerTells c before after (Unwritten (loose_shard_name load.names.id))) (sym is) refl
  absent_tells Table call before after is = subst (λ c. AnswerTells c before after (Unwritten (loose_shard_name load.names.id))) (sym is) refl
  absent_tells SyncShard call before after is = subst (λ c. AnswerTells c before after (Unwritten (loose_shard_name load.names.id))) (sym is) refl
  absent_tells Manifest call before after is = subst (λ c. AnswerTells c before after (Unwritten (loose_manifest_name load.names.id))) (sym is) refl
  absent_tells SyncManifest call before after is = subst (λ c. AnswerTells c before after (Unwritten (loose_manifest_name load.names.id))) (sym is) refl
  absent_tells PlaceManifest call before after is = subst (λ c. AnswerTells c before after (Unwritten (loose_manifest_name load.names.id))) (sym is) refl
  absent_tells PlaceShard call before after is = subst (λ c. AnswerTells c before after (Unwritten (loose_shard_name load.names.id))) (sym is) refl
  absent_tells Nothing call before after is = absurd is

  -- and nowhere else
  tells_absent : (due : Due) (answer : Result (Unit {0}) DriveFault) (call : DriveCall) (told : List ℕ) (before after : ℕ)
      → IsDueCall load k due answer call → AnswerTells call before after (Unwritten told) → answer ≡ Err fault.Absent
  tells_absent Block answer call told before after is tells = append_absent answer _ _ told call before after is tells
  tells_absent Table answer call told before after is tells = append_absent answer _ _ told call before after is tells
  tells_absent SyncShard answer call told before after is tells = sync_absent answer _ told call before after is tells
  tells_absent Manifest answer call told before after is tells = append_absent answer _ _ told call before after is tells
  tells_absent SyncManifest answer call told before after is tells = sync_absent answer _ told call before after is tells
  tells_absent PlaceManifest answer call told before after is tells = rename_absent answer _ _ told call before after is tells
  tells_absent PlaceShard answer call told before after is tells = rename_absent answer _ _ told call before after is tells
  tells_absent Nothing answer call told before after is tells = absurd is

  -- a put may make it
  pub due_may : (due : Due) (answer : Result (Unit {0}) DriveFault) (call : DriveCall) (claim : Claim) (f : Flying) → claim.flight ≡ Some f
      → load.names.id ≡ f.id → IsDueCall load k due answer call → MayCall claim call
  due_may Block answer call claim f flies id is = subst (MayCall claim) (sym is) (f, flies, inr (ap loose_shard_name id))
  due_may Table answer call claim f flies id is = subst (MayCall claim) (sym is) (f, flies, inr (ap loose_shard_name id))
  due_may SyncShard answer call claim f flies id is = subst (MayCall claim) (sym is) (f, flies, inr (ap loose_shard_name id))
  due_may Manifest answer call claim f flies id is = subst (MayCall claim) (sym is) (f, flies, inl (ap loose_manifest_name id))
  due_may SyncManifest answer call claim f flies id is = subst (MayCall claim) (sym is) (f, flies, inl (ap loose_manifest_name id))
  due_may PlaceManifest answer call claim f flies id is = subst (MayCall claim) (sym is) (f, flies, inl (ap loose_manifest_name id, ap manifest_name id))
  due_may PlaceShard answer call claim f flies id is = subst (MayCall claim) (sym is) (f, flies, inr (ap loose_shard_name id, ap shard_name id))
  due_may Nothing answer call claim f flies id is = absurd is

-- ---- the call of a step

-- a call lacks one of the two loose files
lacks_either : (due : Due) (kind : FileKind) (told : Bool) (cells : DataCells) → LacksFor due kind told cells → (kind ≡ ManifestKind) ⊎ (kind ≡ ShardKind)
lacks_either Block kind told cells is = absurd is
lacks_either Table kind told cells is = absurd is
lacks_either SyncShard kind told cells is = inr is.0
lacks_either Manifest kind told cells is = absurd is
lacks_either SyncManifest kind told cells is = inl is.0
lacks_either PlaceManifest kind told cells is = inl is.0
lacks_either PlaceShard kind told cells is = inr is.0
lacks_either Nothing kind told cells is = absurd is

module _ (load : Load) (k : ℕ) (due : Due) (result : Result (Unit {0}) Why) (old new : DriveView) (x : CallsDue load k due result old new) where
  -- with the drive's counts
  abbrev pub made_by : MadeCall
  made_by = record { call = x.call; before = old.count; after = new.count }

  none_read : (place : ℕ) → slice_index (bytes_read x.call) place < 256
  none_read place = subst (λ (b : List ℕ). slice_index b place < 256) (sym (reads_none load k due x.answer x.call x.is_due)) (omega arith)

  pub step_was_made : WasMade made_by old new
  step_was_made = record { model = x.model; before = refl; after = refl; bytes = none_read }

  -- where it told that nothing was being written it lacked one of the two
  pub unwritten_lacks : (told : Bool) (cells : DataCells) → LetterOf result due told cells old.count new.count → SaysUnwritten made_by
      → (result ≡ Err (Lacks ManifestKind)) ⊎ (result ≡ Err (Lacks ShardKind))
  unwritten_lacks told cells letter says = by result x.answered letter
    where
      absent : x.answer ≡ Err fault.Absent
      absent = tells_absent load k due x.answer x.call says.0 old.count new.count x.is_due says.1

      by : (a : Result (Unit {0}) Why) → AnswerOf a x.answer → LetterOf a due told cells old.count new.count
          → (a ≡ Err (Lacks ManifestKind)) ⊎ (a ≡ Err (Lacks ShardKind))
      by (Ok done) answered is = let other : x.answer ≡ Ok done = answered in let none : x.answer ≡ Err fault.Absent = absent in absurd cc
      by (Err Good) answered is = absurd answered
      by (Err (Failed b c)) answered is =
          let other : x.answer ≡ Err fault.Failed = answered in let none : x.answer ≡ Err fault.Absent = absent in absurd cc
      by (Err (Damaged damage)) answered is = absurd answered
      by (Err (Behind ballot)) answered is = absurd answered
      by (Err (Lacks kind)) answered is = elim (lacks_either due kind told cells is.0) [
        | inl manifest ↦ inl (ap (λ (f : FileKind). Err (Lacks f)) manifest)
        | inr shard ↦ inr (ap (λ (f : FileKind). Err (Lacks f)) shard)
      ]

-- ---- letters

module _ (set : SetPlan) (id : VersionId) (k : ℕ) (log : Log) (in_use : IsInUse set k) where
  -- a call on one of them failed
  failed_letter : (due : Due) (before after : ℕ) → Saw log k (Faulted (loose_by due id) before after) → StageLetter set id log k (Failed before after)
  failed_letter Block before after saw = (in_use, inl saw)
  failed_letter Table before after saw = (in_use, inl saw)
  failed_letter SyncShard before after saw = (in_use, inl saw)
  failed_letter Manifest before after saw = (in_use, inr saw)
  failed_letter SyncManifest before after saw = (in_use, inr saw)
  failed_letter PlaceManifest before after saw = (in_use, inr saw)
  failed_letter PlaceShard before after saw = (in_use, inl saw)
  failed_letter Nothing before after saw = (in_use, inl saw)

  -- or lacked it
  lacked_letter : (due : Due) (kind : FileKind) (told : Bool) (cells : DataCells) → LacksFor due kind told cells → Saw log k (Unwritten (loose_by due id))
      → StageLetter set id log k (Lacks kind)
  lacked_letter Block kind told cells is saw = absurd is
  lacked_letter Table kind told cells is saw = absurd is
  lacked_letter SyncShard kind told cells is saw = subst (λ x. StageLetter set id log k (Lacks x)) (sym is.0) (in_use, saw)
  lacked_letter Manifest kind told cells is saw = absurd is
  lacked_letter SyncManifest kind told cells is saw = subst (λ x. StageLetter set id log k (Lacks x)) (sym is.0) (in_use, saw)
  lacked_letter PlaceManifest kind told cells is saw = subst (λ x. StageLetter set id log k (Lacks x)) (sym is.0) (in_use, saw)
  lacked_letter PlaceShard kind told cells is saw = subst (λ x. StageLetter set id log k (Lacks x)) (sym is.0) (in_use, saw)
  lacked_letter Nothing kind told cells is saw = absurd is

-- the letter of a call that failed has its event
module _ (set : SetPlan) (load : Load) (k : ℕ) (due : Due) (made : MadeCall) (answer : Result (Unit {0}) DriveFault) (log : Log) (in_use : IsInUse set k)
    (is_due : IsDueCall load k due answer made.call) where
  -- it told so in the log
  just_saw : (seen : Seen) → Tells made seen → Saw (log ++ Called k made ∷ []) k seen
  just_saw seen tells = record { made = made; called = Contains-push log (Called k made); tells = tells }

  pub new_letter : (why : Why) (told : Bool) (cells : DataCells) → AnswerOf (Err why) answer → LetterOf (Err why) due told cells made.before made.after
      → StageLetter set load.names.id (log ++ Called k made ∷ []) k why
  new_letter Good told cells answered is = absurd is
  new_letter (Failed b a) told cells answered is =
      let tells = failed_tells load k due made.call made.before made.after (subst (λ r. IsDueCall load k due r made.call) answered is_due) in
      failed_letter set load.names.id k (log ++ Called k made ∷ []) in_use due b a
      (just_saw (Faulted (loose_by due load.names.id) b a)
      (subst₂ (λ (x y : ℕ). AnswerTells made.call made.before made.after (Faulted (loose_by due load.names.id) x y)) (sym is.0) (sym is.1) tells))
  new_letter (Damaged damage) told cells answered is = absurd is
  new_letter (Behind ballot) told cells answered is = absurd is
  new_letter (Lacks kind) told cells answered is =
      let tells = absent_tells load k due made.call made.before made.after (subst (λ r. IsDueCall load k due r made.call) answered is_due) in
      lacked_letter set load.names.id k (log ++ Called k made ∷ []) in_use due kind told cells is.0 (just_saw (Unwritten (loose_by due load.names.id)) tells)

-- a letter stays as the log grows
pub letter_grows : (set : SetPlan) (id : VersionId) (log more : Log) (k : ℕ) (why : Why) → StageLetter set id log k why → StageLetter set id (log ++ more) k why
letter_grows set id log more k Good is = is
letter_grows set id log more k (Failed b a) is = (
  is.0,
  elim is.1 [
    | inl shard ↦ inl (saw_more log more k (Faulted (loose_shard_name id) b a) shard)
    | inr manifest ↦ inr (saw_more log more k (Faulted (loose_manifest_name id) b a) manifest)
  ],
)
letter_grows set id log more k (Damaged damage) is = absurd is
letter_grows set id log more k (Behind ballot) is = absurd is
letter_grows set id log more k (Lacks Format) is = is
letter_grows set id log more k (Lacks Register) is = absurd is
letter_grows set id log more k (Lacks ManifestKind) is = (is.0, saw_more log more k (Unwritten (loose_manifest_name id)) is.1)
letter_grows set id log more k (Lacks ShardKind) is = (is.0, saw_more log more k (Unwritten (loose_shard_name id)) is.1)
