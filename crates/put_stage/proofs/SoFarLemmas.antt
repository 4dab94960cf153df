-- The calls of a drive so far, and one more.
use Rattle.std.proofs.Common.{◌≡◌, ◌∙◌, ◌<◌, ℕ, true, false, List, [], ◌∷◌, ◌++◌, append-nil, append_assoc, ap, ap₂, arith, length, refl, slice_index_or, subst, sym}
use Rattle.std.specs.Prelude.{Result, Ok, Err}
use Rattle.std.specs.List.{concat}
use Rattle.std.proofs.lemmas.List.{get_or-set_same, map_push}
use Rattle.std.proofs.lemmas.List.Folds.{concat-append}
use Rattle.call_types.specs.Good.{is_good}
use Rattle.call_types.specs.declared.why.Why.{Why}
use Rattle.call_types.specs.declared.why.Why.TheVariants.{Good, Failed, Damaged, Behind, Lacks}
use Rattle.stamp_id.specs.declared.version.VersionId.{VersionId}
use Rattle.drive_base.specs.Trail.{DriveCall, Append, Rename, Sync}
use Rattle.drive_base.specs.declared.fault.DriveFault.{DriveFault}
use Rattle.body_print.specs.Names.{loose_manifest_name, loose_shard_name, manifest_name, shard_name}
use Rattle.body_print.specs.Staging.{appends, staging_calls}
use Rattle.shard_file.specs.Shards.{shard_bytes, table_of}
use Rattle.file_access.specs.Trails.{AnswerOf}
use Rattle.put_stage.specs.CallsSoFar.{AppendsShard, CalledBefore, StepCallsElsewhere, StepCallsSo, WroteShard}
use Rattle.put_stage.specs.Calls.{IsDueCall}
use Rattle.put_stage.specs.StripeBlocks.{all_bytes, block_at}
use Rattle.put_stage.specs.Dues.{after, is_block, is_early}
use Rattle.put_stage.specs.Laws.{AllCallsAreStaging}
use Rattle.put_stage.specs.Work.{IsOpen, due_at, why_at}
use Rattle.put_stage.specs.declared.dues.Due.{Due}
use Rattle.put_stage.specs.declared.dues.Due.TheVariants.{Block, Table, SyncShard, Manifest, SyncManifest, PlaceManifest, PlaceShard, Nothing}
use Rattle.put_stage.specs.declared.stage.Load.{Load}
use Rattle.put_stage.proofs.StepLemmas.{open_block, other_due, other_why}

-- the one early call that is no block's
pub early_table : (due : Due) → is_early due ≡ true → is_block due ≡ false → due ≡ Table
early_table Block early not = absurd cc
early_table Table early not = refl
early_table SyncShard early not = absurd cc
early_table Manifest early not = absurd cc
early_table SyncManifest early not = absurd cc
early_table PlaceManifest early not = absurd cc
early_table PlaceShard early not = absurd cc
early_table Nothing early not = absurd cc

-- where all blocks so far were appended, the next one is due
pub more_due : (id : VersionId) (block : List ℕ) (blocks after : List (List ℕ)) (calls : List DriveCall) → concat after ≡ concat blocks ++ block
    → AppendsShard id [] (concat blocks) calls → AppendsShard id block (concat after) calls
more_due id block blocks after calls joined so = record {
  pieces = so.pieces;
  joined = ap (λ (front : List ℕ). front ++ block) (sym (append-nil (concat so.pieces)) ∙ so.joined) ∙ sym joined;
  are = so.are;
}

-- a piece more
with_piece : (pieces : List (List ℕ)) (piece : List ℕ) → concat (pieces ++ piece ∷ []) ++ [] ≡ concat pieces ++ piece
with_piece pieces piece = append-nil (concat (pieces ++ piece ∷ []))
    ∙ (concat-append pieces (piece ∷ []) ∙ ap (λ (last : List ℕ). concat pieces ++ last) (append-nil piece))

piece_called : (id : VersionId) (next front shard piece : List ℕ) (calls : List DriveCall) (so : AppendsShard id next front calls)
    → concat so.pieces ++ piece ≡ shard → AppendsShard id [] shard (calls ++ Append (loose_shard_name id) piece (Ok tt) ∷ [])
piece_called id next front shard piece calls so joined = record {
  pieces = so.pieces ++ piece ∷ [];
  joined = with_piece so.pieces piece ∙ joined;
  are = ap (λ (l : List DriveCall). l ++ Append (loose_shard_name id) piece (Ok tt) ∷ []) so.are
      ∙ sym (map_push (λ (p : List ℕ). Append (loose_shard_name id) p (Ok tt)) so.pieces piece);
}

-- the shard is made to last
shard_synced : (id : VersionId) (shard : List ℕ) (calls : List DriveCall) → AppendsShard id [] shard calls
    → WroteShard id shard [] (calls ++ Sync (loose_shard_name id) (Ok tt) ∷ [])
shard_synced id shard calls so = record {
  pieces = so.pieces;
  joined = sym (append-nil (concat so.pieces)) ∙ so.joined;
  are = ap (λ (l : List DriveCall). l ++ Sync (loose_shard_name id) (Ok tt) ∷ []) so.are;
}

-- a call more behind that
call_more : (id : VersionId) (shard : List ℕ) (more calls : List DriveCall) (call : DriveCall) → WroteShard id shard more calls
    → WroteShard id shard (more ++ call ∷ []) (calls ++ call ∷ [])
call_more id shard more calls call so = record {
  pieces = so.pieces;
  joined = so.joined;
  are = ap (λ (l : List DriveCall). l ++ call ∷ []) so.are
      ∙ append_assoc (appends (loose_shard_name id) so.pieces) (Sync (loose_shard_name id) (Ok tt) ∷ more) (call ∷ []);
}

-- the call that was due, answered Ok, by what it is
called_next : (due : Due) (load : Load) (k : ℕ) (blocks : List (List ℕ)) (calls : List DriveCall) (call : DriveCall)
    → slice_index_or (all_bytes load.tables.items) k [] ≡ table_of blocks → IsDueCall load k due (Ok tt) call
    → CalledBefore due load.names.id (block_at k load.window) load.made.manifest.items blocks calls
    → CalledBefore (after false due) load.names.id (block_at k load.window) load.made.manifest.items blocks (calls ++ call ∷ [])
called_next Block load k blocks calls call table is so =
    subst (λ (c : DriveCall). AppendsShard load.names.id [] (concat blocks) (calls ++ c ∷ [])) (sym is)
    (piece_called load.names.id (block_at k load.window) (concat blocks) (concat blocks) (block_at k load.window) calls so so.joined)
called_next Table load k blocks calls call table is so =
    subst (λ (c : DriveCall). AppendsShard load.names.id [] (shard_bytes blocks) (calls ++ c ∷ [])) (sym is)
    (piece_called load.names.id [] (concat blocks) (shard_bytes blocks) (slice_index_or (all_bytes load.tables.items) k []) calls so
    (ap₂ (λ (a b : List ℕ). a ++ b) (sym (append-nil (concat so.pieces)) ∙ so.joined) table))
called_next SyncShard load k blocks calls call table is so =
    subst (λ (c : DriveCall). WroteShard load.names.id (shard_bytes blocks) [] (calls ++ c ∷ [])) (sym is)
    (shard_synced load.names.id (shard_bytes blocks) calls so)
called_next Manifest load k blocks calls call table is so =
    subst (λ (c : DriveCall). CalledBefore SyncManifest load.names.id (block_at k load.window) load.made.manifest.items blocks (calls ++ c ∷ [])) (sym is)
    (call_more load.names.id (shard_bytes blocks) [] calls (Append (loose_manifest_name load.names.id) load.made.manifest.items (Ok tt)) so)
called_next SyncManifest load k blocks calls call table is so =
    subst (λ (c : DriveCall). CalledBefore PlaceManifest load.names.id (block_at k load.window) load.made.manifest.items blocks (calls ++ c ∷ [])) (sym is)
    (call_more load.names.id (shard_bytes blocks) (Append (loose_manifest_name load.names.id) load.made.manifest.items (Ok tt) ∷ []) calls
    (Sync (loose_manifest_name load.names.id) (Ok tt)) so)
called_next PlaceManifest load k blocks calls call table is so =
    subst (λ (c : DriveCall). CalledBefore PlaceShard load.names.id (block_at k load.window) load.made.manifest.items blocks (calls ++ c ∷ [])) (sym is)
    (call_more load.names.id (shard_bytes blocks) (Append (loose_manifest_name load.names.id) load.made.manifest.items (Ok tt)
    ∷ Sync (loose_manifest_name load.names.id) (Ok tt) ∷ []) calls (Rename (loose_manifest_name load.names.id) (manifest_name load.names.id) (Ok tt)) so)
called_next PlaceShard load k blocks calls call table is so =
    subst (λ (c : DriveCall). CalledBefore Nothing load.names.id (block_at k load.window) load.made.manifest.items blocks (calls ++ c ∷ [])) (sym is)
    (let last = call_more load.names.id (shard_bytes blocks) (Append (loose_manifest_name load.names.id) load.made.manifest.items (Ok tt)
    ∷ Sync (loose_manifest_name load.names.id) (Ok tt) ∷ Rename (loose_manifest_name load.names.id) (manifest_name load.names.id) (Ok tt) ∷ []) calls
    (Rename (loose_shard_name load.names.id) (shard_name load.names.id) (Ok tt)) so in (last.pieces, last.joined, last.are))
called_next Nothing load k blocks calls call table is so = absurd is

-- a letter other than Good says that the drive doesn't serve
not_serving : (why : Why) (given : Result (Unit {0}) DriveFault) → AnswerOf {T = Unit {0}} (Err why) given → is_good why ≡ true → ⊥
not_serving Good given answered serves = absurd answered
not_serving (Failed b a) given answered serves = absurd cc
not_serving (Damaged damage) given answered serves = absurd cc
not_serving (Behind ballot) given answered serves = absurd cc
not_serving (Lacks kind) given answered serves = absurd cc

pub step_calls_so : StepCallsSo
step_calls_so old new k (Ok done) call given blocks calls load due placed (letters, dues) is answered (alone, table) so =
    let next : due_at new k ≡ after old.load.alone (due_at old k) =
    ap (λ (all : List Due). slice_index_or all k Nothing) dues ∙ get_or-set_same old.dues k (after old.load.alone (due_at old k)) Nothing placed in
    let by_false : due_at new k ≡ after false (due_at old k) = next ∙ ap (λ b. after b (due_at old k)) alone in
    record {
      early = λ unsettled. ap is_early (next ∙ ap (after old.load.alone) (open_block old k due (subst IsOpen load unsettled)));
      before = λ serves.
          subst (λ (l : Load). CalledBefore (due_at new k) l.names.id (block_at k l.window) l.made.manifest.items blocks (calls ++ call ∷ [])) (sym load)
          (subst (λ (d : Due). CalledBefore d old.load.names.id (block_at k old.load.window) old.load.made.manifest.items blocks (calls ++ call ∷ [])) (sym by_false)
          (called_next (due_at old k) old.load k blocks calls call table
          (subst (λ (g : Result (Unit {0}) DriveFault). IsDueCall old.load k (due_at old k) g call) answered is) (so.before due.serves)));
    }
step_calls_so old new k (Err why) call given blocks calls load due placed (letters, dues) is answered of so =
    let here : k < length old.whys = omega (arith, old.letters, due.within) in
    let same : due_at new k ≡ due_at old k = ap (λ (all : List Due). slice_index_or all k Nothing) dues in
    let letter : why_at new k ≡ why =
    ap (λ (all : List Why). slice_index_or all k Good) letters ∙ get_or-set_same old.whys k why Good here in
    record {
      early = λ unsettled. ap is_early (same ∙ open_block old k due (subst IsOpen load unsettled));
      before = λ serves. absurd (not_serving why given answered (ap is_good (sym letter) ∙ serves));
    }

pub step_calls_elsewhere : StepCallsElsewhere
step_calls_elsewhere old new k other answer blocks calls load is apart so =
    let why = other_why answer k other old new apart is in
    let due = other_due answer k other old new apart is in
    record {
      early = λ unsettled. ap is_early due ∙ so.early (subst IsOpen load unsettled);
      before = λ serves.
          subst (λ (l : Load). CalledBefore (due_at new other) l.names.id (block_at other l.window) l.made.manifest.items blocks calls) (sym load)
          (subst (λ (d : Due). CalledBefore d old.load.names.id (block_at other old.load.window) old.load.made.manifest.items blocks calls) (sym due)
          (so.before (ap is_good (sym why) ∙ serves)));
    }

pub all_calls_are_staging : AllCallsAreStaging
all_calls_are_staging stage body shards k calls taken whole serves over so =
    let done = subst (λ (d : Due). CalledBefore d stage.load.names.id (block_at k stage.load.window) stage.load.made.manifest.items (slice_index_or shards k []) calls)
    over (so.before serves) in (
      done.0,
      done.1,
      done.2 ∙ ap (λ (m : List ℕ). staging_calls stage.load.names.id done.0 m) (taken.made whole).manifest,
    )
