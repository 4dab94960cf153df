-- One call of a drive, by the call that is due.
use Rattle.std.proofs.Common.{◌≡◌, ◌∙◌, ℕ, true, false, List, ap, refl, subst, sym, inl, inr}
use Rattle.std.specs.Prelude.{IsTrue, Ok, OnOk}
use Rattle.call_types.specs.declared.why.FileKind.TheVariants as kind
use Rattle.drive_base.specs.View.{view}
use Rattle.file_access.specs.Writing.{Appended}
use Rattle.put_stage.specs.Cells.{DataCells, data_of}
use Rattle.put_stage.specs.StripeBlocks.{block_at}
use Rattle.put_stage.specs.Dues.{is_nothing}
use Rattle.put_stage.specs.Steps.{HasAfter, LetterOf}
use Rattle.put_stage.specs.Work.{IsBefore}
use Rattle.put_stage.specs.declared.dues.Due.{Due}
use Rattle.put_stage.specs.declared.dues.Due.TheVariants as due
use Rattle.put_stage.proofs.CallLemmas.{block_call, append_letter, manifest_call, place_manifest_letter, place_shard_letter, sync_manifest_letter, sync_shard_letter, of_alone, of_body, of_table, place_manifest_call, place_shard_call, sync_manifest_call, sync_shard_call, table_call}
use Rattle.put_stage.proofs.CalledLemmas.{called_block, called_manifest, called_place_manifest, called_place_shard, called_sync_manifest, called_sync_shard, called_table}
use Rattle.put_stage.proofs.SparesLemmas.{append_spares, place_spares, sync_spares}
use Rattle.put_stage.proofs.steps.call_on.Goals as goal

pub returns-in-Block-clause-works : goal.returns-in-Block-clause-works
returns-in-Block-clause-works g c = λ blocks first is tells was.
    let D = g.D.Drive in
    let old = D.files c.args.drive.now in
    let new = D.files c.append_on.new.drive in
    let told = D.tells c.args.drive.now in
    let id = c.args.load.now.names.id in
    let next : List ℕ = block_at c.args.index c.args.load.now.window in
    let manifest : List ℕ = c.args.load.now.made.manifest.items in
    let ok : OnOk c.append_on.result (IsTrue told → Appended c.as_str-shard.result.now next old new) =
    subst (λ (b : List ℕ). OnOk c.append_on.result (IsTrue told → Appended c.as_str-shard.result.now b old new)) c.block.ensures c.append_on.ensures.ok in
    let here : IsBefore due.Block next manifest blocks first (data_of id old) =
    subst (λ (d : Due). IsBefore d next manifest blocks first (data_of id old)) c.in-Block.is was in
    subst (λ (d : Due). HasAfter c.append_on.result c.args.load.now.alone d next manifest blocks first (data_of id new)) (sym c.in-Block.is)
    (block_call id told c.args.load.now.alone next manifest first old new (D.count c.args.drive.now) (D.count c.append_on.new.drive)
    c.as_str-shard.result.now kind.Shard blocks c.append_on.result (c.as_str-shard.ensures.value ∙ c.args.load.now.names.loose_shard_is)
    ok c.append_on.ensures.err c.append_on.ensures.cause tells here)

pub returns-in-Block-clause-spares : goal.returns-in-Block-clause-spares
returns-in-Block-clause-spares g c = λ tells.
    let D = g.D.Drive in
    let old = D.files c.args.drive.now in
    let new = D.files c.append_on.new.drive in
    let told = D.tells c.args.drive.now in
    append_spares c.args.load.now.names.id told old new c.as_str-shard.result.now c.block.result.now c.append_on.result
    (inr (c.as_str-shard.ensures.value ∙ c.args.load.now.names.loose_shard_is)) c.append_on.ensures.ok c.append_on.ensures.err tells

pub returns-in-Block-clause-letter : goal.returns-in-Block-clause-letter
returns-in-Block-clause-letter g c =
    let D = g.D.Drive in
    let id = c.args.load.now.names.id in
    let old = D.files c.args.drive.now in
    let told = D.tells c.args.drive.now in
    subst (λ (d : Due). LetterOf c.append_on.result d told (data_of id old) (D.count c.args.drive.now) (D.count c.append_on.new.drive)) (sym c.in-Block.is)
    (append_letter due.Block told (data_of id old) kind.Shard c.append_on.result (D.count c.args.drive.now) (D.count c.append_on.new.drive) c.append_on.ensures.cause)

pub returns-in-Block-clause-called : goal.returns-in-Block-clause-called
returns-in-Block-clause-called g c = λ some.
    called_block c.args.load.now c.args.index c.args.due c.append_on.result (view g.D.Drive c.args.drive.now) (view g.D.Drive c.append_on.new.drive)
    c.as_str-shard.result.now c.block.result.now c.in-Block.is (c.as_str-shard.ensures.value ∙ c.args.load.now.names.loose_shard_is) c.block.ensures c.append_on.ensures.called

pub returns-in-Block-clause-goes_on : goal.returns-in-Block-clause-goes_on
returns-in-Block-clause-goes_on g c = record { tells = c.append_on.ensures.tells; count = c.append_on.ensures.count }

pub returns-in-Table-clause-works : goal.returns-in-Table-clause-works
returns-in-Table-clause-works g c = λ blocks first is tells was.
    let D = g.D.Drive in
    let old = D.files c.args.drive.now in
    let new = D.files c.append_on-in-Table.new.drive in
    let told = D.tells c.args.drive.now in
    let id = c.args.load.now.names.id in
    let next : List ℕ = block_at c.args.index c.args.load.now.window in
    let manifest : List ℕ = c.args.load.now.made.manifest.items in
    let here : IsBefore due.Table next manifest blocks first (data_of id old) =
    subst (λ (d : Due). IsBefore d next manifest blocks first (data_of id old)) c.in-Table.is was in
    subst (λ (d : Due). HasAfter c.append_on-in-Table.result c.args.load.now.alone d next manifest blocks first (data_of id new)) (sym c.in-Table.is)
    (table_call id told c.args.load.now.alone next manifest first old new (D.count c.args.drive.now) (D.count c.append_on-in-Table.new.drive)
    c.as_str-shard.result.now c.table.result.now kind.Shard blocks c.append_on-in-Table.result (c.as_str-shard.ensures.value ∙ c.args.load.now.names.loose_shard_is) (λ all same. c.table.ensures ∙ of_table c.args.load.now c.args.index blocks is all same)
    c.append_on-in-Table.ensures.ok c.append_on-in-Table.ensures.err c.append_on-in-Table.ensures.cause tells here)

pub returns-in-Table-clause-spares : goal.returns-in-Table-clause-spares
returns-in-Table-clause-spares g c = λ tells.
    let D = g.D.Drive in
    let old = D.files c.args.drive.now in
    let new = D.files c.append_on-in-Table.new.drive in
    let told = D.tells c.args.drive.now in
    append_spares c.args.load.now.names.id told old new c.as_str-shard.result.now c.table.result.now c.append_on-in-Table.result
    (inr (c.as_str-shard.ensures.value ∙ c.args.load.now.names.loose_shard_is)) c.append_on-in-Table.ensures.ok c.append_on-in-Table.ensures.err tells

pub returns-in-Table-clause-letter : goal.returns-in-Table-clause-letter
returns-in-Table-clause-letter g c =
    let D = g.D.Drive in
    let id = c.args.load.now.names.id in
    let old = D.files c.args.drive.now in
    let told = D.tells c.args.drive.now in
    subst (λ (d : Due). LetterOf c.append_on-in-Table.result d told (data_of id old) (D.count c.args.drive.now) (D.count c.append_on-in-Table.new.drive)) (sym c.in-Table.is)
    (append_letter due.Table told (data_of id old) kind.Shard c.append_on-in-Table.result (D.count c.args.drive.now) (D.count c.append_on-in-Table.new.drive) c.append_on-in-Table.ensures.cause)

pub returns-in-Table-clause-called : goal.returns-in-Table-clause-called
returns-in-Table-clause-called g c = λ some.
    called_table c.args.load.now c.args.index c.args.due c.append_on-in-Table.result (view g.D.Drive c.args.drive.now) (view g.D.Drive c.append_on-in-Table.new.drive)
    c.as_str-shard.result.now c.table.result.now c.in-Table.is (c.as_str-shard.ensures.value ∙ c.args.load.now.names.loose_shard_is) c.table.ensures c.append_on-in-Table.ensures.called

pub returns-in-Table-clause-goes_on : goal.returns-in-Table-clause-goes_on
returns-in-Table-clause-goes_on g c = record { tells = c.append_on-in-Table.ensures.tells; count = c.append_on-in-Table.ensures.count }

pub returns-in-SyncShard-clause-works : goal.returns-in-SyncShard-clause-works
returns-in-SyncShard-clause-works g c = λ blocks first is tells was.
    let D = g.D.Drive in
    let old = D.files c.args.drive.now in
    let new = D.files c.sync_on.new.drive in
    let told = D.tells c.args.drive.now in
    let id = c.args.load.now.names.id in
    let next : List ℕ = block_at c.args.index c.args.load.now.window in
    let manifest : List ℕ = c.args.load.now.made.manifest.items in
    let here : IsBefore due.SyncShard next manifest blocks first (data_of id old) =
    subst (λ (d : Due). IsBefore d next manifest blocks first (data_of id old)) c.in-SyncShard.is was in
    subst (λ (d : Due). HasAfter c.sync_on.result c.args.load.now.alone d next manifest blocks first (data_of id new)) (sym c.in-SyncShard.is)
    (sync_shard_call id told c.args.load.now.alone next manifest first old new (D.count c.args.drive.now) (D.count c.sync_on.new.drive)
    c.as_str-shard.result.now kind.Shard blocks c.sync_on.result (c.as_str-shard.ensures.value ∙ c.args.load.now.names.loose_shard_is)
    c.sync_on.ensures.ok c.sync_on.ensures.err c.sync_on.ensures.cause tells here)

pub returns-in-SyncShard-clause-spares : goal.returns-in-SyncShard-clause-spares
returns-in-SyncShard-clause-spares g c = λ tells.
    let D = g.D.Drive in
    let old = D.files c.args.drive.now in
    let new = D.files c.sync_on.new.drive in
    let told = D.tells c.args.drive.now in
    sync_spares c.args.load.now.names.id told old new c.as_str-shard.result.now c.sync_on.result
    (inr (c.as_str-shard.ensures.value ∙ c.args.load.now.names.loose_shard_is)) c.sync_on.ensures.ok c.sync_on.ensures.err tells

pub returns-in-SyncShard-clause-letter : goal.returns-in-SyncShard-clause-letter
returns-in-SyncShard-clause-letter g c =
    let D = g.D.Drive in
    let id = c.args.load.now.names.id in
    let old = D.files c.args.drive.now in
    let told = D.tells c.args.drive.now in
    subst (λ (d : Due). LetterOf c.sync_on.result d told (data_of id old) (D.count c.args.drive.now) (D.count c.sync_on.new.drive)) (sym c.in-SyncShard.is)
    (sync_shard_letter id told old c.as_str-shard.result.now c.sync_on.result (D.count c.args.drive.now) (D.count c.sync_on.new.drive)
    (c.as_str-shard.ensures.value ∙ c.args.load.now.names.loose_shard_is) c.sync_on.ensures.cause)

pub returns-in-SyncShard-clause-called : goal.returns-in-SyncShard-clause-called
returns-in-SyncShard-clause-called g c = λ some.
    called_sync_shard c.args.load.now c.args.index c.args.due c.sync_on.result (view g.D.Drive c.args.drive.now) (view g.D.Drive c.sync_on.new.drive)
    c.as_str-shard.result.now c.in-SyncShard.is (c.as_str-shard.ensures.value ∙ c.args.load.now.names.loose_shard_is) c.sync_on.ensures.called

pub returns-in-SyncShard-clause-goes_on : goal.returns-in-SyncShard-clause-goes_on
returns-in-SyncShard-clause-goes_on g c = record { tells = c.sync_on.ensures.tells; count = c.sync_on.ensures.count }

pub returns-in-Manifest-clause-works : goal.returns-in-Manifest-clause-works
returns-in-Manifest-clause-works g c = λ blocks first is tells was.
    let D = g.D.Drive in
    let old = D.files c.args.drive.now in
    let new = D.files c.append_on-in-Manifest.new.drive in
    let told = D.tells c.args.drive.now in
    let id = c.args.load.now.names.id in
    let next : List ℕ = block_at c.args.index c.args.load.now.window in
    let manifest : List ℕ = c.args.load.now.made.manifest.items in
    let ok : OnOk c.append_on-in-Manifest.result (IsTrue told → Appended c.as_str-manifest.result.now manifest old new) =
    subst (λ (b : List ℕ). OnOk c.append_on-in-Manifest.result (IsTrue told → Appended c.as_str-manifest.result.now b old new)) c.as_slice.ensures.value c.append_on-in-Manifest.ensures.ok in
    let here : IsBefore due.Manifest next manifest blocks first (data_of id old) =
    subst (λ (d : Due). IsBefore d next manifest blocks first (data_of id old)) c.in-Manifest.is was in
    subst (λ (d : Due). HasAfter c.append_on-in-Manifest.result c.args.load.now.alone d next manifest blocks first (data_of id new)) (sym c.in-Manifest.is)
    (manifest_call id told c.args.load.now.alone next manifest first old new (D.count c.args.drive.now) (D.count c.append_on-in-Manifest.new.drive)
    c.as_str-manifest.result.now kind.Manifest blocks c.append_on-in-Manifest.result (c.as_str-manifest.ensures.value ∙ c.args.load.now.names.loose_manifest_is)
    ok c.append_on-in-Manifest.ensures.err c.append_on-in-Manifest.ensures.cause tells here)

pub returns-in-Manifest-clause-spares : goal.returns-in-Manifest-clause-spares
returns-in-Manifest-clause-spares g c = λ tells.
    let D = g.D.Drive in
    let old = D.files c.args.drive.now in
    let new = D.files c.append_on-in-Manifest.new.drive in
    let told = D.tells c.args.drive.now in
    append_spares c.args.load.now.names.id told old new c.as_str-manifest.result.now c.as_slice.result.now c.append_on-in-Manifest.result
    (inl (c.as_str-manifest.ensures.value ∙ c.args.load.now.names.loose_manifest_is)) c.append_on-in-Manifest.ensures.ok c.append_on-in-Manifest.ensures.err tells

pub returns-in-Manifest-clause-letter : goal.returns-in-Manifest-clause-letter
returns-in-Manifest-clause-letter g c =
    let D = g.D.Drive in
    let id = c.args.load.now.names.id in
    let old = D.files c.args.drive.now in
    let told = D.tells c.args.drive.now in
    subst (λ (d : Due). LetterOf c.append_on-in-Manifest.result d told (data_of id old) (D.count c.args.drive.now) (D.count c.append_on-in-Manifest.new.drive)) (sym c.in-Manifest.is)
    (append_letter due.Manifest told (data_of id old) kind.Manifest c.append_on-in-Manifest.result (D.count c.args.drive.now) (D.count c.append_on-in-Manifest.new.drive) c.append_on-in-Manifest.ensures.cause)

pub returns-in-Manifest-clause-called : goal.returns-in-Manifest-clause-called
returns-in-Manifest-clause-called g c = λ some.
    called_manifest c.args.load.now c.args.index c.args.due c.append_on-in-Manifest.result (view g.D.Drive c.args.drive.now) (view g.D.Drive c.append_on-in-Manifest.new.drive)
    c.as_str-manifest.result.now c.as_slice.result.now c.in-Manifest.is (c.as_str-manifest.ensures.value ∙ c.args.load.now.names.loose_manifest_is) c.as_slice.ensures.value c.append_on-in-Manifest.ensures.called

pub returns-in-Manifest-clause-goes_on : goal.returns-in-Manifest-clause-goes_on
returns-in-Manifest-clause-goes_on g c = record { tells = c.append_on-in-Manifest.ensures.tells; count = c.append_on-in-Manifest.ensures.count }

pub returns-in-SyncManifest-clause-works : goal.returns-in-SyncManifest-clause-works
returns-in-SyncManifest-clause-works g c = λ blocks first is tells was.
    let D = g.D.Drive in
    let old = D.files c.args.drive.now in
    let new = D.files c.sync_on-in-SyncManifest.new.drive in
    let told = D.tells c.args.drive.now in
    let id = c.args.load.now.names.id in
    let next : List ℕ = block_at c.args.index c.args.load.now.window in
    let manifest : List ℕ = c.args.load.now.made.manifest.items in
    let here : IsBefore due.SyncManifest next manifest blocks first (data_of id old) =
    subst (λ (d : Due). IsBefore d next manifest blocks first (data_of id old)) c.in-SyncManifest.is was in
    subst (λ (d : Due). HasAfter c.sync_on-in-SyncManifest.result c.args.load.now.alone d next manifest blocks first (data_of id new)) (sym c.in-SyncManifest.is)
    (sync_manifest_call id told c.args.load.now.alone next manifest first old new (D.count c.args.drive.now) (D.count c.sync_on-in-SyncManifest.new.drive)
    c.as_str-manifest.result.now kind.Manifest blocks c.sync_on-in-SyncManifest.result (c.as_str-manifest.ensures.value ∙ c.args.load.now.names.loose_manifest_is)
    c.sync_on-in-SyncManifest.ensures.ok c.sync_on-in-SyncManifest.ensures.err c.sync_on-in-SyncManifest.ensures.cause tells here)

pub returns-in-SyncManifest-clause-spares : goal.returns-in-SyncManifest-clause-spares
returns-in-SyncManifest-clause-spares g c = λ tells.
    let D = g.D.Drive in
    let old = D.files c.args.drive.now in
    let new = D.files c.sync_on-in-SyncManifest.new.drive in
    let told = D.tells c.args.drive.now in
    sync_spares c.args.load.now.names.id told old new c.as_str-manifest.result.now c.sync_on-in-SyncManifest.result
    (inl (c.as_str-manifest.ensures.value ∙ c.args.load.now.names.loose_manifest_is)) c.sync_on-in-SyncManifest.ensures.ok c.sync_on-in-SyncManifest.ensures.err tells

pub returns-in-SyncManifest-clause-letter : goal.returns-in-SyncManifest-clause-letter
returns-in-SyncManifest-clause-letter g c =
    let D = g.D.Drive in
    let id = c.args.load.now.names.id in
    let old = D.files c.args.drive.now in
    let told = D.tells c.args.drive.now in
    subst (λ (d : Due). LetterOf c.sync_on-in-SyncManifest.result d told (data_of id old) (D.count c.args.drive.now) (D.count c.sync_on-in-SyncManifest.new.drive)) (sym c.in-SyncManifest.is)
    (sync_manifest_letter id told old c.as_str-manifest.result.now c.sync_on-in-SyncManifest.result (D.count c.args.drive.now) (D.count c.sync_on-in-SyncManifest.new.drive)
    (c.as_str-manifest.ensures.value ∙ c.args.load.now.names.loose_manifest_is) c.sync_on-in-SyncManifest.ensures.cause)

pub returns-in-SyncManifest-clause-called : goal.returns-in-SyncManifest-clause-called
returns-in-SyncManifest-clause-called g c = λ some.
    called_sync_manifest c.args.load.now c.args.index c.args.due c.sync_on-in-SyncManifest.result (view g.D.Drive c.args.drive.now) (view g.D.Drive c.sync_on-in-SyncManifest.new.drive)
    c.as_str-manifest.result.now c.in-SyncManifest.is (c.as_str-manifest.ensures.value ∙ c.args.load.now.names.loose_manifest_is) c.sync_on-in-SyncManifest.ensures.called

pub returns-in-SyncManifest-clause-goes_on : goal.returns-in-SyncManifest-clause-goes_on
returns-in-SyncManifest-clause-goes_on g c = record { tells = c.sync_on-in-SyncManifest.ensures.tells; count = c.sync_on-in-SyncManifest.ensures.count }

pub returns-in-PlaceManifest-clause-works : goal.returns-in-PlaceManifest-clause-works
returns-in-PlaceManifest-clause-works g c = λ blocks first is tells was.
    let D = g.D.Drive in
    let old = D.files c.args.drive.now in
    let new = D.files c.place.new.drive in
    let told = D.tells c.args.drive.now in
    let id = c.args.load.now.names.id in
    let next : List ℕ = block_at c.args.index c.args.load.now.window in
    let manifest : List ℕ = c.args.load.now.made.manifest.items in
    let here : IsBefore due.PlaceManifest next manifest blocks first (data_of id old) =
    subst (λ (d : Due). IsBefore d next manifest blocks first (data_of id old)) c.in-PlaceManifest.is was in
    subst (λ (d : Due). HasAfter c.place.result c.args.load.now.alone d next manifest blocks first (data_of id new)) (sym c.in-PlaceManifest.is)
    (place_manifest_call id told c.args.load.now.alone next manifest first old new (D.count c.args.drive.now) (D.count c.place.new.drive)
    c.as_str-manifest.result.now c.as_str.result.now kind.Manifest blocks c.place.result (c.as_str-manifest.ensures.value ∙ c.args.load.now.names.loose_manifest_is) (c.as_str.ensures.value ∙ c.args.load.now.names.manifest_is) (of_alone c.args.load.now c.args.index blocks is) (of_body c.args.load.now c.args.index blocks is)
    c.place.ensures.ok c.place.ensures.err c.place.ensures.cause tells here)

pub returns-in-PlaceManifest-clause-spares : goal.returns-in-PlaceManifest-clause-spares
returns-in-PlaceManifest-clause-spares g c = λ tells.
    let D = g.D.Drive in
    let old = D.files c.args.drive.now in
    let new = D.files c.place.new.drive in
    let told = D.tells c.args.drive.now in
    place_spares c.args.load.now.names.id told old new c.as_str-manifest.result.now c.as_str.result.now c.place.result
    (inl (c.as_str-manifest.ensures.value ∙ c.args.load.now.names.loose_manifest_is)) (inl (c.as_str.ensures.value ∙ c.args.load.now.names.manifest_is)) c.place.ensures.ok c.place.ensures.err tells

pub returns-in-PlaceManifest-clause-letter : goal.returns-in-PlaceManifest-clause-letter
returns-in-PlaceManifest-clause-letter g c =
    let D = g.D.Drive in
    let id = c.args.load.now.names.id in
    let old = D.files c.args.drive.now in
    let told = D.tells c.args.drive.now in
    subst (λ (d : Due). LetterOf c.place.result d told (data_of id old) (D.count c.args.drive.now) (D.count c.place.new.drive)) (sym c.in-PlaceManifest.is)
    (place_manifest_letter id told old c.as_str-manifest.result.now c.place.result (D.count c.args.drive.now) (D.count c.place.new.drive)
    (c.as_str-manifest.ensures.value ∙ c.args.load.now.names.loose_manifest_is) c.place.ensures.cause)

pub returns-in-PlaceManifest-clause-called : goal.returns-in-PlaceManifest-clause-called
returns-in-PlaceManifest-clause-called g c = λ some.
    called_place_manifest c.args.load.now c.args.index c.args.due c.place.result (view g.D.Drive c.args.drive.now) (view g.D.Drive c.place.new.drive)
    c.as_str-manifest.result.now c.as_str.result.now c.in-PlaceManifest.is (c.as_str-manifest.ensures.value ∙ c.args.load.now.names.loose_manifest_is) (c.as_str.ensures.value ∙ c.args.load.now.names.manifest_is) c.place.ensures.called

pub returns-in-PlaceManifest-clause-goes_on : goal.returns-in-PlaceManifest-clause-goes_on
returns-in-PlaceManifest-clause-goes_on g c = record { tells = c.place.ensures.tells; count = c.place.ensures.count }

pub returns-in-PlaceShard-clause-works : goal.returns-in-PlaceShard-clause-works
returns-in-PlaceShard-clause-works g c = λ blocks first is tells was.
    let D = g.D.Drive in
    let old = D.files c.args.drive.now in
    let new = D.files c.place-in-PlaceShard.new.drive in
    let told = D.tells c.args.drive.now in
    let id = c.args.load.now.names.id in
    let next : List ℕ = block_at c.args.index c.args.load.now.window in
    let manifest : List ℕ = c.args.load.now.made.manifest.items in
    let here : IsBefore due.PlaceShard next manifest blocks first (data_of id old) =
    subst (λ (d : Due). IsBefore d next manifest blocks first (data_of id old)) c.in-PlaceShard.is was in
    subst (λ (d : Due). HasAfter c.place-in-PlaceShard.result c.args.load.now.alone d next manifest blocks first (data_of id new)) (sym c.in-PlaceShard.is)
    (place_shard_call id told c.args.load.now.alone next manifest first old new (D.count c.args.drive.now) (D.count c.place-in-PlaceShard.new.drive)
    c.as_str-shard.result.now c.as_str-in-PlaceShard.result.now kind.Shard blocks c.place-in-PlaceShard.result (c.as_str-shard.ensures.value ∙ c.args.load.now.names.loose_shard_is) (c.as_str-in-PlaceShard.ensures.value ∙ c.args.load.now.names.shard_is)
    c.place-in-PlaceShard.ensures.ok c.place-in-PlaceShard.ensures.err c.place-in-PlaceShard.ensures.cause tells here)

pub returns-in-PlaceShard-clause-spares : goal.returns-in-PlaceShard-clause-spares
returns-in-PlaceShard-clause-spares g c = λ tells.
    let D = g.D.Drive in
    let old = D.files c.args.drive.now in
    let new = D.files c.place-in-PlaceShard.new.drive in
    let told = D.tells c.args.drive.now in
    place_spares c.args.load.now.names.id told old new c.as_str-shard.result.now c.as_str-in-PlaceShard.result.now c.place-in-PlaceShard.result
    (inr (c.as_str-shard.ensures.value ∙ c.args.load.now.names.loose_shard_is)) (inr (c.as_str-in-PlaceShard.ensures.value ∙ c.args.load.now.names.shard_is)) c.place-in-PlaceShard.ensures.ok c.place-in-PlaceShard.ensures.err tells

pub returns-in-PlaceShard-clause-letter : goal.returns-in-PlaceShard-clause-letter
returns-in-PlaceShard-clause-letter g c =
    let D = g.D.Drive in
    let id = c.args.load.now.names.id in
    let old = D.files c.args.drive.now in
    let told = D.tells c.args.drive.now in
    subst (λ (d : Due). LetterOf c.place-in-PlaceShard.result d told (data_of id old) (D.count c.args.drive.now) (D.count c.place-in-PlaceShard.new.drive)) (sym c.in-PlaceShard.is)
    (place_shard_letter id told old c.as_str-shard.result.now c.place-in-PlaceShard.result (D.count c.args.drive.now) (D.count c.place-in-PlaceShard.new.drive)
    (c.as_str-shard.ensures.value ∙ c.args.load.now.names.loose_shard_is) c.place-in-PlaceShard.ensures.cause)

pub returns-in-PlaceShard-clause-called : goal.returns-in-PlaceShard-clause-called
returns-in-PlaceShard-clause-called g c = λ some.
    called_place_shard c.args.load.now c.args.index c.args.due c.place-in-PlaceShard.result (view g.D.Drive c.args.drive.now) (view g.D.Drive c.place-in-PlaceShard.new.drive)
    c.as_str-shard.result.now c.as_str-in-PlaceShard.result.now c.in-PlaceShard.is (c.as_str-shard.ensures.value ∙ c.args.load.now.names.loose_shard_is) (c.as_str-in-PlaceShard.ensures.value ∙ c.args.load.now.names.shard_is) c.place-in-PlaceShard.ensures.called

pub returns-in-PlaceShard-clause-goes_on : goal.returns-in-PlaceShard-clause-goes_on
returns-in-PlaceShard-clause-goes_on g c = record { tells = c.place-in-PlaceShard.ensures.tells; count = c.place-in-PlaceShard.ensures.count }

pub returns-in-Nothing-clause-works : goal.returns-in-Nothing-clause-works
returns-in-Nothing-clause-works g c = λ blocks first is tells was.
    let cells : DataCells = data_of c.args.load.now.names.id (g.D.Drive.files c.args.drive.now) in
    let next : List ℕ = block_at c.args.index c.args.load.now.window in
    let manifest : List ℕ = c.args.load.now.made.manifest.items in
    let here : IsBefore due.Nothing next manifest blocks first cells =
    subst (λ (d : Due). IsBefore d next manifest blocks first cells) c.in-Nothing.is was in
    subst (λ (d : Due). HasAfter (Ok tt) c.args.load.now.alone d next manifest blocks first cells) (sym c.in-Nothing.is) here

pub returns-in-Nothing-clause-spares : goal.returns-in-Nothing-clause-spares
returns-in-Nothing-clause-spares g c = λ tells. record {
  kept = λ other apart. refl;
  shown = λ other apart. refl;
  loose = λ other apart. refl;
}

pub returns-in-Nothing-clause-called : goal.returns-in-Nothing-clause-called
returns-in-Nothing-clause-called g c = λ some.
    let none : is_nothing c.args.due ≡ true = ap is_nothing c.in-Nothing.is in
    let one : is_nothing c.args.due ≡ false = some in
    absurd cc
