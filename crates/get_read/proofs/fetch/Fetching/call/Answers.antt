use Rattle.std.proofs.Common.{rules, ◌≡◌, ◌∙◌, ◌<◌, ◌*◌, [], ℕ, List, length, slice_index_or, ap, sym, subst, arith}
use Rattle.std.proofs.lemmas.List.{get_or_default}
use Rattle.drive_base.specs.View.{view}
use Rattle.manifest_file.specs.declared.manifest.ManifestPart.{ManifestPart}
use Rattle.shard_file.specs.Stripes.{stripe_count}
use Rattle.get_read.specs.Progress.{ShowsTableNow, next_table, part_of}
use Rattle.get_read.proofs.HeldLemmas.{no_length}
use Rattle.get_read.proofs.fetch.Fetching.call.Goals as goal

pub returns-then-is_empty-clause-called : goal.returns-then-is_empty-clause-called
returns-then-is_empty-clause-called g c = λ d.
    let old = c.args.self.now in
    let part = c.index-as_slice-self.result in
    let same : part_of old d ≡ part = get_or_default old.manifest.parts old.part.place d part old.in_manifest
    ∙ ap (λ (ps : List ManifestPart). slice_index_or ps old.part.place part) (sym c.as_slice.ensures) ∙ sym c.index-as_slice-self.is in
    let call = c.in_ok-table.ensures.called in
    let empty : length c.table-table.result.now ≡ 0 = search rules in
    let none : next_table old ≡ [] = sym c.table-table.ensures ∙ no_length c.table-table.result.now empty in
    subst (λ (q : ManifestPart). ShowsTableNow old q c.in_ok-table.table.items (view g.D.Drive c.args.drive.now) (view g.D.Drive c.call_table.new.drive)) (sym same)
    (record { none = none; size = call.0; digest = call.1; was = call.2 })

pub call_block-requires-clause-table : goal.call_block-requires-clause-table
call_block-requires-clause-table g c =
    let old = c.args.self.now in
    let part = c.index-as_slice-self.result in
    let same : part_of old part ≡ part =
    ap (λ (ps : List ManifestPart). slice_index_or ps old.part.place part) (sym c.as_slice.ensures) ∙ sym c.index-as_slice-self.is in
    let long : old.part.long ≡ part.length = sym (old.part_long part) ∙ ap (λ (q : ManifestPart). q.length) same in
    let is : c.table-table.result.now ≡ next_table old = c.table-table.ensures in
    let some : 0 < length c.table-table.result.now = search rules in
    ap (length {A = ℕ}) is ∙ old.part.held old.work.tried (omega (arith, some, ap (length {A = ℕ}) is)) ∙ ap (λ (n : ℕ). 32 * stripe_count n) long
