use Rattle.std.proofs.Common.{rules, ◌≡◌, ◌∙◌, [], List, length, slice_index_or, ap, sym, subst}
use Rattle.std.specs.Prelude.{Ok}
use Rattle.std.proofs.lemmas.List.{get_or_default}
use Rattle.drive_base.specs.View.{view}
use Rattle.manifest_file.specs.declared.manifest.ManifestPart.{ManifestPart}
use Rattle.get_read.specs.Progress.{data_of, part_of}
use Rattle.get_read.specs.Blocks.{all_bytes}
use Rattle.get_read.specs.Windows.{WindowCall}
use Rattle.get_read.specs.declared.window.WindowFind.TheVariants.{Table}
use Rattle.get_read.proofs.HeldLemmas.{no_length}
use Rattle.get_read.proofs.fetch.Fetching.call_window.Goals as goal

pub returns-then-is_empty-clause-called : goal.returns-then-is_empty-clause-called
returns-then-is_empty-clause-called g c = λ d.
    let old = c.args.self.now in
    let w = c.args.window.now in
    let part = c.index-as_slice-self.result in
    let held = slice_index_or (all_bytes old.part.tables.items) w.tried [] in
    let same : part_of old d ≡ part = get_or_default old.manifest.parts old.part.place d part old.in_manifest
    ∙ ap (λ (ps : List ManifestPart). slice_index_or ps old.part.place part) (sym c.as_slice.ensures) ∙ sym c.index-as_slice-self.is in
    let call = c.in_ok-table.ensures.called in
    let empty : length c.table.result.now ≡ 0 = search rules in
    let none : held ≡ [] = sym c.table.ensures ∙ no_length c.table.result.now empty in
    subst (λ (q : ManifestPart). WindowCall (data_of old) q (slice_index_or q.roots w.tried []) held w (Ok (Table c.in_ok-table.table)) (view g.D.Drive c.args.drive.now) (view g.D.Drive c.call_table.new.drive))
    (sym same) (none, call.0, call.1, call.2)
