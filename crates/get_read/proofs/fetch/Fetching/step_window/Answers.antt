use Rattle.std.proofs.Common.{◌≡◌, ◌<◌, ◌≤◌, ◌+◌, ◌*◌, ◌∙◌, [], ℕ, List, ap, length, refl, slice_index_or, subst, sym, arith}
use Rattle.std.specs.Global.{Global}
use Rattle.std.specs.Prelude.{Vec}
use Rattle.drive_base.specs.Calls.{Showed}
use Rattle.drive_base.specs.View.{view}
use Rattle.manifest_file.specs.declared.manifest.ManifestPart.{ManifestPart}
use Rattle.body_print.specs.Names.{shard_name}
use Rattle.shard_file.specs.Shards.{block_place}
use Rattle.get_read.specs.Account.{WasSeen}
use Rattle.get_read.specs.Progress.{data_of, part_of, table_held}
use Rattle.get_read.specs.Blocks.{all_bytes}
use Rattle.get_read.specs.Measure.{ahead_left, alone_left, one_held, run_left}
use Rattle.get_read.specs.Readers.{set_of}
use Rattle.get_read.specs.Windows.{digests_in}
use Rattle.shard_file.specs.Stripes.{stripe_count}
use Rattle.get_read.proofs.MeasureLemmas.{bare_left, falls_as, held_later, held_some, holds_falls, less_as, stays_left, table_long, table_some, took_falls}
use Rattle.get_read.proofs.OneCallLemmas.{only_read_at}
use Rattle.get_read.proofs.StepLemmas.{any_part}
use Rattle.get_read.proofs.WindowStepLemmas.{window_holds, window_idle, window_passed, window_took}
use Rattle.get_read.proofs.fetch.Fetching.step_window.Goals as goal

pub returns-in-Ok-Table-clause-steps : goal.returns-in-Ok-Table-clause-steps
returns-in-Ok-Table-clause-steps g c =
    let old = c.args.self.now in
    let w = c.args.window in
    window_holds g.D.Drive old w _ c.in-Ok-Table.table c.args.drives.now c.index-drives-index.result c.call_window.new.drive c.requires.drives c.requires.fits
    refl refl refl c.hold.ensures.place refl refl c.hold.ensures.tables (rw c.in-Ok-Table.field-0-is at c.in-Ok-Table.ensures.called)

pub returns-in-Ok-Table-clause-read : goal.returns-in-Ok-Table-clause-read
returns-in-Ok-Table-clause-read g c =
    only_read_at g.D.Drive c.args.window.tried c.args.drives.now c.index-drives-index.result c.call_window.new.drive (omega (arith, c.requires.drives, c.requires.fits.tried)) c.call_window.ensures.read

pub returns-in-Ok-Run-clause-steps : goal.returns-in-Ok-Run-clause-steps
returns-in-Ok-Run-clause-steps g c =
    let old = c.args.self.now in
    let w = c.args.window in
    let call = rw c.in-Ok-Run.field-0-is at c.in-Ok-Run.ensures.called in
    let shown = λ (d : ManifestPart). subst (λ (b : List ℕ). (0 < length (table_held old w.tried)) × (length b ≡ w.count * w.size)
    × WasSeen (Showed (shard_name (part_of old d).id) (block_place (data_of old) w.first) b) (view g.D.Drive (slice_index_or c.args.drives.now w.tried c.index-drives-index.result))
    (view g.D.Drive c.call_window.new.drive)) (sym c.as_slice.ensures.value) (call d) in
    window_took g.D.Drive old w c.take_run.new.self c.take_run.result c.as_slice.result.now (table_held old w.tried) c.args.drives.now c.index-drives-index.result
    c.call_window.new.drive c.requires.drives c.requires.fits c.take_run.ensures.stays refl c.take_run.ensures.takes shown

pub returns-in-Ok-Run-clause-read : goal.returns-in-Ok-Run-clause-read
returns-in-Ok-Run-clause-read g c =
    only_read_at g.D.Drive c.args.window.tried c.args.drives.now c.index-drives-index.result c.call_window.new.drive (omega (arith, c.requires.drives, c.requires.fits.tried)) c.call_window.ensures.read

pub returns-in-Err-Because-clause-steps : goal.returns-in-Err-Because-clause-steps
returns-in-Err-Because-clause-steps g c =
    let old = c.args.self.now in
    let w = c.args.window in
    window_passed g.D.Drive old w c.pass_run.new.self c.args.drives.now c.index-drives-index.result c.call_window.new.drive c.requires.drives c.requires.fits c.pass_run.ensures.stays c.pass_run.ensures.passes
    ((rw c.in-Err-Because.field-0-is at c.in-Err-Because.ensures.called) (any_part old.manifest.parts old.part.place old.in_manifest))

pub returns-in-Err-Because-clause-read : goal.returns-in-Err-Because-clause-read
returns-in-Err-Because-clause-read g c =
    only_read_at g.D.Drive c.args.window.tried c.args.drives.now c.index-drives-index.result c.call_window.new.drive (omega (arith, c.requires.drives, c.requires.fits.tried)) c.call_window.ensures.read

pub returns-in-Err-NoMemory-clause-steps : goal.returns-in-Err-NoMemory-clause-steps
returns-in-Err-NoMemory-clause-steps g c =
    let old = c.args.self.now in
    let w = c.args.window in
    window_idle g.D.Drive old w old c.args.drives.now c.index-drives-index.result c.call_window.new.drive (rw c.in-Err-NoMemory.field-0-is at c.in-Err-NoMemory.ensures.idle)
    (record { asked = refl; manifest = refl; at = refl; part = refl; work = refl }) c.requires.none

pub returns-in-Err-NoMemory-clause-read : goal.returns-in-Err-NoMemory-clause-read
returns-in-Err-NoMemory-clause-read g c =
    only_read_at g.D.Drive c.args.window.tried c.args.drives.now c.index-drives-index.result c.call_window.new.drive (omega (arith, c.requires.drives, c.requires.fits.tried)) c.call_window.ensures.read

pub hold-requires-clause-long : goal.hold-requires-clause-long
hold-requires-clause-long g c =
    let old = c.args.self.now in
    let d = any_part old.manifest.parts old.part.place old.in_manifest in
    let call = (rw c.in-Ok-Table.field-0-is at c.in-Ok-Table.ensures.called) d in
    call.1 ∙ ap (λ (n : ℕ). 32 * stripe_count n) (old.part_long d)

pub take_run-requires-clause-run : goal.take_run-requires-clause-run
take_run-requires-clause-run g c =
    let old = c.args.self.now in
    let call = (rw c.in-Ok-Run.field-0-is at c.in-Ok-Run.ensures.called) (any_part old.manifest.parts old.part.place old.in_manifest) in
    ap (length {A = ℕ}) c.as_slice.ensures.value ∙ call.1

pub take_run-requires-clause-held : goal.take_run-requires-clause-held
take_run-requires-clause-held g c =
    let old = c.args.self.now in
    let call = (rw c.in-Ok-Run.field-0-is at c.in-Ok-Run.ensures.called) (any_part old.manifest.parts old.part.place old.in_manifest) in
    call.0

pub returns-in-Ok-Run-clause-fewer : goal.returns-in-Ok-Run-clause-fewer
returns-in-Ok-Run-clause-fewer g c =
    let old = c.args.self.now in
    let w = c.args.window in
    let tables = all_bytes old.part.tables.items in
    let set = set_of old.asked in
    falls_as c.take_run.result (run_left set tables w + alone_left old) (ahead_left set tables c.take_run.new.self.ahead + alone_left old) _ _
    (ap (λ (n : ℕ). run_left set tables w + n) (sym (bare_left old c.requires.none))) (sym (stays_left old c.take_run.new.self c.take_run.ensures.stays))
    (took_falls Global set tables w c.as_slice.result.now (digests_in (slice_index_or tables w.tried []) w.first w.count) c.take_run.result c.take_run.new.self.ahead (alone_left old) c.requires.fits.tried
    c.take_run.ensures.takes)

pub returns-in-Ok-Table-clause-fewer : goal.returns-in-Ok-Table-clause-fewer
returns-in-Ok-Table-clause-fewer g c =
    let old = c.args.self.now in
    let w = c.args.window in
    let d = any_part old.manifest.parts old.part.place old.in_manifest in
    let call = (rw c.in-Ok-Table.field-0-is at c.in-Ok-Table.ensures.called) d in
    let low : w.tried < length old.part.tables.items = omega (arith, old.tables, c.requires.fits.tried) in
    let some = table_long old.part.long old.part.begin old.at c.in-Ok-Table.table.items old.in_part (omega (arith, old.begun)) (call.1 ∙ ap (λ (n : ℕ). 32 * stripe_count n) (old.part_long d)) in
    let later = held_later old.part.tables.items w.tried old.work.tried c.in-Ok-Table.table low some in
    let now = held_some _ (table_some old.part.tables.items _ w.tried c.in-Ok-Table.table refl low some) in
    let back = sym c.hold.ensures.tables in
    let saved = λ (tables : List (Vec ℕ Global)) (k : ℕ). one_held (slice_index_or (all_bytes tables) k []) in
    let later_is : saved old.part.tables.items old.work.tried ≤ saved c.hold.new.self.tables.items old.work.tried =
    subst (λ (t : List (Vec ℕ Global)). saved old.part.tables.items old.work.tried ≤ saved t old.work.tried) back later in
    let now_is : saved c.hold.new.self.tables.items w.tried ≡ 1 = subst (λ (t : List (Vec ℕ Global)). saved t w.tried ≡ 1) back now in
    less_as _ (run_left (set_of old.asked) (all_bytes old.part.tables.items) w) (alone_left old) _
    (holds_falls (set_of old.asked).drives w.tried old.work.tried (saved old.part.tables.items w.tried) (saved c.hold.new.self.tables.items w.tried)
    (saved old.part.tables.items old.work.tried) (saved c.hold.new.self.tables.items old.work.tried) c.requires.fits.tried (ap one_held call.0) now_is later_is)
    (sym (bare_left old c.requires.none))
