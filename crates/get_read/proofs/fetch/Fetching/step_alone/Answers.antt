use Rattle.std.proofs.Common.{rules, ◌≡◌, ◌∙◌, ◌*◌, ℕ, ap, refl, arith}
use Rattle.std.specs.Prelude.{Err}
use Rattle.shard_file.specs.Stripes.{stripe_count, stripe_length}
use Rattle.get_read.specs.Progress.{next_table}
use Rattle.get_read.specs.Measure.{one_held}
use Rattle.get_read.specs.Readers.{set_of}
use Rattle.get_read.specs.declared.faults.BodyFault.TheVariants.{NoMemory}
use Rattle.get_read.proofs.MeasureLemmas.{falls_plus, held_most, held_some, less_plus, no_window, over_falls, saved_now, table_long, table_some, tried_more}
use Rattle.get_read.proofs.OneCallLemmas.{only_read_at}
use Rattle.get_read.proofs.StepLemmas.{any_part, fetch_added, fetch_holds, fetch_idle, fetch_over, fetch_passed, fetch_unkept}
use Rattle.get_read.proofs.fetch.Fetching.step_alone.Goals as goal

pub returns-then-self-set-clause-steps : goal.returns-then-self-set-clause-steps
returns-then-self-set-clause-steps g c =
    let old = c.args.self.now in
    let long : c.min-long.result ≡ stripe_length old.part.long old.work.stripe = omega arith in
    fetch_over g.D.Drive old _ c.judge.result c.args.drives.now (omega arith) (record { asked = refl; manifest = refl; at = refl; part = refl; ahead = c.requires.none })
    (rw long at c.judge.ensures.judges) c.judge.ensures.tried c.judge.ensures.stripe c.judge.ensures.same_size

pub returns-in-Ok-Table-clause-steps : goal.returns-in-Ok-Table-clause-steps
returns-in-Ok-Table-clause-steps g c =
    let old = c.args.self.now in
    fetch_holds g.D.Drive old _ c.in-Ok-Table.table c.args.drives.now c.index-drives-self.result c.call.new.drive (omega (arith, c.requires.drives))
    (omega arith) refl refl refl c.hold.ensures.place c.requires.none refl c.hold.ensures.tables (rw c.in-Ok-Table.field-0-is at c.in-Ok-Table.ensures.called)

pub returns-in-Ok-Table-clause-read : goal.returns-in-Ok-Table-clause-read
returns-in-Ok-Table-clause-read g c =
    only_read_at g.D.Drive c.args.self.now.work.tried c.args.drives.now c.index-drives-self.result c.call.new.drive (omega (arith, c.requires.drives)) c.call.ensures.read

pub returns-in_err-add-in-Ok-Block-clause-steps : goal.returns-in_err-add-in-Ok-Block-clause-steps
returns-in_err-add-in-Ok-Block-clause-steps g c =
    let old = c.args.self.now in
    let ends : c.from_residual.result ≡ Err NoMemory = search rules in
    rw ends (fetch_unkept g.D.Drive old _ c.in-Ok-Block.fetched c.args.drives.now c.index-drives-self.result c.call.new.drive (omega (arith, c.requires.drives))
    (omega arith) (record { asked = refl; manifest = refl; at = refl; part = refl; ahead = c.requires.none }) (rw c.in-Ok-Block.field-0-is at c.in-Ok-Block.ensures.called))

pub returns-in_err-add-in-Ok-Block-clause-read : goal.returns-in_err-add-in-Ok-Block-clause-read
returns-in_err-add-in-Ok-Block-clause-read g c =
    only_read_at g.D.Drive c.args.self.now.work.tried c.args.drives.now c.index-drives-self.result c.call.new.drive (omega (arith, c.requires.drives)) c.call.ensures.read

pub returns-in_ok-add-in-Ok-Block-clause-steps : goal.returns-in_ok-add-in-Ok-Block-clause-steps
returns-in_ok-add-in-Ok-Block-clause-steps g c =
    let old = c.args.self.now in
    let long : c.min-long.result ≡ stripe_length old.part.long old.work.stripe = omega arith in
    let added = c.in_ok-add-in-Ok-Block.ensures in
    fetch_added g.D.Drive old _ c.in-Ok-Block.fetched c.add.new.self c.judge-in-Ok-Block.result c.args.drives.now c.index-drives-self.result c.call.new.drive (omega (arith, c.requires.drives))
    (omega arith) (record { asked = refl; manifest = refl; at = refl; part = refl; ahead = c.requires.none }) (rw c.in-Ok-Block.field-0-is at c.in-Ok-Block.ensures.called)
    added.letters added.rows added.stored added.bytes c.add.ensures.stripe c.add.ensures.same_size
    (rw long at c.judge-in-Ok-Block.ensures.judges) c.judge-in-Ok-Block.ensures.tried c.judge-in-Ok-Block.ensures.stripe c.judge-in-Ok-Block.ensures.same_size

pub returns-in_ok-add-in-Ok-Block-clause-read : goal.returns-in_ok-add-in-Ok-Block-clause-read
returns-in_ok-add-in-Ok-Block-clause-read g c =
    only_read_at g.D.Drive c.args.self.now.work.tried c.args.drives.now c.index-drives-self.result c.call.new.drive (omega (arith, c.requires.drives)) c.call.ensures.read

pub returns-in-Err-Because-clause-steps : goal.returns-in-Err-Because-clause-steps
returns-in-Err-Because-clause-steps g c =
    let old = c.args.self.now in
    let long : c.min-long.result ≡ stripe_length old.part.long old.work.stripe = omega arith in
    fetch_passed g.D.Drive old _ c.in-Err-Because.why c.pass.new.self c.judge-in-Err-Because.result c.args.drives.now c.index-drives-self.result c.call.new.drive (omega (arith, c.requires.drives))
    (omega arith) (record { asked = refl; manifest = refl; at = refl; part = refl; ahead = c.requires.none }) (rw c.in-Err-Because.field-0-is at c.in-Err-Because.ensures.called)
    c.pass.ensures.letters c.pass.ensures.found c.pass.ensures.stripe c.pass.ensures.size
    (rw long at c.judge-in-Err-Because.ensures.judges) c.judge-in-Err-Because.ensures.tried c.judge-in-Err-Because.ensures.stripe c.judge-in-Err-Because.ensures.same_size

pub returns-in-Err-Because-clause-read : goal.returns-in-Err-Because-clause-read
returns-in-Err-Because-clause-read g c =
    only_read_at g.D.Drive c.args.self.now.work.tried c.args.drives.now c.index-drives-self.result c.call.new.drive (omega (arith, c.requires.drives)) c.call.ensures.read

pub returns-in-Err-NoMemory-clause-steps : goal.returns-in-Err-NoMemory-clause-steps
returns-in-Err-NoMemory-clause-steps g c =
    let old = c.args.self.now in
    fetch_idle g.D.Drive old old c.args.drives.now c.index-drives-self.result c.call.new.drive (rw c.in-Err-NoMemory.field-0-is at c.in-Err-NoMemory.ensures.idle) refl refl refl refl c.requires.none

pub returns-in-Err-NoMemory-clause-read : goal.returns-in-Err-NoMemory-clause-read
returns-in-Err-NoMemory-clause-read g c =
    only_read_at g.D.Drive c.args.self.now.work.tried c.args.drives.now c.index-drives-self.result c.call.new.drive (omega (arith, c.requires.drives)) c.call.ensures.read

pub add-requires-clause-size : goal.add-requires-clause-size
add-requires-clause-size g c =
    let old = c.args.self.now in
    let fetches = (rw c.in-Ok-Block.field-0-is at c.in-Ok-Block.ensures.called) (any_part old.manifest.parts old.part.place old.in_manifest) in
    fetches.size

pub hold-requires-clause-long : goal.hold-requires-clause-long
hold-requires-clause-long g c =
    let old = c.args.self.now in
    let d = any_part old.manifest.parts old.part.place old.in_manifest in
    let shows = (rw c.in-Ok-Table.field-0-is at c.in-Ok-Table.ensures.called) d in
    shows.size ∙ ap (λ (n : ℕ). 32 * stripe_count n) (old.part_long d)

pub returns-then-self-set-clause-fewer : goal.returns-then-self-set-clause-fewer
returns-then-self-set-clause-fewer g c =
    over_falls c.args.self.now.asked.wanted.set c.min-long.result c.judge.result c.args.self.now.work c.judge.new.self _ _
    c.judge.ensures.judges c.judge.ensures.tried (omega arith)

pub returns-in-Ok-Table-clause-fewer : goal.returns-in-Ok-Table-clause-fewer
returns-in-Ok-Table-clause-fewer g c =
    let old = c.args.self.now in
    let d = any_part old.manifest.parts old.part.place old.in_manifest in
    let shows = (rw c.in-Ok-Table.field-0-is at c.in-Ok-Table.ensures.called) d in
    let held = held_some _ (table_some old.part.tables.items c.hold.new.self.tables.items old.work.tried c.in-Ok-Table.table c.hold.ensures.tables (omega (arith, old.tables))
    (table_long old.part.long old.part.begin old.at c.in-Ok-Table.table.items old.in_part (omega (arith, old.begun)) (shows.size ∙ ap (λ (n : ℕ). 32 * stripe_count n) (old.part_long d)))) in
    less_plus _ _ _ _ (no_window (set_of old.asked) _ _ c.requires.none) (no_window (set_of old.asked) _ _ c.requires.none)
    (saved_now (set_of old.asked).drives old.work.tried (one_held (next_table old)) _ (omega arith) (ap one_held shows.none) held)

pub returns-in_ok-add-in-Ok-Block-clause-fewer : goal.returns-in_ok-add-in-Ok-Block-clause-fewer
returns-in_ok-add-in-Ok-Block-clause-fewer g c =
    let old = c.args.self.now in
    falls_plus c.judge-in-Ok-Block.result _ _ _ _ (no_window (set_of old.asked) _ _ c.requires.none) (no_window (set_of old.asked) _ _ c.requires.none)
    (tried_more c.judge-in-Ok-Block.result (set_of old.asked).drives old.work.tried c.judge-in-Ok-Block.new.self.tried (one_held (next_table old)) _
    (omega (arith, c.judge-in-Ok-Block.ensures.tried, c.in_ok-add-in-Ok-Block.ensures.letters.past)) (omega arith) (held_most (next_table old)))

pub returns-in-Err-Because-clause-fewer : goal.returns-in-Err-Because-clause-fewer
returns-in-Err-Because-clause-fewer g c =
    let old = c.args.self.now in
    falls_plus c.judge-in-Err-Because.result _ _ _ _ (no_window (set_of old.asked) _ _ c.requires.none) (no_window (set_of old.asked) _ _ c.requires.none)
    (tried_more c.judge-in-Err-Because.result (set_of old.asked).drives old.work.tried c.judge-in-Err-Because.new.self.tried (one_held (next_table old)) _
    (omega (arith, c.judge-in-Err-Because.ensures.tried, c.pass.ensures.letters.past)) (omega arith) (held_most (next_table old)))
