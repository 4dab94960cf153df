use Rattle.std.proofs.Common.{◌≡◌, ap, refl, arith}
use Rattle.std.specs.Prelude.{None, Ok}
use Rattle.manifest_file.specs.declared.manifest.Manifest.{Manifest}
use Rattle.get_read.specs.Measure.{one_told}
use Rattle.get_read.specs.Readers.{set_of}
use Rattle.get_read.proofs.MeasureLemmas.{saved_now, search_past}
use Rattle.get_read.proofs.OneCallLemmas.{only_read_at}
use Rattle.get_read.proofs.SearchStepLemmas.{search_ends, search_finds, search_goes_past, search_left, search_over, search_sizes, search_without}
use Rattle.get_read.proofs.search.Search.step.Goals as goal

pub returns-then-self-clause-steps : goal.returns-then-self-clause-steps
returns-then-self-clause-steps g c =
    let old = c.args.self.now in search_over g.D.Drive old old c.args.drives.now refl (omega arith) old.letters

pub returns-in-Ok-Size-clause-steps : goal.returns-in-Ok-Size-clause-steps
returns-in-Ok-Size-clause-steps g c =
    let old = c.args.self.now in
    search_sizes g.D.Drive old _ c.in-Ok-Size.size c.args.drives.now c.index-drives-self.result c.look.new.drive (omega (arith, c.requires))
    (old.next_in_use (omega arith)) refl refl refl refl (rw c.in-Ok-Size.field-0-is at c.in-Ok-Size.ensures.called)

pub returns-in-Ok-Size-clause-read : goal.returns-in-Ok-Size-clause-read
returns-in-Ok-Size-clause-read g c =
    only_read_at g.D.Drive c.args.self.now.tried c.args.drives.now c.index-drives-self.result c.look.new.drive (omega (arith, c.requires)) c.look.ensures.read

pub returns-in-Ok-File-clause-steps : goal.returns-in-Ok-File-clause-steps
returns-in-Ok-File-clause-steps g c =
    let old = c.args.self.now in
    search_finds g.D.Drive old old c.in-Ok-File.manifest c.args.drives.now c.index-drives-self.result c.look.new.drive (omega (arith, c.requires))
    (old.next_in_use (omega arith)) refl (rw c.in-Ok-File.field-0-is at c.in-Ok-File.ensures.called)

pub returns-in-Ok-File-clause-read : goal.returns-in-Ok-File-clause-read
returns-in-Ok-File-clause-read g c =
    only_read_at g.D.Drive c.args.self.now.tried c.args.drives.now c.index-drives-self.result c.look.new.drive (omega (arith, c.requires)) c.look.ensures.read

pub returns-in-Err-NoMemory-clause-steps : goal.returns-in-Err-NoMemory-clause-steps
returns-in-Err-NoMemory-clause-steps g c =
    let old = c.args.self.now in
    search_without g.D.Drive old old c.args.drives.now c.index-drives-self.result c.look.new.drive (omega (arith, c.requires))
    (old.next_in_use (omega arith)) refl (rw c.in-Err-NoMemory.field-0-is at c.in-Err-NoMemory.ensures.idle)

pub returns-in-Err-NoMemory-clause-read : goal.returns-in-Err-NoMemory-clause-read
returns-in-Err-NoMemory-clause-read g c =
    only_read_at g.D.Drive c.args.self.now.tried c.args.drives.now c.index-drives-self.result c.look.new.drive (omega (arith, c.requires)) c.look.ensures.read

pub returns-then-self-2-clause-steps : goal.returns-then-self-2-clause-steps
returns-then-self-2-clause-steps g c =
    let old = c.args.self.now in
    search_ends g.D.Drive old c.pass.new.self c.args.drives.now _ c.pass.ensures.asked (omega arith) c.pass.new.self.letters
    (search_left g.D.Drive old c.pass.new.self c.in-Err-Because.why c.args.drives.now c.index-drives-self.result c.look.new.drive (omega (arith, c.requires))
    (old.next_in_use (omega arith)) (omega arith) c.pass.ensures.asked c.pass.ensures.size (rw c.in-Err-Because.field-0-is at c.in-Err-Because.ensures.called) c.pass.ensures.letters)

pub returns-then-self-2-clause-read : goal.returns-then-self-2-clause-read
returns-then-self-2-clause-read g c =
    only_read_at g.D.Drive c.args.self.now.tried c.args.drives.now c.index-drives-self.result c.look.new.drive (omega (arith, c.requires)) c.look.ensures.read

pub returns-else-self-2-clause-steps : goal.returns-else-self-2-clause-steps
returns-else-self-2-clause-steps g c =
    let old = c.args.self.now in
    search_goes_past g.D.Drive old c.pass.new.self c.args.drives.now _ c.pass.ensures.asked
    (search_left g.D.Drive old c.pass.new.self c.in-Err-Because.why c.args.drives.now c.index-drives-self.result c.look.new.drive (omega (arith, c.requires))
    (old.next_in_use (omega arith)) (omega arith) c.pass.ensures.asked c.pass.ensures.size (rw c.in-Err-Because.field-0-is at c.in-Err-Because.ensures.called) c.pass.ensures.letters)

pub returns-else-self-2-clause-read : goal.returns-else-self-2-clause-read
returns-else-self-2-clause-read g c =
    only_read_at g.D.Drive c.args.self.now.tried c.args.drives.now c.index-drives-self.result c.look.new.drive (omega (arith, c.requires)) c.look.ensures.read

pub returns-in-Ok-File-clause-suits : goal.returns-in-Ok-File-clause-suits
returns-in-Ok-File-clause-suits g c = let call = rw c.in-Ok-File.field-0-is at c.in-Ok-File.ensures.called in (call.1, call.2)

pub returns-in-Ok-Size-clause-fewer : goal.returns-in-Ok-Size-clause-fewer
returns-in-Ok-Size-clause-fewer g c =
    let old = c.args.self.now in
    let call = rw c.in-Ok-Size.field-0-is at c.in-Ok-Size.ensures.called in
    let none : one_told old.size ≡ 0 = ap one_told call.2 in
    saved_now (set_of old.asked).drives old.tried (one_told old.size) 1 (omega arith) none refl

pub returns-else-self-2-clause-fewer : goal.returns-else-self-2-clause-fewer
returns-else-self-2-clause-fewer g c =
    search_past {T = Manifest} (Ok None) c.args.self.now c.pass.new.self c.pass.ensures.asked c.pass.ensures.letters.past (omega arith)
