use Rattle.std.proofs.Common.{◌≡◌, ℕ, List, None, subst, ◌∙◌}
use Rattle.std.specs.Prelude.{IsTrue, Ok}
use Rattle.drive_base.specs.View.{view}
use Rattle.file_access.specs.Writing.{WriteLeaves}
use Rattle.term_gate.specs.Formats.{format_name, loose_format_name}
use Rattle.term_gate.specs.Writing.{Clears}
use Rattle.term_gate.proofs.ClearLemmas.{written_after}
use Rattle.term_gate.proofs.writing.write_on.Goals as goal

pub returns : goal.returns
returns g c =
    let D = g.D.Drive in
    let old = view D c.args.disk.now in
    let mid = view D c.clear.new.disk in
    let new = view D c.write_file.new.drive in
    let loose = loose_format_name c.args.term c.args.index in
    let first : c.as_str.result.now ≡ loose = c.as_str.ensures ∙ c.new-loose.ensures in
    let second : c.as_str-2.result.now ≡ loose = c.as_str-2.ensures ∙ c.new-loose.ensures in
    let cleared = subst (λ (name : List ℕ). Clears {T = Unit {0}} name (Ok tt) old mid) first c.in_default.ensures in
    let leaves = subst (λ (name : List ℕ). IsTrue mid.tells → mid.files.loose name ≡ None
    → WriteLeaves c.write_file.result name format_name c.args.file.now mid.files new.files)
    second c.write_file.ensures.leaves in
    written_after c.args.file.now c.args.term c.args.index c.write_file.result old mid new cleared.0 cleared.1 cleared.2 leaves
    c.write_file.ensures.cause c.write_file.ensures.tells c.write_file.ensures.count
