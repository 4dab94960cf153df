use Rattle.std.proofs.Common.{◌≡◌, ◌+◌, ◌++◌, List, ℕ, ap, arith, codes, string_bytes, suc, ◌∙◌}
use Rattle.drive_file.specs.Paths.{path_below}
use Rattle.drive_file.proofs.OpeningLemmas.{cleared_all, clears_more, entry_cleared}
use Rattle.drive_file.proofs.opening.clear_all.Goals as goal

pub loop-place-preserved : goal.loop-place-preserved
loop-place-preserved g c =
    let was = c.loop-place.invariant in
    let place = c.loop-place.place in
    let loose = c.args.loose.now in
    let next : place + 1 ≡ suc place = omega arith in
    let at : c.as_str-in-loop-place.result.now ≡ path_below loose (string_bytes c.index-entries-place.result) =
    c.as_str-in-loop-place.ensures.value ∙ c.in_ok-path.ensures ∙ ap (λ (entry : List ℕ). path_below loose entry) c.as_str.ensures.value in
    record {
      calls = clears_more loose string_bytes c.args.entries.now place (place + 1) c.index-entries-place.result c.as_str-in-loop-place.result.now
          (g.F.Folder.calls c.args.system.now) (g.F.Folder.calls c.loop-place.system) (g.F.Folder.calls c.clear.new.self)
          c.loop-place-test.true c.index-entries-place.is next at c.in_ok-clear.ensures.calls was.calls;
      only = entry_cleared loose (string_bytes c.index-entries-place.result) c.as_str-in-loop-place.result.now c.clear.result
          (g.F.Folder.calls c.args.system.now) (g.F.Folder.calls c.loop-place.system) (g.F.Folder.calls c.clear.new.self)
          at was.only c.clear.ensures.calls;
    }

pub returns-in_err-clear-clause-only : goal.returns-in_err-clear-clause-only
returns-in_err-clear-clause-only g c =
    let loose = c.args.loose.now in
    let at : c.as_str-in-loop-place.result.now ≡ path_below loose (string_bytes c.index-entries-place.result) =
    c.as_str-in-loop-place.ensures.value ∙ c.in_ok-path.ensures ∙ ap (λ (entry : List ℕ). path_below loose entry) c.as_str.ensures.value in
    entry_cleared loose (string_bytes c.index-entries-place.result) c.as_str-in-loop-place.result.now c.clear.result
    (g.F.Folder.calls c.args.system.now) (g.F.Folder.calls c.loop-place.system) (g.F.Folder.calls c.clear.new.self)
    at c.loop-place.invariant.only c.clear.ensures.calls

pub returns-clause-all : goal.returns-clause-all
returns-clause-all g c =
    cleared_all c.args.loose.now string_bytes c.args.entries.now c.loop-place.place (g.F.Folder.calls c.args.system.now) (g.F.Folder.calls c.loop-place.system)
    c.loop-place-test.false c.loop-place.invariant.calls
