use Rattle.std.proofs.Common.{◌≡◌, ◌+◌, [], ◌∷◌, ◌++◌, arith, string_bytes, suc}
use Rattle.drive_file.proofs.AskLemmas.{longer, made_all, makes_more, making_more, outermost_more}
use Rattle.drive_file.proofs.folders.make.Goals as goal

pub loop-place-preserved : goal.loop-place-preserved
loop-place-preserved g c =
    let was = c.loop-place.invariant in
    let place = c.loop-place.place in
    let next : place + 1 ≡ suc place = omega arith in
    record {
      made = was.made ++ (c.in_ok-is_new.is_new ∷ []);
      long = longer was.made c.in_ok-is_new.is_new place was.long;
      within = omega (arith, was.within, c.outermost-first.ensures.before);
      outermost = outermost_more was.made c.in_ok-is_new.is_new c.loop-place.first c.outermost-first.result was.outermost c.outermost-first.ensures.before
          (λ e. let new = c.outermost-first.ensures.new e in omega (arith, new, was.long));
      calls = makes_more string_bytes c.args.inner.now place (place + 1) c.index-inner-place.result c.as_str.result.now c.in_ok-is_new.is_new was.made
          (g.F.Folder.calls c.args.system.now) (g.F.Folder.calls c.loop-place.system) (g.F.Folder.calls c.make.new.self)
          c.loop-place-test.true c.index-inner-place.is next c.as_str.ensures.value c.in_ok-is_new.ensures.calls was.calls;
      only = making_more string_bytes c.args.inner.now place c.index-inner-place.result c.as_str.result.now c.make.result
          (g.F.Folder.calls c.args.system.now) (g.F.Folder.calls c.loop-place.system) (g.F.Folder.calls c.make.new.self)
          c.loop-place-test.true c.index-inner-place.is c.as_str.ensures.value c.make.ensures.calls was.only;
    }

pub returns-in_err-is_new-clause-only : goal.returns-in_err-is_new-clause-only
returns-in_err-is_new-clause-only g c =
    making_more string_bytes c.args.inner.now c.loop-place.place c.index-inner-place.result c.as_str.result.now c.make.result
    (g.F.Folder.calls c.args.system.now) (g.F.Folder.calls c.loop-place.system) (g.F.Folder.calls c.make.new.self)
    c.loop-place-test.true c.index-inner-place.is c.as_str.ensures.value c.make.ensures.calls c.loop-place.invariant.only

pub returns-clause-made : goal.returns-clause-made
returns-clause-made g c =
    let was = c.loop-place.invariant in
    made_all string_bytes c.args.inner.now was.made c.loop-place.first c.loop-place.place
    (g.F.Folder.calls c.args.system.now) (g.F.Folder.calls c.loop-place.system)
    was.long c.loop-place-test.false c.loop-place.auto.place-end was.within was.outermost was.calls
