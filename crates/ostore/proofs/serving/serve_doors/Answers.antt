use Rattle.std.proofs.Common.{◌≡◌, ◌∙◌, ◌+◌, ◌++◌, ℕ, ap, arith, inl, inr, length, map, refl, reverse, subst, sym}
use Rattle.std.specs.Prelude.{All, not}
use Rattle.std.proofs.lemmas.List.{length-map, length-reverse, reverse-reverse}
use Rattle.std.proofs.lemmas.List.Elements.{All-map}
use Rattle.store_shared.specs.SharedPasses.{drives_of}
use Rattle.ostore.specs.Sharing.{LeadTo}
use Rattle.ostore.specs.Workers.{AreDealt, door_by, pass_by, ways_of, worker_of, workers_of}
use Rattle.ostore.proofs.DoorsLemmas.{all_reverse, dones_of_desk, ends_so, lefts_of_desk, none_left, some_left}
use Rattle.ostore.proofs.WorkerLemmas.{all_of_map}
use Rattle.ostore.proofs.serving.serve_doors.Goals as goal

pub returns-in_default-clause-served : goal.returns-in_default-clause-served
returns-in_default-clause-served g c = inr (record {
  status_is = refl;
  starved_is = refl;
  passes = c.deal-rest.result.passes.items;
  rest = c.deal-rest.result.rest;
  dealt = c.deal-rest.ensures.dealt;
  united = c.unite.ensures.united;
  doors_back = refl;
  counted = refl;
})

pub employ-requires-clause-count : goal.employ-requires-clause-count
employ-requires-clause-count g c κs lives =
    let passes = c.deal-rest.result.passes.items in
    let rows = c.args.rows.items in
    sym (length-map passes drives_of) ∙ (ap length (c.deal-rest.ensures.ways c.in-true-Ok.is-0)
    ∙ (length-reverse (map ways_of rows) ∙ (length-map rows ways_of ∙ c.requires.count)))

pub take_back-done-requires-clause-desk : goal.take_back-done-requires-clause-desk
take_back-done-requires-clause-desk g c κs lives = dones_of_desk g.D.Drive g.D.Share.root g.A.Audit.entries g.A.Audit.count g.O.Door g.O.In.Source g.O.Out.Sink _
    c.args.desk.now c.args.clock.now _ _ _ _ _ c.run_each-done.ensures.ran c.employ.ensures.posts

pub take_back-done-requires-clause-room : goal.take_back-done-requires-clause-room
take_back-done-requires-clause-room g c κs lives =
    let works = c.employ.new.works in
    let long : length c.args.doors.items ≡ length works.items = ap length c.employ.ensures.doors
    ∙ (length-reverse (map door_by (workers_of works.items)) ∙ (length-map (workers_of works.items) door_by ∙ length-map works.items worker_of)) in
    omega (
      arith,
      long,
      ap length c.employ.ensures.none,
      c.employ.ensures.room,
      c.run_each-done.ensures.count,
      works.ok,
      c.args.doors.ok,
      c.employ.new.doors.ok,
      c.args.doors.small,
    )

pub take_back-left-requires-clause-desk : goal.take_back-left-requires-clause-desk
take_back-left-requires-clause-desk g c κs lives = lefts_of_desk g.D.Drive g.D.Share.root g.A.Audit.entries g.A.Audit.count g.O.Door g.O.In.Source g.O.Out.Sink _
    c.args.desk.now c.args.clock.now _ _ _ _ _ c.run_each-done.ensures.ran c.employ.ensures.posts

pub take_back-left-requires-clause-room : goal.take_back-left-requires-clause-room
take_back-left-requires-clause-room g c κs lives =
    let works = c.employ.new.works in
    let long : length c.args.doors.items ≡ length works.items = ap length c.employ.ensures.doors
    ∙ (length-reverse (map door_by (workers_of works.items)) ∙ (length-map (workers_of works.items) door_by ∙ length-map works.items worker_of)) in
    omega (
      arith,
      long,
      ap length c.employ.ensures.none,
      c.employ.ensures.room,
      c.run_each-done.ensures.count,
      works.ok,
      c.args.doors.ok,
      c.employ.new.doors.ok,
      c.args.doors.small,
      c.take_back-done.ensures.capacity,
      c.take_back-done.ensures.len,
    )

pub returns-clause-served : goal.returns-clause-served
returns-clause-served g c =
    let posts = workers_of c.employ.new.works.items in
    let dones = workers_of c.run_each-done.result.done.items in
    let lefts = workers_of c.run_each-done.result.left.items in
    let leads = LeadTo g.D.Drive g.D.Share.root (drives_of c.args.pass) in
    let rows = all_reverse leads (map ways_of c.args.rows.items) (All-map leads ways_of c.args.rows.items c.requires.rows) in
    let passes = all_of_map leads drives_of c.deal-rest.result.passes.items (subst (All leads) (sym (c.deal-rest.ensures.ways c.in-true-Ok.is-0)) rows) in
    let turned = all_reverse (λ pass. leads (drives_of pass)) (reverse (map pass_by posts)) (subst (All (λ pass. leads (drives_of pass))) c.employ.ensures.passes passes) in
    let each = subst (All (λ pass. leads (drives_of pass))) (reverse-reverse (map pass_by posts)) turned in
    inl (record {
      posts = posts;
      are_posts = c.employ.ensures.posts;
      ways = all_of_map (λ pass. leads (drives_of pass)) pass_by posts each;
      rest = c.deal-rest.result.rest;
      dealt = subst (λ l. AreDealt c.args.pass l c.deal-rest.result.rest) c.employ.ensures.passes c.deal-rest.ensures.dealt;
      doors_are = c.employ.ensures.doors;
      dones = dones;
      lefts = lefts;
      ran = c.run_each-done.ensures.ran;
      mid = c.take_back-done.result.whole;
      united = c.take_back-done.ensures.united;
      united_too = c.take_back-left.ensures.united;
      doors_back = c.take_back-left.ensures.doors ∙ ap (λ l. l ++ reverse (map door_by lefts))
          (c.take_back-done.ensures.doors ∙ ap (λ l. l ++ reverse (map door_by dones)) c.employ.ensures.none);
      ends = ends_so g.O.Door c.status_of_doors.result c.take_back-done.result.has_failed (not c.is_empty-is_left.result) dones lefts
          c.status_of_doors.ensures.failed c.status_of_doors.ensures.left c.status_of_doors.ensures.over c.take_back-done.ensures.failed c.take_back-done.ensures.still
          (some_left worker_of c.run_each-done.result.left c.is_empty-is_left.result c.is_empty-is_left.ensures)
          (none_left worker_of c.run_each-done.result.left c.is_empty-is_left.result c.is_empty-is_left.ensures)
          (λ k d below. (c.run_each-done.ensures.ran.served k d below).out);
      starved_is = c.take_back-done.ensures.starved;
    })
