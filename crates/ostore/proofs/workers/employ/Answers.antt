use Rattle.std.proofs.Common.{◌≡◌, ◌+◌, ◌∙◌, ◌++◌, [], ◌∷◌, ap, arith, length, map, reverse, subst, sym}
use Rattle.std.specs.Prelude.{All}
use Rattle.std.proofs.lemmas.List.{length-append, map-append}
use Rattle.std.proofs.lemmas.List.Elements.{All-push}
use Rattle.serve_loop.specs.Doors.{work_began}
use Rattle.store_shared.specs.SharedPasses.{FitsDesk, shared_holds}
use Rattle.ostore.specs.Workers.{FitsEach, IsPost, door_by, pass_by, worker_of, workers_of}
use Rattle.ostore.proofs.WorkerLemmas.{all_front, all_last, last_over}
use Rattle.ostore.proofs.workers.employ.Goals as goal

pub new-requires-clause-fits : goal.new-requires-clause-fits
new-requires-clause-fits g c κs lives =
    ∣ all_last (λ pass. FitsDesk c.args.desk.now (shared_holds pass)) c.pop-in-Some.new.self.items c.in-Some-pop.pass
    (subst (FitsEach c.args.desk.now) c.in-Some-pop.ensures.items c.loop-door.invariant.fit) ∣₁

pub loop-door-preserved : goal.loop-door-preserved
loop-door-preserved g c =
    let held = c.loop-door.invariant in
    let works = c.loop-door.works.items in
    let work = c.new.result in
    let pushed = c.push_reserved.ensures.items in
    let workers : workers_of c.push_reserved.new.self.items ≡ workers_of works ++ worker_of work ∷ [] = ap workers_of pushed ∙ map-append worker_of works (work ∷ []) in
    let fewer : length c.loop-door.passes.items ≡ length c.pop-in-Some.new.self.items + 1 =
    ap length c.in-Some-pop.ensures.items ∙ length-append c.pop-in-Some.new.self.items (c.in-Some-pop.pass ∷ []) in
    let fewer_doors : length c.loop-door.doors.items ≡ length c.pop.new.self.items + 1 =
    ap length c.in-Some.ensures.items ∙ length-append c.pop.new.self.items (c.in-Some.door ∷ []) in
    record {
      posts = subst (All (IsPost c.args.desk.now c.args.clock.now)) (sym workers)
          (All-push (IsPost c.args.desk.now c.args.clock.now) (workers_of works) (worker_of work) held.posts
          (c.new.ensures.began ∙ (ap (λ p. work_began c.args.desk.now c.args.clock.now p c.in-Some.door) (sym c.new.ensures.pass)
          ∙ ap (work_began c.args.desk.now c.args.clock.now (pass_by (worker_of work))) (sym c.new.ensures.door))));
      passes = held.passes ∙ (ap (λ l. l ++ reverse (map pass_by (workers_of works)))
          (c.in-Some-pop.ensures.items ∙ ap (λ p. c.pop-in-Some.new.self.items ++ p ∷ []) (sym c.new.ensures.pass))
          ∙ (last_over pass_by c.pop-in-Some.new.self.items (worker_of work) (workers_of works)
          ∙ ap (λ l. c.pop-in-Some.new.self.items ++ reverse (map pass_by l)) (sym workers)));
      doors = held.doors ∙ (ap (λ l. l ++ reverse (map door_by (workers_of works)))
          (c.in-Some.ensures.items ∙ ap (λ p. c.pop.new.self.items ++ p ∷ []) (sym c.new.ensures.door))
          ∙ (last_over door_by c.pop.new.self.items (worker_of work) (workers_of works)
          ∙ ap (λ l. c.pop.new.self.items ++ reverse (map door_by l)) (sym workers)));
      fit = all_front (λ pass. FitsDesk c.args.desk.now (shared_holds pass)) c.pop-in-Some.new.self.items c.in-Some-pop.pass
          (subst (FitsEach c.args.desk.now) c.in-Some-pop.ensures.items held.fit);
      count = omega (arith, fewer, fewer_doors, held.count);
      room = omega (arith, c.push_reserved.ensures.len, c.push_reserved.ensures.capacity, c.in-Some.ensures.len, held.room);
      capacity = c.in-Some.ensures.capacity ∙ held.capacity;
    }
