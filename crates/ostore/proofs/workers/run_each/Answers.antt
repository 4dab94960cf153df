use denote.Param.Send.{arg_send, param_send}
use Rattle.std.proofs.Common.{◌≡◌, ◌∙◌, ap, get_or, map, subst, sym}
use Rattle.std.specs.Prelude.{All, not}
use Rattle.std.proofs.lemmas.List.Elements.{All-map}
use Rattle.io_base.specs.Works.{picked}
use Rattle.serve_loop.proofs.SendLemmas.{work_send}
use Rattle.ostore.specs.Workers.{HasServed, begun_by, worker_of, workers_of}
use Rattle.ostore.proofs.SendLemmas.{desk_sync, way_send}
use Rattle.ostore.proofs.WorkerLemmas.{all_of_map, counts_map, map_both, picked_map, picked_some}
use Rattle.ostore.proofs.workers.run_each.Goals as goal

pub run_all-requires-send-W : goal.run_all-requires-send-W
run_all-requires-send-W g c κs lives = search (param_send, arg_send, work_send, desk_sync, way_send) depth 10

pub returns-clause-ran : goal.returns-clause-ran
returns-clause-ran g c =
    let works = c.args.works.items in
    let dones = c.run_all.result.done.items in
    let apart = c.run_all.ensures.apart in
    let clock = c.args.clock.now in
    let dones_are : map begun_by (workers_of dones) ≡ picked apart.ran 0 (map begun_by (workers_of works)) =
    map_both begun_by worker_of dones ∙ (apart.done_kept ∙ ap (picked apart.ran 0) (sym (map_both begun_by worker_of works))) in
    let posts = All-map (λ began. began.clock ≡ clock) begun_by (workers_of works) (λ k d below. ap (λ began. began.clock) (c.requires.posts k d below)) in
    let begun = subst (All (λ began. began.clock ≡ clock)) (sym dones_are) (picked_some (λ began. began.clock ≡ clock) apart.ran 0 (map begun_by (workers_of works)) posts) in
    let clocks = all_of_map (λ worker. worker.began.clock ≡ clock) worker_of dones (all_of_map (λ began. began.clock ≡ clock) begun_by (workers_of dones) begun) in
    record {
      ran = apart.ran;
      dones_are = dones_are;
      lefts_are = ap workers_of apart.left_same ∙ picked_map worker_of (λ n. not (apart.ran n)) 0 works;
      served = All-map (HasServed g.D.Drive g.D.Share.root g.A.Audit.entries g.A.Audit.count g.O.Door g.O.In.Source g.O.Out.Sink (g.C.Clock.moment clock)) worker_of dones
          (λ k d below. subst (λ at. HasServed g.D.Drive g.D.Share.root g.A.Audit.entries g.A.Audit.count g.O.Door g.O.In.Source g.O.Out.Sink (g.C.Clock.moment at)
          (worker_of (get_or dones k d))) (clocks k d below)
          (record { out = (c.run_all.ensures.over k d below).0; served = (c.run_all.ensures.over k d below).1 }));
      counted = counts_map worker_of c.run_all.result.left.items _ _ c.run_all.ensures.counted;
    }
