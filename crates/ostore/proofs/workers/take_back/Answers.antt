use Rattle.std.proofs.Common.{◌≡◌, ◌+◌, ◌∙◌, ◌++◌, [], ◌∷◌, ap, append-nil, append_assoc, arith, map, refl, reverse, subst, sym}
use Rattle.std.proofs.lemmas.Bool.{false≢true}
use Rattle.std.specs.Prelude.{All}
use Rattle.std.proofs.lemmas.List.{map-append}
use Rattle.store_shared.specs.Parting.{AreJoined}
use Rattle.store_shared.specs.SharedPasses.{FitsDesk, shared_holds}
use Rattle.ostore.specs.Workers.{IsOfDesk, door_by, pass_by, worker_of, workers_of}
use Rattle.ostore.proofs.WorkerLemmas.{all_front, all_last, failed_more, first_behind, still_more}
use Rattle.ostore.proofs.workers.take_back.Goals as goal

pub loop-work-init : goal.loop-work-init
loop-work-init g c = record {
  fits = c.requires.fits;
  desks = c.requires.desk;
  gone = [];
  are = sym (append-nil (workers_of c.args.works.items));
  united = refl;
  back = sym (append-nil c.args.doors.now.items);
  failed = λ bad. absurd (false≢true bad);
  still = λ none. tt;
  starved = refl;
  room = c.requires.room;
  capacity = refl;
  len = refl;
}

pub join-joined-requires-clause-fits_too : goal.join-joined-requires-clause-fits_too
join-joined-requires-clause-fits_too g c =
    let held = shared_holds c.into_parts-other.result.0 in
    let workers = ap workers_of c.in-Some.ensures.items ∙ map-append worker_of c.pop.new.self.items (c.in-Some.work ∷ []) in
    let own = all_last (IsOfDesk c.args.desk.now) (workers_of c.pop.new.self.items) (worker_of c.in-Some.work)
    (subst (All (IsOfDesk c.args.desk.now)) workers c.loop-work.invariant.desks) in
    c.fits_law.ensures c.args.desk.now held (subst (λ d. ∥ FitsDesk d held ∥₁) own c.into_parts-other.ensures.fits)

pub loop-work-preserved : goal.loop-work-preserved
loop-work-preserved g c =
    let inv = c.loop-work.invariant in
    let work = c.in-Some.work in
    let worker = worker_of work in
    let front = c.pop.new.self.items in
    let workers = ap workers_of c.in-Some.ensures.items ∙ map-append worker_of front (work ∷ []) in
    record {
      fits = c.join-joined.ensures.fits;
      desks = all_front (IsOfDesk c.args.desk.now) (workers_of front) worker (subst (All (IsOfDesk c.args.desk.now)) workers inv.desks);
      gone = worker ∷ inv.gone;
      are = inv.are ∙ (ap (λ l. l ++ inv.gone) workers ∙ append_assoc (workers_of front) (worker ∷ []) inv.gone);
      united = (
        c.loop-work.whole,
        c.join-joined.result.1.items,
        inv.united,
        subst (λ p. AreJoined c.loop-work.whole p c.join-joined.result.0 c.join-joined.result.1.items) c.into_parts-other.ensures.pass c.join-joined.ensures.joined,
      );
      back = c.push_reserved.ensures.items ∙ (ap (λ l. l ++ c.into_parts-other.result.1 ∷ []) inv.back
          ∙ (ap (λ d. (c.args.doors.now.items ++ reverse (map door_by inv.gone)) ++ d ∷ []) c.into_parts-other.ensures.door
          ∙ first_behind c.args.doors.now.items (map door_by inv.gone) (door_by worker)));
      failed = failed_more g.O.Door c.loop-work.has_failed c.has_failed-has_failed.result worker inv.gone inv.failed c.has_failed-has_failed.ensures.failed;
      still = still_more g.O.Door c.loop-work.has_failed c.has_failed-has_failed.result worker inv.gone inv.still
          (λ none. record { held = c.has_failed-has_failed.ensures.held none; faults = c.has_failed-has_failed.ensures.still none });
      starved = omega (arith, c.saturating_add-starved.ensures, c.starved.ensures, inv.starved);
      room = omega (arith, c.push_reserved.ensures.len, c.push_reserved.ensures.capacity, c.in-Some.ensures.len, inv.room);
      capacity = c.push_reserved.ensures.capacity ∙ inv.capacity;
      len = omega (arith, c.push_reserved.ensures.len, c.in-Some.ensures.len, inv.len);
    }
