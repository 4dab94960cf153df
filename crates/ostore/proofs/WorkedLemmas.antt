-- What workers did: the sections of their calls, and what was asked by their ways to the data drives.
use Rattle.std.proofs.Common.{◌≡◌, ◌∙◌, ◌<◌, ◌++◌, ◌+◌, ℕ, List, [], ◌∷◌, Option, Result, All, map, refl, sym, ap, subst}
use Rattle.std.proofs.Math.Logic.{∥∥₁_elim, ∥∥₁_map, ∥∥₁_prop}
use Rattle.std.specs.List.{AllZip}
use Rattle.std.proofs.lemmas.List.{append-nil, append_assoc, map-append}
use Rattle.std.proofs.lemmas.List.Elements.{All-append, All-head, All-nil, All-tail}
use Rattle.audit_trail.specs.declared.entry.Entry.{Entry}
use Rattle.call_types.specs.declared.feed.Cut.{Cut}
use Rattle.desk_base.specs.Answering.{Task}
use Rattle.desk_base.specs.Telling.{Telling}
use Rattle.drive_base.specs.declared.drive.Drive.{Ghosts}
use Rattle.io_base.specs.declared.door.Door.{Ghosts as DoorGhosts}
use Rattle.io_base.specs.declared.sink.Sink.{Ghosts as SinkGhosts}
use Rattle.io_base.specs.declared.source.Source.{Ghosts as SourceGhosts}
use Rattle.serve_loop.specs.Doors.{ServedSince, sight}
use Rattle.turn_lock.specs.declared.view.Turn.{Turn}
use Rattle.store_shared.specs.Among.{seen_in}
use Rattle.store_shared.specs.Sections.{AnswersAmong, AnswersHaveSections, IsSection, turn_by, turns_by}
use Rattle.store_shared.specs.SharedAnswers.{SharedAnswers}
use Rattle.store_shared.specs.SharedLaws.{TurnsRise}
use Rattle.store_shared.specs.SharedPasses.{drives_of, pass_at, shared_holds}
use Rattle.store_shared.specs.Trails.{SharedAnswersHaveTrails}
use Rattle.store_shared.specs.declared.op_desk.Receipt.{Receipt}
use Rattle.store_shared.specs.declared.shared.SharedPass.{SharedPass}
use Rattle.store_shared.specs.declared.shared.TurnedSlot.{TurnedSlot}
use Rattle.ostore.specs.ServedLife.{Made, WorkerDid}
use Rattle.ostore.specs.Trails.{AreUncalled}
use Rattle.ostore.specs.Workers.{HasServed, Worker, pass_by, view_of}
use Rattle.ostore.proofs.MadeLemmas.{Makes, made_visits}
use Rattle.ostore.proofs.PassTurnLemmas.{HasMade, HasNone, all_made, turns_at}
use Rattle.ostore.proofs.TrailLemmas.{served_trails}

-- tickets that rise to a count, and on from there
rises_on : {D A : Type 0} (seen mid now : ℕ) (xs ys : List (Turn (TurnedSlot D A))) → TurnsRise seen xs mid → TurnsRise mid ys now → TurnsRise seen (xs ++ ys) now
rises_on seen mid now [] ys first second = subst (λ n. TurnsRise n ys now) first second
rises_on seen mid now (x ∷ xs) ys (low, more) second = (low, rises_on (x.ticket + 1) mid now xs ys more second)

module _ {D A : Type 0} (ghosts : Ghosts D) (entries : A → Option (List Entry)) (count : A → ℕ) where
  -- how many turns of the slot of an index a pass has seen
  abbrev seen_at : SharedPass D A → ℕ → ℕ
  seen_at pass k = (seen_in (pass_at pass k)).seen

  -- from one moment of a pass to another these sections were done, and no others
  abbrev Did : Made D A → SharedPass D A → SharedPass D A → Type 0
  Did made old new = (k : ℕ) → k < 64 → (turns_at new k ≡ turns_at old k ++ turns_by (made k)) × All (IsSection ghosts entries count k) (made k)
      × TurnsRise (seen_at old k) (turns_by (made k)) (seen_at new k)

  did_none : (pass : SharedPass D A) → Did (λ k. []) pass pass
  did_none pass k inside = (sym (append-nil (turns_at pass k)), All-nil (IsSection ghosts entries count k), refl)

  did_both : (a b : Made D A) (old mid new : SharedPass D A) → Did a old mid → Did b mid new → Did (λ k. a k ++ b k) old new
  did_both a b old mid new first second k inside =
      let x = first k inside in
      let y = second k inside in (
        y.0 ∙ (ap (λ l. l ++ turns_by (b k)) x.0 ∙ (append_assoc (turns_at old k) (turns_by (a k)) (turns_by (b k))
            ∙ ap (λ l. turns_at old k ++ l) (sym (map-append turn_by (a k) (b k))))),
        All-append (IsSection ghosts entries count k) (a k) (b k) x.1 y.1,
        subst (λ l. TurnsRise (seen_at old k) l (seen_at new k)) (sym (map-append turn_by (a k) (b k)))
            (rises_on (seen_at old k) (seen_at mid k) (seen_at new k) (turns_by (a k)) (turns_by (b k)) x.2 y.2),
      )

  -- those of one call
  did_one : AnswersHaveSections ghosts entries count → (task : Task) (old new : SharedPass D A) (body : List ℕ) (tale : List Telling) (result : Result Receipt Cut)
      → SharedAnswers ghosts entries count task old new body tale result
      → Makes (SharedAnswers ghosts entries count) (AnswersAmong ghosts entries count) Did (λ all. AnswersAmong ghosts entries count all task old new body tale result) old new
  did_one have task old new body tale result answers =
      let x = have task old new body tale result answers in
      record {
        made = x.0;
        did = λ k inside. ((x.1.has k inside).turns, (x.1.has k inside).are, (x.1.has k inside).rise);
        shows = λ all within. (x.0, within, x.1);
      }

module _ {D A O S T : Type 0} (ghosts : Ghosts D) (entries : A → Option (List Entry)) (count : A → ℕ) (door : DoorGhosts O S T) (source : SourceGhosts S) (sink : SinkGhosts T)
    (moment : Option ℕ) {K C : Type 0} where
  -- what workers did, with the sections of each
  pub record Worked (workers : List (Worker K C (SharedPass D A) O)) : Type 0 where
    pub made : List (Made D A)
    pub did : AllZip (WorkerDid ghosts entries count door source sink moment) made workers
    pub has : AllZip HasMade made (map pass_by workers)
    pub are : (k : ℕ) → k < 64 → All (IsSection ghosts entries count k) (all_made made k)

module _ {D A O S T Root : Type 0} (ghosts : Ghosts D) (root : D → Root) (entries : A → Option (List Entry)) (count : A → ℕ) (door : DoorGhosts O S T) (source : SourceGhosts S)
    (sink : SinkGhosts T) (moment : Option ℕ) {K C : Type 0} (have : AnswersHaveSections ghosts entries count) (trails : SharedAnswersHaveTrails ghosts entries count) where
  -- a pass that a worker began with has no turns, and no call was made by its ways
  abbrev pub BeganWithNone : Worker K C (SharedPass D A) O → Type 0
  BeganWithNone worker = HasNone worker.began.pass × AreUncalled ghosts (drives_of worker.began.pass)

  pub worked : (workers : List (Worker K C (SharedPass D A) O)) → All (HasServed ghosts root entries count door source sink moment) workers → All BeganWithNone workers
      → ∥ Worked ghosts entries count door source sink moment workers ∥₁
  worked [] served none = ∣ record { made = []; did = _; has = _; are = λ k inside. All-nil (IsSection ghosts entries count k) } ∣₁
  worked (worker ∷ workers) served none =
      let rest = worked workers (All-tail (HasServed ghosts root entries count door source sink moment) worker workers served) (All-tail BeganWithNone worker workers none) in
      let first = (All-head (HasServed ghosts root entries count door source sink moment) worker workers served).served in
      let empty = All-head BeganWithNone worker workers none in
      ∥∥₁_elim rest ∥∥₁_prop (λ more. ∥∥₁_map first (λ since.
      let x = made_visits (SharedAnswers ghosts entries count) (AnswersAmong ghosts entries count) (Did ghosts entries count) (did_none ghosts entries count)
      (did_both ghosts entries count) (did_one ghosts entries count have) moment _ worker.began.pass since.visits worker.pass since.visited in
      let served : ServedSince (AnswersAmong ghosts entries count x.made) moment (sight source sink) shared_holds worker.began.pass worker.pass
      (view_of door worker.began.door) (view_of door worker.door) worker.starved = record {
        holds_still = since.holds_still;
        visits = since.visits;
        visited = x.shows x.made (λ k inside s here. here);
        passed = since.passed;
        shut = since.shut;
        counted = since.counted;
      } in
      record {
        made = x.made ∷ more.made;
        did = (
          record {
            served = served;
            uncalled = empty.1;
            trails = served_trails ghosts entries count trails x.made moment (sight source sink) worker.began.pass worker.pass (view_of door worker.began.door)
                (view_of door worker.door) served;
            did = record {
              turns = λ k inside. (x.did k inside).0;
              are = λ k inside. (x.did k inside).1;
              rise = λ k inside. (x.did k inside).2;
            };
          },
          more.did,
        );
        has = (λ k inside. (x.did k inside).0 ∙ ap (λ l. l ++ turns_by (x.made k)) (empty.0 k inside), more.has);
        are = λ k inside. All-append (IsSection ghosts entries count k) (all_made more.made k) (x.made k) (more.are k inside) (x.did k inside).1;
      }))
