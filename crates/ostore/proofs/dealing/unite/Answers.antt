use Rattle.std.proofs.Common.{◌≡◌, ◌∙◌, ◌++◌, [], ◌∷◌, ap, append_assoc, subst}
use Rattle.std.specs.Prelude.{All}
use Rattle.store_shared.specs.SharedPasses.{FitsDesk, shared_holds}
use Rattle.ostore.specs.Workers.{FitsEach}
use Rattle.ostore.proofs.WorkerLemmas.{all_front}
use Rattle.ostore.proofs.dealing.unite.Goals as goal

pub loop-other-preserved : goal.loop-other-preserved
loop-other-preserved g c =
    let held = c.loop-other.invariant in
    let items = c.in-Some.ensures.items in
    let other = c.in-Some.other in
    record {
      fits = c.join-joined.ensures.fits;
      fit = all_front (λ pass. FitsDesk c.args.desk.now (shared_holds pass)) c.pop.new.self.items other (subst (FitsEach c.args.desk.now) items held.fit);
      gone = other ∷ held.gone;
      are = held.are ∙ (ap (λ l. l ++ held.gone) items ∙ append_assoc c.pop.new.self.items (other ∷ []) held.gone);
      united = (c.loop-other.whole, c.join-joined.result.1.items, held.united, c.join-joined.ensures.joined);
    }
