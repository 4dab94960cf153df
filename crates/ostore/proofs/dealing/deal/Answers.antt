use Rattle.std.proofs.Common.{◌≡◌, ◌+◌, ◌∙◌, ◌++◌, [], ◌∷◌, ap, append-nil, append_assoc, arith, length, map, refl, reverse, subst, sym}
use Rattle.std.specs.Prelude.{All}
use Rattle.std.proofs.lemmas.List.{length-append, map-append, reverse-append}
use Rattle.std.proofs.lemmas.List.Elements.{All-nil, All-push}
use Rattle.store_shared.specs.Parting.{IsSplit, parts_at}
use Rattle.store_shared.specs.SharedPasses.{FitsDesk, drives_of, shared_holds}
use Rattle.ostore.specs.Workers.{AreDealt, FitsEach, HasLength, ways_of}
use Rattle.ostore.proofs.DealingLemmas.{dealt_more, split_parts}
use Rattle.ostore.proofs.WorkerLemmas.{all_front, all_last}
use Rattle.ostore.proofs.dealing.deal.Goals as goal

pub loop-row-init : goal.loop-row-init
loop-row-init g c =
    let none = c.in-Ok.ensures.items in
    let empty : length c.in-Ok.passes.items ≡ 0 = ap length none in
    record {
      rows = c.requires.rows;
      dealt = subst (λ l. AreDealt c.args.pass l c.args.pass) (sym none) refl;
      fits = c.requires.fits;
      fit = subst (λ l. FitsEach c.args.desk.now l) (sym none) (All-nil (λ pass. FitsDesk c.args.desk.now (shared_holds pass)));
      parts = λ k below. omega (arith, empty, c.requires.parts k below);
      count = omega (arith, empty);
      gone = [];
      are = sym (append-nil c.args.rows.items);
      ways = ap (map drives_of) none;
      room = omega (arith, c.in-Ok.ensures.len, c.in-Ok.ensures.capacity, c.len.ensures);
    }

pub split-requires-clause-drives : goal.split-requires-clause-drives
split-requires-clause-drives g c =
    all_last (HasLength c.loop-row.rest.set.drives) c.pop.new.self.items c.in-Some.row
    (subst (All (HasLength c.loop-row.rest.set.drives)) c.in-Some.ensures.items c.loop-row.invariant.rows)

pub loop-row-preserved : goal.loop-row-preserved
loop-row-preserved g c =
    let held = c.loop-row.invariant in
    let passes = c.loop-row.passes.items in
    let rest = c.loop-row.rest in
    let row = c.in-Some.row in
    let more = c.in-Ok-split.more in
    let cut = c.in-Ok-split.cut in
    let items = c.in-Some.ensures.items in
    let pushed = c.push_reserved.ensures.items in
    let split = c.in-Ok-split.ensures.split in
    let longer : length c.push_reserved.new.self.items ≡ length passes + 1 = ap length pushed ∙ length-append passes (cut ∷ []) in
    let shorter : length c.loop-row.rows.items ≡ length c.pop.new.self.items + 1 = ap length items ∙ length-append c.pop.new.self.items (row ∷ []) in
    record {
      rows = subst (λ s. All (HasLength s.drives) c.pop.new.self.items) (sym split.set)
          (all_front (HasLength rest.set.drives) c.pop.new.self.items row (subst (All (HasLength rest.set.drives)) items held.rows));
      dealt = subst (λ l. AreDealt c.args.pass l more) (sym pushed)
          (dealt_more c.args.pass passes rest more cut held.dealt (subst (IsSplit rest more cut) (sym split.drives_too) split));
      fits = c.in-Ok-split.ensures.fits.0;
      fit = subst (FitsEach c.args.desk.now) (sym pushed)
          (All-push (λ pass. FitsDesk c.args.desk.now (shared_holds pass)) passes cut held.fit c.in-Ok-split.ensures.fits.1);
      parts = λ k below. omega (arith, split_parts rest more cut row.items split k below, held.parts k below, longer);
      count = omega (arith, longer, shorter, held.count);
      gone = row ∷ held.gone;
      are = held.are ∙ (ap (λ l. l ++ held.gone) items ∙ append_assoc c.pop.new.self.items (row ∷ []) held.gone);
      ways = ap (map drives_of) pushed ∙ (map-append drives_of passes (cut ∷ [])
          ∙ (ap (λ l. l ++ drives_of cut ∷ []) held.ways ∙ (ap (λ d. reverse (map ways_of held.gone) ++ d ∷ []) split.drives_too ∙ sym (reverse-append (row.items ∷ []) (map ways_of held.gone)))));
      room = omega (arith, c.push_reserved.ensures.len, c.push_reserved.ensures.capacity, c.in-Some.ensures.len, held.room);
    }
