use Rattle.std.proofs.Common.{◌≡◌, ◌≤◌, ◌∙◌, slice_index_or, sym}
use Rattle.std.specs.Prelude.{IsTrue}
use Rattle.std.proofs.lemmas.List.{get_or_default, get_or-set_other, length-set}
use Rattle.store_shared.proofs.StrikingLemmas.{at_place}
use Rattle.store_shared.proofs.plain_pass.strike_disk.Goals as goal

pub returns : goal.returns
returns g c =
    let D = g.D.Drive in
    let old = c.args.disks.now.items in
    let n = c.args.index in
    let x = c.strike.new.drive in
    let item = c.index_mut.result.now in
    let was : (d : g.row.D.Denot) → slice_index_or old n d ≡ item = λ d. get_or_default old n d item c.requires ∙ sym c.index_mut.ensures.value in
    record {
      trouble = c.args.trouble.now;
      strikes = record {
        counted = length-set old n x;
        befell = at_place old n x item (λ a b. g.T.Trouble.befalls c.args.trouble.now a c.strike.result b) c.requires was c.strike.ensures.befalls;
        kept = at_place old n x item (λ a b. IsTrue (D.tells a) → (D.files b).kept ≡ (D.files a).kept) c.requires was c.strike.ensures.kept;
        loose = at_place old n x item (λ a b. IsTrue (D.tells a) → (D.files b).loose ≡ (D.files a).loose) c.requires was c.strike.ensures.loose;
        told = at_place old n x item (λ a b. D.tells b ≡ D.tells a) c.requires was c.strike.ensures.tells;
        rises = at_place old n x item (λ a b. D.count a ≤ D.count b) c.requires was c.strike.ensures.count;
        others = λ k d other. get_or-set_other old n k x d other;
      };
      trail = at_place old n x item (λ a b. D.trail b ≡ D.trail a) c.requires was c.strike.ensures.trail;
    }
