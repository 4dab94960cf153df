use Rattle.std.proofs.Common.{◌≡◌, ◌<◌, ◌≤◌, ◌∙◌, ℕ, get_or, length, sym, arith}
use Rattle.std.proofs.lemmas.List.{get_or-set_other}
use Rattle.ostore.proofs.SharingLemmas.{map_set, shared_more}
use Rattle.ostore.proofs.sharing.share_each.Goals as goal

pub loop-disk-preserved : goal.loop-disk-preserved
loop-disk-preserved g c =
    let disks = c.loop-disk.disks in
    let n = c.loop-disk.disk-index in
    let held = c.loop-disk.invariant in
    let inside : n < length disks = omega (arith, c.loop-disk-test.true) in
    record {
      shared = shared_more g.D.Drive disks n c.share.new.self inside held.shared (record { tells = c.in_ok-share.ensures.tells; count = c.in_ok-share.ensures.count });
      others = λ k d above. get_or-set_other disks n k c.share.new.self d (λ same. absurd (omega (arith, above, same))) ∙ held.others k d (omega (arith, above));
      roots = map_set g.D.Share.root disks n c.share.new.self c.disk-item.result inside c.in_ok-share.ensures.root ∙ held.roots;
    }
