use Rattle.std.proofs.Common.{◌≡◌, ◌/◌, ap, refl, arith, length, take}
use Rattle.hash_lanes.specs.Padding.{end_length}
use Rattle.hash_lanes.proofs.Messages.{length-end_of, sha256_from}
use Rattle.hash_lanes.proofs.four.hash_four.Goals as goal

pub returns : goal.returns
returns c =
    let a = c.args.a.now in
    let end = c.end_length-end.result in
    let ends : end ≡ end_length (length a) = c.end_length-end.ensures.value in
    let is_end = rw (← ends) at c.end_of.ensures in
    let chunks : length (take end c.end_of.result) / 64 ≡ end_length (length a) / 64 = omega (arith, ap length is_end, length-end_of a) in
    let first = c.first_hash-hash.ensures in
    let middle = c.take_in.ensures in
    let last = c.take_in-2.ensures in
    let at_0 =
    sha256_from a a c.end_of.result _ _ _ _ end _ refl ends chunks (first 0 (omega arith)) (middle 0 (omega arith))
    c.end_of.ensures (last 0 (omega arith)) c.digest_of.ensures in
    let at_1 =
    sha256_from a c.args.b.now c.end_of-2.result _ _ _ _ end _ c.requires.b ends chunks (first 1 (omega arith)) (middle 1 (omega arith))
    c.end_of-2.ensures (last 1 (omega arith)) c.digest_of-2.ensures in
    let at_2 =
    sha256_from a c.args.c.now c.end_of-3.result _ _ _ _ end _ c.requires.c ends chunks (first 2 (omega arith)) (middle 2 (omega arith))
    c.end_of-3.ensures (last 2 (omega arith)) c.digest_of-3.ensures in
    let at_3 =
    sha256_from a c.args.d.now c.end_of-4.result _ _ _ _ end _ c.requires.d ends chunks (first 3 (omega arith)) (middle 3 (omega arith))
    c.end_of-4.ensures (last 3 (omega arith)) c.digest_of-4.ensures in
    rw (at_0, at_1, at_2, at_3) refl
