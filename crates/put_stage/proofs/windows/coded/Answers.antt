-- A stripe, coded.
use Rattle.std.proofs.Common.{◌≡◌, ◌∙◌, ℕ, ◌+◌, ◌-◌, ◌*◌, ◌<◌, List, ap, arith, drop, length, map, refl, take}
use Rattle.std.proofs.lemmas.List.{take_at}
use Rattle.std.specs.Vec.{vec_len}
use Rattle.sha2.specs.Sha256.{sha256}
use Rattle.shard_file.specs.Stripes.{block_size, padded, pieces}
use Rattle.put_stage.proofs.CodingLemmas.{front_stays, is_coded, padded_items}
use Rattle.put_stage.proofs.windows.coded.Goals as goal

pub returns : goal.returns
returns c =
    let set = c.args.set.now in
    let d = set.drives - set.parity in
    let size = c.block_len-size.result in
    let stripe = c.args.stripe.items in
    let some : 0 < d = omega arith in
    let long : c.len.result ≡ length stripe = omega arith in
    let sized : size ≡ block_size d (length stripe) = c.block_len-size.ensures.size ∙ ap (block_size d) long in
    let once : c.resize.new.self.items ≡ padded d stripe =
    c.in_ok-resize.ensures.items
    ∙ padded_items d size c.read_quorum.result (vec_len c.args.stripe) stripe stripe some sized c.read_quorum.ensures.quorum refl (omega arith) in
    let twice : c.as_mut_slice.result.now ≡ c.resize-2.new.self.items = c.as_mut_slice.ensures.value in
    let sum : d + set.parity ≡ set.drives = omega arith in
    let spread : size * (d + set.parity) ≡ size * set.drives = ap (λ (m : ℕ). size * m) sum in
    let front : List ℕ = take (size * d) c.as_mut_slice.result.now in
    let front_is : front ≡ padded d stripe =
    ap (take {A = ℕ} (size * d)) (twice ∙ c.in_ok-resize-2.ensures.items)
    ∙ front_stays d size (size * set.drives) stripe c.resize.new.self.items _ some sized once (omega (arith, spread)) in
    let out = c.add_parity.ensures.parity in
    let held_long : length c.add_parity.new.blocks ≡ c.resize-2.new.self.len = omega (arith, c.as_mut_slice.ensures.len) in
    let blocks = take_at c.add_parity.new.blocks (drop (length c.add_parity.new.blocks) c.resize-2.new.self.items) c.resize-2.new.self.len held_long ∙ c.add_parity.ensures.blocks in
    let digests_long : length c.block_digests.new.digests ≡ c.in_ok-digests.digests.len = omega (arith, c.as_mut_slice-2.ensures.len) in
    let count : length c.as_mut_slice-2.result.now ≡ set.drives = omega (arith, c.in_ok-digests.ensures.len, c.as_mut_slice-2.ensures.len) in
    is_coded set.drives d set.parity stripe front out _ (omega arith) some sized front_is blocks c.add_parity.ensures.long
    c.add_parity.ensures.columns
    (take_at c.block_digests.new.digests (drop (length c.block_digests.new.digests) c.in_ok-digests.digests.items) c.in_ok-digests.digests.len digests_long
    ∙ c.block_digests.ensures
    ∙ ap (λ (n : ℕ). map sha256 (pieces size n c.as_slice.result.now)) count
    ∙ ap (λ (bytes : List ℕ). map sha256 (pieces size set.drives bytes)) c.as_slice.ensures.value)
