use Rattle.std.proofs.Common.{◌≡◌, ◌+◌, ◌%◌, arith, slice_index}
use Rattle.sha2.specs.Sha256.{window_word}
use Rattle.hash_lanes.specs.Lanes.{window_of}
use Rattle.hash_lanes.proofs.LaneLemmas.{IsWindow_set, add32_pairs, slice_index-window_of}
use Rattle.hash_lanes.proofs.window.next_word.Goals as goal

pub returns : goal.returns
returns c j chunk low held =
    let at : c.args.place % 16 ≡ c.args.place = omega arith in
    let before = c.args.window.now in
    let word : slice_index c.add.result j ≡ window_word (window_of j before) c.args.place =
    rw (
      slice_index-window_of before j ((c.args.place + 14) % 16),
      slice_index-window_of before j ((c.args.place + 9) % 16),
      slice_index-window_of before j ((c.args.place + 1) % 16),
      slice_index-window_of before j (c.args.place % 16),
      at,
      c.add.ensures j low,
      c.add-older.ensures j low,
      c.small_sigma0.ensures j low,
      c.add-recent.ensures j low,
      c.small_sigma1.ensures j low,
    ) (add32_pairs _ _ _ _) in
    IsWindow_set before chunk c.add.result j c.args.turn c.args.place c.requires.low c.requires.high c.requires.place word held
