use Rattle.std.proofs.Common.{arith}
use Rattle.hash_lanes.proofs.LaneLemmas.{IsWindow_at}
use Rattle.hash_lanes.proofs.window.next_window.Goals as goal

pub returns : goal.returns
returns c j chunk low held =
    let first = c.next_four_words.ensures j chunk low (IsWindow_at _ chunk _ _ (omega arith) held) in
    let second = c.next_four_words-2.ensures j chunk low first in
    let third = c.next_four_words-3.ensures j chunk low second in
    c.next_four_words-4.ensures j chunk low third
