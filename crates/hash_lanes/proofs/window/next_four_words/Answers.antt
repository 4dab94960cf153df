use Rattle.std.proofs.Common.{arith}
use Rattle.hash_lanes.proofs.LaneLemmas.{IsWindow_at}
use Rattle.hash_lanes.proofs.window.next_four_words.Goals as goal

pub returns : goal.returns
returns c j chunk low held =
    let first = c.next_word.ensures j chunk low held in
    let second = c.next_word-2.ensures j chunk low first in
    let third = c.next_word-3.ensures j chunk low (IsWindow_at _ chunk _ _ (omega arith) second) in
    let fourth = c.next_word-4.ensures j chunk low (IsWindow_at _ chunk _ _ (omega arith) third) in
    IsWindow_at _ chunk _ _ (omega arith) fourth
