use Rattle.std.proofs.Common.{◌≡◌, ◌+◌, ◌-◌, ◌*◌, ◌++◌, ◌∷◌, ◌∙◌, [], ℕ, length, take, drop, ap, refl, arith}
use Rattle.std.proofs.lemmas.List.{length-drop, length-take-le}
use Rattle.get_read.proofs.WindowLemmas.{distinct_more, more_long, rows_more}
use Rattle.get_read.proofs.window.Window.with_run.Goals as goal

pub invariant_of-result : goal.invariant_of-result
invariant_of-result c =
    let w = c.args.self in
    let rows : c.push.new.self.items ≡ w.rows.items ++ w.tried ∷ [] = c.in_ok-push.ensures.items in
    let stored : c.extend_from_slice.new.self.items ≡ w.stored.items ++ take (32 * w.first + 32 * w.count - 32 * w.first) (drop (32 * w.first) c.args.table.now) = c.in_ok-extend_from_slice.ensures.items in
    let bytes : c.extend_from_slice-2.new.self.items ≡ w.bytes.items ++ c.args.run.now = c.in_ok-extend_from_slice-2.ensures.items in
    let table_long : length (take (32 * w.first + 32 * w.count - 32 * w.first) (drop (32 * w.first) c.args.table.now)) ≡ w.count * 32 =
    ap (λ (n : ℕ). length (take n (drop (32 * w.first) c.args.table.now))) (omega arith)
    ∙ length-take-le (32 * w.count) (drop (32 * w.first) c.args.table.now) (omega (arith, length-drop (32 * w.first) c.args.table.now, c.requires.table)) ∙ omega arith in
    record {
      few = w.few;
      small = w.small;
      hashes = more_long (length w.rows.items) w.count 32 w.stored.items _ c.extend_from_slice.new.self.items w.rows.items c.push.new.self.items w.tried refl w.hashes table_long stored rows;
      long = more_long (length w.rows.items) w.count w.size w.bytes.items _ c.extend_from_slice-2.new.self.items w.rows.items c.push.new.self.items w.tried refl w.long c.requires.run bytes rows;
      below = rows_more w.tried w.rows.items c.push.new.self.items rows w.below;
      distinct = distinct_more w.tried w.rows.items c.push.new.self.items rows w.below w.distinct;
    }
