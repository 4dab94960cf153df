use Rattle.std.proofs.Common.{◌≡◌, ◌∙◌, ◌+◌, ◌-◌, ◌*◌, ◌^◌, ◌<◌, ◌≤◌, ℕ, ap, arith, drop, get_or, length, sym}
use Rattle.std.proofs.lemmas.List.Elements.{All-more}
use Rattle.command_line.specs.Words.{IsDigit, number_behind}
use Rattle.command_line.proofs.LineLemmas.{long_text}
use Rattle.command_line.proofs.NumberLemmas.{all_read, no_number, not_below, one_more, too_large}
use Rattle.command_line.proofs.numbers.number_of.Goals as goal

pub returns-in_default : goal.returns-in_default
returns-in_default c =
    let bytes = c.as_bytes-byte-items.result.now in
    let high = not_below _ _ c.in_default.ensures in
    let much : 2 ^ 64 ≤ c.loop-byte.number * 10 + (get_or bytes c.loop-byte.byte-index 0 - 48) = omega arith in
    no_number c.args.text.now (too_large c.args.text.now bytes c.loop-byte.byte-index c.loop-byte.number c.as_bytes-byte-items.ensures.value c.loop-byte-test.true c.loop-byte.invariant.1 much)

pub returns-in_default-checked_add : goal.returns-in_default-checked_add
returns-in_default-checked_add c =
    let bytes = c.as_bytes-byte-items.result.now in
    let high = not_below _ _ c.in_default-checked_add.ensures in
    let tens = c.in-Some.ensures.1 in
    let digit = c.from-digit.ensures in
    let much : 2 ^ 64 ≤ c.loop-byte.number * 10 + (get_or bytes c.loop-byte.byte-index 0 - 48) = omega arith in
    no_number c.args.text.now (too_large c.args.text.now bytes c.loop-byte.byte-index c.loop-byte.number c.as_bytes-byte-items.ensures.value c.loop-byte-test.true c.loop-byte.invariant.1 much)

pub loop-byte-preserved : goal.loop-byte-preserved
loop-byte-preserved c =
    let bytes = c.as_bytes-byte-items.result.now in
    let i = c.loop-byte.byte-index in
    let low : i < length bytes = c.loop-byte-test.true in
    let tens = c.in-Some.ensures.1 in
    let digit = c.from-digit.ensures in
    let more = c.in-Some-checked_add.ensures in
    let sum : c.in-Some-checked_add.sum ≡ c.loop-byte.number * 10 + (get_or bytes i 0 - 48) = omega arith in (
      All-more IsDigit bytes i 0 low c.loop-byte.invariant.0 c.if-not-is_ascii_digit.ensures.cases,
      ap (λ (x : ℕ). number_behind x (drop (i + 1) bytes)) sum ∙ (sym (one_more bytes i c.loop-byte.number low) ∙ c.loop-byte.invariant.1),
      omega arith,
    )

pub returns : goal.returns
returns c =
    all_read c.args.text.now c.as_bytes-byte-items.result.now c.loop-byte.byte-index c.loop-byte.number c.as_bytes-byte-items.ensures.value (omega arith) c.loop-byte.invariant.0 c.loop-byte.invariant.1
    (long_text c.args.text.now c.is_empty.result c.is_empty.ensures c.if-is_empty.false) (omega arith) c.loop-byte.invariant.2
