use Rattle.std.proofs.Common.{◌≡◌, List, get_or, length, subst, ℕ, ◌<◌}
use Rattle.drill_script.proofs.NumberLemmas.{empty_number, no_number, no_zero, other_front, parsed_number, unparsed}
use Rattle.drill_script.proofs.fields.number_of.Goals as goal
use Rattle.drill_script.proofs.fields.number_of.Goals.{then-is_empty-via-then-is_empty, then-is_empty-via-else-is_empty+then-not-is_ascii_digit}

pub returns-then-is_empty : goal.returns-then-is_empty
returns-then-is_empty c =
    elim c.then-is_empty.branch [
      | then-is_empty-via-then-is_empty w ↦ no_number c.args.word.now 64 (empty_number _ _ _ c.as_bytes-bytes.ensures.value c.is_empty.ensures w.if-is_empty.true)
      | then-is_empty-via-else-is_empty+then-not-is_ascii_digit w ↦ no_number c.args.word.now 64 (other_front _ _ c.as_bytes-bytes.ensures.value w.if-not-is_ascii_digit.ensures.cases)
    ]

pub returns-then-bytes-gt1 : goal.returns-then-bytes-gt1
returns-then-bytes-gt1 c =
    let same = c.as_bytes-bytes.ensures.value in
    let zero = subst (λ (t : List ℕ). get_or t 0 0 ≡ 48) same c.if-bytes-eq48.true in
    let long = subst (λ (t : List ℕ). 1 < length t) same c.if-bytes-gt1.true in
    no_number c.args.word.now 64 (no_zero c.args.word.now zero long)

pub returns-in-Ok : goal.returns-in-Ok
returns-in-Ok c = parsed_number _ _ _ c.as_bytes-bytes.ensures.value c.in-Ok.ensures.value.0 c.if-is_empty.ensures c.if-not-is_ascii_digit.ensures.cases c.else-bytes-eq48.either

pub returns-in-Err : goal.returns-in-Err
returns-in-Err c = no_number c.args.word.now 64 (unparsed c.args.word.now c.in-Err.ensures.value.0)
