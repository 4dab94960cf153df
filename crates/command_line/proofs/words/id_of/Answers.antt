use Rattle.std.proofs.Common.{◌≡◌, true, false}
use Rattle.command_line.proofs.words.id_of.Goals as goal

pub returns-in-Err : goal.returns-in-Err
returns-in-Err c = λ id. (
  (λ e. absurd cc),
  (λ is.
      let text_is = rw c.in-Some.is at is in
      let bad : false ≡ true = (c.in-Err.ensures.ok).1 (id, text_is) in
      absurd cc),
)
