use Rattle.std.proofs.Common.{arith, refl}
use Rattle.file_access.proofs.reading.piece_into.Goals as goal

pub returns-else-count-into-clause-cause : goal.returns-else-count-into-clause-cause
returns-else-count-into-clause-cause g c = (
  c.in-Ok.ensures.count,
  λ tells.
      let read = (c.in-Ok.ensures.files tells).0 in
      let n = read.2.count in
      let not_all = c.if-count-into.false in
      let sum = c.saturating_add-end.ensures in
      (read.0, read.1, (omega (arith, n, not_all), grind (arith, n, not_all, sum))),
)

pub returns-else-count-into-clause-called : goal.returns-else-count-into-clause-called
returns-else-count-into-clause-called g c =
    let not_all = c.if-count-into.false in
    let within = c.in-Ok.ensures.within in (
      _,
      (c.in-Ok.count, refl, omega (arith, within, not_all), c.saturating_add-end.ensures),
      record { files = c.in-Ok.ensures.files; tells = c.in-Ok.ensures.tells; count = c.in-Ok.ensures.count; trail = c.in-Ok.ensures.trail },
    )
