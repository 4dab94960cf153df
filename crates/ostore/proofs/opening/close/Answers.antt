use Rattle.std.proofs.Common.{◌∙◌, ◌∷◌, [], ◌++◌, ap, length, refl, arith}
use Rattle.ostore.proofs.opening.close.Goals as goal

pub push_reserved-requires : goal.push_reserved-requires
push_reserved-requires g c =
    let away = c.requires.away in
    let none = ap length away.no_rows in
    let room = away.room_for_row in
    omega (arith, none, room)

pub returns : goal.returns
returns g c =
    let parts = c.shut-disks in
    record {
      set_is = refl;
      slots = parts.ensures.shut.slots;
      row = parts.result.disks;
      rows = c.push_reserved.ensures.items ∙ ap (λ l. l ++ parts.result.disks ∷ []) c.requires.away.no_rows;
      disks = parts.ensures.shut.disks;
    }
