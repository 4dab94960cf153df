use Rattle.std.proofs.Common.{◌∙◌, ◌∷◌, [], ◌++◌, ap, length, refl, arith}
use Rattle.ostore.proofs.opening.handed_back.Goals as goal

pub push_reserved-requires : goal.push_reserved-requires
push_reserved-requires g c =
    let away = c.requires.away in
    let none = ap length away.no_rows in
    let room = away.room_for_row in
    omega (arith, none, room)

pub returns : goal.returns
returns g c =
    let parts = c.into_parts-disks in
    record {
      why = parts.ensures.why;
      set_is = refl;
      slots = parts.ensures.slots;
      disks = c.push_reserved.ensures.items ∙ (ap (λ l. l ++ parts.result.0.disks ∷ []) c.requires.away.no_rows ∙ ap (λ d. d ∷ []) parts.ensures.disks);
    }
