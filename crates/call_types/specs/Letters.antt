-- What drives answered, a letter for each.
use Rattle.std.specs.Prelude.{ℕ, List, map}
use Rattle.call_types.specs.declared.why.Why.{Why}
use Rattle.call_types.specs.declared.why.Why.TheVariants.{Good, Failed, Damaged, Behind, Lacks}

-- the letter of a `Why` in ASCII: g, f, d, b or l
abbrev pub letter_of : Why → ℕ
letter_of Good = 103
letter_of (Failed before after) = 102
letter_of (Damaged damage) = 100
letter_of (Behind ballot) = 98
letter_of (Lacks kind) = 108

-- those of the drives of a set, in their order
abbrev pub letters_of : List Why → List ℕ
letters_of whys = map letter_of whys
