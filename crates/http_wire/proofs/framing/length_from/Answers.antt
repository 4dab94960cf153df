use Rattle.std.proofs.Common.{List, ℕ, subst}
use Rattle.http_wire.specs.Framing.{ReadsLength}
use Rattle.http_wire.proofs.FramingLemmas.{no_number}
use Rattle.http_wire.proofs.framing.length_from.Goals as goal

pub returns-in-None : goal.returns-in-None
returns-in-None c =
    no_number c.args.head.now.lines c.args.first c.requires
    (subst (λ (v : List ℕ). (n : ℕ) → ReadsLength v n → ⊥) c.value.ensures c.in-None.ensures)
