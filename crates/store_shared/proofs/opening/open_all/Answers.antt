use Rattle.std.proofs.Common.{◌≡◌, ◌<◌, ◌+◌, ◌∙◌, ℕ, List, ap, length, reverse, slice_index_or, subst, sym, arith}
use Rattle.slot_core.specs.Views.{numbers_of}
use Rattle.slot_core.specs.declared.slot.Slot.{Slot}
use Rattle.store_shared.proofs.OpeningLemmas.{opened_count, opened_index, opened_set}
use Rattle.store_shared.proofs.opening.open_all.Goals as goal

pub new-requires-clause-count : goal.new-requires-clause-count
new-requires-clause-count g c =
    let x = c.in-Ok.ensures.opens in
    ap length c.turn_round.ensures.items
    ∙ (opened_count g.A.Audit.entries g.A.Audit.count c.in-Ok.set x.0.term 0 c.args.parts.slots.items (reverse c.open_on.new.slots.items) x.3 ∙ c.requires.count)

pub new-requires-clause-index : goal.new-requires-clause-index
new-requires-clause-index g c =
    let x = c.in-Ok.ensures.opens in
    subst (λ (l : List (Slot g.row.D.Denot g.row.A.Denot)). (k : ℕ) (d : Slot g.row.D.Denot g.row.A.Denot) → k < length l
    → (numbers_of (slice_index_or l k d)).index ≡ k) (sym c.turn_round.ensures.items)
    (λ k d inside.
    let same : 0 + k ≡ k = omega arith in
    opened_index g.A.Audit.entries g.A.Audit.count c.in-Ok.set x.0.term 0 c.args.parts.slots.items (reverse c.open_on.new.slots.items) x.3 k d inside ∙ same)

pub new-requires-clause-of_set : goal.new-requires-clause-of_set
new-requires-clause-of_set g c =
    let x = c.in-Ok.ensures.opens in
    subst (λ (l : List (Slot g.row.D.Denot g.row.A.Denot)). (k : ℕ) (d : Slot g.row.D.Denot g.row.A.Denot) → k < length l
    → (numbers_of (slice_index_or l k d)).set ≡ c.in-Ok.set) (sym c.turn_round.ensures.items)
    (opened_set g.A.Audit.entries g.A.Audit.count c.in-Ok.set x.0.term 0 c.args.parts.slots.items (reverse c.open_on.new.slots.items) x.3)
