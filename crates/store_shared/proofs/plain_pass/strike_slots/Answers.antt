use Rattle.std.proofs.Common.{◌<◌, ◌∙◌, ℕ, List, length, slice_index_or, sym, subst, subst₂}
use Rattle.slot_core.specs.Views.{numbers_of}
use Rattle.slot_core.specs.declared.slot.Slot.{Slot}
use Rattle.store_shared.specs.Striking.{AreStruckAt}
use Rattle.store_shared.proofs.OrderLemmas.{whole_slice}
use Rattle.store_shared.proofs.plain_pass.strike_slots.Goals as goal

pub strike_each-requires : goal.strike_each-requires
strike_each-requires g c =
    let S = Slot g.row.D.Denot g.row.A.Denot in
    subst (λ (slots : List S). (k : ℕ) (d : S) → k < length slots → c.args.index < (numbers_of (slice_index_or slots k d)).set.drives)
    (sym c.as_mut_slice.ensures.value) c.requires

pub returns : goal.returns
returns g c =
    let S = Slot g.row.D.Denot g.row.A.Denot in
    let slots = whole_slice c.strike_each.new.slots c.args.slots.now.items c.args.slots.now.len (c.strike_each.auto.slots ∙ c.as_mut_slice.ensures.len) in
    subst₂ (λ (old new : List S). AreStruckAt g.D.Drive g.T.Trouble.befalls c.args.index c.args.trouble.now old new)
    c.as_mut_slice.ensures.value (sym slots) c.strike_each.ensures
