use Rattle.std.proofs.Common.{◌≡◌, ◌<◌, ◌∙◌, length, slice_index_or, sym, subst, arith}
use Rattle.std.proofs.lemmas.List.{get_or_default, get_or-set_other}
use Rattle.slot_core.specs.Views.{numbers_of}
use Rattle.slot_core.specs.declared.slot.Slot.{Slot}
use Rattle.store_shared.specs.Striking.{SlotIsStruck}
use Rattle.store_shared.proofs.StrikingLemmas.{struck_more}
use Rattle.store_shared.proofs.plain_pass.strike_each.Goals as goal

pub trouble-requires : goal.trouble-requires
trouble-requires g c =
    let S = Slot g.row.D.Denot g.row.A.Denot in
    let n = c.loop-slot.slot-index in
    let now = c.loop-slot.slots in
    let item = c.slot-item.result in
    let inside : n < length now = omega arith in
    let first : n < length c.args.slots.now = omega arith in
    let was : slice_index_or now n item ≡ slice_index_or c.args.slots.now n item = c.loop-slot.invariant.others n item (omega arith) in
    subst (λ (slot : S). c.args.index < (numbers_of slot).set.drives) (sym was) (c.requires n item first)

pub loop-slot-preserved : goal.loop-slot-preserved
loop-slot-preserved g c =
    let S = Slot g.row.D.Denot g.row.A.Denot in
    let n = c.loop-slot.slot-index in
    let now = c.loop-slot.slots in
    let old = c.args.slots.now in
    let item = c.slot-item.result in
    let held = c.loop-slot.invariant in
    let x = c.trouble.new.self in
    let inside : n < length now = omega arith in
    let was : (d : S) → slice_index_or now n item ≡ slice_index_or old n d = λ d. get_or_default now n item d inside ∙ held.others n d (omega arith) in
    let here : SlotIsStruck g.D.Drive g.T.Trouble.befalls c.args.index n c.args.trouble.now (slice_index_or now n item) x = record {
      trouble = c.loop-slot.trouble;
      first = held.first;
      struck = c.trouble.result;
      strikes = c.trouble.ensures.strikes;
      numbers = c.trouble.ensures.numbers;
      holding = c.trouble.ensures.holding;
      audit = c.trouble.ensures.audit;
    } in
    let one : (d : S) → SlotIsStruck g.D.Drive g.T.Trouble.befalls c.args.index n c.args.trouble.now (slice_index_or old n d) x =
    λ d. subst (λ (slot : S). SlotIsStruck g.D.Drive g.T.Trouble.befalls c.args.index n c.args.trouble.now slot x) (was d) here in
    record {
      struck = struck_more g.D.Drive g.T.Trouble.befalls c.args.index c.args.trouble.now old now n x inside held.struck one;
      others = λ k d above. get_or-set_other now n k x d (λ same. absurd (omega (arith, above, same))) ∙ held.others k d (omega (arith, above));
      first = λ none. absurd (omega (arith, none));
    }

pub returns : goal.returns
returns g c = record {
  count = omega arith;
  each = λ k d inside. c.loop-slot.invariant.struck k d (omega (arith, inside));
}
