use Rattle.std.proofs.Common.{◌≡◌, ◌+◌, ◌∙◌, List, sym}
use Rattle.std.proofs.lemmas.List.{with_items_is}
use Rattle.std.specs.Vec.{with_items}
use Rattle.slot_rules.specs.declared.site.Site.{Site}
use Rattle.slot_core.specs.Hands.{HandsStay}
use Rattle.slot_core.specs.Sections.{ShowsContent}
use Rattle.slot_core.specs.Settlement.{numbers_at}
use Rattle.slot_core.specs.Stubs.{completed_by}
use Rattle.slot_core.specs.Views.{holding_of, numbers_of}
use Rattle.slot_core.proofs.PeekLemmas.{cause_turned, leaves_turned}
use Rattle.slot_core.proofs.KeptLemmas.{on_lanes}
use Rattle.slot_core.proofs.slot.Slot.peek.Goals as goal
use Rattle.drive_base.specs.View.{AllGoOn, views}

pub returns-clause-leaves : goal.returns-clause-leaves
returns-clause-leaves g c =
    let T : Type 0 = g.row.D.Denot in
    let D = g.D.Drive in
    let self = c.args.self.now in
    let site : Site = self.site in
    let lanes : List T = c.peek_at-turn.new.lanes in
    let is : lanes ≡ (with_items self.lanes lanes).items = sym (with_items_is self.lanes lanes (c.peek_at-turn.auto.lanes ∙ c.as_mut_slice.ensures.len)) in
    leaves_turned {D = T} D.tells D.files (numbers_of self) (numbers_at site c.peek_at-turn.new.drawn) (self.site.turns + 1) (holding_of self) (holding_of self) self.lanes.items
    c.as_mut_slice.result.now (with_items self.lanes lanes).items lanes c.peek_at-turn.result.stub (ShowsContent c.args.name.now c.peek_at-turn.result.answer) HandsStay
    c.as_mut_slice.ensures.value is (c.peek_at-turn.ensures.leaves (holding_of self))

pub returns-clause-cause : goal.returns-clause-cause
returns-clause-cause g c =
    let T : Type 0 = g.row.D.Denot in
    let D = g.D.Drive in
    let self = c.args.self.now in
    let site : Site = self.site in
    let lanes : List T = c.peek_at-turn.new.lanes in
    let is : lanes ≡ (with_items self.lanes lanes).items = sym (with_items_is self.lanes lanes (c.peek_at-turn.auto.lanes ∙ c.as_mut_slice.ensures.len)) in
    cause_turned {D = T} D (numbers_of self) (numbers_at site c.peek_at-turn.new.drawn) (self.site.turns + 1) c.args.name.now c.peek_at-turn.result.answer (completed_by c.peek_at-turn.result.stub)
    self.lanes.items c.as_mut_slice.result.now (with_items self.lanes lanes).items lanes c.args.disks.now c.peek_at-turn.new.disks c.as_mut_slice.ensures.value is
    c.peek_at-turn.ensures.cause

pub returns-clause-lanes : goal.returns-clause-lanes
returns-clause-lanes g c =
    let T : Type 0 = g.row.D.Denot in
    let D = g.D.Drive in
    let self = c.args.self.now in
    let lanes : List T = c.peek_at-turn.new.lanes in
    let is : lanes ≡ (with_items self.lanes lanes).items = sym (with_items_is self.lanes lanes (c.peek_at-turn.auto.lanes ∙ c.as_mut_slice.ensures.len)) in
    on_lanes (λ (old new : List T). AllGoOn (views D old) (views D new)) c.as_mut_slice.result.now self.lanes.items lanes _
    c.as_mut_slice.ensures.value is c.peek_at-turn.ensures.lanes
