use Rattle.std.proofs.Common.{◌≡◌, ◌+◌, ◌∙◌, List, map, refl, sym}
use Rattle.std.proofs.lemmas.List.{with_items_is}
use Rattle.std.specs.Vec.{with_items}
use Rattle.slot_rules.specs.declared.site.Site.{Site}
use Rattle.slot_core.specs.Hands.{HandsStay}
use Rattle.slot_core.specs.Sections.{ShowsNoMore}
use Rattle.slot_core.specs.Settlement.{numbers_at}
use Rattle.slot_core.specs.Stubs.{completed_by}
use Rattle.slot_core.specs.Views.{holding_of, numbers_of}
use Rattle.slot_data.specs.Moves.{with_pins}
use Rattle.slot_data.specs.Rows.{pinned_of}
use Rattle.slot_core.proofs.BeginReadLemmas.{flights_drawn_on, new_ticket, pins_before_next, read_cause_turned, read_holds}
use Rattle.slot_core.proofs.PeekLemmas.{leaves_turned}
use Rattle.slot_core.proofs.KeptLemmas.{on_lanes}
use Rattle.slot_core.proofs.slot.Slot.begin_read.Goals as goal
use Rattle.drive_base.specs.View.{AllGoOn, views}

pub invariant_of-self-2-clause-pins_before : goal.invariant_of-self-2-clause-pins_before
invariant_of-self-2-clause-pins_before g c =
    let self = c.args.self.now in
    pins_before_next c.args.at.now c.read_at-turn.result.answer self.site.turns self.pins.items c.read_at-turn.new.pins.items c.read_at-turn.ensures.pins self.pins_before

pub invariant_of-self-2-clause-flights_drawn : goal.invariant_of-self-2-clause-flights_drawn
invariant_of-self-2-clause-flights_drawn g c =
    let self = c.args.self.now in
    flights_drawn_on self.flights.items self.site.term self.drawn.seq c.read_at-turn.new.drawn.seq c.read_at-turn.ensures.draws.seq self.flights_drawn

pub returns-clause-leaves : goal.returns-clause-leaves
returns-clause-leaves g c =
    let T : Type 0 = g.row.D.Denot in
    let D = g.D.Drive in
    let self = c.args.self.now in
    let site : Site = self.site in
    let lanes : List T = c.read_at-turn.new.lanes in
    let kept = with_pins (holding_of self) (map pinned_of c.read_at-turn.new.pins.items) in
    let is : lanes ≡ (with_items self.lanes lanes).items = sym (with_items_is self.lanes lanes (c.read_at-turn.auto.lanes ∙ c.as_mut_slice.ensures.len)) in
    leaves_turned {D = T} D.tells D.files (numbers_of self) (numbers_at site c.read_at-turn.new.drawn) (self.site.turns + 1) (holding_of self) kept self.lanes.items
    c.as_mut_slice.result.now (with_items self.lanes lanes).items lanes c.read_at-turn.result.stub ShowsNoMore HandsStay
    c.as_mut_slice.ensures.value is
    (c.read_at-turn.ensures.leaves (holding_of self) kept
    (read_holds (numbers_of self) c.args.at.now c.read_at-turn.result.answer (holding_of self) self.pins.items c.read_at-turn.new.pins.items refl c.read_at-turn.ensures.pins)
    (new_ticket self.pins.items self.site.turns self.pins_before))

pub returns-clause-cause : goal.returns-clause-cause
returns-clause-cause g c =
    let T : Type 0 = g.row.D.Denot in
    let D = g.D.Drive in
    let self = c.args.self.now in
    let site : Site = self.site in
    let lanes : List T = c.read_at-turn.new.lanes in
    let is : lanes ≡ (with_items self.lanes lanes).items = sym (with_items_is self.lanes lanes (c.read_at-turn.auto.lanes ∙ c.as_mut_slice.ensures.len)) in
    read_cause_turned {D = T} D (numbers_of self) (numbers_at site c.read_at-turn.new.drawn) (self.site.turns + 1) c.args.at.now c.args.pick.now
    c.read_at-turn.result.answer (completed_by c.read_at-turn.result.stub)
    self.lanes.items c.as_mut_slice.result.now (with_items self.lanes lanes).items lanes c.args.disks.now c.read_at-turn.new.disks c.as_mut_slice.ensures.value is
    c.read_at-turn.ensures.cause

pub returns-clause-lanes : goal.returns-clause-lanes
returns-clause-lanes g c =
    let T : Type 0 = g.row.D.Denot in
    let D = g.D.Drive in
    let self = c.args.self.now in
    let lanes : List T = c.read_at-turn.new.lanes in
    let is : lanes ≡ (with_items self.lanes lanes).items = sym (with_items_is self.lanes lanes (c.read_at-turn.auto.lanes ∙ c.as_mut_slice.ensures.len)) in
    on_lanes (λ (old new : List T). AllGoOn (views D old) (views D new)) c.as_mut_slice.result.now self.lanes.items lanes _
    c.as_mut_slice.ensures.value is c.read_at-turn.ensures.lanes
