use Rattle.std.proofs.Common.{◌≡◌, ◌<◌, ℕ, length, slice_index_or, slice_set, sym, ap, ◌∙◌, subst, arith}
use Rattle.std.proofs.lemmas.List.{get_or_default, get_or-set_other, length-set}
use Rattle.call_types.specs.declared.why.Why.{Why}
use Rattle.drive_base.specs.View.{GoesOn, view}
use Rattle.drive_base.proofs.ViewLemmas.{at_each_view}
use Rattle.register_core.specs.LaneWrites.{OnLane, letter_at}
use Rattle.register_core.proofs.LoopLemmas.{keeps_drives, on_lane_wider, one_place_more}
use Rattle.register_core.proofs.proposals.write_each.Goals as goal

pub loop-lane-preserved : goal.loop-lane-preserved
loop-lane-preserved g c =
    let D : Type 0 = g.row.D.Denot in
    let ghosts = g.D.Drive in
    let out = c.args.out in
    let passed = c.args.passed in
    let name = c.args.writing.now.name.now in
    let bytes = c.args.writing.now.bytes.now in
    let term = c.args.writing.now.term in
    let letters = c.args.letters in
    let index = c.loop-lane.lane-index in
    let whys = c.loop-lane.whys in
    let before = c.args.lanes.now in
    let now = c.loop-lane.lanes in
    let lane = c.write_lane-why.new.lane in
    let why = c.write_lane-why.result in
    let item : D = slice_index_or now index c.lane-item.result in
    let so = c.loop-lane.invariant in
    let from = c.args.count.now in
    let mid = c.loop-lane.count in
    let to = c.write_lane-why.new.count in
    let low : index < length now = omega (arith, c.loop-lane.auto.lanes, c.loop-lane-test.true) in
    let low_whys : index < length whys = omega (arith, so.counted, c.requires.letters, c.loop-lane-test.true) in
    let here : (d : D) → slice_index_or before index d ≡ item =
    λ d. sym (so.others index d (omega arith)) ∙ get_or_default now index d c.lane-item.result low in
    let set_is : c.set.new.self ≡ slice_set whys index why = c.set.ensures ∙ ap (λ (k : ℕ). slice_set whys k why) so.at in
    let On : ℕ → ℕ → ℕ → Why → D → D → Type 0 =
    λ low high k w a b. OnLane ghosts out passed name bytes term low high letters k w a b in
    record {
      at = omega arith;
      counted = ap length set_is ∙ length-set whys index why ∙ so.counted;
      later = omega arith;
      few = omega arith;
      each = λ k d below.
          subst (λ (ws : _). OnLane ghosts out passed name bytes term from to letters k (letter_at ws k)
          (slice_index_or before k d) (slice_index_or (slice_set now index lane) k d)) (sym set_is)
          (one_place_more ghosts (On from mid) (On from to) index whys why before now lane low_whys low
          (λ i w a b on. on_lane_wider ghosts out passed name bytes term from mid from to letters i w a b (omega arith) (omega arith) on)
          so.each
          (λ e. subst (λ (x : D). OnLane ghosts out passed name bytes term from to letters index why x lane) (sym (here e))
          (subst (λ (i : ℕ). OnLane ghosts out passed name bytes term from to letters i why item lane) so.at
          (on_lane_wider ghosts out passed name bytes term mid to from to letters c.loop-lane.index why item lane (omega arith) (omega arith)
          c.write_lane-why.ensures.wrote)))
          k d below);
      goes_on = one_place_more ghosts (λ k w a b. GoesOn (view ghosts a) (view ghosts b)) (λ k w a b. GoesOn (view ghosts a) (view ghosts b)) index whys why before now lane
          low_whys low (λ i w a b same. same) so.goes_on
          (λ d. subst (λ (x : D). GoesOn (view ghosts x) (view ghosts lane)) (sym (here d)) c.write_lane-why.ensures.goes_on);
      others = λ k d above. get_or-set_other now index k lane d (omega arith) ∙ so.others k d (omega arith);
    }

pub returns-clause-drives : goal.returns-clause-drives
returns-clause-drives g c tell unused =
    let so = c.loop-lane.invariant in
    keeps_drives g.D.Drive c.args.out c.args.passed c.args.writing.now.name.now c.args.writing.now.bytes.now
    c.args.writing.now.term c.args.count.now c.loop-lane.count c.args.letters c.loop-lane.whys c.args.lanes.now c.loop-lane.lanes
    (omega (arith, so.few, c.loop-lane.auto.lane-index-end, c.requires.room)) so.later c.loop-lane.auto.lanes
    (λ k d below. so.each k d (omega (arith, c.loop-lane-test.false))) tell unused

pub returns-clause-lanes : goal.returns-clause-lanes
returns-clause-lanes g c =
    let so = c.loop-lane.invariant in
    at_each_view g.D.Drive (λ k. GoesOn) c.args.lanes.now c.loop-lane.lanes c.loop-lane.auto.lanes
    (λ k d below. so.goes_on k d (omega (arith, c.loop-lane-test.false)))
