use Rattle.std.proofs.Common.{length, ◌≡◌, ◌≤◌, ap, refl, subst, sym, ◌∙◌, ℕ, arith}
use Rattle.std.specs.Int.{IsBitSet}
use Rattle.call_types.proofs.GoodLemmas.{mask_at}
use Rattle.drive_base.specs.DriveSet.{count_in}
use Rattle.register_core.specs.LaneWrites.{WritesEach}
use Rattle.register_core.specs.Proposals.{quorum_of}
use Rattle.register_core.proofs.KeepLemmas.{HasMarked, has_marked, wrote_as}
use Rattle.register_core.proofs.ServingLemmas.{served}
use Rattle.register_core.proofs.proposals.mark.Goals as goal

pub returns-then-good-write_quorum-clause-keeps : goal.returns-then-good-write_quorum-clause-keeps
returns-then-good-write_quorum-clause-keeps g c next recorded ends tell unused are =
    let D : Type 0 = g.row.D.Denot in
    let draft = c.args.draft.now in
    let took = c.args.prepared in
    let wrote = wrote_as {D = D} g.D.Drive c.none.ensures c.as_str.ensures.value c.as_slice.ensures.value refl
    c.write_each-whys.ensures.wrote in
    let some : 1 ≤ quorum_of draft =
    subst (λ (w : ℕ). 1 ≤ w) c.write_quorum.ensures.quorum (omega (arith, c.write_quorum.ensures.overlap)) in
    let kept : HasMarked {D = D} g.D.Drive draft took next c.write_each-whys.result c.write_each-whys.new.lanes recorded =
    has_marked {D = D} g.D.Drive
    c.place_laws.ensures.targets c.place_laws.ensures.left c.place_laws.ensures.mask c.mark_laws.ensures.any c.mark_laws.ensures.enough
    c.number_laws.ensures.mark draft took c.args.term c.args.count.now c.write_each-whys.new.count next c.write_each-whys.result
    c.args.lanes.now c.write_each-whys.new.lanes recorded (omega (arith, wrote.few, c.requires.room, c.requires.drives)) some
    (c.requires.letters ∙ sym c.requires.drives) ends wrote tell unused are in
    record { after = kept.after; are = kept.are; left = kept.left; stay = kept.stay; value = kept.any; numbers = kept.numbers; marked_lanes = tt }

pub returns-clause-keeps : goal.returns-clause-keeps
returns-clause-keeps g c next recorded ends tell unused are =
    let D : Type 0 = g.row.D.Denot in
    let draft = c.args.draft.now in
    let took = c.args.prepared in
    let wrote = wrote_as {D = D} g.D.Drive c.none.ensures c.as_str.ensures.value c.as_slice.ensures.value refl
    c.write_each-whys.ensures.wrote in
    let some : 1 ≤ quorum_of draft =
    subst (λ (w : ℕ). 1 ≤ w) c.write_quorum.ensures.quorum (omega (arith, c.write_quorum.ensures.overlap)) in
    let kept : HasMarked {D = D} g.D.Drive draft took next c.write_each-whys.result c.write_each-whys.new.lanes recorded =
    has_marked {D = D} g.D.Drive
    c.place_laws.ensures.targets c.place_laws.ensures.left c.place_laws.ensures.mask c.mark_laws.ensures.any c.mark_laws.ensures.enough
    c.number_laws.ensures.mark draft took c.args.term c.args.count.now c.write_each-whys.new.count next c.write_each-whys.result
    c.args.lanes.now c.write_each-whys.new.lanes recorded (omega (arith, wrote.few, c.requires.room, c.requires.drives)) some
    (c.requires.letters ∙ sym c.requires.drives) ends wrote tell unused are in
    let enough : quorum_of draft ≤ c.good.result =
    subst (λ (w : ℕ). w ≤ c.good.result) c.write_quorum.ensures.quorum c.if-good-write_quorum.false in
    record {
      after = kept.after;
      are = kept.are;
      left = kept.left;
      stay = kept.stay;
      value = kept.enough (subst (λ (n : ℕ). quorum_of draft ≤ n) c.good.ensures enough);
      numbers = kept.numbers;
      marked_lanes = λ k below bit. kept.have k below ((mask_at c.write_each-whys.result c.good_mask.result c.good_mask.ensures k).0 (subst (λ (m : ℕ). IsBitSet m k) c.from_mask-draft.ensures bit));
    }

pub returns-then-good-write_quorum-clause-enough : goal.returns-then-good-write_quorum-clause-enough
returns-then-good-write_quorum-clause-enough g c serving serve enough =
    let D : Type 0 = g.row.D.Denot in
    let draft = c.args.draft.now in
    let took = c.args.prepared in
    let On : ℕ → Type 0 = λ passed.
    WritesEach {D = D} g.D.Drive took.out passed c.as_str.result.now c.as_slice.result.now c.args.term c.args.count.now c.write_each-whys.new.count
    took.whys c.write_each-whys.result c.args.lanes.now c.write_each-whys.new.lanes in
    let wrote : On 0 = subst On c.none.ensures c.write_each-whys.ensures.wrote in
    let many = served {D = D} g.D.Drive took.out c.as_str.result.now c.as_slice.result.now c.args.term c.args.count.now c.write_each-whys.new.count
    took.whys c.write_each-whys.result c.args.lanes.now c.write_each-whys.new.lanes serving wrote (c.requires.letters ∙ sym c.requires.drives) serve in
    let all : count_in serving (length c.args.lanes.now) ≡ count_in serving draft.set.drives = ap (count_in serving) c.requires.drives in
    let few = c.if-good-write_quorum.true in
    absurd (omega (arith, c.good.ensures, c.write_quorum.ensures.quorum))
