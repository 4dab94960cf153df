use Rattle.std.proofs.Common.{length, ◌≡◌, ◌≤◌, ap, refl, subst, sym, ◌∙◌, ℕ, arith}
use Rattle.drive_base.specs.DriveSet.{count_in}
use Rattle.register_core.specs.LaneWrites.{WritesEach}
use Rattle.register_core.specs.Proposals.{quorum_of}
use Rattle.register_core.proofs.KeepLemmas.{Proposed, as_before, proposed, untouched, wrote_as}
use Rattle.register_core.proofs.ServingLemmas.{served, served_before}
use Rattle.register_core.proofs.proposals.propose.Goals as goal

pub returns-then-good-quorum-clause-keeps : goal.returns-then-good-quorum-clause-keeps
returns-then-good-quorum-clause-keeps g c base next recorded is tell unused are = record {
  after = recorded;
  are = are;
  left = as_before c.place_laws.ensures.left _ recorded;
  leaves = untouched c.place_laws.ensures.targets c.place_laws.ensures.left c.prepare_laws.ensures.own c.prepare_laws.ensures.forward
      c.number_laws.ensures.prepare _ c.args.draft.now.letters _ _ recorded (c.requires.letters ∙ sym c.requires.drives ∙ sym are.counted);
  stay = λ k bit. refl;
  took = tt;
}

pub returns-then-good-quorum-2-clause-keeps : goal.returns-then-good-quorum-2-clause-keeps
returns-then-good-quorum-2-clause-keeps g c base next recorded is tell unused are =
    let D : Type 0 = g.row.D.Denot in
    let draft = c.args.draft.now in
    let wrote = wrote_as {D = D} g.D.Drive c.none.ensures c.as_str.ensures.value c.as_slice.ensures.value refl
    c.write_each-whys.ensures.wrote in
    let kept : Proposed {D = D} g.D.Drive draft c.args.out base next c.write_each-whys.result c.write_each-whys.new.lanes recorded =
    proposed {D = D} g.D.Drive
    c.place_laws.ensures.targets c.place_laws.ensures.left c.place_laws.ensures.mask c.prepare_laws.ensures.own c.prepare_laws.ensures.forward
    c.number_laws.ensures.prepare draft c.args.out c.args.term c.args.count.now c.write_each-whys.new.count base next c.write_each-whys.result
    c.args.lanes.now c.write_each-whys.new.lanes recorded (omega (arith, wrote.few, c.requires.room, c.requires.drives))
    (c.requires.letters ∙ sym c.requires.drives) is wrote tell unused are in
    record { after = kept.after; are = kept.are; left = kept.left; leaves = kept.leaves; stay = kept.stay; took = tt }

pub returns-clause-keeps : goal.returns-clause-keeps
returns-clause-keeps g c base next recorded is tell unused are =
    let D : Type 0 = g.row.D.Denot in
    let draft = c.args.draft.now in
    let wrote = wrote_as {D = D} g.D.Drive c.none.ensures c.as_str.ensures.value c.as_slice.ensures.value refl
    c.write_each-whys.ensures.wrote in
    let kept : Proposed {D = D} g.D.Drive draft c.args.out base next c.write_each-whys.result c.write_each-whys.new.lanes recorded =
    proposed {D = D} g.D.Drive
    c.place_laws.ensures.targets c.place_laws.ensures.left c.place_laws.ensures.mask c.prepare_laws.ensures.own c.prepare_laws.ensures.forward
    c.number_laws.ensures.prepare draft c.args.out c.args.term c.args.count.now c.write_each-whys.new.count base next c.write_each-whys.result
    c.args.lanes.now c.write_each-whys.new.lanes recorded (omega (arith, wrote.few, c.requires.room, c.requires.drives))
    (c.requires.letters ∙ sym c.requires.drives) is wrote tell unused are in
    let enough : quorum_of draft ≤ c.good-2.result = subst (λ (w : ℕ). w ≤ c.good-2.result) c.write_quorum-quorum.ensures.quorum c.if-good-quorum-2.false in
    record { after = kept.after; are = kept.are; left = kept.left; leaves = kept.leaves; stay = kept.stay; took = kept.took (subst (λ (n : ℕ). quorum_of draft ≤ n) c.good-2.ensures enough) }

pub returns-then-good-quorum-2-clause-enough : goal.returns-then-good-quorum-2-clause-enough
returns-then-good-quorum-2-clause-enough g c serving serve enough =
    let D : Type 0 = g.row.D.Denot in
    let draft = c.args.draft.now in
    let On : ℕ → Type 0 = λ passed.
    WritesEach {D = D} g.D.Drive c.args.out passed c.as_str.result.now c.as_slice.result.now c.args.term c.args.count.now c.write_each-whys.new.count
    draft.letters c.write_each-whys.result c.args.lanes.now c.write_each-whys.new.lanes in
    let wrote : On 0 = subst On c.none.ensures c.write_each-whys.ensures.wrote in
    let many = served {D = D} g.D.Drive c.args.out c.as_str.result.now c.as_slice.result.now c.args.term c.args.count.now c.write_each-whys.new.count
    draft.letters c.write_each-whys.result c.args.lanes.now c.write_each-whys.new.lanes serving wrote (c.requires.letters ∙ sym c.requires.drives) serve in
    let all : count_in serving (length c.args.lanes.now) ≡ count_in serving draft.set.drives = ap (count_in serving) c.requires.drives in
    let few = c.if-good-quorum-2.true in
    absurd (omega (arith, c.good-2.ensures, c.write_quorum-quorum.ensures.quorum))

pub returns-then-good-quorum-clause-enough : goal.returns-then-good-quorum-clause-enough
returns-then-good-quorum-clause-enough g c serving serve enough =
    let draft = c.args.draft.now in
    let many = served_before {D = g.row.D.Denot} g.D.Drive c.args.out draft.letters c.args.lanes.now c.args.lanes.now serving
    (c.requires.letters ∙ sym c.requires.drives) serve in
    let all : count_in serving (length c.args.lanes.now) ≡ count_in serving draft.set.drives = ap (count_in serving) c.requires.drives in
    let few = c.if-good-quorum.true in
    absurd (omega (arith, c.good.ensures, c.write_quorum-quorum.ensures.quorum))
