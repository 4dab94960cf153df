use Rattle.std.proofs.Common.{◌≡◌, ◌+◌, ◌∙◌, List, map, ap, subst, sym, refl, inl, inr, arith}
use Rattle.std.proofs.lemmas.List.{with_items_is}
use Rattle.std.specs.Vec.{with_items}
use Rattle.stamp_id.specs.declared.version.VersionId.{VersionId}
use Rattle.slot_history.specs.Standing.{Flying}
use Rattle.slot_data.specs.Rows.{flying_of}
use Rattle.slot_rules.specs.Deeds.{name_of}
use Rattle.slot_rules.specs.declared.site.Drawn.{Drawn}
use Rattle.slot_rules.specs.declared.site.Site.{Site}
use Rattle.slot_core.specs.CommitOutcome.{Lands, kept_with}
use Rattle.slot_core.specs.CommitCauses.{deed_in}
use Rattle.slot_core.specs.Commits.{MayCommitData, ShowsTrash}
use Rattle.slot_core.specs.PutEnds.{ChecksLanding, FitsLanding, flight_put, handed, put_of}
use Rattle.slot_core.specs.Settlement.{numbers_at}
use Rattle.slot_core.specs.Stubs.{entry_of}
use Rattle.slot_core.specs.Views.{holding_of, numbers_of}
use Rattle.slot_core.specs.declared.flights.Landing.{Landing}
use Rattle.slot_core.specs.declared.slot.SlotFault.TheVariants.{SeqSpent}
use Rattle.slot_core.proofs.CommitLemmas.{lost_leaves, missed_cause, missed_checks, missed_gone, missed_leaves, missed_says}
use Rattle.slot_core.proofs.LandLemmas.{LandLaws}
use Rattle.slot_core.proofs.PeekLemmas.{leaves_turned}
use Rattle.slot_core.proofs.SlotCommitLemmas.{checks_flight, checks_spent, commit_holds, commit_holds_none, commit_turned, fits_landing, handed_flight, lands_row}
use Rattle.slot_core.proofs.KeptLemmas.{on_lanes}
use Rattle.slot_core.proofs.slot.Slot.commit.Goals as goal
use Rattle.drive_base.specs.View.{AllGoOn, views}

pub returns-then-is_spent-clause-holds : goal.returns-then-is_spent-clause-holds
returns-then-is_spent-clause-holds g c =
    let self = c.args.self.now in
    commit_holds_none c.args.flight c.land-landing.result self.flights.items c.land-landing.new.flights.items SeqSpent c.spent_turn.result.answer (holding_of self) _ refl
    c.land-landing.ensures.lands c.spent_turn.ensures.answer refl

pub returns-then-is_spent-clause-checks : goal.returns-then-is_spent-clause-checks
returns-then-is_spent-clause-checks g c = checks_spent c.args.flight (holding_of c.args.self.now) c.spent_turn.result.answer c.spent_turn.ensures.answer

pub returns-then-is_spent-clause-leaves : goal.returns-then-is_spent-clause-leaves
returns-then-is_spent-clause-leaves g c fits =
    let T : Type 0 = g.row.D.Denot in
    let D = g.D.Drive in
    let self = c.args.self.now in
    let site : Site = self.site in
    let drawn : Drawn = self.drawn in
    let deed = c.args.deed.now in
    let trash : List VersionId = self.trash.items in
    let rest : List Flying = map flying_of c.land-landing.new.flights.items in
    let turn = c.spent_turn.result in
    let laws : LandLaws = record { ends = c.resting_laws.ensures.end; given_up = c.flight_laws.ensures.given_up; trash = c.hands_laws.ensures.trash; freed = c.hands_laws.ensures.freed } in
    let lands = lands_row c.args.flight c.land-landing.result self.flights.items c.land-landing.new.flights.items self.flights_differ c.land-landing.ensures.lands in
    leaves_turned {D = T} D.tells D.files (numbers_of self) (numbers_at site drawn) (self.site.turns + 1) (holding_of self) (kept_with (holding_of self) rest trash) self.lanes.items self.lanes.items
    self.lanes.items self.lanes.items turn.stub (ShowsTrash deed turn.answer trash trash) (MayCommitData deed (kept_with (holding_of self) rest trash)) refl refl
    (lost_leaves {D = T} D laws site drawn deed (put_of c.land-landing.result) trash trash self.lanes.items turn.stub (ShowsTrash deed turn.answer trash trash)
    (holding_of self) rest (ap entry_of c.spent_turn.ensures.stub_is ∙ c.spent_turn.ensures.no_entry) lands refl refl)

pub returns-in-Missing-clause-turns : goal.returns-in-Missing-clause-turns
returns-in-Missing-clause-turns g c =
    let turn = c.commit_missing.ensures.turns c.args.self.now.drawn in
    let unspent = c.if-is_spent.false in
    record {
      numbers = record {
        set = refl;
        index = refl;
        term = refl;
        turns = refl;
        seq = omega arith;
        few_seq = omega arith;
        count = omega arith;
        few_count = omega arith;
      };
      stub_is = turn.stub_is;
      audit = turn.audit;
      faults = turn.faults;
      spent = (
        λ same. absurd (turn.unspent same),
        λ spent. elim spent [
          | inl over ↦ absurd (let low = c.is_spent.ensures.seq unspent in omega arith)
          | inr over ↦ absurd (let low = c.is_spent.ensures.count unspent in omega arith)
        ],
      );
    }

pub returns-in-Missing-clause-says : goal.returns-in-Missing-clause-says
returns-in-Missing-clause-says g c =
    missed_says c.args.self.now.site c.args.deed.now c.args.now c.in-Missing.id c.commit_missing.result c.commit_missing.ensures.missed

pub returns-in-Missing-clause-holds : goal.returns-in-Missing-clause-holds
returns-in-Missing-clause-holds g c =
    let self = c.args.self.now in
    let gone = missed_gone self.site (name_of c.args.deed.now) c.in-Missing.id c.commit_missing.result self.trash.items c.commit_missing.ensures.missed in
    commit_holds c.args.flight c.land-landing.result self.flights.items c.land-landing.new.flights.items c.commit_missing.result.answer (holding_of self) _ gone.0
    self.trash.items refl c.land-landing.ensures.lands gone.2 gone.1 refl

pub returns-in-Missing-clause-checks : goal.returns-in-Missing-clause-checks
returns-in-Missing-clause-checks g c =
    let self = c.args.self.now in
    let checks = missed_checks self.site (name_of c.args.deed.now) c.in-Missing.id c.commit_missing.result c.commit_missing.ensures.missed in
    checks_flight c.args.flight c.land-landing.result self.flights.items c.land-landing.new.flights.items (holding_of self) c.commit_missing.result.answer refl
    c.land-landing.ensures.lands (subst (λ (l : Landing). ChecksLanding l c.commit_missing.result.answer) (sym c.in-Missing.is) checks)

pub returns-in-Missing-clause-leaves : goal.returns-in-Missing-clause-leaves
returns-in-Missing-clause-leaves g c fits =
    let T : Type 0 = g.row.D.Denot in
    let D = g.D.Drive in
    let self = c.args.self.now in
    let deed = c.args.deed.now in
    let trash : List VersionId = self.trash.items in
    let rest : List Flying = map flying_of c.land-landing.new.flights.items in
    let turn = c.commit_missing.result in
    let laws : LandLaws = record { ends = c.resting_laws.ensures.end; given_up = c.flight_laws.ensures.given_up; trash = c.hands_laws.ensures.trash; freed = c.hands_laws.ensures.freed } in
    let lands = lands_row c.args.flight c.land-landing.result self.flights.items c.land-landing.new.flights.items self.flights_differ c.land-landing.ensures.lands in
    leaves_turned {D = T} D.tells D.files (numbers_of self) (numbers_at self.site self.drawn) (self.site.turns + 1) (holding_of self) (kept_with (holding_of self) rest trash)
    self.lanes.items self.lanes.items self.lanes.items self.lanes.items turn.stub (ShowsTrash deed turn.answer trash trash) (MayCommitData deed (kept_with (holding_of self) rest trash))
    refl refl
    (missed_leaves {D = T} D laws self.site self.drawn deed c.in-Missing.id trash self.lanes.items turn (holding_of self) rest c.commit_missing.ensures.missed
    (subst (λ (l : Landing). Lands (put_of l) (map flying_of self.flights.items) rest) c.in-Missing.is lands) refl)

pub returns-in-Missing-clause-cause : goal.returns-in-Missing-clause-cause
returns-in-Missing-clause-cause g c =
    let T : Type 0 = g.row.D.Denot in
    let D = g.D.Drive in
    let self = c.args.self.now in
    missed_cause {D = T} D (numbers_of self) _ c.args.deed.now (flight_put c.args.flight) c.args.now self.site (name_of c.args.deed.now) c.in-Missing.id
    c.commit_missing.result (deed_in (entry_of c.commit_missing.result.stub)) self.lanes.items c.args.disks.now c.args.disks.now c.commit_missing.ensures.missed

pub returns-clause-holds : goal.returns-clause-holds
returns-clause-holds g c =
    let self = c.args.self.now in
    let gone = c.commit_landed-turn.ensures.gone in
    commit_holds c.args.flight c.land-landing.result self.flights.items c.land-landing.new.flights.items c.commit_landed-turn.result.answer (holding_of self) _ gone.0
    c.commit_landed-turn.new.trash.items refl c.land-landing.ensures.lands gone.2 gone.1 refl

pub returns-clause-checks : goal.returns-clause-checks
returns-clause-checks g c =
    let self = c.args.self.now in
    checks_flight c.args.flight c.land-landing.result self.flights.items c.land-landing.new.flights.items (holding_of self) c.commit_landed-turn.result.answer refl
    c.land-landing.ensures.lands (subst (λ (l : Landing). ChecksLanding l c.commit_landed-turn.result.answer) (sym c.in-Ended.is) c.commit_landed-turn.ensures.checks)

pub returns-clause-leaves : goal.returns-clause-leaves
returns-clause-leaves g c fits =
    let T : Type 0 = g.row.D.Denot in
    let D = g.D.Drive in
    let self = c.args.self.now in
    let site : Site = self.site in
    let deed = c.args.deed.now in
    let lanes : List T = c.commit_landed-turn.new.lanes in
    let is : lanes ≡ (with_items self.lanes lanes).items = sym (with_items_is self.lanes lanes (c.commit_landed-turn.auto.lanes ∙ c.as_mut_slice.ensures.len)) in
    let turn = c.commit_landed-turn.result in
    let trash : List VersionId = c.commit_landed-turn.new.trash.items in
    let rows = c.land-landing.new.flights.items in
    let rest : List Flying = map flying_of rows in
    let row = c.land-landing.ensures.lands in
    leaves_turned {D = T} D.tells D.files (numbers_of self) (numbers_at site c.commit_landed-turn.new.drawn) (self.site.turns + 1) (holding_of self) (kept_with (holding_of self) rest trash)
    self.lanes.items c.as_mut_slice.result.now (with_items self.lanes lanes).items lanes turn.stub (ShowsTrash deed turn.answer self.trash.items trash)
    (MayCommitData deed (kept_with (holding_of self) rest trash)) c.as_mut_slice.ensures.value is
    (c.commit_landed-turn.ensures.leaves (holding_of self) rest
    (subst (λ (l : Landing). Lands (put_of l) (map flying_of self.flights.items) rest) c.in-Ended.is
    (lands_row c.args.flight c.land-landing.result self.flights.items rows self.flights_differ row))
    (subst (λ (l : Landing). FitsLanding deed l) c.in-Ended.is (fits_landing deed c.args.flight c.land-landing.result self.flights.items rows fits row)) refl)

pub returns-clause-cause : goal.returns-clause-cause
returns-clause-cause g c =
    let T : Type 0 = g.row.D.Denot in
    let D = g.D.Drive in
    let self = c.args.self.now in
    let site : Site = self.site in
    let lanes : List T = c.commit_landed-turn.new.lanes in
    let is : lanes ≡ (with_items self.lanes lanes).items = sym (with_items_is self.lanes lanes (c.commit_landed-turn.auto.lanes ∙ c.as_mut_slice.ensures.len)) in
    commit_turned {D = T} D (numbers_of self) (numbers_at site c.commit_landed-turn.new.drawn) (self.site.turns + 1) c.args.deed.now (flight_put c.args.flight)
    c.in-Ended.put c.args.now c.commit_landed-turn.result.answer (deed_in (entry_of c.commit_landed-turn.result.stub)) self.lanes.items c.as_mut_slice.result.now (with_items self.lanes lanes).items lanes c.args.disks.now
    c.commit_landed-turn.new.disks (sym (ap handed c.in-Ended.is)
    ∙ handed_flight c.args.flight c.land-landing.result self.flights.items c.land-landing.new.flights.items c.land-landing.ensures.lands)
    c.as_mut_slice.ensures.value is c.commit_landed-turn.ensures.cause

pub returns-clause-lanes : goal.returns-clause-lanes
returns-clause-lanes g c =
    let T : Type 0 = g.row.D.Denot in
    let D = g.D.Drive in
    let self = c.args.self.now in
    let lanes : List T = c.commit_landed-turn.new.lanes in
    let is : lanes ≡ (with_items self.lanes lanes).items = sym (with_items_is self.lanes lanes (c.commit_landed-turn.auto.lanes ∙ c.as_mut_slice.ensures.len)) in
    on_lanes (λ (old new : List T). AllGoOn (views D old) (views D new)) c.as_mut_slice.result.now self.lanes.items lanes _
    c.as_mut_slice.ensures.value is c.commit_landed-turn.ensures.lanes
