use Rattle.std.proofs.Common.{ℕ, List, Ok, Err, subst, sym, refl, arith}
use Rattle.call_types.specs.declared.why.Whys.{Whys}
use Rattle.drive_base.specs.Plan.{write_drives}
use Rattle.drive_base.specs.declared.plan.SetPlan.{SetPlan}
use Rattle.register_core.specs.LaneWrites.{KeepsDrives}
use Rattle.register_core.specs.OnLanes.{AreLanes}
use Rattle.register_core.specs.Records.{base_of, next_of}
use Rattle.register_core.specs.declared.faults.QuorumFault.{QuorumFault}
use Rattle.register_caller.specs.BothWrites.{BothLeave}
use Rattle.slot_rules.specs.Deeds.{name_of}
use Rattle.slot_rules.specs.declared.site.Drawn.{Drawn}
use Rattle.slot_core.specs.Settlement.{numbers_at}
use Rattle.slot_core.proofs.CarryLemmas.{begun_leaves, done_leaves}
use Rattle.slot_core.proofs.LaneLemmas.{have_after_write}
use Rattle.slot_core.proofs.OwnWriteLemmas.{OwnLaws, own_begun, own_calm, own_done}
use Rattle.slot_core.proofs.WritingLemmas.{IsWriting, Writing, owned, owned_may}
use Rattle.slot_core.proofs.commit_write.write_own.Goals as goal

pub returns-in-Ok-clause-leaves : goal.returns-in-Ok-clause-leaves
returns-in-Ok-clause-leaves g c deed put now last base content next holding rest records state low told is gone s known lands fits was =
    let T : Type 0 = g.row.D.Denot in
    let D = g.D.Drive in
    let site = c.args.site.now in
    let mid : Drawn = c.args.drawn.now in
    let later : Drawn = record { seq = c.args.own.seq; count = c.write_both.new.count } in
    let called : List ℕ = name_of deed in
    let new : List T = c.write_both.new.lanes in
    let wrote = c.in-Ok.ensures.wrote base next (records called) is.«of» s.have.tell s.have.unused
    (subst (λ (n : List ℕ). AreLanes {D = T} D.files site.set.out n c.args.lanes.now (records called)) (sym is.name_is) (s.have.are called)) in
    let w : Writing = record {
      site = site;
      mid = mid;
      later = later;
      own = c.args.own;
      tale = c.args.tale;
      deed = deed;
      put = put;
      now = now;
      last = last;
      base = base;
      content = content;
      next = next;
      late = c.args.late;
      holding = holding;
      rest = rest;
      records = records;
      state = state;
      after = wrote.after;
      gone = c.args.gone.now;
    } in
    let iw : IsWriting w = record {
      seq = refl;
      low = low;
      is = is;
      tale_is = told;
      gone_is = gone;
      stands = s.stands;
      known = known;
      lands = lands;
      fits = fits;
      stay = wrote.stay;
    } in
    let laws : OwnLaws = record {
      above = c.fresh_laws.ensures.above;
      fresh = c.own_laws.ensures.fresh;
      stands = c.own_laws.ensures.stands;
      waits = c.own_data_laws.ensures.waits;
      makes = c.own_data_laws.ensures.makes;
    } in
    let have = have_after_write {D = T} D (numbers_at site mid) later.seq later.count called c.args.lanes.now new records wrote.after
    (omega (arith, c.write_both.auto.lanes)) s.have wrote.tell wrote.unused
    (subst (λ (n : List ℕ). AreLanes {D = T} D.files site.set.out n new wrote.after) is.name_is wrote.are)
    (subst (λ (n : List ℕ). KeepsDrives {D = T} D site.set.out n site.term mid.count later.count c.args.lanes.now new) is.name_is
    (c.in-Ok.ensures.drives s.have.tell s.have.unused)) in
    let both : BothLeave {T = Whys} {E = QuorumFault} (write_drives site.set.drives site.set.parity) c.args.own.draft.letters (base_of base) (next_of next) (Ok c.in-Ok.field-0)
    (records called) wrote.after =
    subst (λ (p : SetPlan). BothLeave {T = Whys} {E = QuorumFault} (write_drives p.drives p.parity) c.args.own.draft.letters (base_of base) (next_of next) (Ok c.in-Ok.field-0)
    (records called) wrote.after) c.requires.fits.set_is wrote.leaves in
    let made = own_done {T = Whys} {E = QuorumFault} laws (owned w iw) (owned_may w iw) c.in-Ok.field-0 both in
    done_leaves {D = T} D.tells D.files c.own_data_laws.ensures.gone w iw c.args.trash.now.items c.add_gone.new.trash.items new c.requires.served was c.add_gone.ensures.items have
    made (own_calm {T = Whys} {E = QuorumFault} laws (owned w iw) (owned_may w iw) c.in-Ok.field-0 both made.is_new)

pub returns-clause-leaves : goal.returns-clause-leaves
returns-clause-leaves g c deed put now last base content next holding rest records state low told is gone s known lands fits was =
    let T : Type 0 = g.row.D.Denot in
    let D = g.D.Drive in
    let site = c.args.site.now in
    let mid : Drawn = c.args.drawn.now in
    let later : Drawn = record { seq = c.args.own.seq; count = c.write_both.new.count } in
    let called : List ℕ = name_of deed in
    let new : List T = c.write_both.new.lanes in
    let wrote = c.in-Err.ensures.wrote base next (records called) is.«of» s.have.tell s.have.unused
    (subst (λ (n : List ℕ). AreLanes {D = T} D.files site.set.out n c.args.lanes.now (records called)) (sym is.name_is) (s.have.are called)) in
    let w : Writing = record {
      site = site;
      mid = mid;
      later = later;
      own = c.args.own;
      tale = c.args.tale;
      deed = deed;
      put = put;
      now = now;
      last = last;
      base = base;
      content = content;
      next = next;
      late = c.args.late;
      holding = holding;
      rest = rest;
      records = records;
      state = state;
      after = wrote.after;
      gone = c.args.gone.now;
    } in
    let iw : IsWriting w = record {
      seq = refl;
      low = low;
      is = is;
      tale_is = told;
      gone_is = gone;
      stands = s.stands;
      known = known;
      lands = lands;
      fits = fits;
      stay = wrote.stay;
    } in
    let laws : OwnLaws = record {
      above = c.fresh_laws.ensures.above;
      fresh = c.own_laws.ensures.fresh;
      stands = c.own_laws.ensures.stands;
      waits = c.own_data_laws.ensures.waits;
      makes = c.own_data_laws.ensures.makes;
    } in
    let have = have_after_write {D = T} D (numbers_at site mid) later.seq later.count called c.args.lanes.now new records wrote.after
    (omega (arith, c.write_both.auto.lanes)) s.have wrote.tell wrote.unused
    (subst (λ (n : List ℕ). AreLanes {D = T} D.files site.set.out n new wrote.after) is.name_is wrote.are)
    (subst (λ (n : List ℕ). KeepsDrives {D = T} D site.set.out n site.term mid.count later.count c.args.lanes.now new) is.name_is
    (c.in-Err.ensures.drives s.have.tell s.have.unused)) in
    let both : BothLeave {T = Whys} {E = QuorumFault} (write_drives site.set.drives site.set.parity) c.args.own.draft.letters (base_of base) (next_of next) (Err c.in-Err.fault)
    (records called) wrote.after =
    subst (λ (p : SetPlan). BothLeave {T = Whys} {E = QuorumFault} (write_drives p.drives p.parity) c.args.own.draft.letters (base_of base) (next_of next) (Err c.in-Err.fault)
    (records called) wrote.after) c.requires.fits.set_is wrote.leaves in
    begun_leaves {D = T} D.tells D.files c.own_laws.ensures.late w iw c.in-Err.fault c.args.trash.now.items c.args.trash.now.items new was refl have
    (own_begun {T = Whys} {E = QuorumFault} laws (owned w iw) (owned_may w iw) c.in-Err.fault both)
